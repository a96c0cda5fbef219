-- The size that the image writer promises. Assumes nothing.
use Rattle.calls.specs.Given.{size_given}
use Rattle.calls.proofs.image_size.Goals as goal

pub returns : goal.returns
unfolding size_given
returns c = c.image_size.ensures
