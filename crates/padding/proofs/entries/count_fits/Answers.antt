-- The test is the definition's. Assumes nothing.
use Rattle.kvmi.specs.Message.{count_fits, count_of}
use Rattle.padding.proofs.entries.count_fits.Goals as goal

pub returns : goal.returns
unfolding count_fits count_of
returns c = rw c.load.ensures
