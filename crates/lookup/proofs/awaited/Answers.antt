-- The field. Assumes nothing.
use Rattle.lookup.specs.Lookup.{look_awaited}
use Rattle.lookup.proofs.awaited.Goals as goal

pub returns : goal.returns
unfolding look_awaited
returns c = c.field.ensures
