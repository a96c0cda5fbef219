-- The field. Assumes nothing.
use Rattle.lookup.specs.Lookup.{look_pauses}
use Rattle.lookup.proofs.pauses.Goals as goal

pub returns : goal.returns
unfolding look_pauses
returns c = c.field.ensures
