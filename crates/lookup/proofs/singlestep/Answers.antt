-- The field is not 0. Assumes nothing.
use Rattle.kvmi.specs.Settings.{is_set}
use Rattle.lookup.specs.Lookup.{look_singlestep}
use Rattle.lookup.proofs.singlestep.Goals as goal

pub returns : goal.returns
unfolding look_singlestep is_set
returns c = rw c.field-flag.ensures
