-- The test is the definition's. Assumes nothing.
use mathlib.Core.Path.{refl}
use Rattle.kvmi.specs.Settings.{is_set}
use Rattle.tests.proofs.is_set.Goals as goal

pub returns : goal.returns
unfolding is_set
returns c = refl
