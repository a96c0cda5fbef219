-- The mark is not 0. Assumes nothing.
use mathlib.Core.Path.{refl}
use Rattle.lookup.specs.Lookup.{look_open}
use Rattle.lookup.proofs.is_open.Goals as goal

pub returns : goal.returns
unfolding look_open
returns c = refl
