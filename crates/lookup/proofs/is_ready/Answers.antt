-- The bit of the vCPU. Assumes nothing.
use mathlib.Core.Path.{ap}
use Rattle.kvmi.specs.Bits.{bit}
use Rattle.lookup.specs.Lookup.{look_ready}
use Rattle.lookup.proofs.is_ready.Goals as goal

pub returns : goal.returns
unfolding look_ready
returns c = ap bit c.is_on.ensures
