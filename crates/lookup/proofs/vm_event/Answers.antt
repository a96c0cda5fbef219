-- The bit of the event. Assumes nothing.
use mathlib.Core.Path.{ap}
use Rattle.kvmi.specs.Bits.{bit}
use Rattle.lookup.specs.Lookup.{look_vm_event}
use Rattle.lookup.proofs.vm_event.Goals as goal

pub returns : goal.returns
unfolding look_vm_event
returns c = ap bit c.is_on.ensures
