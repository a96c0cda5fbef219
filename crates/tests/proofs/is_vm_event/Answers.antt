-- The test is the definition's. Assumes nothing.
use mathlib.Core.Bool.{or-false}
use Rattle.kvmi.specs.Message.{is_vm_event}
use Rattle.tests.proofs.is_vm_event.Goals as goal

pub returns : goal.returns
unfolding is_vm_event
returns c = simp (or-false)
