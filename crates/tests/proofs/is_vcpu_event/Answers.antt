-- The test is the definition's. Assumes nothing.
use mathlib.Core.Bool.{or_assoc, or-false}
use Rattle.kvmi.specs.Message.{is_vcpu_event}
use Rattle.tests.proofs.is_vcpu_event.Goals as goal

pub returns : goal.returns
unfolding is_vcpu_event
returns c = simp (or_assoc, or-false)
