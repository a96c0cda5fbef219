-- The invariant: the turns that are left give the batch's end. The measure is how many bytes of the input are left. Assumes nothing.
use mathlib.Core.Path.{◌≡◌}
use Prim.Native.Nat.{◌-◌}
use lib.ListN.{length}
use Rattle.session.specs.State.{state}
use Rattle.batch.specs.Batch.{message_takes, batch_of, batched}
use Rattle.batch.proofs.Turns.{Rest}
use Rattle.batch.proofs.take.Given as goal

abbrev pub invariant-loop-vcpus : goal.invariant-loop-vcpus
invariant-loop-vcpus l =
    Rest message_takes l.input (batched l.b l.vcpus l.pages l.out l.signals l.guest) (batch_of (state l.initial.b.session l.initial.vcpus l.initial.pages) l.input l.initial.out l.initial.signals l.initial.guest)
    × (length l.out ≡ length l.initial.out) × (length l.signals ≡ length l.initial.signals) × (length l.guest ≡ length l.initial.guest)

abbrev pub decreases-loop-vcpus : goal.decreases-loop-vcpus
decreases-loop-vcpus l = length l.input - l.b.used
