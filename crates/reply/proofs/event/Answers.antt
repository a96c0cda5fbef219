-- What stands before the state block, the block, and the event's own bytes. Assumes nothing.
use mathlib.Core.Path.{refl}
use mathlib.Core.List.{List}
use Prim.Native.Nat.{ℕ, ◌<◌}
use native.Mathlib.Omega.{arith}
use lib.ListN.{length}
use Rattle.kvmi.specs.Reply.{event_bytes}
use Rattle.reply.proofs.Lengths.{length-event}
use Rattle.reply.proofs.Laws.{event-there, unwritten}
use Rattle.reply.proofs.event.Goals as goal
use Rattle.reply.proofs.event.Goals.{else-more-out-via-then-more-out+else-n-out, else-more-out-via-else-more-out}

pub returns-then-n-out : goal.returns-then-n-out
returns-then-n-out c =
    let a = c.args in
    event-there a.out.now _ _ _ _ a.seq a.vcpu a.event a.state.now a.own.now c.put_event.ensures c.copy.ensures c.copy-then-n-out.ensures (omega arith) refl

pub returns-else-more-out : goal.returns-else-more-out
returns-else-more-out c =
    let a = c.args in
    let whole : List ℕ = event_bytes a.seq a.vcpu a.event a.state.now a.own.now in
    let long : length a.out.now < length whole =
    elim c.else-more-out.branch [
      | else-more-out-via-then-more-out+else-n-out w ↦ omega (arith, w.if-n-out.false, length-event a.seq a.vcpu a.event a.state.now a.own.now)
      | else-more-out-via-else-more-out w ↦ omega (arith, w.if-more-out.false, length-event a.seq a.vcpu a.event a.state.now a.own.now)
    ] in
    (unwritten a.out.now whole _ refl long).there
