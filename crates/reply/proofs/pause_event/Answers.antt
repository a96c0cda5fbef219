-- What stands before the state block, and the block. Assumes nothing.
use mathlib.Core.Path.{refl}
use native.Mathlib.Omega.{arith}
use Rattle.kvmi.specs.Reply.{pause_event}
use Rattle.reply.proofs.Lengths.{length-pause}
use Rattle.reply.proofs.Laws.{placed, more, length_front, pause-bytes, written, unwritten}
use Rattle.reply.proofs.pause_event.Goals as goal

pub returns-then-total-out : goal.returns-then-total-out
returns-then-total-out c =
    let a = c.args in
    let p1 = placed _ (length_front _ _ _ _) c.put_event.ensures in
    let p2 = more _ p1 refl c.copy.ensures (omega arith) in
    written p2 (pause-bytes _ a.seq a.vcpu a.state.now refl) (omega arith)

pub returns-else-total-out : goal.returns-else-total-out
returns-else-total-out c =
    let a = c.args in
    unwritten a.out.now (pause_event a.seq a.vcpu a.state.now) _ (omega (arith, length-pause a.seq a.vcpu a.state.now)) (omega arith)
