-- The parts of the event stand side by side. Assumes nothing.
use mathlib.Core.Path.{refl, sym}
use Prim.Native.Nat.{ℕ}
use native.Mathlib.Omega.{arith}
use lib.ListN.{length-replicate}
use mir.Facts.{to_z-of_z}
use Rattle.wire.proofs.Laws.{length-le}
use Rattle.kvmi.specs.Reply.{command_error_event}
use Rattle.reply.proofs.Lengths.{length-code, length-command-error}
use Rattle.reply.proofs.Laws.{placed, more, length_front, command-error-bytes, written, unwritten}
use Rattle.reply.proofs.put_command_error.Goals as goal

pub returns-then-out-ge568 : goal.returns-then-out-ge568
returns-then-out-ge568 c =
    let a = c.args in
    let p1 = placed _ (length_front _ _ _ _) c.put_event.ensures in
    let p2 = more _ p1 (length-replicate {A = ℕ} 536 0) c.fill.ensures (omega arith) in
    let p3 = more _ p2 (length-code _) c.store_code.ensures (omega arith) in
    let p4 = more _ p3 (length-le 4 _) c.store.ensures (omega arith) in
    let p5 = more _ p4 (length-le 8 _) c.store-then-out-ge568.ensures (omega arith) in
    written p5 (rw (to_z-of_z c.ranges.code) (command-error-bytes a.next a.code a.seq a.id (omega arith))) refl

pub returns-else-out-ge568 : goal.returns-else-out-ge568
returns-else-out-ge568 c =
    let a = c.args in
    unwritten a.out.now (command_error_event a.next a.code a.seq a.id) 568 (sym (length-command-error a.next a.code a.seq a.id)) (omega arith)
