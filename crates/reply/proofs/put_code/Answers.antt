-- Header, code and padding stand side by side. Assumes nothing.
use mathlib.Core.List.{[]}
use mathlib.Core.Path.{refl}
use native.Mathlib.Omega.{arith}
use mir.Facts.{to_z-of_z}
use Rattle.wire.proofs.Laws.{length-le}
use Rattle.kvmi.specs.Reply.{reply_bytes}
use Rattle.reply.proofs.Lengths.{length-code}
use Rattle.reply.proofs.Laws.{placed, more, length-header, code-bytes, code-count, written, unwritten}
use Rattle.reply.proofs.put_code.Goals as goal

pub returns-then-out-ge16 : goal.returns-then-out-ge16
returns-then-out-ge16 c =
    let a = c.args in
    let p1 = placed _ (length-header _ _ _) c.put_header.ensures in
    let p2 = more _ p1 (length-code _) c.store_code.ensures (omega arith) in
    let p3 = more _ p2 (length-le 4 0) c.store.ensures (omega arith) in
    written {bytes = reply_bytes a.id a.seq a.code []} p3 (rw (to_z-of_z c.ranges.code) (code-bytes a.id a.seq a.code)) refl

pub returns-else-out-ge16 : goal.returns-else-out-ge16
returns-else-out-ge16 c =
    let a = c.args in
    unwritten a.out.now (reply_bytes a.id a.seq a.code []) 16 (code-count a.id a.seq a.code) (omega arith)
