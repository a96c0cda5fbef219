-- The stores side by side are one. Assumes nothing.
use mathlib.Core.Path.{◌∙◌}
use native.Mathlib.Omega.{arith}
use Rattle.wire.proofs.Laws.{length-le}
use Rattle.kvmi.specs.Record.{MS}
use Rattle.reply.proofs.Laws.{placed, more}
use Rattle.image_record.proofs.Bytes.{ms-bytes, too_short}
use Rattle.image_record.proofs.ms.Goals as goal

pub returns-then-out-ge8 : goal.returns-then-out-ge8
returns-then-out-ge8 c =
    let p1 = placed _ (length-le 2 _) c.store.ensures in
    let p2 = more _ p1 (length-le 2 _) c.store-then-out-ge8.ensures (omega arith) in
    let p3 = more _ p2 (length-le 4 _) c.store-then-out-ge8-2.ensures (omega arith) in
    p3.there ∙ rw (ms-bytes c.args.vcpu c.args.msr)

pub returns-else-out-ge8 : goal.returns-else-out-ge8
returns-else-out-ge8 c = too_short _ MS _ c.if-out-ge8.false
