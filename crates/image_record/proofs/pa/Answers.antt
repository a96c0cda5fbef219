-- The stores side by side are one. Assumes nothing.
use mathlib.Core.Path.{◌∙◌}
use native.Mathlib.Omega.{arith}
use Rattle.wire.proofs.Laws.{length-le}
use Rattle.kvmi.specs.Record.{PA}
use Rattle.reply.proofs.Laws.{placed, more}
use Rattle.image_record.proofs.Bytes.{pa-bytes, too_short}
use Rattle.image_record.proofs.pa.Goals as goal

pub returns-then-out-ge14 : goal.returns-then-out-ge14
returns-then-out-ge14 c =
    let p1 = placed _ (length-le 2 _) c.store.ensures in
    let p2 = more _ p1 (length-le 2 _) c.store-then-out-ge14.ensures (omega arith) in
    let p3 = more _ p2 (length-le 2 _) c.store-then-out-ge14-2.ensures (omega arith) in
    let p4 = more _ p3 (length-le 8 _) c.store-then-out-ge14-3.ensures (omega arith) in
    p4.there ∙ rw (pa-bytes c.args.w)

pub returns-else-out-ge14 : goal.returns-else-out-ge14
returns-else-out-ge14 c = too_short _ PA _ c.if-out-ge14.false
