-- The stores side by side are one. Assumes nothing.
use mathlib.Core.Path.{◌∙◌}
use native.Mathlib.Omega.{arith}
use Rattle.wire.proofs.Laws.{length-le}
use Rattle.kvmi.specs.Record.{VC}
use Rattle.reply.proofs.Laws.{placed, more}
use Rattle.image_record.proofs.Bytes.{vc-bytes, too_short}
use Rattle.image_record.proofs.vc.Goals as goal

pub returns-then-out-ge10 : goal.returns-then-out-ge10
returns-then-out-ge10 c =
    let a = c.args in
    let p1 = placed _ (length-le 2 _) c.store.ensures in
    let p2 = more _ p1 (length-le 2 _) c.store-then-out-ge10.ensures (omega (arith, c.if-out-ge10.true)) in
    let p3 = more _ p2 (length-le 1 _) c.store-then-out-ge10-2.ensures (omega (arith, c.if-out-ge10.true)) in
    let p4 = more _ p3 (length-le 1 _) c.store-then-out-ge10-3.ensures (omega (arith, c.if-out-ge10.true)) in
    let p5 = more _ p4 (length-le 2 _) c.store-then-out-ge10-4.ensures (omega (arith, c.if-out-ge10.true)) in
    let p6 = more _ p5 (length-le 1 _) c.store-then-out-ge10-5.ensures (omega (arith, c.if-out-ge10.true)) in
    let p7 = more _ p6 (length-le 1 _) c.store-then-out-ge10-6.ensures (omega (arith, c.if-out-ge10.true)) in
    p7.there
    ∙ rw (vc-bytes a.i a.ready a.words.now _ _ _ _ _ _ c.is_on-is_ready.ensures c.read_field-singlestep.ensures c.read_field-crs.ensures
    c.read_field-events.ensures c.read_field-pauses.ensures c.flags_of-flags.ensures)

pub returns-else-out-ge10 : goal.returns-else-out-ge10
returns-else-out-ge10 c = too_short _ VC _ c.if-out-ge10.false
