-- The stores side by side are one. Assumes nothing.
use mathlib.Core.Path.{◌∙◌}
use native.Mathlib.Omega.{arith}
use Rattle.wire.proofs.Laws.{length-le}
use Rattle.kvmi.specs.Record.{VM}
use Rattle.reply.proofs.Laws.{placed, more}
use Rattle.image_record.proofs.Bytes.{vm-bytes, too_short}
use Rattle.image_record.proofs.vm.Goals as goal

pub returns-then-out-ge8 : goal.returns-then-out-ge8
returns-then-out-ge8 c =
    let p1 = placed _ (length-le 2 _) c.store.ensures in
    let p2 = more _ p1 (length-le 2 _) c.store-then-out-ge8.ensures (omega arith) in
    let p3 = more _ p2 (length-le 2 _) c.store-then-out-ge8-2.ensures (omega arith) in
    let p4 = more _ p3 (length-le 2 _) c.store-then-out-ge8-3.ensures (omega arith) in
    p4.there ∙ rw (vm-bytes c.args.n c.args.events)

pub returns-else-out-ge8 : goal.returns-else-out-ge8
returns-else-out-ge8 c = too_short _ VM _ c.if-out-ge8.false
