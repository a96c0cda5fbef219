-- The stores side by side are one. Assumes nothing.
use mathlib.Core.Path.{◌∙◌}
use native.Mathlib.Omega.{arith}
use Rattle.wire.proofs.Laws.{length-le}
use Rattle.kvmi.specs.Record.{EN}
use Rattle.reply.proofs.Laws.{placed, more}
use Rattle.image_record.proofs.Bytes.{en-bytes, too_short}
use Rattle.image_record.proofs.en.Goals as goal

pub returns-then-out-ge6 : goal.returns-then-out-ge6
returns-then-out-ge6 c =
    let p1 = placed _ (length-le 2 _) c.store.ensures in
    let p2 = more _ p1 (length-le 4 _) c.store-then-out-ge6.ensures (omega arith) in
    p2.there ∙ rw (en-bytes c.args.count)

pub returns-else-out-ge6 : goal.returns-else-out-ge6
returns-else-out-ge6 c = too_short _ EN _ c.if-out-ge6.false
