-- The stores side by side are one; the last feature and three zeros are four bytes. Assumes nothing.
use mathlib.Core.Path.{◌∙◌}
use native.Mathlib.Omega.{arith}
use Rattle.wire.proofs.Laws.{length-le}
use Rattle.reply.proofs.Laws.{placed, more, version-bytes}
use Rattle.reply.proofs.put_version.Goals as goal

pub returns : goal.returns
returns c =
    let p1 = placed _ (length-le 8 _) c.store.ensures in
    let p2 = more _ p1 (length-le 1 _) c.store-2.ensures (omega arith) in
    let p3 = more _ p2 (length-le 1 _) c.store-3.ensures (omega arith) in
    let p4 = more _ p3 (length-le 1 _) c.store-4.ensures (omega arith) in
    let p5 = more _ p4 (length-le 1 _) c.store-5.ensures (omega arith) in
    let p6 = more _ p5 (length-le 4 _) c.store-6.ensures (omega arith) in
    p6.there ∙ rw (version-bytes c.args.settings (omega arith) (omega arith) (omega arith) (omega arith) (omega arith) (omega arith))
