-- Three stores side by side are one. The size is its remainder at 65,536. Assumes nothing.
use mathlib.Core.Path.{◌∙◌}
use native.Mathlib.Omega.{arith}
use Rattle.wire.proofs.Laws.{length-le}
use Rattle.reply.proofs.Laws.{placed, more, le_low}
use Rattle.reply.proofs.put_header.Goals as goal

pub returns : goal.returns
returns c =
    let p1 = placed _ (length-le 2 _) c.store.ensures in
    let p2 = more _ p1 (length-le 2 _) c.store-2.ensures (omega arith) in
    let p3 = more _ p2 (length-le 4 _) c.store-3.ensures (omega arith) in
    p3.there ∙ rw le_low
