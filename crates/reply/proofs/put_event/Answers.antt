-- The stores side by side are one; an event's number and three zeros are four bytes. Assumes nothing.
use mathlib.Core.Path.{◌∙◌}
use native.Mathlib.Omega.{arith}
use Rattle.wire.proofs.Laws.{length-le}
use Rattle.reply.proofs.Laws.{placed, more, length-header, front_bytes}
use Rattle.reply.proofs.put_event.Goals as goal

pub returns : goal.returns
returns c =
    let a = c.args in
    let p1 = placed _ (length-header _ _ _) c.put_header.ensures in
    let p2 = more _ p1 (length-le 2 _) c.store.ensures (omega arith) in
    let p3 = more _ p2 (length-le 2 _) c.store-2.ensures (omega arith) in
    let p4 = more _ p3 (length-le 4 _) c.store-3.ensures (omega arith) in
    p4.there ∙ rw (front_bytes a.size a.seq a.vcpu a.event (omega arith))
