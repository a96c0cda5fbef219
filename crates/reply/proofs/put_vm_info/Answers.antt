-- The count and four zeros are eight bytes. Assumes nothing.
use mathlib.Core.Path.{◌∙◌}
use native.Mathlib.Omega.{arith}
use Rattle.wire.proofs.Laws.{length-le}
use Rattle.reply.proofs.Laws.{placed, more, vm-info-bytes}
use Rattle.reply.proofs.put_vm_info.Goals as goal

pub returns : goal.returns
returns c =
    let p1 = placed _ (length-le 8 _) c.store.ensures in
    let p2 = more _ p1 (length-le 8 _) c.store-2.ensures (omega arith) in
    p2.there ∙ rw (vm-info-bytes c.args.settings (omega arith))
