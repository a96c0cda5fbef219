-- The records in front of the MS records side by side, and those behind them. Assumes nothing.
use native.Mathlib.Omega.{arith}
use Rattle.kvmi.specs.Record.{EN}
use Rattle.laws.proofs.Record.{length-write}
use Rattle.image_msrs.proofs.Stores.{part-written}
use Rattle.image_bytes.proofs.Written.{frame-written}
use Rattle.image_bytes.proofs.put_frame.Goals as goal

pub returns : goal.returns
returns c =
    let a = c.args in
    frame-written a.events a.ready a.n a.on a.used a.vcpus.now a.pages.now (omega arith) _ _ _ _ _ (omega arith)
    c.vm.ensures
    c.put_vcpus.ensures
    c.put_pages.ensures
    (part-written _ _ 6 _ _ c.en.ensures (length-write EN _) (omega arith))
