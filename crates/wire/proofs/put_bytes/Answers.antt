-- The test is that of `store`. Assumes nothing.
use mathlib.Core.Path.{sym}
use Prim.Native.Nat.{◌+◌, ◌≤◌, ◌<◌}
use native.Mathlib.Omega.{arith}
use lib.ListN.{length}
use Rattle.wire.proofs.Laws.{put_mid-store, store-past, test-passed, test-failed}
use Rattle.wire.proofs.put_bytes.Goals as goal

pub returns-then-inside : goal.returns-then-inside
returns-then-inside g c =
    let a = c.args in
    let h : a.at + length a.bytes ≤ length a.out.now = omega (arith, test-passed c.inside.ensures c.if-inside.true) in
    rw c.copy_from_slice.ensures.after (put_mid-store a.out.now a.bytes a.at _ h (omega arith))

pub returns-else-inside : goal.returns-else-inside
returns-else-inside g c =
    let a = c.args in
    let h : length a.out.now < a.at + length a.bytes = omega (arith, test-failed c.inside.ensures c.if-inside.false) in
    sym (store-past a.out.now a.at a.bytes h)
