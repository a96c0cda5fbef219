-- Inside, or past the end. Assumes nothing.
use mathlib.Core.Path.{sym}
use native.Mathlib.Omega.{arith}
use Rattle.wire.proofs.Laws.{put_mid-store, store-past, test-passed, test-failed}
use Rattle.wire.proofs.copy.Goals as goal

pub returns-else-n-le1024 : goal.returns-else-n-le1024
returns-else-n-le1024 c =
    rw c.copy_from_slice.ensures.after (put_mid-store _ _ _ _ (test-passed c.inside.ensures c.if-inside.true) (omega arith))

pub returns-else-inside : goal.returns-else-inside
returns-else-inside c = sym (store-past _ _ _ (test-failed c.inside.ensures c.if-inside.false))

pub copy_short-requires : goal.copy_short-requires
copy_short-requires c = test-passed c.inside.ensures c.if-inside.true
