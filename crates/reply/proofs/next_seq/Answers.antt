-- The remainder at 2 ^ 32 is the test of `next_seq`. Assumes nothing.
use mathlib.Core.Path.{◌≡◌, refl}
use mathlib.Core.Bool.{Bool, true, false, cond}
use Prim.Native.Nat.{ℕ, ◌+◌, ◌%◌, ◌^◌, ◌<◌}
use native.Mathlib.Omega.{arith}
use lib.Dec.{eqb}
use borrow.Author.Tests.{eqb-true, eqb-false}
use Rattle.kvmi.specs.Model.{next_seq}
use Rattle.reply.proofs.next_seq.Goals as goal

wraps : (n : ℕ) → n < 2 ^ 32 → (n + 1) % 2 ^ 32 ≡ next_seq n
unfolding next_seq
wraps n h = go (eqb n 4294967295) refl
  where
    go : (t : Bool) → eqb n 4294967295 ≡ t → (n + 1) % 2 ^ 32 ≡ cond (eqb n 4294967295) 0 (n + 1)
    go true e = let last : n ≡ 4294967295 = eqb-true n 4294967295 e in rw e (omega arith)
    go false e = let below : n < 4294967295 = omega (arith, eqb-false n 4294967295 e) in rw e (omega arith)

pub returns : goal.returns
returns c = wraps c.args.seq c.ranges.seq.fits
