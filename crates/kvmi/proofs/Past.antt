-- Bits past the end of a word. Assumes nothing.
use mathlib.Core.Path.{◌≡◌}
use mathlib.Core.Bool.{false}
use Prim.Native.Nat.{ℕ, ◌^◌, ◌≤◌, ◌<◌}
use native.Mathlib.Nat.{le_trans, div-eq_of_lt, pow-le-pow_right}
use native.Mathlib.Omega.{arith}
use Rattle.kvmi.specs.Bits.{is_on, bit_of}

-- a word has no bit from 64 on
pub off-past : (w k : ℕ) → w < 2 ^ 64 → 64 ≤ k → is_on w k ≡ false
unfolding is_on bit_of
off-past w k h g =
    let two : 0 < 2 = omega arith in
    let p : 2 ^ 64 ≤ 2 ^ k = pow-le-pow_right two g in
    rw (div-eq_of_lt (le_trans h p))
