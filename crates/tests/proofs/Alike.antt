-- Tests that say the same. Assumes nothing.
use mathlib.Core.Path.{◌≡◌}
use mathlib.Core.Bool.{false}
use Prim.Native.Nat.{ℕ, ◌^◌, ◌≤◌, ◌<◌}
use native.Mathlib.Nat.{div-eq_of_lt, lt_of_lt_of_le}
use lib.Dec.{leb, eqb}
use lib.Pow.{pow_mono}
use borrow.Author.Tests.{le-leb, eq-eqb, leb-true, eqb-true}
use Rattle.kvmi.specs.Bits.{bit_of, is_on}
use Rattle.laws.proofs.Bool.{same_test}

pub leb-alike : (a b c d : ℕ) → (a ≤ b → c ≤ d) → (c ≤ d → a ≤ b) → leb a b ≡ leb c d
leb-alike a b c d f g = same_test (leb a b) (leb c d) (λ h. le-leb c d (f (leb-true a b h))) (λ h. le-leb a b (g (leb-true c d h)))

pub eqb-alike : (a b c d : ℕ) → (a ≡ b → c ≡ d) → (c ≡ d → a ≡ b) → eqb a b ≡ eqb c d
eqb-alike a b c d f g = same_test (eqb a b) (eqb c d) (λ h. eq-eqb c d (f (eqb-true a b h))) (λ h. eq-eqb a b (g (eqb-true c d h)))

-- a number of 32 bits has none past them
pub on-past : (w k : ℕ) → w < 2 ^ 32 → 32 ≤ k → is_on w k ≡ false
unfolding is_on bit_of
on-past w k h g = let small : w < 2 ^ k = lt_of_lt_of_le h (pow_mono g) in rw (div-eq_of_lt small)
