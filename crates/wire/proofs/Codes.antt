-- Error codes: two's complement and negation in general, and at the codes 0, -22 and -1000. Assumes nothing.
use mathlib.Core.Path.{◌≡◌, refl, sym, ap, ◌∙◌}
use mathlib.Core.List.{[], ◌∷◌}
use mathlib.Core.Bool.{true, false}
use Prim.Native.Nat.{ℕ, zero, suc, ◌-◌, ◌^◌, ◌≤◌, ◌<◌}
use native.Mathlib.Omega.{arith}
use lib.IntN.{ℤ, pos, negsuc, neg_ℤ, nat_abs, ◌+ℤ◌}
use lib.Signed.{lt_z, le_z}
use mir.Syntax.{w32, w64}
use mir.Val.{SFits, of_z}
use borrow.Author.Tests.{ltb-true, le-ltb, leb-true, le-leb}
use Rattle.wire.specs.Bytes.{le}
use Rattle.wire.specs.Code.{negated, twos, code_bytes}

-- ---- two's complement

pub twos-fits : (e : ℤ) → SFits w32 e → twos e < 2 ^ 32
unfolding twos
twos-fits (pos n) f = omega (arith, f.sfits)
twos-fits (negsuc n) f = omega arith

-- a code that is not negative is its own, and a negative one is 2 ^ 32 below it
pub twos-same : (e : ℤ) → lt_z e (pos 0) ≡ false → e ≡ pos (twos e)
unfolding twos
twos-same (pos n) h = refl
twos-same (negsuc n) h = let z : ◌≡◌ {A = ℕ} 0 1 = cc in absurd (omega arith)

pub twos-negative : (e : ℤ) → lt_z e (pos 0) ≡ true → twos e ≡ 4294967296 - nat_abs e
unfolding twos
twos-negative (pos n) h = absurd (omega (arith, ltb-true n 0 h))
twos-negative (negsuc n) h = refl

-- a negative code with a number above it
pub sum-above : (e : ℤ) (k : ℕ) → SFits w32 e → 2147483648 ≤ k → lt_z e (pos 0) ≡ true → e +ℤ pos k ≡ pos (k - nat_abs e)
sum-above (pos n) k f h g = absurd (omega (arith, ltb-true n 0 g))
sum-above (negsuc n) k f h g = simp (le-ltb k (suc n) (omega (arith, f.sfits)))

pub twos-above : (e : ℤ) → SFits w32 e → lt_z e (pos 0) ≡ true → e +ℤ pos 4294967296 ≡ pos (twos e)
twos-above e f h = sum-above e 4294967296 f (omega arith) h ∙ ap pos (sym (twos-negative e h))

-- it is the bits in which a machine holds the code
pub twos-bits : (e : ℤ) → twos e ≡ of_z w32 e
unfolding twos
twos-bits (pos n) = refl
twos-bits (negsuc n) = refl

-- ---- negation

pub negated-pos : (n : ℕ) → negated (pos (suc n)) ≡ negsuc n
unfolding negated
negated-pos n = refl

pub negated-negsuc : (n : ℕ) → negated (negsuc n) ≡ pos (suc n)
unfolding negated
negated-negsuc n = refl

-- it is the negation of the integers
pub negated-minus : (e : ℤ) → negated e ≡ neg_ℤ e
unfolding negated
negated-minus (pos zero) = refl
negated-minus (pos (suc n)) = refl
negated-minus (negsuc n) = refl

-- an i32 fits 64 bits, and so does its negation
pub wider : (e : ℤ) → SFits w32 e → SFits w64 e
wider (pos n) f = record { sfits = omega (arith, f.sfits) }
wider (negsuc n) f = record { sfits = omega (arith, f.sfits) }

pub negated_fits : (e : ℤ) → SFits w32 e → SFits w64 (negated e)
unfolding negated
negated_fits (pos zero) f = record { sfits = omega arith }
negated_fits (pos (suc n)) f = record { sfits = omega (arith, f.sfits) }
negated_fits (negsuc n) f = record { sfits = omega (arith, f.sfits) }

-- a code zero or below is never negative once negated
pub negated-not-negative : (e : ℤ) → le_z e (pos 0) ≡ true → le_z (pos 0) (negated e) ≡ true
unfolding negated
negated-not-negative (pos zero) h = refl
negated-not-negative (pos (suc n)) h = absurd (omega (arith, leb-true (suc n) 0 h))
negated-not-negative (negsuc n) h = le-leb 0 (suc n) (omega arith)

-- ---- at 0, -22 and -1000

pub code-bytes :
    (code_bytes (pos 0) ≡ 0 ∷ 0 ∷ 0 ∷ 0 ∷ [])
    × (code_bytes (negsuc 21) ≡ 0xEA ∷ 0xFF ∷ 0xFF ∷ 0xFF ∷ [])
    × (code_bytes (negsuc 999) ≡ 0x18 ∷ 0xFC ∷ 0xFF ∷ 0xFF ∷ [])
unfolding code_bytes le
code-bytes = (refl, refl, refl)

pub code-numbers : (negated (pos 0) ≡ pos 0) × (negated (negsuc 21) ≡ pos 22) × (negated (negsuc 999) ≡ pos 1000)
unfolding negated
code-numbers = (refl, refl, refl)
