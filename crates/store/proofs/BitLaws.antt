-- Laws of the bits of a word of 64. Assumes nothing.
use Rattle.std.proofs.Common.{◌≡◌, ℕ, suc, ◌+◌, ◌-◌, ◌*◌, ◌/◌, ◌%◌, ◌^◌, ◌<◌, Bool, true, false, sym, refl, ap, ◌∙◌, mod-lt, add-mul, pow-suc, arith, pow-add, shl_exact, shr_lt}
use native.Mathlib.Nat.{one-le-pow}
use lib.Arith.{digits_lt}
use lib.Pow.{split}
use mir.Val.{bool_byte}
use Rattle.kvmi.specs.Bits.{bit}

pub bit-small : (on : Bool) → bit on < 2
bit-small true = omega arith
bit-small false = omega arith

-- a bool as a number
pub bool-bit : (on : Bool) → bool_byte on ≡ bit on
bool-bit true = refl
bool-bit false = refl

-- a bit that is shifted up stays inside the word
pub shifted : (b k : ℕ) → b < 2 → k < 64 → b * 2 ^ k % 2 ^ 64 ≡ b * 2 ^ k
shifted b k h g = shl_exact 1 k 64 h (omega arith)

-- a word above its bit k, with another bit for its lowest
put-parts : (w k o : ℕ) → w - w / 2 ^ k % 2 * 2 ^ k + o * 2 ^ k ≡ (w / 2 ^ k / 2 * 2 + o) * 2 ^ k + w % 2 ^ k
put-parts w k o =
    let b = w / 2 ^ k % 2 in
    let q = w / 2 ^ k / 2 * 2 in
    let e : w / 2 ^ k ≡ q + b = omega arith in
    let f : w / 2 ^ k * 2 ^ k ≡ (q + b) * 2 ^ k = ap (λ (x : ℕ). x * 2 ^ k) e in
    omega (arith, f, add-mul q b (2 ^ k), add-mul q o (2 ^ k), split w k)

-- a word with a bit changed is a word
pub put-fits : (w k o : ℕ) → o < 2 → w < 2 ^ 64 → k < 64 → w - w / 2 ^ k % 2 * 2 ^ k + o * 2 ^ k < 2 ^ 64
put-fits w k o s h g =
    let whole : 64 - k + k ≡ 64 = omega arith in
    let even : 64 - k ≡ suc (63 - k) = omega arith in
    let top : w / 2 ^ k < 2 ^ (64 - k) = shr_lt (64 - k) k (rw whole h) in
    let twice : 2 ^ (64 - k) ≡ 2 ^ (63 - k) * 2 = rw even (pow-suc 2 (63 - k)) in
    let high : w / 2 ^ k / 2 * 2 + o < 2 ^ (64 - k) = omega arith in
    let two : 0 < 2 = omega arith in
    let low : w % 2 ^ k < 2 ^ k = mod-lt w (one-le-pow k 2 two) in
    let full : 2 ^ (64 - k) * 2 ^ k ≡ 2 ^ 64 = sym (pow-add 2 (64 - k) k) ∙ ap (λ (x : ℕ). 2 ^ x) whole in
    rw (put-parts, ← full) (digits_lt high low)
