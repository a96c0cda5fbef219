-- Sets of small numbers as bits, bit by bit from the lowest. Assumes nothing.
use mathlib.Core.Path.{◌≡◌, refl, sym, ap, ◌∙◌}
use mathlib.Core.Logic.{◌≢◌}
use Prim.Native.Nat.{ℕ, zero, suc, ◌+◌, ◌*◌, ◌/◌, ◌%◌, ◌^◌, ◌≤◌, ◌<◌}
use native.Mathlib.Nat.{pow-suc, pow-succ', mul_assoc, div-one, div-div-eq-div-mul, one-le-pow, zero-lt-suc, not-suc-le-zero, add-suc, suc-add, add-zero, zero-add}
use native.Mathlib.Omega.{arith}
use mathlib.Core.Bool.{Bool, true, false, ◌&&◌, ◌||◌, So}
use lib.Dec.{eqb}
use borrow.Author.Tests.{eqb-true, eqb-false, eq-eqb}
use Rattle.kvmi.specs.Bits.{bit, bit_of, is_on, put_bit, bits_have}
use Rattle.laws.proofs.Bool.{and_l, and_r, and_i, or_l, or_r, either, test, clash}

-- ---- a bit
pub bit-zero : (w : ℕ) → bit_of w 0 ≡ w % 2
unfolding bit_of
bit-zero w = rw div-one

pub bit-suc : (w k : ℕ) → bit_of w (suc k) ≡ bit_of (w / 2) k
unfolding bit_of
bit-suc w k = rw (pow-succ', ← div-div-eq-div-mul)

pub bit_below : (w k : ℕ) → bit_of w k < 2
unfolding bit_of
bit_below w k = omega arith

pub bit_le : (w k : ℕ) → bit_of w k * 2 ^ k ≤ w
bit_le w zero = rw bit-zero (omega arith)
bit_le w (suc k) = rw (bit-suc, pow-suc, ← mul_assoc) (omega (arith, bit_le (w / 2) k))

-- a number below 2 is the bit of its test
pub bit-back : (x : ℕ) → x < 2 → bit (eqb x 1) ≡ x
bit-back zero h = refl
bit-back (suc zero) h = refl
bit-back (suc (suc x)) h = absurd (omega arith)

pub bit-small : (b : Bool) → bit b ≤ 1
bit-small true = omega arith
bit-small false = omega arith

pub bit-eqb : (b : Bool) → eqb (bit b) 1 ≡ b
bit-eqb true = refl
bit-eqb false = refl

-- ---- a switch
pub on-zero : (w : ℕ) → is_on w 0 ≡ eqb (w % 2) 1
unfolding is_on
on-zero w = rw bit-zero

pub on-suc : (w k : ℕ) → is_on w (suc k) ≡ is_on (w / 2) k
unfolding is_on
on-suc w k = rw bit-suc

pub on_none : (k : ℕ) → is_on 0 k ≡ false
on_none zero = on-zero 0
on_none (suc k) = on-suc 0 k ∙ on_none k

-- ---- a switch set
pub put-zero : (w : ℕ) (on : Bool) → put_bit w 0 on ≡ w / 2 * 2 + bit on
unfolding put_bit
put-zero w on = rw bit-zero (omega arith)

pub put-suc : (w k : ℕ) (on : Bool) → put_bit w (suc k) on ≡ put_bit (w / 2) k on * 2 + w % 2
unfolding put_bit
put-suc w k on = rw (bit-suc, pow-suc, ← mul_assoc, ← mul_assoc) (omega (arith, bit_le (w / 2) k))

-- the two parts of a number with its lowest bit behind it
odd : (x b : ℕ) → b < 2 → (x * 2 + b) % 2 ≡ b
odd x b h = omega arith

half : (x b : ℕ) → b < 2 → (x * 2 + b) / 2 ≡ x
half x b h = omega arith

zero-odd : (w : ℕ) (on : Bool) → put_bit w 0 on % 2 ≡ bit on
zero-odd w on = rw put-zero (odd (w / 2) (bit on) (omega (arith, bit-small on)))

zero-half : (w : ℕ) (on : Bool) → put_bit w 0 on / 2 ≡ w / 2
zero-half w on = rw put-zero (half (w / 2) (bit on) (omega (arith, bit-small on)))

suc-odd : (w k : ℕ) (on : Bool) → put_bit w (suc k) on % 2 ≡ w % 2
suc-odd w k on = rw put-suc (odd (put_bit (w / 2) k on) (w % 2) (omega arith))

suc-half : (w k : ℕ) (on : Bool) → put_bit w (suc k) on / 2 ≡ put_bit (w / 2) k on
suc-half w k on = rw put-suc (half (put_bit (w / 2) k on) (w % 2) (omega arith))

pub on-put : (w k : ℕ) (on : Bool) → is_on (put_bit w k on) k ≡ on
on-put w zero on = rw (on-zero, zero-odd) (bit-eqb on)
on-put w (suc k) on = rw (on-suc, suc-half) (on-put (w / 2) k on)

pub on-put-other : (w k j : ℕ) (on : Bool) → j ≢ k → is_on (put_bit w k on) j ≡ is_on w j
on-put-other w zero zero on d = absurd (d refl)
on-put-other w zero (suc j) on d = rw (on-suc, on-suc, zero-half)
on-put-other w (suc k) zero on d = rw (on-zero, on-zero, suc-odd)
on-put-other w (suc k) (suc j) on d = rw (on-suc, on-suc, suc-half) (on-put-other (w / 2) k j on (omega arith))

pub put-below : (n w k : ℕ) (on : Bool) → w < 2 ^ n → k < n → put_bit w k on < 2 ^ n
put-below zero w k on h g = absurd (not-suc-le-zero g)
put-below (suc n) w zero on h g = rw (put-zero, pow-suc) (omega (arith, bit-small on, rw pow-suc at h))
put-below (suc n) w (suc k) on h g =
    let s : w < 2 ^ n * 2 = rw pow-suc at h in
    rw (put-suc, pow-suc) (omega (arith, put-below n (w / 2) k on (omega arith) (omega arith)))

-- set to what it is
pub put_same : (w k : ℕ) → put_bit w k (is_on w k) ≡ w
unfolding put_bit is_on
put_same w k = rw (bit-back (bit_of w k) (bit_below w k)) (omega (arith, bit_le w k))

pub put-none : (k : ℕ) → put_bit 0 k false ≡ 0
put-none k = rw (← on_none k) (put_same 0 k)

-- ---- what holds of each switch that is on
bits-low : (f : ℕ → Bool) (i n w : ℕ) → So (bits_have f i (suc n) w) → So (eqb (w % 2) 0 || f i)
unfolding bits_have
bits-low f i n w = and_l (eqb (w % 2) 0 || f i) (bits_have f (suc i) n (w / 2))

bits-high : (f : ℕ → Bool) (i n w : ℕ) → So (bits_have f i (suc n) w) → So (bits_have f (suc i) n (w / 2))
unfolding bits_have
bits-high f i n w = and_r (eqb (w % 2) 0 || f i) (bits_have f (suc i) n (w / 2))

pub bits_small : (f : ℕ → Bool) (i n w : ℕ) → So (bits_have f i n w) → w < 2 ^ n
unfolding bits_have
bits_small f i zero w h = omega (arith, eqb-true w 0 h)
bits_small f i (suc n) w h = rw pow-suc (omega (arith, bits_small f (suc i) n (w / 2) (bits-high f i n w h)))

-- each switch that is on, counted from i
pub bits-from : (f : ℕ → Bool) (i n w k : ℕ) → So (bits_have f i n w) → is_on w k ≡ true → So (f (i + k))
unfolding bits_have
bits-from f i zero w k h e = clash e (rw (eqb-true w 0 h) (on_none k))
bits-from f i (suc n) w zero h e =
    let one = eqb-true (w % 2) 1 (sym (on-zero w) ∙ e) in
    rw add-zero (either (eqb (w % 2) 0) (f i) (bits-low f i n w h) (λ z. absurd (omega (arith, eqb-true (w % 2) 0 z))) (λ q. q))
bits-from f i (suc n) w (suc k) h e = rw (add-suc, ← suc-add) (bits-from f (suc i) n (w / 2) k (bits-high f i n w h) (sym (on-suc w k) ∙ e))

-- the other way round
pub bits-all : (f : ℕ → Bool) (i n w : ℕ) → w < 2 ^ n → ((k : ℕ) → is_on w k ≡ true → So (f (i + k))) → So (bits_have f i n w)
unfolding bits_have
bits-all f i zero w h q = eq-eqb w 0 (omega arith)
bits-all f i (suc n) w h q =
    and_i (eqb (w % 2) 0 || f i) (bits_have f (suc i) n (w / 2)) (test (eqb (w % 2) 0) (or_l _ _) low)
    (bits-all f (suc i) n (w / 2) (omega (arith, rw pow-suc at h)) (λ k e. rw (suc-add, ← add-suc) (q (suc k) (on-suc w k ∙ e))))
  where
    low : eqb (w % 2) 0 ≡ false → So (eqb (w % 2) 0 || f i)
    low z = or_r (eqb (w % 2) 0) (f i) (rw add-zero at (q 0 (on-zero w ∙ eq-eqb (w % 2) 1 (omega (arith, eqb-false (w % 2) 0 z)))))

pub bits_at : (f : ℕ → Bool) (n w k : ℕ) → So (bits_have f 0 n w) → is_on w k ≡ true → So (f k)
bits_at f n w k h e = rw zero-add at (bits-from f 0 n w k h e)

pub bits-imp : (f g : ℕ → Bool) (i n w : ℕ) → ((k : ℕ) → So (f k) → So (g k)) → So (bits_have f i n w) → So (bits_have g i n w)
bits-imp f g i n w q h = bits-all g i n w (bits_small f i n w h) (λ k e. q (i + k) (bits-from f i n w k h e))

pub bits-and : (f g : ℕ → Bool) (i n w : ℕ) → So (bits_have f i n w) → So (bits_have g i n w) → So (bits_have (λ k. f k && g k) i n w)
bits-and f g i n w p q =
    bits-all (λ k. f k && g k) i n w (bits_small f i n w p) (λ k e. and_i (f (i + k)) (g (i + k)) (bits-from f i n w k p e) (bits-from g i n w k q e))

pub bits-and-l : (f g : ℕ → Bool) (i n w : ℕ) → So (bits_have (λ k. f k && g k) i n w) → So (bits_have f i n w)
bits-and-l f g i n w = bits-imp (λ k. f k && g k) f i n w (λ k. and_l (f k) (g k))

pub bits-and-r : (f g : ℕ → Bool) (i n w : ℕ) → So (bits_have (λ k. f k && g k) i n w) → So (bits_have g i n w)
bits-and-r f g i n w = bits-imp (λ k. f k && g k) g i n w (λ k. and_r (f k) (g k))

pub bits-zero : (f : ℕ → Bool) (i n : ℕ) → So (bits_have f i n 0)
bits-zero f i n = bits-all f i n 0 (one-le-pow n 2 (zero-lt-suc 1)) (λ k e. clash e (on_none k))

pub bits_put : (f : ℕ → Bool) (i n w k : ℕ) (on : Bool) → So (bits_have f i n w) → k < n → (on ≡ true → So (f (i + k))) → So (bits_have f i n (put_bit w k on))
bits_put f i n w k on h g q = bits-all f i n (put_bit w k on) (put-below n w k on (bits_small f i n w h) g) (λ j e. test (eqb j k) (here j e) (there j e))
  where
    here : (j : ℕ) → is_on (put_bit w k on) j ≡ true → eqb j k ≡ true → So (f (i + j))
    here j e t = rw (eqb-true j k t) (q (sym (on-put w k on) ∙ (rw (eqb-true j k t) at e)))

    there : (j : ℕ) → is_on (put_bit w k on) j ≡ true → eqb j k ≡ false → So (f (i + j))
    there j e t = bits-from f i n w j h (sym (on-put-other w k j on (eqb-false j k t)) ∙ e)

-- a set is what is in it
pub bits-ext : (n w v : ℕ) → w < 2 ^ n → v < 2 ^ n → ((k : ℕ) → is_on w k ≡ is_on v k) → w ≡ v
bits-ext zero w v h g q = omega arith
bits-ext (suc n) w v h g q =
    let high = bits-ext n (w / 2) (v / 2) (omega (arith, rw pow-suc at h)) (omega (arith, rw pow-suc at g)) (λ k. sym (on-suc w k) ∙ q (suc k) ∙ on-suc v k) in
    let low : w % 2 ≡ v % 2 =
    sym (bit-back (w % 2) (omega arith)) ∙ ap bit (sym (on-zero w) ∙ q 0 ∙ on-zero v) ∙ bit-back (v % 2) (omega arith) in
    omega arith
