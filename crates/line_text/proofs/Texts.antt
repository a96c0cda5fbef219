-- A number's digits, one behind the other, and how many bytes a text has. Assumes nothing.
use mathlib.Core.Path.{◌≡◌, refl, sym, ap, ◌∙◌}
use mathlib.Core.List.{List, [], ◌∷◌, ◌++◌}
use mathlib.Core.Bool.{Bool, true, false, cond}
use Prim.Native.Nat.{ℕ, zero, suc, ◌+◌, ◌/◌, ◌%◌, ◌^◌, ◌≤◌, ◌<◌}
use native.Mathlib.Nat.{pow-suc, div-lt_iff_lt-mul, zero-lt-suc}
use native.Mathlib.Omega.{arith}
use lib.Dec.{ltb}
use lib.IntN.{ℤ, pos, negsuc, nat_abs}
use lib.ListN.{length, length-append}
use lib.Seq.{length-take-le}
use borrow.Author.Tests.{lt-ltb, le-ltb, ltb-true}
use lib.Signed.{lt_z}
use Rattle.line_text.specs.Text.{ascii, digits, decimal, signed_text, Counts}

-- ---- digits

-- with room for one digit more than there can be
digits-room : (k n : ℕ) → n < 10 ^ suc k → digits (suc k) n ≡ digits (suc (suc k)) n
unfolding digits
digits-room zero n h = rw (lt-ltb n 10 (omega arith))
digits-room (suc k) n h =
    ap (λ (l : List ℕ). cond (ltb n 10) ((48 + n) ∷ []) (l ++ (48 + n % 10) ∷ [])) (digits-room k (n / 10) ((div-lt_iff_lt-mul (zero-lt-suc 9)).1 (rw pow-suc at h)))

pub decimal-one : (n : ℕ) → n < 10 → decimal n ≡ (48 + n % 10) ∷ []
unfolding decimal digits
decimal-one n h = let e : n % 10 ≡ n = omega arith in rw (lt-ltb n 10 h, e)

pub decimal-more : (n : ℕ) → 10 ≤ n → n < 18446744073709551616 → decimal n ≡ decimal (n / 10) ++ (48 + n % 10) ∷ []
unfolding decimal digits
decimal-more n h small =
    rw (le-ltb n 10 h) (ap (λ (l : List ℕ). l ++ (48 + n % 10) ∷ []) (digits-room 18 (n / 10) (omega arith)))

-- ---- how many bytes

length_digits : (k n : ℕ) → length (digits k n) ≤ k
unfolding digits
length_digits zero n = omega arith
length_digits (suc k) n = go (ltb n 10) (length_digits k (n / 10))
  where
    go : (b : Bool) → length (digits k (n / 10)) ≤ k → length (cond b ((48 + n) ∷ []) (digits k (n / 10) ++ (48 + n % 10) ∷ [])) ≤ suc k
    go true h = omega arith
    go false h = rw length-append (omega arith)

pub decimal_fits : (n : ℕ) → length (decimal n) ≤ 20
unfolding decimal
decimal_fits n = length_digits 20 n

pub length-decimal_more : (n : ℕ) → 10 ≤ n → n < 18446744073709551616 → length (decimal n) ≡ length (decimal (n / 10)) + 1
length-decimal_more n h small = ap length (decimal-more n h small) ∙ length-append (decimal (n / 10)) ((48 + n % 10) ∷ [])

pub length-decimal_one : (n : ℕ) → n < 10 → length (decimal n) ≡ 1
length-decimal_one n h = ap length (decimal-one n h)

-- ---- a number with its sign

pub signed_below : (e : ℤ) → lt_z e (pos 0) ≡ true → signed_text e ≡ ascii "-" ++ decimal (nat_abs e)
unfolding signed_text
signed_below (pos n) h = absurd (omega (arith, ltb-true n 0 h))
signed_below (negsuc k) h = refl

pub signed_above : (e : ℤ) → lt_z e (pos 0) ≡ false → signed_text e ≡ decimal (nat_abs e)
unfolding signed_text
signed_above (pos n) h = refl
signed_above (negsuc k) h = let z : ◌≡◌ {A = ℕ} 0 1 = cc in absurd (omega arith)

-- ---- how many bytes of a text

pub counts : (n : ℕ) (text : List ℕ) → n ≤ length text → Counts n text
counts n text h = (h, sym (length-take-le n text h))
