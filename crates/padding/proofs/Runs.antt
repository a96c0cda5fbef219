-- Laws of the first byte of a run that is not zero. Assumes nothing.
use mathlib.Core.Path.{◌≡◌, refl, sym, ap, ◌∙◌}
use mathlib.Core.Logic.{⊎_elim}
use mathlib.Core.List.{List}
use mathlib.Core.Bool.{true, So, cond, ◌&&◌}
use Prim.Native.Nat.{ℕ, zero, suc, ◌+◌, ◌*◌, ◌-◌, ◌/◌, ◌%◌, ◌^◌, ◌≤◌, ◌<◌}
use native.Mathlib.Nat.{add_comm, mul_comm, add-suc, pow-suc, mul-suc, one-mul, mod-eq_of_lt}
use native.Mathlib.Numerals.{add-one}
use native.Mathlib.Omega.{arith}
use lib.Arith.{digits_div, digits_mod}
use lib.Dec.{leb, eqb}
use lib.ListN.{length, get_or, take, drop, get_or-eq_default}
use lib.Pow.{are_bytes, pow-add, pow-lt}
use lib.Seq.{drop-cons, drop-drop, get_or-take, get_or-drop}
use mir.Syntax.{w8}
use mir.Val.{Fits}
use borrow.Author.Tests.{eq-eqb, ne_eqb, leb-true, eqb-true, eqb-false}
use Rattle.wire.specs.Bytes.{num, load}
use Rattle.wire.proofs.Laws.{le-or-lt, num-join, num-bound, bytes-known, bytes_drop, load-whole}
use Rattle.kvmi.specs.Message.{first_non_zero}
use Rattle.laws.proofs.Bool.{test, and_l, and_r}

-- ---- one byte more

pub run-zero-byte : (d : List ℕ) (at n after : ℕ) → get_or d at 0 ≡ 0 → first_non_zero d at (suc n) after ≡ first_non_zero d (suc at) n after
unfolding first_non_zero
run-zero-byte d at n after e = rw (eq-eqb (get_or d at 0) 0 e)

pub run-other-byte : (d : List ℕ) (at n after : ℕ) → (get_or d at 0 ≡ 0 → ⊥) → first_non_zero d at (suc n) after ≡ 8 + at
unfolding first_non_zero
run-other-byte d at n after e = rw (ne_eqb (get_or d at 0) 0 e)

-- the same, as a loop counts
pub run_step : (d : List ℕ) (at n after : ℕ) → 0 < n → get_or d at 0 ≡ 0 → first_non_zero d (at + 1) (n - 1) after ≡ first_non_zero d at n after
run_step d at n after h e =
    let more : n ≡ suc (n - 1) = omega arith in
    sym (ap (λ (m : ℕ). first_non_zero d at m after) more ∙ run-zero-byte d at (n - 1) after e ∙ ap (λ (m : ℕ). first_non_zero d m (n - 1) after) (sym (add-one at)))

pub run-found : (d : List ℕ) (at n after : ℕ) → 0 < n → (get_or d at 0 ≡ 0 → ⊥) → first_non_zero d at n after ≡ 8 + at
run-found d at n after h e =
    let more : n ≡ suc (n - 1) = omega arith in
    ap (λ (m : ℕ). first_non_zero d at m after) more ∙ run-other-byte d at (n - 1) after e

pub run_none : (d : List ℕ) (at after : ℕ) → first_non_zero d at 0 after ≡ after
unfolding first_non_zero
run_none d at after = refl

-- ---- clean runs

-- bytes past the end count as zero
pub run_past : (d : List ℕ) (at n after : ℕ) → length d ≤ at → first_non_zero d at n after ≡ after
run_past d at zero after h = run_none d at after
run_past d at (suc n) after h = run-zero-byte d at n after (get_or-eq_default d 0 h) ∙ run_past d (suc at) n after (omega arith)

-- bytes that make the number 0
pub run-clean : (d : List ℕ) (at n after : ℕ) → num n (drop at d) ≡ 0 → first_non_zero d at n after ≡ after
unfolding num
run-clean d at zero after e = run_none d at after
run-clean d at (suc n) after e =
    ⊎_elim (run_past d at (suc n) after)
    (λ h.
    let g : get_or d at 0 + 256 * num n (drop (suc at) d) ≡ 0 = rw (drop-cons d at 0 h) at e in
    run-zero-byte d at n after (omega arith) ∙ run-clean d (suc at) n after (omega arith))
    (le-or-lt (length d) at)

-- ---- a run and what comes after it

pub run-then : (d : List ℕ) (at n after : ℕ) → first_non_zero d at n after ≡ cond (eqb (first_non_zero d at n 0) 0) after (first_non_zero d at n 0)
run-then d at zero after = rw (run_none d at after, run_none d at 0)
run-then d at (suc n) after = test (eqb (get_or d at 0) 0)
    (λ e. let z = eqb-true (get_or d at 0) 0 e in rw (run-zero-byte d at n after z, run-zero-byte d at n 0 z) (run-then d (suc at) n after))
    (λ e.
    let z = eqb-false (get_or d at 0) 0 e in
    rw (run-other-byte d at n after z, run-other-byte d at n 0 z, ne_eqb (8 + at) 0 (λ b. omega arith)))

-- a run in a part of the data, which starts at a place of its own
pub run-part : (d : List ℕ) (a k at n after : ℕ) → at + n ≤ k
    → first_non_zero d (a + at) n after
    ≡ cond (eqb (first_non_zero (take k (drop a d)) at n 0) 0) after (a + first_non_zero (take k (drop a d)) at n 0)
run-part d a k at zero after h = rw (run_none d (a + at) after, run_none (take k (drop a d)) at 0)
run-part d a k at (suc n) after h =
    let p = take k (drop a d) in
    let same : get_or p at 0 ≡ get_or d (a + at) 0 = get_or-take k (drop a d) at 0 (omega arith) ∙ get_or-drop a d at 0 in
    test (eqb (get_or d (a + at) 0) 0)
    (λ e.
    let z = eqb-true (get_or d (a + at) 0) 0 e in
    rw (run-zero-byte d (a + at) n after z, run-zero-byte p at n 0 (same ∙ z), ← add-suc a at) (run-part d a k (suc at) n after (omega arith)))
    (λ e.
    let z = eqb-false (get_or d (a + at) 0) 0 e in
    rw (run-other-byte d (a + at) n after z, run-other-byte p at n 0 (λ b. z (sym same ∙ b)), ne_eqb (8 + at) 0 (λ b. omega arith)) (omega arith))

-- ---- a run inside a number of 64 bits

pow-byte : (k : ℕ) → 2 ^ (8 * k) ≡ 256 ^ k
pow-byte zero = refl
pow-byte (suc k) = rw (mul-suc 8 k, pow-add 2 (8 * k) 8, pow-byte k, pow-suc 256 k)

-- the n bytes that stand i bytes into a number
num-run : (i n m : ℕ) (s : List ℕ) → So (are_bytes s) → num (i + (n + m)) s / 256 ^ i % 256 ^ n ≡ num n (drop i s)
num-run i n m s b =
    let t = drop i s in
    rw (
      num-join i (n + m) s,
      add_comm (num i s) (256 ^ i * num (n + m) t),
      mul_comm (256 ^ i) (num (n + m) t),
      digits_div (num (n + m) t) (num-bound i s b),
      num-join n m t,
      add_comm (num n t) (256 ^ n * num m (drop n t)),
      mul_comm (256 ^ n) (num m (drop n t)),
      digits_mod (num m (drop n t)) (num-bound n t (bytes_drop i s b)),
    )

-- a word with one bit set
pub one_shl : (k : ℕ) → k < 64 → 1 * 2 ^ k % 2 ^ 64 ≡ 2 ^ k
one_shl k h = rw (one-mul (2 ^ k)) (mod-eq_of_lt (pow-lt h))

-- a word whose bytes there are 0, as code tests it
pub run-in-word : (d : List ℕ) (at i n after word : ℕ) → ((k : ℕ) → Fits w8 (get_or d k 0)) → i + n ≤ 8 → 1 ≤ i → word ≡ load 8 d at
    → (leb (at + 8) (length d) && eqb (word / 2 ^ (8 * i) % (1 * 2 ^ (8 * n) % 2 ^ 64)) 0) ≡ true → first_non_zero d (at + i) n after ≡ after
run-in-word d at i n after word known h small e clean =
    let g = leb-true (at + 8) (length d) (and_l _ _ clean) in
    let z = eqb-true (word / 2 ^ (8 * i) % (1 * 2 ^ (8 * n) % 2 ^ 64)) 0 (and_r (leb (at + 8) (length d)) _ clean) in
    let eight : 8 ≡ i + (n + (8 - (i + n))) = omega arith in
    let whole : word ≡ num (i + (n + (8 - (i + n)))) (drop at d) = e ∙ load-whole 8 d at g ∙ ap (λ (k : ℕ). num k (drop at d)) eight in
    run-clean d (at + i) n after
    (rw (
      one_shl (8 * n) (omega arith),
      pow-byte i,
      pow-byte n,
      whole,
      num-run i n (8 - (i + n)) (drop at d) (bytes_drop at d (bytes-known d known)),
      drop-drop i at d,
    ) at z)

-- ---- how large an offset can be

pub run-bound : (d : List ℕ) (at n : ℕ) → first_non_zero d at n 0 ≤ 8 + at + n
run-bound d at zero = rw (run_none d at 0) (omega arith)
run-bound d at (suc n) = test (eqb (get_or d at 0) 0)
    (λ e. let more = run-bound d (suc at) n in rw (run-zero-byte d at n 0 (eqb-true (get_or d at 0) 0 e)) (omega arith))
    (λ e. rw (run-other-byte d at n 0 (eqb-false (get_or d at 0) 0 e)) (omega arith))
