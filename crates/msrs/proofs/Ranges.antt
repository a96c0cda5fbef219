-- The formula over the two ranges, for every number. Assumes nothing.
use mathlib.Core.Path.{◌≡◌, refl, sym, ap, ap₂, ◌∙◌}
use Prim.Native.Nat.{ℕ, zero, suc, ◌+◌, ◌-◌, ◌*◌, ◌/◌, ◌%◌, ◌^◌, ◌≤◌, ◌<◌}
use native.Mathlib.Nat.{add-zero, zero-add, add-suc, suc-add}
use native.Mathlib.Omega.{arith}
use mathlib.Core.List.{◌∷◌, ◌++◌, map, map-append}
use mathlib.Core.Bool.{Bool, true, false, cond, ◌&&◌, ◌||◌, So, false≢true}
use lib.Dec.{leb, ltb}
use borrow.Author.Tests.{ltb-true, ltb-false, leb-true, leb-false}
use Rattle.std.specs.Prelude.{Option, Some, None, is_some}
use Rattle.msrs.specs.Place.{msr_place, is_msr, msr_at}
use Rattle.msrs.specs.Places.{in_ranges, up_from, range, Places}

-- ---- by cases: an MSR's two tests, and the range that a place is of
cases : (P : Option ℕ → Type 0) (m : ℕ) → (m / 0xC0000000 < 2 → m % 0xC0000000 < 8192 → P (Some (8192 * (m / 0xC0000000) + m % 0xC0000000)))
    → ((m / 0xC0000000 < 2 → m % 0xC0000000 < 8192 → ⊥) → P None) → P (msr_place m)
unfolding msr_place
cases P m f g = step (ltb (m / 0xC0000000) 2) refl (ltb (m % 0xC0000000) 8192) refl
  where
    step : (a : Bool) → ltb (m / 0xC0000000) 2 ≡ a → (b : Bool) → ltb (m % 0xC0000000) 8192 ≡ b → P (cond (a && b) (Some (8192 * (m / 0xC0000000) + m % 0xC0000000)) None)
    step true d true e = f (ltb-true (m / 0xC0000000) 2 d) (ltb-true (m % 0xC0000000) 8192 e)
    step true d false e = g (λ _ h. omega (arith, ltb-false (m % 0xC0000000) 8192 e))
    step false d b e = g (λ h _. omega (arith, ltb-false (m / 0xC0000000) 2 d))

at-range : {C : Type 0} (place : ℕ) → (place < 8192 → msr_at place ≡ place → C) → (8192 ≤ place → msr_at place ≡ place - 8192 + 0xC0000000 → C) → C
unfolding msr_at
at-range {C} place f g = step (ltb place 8192) refl
  where
    step : (t : Bool) → ltb place 8192 ≡ t → C
    step true e = f (ltb-true place 8192 e) (rw e)
    step false e = g (ltb-false place 8192 e) (rw e)

-- ---- where there is a place, and where there is none
there : (m : ℕ) → m / 0xC0000000 < 2 → m % 0xC0000000 < 8192 → msr_place m ≡ Some (8192 * (m / 0xC0000000) + m % 0xC0000000)
there m a b = cases (λ p. p ≡ Some (8192 * (m / 0xC0000000) + m % 0xC0000000)) m (λ _ _. refl) (λ d. absurd (d a b))

absent : (m : ℕ) → (m / 0xC0000000 < 2 → m % 0xC0000000 < 8192 → ⊥) → msr_place m ≡ None
absent m d = cases (λ p. p ≡ None) m (λ a b. absurd (d a b)) (λ _. refl)

-- the number of a place
abbrev pub number_of : Option ℕ → ℕ
number_of (Some place) = place
number_of None = 0

pub none≢some : {place : ℕ} → None ≡ Some place → ⊥
none≢some e = false≢true (ap is_some e)

-- an MSR that can be switched has one, and one that cannot has none
pub at_place : (m : ℕ) → So (is_msr m) → msr_place m ≡ Some (number_of (msr_place m))
unfolding is_msr
at_place m h = cases (λ p. So (is_some p) → p ≡ Some (number_of p)) m (λ _ _ _. refl) (λ _ g. absurd (false≢true g)) h

pub no_place : (m : ℕ) → is_msr m ≡ false → msr_place m ≡ None
unfolding is_msr
no_place m h = cases (λ p. is_some p ≡ false → p ≡ None) m (λ _ _ g. absurd (false≢true (sym g))) (λ _ _. refl) h

-- what a place says
placed : (m place : ℕ) → msr_place m ≡ Some place → (m / 0xC0000000 < 2) × (m % 0xC0000000 < 8192) × (place ≡ 8192 * (m / 0xC0000000) + m % 0xC0000000)
placed m place =
    cases (λ p. p ≡ Some place → (m / 0xC0000000 < 2) × (m % 0xC0000000 < 8192) × (place ≡ 8192 * (m / 0xC0000000) + m % 0xC0000000)) m
    (λ a b e. (a, b, ap number_of (sym e))) (λ _ e. absurd (none≢some e))

-- the place as it was reckoned before, by the remainder by 8,192
pub place-was : (m place : ℕ) → msr_place m ≡ Some place → place ≡ m / 0xC0000000 * 8192 + m % 8192
place-was m place e = let a = placed m place e in omega arith

-- such an MSR is a number of 32 bits
pub small : (m : ℕ) → So (is_msr m) → m < 2 ^ 32
small m h = let a = placed m _ (at_place m h) in omega arith

-- ---- what document 02 asks to be shown
exactly : (m : ℕ) → is_msr m ≡ in_ranges m
unfolding is_msr in_ranges
exactly m = step (leb m 0x1FFF) refl (leb 0xC0000000 m) refl (leb m 0xC0001FFF) refl
  where
    step : (a : Bool) → leb m 0x1FFF ≡ a → (b : Bool) → leb 0xC0000000 m ≡ b → (c : Bool) → leb m 0xC0001FFF ≡ c → is_some (msr_place m) ≡ (a || b && c)
    step true e b f c g = let h = leb-true m 0x1FFF e in rw (there m (omega arith) (omega arith))
    step false e true f true g = let h = leb-true 0xC0000000 m f in let k = leb-true m 0xC0001FFF g in rw (there m (omega arith) (omega arith))
    step false e true f false g = let h = leb-false m 0xC0001FFF g in rw (absent m (λ p q. omega arith))
    step false e false f c g = let h = leb-false m 0x1FFF e in let k = leb-false 0xC0000000 m f in rw (absent m (λ p q. omega arith))

pub in-places : (m place : ℕ) → msr_place m ≡ Some place → place < 16384
in-places m place e = let a = placed m place e in omega arith

pub rising-places : (m next place behind : ℕ) → msr_place m ≡ Some place → msr_place next ≡ Some behind → m < next → place < behind
rising-places m next place behind e f l = let a = placed m place e in let b = placed next behind f in omega arith

pub one : (m place : ℕ) → msr_place m ≡ Some place → msr_at place ≡ m
one m place e = let a = placed m place e in at-range place (λ l f. omega arith) (λ l f. omega arith)

pub onto : (place : ℕ) → place < 16384 → msr_place (msr_at place) ≡ Some place
onto place h = there (msr_at place) (at-range place (λ l e. omega arith) (λ l e. omega arith)) (at-range place (λ l e. omega arith) (λ l e. omega arith)) ∙ ap Some (at-range place (λ l e. omega arith) (λ l e. omega arith))

-- places in order are MSRs in order
pub at_up : (place behind : ℕ) → place < behind → msr_at place < msr_at behind
at_up place behind h = at-range place (λ l e. at-range behind (λ k f. omega arith) (λ k f. omega arith)) (λ l e. at-range behind (λ k f. omega arith) (λ k f. omega arith))

pub at_small : (place : ℕ) → place ≤ 16384 → msr_at place < 2 ^ 32
at_small place h = at-range place (λ l e. omega arith) (λ l e. omega arith)

-- a run of MSRs whose places follow on one another, and the numbers behind a run
run : (m place n : ℕ) → ((k : ℕ) → k < n → msr_place (m + k) ≡ Some (place + k)) → map msr_place (up_from m n) ≡ map Some (up_from place n)
unfolding up_from
run m place zero f = refl
run m place (suc n) f =
    ap₂ ◌∷◌ (rw (add-zero m, add-zero place) at (f 0 (omega arith)))
    (run (suc m) (suc place) n (λ k h. rw (suc-add m k, ← add-suc m k, suc-add place k, ← add-suc place k) (f (suc k) (omega arith))))

up-on : (first m n : ℕ) → up_from first (m + n) ≡ up_from first m ++ up_from (first + m) n
unfolding up_from
up-on first zero n = rw (zero-add n, add-zero first)
up-on first (suc m) n = rw (suc-add m n, add-suc first m) (ap (◌∷◌ first) (rw (suc-add first m) at (up-on (suc first) m n)))

in_order_lem : map msr_place (range 0 0x1FFF ++ range 0xC0000000 0xC0001FFF) ≡ map Some (range 0 16383)
in_order_lem =
    map-append msr_place (up_from 0 8192) (up_from 0xC0000000 8192)
    ∙ ap₂ ◌++◌ (run 0 0 8192 (λ k h. there (0 + k) (omega arith) (omega arith) ∙ ap Some (omega arith)))
    (run 0xC0000000 8192 8192 (λ k h. there (0xC0000000 + k) (omega arith) (omega arith) ∙ ap Some (omega arith)))
    ∙ sym (map-append Some (up_from 0 8192) (up_from 8192 8192))
    ∙ ap (map Some) (sym (up-on 0 8192 8192))

pub places : Places
places =
    record { in_order = in_order_lem; others = λ m h. no_place m (exactly m ∙ h); exactly = exactly; below = in-places; rising = rising-places; back = at_up; one = one; onto = onto }
