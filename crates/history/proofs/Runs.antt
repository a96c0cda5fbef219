-- The first byte in runs that is not zero, in their order, is the least such byte, where the runs ascend. Assumes nothing.
use mathlib.Core.Path.{◌≡◌, refl, sym, ap, ◌∙◌}
use mathlib.Core.Logic.{◌⊎◌, inl, inr, ⊎_elim, ◌≢◌}
use Prim.Native.Nat.{ℕ, zero, suc, ◌+◌, ◌*◌, ◌≤◌, ◌<◌}
use native.Mathlib.Omega.{arith}
use mathlib.Core.List.{List, [], ◌∷◌}
use mathlib.Core.Bool.{Bool, true, false, cond}
use lib.ListN.{get_or}
use lib.Dec.{eqb}
use borrow.Author.Tests.{eq-eqb, ne_eqb, eqb-true, eqb-false}
use Rattle.wire.proofs.Laws.{le-or-lt}
use Rattle.kvmi.specs.Message.{first_non_zero, first_of_runs}
use Rattle.laws.proofs.Bool.{test}

-- ---- a run
abbrev pub InRun : ℕ × ℕ → ℕ → Type 0
InRun r k = (r.0 ≤ k) × (k < r.0 + r.1)

-- none of its bytes is other than zero, and what comes after them is given
pub record Clean (d : List ℕ) (at n after : ℕ) : Type 0 where
  pub gives : first_non_zero d at n after ≡ after
  pub zeros : (k : ℕ) → InRun (at, n) k → get_or d k 0 ≡ 0

-- or this is the first
pub record Found (d : List ℕ) (at n after : ℕ) : Type 0 where
  pub place : ℕ
  pub gives : first_non_zero d at n after ≡ 8 + place
  pub inside : InRun (at, n) place
  pub other : get_or d place 0 ≢ 0
  pub zeros : (k : ℕ) → at ≤ k → k < place → get_or d k 0 ≡ 0

pub run-first : (d : List ℕ) (at n after : ℕ) → Clean d at n after ⊎ Found d at n after
unfolding first_non_zero
run-first d at zero after = inl (record { gives = refl; zeros = λ k h. absurd (omega (arith, h.0, h.1)) })
run-first d at (suc n) after =
    test (eqb (get_or d at 0) 0)
    (λ e. let here : get_or d at 0 ≡ 0 = eqb-true (get_or d at 0) 0 e in
    ⊎_elim
    (λ (c : Clean d (suc at) n after). inl (record {
      gives = rw e c.gives;
      zeros = λ k h. ⊎_elim (λ g. c.zeros k (g, omega (arith, h.1))) (λ g. let same : k ≡ at = omega (arith, h.0, g) in rw same here) (le-or-lt (suc at) k);
    }))
    (λ (f : Found d (suc at) n after). inr (record {
      place = f.place;
      gives = rw e f.gives;
      inside = (omega (arith, f.inside.0), omega (arith, f.inside.1));
      other = f.other;
      zeros = λ k low high. ⊎_elim (λ g. f.zeros k g high) (λ g. let same : k ≡ at = omega (arith, low, g) in rw same here) (le-or-lt (suc at) k);
    }))
    (run-first d (suc at) n after))
    (λ e. inr (record {
      place = at;
      gives = rw e;
      inside = (omega arith, omega arith);
      other = eqb-false (get_or d at 0) 0 e;
      zeros = λ k low high. absurd (omega (arith, low, high));
    }))

-- ---- runs, one behind the other
abbrev pub InRuns : List (ℕ × ℕ) → ℕ → Type 0
InRuns [] k = ⊥
InRuns (r ∷ rs) k = InRun r k ⊎ InRuns rs k

abbrev pub Rising : ℕ → List (ℕ × ℕ) → Type 0
Rising lo [] = Unit
Rising lo (r ∷ rs) = (lo ≤ r.0) × Rising (r.0 + r.1) rs

runs-from : (lo : ℕ) (rs : List (ℕ × ℕ)) (k : ℕ) → Rising lo rs → InRuns rs k → lo ≤ k
runs-from lo [] k h i = absurd i
runs-from lo (r ∷ rs) k h (inl i) = omega (arith, h.0, i.0)
runs-from lo (r ∷ rs) k h (inr i) = let later = runs-from (r.0 + r.1) rs k h.1 i in omega (arith, h.0, later)

pub record AllClean (d : List ℕ) (rs : List (ℕ × ℕ)) : Type 0 where
  pub gives : first_of_runs d rs ≡ 0
  pub zeros : (k : ℕ) → InRuns rs k → get_or d k 0 ≡ 0

pub record FirstFound (d : List ℕ) (rs : List (ℕ × ℕ)) : Type 0 where
  pub place : ℕ
  pub gives : first_of_runs d rs ≡ 8 + place
  pub inside : InRuns rs place
  pub other : get_or d place 0 ≢ 0
  pub zeros : (k : ℕ) → InRuns rs k → k < place → get_or d k 0 ≡ 0

pub runs-first : (d : List ℕ) (lo : ℕ) (rs : List (ℕ × ℕ)) → Rising lo rs → AllClean d rs ⊎ FirstFound d rs
unfolding first_of_runs
runs-first d lo [] h = inl (record { gives = refl; zeros = λ k i. absurd i })
runs-first d lo (r ∷ rs) h =
    ⊎_elim
    (λ (c : Clean d r.0 r.1 (first_of_runs d rs)).
    ⊎_elim
    (λ (a : AllClean d rs). inl (record {
      gives = c.gives ∙ a.gives;
      zeros = λ k i. ⊎_elim (λ g. c.zeros k g) (λ g. a.zeros k g) i;
    }))
    (λ (f : FirstFound d rs). inr (record {
      place = f.place;
      gives = c.gives ∙ f.gives;
      inside = inr f.inside;
      other = f.other;
      zeros = λ k i low. ⊎_elim (λ g. c.zeros k g) (λ g. f.zeros k g low) i;
    }))
    (runs-first d (r.0 + r.1) rs h.1))
    (λ (f : Found d r.0 r.1 (first_of_runs d rs)). inr (record {
      place = f.place;
      gives = f.gives;
      inside = inl f.inside;
      other = f.other;
      zeros = λ k i low. ⊎_elim (λ g. f.zeros k g.0 low) (λ g. let late = runs-from (r.0 + r.1) rs k h.1 g in absurd (omega (arith, late, low, f.inside.1))) i;
    }))
    (run-first d r.0 r.1 (first_of_runs d rs))
