-- The awaited events that the words mean. Assumes nothing.
use mathlib.Core.Path.{◌≡◌, refl, sym, ap, ◌∙◌}
use mathlib.Core.Logic.{◌≢◌}
use Prim.Native.Nat.{ℕ, zero, suc, ◌+◌, ◌*◌, ◌≤◌, ◌<◌}
use native.Mathlib.Nat.{zero-add, add-suc, suc-add, le_of_suc-le-suc, not-suc-le-zero}
use native.Mathlib.Omega.{arith}
use mathlib.Core.List.{List, [], ◌∷◌}
use mathlib.Core.Bool.{Bool, true, false, cond, not}
use mathlib.Core.Option.{Option, none, some}
use lib.ListN.{length, get_or, set, replicate, length-set}
use lib.Seq.{ext_get_or, get_or-set_same, get_or-set_other}
use lib.Dec.{eqb}
use borrow.Author.Tests.{eqb-true, eqb-false, eq-eqb, ne_eqb}
use Rattle.kvmi.specs.declared.Awaited.{Awaited}
use Rattle.kvmi.specs.Model.{is_some}
use Rattle.kvmi.specs.Verdict.{awaited_event, awaits}
use Rattle.store.specs.Words.{field, fault_in, awaited_from, AWAITED, AWAITED_SEQ, FAULT_GVA, FAULT_GPA, FAULT_ACCESS}
use Rattle.session.specs.Meaning.{awaited_in, awaited_of}
use Rattle.laws.proofs.Bool.{test}
use Rattle.refine.proofs.Msrs.{zeros-field}

pub awaited-length : (w : List ℕ) (i n : ℕ) → length (awaited_of w i n) ≡ n
unfolding awaited_of
awaited-length w i zero = refl
awaited-length w i (suc n) = ap suc (awaited-length w (suc i) n)

awaited-from : (w : List ℕ) (k n i : ℕ) → i < n → get_or (awaited_of w k n) i none ≡ awaited_in w (k + i)
unfolding awaited_of
awaited-from w k zero i h = absurd (not-suc-le-zero h)
awaited-from w k (suc n) zero h = let z : k + 0 ≡ k = omega arith in rw z
awaited-from w k (suc n) (suc i) h = let z : k + suc i ≡ suc k + i = omega arith in rw z (awaited-from w (suc k) n i (le_of_suc-le-suc h))

pub awaited-at : (w : List ℕ) (n i : ℕ) → i < n → get_or (awaited_of w 0 n) i none ≡ awaited_in w i
awaited-at w n i h = rw zero-add at (awaited-from w 0 n i h)

pub awaited-same : (w x : List ℕ) (n : ℕ) → ((i : ℕ) → awaited_in x i ≡ awaited_in w i) → awaited_of x 0 n ≡ awaited_of w 0 n
awaited-same w x n q =
    ext_get_or none (awaited_of x 0 n) (awaited_of w 0 n) (awaited-length x 0 n ∙ sym (awaited-length w 0 n))
    (λ i h. let l : i < n = rw (awaited-length x 0 n) at h in awaited-at x n i l ∙ q i ∙ sym (awaited-at w n i l))

pub awaited-set : (w x : List ℕ) (n v : ℕ) (a : Option Awaited) → awaited_in x v ≡ a → ((i : ℕ) → i ≢ v → awaited_in x i ≡ awaited_in w i) → awaited_of x 0 n ≡ set (awaited_of w 0 n) v a
awaited-set w x n v a e q =
    ext_get_or none (awaited_of x 0 n) (set (awaited_of w 0 n) v a) (awaited-length x 0 n ∙ sym (length-set (awaited_of w 0 n) v a ∙ awaited-length w 0 n))
    (λ i h. let l : i < n = rw (awaited-length x 0 n) at h in
    awaited-at x n i l
    ∙ test (eqb i v)
    (λ t. let here = eqb-true i v t in
    rw here (e ∙ sym (get_or-set_same (awaited_of w 0 n) v a none (rw (awaited-length w 0 n, ← here) l))))
    (λ t. let gone = eqb-false i v t in
    q i gone ∙ sym (get_or-set_other (awaited_of w 0 n) v i a none gone ∙ awaited-at w n i l)))

-- the five fields of a wait are all that it reads
pub awaited-fields : (w x : List ℕ) (i : ℕ) → ((k : ℕ) → 4 ≤ k → k < 9 → field x i k ≡ field w i k) → awaited_in x i ≡ awaited_in w i
unfolding awaited_in
awaited-fields w x i q =
    rw (
      q AWAITED (omega arith) (omega arith),
      q AWAITED_SEQ (omega arith) (omega arith),
      q FAULT_GVA (omega arith) (omega arith),
      q FAULT_GPA (omega arith) (omega arith),
      q FAULT_ACCESS (omega arith) (omega arith),
    )

pub awaited-none : (w : List ℕ) (i : ℕ) → field w i AWAITED ≡ 0 → awaited_in w i ≡ none
unfolding awaited_in
awaited-none w i e = rw e

-- it is there where its word is not 0
pub awaited-there : (w : List ℕ) (i : ℕ) → is_some (awaited_in w i) ≡ not (eqb (field w i AWAITED) 0)
unfolding awaited_in
awaited-there w i = test (eqb (field w i AWAITED) 0) (λ e. rw e) (λ e. rw e)

zeros-from : (k i n : ℕ) → awaited_of (replicate k 0) i n ≡ replicate n none
unfolding awaited_of
zeros-from k i zero = refl
zeros-from k i (suc n) = rw (zeros-from k (suc i) n, awaited-none (replicate k 0) i (zeros-field k i AWAITED))

pub zeros-awaited : (k n : ℕ) → awaited_of (replicate k 0) 0 n ≡ replicate n none
zeros-awaited k n = zeros-from k 0 n

-- read back as the code has it, and as a number
pub awaits-read : (w : List ℕ) (i : ℕ) → awaits (awaited_in w i) ≡ awaited_from (field w i AWAITED) (field w i AWAITED_SEQ) (fault_in w i)
unfolding awaited_in awaited_from
awaits-read w i = test (eqb (field w i AWAITED) 0) (λ e. rw e) (λ e. rw e)

pub event-read : (w : List ℕ) (i : ℕ) → awaited_event (awaited_in w i) ≡ field w i AWAITED
unfolding awaited_in
event-read w i = test (eqb (field w i AWAITED) 0) (λ e. rw e (sym (eqb-true (field w i AWAITED) 0 e))) (λ e. rw e)
