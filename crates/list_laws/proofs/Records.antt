-- The records of a session's vCPUs by index, and after one of them changes. Assumes nothing.
use mathlib.Core.Path.{◌≡◌, refl, sym, ap, ◌∙◌}
use mathlib.Core.Logic.{◌≢◌}
use Prim.Native.Nat.{ℕ, zero, suc, ◌+◌, ◌*◌, ◌≤◌, ◌<◌}
use native.Mathlib.Nat.{add-suc, suc-add, add-zero, zero-add}
use native.Mathlib.Omega.{arith}
use mathlib.Core.List.{List}
use mathlib.Core.Bool.{true}
use lib.ListN.{length, get_or, set, length-set}
use lib.Seq.{get_or-set_same, get_or-set_other, ext_get_or}
use lib.Dec.{eqb}
use borrow.Author.Tests.{eqb-true, eqb-false}
use Rattle.kvmi.specs.Bits.{put_bit}
use Rattle.store.specs.Words.{SINGLESTEP, CRS, EVENTS, PAUSES, AWAITED, AWAITED_SEQ, field, set_field}
use Rattle.laws.proofs.Bool.{test}
use Rattle.laws.proofs.Bits.{on-put, on-put-other}
use Rattle.refine.proofs.Msrs.{field-set, field-set-other}
use Rattle.vcpu_list.specs.List.{blank, with_ready, with_crs}
use Rattle.list_laws.specs.Records.{record_of, each_of}

-- ---- a list by index
module _ {A : Type 0} (f : ℕ → A) where
  pub each-length : (i n : ℕ) → length (each_of f i n) ≡ n
  unfolding each_of
  each-length i zero = refl
  each-length i (suc n) = ap suc (each-length (suc i) n)

  each_from : (d : A) (i n j : ℕ) → j < n → get_or (each_of f i n) j d ≡ f (i + j)
  unfolding each_of
  each_from d i zero j h = absurd (omega arith)
  each_from d i (suc n) zero h = rw add-zero
  each_from d i (suc n) (suc j) h = rw (add-suc, ← suc-add) (each_from d (suc i) n j (omega arith))

  pub each_at : (d : A) (n i : ℕ) → i < n → get_or (each_of f 0 n) i d ≡ f i
  each_at d n i h = rw zero-add at (each_from d 0 n i h)

-- one of them changed
each_set : {A : Type 0} (d : A) (f g : ℕ → A) (n v : ℕ) (a : A) → g v ≡ a → ((i : ℕ) → i ≢ v → g i ≡ f i) → each_of g 0 n ≡ set (each_of f 0 n) v a
each_set d f g n v a e q =
    ext_get_or d (each_of g 0 n) (set (each_of f 0 n) v a) (each-length g 0 n ∙ sym (length-set (each_of f 0 n) v a ∙ each-length f 0 n))
    (λ i h. let l : i < n = rw (each-length g 0 n) at h in
    each_at g d n i l
    ∙ test (eqb i v)
    (λ t. let here = eqb-true i v t in
    rw here (e ∙ sym (get_or-set_same (each_of f 0 n) v a d (rw (each-length f 0 n, ← here) l))))
    (λ t. let gone = eqb-false i v t in
    q i gone ∙ sym (get_or-set_other (each_of f 0 n) v i a d gone ∙ each_at f d n i l)))

-- ---- a ready bit set
pub records-ready : (ready : ℕ) (w : List ℕ) (n v : ℕ) → each_of (record_of (put_bit ready v true) w) 0 n ≡ set (each_of (record_of ready w) 0 n) v (with_ready (record_of ready w v) 1)
unfolding record_of
records-ready ready w n v =
    each_set blank (record_of ready w) (record_of (put_bit ready v true) w) n v _ (rw on-put) (λ i d. rw (on-put-other ready v i true d))

-- ---- the CR switches set
module _ (ready : ℕ) (w : List ℕ) (n v x : ℕ) (l : n * 272 ≤ length w) (h : v < n) where
  own : field (set_field w v CRS x) v CRS ≡ x
  own = field-set w v CRS x (omega arith)

  other : (i j : ℕ) → j < 272 → (i ≡ v → j ≡ CRS → ⊥) → field (set_field w v CRS x) i j ≡ field w i j
  other i j b d = field-set-other w v CRS x i j (omega arith) b d

  pub records-crs : each_of (record_of ready (set_field w v CRS x)) 0 n ≡ set (each_of (record_of ready w) 0 n) v (with_crs (record_of ready w v) x)
  unfolding record_of
  records-crs =
      each_set blank (record_of ready w) (record_of ready (set_field w v CRS x)) n v _
      (rw (own, kept v SINGLESTEP (omega arith) (omega arith), kept v EVENTS (omega arith) (omega arith), kept v PAUSES (omega arith) (omega arith), kept v AWAITED (omega arith) (omega arith), kept v AWAITED_SEQ (omega arith) (omega arith)))
      (λ i d. rw (gone i d SINGLESTEP (omega arith), gone i d CRS (omega arith), gone i d EVENTS (omega arith), gone i d PAUSES (omega arith), gone i d AWAITED (omega arith), gone i d AWAITED_SEQ (omega arith)))
    where
      kept : (i j : ℕ) → j < 272 → j ≢ CRS → field (set_field w v CRS x) i j ≡ field w i j
      kept i j b d = other i j b (λ p q. d q)

      gone : (i : ℕ) → i ≢ v → (j : ℕ) → j < 272 → field (set_field w v CRS x) i j ≡ field w i j
      gone i d j b = other i j b (λ p q. d p)
