-- The plain fields and the ready bits mean the model's vCPU records. Assumes nothing.
use mathlib.Core.Path.{◌≡◌, refl, sym, ap, ◌∙◌}
use mathlib.Core.Logic.{◌≢◌}
use Prim.Native.Nat.{ℕ, zero, suc, ◌+◌, ◌*◌, ◌≤◌, ◌<◌}
use native.Mathlib.Nat.{add-suc, suc-add, add-zero, zero-add}
use native.Mathlib.Omega.{arith}
use mathlib.Core.List.{List, [], ◌∷◌}
use mathlib.Core.Bool.{Bool, true, false, not}
use lib.ListN.{length, get_or, set, replicate, length-set, length-replicate, get_or-replicate}
use lib.Seq.{get_or-set_same, get_or-set_other, ext_get_or}
use lib.Dec.{eqb}
use borrow.Author.Tests.{eqb-true, eqb-false}
use Rattle.kvmi.specs.Bits.{bit, is_on, put_bit}
use Rattle.kvmi.specs.Tables.{Vcpu, resting, with_ready, with_singlestep, with_crs, with_events, with_pauses}
use Rattle.store.specs.Words.{SINGLESTEP, CRS, EVENTS, PAUSES, AWAITED, AWAITED_SEQ, field, set_field, set_msr_bit}
use Rattle.store.specs.Meaning.{vcpu_of_words, vcpus_of}
use Rattle.laws.proofs.Bool.{test}
use Rattle.laws.proofs.Bits.{on_none, on-put, on-put-other}
use Rattle.refine.proofs.Msrs.{field-set, field-set-other, bit-field, zeros-field}

-- ---- the records by index
module _ (ready : ℕ) (w : List ℕ) where
  pub vcpus-length : (i n : ℕ) → length (vcpus_of ready w i n) ≡ n
  unfolding vcpus_of
  vcpus-length i zero = refl
  vcpus-length i (suc n) = ap suc (vcpus-length (suc i) n)

  vcpus-from : (i n j : ℕ) → j < n → get_or (vcpus_of ready w i n) j resting ≡ vcpu_of_words ready w (i + j)
  unfolding vcpus_of
  vcpus-from i zero j h = absurd (omega arith)
  vcpus-from i (suc n) zero h = rw add-zero
  vcpus-from i (suc n) (suc j) h = rw (add-suc, ← suc-add) (vcpus-from (suc i) n j (omega arith))

  pub vcpus-at : (n i : ℕ) → i < n → get_or (vcpus_of ready w 0 n) i resting ≡ vcpu_of_words ready w i
  vcpus-at n i h = rw zero-add at (vcpus-from 0 n i h)

-- ---- one record changed
module _ (r s : ℕ) (w x : List ℕ) where
  pub vcpus-same : (n : ℕ) → ((i : ℕ) → vcpu_of_words s x i ≡ vcpu_of_words r w i) → vcpus_of s x 0 n ≡ vcpus_of r w 0 n
  vcpus-same n q =
      ext_get_or resting (vcpus_of s x 0 n) (vcpus_of r w 0 n) (vcpus-length s x 0 n ∙ sym (vcpus-length r w 0 n))
      (λ i h. let l : i < n = rw (vcpus-length s x 0 n) at h in vcpus-at s x n i l ∙ q i ∙ sym (vcpus-at r w n i l))

  pub vcpus-set : (n v : ℕ) (a : Vcpu) → vcpu_of_words s x v ≡ a → ((i : ℕ) → i ≢ v → vcpu_of_words s x i ≡ vcpu_of_words r w i) → vcpus_of s x 0 n ≡ set (vcpus_of r w 0 n) v a
  vcpus-set n v a e q =
      ext_get_or resting (vcpus_of s x 0 n) (set (vcpus_of r w 0 n) v a) (vcpus-length s x 0 n ∙ sym (length-set (vcpus_of r w 0 n) v a ∙ vcpus-length r w 0 n))
      (λ i h. let l : i < n = rw (vcpus-length s x 0 n) at h in
      vcpus-at s x n i l
      ∙ test (eqb i v)
      (λ t. let here = eqb-true i v t in
      rw here (e ∙ sym (get_or-set_same (vcpus_of r w 0 n) v a resting (rw (vcpus-length r w 0 n, ← here) l))))
      (λ t. let gone = eqb-false i v t in
      q i gone ∙ sym (get_or-set_other (vcpus_of r w 0 n) v i a resting gone ∙ vcpus-at r w n i l)))

-- the four fields of a record, and its ready bit
pub fields-same : (r s : ℕ) (w x : List ℕ) (i : ℕ) → is_on s i ≡ is_on r i → ((j : ℕ) → j < 4 → field x i j ≡ field w i j) → vcpu_of_words s x i ≡ vcpu_of_words r w i
unfolding vcpu_of_words
fields-same r s w x i e f = rw (e, f SINGLESTEP (omega arith), f CRS (omega arith), f EVENTS (omega arith), f PAUSES (omega arith))

-- ---- a plain field set
module _ (ready : ℕ) (w : List ℕ) (v x n : ℕ) where
  -- one that no record has
  pub vcpus-apart : (k : ℕ) → 4 ≤ k → k < 272 → vcpus_of ready (set_field w v k x) 0 n ≡ vcpus_of ready w 0 n
  vcpus-apart k a h =
      vcpus-same ready ready w (set_field w v k x) n
      (λ i. fields-same ready ready w (set_field w v k x) i refl (λ j l. field-set-other w v k x i j h (omega arith) (λ p q. omega arith)))

  pub vcpus-awaited : vcpus_of ready (set_field w v AWAITED x) 0 n ≡ vcpus_of ready w 0 n
  vcpus-awaited = vcpus-apart AWAITED (omega arith) (omega arith)

  pub vcpus-awaited-seq : vcpus_of ready (set_field w v AWAITED_SEQ x) 0 n ≡ vcpus_of ready w 0 n
  vcpus-awaited-seq = vcpus-apart AWAITED_SEQ (omega arith) (omega arith)

  module _ (l : n * 272 ≤ length w) (h : v < n) where
    one_set : (k : ℕ) (a : Vcpu) → k < 4 → vcpu_of_words ready (set_field w v k x) v ≡ a → vcpus_of ready (set_field w v k x) 0 n ≡ set (vcpus_of ready w 0 n) v a
    one_set k a b e =
        vcpus-set ready ready w (set_field w v k x) n v a e
        (λ i d. fields-same ready ready w (set_field w v k x) i refl (λ j l. field-set-other w v k x i j (omega arith) (omega arith) (λ p q. d p)))

    own : (k : ℕ) → k < 4 → field (set_field w v k x) v k ≡ x
    own k b = field-set w v k x (omega arith)

    other : (k j : ℕ) → k < 4 → j < 4 → j ≢ k → field (set_field w v k x) v j ≡ field w v j
    other k j b c d = field-set-other w v k x v j (omega arith) (omega arith) (λ p q. d q)

    pub vcpus-crs : vcpus_of ready (set_field w v CRS x) 0 n ≡ set (vcpus_of ready w 0 n) v (with_crs (vcpu_of_words ready w v) x)
    unfolding vcpu_of_words
    vcpus-crs =
        one_set CRS _ (omega arith)
        (rw (own CRS (omega arith), other CRS SINGLESTEP (omega arith) (omega arith) (omega arith), other CRS EVENTS (omega arith) (omega arith) (omega arith), other CRS PAUSES (omega arith) (omega arith) (omega arith)))

    pub vcpus-events : vcpus_of ready (set_field w v EVENTS x) 0 n ≡ set (vcpus_of ready w 0 n) v (with_events (vcpu_of_words ready w v) x)
    unfolding vcpu_of_words
    vcpus-events =
        one_set EVENTS _ (omega arith)
        (rw (own EVENTS (omega arith), other EVENTS SINGLESTEP (omega arith) (omega arith) (omega arith), other EVENTS CRS (omega arith) (omega arith) (omega arith), other EVENTS PAUSES (omega arith) (omega arith) (omega arith)))

    pub vcpus-pauses : vcpus_of ready (set_field w v PAUSES x) 0 n ≡ set (vcpus_of ready w 0 n) v (with_pauses (vcpu_of_words ready w v) x)
    unfolding vcpu_of_words
    vcpus-pauses =
        one_set PAUSES _ (omega arith)
        (rw (own PAUSES (omega arith), other PAUSES SINGLESTEP (omega arith) (omega arith) (omega arith), other PAUSES CRS (omega arith) (omega arith) (omega arith), other PAUSES EVENTS (omega arith) (omega arith) (omega arith)))

    vcpus-step : vcpus_of ready (set_field w v SINGLESTEP x) 0 n ≡ set (vcpus_of ready w 0 n) v (with_singlestep (vcpu_of_words ready w v) (not (eqb x 0)))
    unfolding vcpu_of_words
    vcpus-step =
        one_set SINGLESTEP _ (omega arith)
        (rw (own SINGLESTEP (omega arith), other SINGLESTEP CRS (omega arith) (omega arith) (omega arith), other SINGLESTEP EVENTS (omega arith) (omega arith) (omega arith), other SINGLESTEP PAUSES (omega arith) (omega arith) (omega arith)))

bit-on : (on : Bool) → not (eqb (bit on) 0) ≡ on
bit-on true = refl
bit-on false = refl

pub vcpus-singlestep : (ready : ℕ) (w : List ℕ) (v : ℕ) (on : Bool) (n : ℕ) → n * 272 ≤ length w → v < n
    → vcpus_of ready (set_field w v SINGLESTEP (bit on)) 0 n ≡ set (vcpus_of ready w 0 n) v (with_singlestep (vcpu_of_words ready w v) on)
vcpus-singlestep ready w v on n l h = rw bit-on at (vcpus-step ready w v (bit on) n l h)

-- ---- an MSR's switch set
pub vcpus-msr : (ready : ℕ) (w : List ℕ) (v m : ℕ) (on : Bool) (n : ℕ) → vcpus_of ready (set_msr_bit w v m on) 0 n ≡ vcpus_of ready w 0 n
vcpus-msr ready w v m on n =
    vcpus-same ready ready w (set_msr_bit w v m on) n (λ i. fields-same ready ready w (set_msr_bit w v m on) i refl (λ j l. bit-field w v m on i j (omega arith)))

-- ---- a ready bit set
pub vcpus-ready : (ready : ℕ) (w : List ℕ) (v : ℕ) (on : Bool) (n : ℕ) → vcpus_of (put_bit ready v on) w 0 n ≡ set (vcpus_of ready w 0 n) v (with_ready (vcpu_of_words ready w v) on)
unfolding vcpu_of_words
vcpus-ready ready w v on n =
    vcpus-set ready (put_bit ready v on) w w n v _ (rw on-put) (λ i d. fields-same ready (put_bit ready v on) w w i (on-put-other ready v i on d) (λ j l. refl))

-- ---- words that are all 0
zeros-from : (k i n : ℕ) → vcpus_of 0 (replicate k 0) i n ≡ replicate n resting
unfolding vcpus_of vcpu_of_words
zeros-from k i zero = refl
zeros-from k i (suc n) = rw (zeros-from k (suc i) n, on_none, zeros-field k i SINGLESTEP, zeros-field k i CRS, zeros-field k i EVENTS, zeros-field k i PAUSES)

pub zeros-vcpus : (k n : ℕ) → vcpus_of 0 (replicate k 0) 0 n ≡ replicate n resting
zeros-vcpus k n = zeros-from k 0 n
