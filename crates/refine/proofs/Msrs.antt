-- The words of MSR switches mean the model's MSR switches, and the plain fields stand apart from them. Assumes nothing.
use mathlib.Core.Path.{◌≡◌, refl, sym, ap, ap₂, ◌∙◌}
use mathlib.Core.Logic.{◌≢◌}
use Prim.Native.Nat.{ℕ, zero, suc, ◌+◌, ◌-◌, ◌*◌, ◌/◌, ◌%◌, ◌^◌, ◌≤◌, ◌<◌, zero-le}
use native.Mathlib.Nat.{le_refl, add-suc, suc-add, add-zero}
use native.Mathlib.Omega.{arith}
use mathlib.Core.List.{List, [], ◌∷◌, ◌++◌}
use mathlib.Core.Bool.{Bool, true, false, cond, not, ◌&&◌, ◌||◌, So, and-false}
use lib.ListN.{length, get_or, set, take, drop, replicate, length-set, get_or-replicate, get_or-eq_default}
use lib.Seq.{get_or-set_same, get_or-set_other, take-set-le, drop-set-lt, drop-set-add, take-take, drop-drop}
use lib.Dec.{ltb, eqb}
use borrow.Author.Tests.{ltb-true, ltb-false, leb-false, eqb-true, eqb-false, lt-ltb, le-ltb, lt-leb, eq-eqb, ne_eqb}
use Rattle.std.specs.Prelude.{Option, Some, None, is_some}
use Rattle.msrs.specs.Place.{msr_place, is_msr, msr_at}
use Rattle.msrs.proofs.Ranges.{none≢some, in-places, one, onto, small, at_up, at_small}
use Rattle.kvmi.specs.Bits.{every, is_on, put_bit}
use Rattle.kvmi.specs.Ascending.{rising, put, forget}
use Rattle.kvmi.specs.Tables.{Msr, msr_key, msr_in}
use Rattle.kvmi.specs.Change.{set_msr}
use Rattle.store.specs.Words.{field, set_field, put_bit64, switched_field, switch_on, read_switch, set_switch, msr_bit_on, set_msr_bit}
use Rattle.store.specs.Meaning.{switches_on, msrs_of}
use Rattle.laws.proofs.Bool.{and_l, and_r, and_i, test, clash, same_test, every-cons, every-imp}
use Rattle.laws.proofs.Bits.{on_none, on-put, on-put-other}
use Rattle.laws.proofs.Ascending.{Side, below, level, over, side, rising-cons, rising-weak}
use Rattle.laws.proofs.Lookup.{numbered, by_place, set-rising, set-every, set-looks, msr-ext}

-- ---- a list's first switch
in-here : (v m : ℕ) (ms : List Msr) → msr_in (record { vcpu = v; msr = m } ∷ ms) v m ≡ true
unfolding msr_in
in-here v m ms = rw (eq-eqb v v refl, eq-eqb m m refl)

in-past : (u k v m : ℕ) (ms : List Msr) → (u ≡ v → k ≡ m → ⊥) → msr_in (record { vcpu = u; msr = k } ∷ ms) v m ≡ msr_in ms v m
unfolding msr_in
in-past u k v m ms d = test (eqb u v) (λ a. rw (a, ne_eqb k m (d (eqb-true u v a)))) (λ a. rw a)

-- ---- the switches of one vCPU
module _ (w : List ℕ) (vcpu : ℕ) where
  switches-cases : (P : List Msr → Type 0) (place n : ℕ) (rest : List Msr)
      → (switch_on w vcpu place ≡ true → P (record { vcpu = vcpu; msr = msr_at place } ∷ switches_on w vcpu (suc place) n rest)) → (switch_on w vcpu place ≡ false → P (switches_on w vcpu (suc place) n rest))
      → P (switches_on w vcpu place (suc n) rest)
  unfolding switches_on
  switches-cases P place n rest f g = test (switch_on w vcpu place) (λ h. rw h (f h)) (λ h. rw h (g h))

  switches-rising : (lo place n : ℕ) (rest : List Msr) → place + n ≤ 16384 → lo ≤ vcpu * 2 ^ 64 + msr_at place → So (rising msr_key (suc vcpu * 2 ^ 64) rest)
      → So (rising msr_key lo (switches_on w vcpu place n rest))
  unfolding switches_on
  switches-rising lo place zero rest h l g = rising-weak msr_key lo (suc vcpu * 2 ^ 64) rest (omega (arith, at_small place (omega arith))) g
  switches-rising lo place (suc n) rest h l g =
      let up = at_up place (suc place) (le_refl _) in
      switches-cases (λ ms. So (rising msr_key lo ms)) place n rest
      (λ t. rising-cons msr_key lo _ (switches_on w vcpu (suc place) n rest) l (switches-rising (suc (vcpu * 2 ^ 64 + msr_at place)) (suc place) n rest (omega arith) (omega arith) g))
      (λ t. switches-rising lo (suc place) n rest (omega arith) (omega arith) g)

  switches-every : (f : Msr → Bool) → ((s : ℕ) → s < 16384 → So (f (record { vcpu = vcpu; msr = msr_at s })))
      → (place n : ℕ) (rest : List Msr) → place + n ≤ 16384 → So (every f rest) → So (every f (switches_on w vcpu place n rest))
  unfolding switches_on
  switches-every f q place zero rest h g = g
  switches-every f q place (suc n) rest h g =
      let r = switches-every f q (suc place) n rest (omega arith) g in
      switches-cases (λ ms. So (every f ms)) place n rest (λ t. every-cons f _ (switches_on w vcpu (suc place) n rest) (q place (omega arith)) r) (λ t. r)

  -- what is found behind switches that are all others
  switches-other : (v m place n : ℕ) (rest : List Msr) → ((s : ℕ) → place ≤ s → s < place + n → vcpu ≡ v → msr_at s ≡ m → ⊥)
      → msr_in (switches_on w vcpu place n rest) v m ≡ msr_in rest v m
  unfolding switches_on
  switches-other v m place zero rest d = refl
  switches-other v m place (suc n) rest d =
      let r = switches-other v m (suc place) n rest (λ s a b. d s (omega arith) (omega arith)) in
      switches-cases (λ ms. msr_in ms v m ≡ msr_in rest v m) place n rest (λ t. in-past vcpu (msr_at place) v m _ (d place (le_refl place) (omega arith)) ∙ r) (λ t. r)

  -- a switch of a place
  switches-here : (s place n : ℕ) (rest : List Msr) → place ≤ s → s < place + n → msr_in rest vcpu (msr_at s) ≡ false
      → msr_in (switches_on w vcpu place n rest) vcpu (msr_at s) ≡ switch_on w vcpu s
  unfolding switches_on
  switches-here s place zero rest l k g = absurd (omega arith)
  switches-here s place (suc n) rest l k g =
      test (eqb place s)
      (λ e. let here = eqb-true place s e in
      let past : msr_in (switches_on w vcpu (suc place) n rest) vcpu (msr_at s) ≡ false =
      switches-other vcpu (msr_at s) (suc place) n rest (λ u a b p q. absurd (omega (arith, at_up s u (omega arith)))) ∙ g in
      switches-cases (λ ms. msr_in ms vcpu (msr_at s) ≡ switch_on w vcpu s) place n rest (λ t. rw (← here) (in-here vcpu (msr_at place) _ ∙ sym t)) (λ t. past ∙ sym (rw here at t)))
      (λ e. let gone = eqb-false place s e in
      let r = switches-here s (suc place) n rest (omega arith) (omega arith) g in
      switches-cases (λ ms. msr_in ms vcpu (msr_at s) ≡ switch_on w vcpu s) place n rest
      (λ t. in-past vcpu (msr_at place) vcpu (msr_at s) _ (λ p q. absurd (omega (arith, at_up place s (omega arith)))) ∙ r) (λ t. r))

-- ---- the switches of n vCPUs
module _ (w : List ℕ) where
  msrs-up : (v n : ℕ) → So (rising msr_key (v * 2 ^ 64) (msrs_of w v n))
  unfolding msrs_of
  msrs-up v zero = refl
  msrs-up v (suc n) = switches-rising w v (v * 2 ^ 64) 0 16384 (msrs_of w (suc v) n) (omega arith) (omega arith) (msrs-up (suc v) n)

  pub msrs-every : (f : Msr → Bool) → ((u s : ℕ) → s < 16384 → So (f (record { vcpu = u; msr = msr_at s }))) → (v n : ℕ) → So (every f (msrs_of w v n))
  unfolding msrs_of
  msrs-every f q v zero = refl
  msrs-every f q v (suc n) = switches-every w v f (q v) 0 16384 (msrs_of w (suc v) n) (omega arith) (msrs-every f q (suc v) n)

  msrs-none : (u n v m : ℕ) → ((s : ℕ) → u ≤ v → v < u + n → s < 16384 → msr_at s ≡ m → ⊥) → msr_in (msrs_of w u n) v m ≡ false
  unfolding msrs_of msr_in
  msrs-none u zero v m d = refl
  msrs-none u (suc n) v m d =
      switches-other w u v m 0 16384 (msrs_of w (suc u) n) (λ s a b p. d s (omega arith) (omega arith) (omega arith))
      ∙ msrs-none (suc u) n v m (λ s a b. d s (omega arith) (omega arith))

  msrs-here : (u n v s : ℕ) → u ≤ v → v < u + n → s < 16384 → msr_in (msrs_of w u n) v (msr_at s) ≡ switch_on w v s
  unfolding msrs_of
  msrs-here u zero v s a b h = absurd (omega arith)
  msrs-here u (suc n) v s a b h =
      test (eqb u v)
      (λ e. let here = eqb-true u v e in
      rw here (switches-here w v s 0 16384 (msrs_of w (suc v) n) zero-le (omega arith) (msrs-none (suc v) n v (msr_at s) (λ t p q. absurd (omega arith)))))
      (λ e. let gone = eqb-false u v e in
      switches-other w u v (msr_at s) 0 16384 (msrs_of w (suc u) n) (λ t p q r. absurd (gone r)) ∙ msrs-here (suc u) n v s (omega arith) (omega arith) h)

  pub msrs-rising : (n : ℕ) → So (rising msr_key 0 (msrs_of w 0 n))
  msrs-rising n = msrs-up 0 n

  pub msrs-small : (n : ℕ) → So (every (λ (m : Msr). ltb m.msr (2 ^ 32)) (msrs_of w 0 n))
  msrs-small n = msrs-every (λ (m : Msr). ltb m.msr (2 ^ 32)) (λ u s h. lt-ltb (msr_at s) (2 ^ 32) (at_small s (omega arith))) 0 n

  pub msrs-numbered : (n : ℕ) → So (every numbered (msrs_of w 0 n))
  msrs-numbered n =
      every-imp (λ (m : Msr). ltb m.msr (2 ^ 32)) numbered (λ m h. lt-ltb m.msr (2 ^ 64) (omega (arith, ltb-true m.msr (2 ^ 32) h))) (msrs_of w 0 n) (msrs-small n)

  pub msrs-look : (n v m : ℕ) → msr_in (msrs_of w 0 n) v m ≡ (ltb v n && msr_bit_on w v m)
  unfolding msr_bit_on
  msrs-look n v m = test (ltb v n) (λ a. rw a (step (msr_place m) refl (ltb-true v n a))) (λ a. rw a (msrs-none 0 n v m (λ s p q r e. absurd (omega (arith, ltb-false v n a)))))
    where
      step : (p : Option ℕ) → msr_place m ≡ p → v < n → msr_in (msrs_of w 0 n) v m ≡ read_switch w v p
      step (Some place) e a = rw (one m place e) at (msrs-here 0 n v place zero-le (omega arith) (in-places m place e))
      step None e a = msrs-none 0 n v m (λ s p q r f. absurd (none≢some (sym e ∙ ap msr_place (sym f) ∙ onto s r)))

-- one that is on has a place
pub bit-placed : (w : List ℕ) (v m : ℕ) → (is_msr m && msr_bit_on w v m) ≡ msr_bit_on w v m
unfolding is_msr msr_bit_on
bit-placed w v m = step (msr_place m)
  where
    step : (p : Option ℕ) → (is_some p && read_switch w v p) ≡ read_switch w v p
    step (Some place) = refl
    step None = refl

-- ---- places in blocks of 272 words
-- two places are one only in the same block
block_same : (v k i j : ℕ) → k < 272 → j < 272 → v * 272 + k ≡ i * 272 + j → (v ≡ i) × (k ≡ j)
block_same v k i j h g e = (omega arith, omega arith)

-- the words of another block than the one in which a place is
block-set : (w : List ℕ) (v i p x : ℕ) → v * 272 ≤ p → p < v * 272 + 272 → i ≢ v → take 272 (drop (i * 272) (set w p x)) ≡ take 272 (drop (i * 272) w)
block-set w v i p x a b d = go (side i v)
  where
    go : Side i v → take 272 (drop (i * 272) (set w p x)) ≡ take 272 (drop (i * 272) w)
    go (below h e) =
        let far : p ≡ i * 272 + (p - i * 272) = omega arith in
        rw (far, drop-set-add) (take-set-le 272 (drop (i * 272) w) (p - i * 272) x (omega arith))
    go (level h e) = absurd (d h)
    go (over h e) = ap (take 272) (drop-set-lt (i * 272) w p x (omega arith))

module _ (w : List ℕ) (v : ℕ) where
  -- ---- a plain field set
  pub field-set : (k x : ℕ) → v * 272 + k < length w → field (set_field w v k x) v k ≡ x
  unfolding field set_field
  field-set k x h = get_or-set_same w (v * 272 + k) x 0 h

  pub field-set-other : (k x i j : ℕ) → k < 272 → j < 272 → (i ≡ v → j ≡ k → ⊥) → field (set_field w v k x) i j ≡ field w i j
  unfolding field set_field
  field-set-other k x i j h g d = get_or-set_other w (v * 272 + k) (i * 272 + j) x 0 (λ e. let s = block_same i j v k g h e in d s.0 s.1)

  pub field-block : (k x i : ℕ) → k < 272 → i ≢ v → take 272 (drop (i * 272) (set_field w v k x)) ≡ take 272 (drop (i * 272) w)
  unfolding set_field
  field-block k x i h d = block-set w v i (v * 272 + k) x (omega arith) (omega arith) d

  pub field-length : (k x : ℕ) → length (set_field w v k x) ≡ length w
  unfolding set_field
  field-length k x = length-set w (v * 272 + k) x

  -- ---- an MSR's switch set: one of the words of switches, or nothing
  pub bit-cases : (P : List ℕ → Type 0) (m : ℕ) (on : Bool) → ((k x : ℕ) → 16 ≤ k → k < 272 → P (set_field w v k x)) → P w → P (set_msr_bit w v m on)
  unfolding set_msr_bit switched_field
  bit-cases P m on f g = step (msr_place m) refl
    where
      step : (p : Option ℕ) → msr_place m ≡ p → P (set_switch w v p on)
      step (Some place) e = let b = in-places m place e in f (16 + place / 64) _ (omega arith) (omega arith)
      step None e = g

  module _ (m : ℕ) (on : Bool) where
    pub bit_length : length (set_msr_bit w v m on) ≡ length w
    bit_length = bit-cases (λ x. length x ≡ length w) m on (λ k x a b. field-length k x) refl

    pub bit-field : (i k : ℕ) → k < 16 → field (set_msr_bit w v m on) i k ≡ field w i k
    bit-field i k l = bit-cases (λ x. field x i k ≡ field w i k) m on (λ j x a b. field-set-other j x i k b (omega arith) (λ _ e. omega arith)) refl

    pub bit-block : (i : ℕ) → i ≢ v → take 272 (drop (i * 272) (set_msr_bit w v m on)) ≡ take 272 (drop (i * 272) w)
    bit-block i d = bit-cases (λ x. take 272 (drop (i * 272) x) ≡ take 272 (drop (i * 272) w)) m on (λ k x a b. field-block k x i b d) refl

-- ---- the switch of a place set
module _ (w : List ℕ) (v place : ℕ) (on : Bool) (h : place < 16384) (l : v * 272 + 272 ≤ length w) where
  abbrev after : List ℕ
  after = switched_field w v (16 + place / 64) (place % 64) on

  place_set : switch_on after v place ≡ on
  unfolding switch_on switched_field put_bit64
  place_set = rw (field-set w v (16 + place / 64) _ (omega arith), lt-ltb (place % 64) 64 (omega arith)) (on-put _ (place % 64) on)

  place_other : (u q : ℕ) → q < 16384 → (v ≡ u → place ≡ q → ⊥) → switch_on after u q ≡ switch_on w u q
  unfolding switch_on switched_field put_bit64
  place_other u q k d =
      test (eqb u v && eqb (q / 64) (place / 64))
      (λ t. let p = eqb-true u v (and_l (eqb u v) _ t) in
      let r = eqb-true (q / 64) (place / 64) (and_r (eqb u v) _ t) in
      rw (p, r, field-set w v (16 + place / 64) _ (omega arith), lt-ltb (place % 64) 64 (omega arith))
      (on-put-other _ (place % 64) (q % 64) on (λ e. d (sym p) (omega arith))))
      (λ t. ap (λ x. is_on x (q % 64))
      (field-set-other w v (16 + place / 64) _ u (16 + q / 64) (omega arith) (omega arith)
      (λ e f. clash (and_i (eqb u v) (eqb (q / 64) (place / 64)) (eq-eqb u v e) (eq-eqb (q / 64) (place / 64) (omega arith))) t)))

-- ---- a switch set is an entry put or forgotten
bit-looks : (w : List ℕ) (v m : ℕ) (on : Bool) (u k : ℕ) → v * 272 + 272 ≤ length w
    → msr_bit_on (set_msr_bit w v m on) u k ≡ cond (is_msr m && (eqb v u && eqb m k)) on (msr_bit_on w u k)
unfolding msr_bit_on set_msr_bit is_msr
bit-looks w v m on u k l = step (msr_place m) refl
  where
    other : (place : ℕ) → msr_place m ≡ Some place → (v ≡ u → m ≡ k → ⊥) → (p : Option ℕ) → msr_place k ≡ p → read_switch (set_switch w v (Some place) on) u p ≡ read_switch w u p
    other place h d (Some q) e = place_other w v place on (in-places m place h) l u q (in-places k q e) (λ f g. d f (sym (one m place h) ∙ ap msr_at g ∙ one k q e))
    other place h d None e = refl

    step : (p : Option ℕ) → msr_place m ≡ p → read_switch (set_switch w v p on) u (msr_place k) ≡ cond (is_some p && (eqb v u && eqb m k)) on (read_switch w u (msr_place k))
    step (Some place) h =
        by_place v m u k (λ x y. read_switch (set_switch w v (Some place) on) x (msr_place y)) (λ x y. read_switch w x (msr_place y)) on
        (rw h (place_set w v place on (in-places m place h) l)) (λ d. other place h d (msr_place k) refl)
    step None h = refl

pub set-msr : (w : List ℕ) (n v m : ℕ) → n * 272 ≤ length w → v < n → (on : Bool)
    → msrs_of (set_msr_bit w v m on) 0 n ≡ set_msr (record { vcpu = v; msr = m }) on (msrs_of w 0 n)
set-msr w n v m l a on =
    let this : Msr = record { vcpu = v; msr = m } in
    let up = msrs-rising w n in
    let g = msrs-numbered w n in
    msr-ext _ _ (msrs-rising (set_msr_bit w v m on) n) (msrs-numbered (set_msr_bit w v m on) n) (set-rising this (msrs_of w 0 n) on up)
    (set-every this (msrs_of w 0 n) numbered on (λ h. lt-ltb m (2 ^ 64) (omega (arith, small m h))) g)
    (λ u k. msrs-look (set_msr_bit w v m on) n u k ∙ rw (bit-looks w v m on u k (omega arith)) (inside u k) ∙ sym (set-looks this (msrs_of w 0 n) on up g u k))
  where
    inside : (u k : ℕ) → (ltb u n && cond (is_msr m && (eqb v u && eqb m k)) on (msr_bit_on w u k)) ≡ cond (is_msr m && (eqb v u && eqb m k)) on (msr_in (msrs_of w 0 n) u k)
    inside u k =
        test (is_msr m && (eqb v u && eqb m k)) (λ t. rw (t, ← eqb-true v u (and_l (eqb v u) (eqb m k) (and_r (is_msr m) _ t)), lt-ltb v n a))
        (λ t. rw (t, msrs-look w n u k))

-- ---- words that say the same switches
switches-same : (w x : List ℕ) (v place n : ℕ) (rest : List Msr) → place + n ≤ 16384
    → ((k : ℕ) → 16 ≤ k → k < 272 → field x v k ≡ field w v k) → switches_on x v place n rest ≡ switches_on w v place n rest
unfolding switches_on switch_on
switches-same w x v place zero rest h q = refl
switches-same w x v place (suc n) rest h q = rw (q (16 + place / 64) (omega arith) (omega arith), switches-same w x v (suc place) n rest (omega arith) q)

pub msrs-same : (w x : List ℕ) (v n : ℕ) → ((i k : ℕ) → 16 ≤ k → k < 272 → field x i k ≡ field w i k) → msrs_of x v n ≡ msrs_of w v n
unfolding msrs_of
msrs-same w x v zero q = refl
msrs-same w x v (suc n) q = rw (msrs-same w x (suc v) n q) (switches-same w x v 0 16384 (msrs_of w (suc v) n) (omega arith) (q v))

pub msrs-field : (w : List ℕ) (v k x n : ℕ) → k < 16 → msrs_of (set_field w v k x) 0 n ≡ msrs_of w 0 n
msrs-field w v k x n h = msrs-same w (set_field w v k x) 0 n (λ i j a b. field-set-other w v k x i j (omega arith) b (λ _ e. omega arith))

-- ---- words that are all 0
zeros-at : (k i : ℕ) → get_or {A = ℕ} (replicate k 0) i 0 ≡ 0
zeros-at zero i = refl
zeros-at (suc k) zero = refl
zeros-at (suc k) (suc i) = zeros-at k i

pub zeros-field : (k i j : ℕ) → field (replicate k 0) i j ≡ 0
unfolding field
zeros-field k i j = zeros-at k (i * 272 + j)

zeros-off : (k v : ℕ) (p : Option ℕ) → read_switch (replicate k 0) v p ≡ false
unfolding switch_on
zeros-off k v (Some place) = rw (zeros-field k v (16 + place / 64)) (on_none (place % 64))
zeros-off k v None = refl

pub zeros-msrs : (k n : ℕ) → msrs_of (replicate k 0) 0 n ≡ []
unfolding msr_bit_on msr_in
zeros-msrs k n =
    msr-ext _ [] (msrs-rising (replicate k 0) n) (msrs-numbered (replicate k 0) n) refl refl (λ v m. msrs-look (replicate k 0) n v m ∙ rw (zeros-off k v (msr_place m)) (and-false (ltb v n)))
