-- A loaded session stands for what its image states. Assumes nothing.
use mathlib.Core.Path.{◌≡◌, refl, sym, ap, ◌∙◌, subst}
use mathlib.Core.Logic.{◌≢◌}
use Prim.Native.Nat.{ℕ, zero, suc, ◌+◌, ◌-◌, ◌*◌, ◌/◌, ◌%◌, ◌^◌, ◌≤◌, ◌<◌, zero-le}
use native.Mathlib.Nat.{sub-zero, zero-sub, zero-add, add-zero, not-suc-le-zero, le_of_suc-le-suc, le_refl}
use native.Mathlib.Omega.{arith}
use mathlib.Core.List.{List, [], ◌∷◌, ◌++◌, map, append_assoc, append-nil}
use mathlib.Core.Bool.{Bool, true, false, cond, not, ◌&&◌, So}
use lib.ListN.{length, get_or, set, take, drop, replicate, length-set, length-replicate, length-append, length-drop, length-map}
use lib.Seq.{ext_get_or, get_or-set_other, set_at, take_at, drop_at}
use lib.Pow.{pow_pos}
use lib.Dec.{leb, ltb, eqb}
use borrow.Author.Tests.{leb-true, le-leb, lt-ltb, eqb-true}
use Rattle.msrs.specs.Place.{is_msr}
use Rattle.kvmi.specs.declared.Settings.{Settings}
use Rattle.kvmi.specs.Bits.{bit, among, every, is_on, put_bit}
use Rattle.kvmi.specs.Ascending.{rising, put}
use Rattle.kvmi.specs.Tables.{Vcpu, Msr, Page, Tables, msr_key, page_key, resting}
use Rattle.kvmi.specs.Image.{ms_form, pa_form, pa_may}
use Rattle.kvmi.specs.Change.{set_msr}
use Rattle.kvmi.specs.Valid.{Valid, pa_good}
use Rattle.store.specs.Words.{field, set_field, set_msr_bit, cleared, SINGLESTEP, CRS, EVENTS, PAUSES}
use Rattle.page_words.specs.PageWords.{word_key, page_word_count}
use Rattle.store.specs.Meaning.{msrs_of, vcpu_of_words, vcpus_of}
use Rattle.page_words.specs.Meaning.{page_of_word, pages_of, good_word, PagesGood}
use Rattle.image_test.specs.Test.{ready_loaded}
use Rattle.image_reader.specs.Read.{vcpu_loaded, vcpus_loaded, msrs_loaded, page_word, pages_loaded}
use Rattle.laws.proofs.Bool.{and_l, and_r, and_i, every-head, every-tail, test, length-snoc}
use Rattle.laws.proofs.Bits.{on-put, on-put-other, put-below, on_none}
use Rattle.laws.proofs.Ascending.{Side, below, level, over, side, above, above-snoc, rising_snoc, rising-low, rising-rest, rising-cons, put-cases}
use Rattle.laws.proofs.Valid.{ms-numbers, pa-numbers}
use Rattle.refine.proofs.Msrs.{field-set, field-set-other, field-length, bit-cases, bit_length, bit-field, set-msr, msrs-field}

-- ---- vCPU fields
-- one record's four fields
module _ (w : List ℕ) (i : ℕ) (v : Vcpu) where
  loaded-length : length (vcpu_loaded w i v) ≡ length w
  unfolding vcpu_loaded
  loaded-length =
      field-length _ i PAUSES v.pauses ∙ field-length _ i EVENTS v.events ∙ field-length _ i CRS v.crs ∙ field-length w i SINGLESTEP (bit v.singlestep)

  -- a field of another vCPU, or none of the four
  loaded-other : (j k : ℕ) → k < 272 → (j ≡ i → k < 4 → ⊥) → field (vcpu_loaded w i v) j k ≡ field w j k
  unfolding vcpu_loaded
  loaded-other j k h d =
      field-set-other _ i PAUSES v.pauses j k (omega arith) h (λ p q. d p (omega arith))
      ∙ field-set-other _ i EVENTS v.events j k (omega arith) h (λ p q. d p (omega arith))
      ∙ field-set-other _ i CRS v.crs j k (omega arith) h (λ p q. d p (omega arith))
      ∙ field-set-other w i SINGLESTEP (bit v.singlestep) j k (omega arith) h (λ p q. d p (omega arith))

  module _ (l : i * 272 + 272 ≤ length w) where
    loaded-step : field (vcpu_loaded w i v) i SINGLESTEP ≡ bit v.singlestep
    unfolding vcpu_loaded
    loaded-step =
        field-set-other _ i PAUSES v.pauses i SINGLESTEP (omega arith) (omega arith) (λ p q. omega arith)
        ∙ field-set-other _ i EVENTS v.events i SINGLESTEP (omega arith) (omega arith) (λ p q. omega arith)
        ∙ field-set-other _ i CRS v.crs i SINGLESTEP (omega arith) (omega arith) (λ p q. omega arith)
        ∙ field-set w i SINGLESTEP (bit v.singlestep) (omega arith)

    loaded-crs : field (vcpu_loaded w i v) i CRS ≡ v.crs
    unfolding vcpu_loaded
    loaded-crs =
        field-set-other _ i PAUSES v.pauses i CRS (omega arith) (omega arith) (λ p q. omega arith)
        ∙ field-set-other _ i EVENTS v.events i CRS (omega arith) (omega arith) (λ p q. omega arith)
        ∙ field-set (set_field w i SINGLESTEP (bit v.singlestep)) i CRS v.crs (rw field-length (omega arith))

    loaded-events : field (vcpu_loaded w i v) i EVENTS ≡ v.events
    unfolding vcpu_loaded
    loaded-events =
        field-set-other _ i PAUSES v.pauses i EVENTS (omega arith) (omega arith) (λ p q. omega arith)
        ∙ field-set (set_field (set_field w i SINGLESTEP (bit v.singlestep)) i CRS v.crs) i EVENTS v.events (simp field-length (omega arith))

    loaded-pauses : field (vcpu_loaded w i v) i PAUSES ≡ v.pauses
    unfolding vcpu_loaded
    loaded-pauses =
        field-set (set_field (set_field (set_field w i SINGLESTEP (bit v.singlestep)) i CRS v.crs) i EVENTS v.events) i PAUSES v.pauses (simp field-length (omega arith))

-- a word past the vCPUs that are loaded
one-past : (w : List ℕ) (i k x p : ℕ) → k < 272 → i * 272 + 272 ≤ p → get_or (set_field w i k x) p 0 ≡ get_or w p 0
unfolding set_field
one-past w i k x p h l = get_or-set_other w (i * 272 + k) p x 0 (λ e. omega arith)

loaded-past : (w : List ℕ) (i : ℕ) (v : Vcpu) (p : ℕ) → i * 272 + 272 ≤ p → get_or (vcpu_loaded w i v) p 0 ≡ get_or w p 0
unfolding vcpu_loaded
loaded-past w i v p l =
    one-past _ i PAUSES v.pauses p (omega arith) l ∙ one-past _ i EVENTS v.events p (omega arith) l ∙ one-past _ i CRS v.crs p (omega arith) l
    ∙ one-past w i SINGLESTEP (bit v.singlestep) p (omega arith) l

pub vcpus-loaded-length : (w : List ℕ) (i : ℕ) (vs : List Vcpu) → length (vcpus_loaded w i vs) ≡ length w
unfolding vcpus_loaded
vcpus-loaded-length w i [] = refl
vcpus-loaded-length w i (v ∷ vs) = vcpus-loaded-length (vcpu_loaded w i v) (suc i) vs ∙ loaded-length w i v

-- fields of vCPUs before the first, and fields that no record has
pub vcpus-loaded-other : (w : List ℕ) (i : ℕ) (vs : List Vcpu) (j k : ℕ) → k < 272 → (i ≤ j → k < 4 → ⊥) → field (vcpus_loaded w i vs) j k ≡ field w j k
unfolding vcpus_loaded
vcpus-loaded-other w i [] j k h d = refl
vcpus-loaded-other w i (v ∷ vs) j k h d =
    vcpus-loaded-other (vcpu_loaded w i v) (suc i) vs j k h (λ p q. d (omega arith) q) ∙ loaded-other w i v j k h (λ p q. d (omega arith) q)

pub vcpus-loaded-past : (w : List ℕ) (i : ℕ) (vs : List Vcpu) (p : ℕ) → (i + length vs) * 272 ≤ p → get_or (vcpus_loaded w i vs) p 0 ≡ get_or w p 0
unfolding vcpus_loaded
vcpus-loaded-past w i [] p h = refl
vcpus-loaded-past w i (v ∷ vs) p h = vcpus-loaded-past (vcpu_loaded w i v) (suc i) vs p (omega arith) ∙ loaded-past w i v p (omega arith)

-- the record of one vCPU, in the words
pub record Holds (w : List ℕ) (i : ℕ) (v : Vcpu) : Type 0 where
  pub step : field w i SINGLESTEP ≡ bit v.singlestep
  pub crs : field w i CRS ≡ v.crs
  pub events : field w i EVENTS ≡ v.events
  pub pauses : field w i PAUSES ≡ v.pauses

pub vcpus-loaded-at : (w : List ℕ) (i : ℕ) (vs : List Vcpu) → (i + length vs) * 272 ≤ length w → (j : ℕ) → j < length vs → Holds (vcpus_loaded w i vs) (i + j) (get_or vs j resting)
unfolding vcpus_loaded
vcpus-loaded-at w i [] l j h = absurd (not-suc-le-zero h)
vcpus-loaded-at w i (v ∷ vs) l zero h =
    let u = vcpu_loaded w i v in
    let same : i + 0 ≡ i = omega arith in
    let keep : (k : ℕ) → k < 272 → field (vcpus_loaded u (suc i) vs) i k ≡ field u i k = λ k b. vcpus-loaded-other u (suc i) vs i k b (λ p q. omega arith) in
    rw same
    (record {
      step = keep SINGLESTEP (omega arith) ∙ loaded-step w i v (omega arith);
      crs = keep CRS (omega arith) ∙ loaded-crs w i v (omega arith);
      events = keep EVENTS (omega arith) ∙ loaded-events w i v (omega arith);
      pauses = keep PAUSES (omega arith) ∙ loaded-pauses w i v (omega arith);
    })
vcpus-loaded-at w i (v ∷ vs) l (suc j) h =
    let next : i + suc j ≡ suc i + j = omega arith in
    rw next (vcpus-loaded-at (vcpu_loaded w i v) (suc i) vs (rw (loaded-length w i v) (omega arith)) j (le_of_suc-le-suc h))

-- ---- ready marks
pub ready-loaded-low : (r i : ℕ) (vs : List Vcpu) (j : ℕ) → j < i → is_on (ready_loaded r i vs) j ≡ is_on r j
unfolding ready_loaded
ready-loaded-low r i [] j h = refl
ready-loaded-low r i (v ∷ vs) j h = ready-loaded-low (put_bit r i v.ready) (suc i) vs j (omega arith) ∙ on-put-other r i j v.ready (λ e. omega arith)

pub ready-loaded-at : (r i : ℕ) (vs : List Vcpu) (j : ℕ) → j < length vs → is_on (ready_loaded r i vs) (i + j) ≡ (get_or vs j resting).ready
unfolding ready_loaded
ready-loaded-at r i [] j h = absurd (not-suc-le-zero h)
ready-loaded-at r i (v ∷ vs) zero h =
    let same : i + 0 ≡ i = omega arith in
    rw same (ready-loaded-low (put_bit r i v.ready) (suc i) vs i (le_refl (suc i)) ∙ on-put r i v.ready)
ready-loaded-at r i (v ∷ vs) (suc j) h = let next : i + suc j ≡ suc i + j = omega arith in rw next (ready-loaded-at (put_bit r i v.ready) (suc i) vs j (le_of_suc-le-suc h))

pub ready-loaded-below : (n r i : ℕ) (vs : List Vcpu) → r < 2 ^ n → i + length vs ≤ n → ready_loaded r i vs < 2 ^ n
unfolding ready_loaded
ready-loaded-below n r i [] h l = h
ready-loaded-below n r i (v ∷ vs) h l = ready-loaded-below n (put_bit r i v.ready) (suc i) vs (put-below n r i v.ready h (omega arith)) (omega arith)

-- ---- MSR switches
last-above : {A : Type 0} (key : A → ℕ) (lo : ℕ) (xs : List A) (k : ℕ) → So (rising key lo xs) → above key lo xs ≤ k → lo ≤ k
last-above key lo [] k g h = h
last-above key lo (x ∷ xs) k g h = let low = rising-low key lo x xs g in let r = last-above key (suc (key x)) xs k (rising-rest key lo x xs g) h in omega arith

put_last : {A : Type 0} (key : A → ℕ) (lo : ℕ) (a : A) (xs : List A) → So (rising key lo xs) → above key lo xs ≤ key a → put key a xs ≡ xs ++ (a ∷ [])
put_last key lo a [] g h = refl
put_last {A} key lo a (x ∷ xs) g h =
    let low : key x < key a = last-above key (suc (key x)) xs (key a) (rising-rest key lo x xs g) h in
    put-cases key (λ (ys : List A). ys ≡ x ∷ (xs ++ (a ∷ []))) a x xs (λ q. absurd (omega arith)) (λ q. absurd (omega arith))
    (λ q. ap (λ (ys : List A). x ∷ ys) (put_last key (suc (key x)) a xs (rising-rest key lo x xs g) h))

-- words with MSR switches loaded: each switch is one of a vCPU below n
module _ (n : ℕ) where
  abbrev pub InRange : Msr → Type 0
  InRange m = (m.vcpu < n) × So (is_msr m.msr)

  abbrev pub AllIn : List Msr → Type 0
  AllIn [] = Unit {0}
  AllIn (m ∷ ms) = InRange m × AllIn ms

  pub msrs-loaded-length : (w : List ℕ) (ms : List Msr) → length (msrs_loaded w ms) ≡ length w
  unfolding msrs_loaded
  msrs-loaded-length w [] = refl
  msrs-loaded-length w (m ∷ ms) = msrs-loaded-length (set_msr_bit w m.vcpu m.msr true) ms ∙ bit_length w m.vcpu m.msr true

  pub msrs-loaded-field : (w : List ℕ) (ms : List Msr) (i k : ℕ) → k < 16 → field (msrs_loaded w ms) i k ≡ field w i k
  unfolding msrs_loaded
  msrs-loaded-field w [] i k h = refl
  msrs-loaded-field w (m ∷ ms) i k h = msrs-loaded-field (set_msr_bit w m.vcpu m.msr true) ms i k h ∙ bit-field w m.vcpu m.msr true i k h

  bit_past : (w : List ℕ) (m : Msr) → InRange m → (p : ℕ) → n * 272 ≤ p → get_or (set_msr_bit w m.vcpu m.msr true) p 0 ≡ get_or w p 0
  unfolding set_field
  bit_past w m a p h =
      let l = a.0 in
      bit-cases w m.vcpu (λ u. get_or u p 0 ≡ get_or w p 0) m.msr true (λ k x b c. get_or-set_other w (m.vcpu * 272 + k) p x 0 (λ e. omega arith)) refl

  pub msrs-loaded-past : (w : List ℕ) (ms : List Msr) → AllIn ms → (p : ℕ) → n * 272 ≤ p → get_or (msrs_loaded w ms) p 0 ≡ get_or w p 0
  unfolding msrs_loaded
  msrs-loaded-past w [] a p h = refl
  msrs-loaded-past w (m ∷ ms) a p h = msrs-loaded-past (set_msr_bit w m.vcpu m.msr true) ms a.1 p h ∙ bit_past w m a.0 p h

  pub msrs-loaded : (w : List ℕ) (ms acc : List Msr) → n * 272 ≤ length w → AllIn ms → msrs_of w 0 n ≡ acc → So (rising msr_key 0 acc) → So (rising msr_key (above msr_key 0 acc) ms)
      → msrs_of (msrs_loaded w ms) 0 n ≡ acc ++ ms
  unfolding msrs_loaded set_msr
  msrs-loaded w [] acc l a e g h = e ∙ sym (append-nil acc)
  msrs-loaded w (m ∷ ms) acc l a e g h =
      let one : msrs_of (set_msr_bit w m.vcpu m.msr true) 0 n ≡ acc ++ (m ∷ []) = set-msr w n m.vcpu m.msr l a.0.0 true ∙ rw a.0.1 (ap (put msr_key m) e) ∙ put_last msr_key 0 m acc g (rising-low msr_key (above msr_key 0 acc) m ms h) in
      msrs-loaded (set_msr_bit w m.vcpu m.msr true) ms (acc ++ (m ∷ [])) (rw (bit_length w m.vcpu m.msr true) l) a.1 one
      (rising_snoc msr_key 0 acc m g (rising-low msr_key (above msr_key 0 acc) m ms h))
      (rw (above-snoc msr_key 0 acc m) (rising-rest msr_key (above msr_key 0 acc) m ms h))
      ∙ append_assoc acc (m ∷ []) ms

pub all_in : (vs : List Vcpu) (ms : List Msr) → So (every (ms_form vs) ms) → AllIn (length vs) ms
unfolding ms_form
all_in vs [] h = tt
all_in vs (m ∷ ms) h =
    let own = every-head (ms_form vs) m ms h in
    (((ms-numbers vs m own).0, search (and_l, and_r)), all_in vs ms (every-tail (ms_form vs) m ms h))

-- ---- pages
pub pages-loaded : (front ws : List ℕ) (ps : List Page) → length ps ≤ length ws → pages_loaded (front ++ ws) (length front) ps ≡ front ++ (map page_word ps ++ drop (length ps) ws)
unfolding pages_loaded
pages-loaded front ws [] h = refl
pages-loaded front [] (p ∷ ps) h = absurd (not-suc-le-zero h)
pages-loaded front (w ∷ ws) (p ∷ ps) h =
    let x = page_word p in
    let first : set (front ++ (w ∷ ws)) (length front) x ≡ (front ++ (x ∷ [])) ++ ws = set_at front w ws x (length front) refl ∙ sym (append_assoc front (x ∷ []) ws) in
    let place : suc (length front) ≡ length (front ++ (x ∷ [])) = sym (length-snoc front x) in
    ap (λ (l : List ℕ). pages_loaded l (suc (length front)) ps) first ∙ ap (λ (k : ℕ). pages_loaded ((front ++ (x ∷ [])) ++ ws) k ps) place
    ∙ pages-loaded (front ++ (x ∷ [])) ws ps (le_of_suc-le-suc h)
    ∙ append_assoc front (x ∷ []) (map page_word ps ++ drop (length ps) ws)

page-back : (s : Settings) (p : Page) → So (pa_good s p) → page_of_word (page_word p) ≡ p
unfolding page_of_word page_word
page-back s p h =
    let w = pa-numbers p (and_l (pa_form p) (pa_may s p) h) in
    let view : (p.view * 2 ^ 55 + p.page * 8 + p.access) / 2 ^ 55 ≡ p.view = omega arith in
    let page : (p.view * 2 ^ 55 + p.page * 8 + p.access) / 8 % 2 ^ 52 ≡ p.page = omega arith in
    let access : (p.view * 2 ^ 55 + p.page * 8 + p.access) % 8 ≡ p.access = omega arith in
    λ j. record { view = view j; page = page j; access = access j }

pages-back : (s : Settings) (ps : List Page) → So (every (pa_good s) ps) → map page_of_word (map page_word ps) ≡ ps
pages-back s [] h = refl
pages-back s (p ∷ ps) h = rw (page-back s p (every-head (pa_good s) p ps h), pages-back s ps (every-tail (pa_good s) p ps h))

word-key : (s : Settings) (p : Page) → So (pa_good s p) → word_key (page_word p) ≡ p.view * 2 ^ 52 + p.page
unfolding word_key page_word
word-key s p h = let w = pa-numbers p (and_l (pa_form p) (pa_may s p) h) in omega arith

words-rising : (s : Settings) (lo up : ℕ) (ps : List Page) → So (every (pa_good s) ps) → So (rising page_key up ps)
    → ((p : Page) → So (pa_good s p) → up ≤ page_key p → lo ≤ p.view * 2 ^ 52 + p.page) → So (rising word_key lo (map page_word ps))
words-rising s lo up [] h g q = refl
words-rising s lo up (p ∷ ps) h g q =
    let own = every-head (pa_good s) p ps h in
    let key = word-key s p own in
    rising-cons word_key lo (page_word p) (map page_word ps) (rw key (q p own (rising-low page_key up p ps g)))
    (words-rising s (suc (word_key (page_word p))) (suc (page_key p)) ps (every-tail (pa_good s) p ps h) (rising-rest page_key up p ps g) (λ r k l. rw key (later r k l)))
  where
    later : (r : Page) → So (pa_good s r) → suc (page_key p) ≤ page_key r → suc (p.view * 2 ^ 52 + p.page) ≤ r.view * 2 ^ 52 + r.page
    later r k l =
        let a = pa-numbers p (and_l (pa_form p) (pa_may s p) (every-head (pa_good s) p ps h)) in
        let b = pa-numbers r (and_l (pa_form r) (pa_may s r) k) in
        by (side p.view r.view) a.2 b.2 l
      where
        by : Side p.view r.view → p.page < 2 ^ 52 → r.page < 2 ^ 52 → suc (page_key p) ≤ page_key r → suc (p.view * 2 ^ 52 + p.page) ≤ r.view * 2 ^ 52 + r.page
        by (below x e) y z w = omega arith
        by (level x e) y z w = omega arith
        by (over x e) y z w = absurd (omega arith)

word_good : (s : Settings) (p : Page) → So (pa_good s p) → So (good_word (page_word p))
unfolding good_word page_word pa_form
word_good s p g =
    let f = and_l (pa_form p) (pa_may s p) g in
    let w = pa-numbers p f in
    let low : (p.view * 2 ^ 55 + p.page * 8 + p.access) % 8 ≡ p.access = omega arith in
    rw low (and_i (among p.access (0 ∷ 1 ∷ 3 ∷ 4 ∷ 5 ∷ [])) _ (search (and_l, and_r)) (lt-ltb (p.view * 2 ^ 55 + p.page * 8 + p.access) (2 ^ 58) (omega arith)))

words-good : (s : Settings) (ps : List Page) → So (every (pa_good s) ps) → So (every good_word (map page_word ps))
words-good s [] h = refl
words-good s (p ∷ ps) h = and_i (good_word (page_word p)) _ (word_good s p (every-head (pa_good s) p ps h)) (words-good s ps (every-tail (pa_good s) p ps h))

drop-replicate : (k n : ℕ) → drop k (replicate {A = ℕ} n 0) ≡ replicate (n - k) 0
drop-replicate zero n = rw sub-zero
drop-replicate (suc k) zero = rw zero-sub
drop-replicate (suc k) (suc n) = let e : suc n - suc k ≡ n - k = omega arith in rw e (drop-replicate k n)

-- the page words that a valid list of pages is loaded as
module _ (s : Settings) (t : Tables) (a : Valid s t) (pages : List ℕ) (long : length pages ≡ page_word_count) where
  abbrev loaded_pages : List ℕ
  loaded_pages = pages_loaded (cleared pages) 0 t.pages

  abbrev zeros : List ℕ
  zeros = replicate (length pages) 0

  fits_in : length t.pages ≤ length zeros
  fits_in = let f = a.pa_few in let z : length zeros ≡ length pages = length-replicate {A = ℕ} (length pages) 0 in omega arith

  split : loaded_pages ≡ map page_word t.pages ++ drop (length t.pages) zeros
  unfolding cleared
  split = pages-loaded [] zeros t.pages fits_in

  taken : take (length t.pages) loaded_pages ≡ map page_word t.pages
  taken = ap (take (length t.pages)) split ∙ take_at (map page_word t.pages) (drop (length t.pages) zeros) (length t.pages) (length-map t.pages page_word)

  pub pages-mean : pages_of loaded_pages (length t.pages) ≡ t.pages
  unfolding pages_of
  pages-mean = ap (map page_of_word) taken ∙ pages-back s t.pages a.pas

  pub pages-length : length loaded_pages ≡ page_word_count
  pages-length =
      ap length split ∙ length-append (map page_word t.pages) (drop (length t.pages) zeros)
      ∙ (let f = fits_in in let m = length-map t.pages page_word in let d = length-drop (length t.pages) zeros in let z : length zeros ≡ length pages = length-replicate {A = ℕ} (length pages) 0 in omega arith)

  pub pages-good : PagesGood loaded_pages (length t.pages)
  pages-good =
      let total = pages-length in
      record {
        inside = let f = a.pa_few in omega arith;
        up = rw taken (words-rising s 0 0 t.pages a.pas a.pa_up (λ p _ _. zero-le));
        good = rw taken (words-good s t.pages a.pas);
        rest = ap (drop (length t.pages)) split ∙ drop_at (map page_word t.pages) (drop (length t.pages) zeros) (length t.pages) (length-map t.pages page_word)
            ∙ drop-replicate (length t.pages) (length pages) ∙ ap (λ (k : ℕ). replicate (k - length t.pages) 0) (long ∙ sym total);
      }
