-- One record more of an accepted image: the words hold what the records before it state. Assumes nothing.
use mathlib.Core.Path.{◌≡◌, refl, sym, subst, ◌∙◌}
use mathlib.Core.Logic.{◌⊎◌, inl, inr, ⊎_elim}
use Prim.Native.Nat.{ℕ, suc, ◌+◌, ◌%◌, ◌^◌, ◌≤◌, ◌<◌}
use native.Mathlib.Nat.{add-zero, zero-add, suc-add, add-suc}
use native.Mathlib.Omega.{arith}
use mathlib.Core.List.{List, [], ◌∷◌, ◌++◌}
use mathlib.Core.Bool.{true, ◌&&◌, So}
use lib.ListN.{length, set, drop}
use lib.Dec.{eqb}
use borrow.Author.Tests.{leb-true, eqb-true, ltb-true}
use Rattle.kvmi.specs.declared.Settings.{Settings}
use Rattle.kvmi.specs.Record.{VM, VC, MS, PA, EN, Rec, order_at, order_of}
use Rattle.kvmi.specs.Tables.{Vcpu, Msr, Page, Tables}
use Rattle.kvmi.specs.Image.{vcpu_of_row, page_of_row, with_record, vm_form, vm_may, pa_form, Loaded, loaded, bad_form, forbidden, judge, ending, fits_in, may_of, load_rest, stated, load_records, load_image}
use Rattle.store.specs.Words.{set_msr_bit, cleared}
use Rattle.laws.proofs.Bool.{and_l, and_r, length-snoc}
use Rattle.laws.proofs.Load.{judged, refused}
use Rattle.kvmi.specs.declared.Signal.TheVariants.{Quiet}
use Rattle.kvmi.specs.Answer.{paper, handled}
use Rattle.session.specs.State.{state}
use Rattle.session.specs.Calls.{Told}
use Rattle.std.specs.Prelude.{Some, None, Result, Ok, Err}
use Rattle.std.specs.Prelude as std
use Rattle.image_step.specs.declared.Stated.{Stated}
use Rattle.image_step.specs.declared.Refusal.{Refusal}
use Rattle.image_step.specs.Step.{refusal_answer}
use Rattle.image_reader.specs.Read.{vcpu_loaded, vcpus_loaded, msrs_loaded, page_word, pages_loaded, loaded_state, told_refused, told_loaded, opened_session}
use Rattle.image_form.specs.declared.Kind.{Kind}
use Rattle.image_form.specs.declared.Kind.TheVariants.{Vm, Vc, Ms, Pa, En}
use Rattle.image_form.specs.Form.{size_of, mark_at, row_at}
use Rattle.image_form.proofs.Forms.{mark-cut, mark-room}
use Rattle.image_test.specs.Test.{records_at, outcome}
use Rattle.image_reader.specs.Load.{loading, page_by, word_of, vcpus_by, pages_by}
use Rattle.image_test.proofs.Steps.{rest-whole, cut-none, first-none}

-- ---- one element more
vcpus-snoc : (w : List ℕ) (i : ℕ) (vs : List Vcpu) (v : Vcpu) → vcpus_loaded w i (vs ++ (v ∷ [])) ≡ vcpu_loaded (vcpus_loaded w i vs) (i + length vs) v
unfolding vcpus_loaded
vcpus-snoc w i [] v = rw add-zero
vcpus-snoc w i (x ∷ vs) v = rw (vcpus-snoc (vcpu_loaded w i x) (suc i) vs v, suc-add, ← add-suc)

msrs-snoc : (w : List ℕ) (ms : List Msr) (m : Msr) → msrs_loaded w (ms ++ (m ∷ [])) ≡ set_msr_bit (msrs_loaded w ms) m.vcpu m.msr true
unfolding msrs_loaded
msrs-snoc w [] m = refl
msrs-snoc w (x ∷ ms) m = msrs-snoc (set_msr_bit w x.vcpu x.msr true) ms m

pages-snoc : (w : List ℕ) (i : ℕ) (ps : List Page) (p : Page) → pages_loaded w i (ps ++ (p ∷ [])) ≡ set (pages_loaded w i ps) (i + length ps) (page_word p)
unfolding pages_loaded
pages-snoc w i [] p = rw add-zero
pages-snoc w i (x ∷ ps) p = rw (pages-snoc (set w i (page_word x)) (suc i) ps p, suc-add, ← add-suc)

word_good : (p : Page) → So (pa_form p) → word_of p.view p.page p.access ≡ page_word p
unfolding word_of page_word pa_form
word_good p h =
    let v : p.view ≤ 7 = leb-true p.view 7 (search (and_l, and_r) depth 8) in
    let g : p.page < 2 ^ 52 = ltb-true p.page (2 ^ 52) (search (and_l, and_r) depth 8) in
    let a : p.view % 8 ≡ p.view = omega arith in
    let b : p.page % 2 ^ 52 ≡ p.page = omega arith in
    rw (a, b)

-- ---- a kind that loads words
abbrev loads : Kind → Type 0
loads Vm = ⊥
loads Vc = Unit {0}
loads Ms = Unit {0}
loads Pa = Unit {0}
loads En = ⊥

unsome : {a b : Kind} → Some a ≡ Some b → a ≡ b
unsome e = cc

loads-some : (m : std.Option Kind) (k : Kind) → loading m ≡ Some k → (m ≡ Some k) × loads k
loads-some (Some Vm) k e = cc
loads-some (Some Vc) k e = subst (λ x. (Some Vc ≡ Some x) × loads x) (unsome e) (refl, tt)
loads-some (Some Ms) k e = subst (λ x. (Some Ms ≡ Some x) × loads x) (unsome e) (refl, tt)
loads-some (Some Pa) k e = subst (λ x. (Some Pa ≡ Some x) × loads x) (unsome e) (refl, tt)
loads-some (Some En) k e = cc
loads-some None k e = cc

-- ---- the words so far: t is what the records before a place state
pub record Loading (s : Settings) (l : List ℕ) (u : Tables) (v₀ p₀ : List ℕ) (at i : ℕ) (v p : List ℕ) : Type 0 where
  pub tables : Tables
  pub least : ℕ
  pub few : s.vcpus ≤ 16
  pub goes : load_rest s s.vcpus at least tables (records_at l at) ≡ loaded u
  pub early : (tables.msrs ≡ []) ⊎ (order_at 2 0 0 < least)
  pub vcpus : v ≡ msrs_loaded (vcpus_loaded v₀ 0 tables.vcpus) tables.msrs
  pub pages : p ≡ pages_loaded p₀ 0 tables.pages
  pub count : length tables.pages ≡ i

module _ (s : Settings) (l : List ℕ) (u : Tables) (v₀ p₀ : List ℕ) where
  module _ (at i : ℕ) (v p : List ℕ) (h : Loading s l u v₀ p₀ at i v p) where
    load-vc : mark_at l at ≡ Some Vc → Loading s l u v₀ p₀ (at + 10) i (vcpus_by Vc l at v) p
    unfolding vcpus_by msrs_loaded
    load-vc m =
        let t = h.tables in
        let f = row_at VC l at in
        let g : judge (fits_in VC s.vcpus h.least t f) (may_of VC s f) at (load_rest s s.vcpus (at + 10) (suc (order_of VC f)) (with_record VC t f) (records_at l (at + 10))) ≡ loaded u = rw (rest-whole l at VC m) at h.goes in
        let j = judged (fits_in VC s.vcpus h.least t f) (may_of VC s f) at (load_rest s s.vcpus (at + 10) (suc (order_of VC f)) (with_record VC t f) (records_at l (at + 10))) u g in
        let a = j.0 in
        let k : f.0 ≡ length t.vcpus = eqb-true f.0 (length t.vcpus) (search (and_l, and_r) depth 8) in
        let n : f.0 < s.vcpus = ltb-true f.0 s.vcpus (search (and_l, and_r) depth 8) in
        let low : h.least ≤ order_of VC f = leb-true h.least (order_of VC f) (search (and_l, and_r) depth 8) in
        let no : t.msrs ≡ [] = ⊎_elim (λ e. e) (λ e. absurd (omega (arith, h.few))) h.early in
        record {
          tables = with_record VC t f;
          least = suc (order_of VC f);
          few = h.few;
          goes = j.2;
          early = inl no;
          vcpus = rw (h.vcpus, no, vcpus-snoc v₀ 0 t.vcpus (vcpu_of_row f), zero-add, ← k);
          pages = h.pages;
          count = h.count;
        }

    load-ms : mark_at l at ≡ Some Ms → Loading s l u v₀ p₀ (at + 8) i (vcpus_by Ms l at v) p
    unfolding vcpus_by
    load-ms m =
        let t = h.tables in
        let f = row_at MS l at in
        let g : judge (fits_in MS s.vcpus h.least t f) true at (load_rest s s.vcpus (at + 8) (suc (order_of MS f)) (with_record MS t f) (records_at l (at + 8))) ≡ loaded u = rw (rest-whole l at MS m) at h.goes in
        let j = judged (fits_in MS s.vcpus h.least t f) true at (load_rest s s.vcpus (at + 8) (suc (order_of MS f)) (with_record MS t f) (records_at l (at + 8))) u g in
        record {
          tables = with_record MS t f;
          least = suc (order_of MS f);
          few = h.few;
          goes = j.2;
          early = inr (omega arith);
          vcpus = rw (h.vcpus, msrs-snoc);
          pages = h.pages;
          count = h.count;
        }

    load-pa : mark_at l at ≡ Some Pa → Loading s l u v₀ p₀ (at + 14) (i + 1) v (pages_by Pa l at i p)
    unfolding pages_by
    load-pa m =
        let t = h.tables in
        let f = row_at PA l at in
        let g : judge (fits_in PA s.vcpus h.least t f) (may_of PA s f) at (load_rest s s.vcpus (at + 14) (suc (order_of PA f)) (with_record PA t f) (records_at l (at + 14))) ≡ loaded u = rw (rest-whole l at PA m) at h.goes in
        let j = judged (fits_in PA s.vcpus h.least t f) (may_of PA s f) at (load_rest s s.vcpus (at + 14) (suc (order_of PA f)) (with_record PA t f) (records_at l (at + 14))) u g in
        let a = j.0 in
        let form : So (pa_form (page_of_row f)) = search (and_l, and_r) depth 8 in
        let len = length-snoc t.pages (page_of_row f) in
        record {
          tables = with_record PA t f;
          least = suc (order_of PA f);
          few = h.few;
          goes = j.2;
          early = inr (omega arith);
          vcpus = h.vcpus;
          pages = rw (h.pages, pages-snoc p₀ 0 t.pages (page_of_row f), zero-add, h.count, word_good (page_of_row f) form);
          count = omega (arith, len, h.count);
        }

    end-tables : (t : Tables) (off : ℕ) (rs : List Rec) → ending t off rs ≡ loaded u → t ≡ u
    end-tables t off [] e = cc
    end-tables t off (r ∷ rs) e = refused e

    ended : (m : std.Option Kind) → mark_at l at ≡ m → loading m ≡ None → (v ≡ msrs_loaded (vcpus_loaded v₀ 0 u.vcpus) u.msrs) × (p ≡ pages_loaded p₀ 0 u.pages)
    unfolding records_at
    ended (Some Vm) m e = refused (rw (rest-whole l at VM m) at h.goes)
    ended (Some Vc) m e = cc
    ended (Some Ms) m e = cc
    ended (Some Pa) m e = cc
    ended (Some En) m e =
        let t = h.tables in
        let f = row_at EN l at in
        let g : judge (fits_in EN s.vcpus h.least t f) true at (ending t (at + 6) (records_at l (at + 6))) ≡ loaded u = rw (rest-whole l at EN m) at h.goes in
        let same : t ≡ u = end-tables t (at + 6) (records_at l (at + 6)) (judged (fits_in EN s.vcpus h.least t f) true at (ending t (at + 6) (records_at l (at + 6))) u g).2 in
        rw (← same) (h.vcpus, h.pages)
    ended None m e = refused (sym (cut-none s s.vcpus at h.least h.tables (drop at l) (mark-cut l at m)) ∙ h.goes)

    pub load-ended : loading (mark_at l at) ≡ None → (v ≡ msrs_loaded (vcpus_loaded v₀ 0 u.vcpus) u.msrs) × (p ≡ pages_loaded p₀ 0 u.pages)
    load-ended e = ended (mark_at l at) refl e

    pub load-more : (k : Kind) → loading (mark_at l at) ≡ Some k → Loading s l u v₀ p₀ (at + size_of k) (i + page_by k) (vcpus_by k l at v) (pages_by k l at i p)
    unfolding vcpus_by pages_by
    load-more Vm e = absurd (loads-some _ Vm e).1
    load-more Vc e = rw add-zero (load-vc (loads-some _ Vc e).0)
    load-more Ms e = rw add-zero (load-ms (loads-some _ Ms e).0)
    load-more Pa e = load-pa (loads-some _ Pa e).0
    load-more En e = absurd (loads-some _ En e).1

  begin-by : (m : std.Option Kind) → mark_at l 0 ≡ m → load_records s (records_at l 0) ≡ loaded u → Loading s l u v₀ p₀ 8 0 v₀ p₀
  unfolding records_at vm_form vm_may vcpus_loaded msrs_loaded pages_loaded
  begin-by (Some Vm) m e =
      let f = row_at VM l 0 in
      let next = load_rest s f.1.0 8 (suc (order_of VM f)) (stated f.1.1.0) (records_at l 8) in
      let g : judge (eqb f.0 1 && vm_form f.1.0 f.1.1.0) (vm_may s f.1.0 f.1.1.0) 0 next ≡ loaded u = rw (rest-whole l 0 VM m) at e in
      let j = judged (eqb f.0 1 && vm_form f.1.0 f.1.1.0) (vm_may s f.1.0 f.1.1.0) 0 next u g in
      let a = j.0 in
      let b = j.1 in
      let n : f.1.0 ≡ s.vcpus = eqb-true f.1.0 s.vcpus (search (and_l, and_r) depth 8) in
      let w : f.1.0 ≤ 16 = leb-true f.1.0 16 (search (and_l, and_r) depth 8) in
      record {
        tables = stated f.1.1.0;
        least = suc (order_at 0 0 0);
        few = omega arith;
        goes = rw n at j.2;
        early = inl refl;
        vcpus = refl;
        pages = refl;
        count = refl;
      }
  begin-by (Some Vc) m e = refused (rw (rest-whole l 0 VC m) at e)
  begin-by (Some Ms) m e = refused (rw (rest-whole l 0 MS m) at e)
  begin-by (Some Pa) m e = refused (rw (rest-whole l 0 PA m) at e)
  begin-by (Some En) m e = refused (rw (rest-whole l 0 EN m) at e)
  begin-by None m e = refused (sym (first-none s (drop 0 l) (mark-cut l 0 m)) ∙ e)

  pub load-begins : load_image s l ≡ loaded u → Loading s l u v₀ p₀ 8 0 v₀ p₀
  unfolding load_image records_at
  load-begins e = begin-by (mark_at l 0) refl e

-- ---- what code asks of a step
load-room : (l : List ℕ) (at : ℕ) (k : Kind) → loading (mark_at l at) ≡ Some k → at + size_of k ≤ length l
load-room l at Vm e = mark-room l at VM (loads-some _ Vm e).0
load-room l at Vc e = mark-room l at VC (loads-some _ Vc e).0
load-room l at Ms e = mark-room l at MS (loads-some _ Ms e).0
load-room l at Pa e = mark-room l at PA (loads-some _ Pa e).0
load-room l at En e = mark-room l at EN (loads-some _ En e).0

-- a record has bytes, and loads no more page words than it has bytes
sizes : (k : Kind) → (page_by k ≤ size_of k) × (0 < size_of k)
sizes Vm = (omega arith, omega arith)
sizes Vc = (omega arith, omega arith)
sizes Ms = (omega arith, omega arith)
sizes Pa = (omega arith, omega arith)
sizes En = (omega arith, omega arith)

pub load-fits : (l : List ℕ) (at : ℕ) (k : Kind) → loading (mark_at l at) ≡ Some k → (at + size_of k ≤ length l) × (page_by k ≤ size_of k) × (0 < size_of k)
load-fits l at k e = (load-room l at k e, (sizes k).0, (sizes k).1)

-- ---- the call, by what the test said
unerr : {a b : Refusal} → ◌≡◌ {A = Result Stated Refusal} (Err a) (Err b) → a ≡ b
unerr e = cc

unok : {a b : Stated} → ◌≡◌ {A = Result Stated Refusal} (Ok a) (Ok b) → a ≡ b
unok e = cc

module _ (s : Settings) (v p : List ℕ) where
  pub told-refusal : (x : Loaded) (r : Refusal) → outcome x ≡ Err r → told_refused (paper (refusal_answer r)) s v p ≡ told_loaded s v p x
  unfolding outcome told_loaded
  told-refusal (loaded t) r e = cc
  told-refusal (bad_form off) r e = subst (λ y. told_refused (paper (refusal_answer y)) s v p ≡ told_loaded s v p (bad_form off)) (unerr e) refl
  told-refusal (forbidden off) r e = subst (λ y. told_refused (paper (refusal_answer y)) s v p ≡ told_loaded s v p (forbidden off)) (unerr e) refl

  abbrev pub told_opened : Stated → List ℕ → List ℕ → Told
  told_opened a w q = record { answer = handled 0 Quiet; state = state (opened_session s a.events a.pages a.ready) w q; out = []; guest = [] }

  pub told-accepted : (x : Loaded) (a : Stated) (w q : List ℕ) → outcome x ≡ Ok a
      → ((u : Tables) → x ≡ loaded u → (w ≡ msrs_loaded (vcpus_loaded (cleared v) 0 u.vcpus) u.msrs) × (q ≡ pages_loaded (cleared p) 0 u.pages))
      → told_opened a w q ≡ told_loaded s v p x
  unfolding outcome told_loaded loaded_state
  told-accepted (loaded t) a w q e k = rw (← unok e, (k t refl).0, (k t refl).1)
  told-accepted (bad_form at) a w q e k = cc
  told-accepted (forbidden at) a w q e k = cc
