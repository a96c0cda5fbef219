-- One record more: the step of the test goes on as loading does, on the tables that the records before it state. Assumes nothing.
use mathlib.Core.Path.{◌≡◌, refl, sym, ap, ◌∙◌}
use Prim.Native.Nat.{ℕ, zero, suc, ◌+◌, ◌-◌, ◌^◌, ◌≤◌, ◌<◌}
use native.Mathlib.Nat.{add_assoc, add-zero, zero-add, suc-add, add-suc, not-suc-le-zero, le_refl, le_of_suc-le-suc}
use native.Mathlib.Omega.{arith}
use mathlib.Core.List.{List, [], ◌∷◌, ◌++◌}
use mathlib.Core.Bool.{Bool, true, false, cond, ◌&&◌, So}
use mathlib.Core.Option.{Option, none, some}
use lib.ListN.{length, get_or, drop, length-drop}
use lib.Seq.{drop-drop}
use lib.Dec.{eqb, ltb}
use mathlib.Core.Logic.{⊎_elim}
use borrow.Author.Tests.{leb-true, eqb-true, ltb-true, lt-ltb, le-ltb, eq-eqb, ne_eqb}
use Rattle.wire.proofs.Laws.{le-or-lt, load-whole, load_byte}
use Rattle.msrs.specs.Place.{is_msr}
use Rattle.kvmi.specs.declared.Settings.{Settings}
use Rattle.kvmi.specs.Bits.{is_on, put_bit}
use Rattle.kvmi.specs.Row.{read_row}
use Rattle.kvmi.specs.Record.{Kind, VM, VC, MS, PA, EN, widths, size, Rec, whole, order_at, order_of, kind_at, from, parse}
use Rattle.kvmi.specs.Tables.{Vcpu, Tables, resting}
use Rattle.kvmi.specs.Image.{vcpu_of_row, msr_of_row, page_of_row, with_record, vm_form, vm_may, ms_form, Loaded, loaded, bad_form, judge, ending, fits_in, may_of, load_rest, stated, load_records, load_image}
use Rattle.laws.proofs.Bool.{and_l, and_r, length-snoc}
use Rattle.laws.proofs.Bits.{on-put, on-put-other}
use Rattle.laws.proofs.Record.{parse-next, kind-found}
use Rattle.store.specs.Words.{put_bit64}
use Rattle.std.specs.Prelude.{Some, None, Result, Ok, Err}
use Rattle.std.specs.Prelude as std
use Rattle.image_form.specs.declared.Kind as code
use Rattle.image_form.specs.declared.Kind.TheVariants.{Vm, Vc, Ms, Pa, En}
use Rattle.image_form.specs.Form.{named, mark_at, row_at, vc_fits, ms_fits, pa_fits}
use Rattle.image_form.proofs.Forms.{size-least, mark-kind, mark-cut, mark-room}
use Rattle.image_step.specs.declared.Progress.{Progress}
use Rattle.image_step.specs.declared.Stated.{Stated}
use Rattle.image_step.specs.declared.Refusal.{Refusal}
use Rattle.image_step.specs.declared.Step.{Step}
use Rattle.image_step.specs.declared.Step.TheVariants.{Next, End}
use Rattle.image_step.specs.Step.{judged, place_of, is_after, first_progress, past_vc, past_ms, past_pa, vm_step, vc_step, ms_step, pa_step, end_step, en_step, step_by, next_step_of, first_by}
use Rattle.image_test.specs.Test.{ready_loaded, outcome, Stands, records_at, Rest}

-- ---- the numbers of a record
pub row-there : (k : Kind) (l : List ℕ) (at : ℕ) → at + size k ≤ length l → (read_row (2 ∷ widths k) (drop at l)).1 ≡ row_at k l at
unfolding read_row
row-there VM l at h =
    simp (drop-drop, add_assoc, load-whole 2 l (at + 2) (omega arith), load-whole 2 l (at + 4) (omega arith), load-whole 2 l (at + 6) (omega arith))
row-there VC l at h =
    simp (
      ← load_byte,
      drop-drop,
      add_assoc,
      load-whole 2 l (at + 2) (omega arith),
      load-whole 1 l (at + 4) (omega arith),
      load-whole 1 l (at + 5) (omega arith),
      load-whole 2 l (at + 6) (omega arith),
      load-whole 1 l (at + 8) (omega arith),
      load-whole 1 l (at + 9) (omega arith),
    )
row-there MS l at h = simp (drop-drop, add_assoc, load-whole 2 l (at + 2) (omega arith), load-whole 4 l (at + 4) (omega arith))
row-there PA l at h =
    simp (
      ← load_byte,
      drop-drop,
      add_assoc,
      load-whole 2 l (at + 2) (omega arith),
      load-whole 1 l (at + 4) (omega arith),
      load-whole 1 l (at + 5) (omega arith),
      load-whole 8 l (at + 6) (omega arith),
    )
row-there EN l at h = simp (drop-drop, add_assoc, load-whole 4 l (at + 2) (omega arith))

-- ---- the records from a place on
pub cut-none : (s : Settings) (n off lo : ℕ) (t : Tables) (r : List ℕ) → kind_at r ≡ none → load_rest s n off lo t (parse (length r) r) ≡ bad_form off
cut-none s n off lo t [] e = refl
cut-none s n off lo t (b ∷ r) e = ap (load_rest s n off lo t) (parse-next b r ∙ ap (from (λ x. parse (length x) x) (b ∷ r)) e)

pub first-none : (s : Settings) (r : List ℕ) → kind_at r ≡ none → load_records s (parse (length r) r) ≡ bad_form 0
first-none s [] e = refl
first-none s (b ∷ r) e = ap (load_records s) (parse-next b r ∙ ap (from (λ x. parse (length x) x) (b ∷ r)) e)

pub whole-some : (r : List ℕ) (k : Kind) → kind_at r ≡ some k → size k ≤ length r
    → parse (length r) r ≡ whole k (read_row (2 ∷ widths k) r).1 ∷ parse (length (drop (size k) r)) (drop (size k) r)
whole-some [] k e h = let w = size-least k in absurd (omega arith)
whole-some (b ∷ r) k e h = parse-next b r ∙ ap (from (λ x. parse (length x) x) (b ∷ r)) e

pub rest-whole : (l : List ℕ) (at : ℕ) (k : Kind) → mark_at l at ≡ Some (named k) → records_at l at ≡ whole k (row_at k l at) ∷ records_at l (at + size k)
unfolding records_at
rest-whole l at k e =
    let o = mark-kind l at k e in
    whole-some (drop at l) k o (kind-found (drop at l) k o).1
    ∙ ap (λ f. whole k f ∷ parse (length (drop (size k) (drop at l))) (drop (size k) (drop at l))) (row-there k l at (mark-room l at k e))
    ∙ ap (λ x. whole k (row_at k l at) ∷ parse (length x) x) (drop-drop (size k) at l)

-- ---- ready marks
ready-snoc : (r i : ℕ) (vs : List Vcpu) (v : Vcpu) → ready_loaded r i (vs ++ (v ∷ [])) ≡ put_bit (ready_loaded r i vs) (i + length vs) v.ready
unfolding ready_loaded
ready-snoc r i [] v = rw add-zero
ready-snoc r i (w ∷ vs) v = rw (ready-snoc (put_bit r i w.ready) (suc i) vs v, suc-add, ← add-suc)

ready-low : (r i : ℕ) (vs : List Vcpu) (j : ℕ) → j < i → is_on (ready_loaded r i vs) j ≡ is_on r j
unfolding ready_loaded
ready-low r i [] j h = refl
ready-low r i (v ∷ vs) j h = ready-low (put_bit r i v.ready) (suc i) vs j (omega arith) ∙ on-put-other r i j v.ready (λ e. omega arith)

ready_at : (r i : ℕ) (vs : List Vcpu) (j : ℕ) → j < length vs → is_on (ready_loaded r i vs) (i + j) ≡ (get_or vs j resting).ready
unfolding ready_loaded
ready_at r i [] j h = absurd (not-suc-le-zero h)
ready_at r i (v ∷ vs) zero h =
    let same : i + 0 ≡ i = omega arith in
    rw same (ready-low (put_bit r i v.ready) (suc i) vs i (le_refl (suc i)) ∙ on-put r i v.ready)
ready_at r i (v ∷ vs) (suc j) h = let next : i + suc j ≡ suc i + j = omega arith in rw next (ready_at (put_bit r i v.ready) (suc i) vs j (le_of_suc-le-suc h))

-- ---- behind EN
ending-from : (t : Tables) (off : ℕ) (p : List ℕ → List Rec) (r : List ℕ) (o : Option Kind) → ending t off (from p r o) ≡ bad_form off
ending-from t off p r none = refl
ending-from t off p r (some k) = refl

ending_at : (t : Tables) (off : ℕ) (r : List ℕ) → ending t off (parse (length r) r) ≡ cond (eqb (length r) 0) (loaded t) (bad_form off)
ending_at t off [] = refl
ending_at t off (b ∷ r) = ap (ending t off) (parse-next b r) ∙ ending-from t off (λ x. parse (length x) x) (b ∷ r) (kind_at (b ∷ r))
    ∙ rw (ne_eqb (suc (length r)) 0 (λ e. omega arith))

end-records : (t : Tables) (off : ℕ) (l : List ℕ) → ending t off (records_at l off) ≡ cond (eqb (length (drop off l)) 0) (loaded t) (bad_form off)
unfolding records_at
end-records t off l = ending_at t off (drop off l)

-- ---- one step
module _ (s : Settings) (l : List ℕ) (o : Result Stated Refusal) where
  -- what a step at a place leaves to be shown
  abbrev pub Goes : ℕ → Result Step Refusal → Type 0
  Goes at (Ok (Next q)) = Rest s l q o × (at < q.at)
  Goes at (Ok (End x)) = Ok x ≡ o
  Goes at (Err e) = Err e ≡ o

  abbrev pub Begins : Result Progress Refusal → Type 0
  Begins (Ok q) = Rest s l q o × (0 < q.at)
  Begins (Err e) = Err e ≡ o

  judge-goes : (at : ℕ) (form may : Bool) (off : ℕ) (next : Loaded) (q : Progress) → outcome (judge form may off next) ≡ o
      → (So form → So may → outcome next ≡ o → Rest s l q o × (at < q.at)) → Goes at (judged form may off (Next q))
  unfolding outcome
  judge-goes at true true off next q e k = k refl refl e
  judge-goes at true false off next q e k = e
  judge-goes at false may off next q e k = e

  judge-begins : (form may : Bool) (off : ℕ) (next : Loaded) (q : Progress) → outcome (judge form may off next) ≡ o
      → (So form → So may → outcome next ≡ o → Rest s l q o × (0 < q.at)) → Begins (judged form may off q)
  unfolding outcome
  judge-begins true true off next q e k = k refl refl e
  judge-begins true false off next q e k = e
  judge-begins false may off next q e k = e

  end_goes : (at : ℕ) (form : Bool) (p : Progress) (t : Tables) → length t.pages ≡ p.pages → t.events ≡ p.events → ready_loaded 0 0 t.vcpus ≡ p.ready → (last : Bool)
      → outcome (judge form true p.at (cond last (loaded t) (bad_form (p.at + 6)))) ≡ o → Goes at (end_step form last p)
  unfolding outcome
  end_goes at true p t a b c true e = rw (a, b, c) at e
  end_goes at true p t a b c false e = e
  end_goes at false p t a b c true e = e
  end_goes at false p t a b c false e = e

  module _ (fit : length l < 2 ^ 64) (p : Progress) (t : Tables) (lo : ℕ) (st : Stands s l p t lo) where
    vc-goes : mark_at l p.at ≡ Some Vc → outcome (load_rest s s.vcpus p.at lo t (records_at l p.at)) ≡ o → Goes p.at (vc_step s p (row_at VC l p.at))
    unfolding vc_step vc_fits is_after put_bit64
    vc-goes m e =
        let f = row_at VC l p.at in
        let room : p.at + 10 ≤ length l = mark-room l p.at VC m in
        let same : fits_in VC s.vcpus lo t f ≡ (is_after p (place_of Vc f.0 0) && eqb f.0 p.count && vc_fits s f) = rw (st.order, st.count) in
        let next = load_rest s s.vcpus (p.at + 10) (suc (order_of VC f)) (with_record VC t f) (records_at l (p.at + 10)) in
        let g : outcome (judge (fits_in VC s.vcpus lo t f) (may_of VC s f) p.at next) ≡ o = rw (rest-whole l p.at VC m) at e in
        judge-goes p.at (is_after p (place_of Vc f.0 0) && eqb f.0 p.count && vc_fits s f) (may_of VC s f) p.at next (past_vc p f) (rw same at g)
        (λ a b d.
        let i : f.0 ≡ p.count = eqb-true f.0 p.count (search (and_l, and_r) depth 8) in
        let w : f.0 < s.vcpus = ltb-true f.0 s.vcpus (search (and_l, and_r) depth 8) in
        let small : p.count < 64 = omega (arith, st.few) in
        let len = length-snoc t.vcpus (vcpu_of_row f) in (
          record {
            tables = with_record VC t f;
            least = suc (order_of VC f);
            stands = record {
              few = st.few;
              inside = room;
              count = omega (arith, len, st.count);
              ready = ready-snoc 0 0 t.vcpus (vcpu_of_row f) ∙ rw (zero-add, st.ready, st.count, lt-ltb p.count 64 small);
              pages = st.pages;
              events = st.events;
              records = omega (arith, len, st.records, st.bound);
              bound = omega (arith, st.bound);
              order = refl;
            };
            goes = d;
          },
          omega arith,
        ))

    ms-same : (j : ℕ) (b : Bool) → (ltb j (length t.vcpus) && b && (get_or t.vcpus j resting).ready) ≡ (ltb j p.count && b && is_on p.ready j)
    ms-same j b = rw (← st.count, ← st.ready) (⊎_elim
        (λ h. rw (← ready_at 0 0 t.vcpus j h, zero-add))
        (λ h. rw (le-ltb j (length t.vcpus) (omega arith)))
        (le-or-lt (suc j) (length t.vcpus)))

    ms-goes : mark_at l p.at ≡ Some Ms → outcome (load_rest s s.vcpus p.at lo t (records_at l p.at)) ≡ o → Goes p.at (ms_step s p (row_at MS l p.at))
    unfolding ms_step ms_fits is_after ms_form
    ms-goes m e =
        let f = row_at MS l p.at in
        let room : p.at + 8 ≤ length l = mark-room l p.at MS m in
        let same : fits_in MS s.vcpus lo t f ≡ (is_after p (place_of Ms f.0 f.1.0) && eqb p.count s.vcpus && ms_fits p.count p.ready f) = rw (ms-same f.0 (is_msr f.1.0), st.order, st.count) in
        let next = load_rest s s.vcpus (p.at + 8) (suc (order_of MS f)) (with_record MS t f) (records_at l (p.at + 8)) in
        let g : outcome (judge (fits_in MS s.vcpus lo t f) true p.at next) ≡ o = rw (rest-whole l p.at MS m) at e in
        judge-goes p.at (is_after p (place_of Ms f.0 f.1.0) && eqb p.count s.vcpus && ms_fits p.count p.ready f) true p.at next (past_ms p f) (rw same at g)
        (λ a b d.
        let len = length-snoc t.msrs (msr_of_row f) in (
          record {
            tables = with_record MS t f;
            least = suc (order_of MS f);
            stands = record {
              few = st.few;
              inside = room;
              count = st.count;
              ready = st.ready;
              pages = st.pages;
              events = st.events;
              records = omega (arith, len, st.records, st.bound);
              bound = omega (arith, st.bound);
              order = refl;
            };
            goes = d;
          },
          omega arith,
        ))

    pa-goes : mark_at l p.at ≡ Some Pa → outcome (load_rest s s.vcpus p.at lo t (records_at l p.at)) ≡ o → Goes p.at (pa_step s p (row_at PA l p.at))
    unfolding pa_step pa_fits is_after
    pa-goes m e =
        let f = row_at PA l p.at in
        let room : p.at + 14 ≤ length l = mark-room l p.at PA m in
        let same : fits_in PA s.vcpus lo t f ≡ (is_after p (place_of Pa f.0 f.1.1.1.0) && eqb p.count s.vcpus && pa_fits p.pages f) = rw (st.order, st.count, st.pages) in
        let next = load_rest s s.vcpus (p.at + 14) (suc (order_of PA f)) (with_record PA t f) (records_at l (p.at + 14)) in
        let g : outcome (judge (fits_in PA s.vcpus lo t f) (may_of PA s f) p.at next) ≡ o = rw (rest-whole l p.at PA m) at e in
        judge-goes p.at (is_after p (place_of Pa f.0 f.1.1.1.0) && eqb p.count s.vcpus && pa_fits p.pages f) (may_of PA s f) p.at next (past_pa p f) (rw same at g)
        (λ a b d.
        let len = length-snoc t.pages (page_of_row f) in (
          record {
            tables = with_record PA t f;
            least = suc (order_of PA f);
            stands = record {
              few = st.few;
              inside = room;
              count = st.count;
              ready = st.ready;
              pages = omega (arith, len, st.pages);
              events = st.events;
              records = omega (arith, len, st.records, st.bound);
              bound = omega (arith, st.bound);
              order = refl;
            };
            goes = d;
          },
          omega arith,
        ))

    en-goes : mark_at l p.at ≡ Some En → outcome (load_rest s s.vcpus p.at lo t (records_at l p.at)) ≡ o → Goes p.at (en_step s (length l) p (row_at EN l p.at))
    unfolding en_step is_after
    en-goes m e =
        let f = row_at EN l p.at in
        let room : p.at + 6 ≤ length l = mark-room l p.at EN m in
        let same : fits_in EN s.vcpus lo t f ≡ (is_after p (place_of En 0 0) && eqb p.count s.vcpus && eqb f.0 p.records) = rw (st.order, st.records, st.count) in
        let last : eqb (length (drop (p.at + 6) l)) 0 ≡ eqb (length l) (p.at + 6) = rw length-drop (end_test (length l) (p.at + 6) room) in
        let g : outcome (judge (fits_in EN s.vcpus lo t f) true p.at (ending t (p.at + 6) (records_at l (p.at + 6)))) ≡ o = rw (rest-whole l p.at EN m) at e in
        let h : outcome (judge (fits_in EN s.vcpus lo t f) true p.at (cond (eqb (length l) (p.at + 6)) (loaded t) (bad_form (p.at + 6)))) ≡ o = rw (end-records t (p.at + 6) l, last) at g in
        end_goes p.at (is_after p (place_of En 0 0) && eqb p.count s.vcpus && eqb f.0 p.records) p t st.pages st.events st.ready (eqb (length l) (p.at + 6)) (rw same at h)
      where
        end_test : (a b : ℕ) → b ≤ a → eqb (a - b) 0 ≡ eqb a b
        end_test a b h = ⊎_elim
            (λ (g : a ≤ b). eq-eqb (a - b) 0 (omega arith) ∙ sym (eq-eqb a b (omega arith)))
            (λ (g : b < a). ne_eqb (a - b) 0 (λ e. omega arith) ∙ sym (ne_eqb a b (λ e. omega arith)))
            (le-or-lt a b)

    by-mark : (m : std.Option code.Kind) → mark_at l p.at ≡ m → outcome (load_rest s s.vcpus p.at lo t (records_at l p.at)) ≡ o → Goes p.at (step_by s l p m)
    unfolding step_by outcome records_at
    by-mark (Some Vm) m e = rw (rest-whole l p.at VM m) at e
    by-mark (Some Vc) m e = vc-goes m e
    by-mark (Some Ms) m e = ms-goes m e
    by-mark (Some Pa) m e = pa-goes m e
    by-mark (Some En) m e = en-goes m e
    by-mark None m e = sym (ap outcome (cut-none s s.vcpus p.at lo t (drop p.at l) (mark-cut l p.at m))) ∙ e

  pub next-goes : length l < 2 ^ 64 → (p : Progress) → Rest s l p o → Goes p.at (next_step_of s l p)
  unfolding next_step_of
  next-goes fit p r = by-mark fit p r.tables r.least r.stands (mark_at l p.at) refl r.goes

  -- ---- the first record
  vm-goes : mark_at l 0 ≡ Some Vm → outcome (load_records s (records_at l 0)) ≡ o → Begins (vm_step s (row_at VM l 0))
  unfolding vm_step vm_form vm_may ready_loaded
  vm-goes m e =
      let f = row_at VM l 0 in
      let room : 0 + 8 ≤ length l = mark-room l 0 VM m in
      let next = load_rest s f.1.0 8 (suc (order_of VM f)) (stated f.1.1.0) (records_at l 8) in
      let g : outcome (judge (eqb f.0 1 && vm_form f.1.0 f.1.1.0) (vm_may s f.1.0 f.1.1.0) 0 next) ≡ o = rw (rest-whole l 0 VM m) at e in
      judge-begins (eqb f.0 1 && vm_form f.1.0 f.1.1.0) (vm_may s f.1.0 f.1.1.0) 0 next (first_progress f.1.1.0) g
      (λ a b d.
      let n : f.1.0 ≡ s.vcpus = eqb-true f.1.0 s.vcpus (search (and_l, and_r) depth 8) in
      let w : f.1.0 ≤ 16 = leb-true f.1.0 16 (search (and_l, and_r) depth 8) in (
        record {
          tables = stated f.1.1.0;
          least = suc (order_at 0 0 0);
          stands = record {
            few = omega arith;
            inside = omega arith;
            count = refl;
            ready = refl;
            pages = refl;
            events = refl;
            records = refl;
            bound = omega arith;
            order = refl;
          };
          goes = rw n at d;
        },
        omega arith,
      ))

  first_by_lem : (m : std.Option code.Kind) → mark_at l 0 ≡ m → outcome (load_records s (records_at l 0)) ≡ o → Begins (first_by s l m)
  unfolding first_by outcome records_at
  first_by_lem (Some Vm) m e = vm-goes m e
  first_by_lem (Some Vc) m e = rw (rest-whole l 0 VC m) at e
  first_by_lem (Some Ms) m e = rw (rest-whole l 0 MS m) at e
  first_by_lem (Some Pa) m e = rw (rest-whole l 0 PA m) at e
  first_by_lem (Some En) m e = rw (rest-whole l 0 EN m) at e
  first_by_lem None m e = sym (ap outcome (first-none s (drop 0 l) (mark-cut l 0 m))) ∙ e

  -- ---- what a step says
  pub went : (at : ℕ) (x : Result Step Refusal) (q : Progress) → x ≡ Ok (Next q) → Goes at x → Rest s l q o × (at < q.at)
  went at x q e g = rw e at g

  pub ended : (at : ℕ) (x : Result Step Refusal) (y : Stated) → x ≡ Ok (End y) → Goes at x → Ok y ≡ o
  ended at x y e g = rw e at g

  pub refused : (at : ℕ) (x : Result Step Refusal) (y : Refusal) → x ≡ Err y → Goes at x → Err y ≡ o
  refused at x y e g = rw e at g

  pub began : (x : Result Progress Refusal) (q : Progress) → x ≡ Ok q → Begins x → Rest s l q o
  began x q e g = (rw e at g).0

  pub begin-refused : (x : Result Progress Refusal) (y : Refusal) → x ≡ Err y → Begins x → Err y ≡ o
  begin-refused x y e g = rw e at g

pub first_goes : (s : Settings) (l : List ℕ) → Begins s l (outcome (load_image s l)) (first_by s l (mark_at l 0))
unfolding load_image records_at
first_goes s l = first_by_lem s l (outcome (load_image s l)) (mark_at l 0) refl refl
