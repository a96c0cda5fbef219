-- On a well-formed session each lookup is the model's; of one that is closed it is asked that it stands for the closed model. Assumes nothing.
use mathlib.Core.Path.{◌≡◌, refl, sym, ap, ◌∙◌}
use Prim.Native.Nat.{ℕ, zero, suc, ◌≤◌, ◌<◌, min}
use native.Mathlib.Nat.{not-suc-le-zero, le_of_suc-le-suc}
use native.Mathlib.Omega.{arith}
use mathlib.Core.List.{List, [], ◌∷◌, map}
use mathlib.Core.Option.{none}
use mathlib.Core.Bool.{Bool, true, false, ◌&&◌, So, and-false}
use lib.ListN.{length, get_or, take, replicate, get_or-eq_default}
use lib.Seq.{get_or-take, length-take-le}
use lib.Dec.{ltb, eqb}
use borrow.Author.Tests.{ltb-true, ltb-false}
use Rattle.msrs.specs.Place.{is_msr}
use Rattle.kvmi.specs.Bits.{bit, is_on}
use Rattle.kvmi.specs.Settings.{is_set}
use Rattle.kvmi.specs.Ascending.{rising}
use Rattle.kvmi.specs.Tables.{Vcpu, Tables, resting, page_key, is_cr, cr_bit, vcpu_at, vm_event_on, event_on, cr_on, msr_in, msr_on, access}
use Rattle.kvmi.specs.Model.{Model, closed_model, awaited_by}
use Rattle.kvmi.specs.Verdict.{awaited_event}
use Rattle.store.specs.Words.{SINGLESTEP, CRS, EVENTS, PAUSES, AWAITED, field}
use Rattle.store.specs.Meaning.{vcpu_of_words}
use Rattle.page_words.specs.Meaning.{page_of_word, pages_of, PagesGood}
use Rattle.session.specs.State.{State, is_closed}
use Rattle.session.specs.Meaning.{tables_of, model_of, WordsGood, WellFormed}
use Rattle.laws.proofs.Bool.{test}
use Rattle.refine.proofs.Awaited.{event-read}
use Rattle.refine.proofs.Words.{few-vcpus, field_past, vcpu-means, awaited-means, event-means, cr-means, msr-past, msr-means}
use Rattle.refine.proofs.Access.{access-means}
use Rattle.refine.proofs.Pages.{pages-count}
use Rattle.lookup.specs.Lookup.{look_open, look_ready, look_vm_event, look_field, look_event, look_cr, look_msr, look_singlestep, look_pauses, look_awaited, look_count, look_access, no_page, look_page}
use Rattle.lookup.specs.Looks.{Looks}

and_none : (b : Bool) → (b && false) ≡ false
and_none true = refl
and_none false = refl

-- an element of a list of the same element, and what stands for those past its end
pub replicated : {A : Type 0} (n : ℕ) (a : A) (i : ℕ) → get_or (replicate n a) i a ≡ a
replicated zero a i = refl
replicated (suc n) a zero = refl
replicated (suc n) a (suc i) = replicated n a i

-- an element of a mapped list, whatever stands for those past its end
map_at : {A B : Type 0} (f : A → B) (xs : List A) (i : ℕ) (a : A) (b : B) → i < length xs → get_or (map f xs) i b ≡ f (get_or xs i a)
map_at f [] i a b h = absurd (not-suc-le-zero h)
map_at f (x ∷ xs) zero a b h = refl
map_at f (x ∷ xs) (suc i) a b h = map_at f xs i a b (le_of_suc-le-suc h)

module _ (st : State) (g : WordsGood st) (few : st.session.settings.vcpus ≤ 16) where
  abbrev n : ℕ
  n = st.session.settings.vcpus

  abbrev w : List ℕ
  w = st.vcpus

  abbrev t : Tables
  t = tables_of st

  abbrev opened : ℕ
  opened = st.session.tool.opened

  own : (v : ℕ) → vcpu_at t v ≡ vcpu_of_words st.session.shared.ready w v
  own v = vcpu-means st g v

  ready-looks : (v : ℕ) → look_ready st.session v ≡ bit (vcpu_at t v).ready
  unfolding look_ready vcpu_of_words
  ready-looks v = sym (ap (λ (x : Vcpu). bit x.ready) (own v))

  -- ---- the vCPU words of an open session
  module _ (lives : eqb opened 0 ≡ false) where
    -- a number past u16 is past the count, where all is 0
    field-any : (v k : ℕ) → look_field st.session w v k ≡ field w v k
    unfolding look_field
    field-any v k =
        rw lives
        (test (ltb v 65535)
        (λ q. let l = ltb-true v 65535 q in let e : min v 65535 ≡ v = omega arith in rw e)
        (λ q. let l = ltb-false v 65535 q in field_past st g (min v 65535) k (omega arith) ∙ sym (field_past st g v k (omega arith))))

    events-open : (v event : ℕ) → look_event st.session w v event ≡ bit (event_on t v event)
    unfolding look_event
    events-open v event = rw (field-any v EVENTS) (ap bit (sym (event-means st g v event)))

    crs-open : (v cr : ℕ) → look_cr st.session w v cr ≡ bit (cr_on t v cr)
    unfolding look_cr
    crs-open v cr = rw (field-any v CRS) (ap bit (sym (cr-means st g v cr)))

    singlestep-open : (v : ℕ) → look_singlestep st.session w v ≡ bit (vcpu_at t v).singlestep
    unfolding look_singlestep is_set vcpu_of_words
    singlestep-open v = rw (field-any v SINGLESTEP) (sym (ap (λ (x : Vcpu). bit x.singlestep) (own v)))

    pauses-open : (v : ℕ) → look_pauses st.session w v ≡ (vcpu_at t v).pauses
    unfolding look_pauses vcpu_of_words
    pauses-open v = field-any v PAUSES ∙ sym (ap (λ (x : Vcpu). x.pauses) (own v))

    awaited-open : (v : ℕ) → look_awaited st.session w v ≡ awaited_event (awaited_by (model_of st) v)
    unfolding look_awaited
    awaited-open v = field-any v AWAITED ∙ sym (ap awaited_event (awaited-means st g v) ∙ event-read w v)

    msrs-open : (v msr : ℕ) → look_msr st.session w v msr ≡ bit (msr_on t v msr)
    unfolding look_msr
    msrs-open v msr =
        rw (lives, msr-means st g v msr)
        (test (ltb v 65535)
        (λ q. let l = ltb-true v 65535 q in let e : min v 65535 ≡ v = omega arith in rw e)
        (λ q. let l = ltb-false v 65535 q in rw (msr-past st g (min v 65535) msr (omega arith), msr-past st g v msr (omega arith))))

  -- ---- in a closed session all is off, and so it is in the closed model
  module _ (shut : eqb opened 0 ≡ true) (rests : model_of st ≡ closed_model st.session.settings) where
    field-shut : (v k : ℕ) → look_field st.session w v k ≡ 0
    unfolding look_field
    field-shut v k = rw shut

    rest_at : (v : ℕ) → vcpu_at t v ≡ resting
    rest_at v = ap (λ (m : Model). vcpu_at m.tables v) rests ∙ replicated n resting v

    events-shut : (v event : ℕ) → look_event st.session w v event ≡ bit (event_on t v event)
    unfolding look_event event_on
    events-shut v event = rw (field-shut v EVENTS) (sym (ap (λ (x : Vcpu). bit (is_on x.events event)) (rest_at v)))

    crs-shut : (v cr : ℕ) → look_cr st.session w v cr ≡ bit (cr_on t v cr)
    unfolding look_cr cr_on
    crs-shut v cr = rw (field-shut v CRS) (sym (ap (λ (x : Vcpu). bit (is_cr cr && is_on x.crs (cr_bit cr))) (rest_at v)))

    singlestep-shut : (v : ℕ) → look_singlestep st.session w v ≡ bit (vcpu_at t v).singlestep
    unfolding look_singlestep is_set
    singlestep-shut v = rw (field-shut v SINGLESTEP) (sym (ap (λ (x : Vcpu). bit x.singlestep) (rest_at v)))

    pauses-shut : (v : ℕ) → look_pauses st.session w v ≡ (vcpu_at t v).pauses
    unfolding look_pauses
    pauses-shut v = field-shut v PAUSES ∙ sym (ap (λ (x : Vcpu). x.pauses) (rest_at v))

    awaited-shut : (v : ℕ) → look_awaited st.session w v ≡ awaited_event (awaited_by (model_of st) v)
    unfolding look_awaited
    awaited-shut v = field-shut v AWAITED ∙ sym (ap (λ (m : Model). awaited_event (awaited_by m v)) rests ∙ ap awaited_event (replicated n none v))

    msrs-shut : (v msr : ℕ) → look_msr st.session w v msr ≡ bit (msr_on t v msr)
    unfolding look_msr msr_on msr_in
    msrs-shut v msr = rw shut (sym (ap (λ (m : Model). bit (is_msr msr && msr_in m.tables.msrs v msr)) rests ∙ ap bit (and-false (is_msr msr))))

  -- ---- the pages
  abbrev ws : List ℕ
  ws = st.pages

  abbrev count : ℕ
  count = st.session.tool.pages

  abbrev good : PagesGood ws count
  good = g.pages

  count_fits_lem : count ≤ 1024
  count_fits_lem = let i = good.inside in let l = g.page_words in omega arith

  count-looks : look_count st.session ≡ length (tables_of st).pages
  unfolding look_count
  count-looks = let f = count_fits_lem in let e : min count 1024 ≡ count = omega arith in e ∙ sym (pages-count ws count good)

  page-inside : (i : ℕ) → i < count → get_or (pages_of ws count) i no_page ≡ page_of_word (get_or ws i 0)
  unfolding pages_of
  page-inside i l =
      let e : length (take count ws) ≡ count = length-take-le count ws good.inside in
      map_at page_of_word (take count ws) i 0 no_page (rw e l) ∙ ap page_of_word (get_or-take count ws i 0 l)

  page-looks : (i : ℕ) → look_page st.session ws i ≡ get_or (tables_of st).pages i no_page
  unfolding look_page look_count pages_of
  page-looks i =
      let f = count_fits_lem in
      let e : min count 1024 ≡ count = omega arith in
      test (ltb i count)
      (λ t. let l = ltb-true i count t in
      rw (e, t) (sym (page-inside i l)))
      (λ t. let l = ltb-false i count t in
      rw (e, t) (sym (get_or-eq_default (pages_of ws count) no_page {n = i} (rw (pages-count ws count good) l))))

  access-looks : So (rising page_key 0 (pages_of ws count)) → (view page : ℕ) → look_access st.session ws view page ≡ access (tables_of st) view page
  unfolding look_access access pages_of
  access-looks up view page = access-means ws count good up view page

-- a session that is closed stands for the closed model
abbrev pub ShutRests : State → Type 0
ShutRests st = is_closed st ≡ true → model_of st ≡ closed_model st.session.settings

module _ (st : State) (formed : WellFormed st) (rests : ShutRests st) where
  abbrev good-words : WordsGood st
  good-words = formed.words

  few-there : st.session.settings.vcpus ≤ 16
  few-there = few-vcpus st.session.settings formed.settings

  -- open or closed
  either_way : {C : Type 0} → (is_closed st ≡ false → C) → (is_closed st ≡ true → model_of st ≡ closed_model st.session.settings → C) → C
  either_way lives shut = test (is_closed st) (λ e. shut e (rests e)) lives

  pub looks : Looks st (model_of st)
  unfolding look_open look_vm_event vm_event_on
  looks =
      let g = good-words in
      let few = few-there in
      record {
        opened = refl;
        ready = ready-looks st g few;
        vm_events = λ event. refl;
        events = λ v event. either_way (λ e. events-open st g few e v event) (λ e r. events-shut st g few e r v event);
        crs = λ v cr. either_way (λ e. crs-open st g few e v cr) (λ e r. crs-shut st g few e r v cr);
        msrs = λ v msr. either_way (λ e. msrs-open st g few e v msr) (λ e r. msrs-shut st g few e r v msr);
        singlestep = λ v. either_way (λ e. singlestep-open st g few e v) (λ e r. singlestep-shut st g few e r v);
        pauses = λ v. either_way (λ e. pauses-open st g few e v) (λ e r. pauses-shut st g few e r v);
        awaited = λ v. either_way (λ e. awaited-open st g few e v) (λ e r. awaited-shut st g few e r v);
        count = count-looks st g few;
        pages = page-looks st g few;
        accesses = access-looks st g few formed.tables.pa_up;
      }
