-- A well-formed session's words: what they mean for any vCPU number, and what keeps them well formed. Assumes nothing.
use mathlib.Core.Path.{◌≡◌, refl, sym, ap, ◌∙◌}
use mathlib.Core.Logic.{◌≢◌}
use Prim.Native.Nat.{ℕ, zero, suc, ◌+◌, ◌-◌, ◌*◌, ◌/◌, ◌%◌, ◌^◌, ◌≤◌, ◌<◌}
use native.Mathlib.Omega.{arith}
use mathlib.Core.List.{List, [], ◌∷◌}
use mathlib.Core.Bool.{Bool, true, false, cond, not, ◌&&◌, So, and-false}
use mathlib.Core.Option.{none, some}
use lib.ListN.{length, get_or, set, get_or-eq_default}
use lib.Seq.{get_or-set_same, get_or-set_other}
use lib.Dec.{ltb, leb, eqb}
use borrow.Author.Tests.{ltb-true, ltb-false, lt-ltb, leb-true, eqb-true, eqb-false}
use Rattle.std.specs.Prelude.{Option, Some, None}
use Rattle.std.specs.Option.{option_map_or}
use Rattle.msrs.specs.Place.{msr_place, is_msr}
use Rattle.kvmi.specs.declared.Settings.{Settings}
use Rattle.kvmi.specs.declared.EventSwitch.{EventSwitch}
use Rattle.kvmi.specs.declared.EventSwitch.TheVariants.{NoEvent, OfVm, OfVcpu, OfCr, OfMsr, OfPage}
use Rattle.kvmi.specs.Bits.{is_on}
use Rattle.kvmi.specs.Settings.{in_range}
use Rattle.kvmi.specs.Tables.{Vcpu, resting, vcpu_at, is_cr, cr_bit, vm_event_on, event_on, cr_on, msr_on, access, page_key}
use Rattle.kvmi.specs.Event.{event_row_of, cr_named, msr_named, asks_for, is_asked_for}
use Rattle.kvmi.specs.Model.{awaited_by}
use Rattle.kvmi.specs.declared.Fault.{Fault}
use Rattle.kvmi.specs.Feed.{no_fault, view_named, page_named}
use Rattle.kvmi.specs.Ascending.{rising}
use Rattle.kvmi.specs.Verdict.{awaits, facts_of}
use Rattle.store.specs.Words.{field, set_field, set_fault, switch_on, read_switch, msr_bit_on, set_msr_bit, SINGLESTEP, CRS, EVENTS, PAUSES, AWAITED, AWAITED_SEQ, FAULT_GVA, FAULT_GPA, FAULT_ACCESS, vcpu_word_count}
use Rattle.store.specs.Meaning.{vcpu_of_words, vcpus_of}
use Rattle.page_words.specs.Meaning.{PagesGood}
use Rattle.page_words.specs.PageWords.{page_word_count, key_of, word_access}
use Rattle.session.specs.declared.Tool.{Tool}
use Rattle.session.specs.State.{State, state, with_tool, with_tool_pages, with_ready_bits, with_vcpu_words, with_field}
use Rattle.message.specs.Message.{facts_in}
use Rattle.entry.specs.Entry.{cr_bit_on, is_guarded, asked_for_by, is_asked_for_of}
use Rattle.session.specs.Meaning.{awaited_in, awaited_of, tables_of, model_of, WordsGood, WellFormed}
use Rattle.laws.proofs.Bool.{and_l, and_r, test}
use Rattle.laws.proofs.Bits.{on_none}
use Rattle.laws.proofs.Same.{on-high}
use Rattle.refine.proofs.Msrs.{field-set, field-set-other, field-length, bit-cases, bit_length, bit-field, bit-placed, msrs-look}
use Rattle.refine.proofs.Vcpus.{vcpus-length, vcpus-at}
use Rattle.refine.proofs.Access.{access-means}
use Rattle.refine.proofs.Waits.{wait_words, wait-length, wait-other, wait-event, wait-seq, wait-gva, wait-gpa, wait-access}
use Rattle.refine.proofs.Awaited.{awaited-length, awaited-at, awaited-none, awaits-read}

pub few-vcpus : (s : Settings) → So (in_range s) → s.vcpus ≤ 16
unfolding in_range
few-vcpus s h = leb-true s.vcpus 16 (search (and_l, and_r))

module _ (st : State) (g : WordsGood st) where
  abbrev n : ℕ
  n = st.session.settings.vcpus

  abbrev w : List ℕ
  w = st.vcpus

  -- ---- what must be shown again where one part is another
  -- the tool's numbers, but for the count of its pages
  pub tool-kept : (t : Tool) → t.pages ≡ st.session.tool.pages → t.opened ≤ 1 → t.mode ≤ 2 → WordsGood (state (with_tool st.session t) w st.pages)
  tool-kept t same opened mode =
      record {
        vcpu_words = g.vcpu_words;
        page_words = g.page_words;
        opened = opened;
        mode = mode;
        ready = g.ready;
        pages = rw same g.pages;
        flag = g.flag;
        waits = g.waits;
        spare = g.spare;
        past = g.past;
      }

  -- the page words and their count
  pub pages-kept : (count : ℕ) (pages : List ℕ) → length pages ≡ page_word_count → PagesGood pages count
      → WordsGood (state (with_tool st.session (with_tool_pages st.session.tool count)) w pages)
  pages-kept count pages long good =
      record {
        vcpu_words = g.vcpu_words;
        page_words = long;
        opened = g.opened;
        mode = g.mode;
        ready = g.ready;
        pages = good;
        flag = g.flag;
        waits = g.waits;
        spare = g.spare;
        past = g.past;
      }

  -- the ready marks
  pub shared_kept : (ready : ℕ) → ready < 2 ^ n → WordsGood (state (with_ready_bits st.session ready) w st.pages)
  shared_kept ready below =
      record {
        vcpu_words = g.vcpu_words;
        page_words = g.page_words;
        opened = g.opened;
        mode = g.mode;
        ready = below;
        pages = g.pages;
        flag = g.flag;
        waits = g.waits;
        spare = g.spare;
        past = g.past;
      }

  -- the vCPU words
  pub vcpus-kept : (u : List ℕ) → length u ≡ vcpu_word_count → ((i : ℕ) → field u i SINGLESTEP ≤ 1) → ((i k : ℕ) → 4 ≤ k → k < 9 → field u i AWAITED ≡ 0 → field u i k ≡ 0)
      → ((i k : ℕ) → 9 ≤ k → k < 16 → field u i k ≡ 0) → ((j : ℕ) → n * 272 ≤ j → get_or u j 0 ≡ 0) → WordsGood (with_vcpu_words st u)
  vcpus-kept u long flag waits spare past =
      record {
        vcpu_words = long;
        page_words = g.page_words;
        opened = g.opened;
        mode = g.mode;
        ready = g.ready;
        pages = g.pages;
        flag = flag;
        waits = waits;
        spare = spare;
        past = past;
      }

  -- ---- past the count every field is 0
  pub field_past : (v k : ℕ) → n ≤ v → field w v k ≡ 0
  unfolding field
  field_past v k h = g.past (v * 272 + k) (omega arith)

  pub vcpu-means : (v : ℕ) → vcpu_at (tables_of st) v ≡ vcpu_of_words st.session.shared.ready w v
  unfolding vcpu_of_words
  vcpu-means v =
      test (ltb v n) (λ h. vcpus-at st.session.shared.ready w n v (ltb-true v n h))
      (λ h. let far = ltb-false v n h in
      get_or-eq_default (vcpus_of st.session.shared.ready w 0 n) resting {n = v} (rw (vcpus-length st.session.shared.ready w 0 n) far)
      ∙ sym
      (rw (
        on-high n st.session.shared.ready v g.ready far,
        field_past v SINGLESTEP far,
        field_past v CRS far,
        field_past v EVENTS far,
        field_past v PAUSES far,
      )))

  pub awaited-means : (v : ℕ) → awaited_by (model_of st) v ≡ awaited_in w v
  awaited-means v =
      test (ltb v n) (λ h. awaited-at w n v (ltb-true v n h))
      (λ h. let far = ltb-false v n h in
      get_or-eq_default (awaited_of w 0 n) none {n = v} (rw (awaited-length w 0 n) far) ∙ sym (awaited-none w v (field_past v AWAITED far)))

  -- ---- switches
  pub event-means : (v event : ℕ) → event_on (tables_of st) v event ≡ is_on (field w v EVENTS) event
  unfolding event_on vcpu_of_words
  event-means v event = ap (λ (x : Vcpu). is_on x.events event) (vcpu-means v)

  pub cr-means : (v cr : ℕ) → cr_on (tables_of st) v cr ≡ (is_cr cr && is_on (field w v CRS) (cr_bit cr))
  unfolding cr_on vcpu_of_words
  cr-means v cr = ap (λ (x : Vcpu). is_cr cr && is_on x.crs (cr_bit cr)) (vcpu-means v)

  -- MSR switches: those of a vCPU past the count are off
  pub msr-past : (v msr : ℕ) → n ≤ v → msr_bit_on w v msr ≡ false
  unfolding msr_bit_on switch_on
  msr-past v msr h = step (msr_place msr)
    where
      step : (p : Option ℕ) → read_switch w v p ≡ false
      step (Some place) = rw (field_past v (16 + place / 64) h) (on_none (place % 64))
      step None = refl

  pub msr-means : (v msr : ℕ) → msr_on (tables_of st) v msr ≡ msr_bit_on w v msr
  unfolding msr_on
  msr-means v msr =
      rw (msrs-look w n v msr) (test (ltb v n) (λ q. rw q (bit-placed w v msr)) (λ q. rw (q, msr-past v msr (ltb-false v n q)) (and-false (is_msr msr))))

  -- a page is guarded where it stands below rwx
  pub guard-means : So (rising page_key 0 (tables_of st).pages) → (own : List ℕ)
      → is_guarded st.pages st.session.tool.pages own ≡ ltb (access (tables_of st) (view_named own) (page_named own)) 7
  unfolding is_guarded access
  guard-means up own =
      let view = view_named own in
      let page = page_named own in
      let small : ltb page (2 ^ 52) ≡ true = lt-ltb page (2 ^ 52) (omega arith) in
      let asked : is_guarded st.pages st.session.tool.pages own
      ≡ ltb (cond (ltb view 8 && ltb page (2 ^ 52)) (word_access st.pages st.session.tool.pages (key_of view page)) 7) 7
      = test (ltb view 8) (λ a. rw (a, small)) (λ a. rw a) in
      asked ∙ ap (λ (a : ℕ). ltb a 7) (access-means st.pages st.session.tool.pages g.pages up view page)

  -- an offered event is asked for where the model asks for it
  pub asked-means : So (rising page_key 0 (tables_of st).pages) → (v event : ℕ) (own : List ℕ)
      → is_asked_for_of st.session.tool w st.pages v event own ≡ is_asked_for (tables_of st) v event own
  unfolding is_asked_for_of asked_for_by cr_bit_on is_asked_for asks_for vm_event_on
  asked-means up v event own = by_row (event_row_of event).switch
    where
      by : (x : EventSwitch) → asked_for_by st.session.tool w st.pages v event own x ≡ asks_for (tables_of st) v event own x
      by NoEvent = refl
      by OfVm = refl
      by OfVcpu = sym (event-means v event)
      by OfCr = rw (event-means v event, cr-means v (cr_named own))
      by OfMsr = rw (event-means v event, msr-means v (msr_named own))
      by OfPage = rw (event-means v event, guard-means up own)

      by_row : (x : Option EventSwitch)
          → option_map_or (asked_for_by st.session.tool w st.pages v event own) x false ≡ option_map_or (asks_for (tables_of st) v event own) x false
      by_row None = refl
      by_row (Some x) = by x

  -- what the tests ask is what the model says
  pub facts-mean : (guest v : ℕ) → facts_in st guest v ≡ facts_of (model_of st) guest v
  unfolding vcpu_of_words
  facts-mean guest v =
      let own = vcpu-means v in
      λ j. record {
        mode = (model_of st).mode;
        guest = guest;
        ready = sym (ap (λ (x : Vcpu). x.ready) own) j;
        pending = record {
          pauses = sym (ap (λ (x : Vcpu). x.pauses) own) j;
          awaited = sym (ap awaits (awaited-means v) ∙ awaits-read w v) j;
        };
      }

  -- ---- a plain field of a vCPU set
  module _ (few : n ≤ 16) (v : ℕ) (inside : v < n) where
    pub block_inside : n * 272 ≤ length w
    block_inside = let l = g.vcpu_words in omega arith

    past-set : (p x : ℕ) → p < n * 272 → (j : ℕ) → n * 272 ≤ j → get_or (set w p x) j 0 ≡ 0
    past-set p x h j l = get_or-set_other w p j x 0 (λ e. omega arith) ∙ g.past j l

    -- one of singlestep, CRS, EVENTS and PAUSES
    pub field-kept : (k x : ℕ) → k < 4 → (k ≡ SINGLESTEP → x ≤ 1) → WordsGood (with_field st v k x)
    unfolding set_field
    field-kept k x a small =
        let far : (i j : ℕ) → j < 272 → (i ≡ v → j ≡ k → ⊥) → field (set_field w v k x) i j ≡ field w i j = λ i j b d. field-set-other w v k x i j (omega arith) b d in
        vcpus-kept (set_field w v k x) (field-length w v k x ∙ g.vcpu_words) (λ i. flag i far)
        (λ i m b c e. far i m (omega arith) (λ p q. omega arith) ∙ g.waits i m b c (sym (far i AWAITED (omega arith) (λ p q. omega arith)) ∙ e))
        (λ i j b c. far i j (omega arith) (λ p q. omega arith) ∙ g.spare i j b c)
        (past-set (v * 272 + k) x (omega arith))
      where
        flag : (i : ℕ) → ((i j : ℕ) → j < 272 → (i ≡ v → j ≡ k → ⊥) → field (set_field w v k x) i j ≡ field w i j) → field (set_field w v k x) i SINGLESTEP ≤ 1
        flag i far =
            test (eqb i v)
            (λ e. test (eqb SINGLESTEP k)
            (λ f. let same = eqb-true i v e in let zero-k = eqb-true SINGLESTEP k f in
            let l = block_inside in
            rw (same, zero-k, field-set w v k x (omega arith)) (small (sym zero-k)))
            (λ f. rw (far i SINGLESTEP (omega arith) (λ p q. eqb-false SINGLESTEP k f q)) (g.flag i)))
            (λ e. rw (far i SINGLESTEP (omega arith) (λ p q. eqb-false i v e p)) (g.flag i))

    -- an MSR's switch
    pub msr-kept : (m : ℕ) (on : Bool) → WordsGood (with_vcpu_words st (set_msr_bit w v m on))
    unfolding set_field
    msr-kept m on =
        let same : (i j : ℕ) → j < 16 → field (set_msr_bit w v m on) i j ≡ field w i j = λ i j b. bit-field w v m on i j b in
        vcpus-kept (set_msr_bit w v m on) (bit_length w v m on ∙ g.vcpu_words) (λ i. rw (same i SINGLESTEP (omega arith)) (g.flag i))
        (λ i k b c e. same i k (omega arith) ∙ g.waits i k b c (sym (same i AWAITED (omega arith)) ∙ e)) (λ i j b c. same i j c ∙ g.spare i j b c)
        (bit-cases w v (λ u. (j : ℕ) → n * 272 ≤ j → get_or u j 0 ≡ 0) m on (λ k x a b. past-set (v * 272 + k) x (omega arith)) g.past)

    -- the five words of a wait together
    wait-past : (event seq : ℕ) (f : Fault) (j : ℕ) → n * 272 ≤ j → get_or (wait_words w v event seq f) j 0 ≡ 0
    unfolding wait_words set_fault set_field
    wait-past event seq f j h =
        let one = set_field w v AWAITED event in
        let two = set_field one v AWAITED_SEQ seq in
        let three = set_field two v FAULT_GVA f.gva in
        let four = set_field three v FAULT_GPA f.gpa in
        get_or-set_other four (v * 272 + FAULT_ACCESS) j f.access 0 (λ e. omega arith) ∙ get_or-set_other three (v * 272 + FAULT_GPA) j f.gpa 0 (λ e. omega arith)
        ∙ get_or-set_other two (v * 272 + FAULT_GVA) j f.gva 0 (λ e. omega arith) ∙ get_or-set_other one (v * 272 + AWAITED_SEQ) j seq 0 (λ e. omega arith)
        ∙ past-set (v * 272 + AWAITED) event (omega arith) j h

    pub wait-kept : (event seq : ℕ) (f : Fault) → (event ≡ 0 → (seq ≡ 0) × (f ≡ no_fault)) → WordsGood (with_vcpu_words st (wait_words w v event seq f))
    wait-kept event seq f z =
        let u = wait_words w v event seq f in
        let l = block_inside in
        let far : (i j : ℕ) → j < 272 → (i ≡ v → 4 ≤ j → j < 9 → ⊥) → field u i j ≡ field w i j = wait-other w v event seq f in
        vcpus-kept u (wait-length w v event seq f ∙ g.vcpu_words)
        (λ i. rw (far i SINGLESTEP (omega arith) (λ p a b. omega arith)) (g.flag i))
        (λ i k a b. waits i k a b far)
        (λ i j b c. far i j (omega arith) (λ p q r. omega arith) ∙ g.spare i j b c)
        (wait-past event seq f)
      where
        inside-here : v * 272 + 9 ≤ length w
        inside-here = let l = block_inside in omega arith

        here : (k : ℕ) → 4 ≤ k → k < 9 → event ≡ 0 → field (wait_words w v event seq f) v k ≡ 0
        here k a b e =
            test (eqb k AWAITED) (λ t. rw (eqb-true k AWAITED t) (wait-event w v event seq f inside-here ∙ e))
            (λ t4. test (eqb k AWAITED_SEQ) (λ t. rw (eqb-true k AWAITED_SEQ t) (wait-seq w v event seq f inside-here ∙ (z e).0))
            (λ t5. test (eqb k FAULT_GVA) (λ t. rw (eqb-true k FAULT_GVA t) (wait-gva w v event seq f inside-here ∙ ap (λ (x : Fault). x.gva) (z e).1))
            (λ t6. test (eqb k FAULT_GPA) (λ t. rw (eqb-true k FAULT_GPA t) (wait-gpa w v event seq f inside-here ∙ ap (λ (x : Fault). x.gpa) (z e).1))
            (λ t7. let n4 = eqb-false k AWAITED t4 in let n5 = eqb-false k AWAITED_SEQ t5 in let n6 = eqb-false k FAULT_GVA t6 in let n7 = eqb-false k FAULT_GPA t7 in
            let last : k ≡ FAULT_ACCESS = omega arith in
            rw last (wait-access w v event seq f inside-here ∙ ap (λ (x : Fault). x.access) (z e).1)))))

        waits : (i k : ℕ) → 4 ≤ k → k < 9 → ((i j : ℕ) → j < 272 → (i ≡ v → 4 ≤ j → j < 9 → ⊥) → field (wait_words w v event seq f) i j ≡ field w i j)
            → field (wait_words w v event seq f) i AWAITED ≡ 0 → field (wait_words w v event seq f) i k ≡ 0
        waits i k a b far e =
            test (eqb i v)
            (λ t. let same = eqb-true i v t in
            rw same (here k a b (sym (wait-event w v event seq f inside-here) ∙ rw same at e)))
            (λ t. let gone = eqb-false i v t in
            far i k (omega arith) (λ p q r. gone p) ∙ g.waits i k a b (sym (far i AWAITED (omega arith) (λ p q r. gone p)) ∙ e))
