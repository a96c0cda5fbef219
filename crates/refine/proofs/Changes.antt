-- Each change on the words is the model's change. Assumes nothing.
use mathlib.Core.Path.{◌≡◌, refl, sym, ap, subst, ◌∙◌}
use Prim.Native.Nat.{ℕ, zero, suc, ◌+◌, ◌-◌, ◌*◌, ◌/◌, ◌%◌, ◌^◌, ◌≤◌, ◌<◌}
use native.Mathlib.Omega.{arith}
use mathlib.Core.List.{List, [], ◌∷◌}
use mathlib.Core.Bool.{Bool, true, false, cond, not, ◌&&◌, So}
use mathlib.Core.Option.{Option, none, some}
use lib.ListN.{length, get_or, set, take, drop}
use lib.Seq.{set_out}
use lib.Dec.{ltb, leb, eqb}
use borrow.Author.Tests.{ltb-true, ltb-false, leb-true, leb-false, lt-ltb, eqb-true, ne_eqb, not-false}
use Rattle.kvmi.specs.declared.Settings.{Settings}
use Rattle.kvmi.specs.declared.ReplyMode.{ReplyMode}
use Rattle.kvmi.specs.declared.ReplyMode.TheVariants.{On, Off, ErrorsOnly}
use Rattle.kvmi.specs.declared.Change.{Change}
use Rattle.kvmi.specs.declared.Change.TheVariants.{Nothing, SetVmEvent, WritePhysical, QueuePause, SetVcpuEvent, SetCr, SetMsr, SetPages, SetSinglestep, SetReplies, EndWait}
use Rattle.kvmi.specs.Bits.{bit, every, put_bit}
use Rattle.kvmi.specs.Codes.{OK, ENOMEM}
use Rattle.kvmi.specs.Settings.{in_range, all_or_nothing}
use Rattle.kvmi.specs.Tables.{Vcpu, Msr, Tables, vcpu_at, set_vcpu, with_crs, with_events, with_pauses, with_singlestep, with_vcpus, with_msrs, with_pages, cr_bit}
use Rattle.kvmi.specs.declared.Feed.{Feed}
use Rattle.kvmi.specs.declared.Fault.{Fault}
use Rattle.kvmi.specs.Feed.{no_fault}
use Rattle.kvmi.specs.declared.Awaited.{Awaited}
use Rattle.kvmi.specs.Model.{awaiting, with_tables, with_mode, with_awaited, on_vcpu, set_awaited}
use Rattle.kvmi.specs.Message.{Entry, entries_of, is_vm_event, is_vcpu_event}
use Rattle.kvmi.specs.Verdict.{is_access}
use Rattle.kvmi.specs.Limits.{page_limit}
use Rattle.kvmi.specs.Change.{Run, take_entries, run_by, set_pages, set_msr, Applied, applied, applied_run, apply}
use Rattle.store.specs.Words.{field, fault_in, set_field, set_msr_bit, put_bit64, SINGLESTEP, CRS, EVENTS, PAUSES, set_fault, AWAITED, AWAITED_SEQ, FAULT_GVA, FAULT_GPA, FAULT_ACCESS}
use Rattle.page_words.specs.PageWords.{PageTable, page_table, run_entries}
use Rattle.store.specs.Meaning.{msrs_of, vcpus_of, vcpu_of_words}
use Rattle.page_words.specs.Meaning.{pages_of}
use Rattle.kvmi.specs.Mode.{number_of_mode, mode_of_number}
use Rattle.session.specs.State.{State, state, with_field, with_vcpu_words}
use Rattle.change.specs.Change.{StateChanged, changed, changed_pages, pages_by, change}
use Rattle.session.specs.Meaning.{awaited_in, awaited_of, tables_of, model_of, WordsGood}
use Rattle.laws.proofs.Bool.{test, every-and}
use Rattle.laws.proofs.Kept.{vm-event-small, vcpu-event-small}
use Rattle.laws.proofs.Steps.{entries-small}
use Rattle.refine.proofs.Pages.{Means, run-entries}
use Rattle.refine.proofs.Msrs.{field-set, field-set-other, field-length, set-msr, msrs-field, bit-field}
use Rattle.refine.proofs.Vcpus.{vcpus-crs, vcpus-events, vcpus-pauses, vcpus-singlestep, vcpus-msr, vcpus-apart}
use Rattle.refine.proofs.Waits.{wait_words, ended-as, wait-other, wait-event, wait-seq, wait-fault, zero-field-again}
use Rattle.refine.proofs.Awaited.{awaited-length, awaited-same, awaited-set, awaited-fields}
use Rattle.refine.proofs.Words.{tool-kept, pages-kept, field_past, vcpu-means, block_inside, field-kept, msr-kept, wait-kept}

-- what the words mean after a change is what the model's change gives
pub record Meant (r : StateChanged) (a : Applied) : Type 0 where
  pub model : model_of r.state ≡ a.model
  pub guest : r.guest ≡ a.guest
  pub code : r.code ≡ a.code
  pub words : WordsGood r.state

put-bit : (w k : ℕ) (on : Bool) → k < 64 → put_bit64 w k on ≡ put_bit w k on
unfolding put_bit64
put-bit w k on h = rw (lt-ltb k 64 h)

mode-back : (m : ReplyMode) → mode_of_number (number_of_mode m) ≡ m
unfolding mode_of_number
mode-back On = refl
mode-back Off = refl
mode-back ErrorsOnly = refl

mode_small : (m : ReplyMode) → number_of_mode m ≤ 2
mode_small On = omega arith
mode_small Off = omega arith
mode_small ErrorsOnly = omega arith

module _ (st : State) (g : WordsGood st) (few : st.session.settings.vcpus ≤ 16) (guest d : List ℕ) where
  abbrev count : ℕ
  count = st.session.settings.vcpus

  abbrev words : List ℕ
  words = st.vcpus

  abbrev ready : ℕ
  ready = st.session.shared.ready

  -- other vCPU words: of the model, the lists that they mean
  words-model : (u : List ℕ) (vs : List Vcpu) (ms : List Msr) (ws : List (Option Awaited)) → vcpus_of ready u 0 count ≡ vs → msrs_of u 0 count ≡ ms → awaited_of u 0 count ≡ ws
      → model_of (with_vcpu_words st u) ≡ with_awaited (with_tables (model_of st) (with_msrs (with_vcpus (tables_of st) vs) ms)) ws
  words-model u vs ms ws vcpus msrs awaited = λ j. with_awaited (with_tables (model_of st) (with_msrs (with_vcpus (tables_of st) (vcpus j)) (msrs j))) (awaited j)

  -- a plain field of one vCPU, of which its record alone speaks
  pub field-model : (v k x : ℕ) (f : Vcpu → Vcpu) → k < 4 → v < count
      → vcpus_of ready (set_field words v k x) 0 count ≡ set (vcpus_of ready words 0 count) v (f (vcpu_of_words ready words v))
      → model_of (with_field st v k x) ≡ on_vcpu (model_of st) v f
  field-model v k x f a h e =
      let vcpus : vcpus_of ready (set_field words v k x) 0 count ≡ set (vcpus_of ready words 0 count) v (f (vcpu_at (tables_of st) v)) = e ∙ ap (λ (y : Vcpu). set (vcpus_of ready words 0 count) v (f y)) (sym (vcpu-means st g v)) in
      let msrs : msrs_of (set_field words v k x) 0 count ≡ msrs_of words 0 count = msrs-field words v k x count (omega arith) in
      let awaited : awaited_of (set_field words v k x) 0 count ≡ awaited_of words 0 count
      = awaited-same words (set_field words v k x) count
      (λ i. awaited-fields words (set_field words v k x) i (λ j b c. field-set-other words v k x i j (omega arith) (omega arith) (λ p q. omega arith))) in
      words-model (set_field words v k x) _ _ _ vcpus msrs awaited

  pub pause-meant : (v : ℕ) (wait : Bool) → v < count → field words v PAUSES < 8 → Meant (change st guest d (QueuePause wait v)) (apply st.session.settings (model_of st) guest d (QueuePause wait v))
  unfolding change apply
  pause-meant v wait h p =
      let one : (field words v PAUSES + 1) % 2 ^ 64 ≡ field words v PAUSES + 1 = omega arith in
      let l = block_inside st g few v h in
      rw one
      (record {
        model = field-model v PAUSES (field words v PAUSES + 1) (λ x. with_pauses x (x.pauses + 1)) (omega arith) h (unfold vcpu_of_words in vcpus-pauses ready words v (field words v PAUSES + 1) count l h);
        guest = refl;
        code = refl;
        words = field-kept st g few v h PAUSES (field words v PAUSES + 1) (omega arith) (λ e. absurd (omega arith));
      })

  pub event-meant : (v event : ℕ) (on : Bool) → v < count → So (is_vcpu_event event) → Meant (change st guest d (SetVcpuEvent on v event)) (apply st.session.settings (model_of st) guest d (SetVcpuEvent on v event))
  unfolding change apply vcpu_of_words
  event-meant v event on h e =
      let small = vcpu-event-small event e in
      let x = put_bit (field words v EVENTS) event on in
      let l = block_inside st g few v h in
      rw (put-bit (field words v EVENTS) event on (omega arith))
      (record {
        model = field-model v EVENTS x (λ y. with_events y (put_bit y.events event on)) (omega arith) h (vcpus-events ready words v x count l h);
        guest = refl;
        code = refl;
        words = field-kept st g few v h EVENTS x (omega arith) (λ q. absurd (omega arith));
      })

  pub cr-meant : (v cr : ℕ) (on : Bool) → v < count → Meant (change st guest d (SetCr on v cr)) (apply st.session.settings (model_of st) guest d (SetCr on v cr))
  unfolding change apply vcpu_of_words
  cr-meant v cr on h =
      let x = put_bit (field words v CRS) (cr_bit cr) on in
      let l = block_inside st g few v h in
      record {
        model = field-model v CRS x (λ y. with_crs y (put_bit y.crs (cr_bit cr) on)) (omega arith) h (vcpus-crs ready words v x count l h);
        guest = refl;
        code = refl;
        words = field-kept st g few v h CRS x (omega arith) (λ q. absurd (omega arith));
      }

  bit-one : (on : Bool) → bit on ≤ 1
  bit-one true = omega arith
  bit-one false = omega arith

  pub single-meant : (v : ℕ) (on : Bool) → v < count → Meant (change st guest d (SetSinglestep on v)) (apply st.session.settings (model_of st) guest d (SetSinglestep on v))
  unfolding change apply
  single-meant v on h =
      let l = block_inside st g few v h in
      record {
        model = field-model v SINGLESTEP (bit on) (λ y. with_singlestep y on) (omega arith) h (vcpus-singlestep ready words v on count l h);
        guest = refl;
        code = refl;
        words = field-kept st g few v h SINGLESTEP (bit on) (omega arith) (λ q. bit-one on);
      }

  pub msr-meant : (v msr : ℕ) (on : Bool) → v < count → Meant (change st guest d (SetMsr on v msr)) (apply st.session.settings (model_of st) guest d (SetMsr on v msr))
  unfolding change apply
  msr-meant v msr on h =
      let l = block_inside st g few v h in
      let u = set_msr_bit words v msr on in
      let vcpus : vcpus_of ready u 0 count ≡ vcpus_of ready words 0 count = vcpus-msr ready words v msr on count in
      let msrs : msrs_of u 0 count ≡ set_msr (record { vcpu = v; msr = msr }) on (msrs_of words 0 count) = set-msr words count v msr l h on in
      let awaited : awaited_of u 0 count ≡ awaited_of words 0 count
      = awaited-same words u count (λ i. awaited-fields words u i (λ j b c. bit-field words v msr on i j (omega arith))) in
      record {
        model = words-model u _ _ _ vcpus msrs awaited;
        guest = refl;
        code = refl;
        words = msr-kept st g few v h msr on;
      }

  pub vm-event-meant : (event : ℕ) (on : Bool) → So (is_vm_event event) → Meant (change st guest d (SetVmEvent on event)) (apply st.session.settings (model_of st) guest d (SetVmEvent on event))
  unfolding change apply
  vm-event-meant event on e =
      let small = vm-event-small event e in
      rw (put-bit st.session.tool.events event on (omega arith))
      (record {
        model = refl;
        guest = refl;
        code = refl;
        words = tool-kept st g _ refl g.opened g.mode;
      })

  pub replies-meant : (mode : ReplyMode) (now : Bool) → Meant (change st guest d (SetReplies now mode)) (apply st.session.settings (model_of st) guest d (SetReplies now mode))
  unfolding change apply
  replies-meant mode now =
      record {
        model = ap (λ (x : ReplyMode). with_mode (model_of st) x) (mode-back mode);
        guest = refl;
        code = refl;
        words = tool-kept st g _ refl g.opened (mode_small mode);
      }

  -- a run that stands, or the pages as they were
  pages-either : (back : Bool) (t : PageTable) → WordsGood (changed_pages st guest t).state
      → Meant (changed_pages st guest (cond back (page_table st.pages st.session.tool.pages true) t))
      (applied_run (model_of st) guest (cond back (record { pages = (tables_of st).pages; skipped = true }) (record { pages = pages_of t.words t.count; skipped = t.skipped })))
  pages-either true t kept = record { model = refl; guest = refl; code = refl; words = pages-kept st g st.session.tool.pages st.pages g.page_words g.pages }
  pages-either false t kept = record { model = refl; guest = refl; code = refl; words = kept }

  pub pages-meant : (view n : ℕ) → view < 8 → So (every (λ (e : Entry). is_access e.access) (entries_of n (drop 8 d)))
      → Meant (change st guest d (SetPages view n)) (apply st.session.settings (model_of st) guest d (SetPages view n))
  unfolding change apply set_pages pages_by run_by
  pages-meant view n v h =
      let es = entries_of n (drop 8 d) in
      let l = g.page_words in
      let m = run-entries page_limit view es st.pages st.session.tool.pages g.pages v
      (every-and (λ (e : Entry). is_access e.access) (λ (e : Entry). ltb e.page (2 ^ 52)) es h (entries-small n (drop 8 d))) (omega arith) in
      let t = run_entries page_limit view es st.pages st.session.tool.pages in
      let whole = all_or_nothing st.session.settings in
      subst (λ (r : Run). Meant (changed_pages st guest (cond (whole && t.skipped) (page_table st.pages st.session.tool.pages true) t))
      (applied_run (model_of st) guest (cond (whole && r.skipped) (record { pages = (tables_of st).pages; skipped = true }) r))) m.run
      (pages-either (whole && t.skipped) t (pages-kept st g t.count t.words (m.long ∙ l) m.good))

  -- the awaited event of a vCPU
  wait-words : (v event seq : ℕ) (f : Fault) → v < count → awaited_in (wait_words words v event seq f) v ≡ cond (eqb event 0) none (some (awaiting event seq f))
  unfolding awaited_in
  wait-words v event seq f h =
      let l = block_inside st g few v h in
      let inside : v * 272 + 9 ≤ length words = omega arith in
      let fault : fault_in (wait_words words v event seq f) v ≡ f = wait-fault words v event seq f inside in
      λ j. cond (eqb (wait-event words v event seq f inside j) 0) none
      (some (awaiting (wait-event words v event seq f inside j) (wait-seq words v event seq f inside j) (fault j)))

  waits-set : (v event seq : ℕ) (f : Fault) (a : Option Awaited) → v < count → cond (eqb event 0) none (some (awaiting event seq f)) ≡ a
      → model_of (with_vcpu_words st (wait_words words v event seq f)) ≡ set_awaited (model_of st) v a
  unfolding wait_words set_fault
  waits-set v event seq f a h e =
      let one = set_field words v AWAITED event in
      let two = set_field one v AWAITED_SEQ seq in
      let three = set_field two v FAULT_GVA f.gva in
      let four = set_field three v FAULT_GPA f.gpa in
      let five = set_field four v FAULT_ACCESS f.access in
      let vcpus : vcpus_of ready five 0 count ≡ vcpus_of ready words 0 count
      = vcpus-apart ready four v f.access count FAULT_ACCESS (omega arith) (omega arith) ∙ vcpus-apart ready three v f.gpa count FAULT_GPA (omega arith) (omega arith)
      ∙ vcpus-apart ready two v f.gva count FAULT_GVA (omega arith) (omega arith) ∙ vcpus-apart ready one v seq count AWAITED_SEQ (omega arith) (omega arith)
      ∙ vcpus-apart ready words v event count AWAITED (omega arith) (omega arith) in
      let msrs : msrs_of five 0 count ≡ msrs_of words 0 count
      = msrs-field four v FAULT_ACCESS f.access count (omega arith) ∙ msrs-field three v FAULT_GPA f.gpa count (omega arith)
      ∙ msrs-field two v FAULT_GVA f.gva count (omega arith) ∙ msrs-field one v AWAITED_SEQ seq count (omega arith) ∙ msrs-field words v AWAITED event count (omega arith) in
      let awaited : awaited_of five 0 count ≡ set (awaited_of words 0 count) v a
      = awaited-set words five count v a (wait-words v event seq f h ∙ e)
      (λ i q. awaited-fields words five i (λ j b c. wait-other words v event seq f i j (omega arith) (λ p x y. q p))) in
      words-model five _ _ _ vcpus msrs awaited

  pub await-model : (v event seq : ℕ) (f : Fault) → v < count → (event ≡ 0 → ⊥)
      → model_of (with_vcpu_words st (wait_words words v event seq f)) ≡ set_awaited (model_of st) v (some (awaiting event seq f))
  await-model v event seq f h d = waits-set v event seq f (some (awaiting event seq f)) h (rw (ne_eqb event 0 d))

  -- past the count every word of a wait is 0 already
  ended-past : (v : ℕ) → count ≤ v → wait_words words v 0 0 no_fault ≡ words
  unfolding wait_words set_fault
  ended-past v h =
      let again : (k : ℕ) → set_field words v k 0 ≡ words = λ k. zero-field-again words v k (field_past st g v k h) in
      ap (λ (x : List ℕ). set_field (set_field (set_field (set_field x v AWAITED_SEQ 0) v FAULT_GVA 0) v FAULT_GPA 0) v FAULT_ACCESS 0) (again AWAITED)
      ∙ ap (λ (x : List ℕ). set_field (set_field (set_field x v FAULT_GVA 0) v FAULT_GPA 0) v FAULT_ACCESS 0) (again AWAITED_SEQ)
      ∙ ap (λ (x : List ℕ). set_field (set_field x v FAULT_GPA 0) v FAULT_ACCESS 0) (again FAULT_GVA)
      ∙ ap (λ (x : List ℕ). set_field x v FAULT_ACCESS 0) (again FAULT_GPA) ∙ again FAULT_ACCESS

  pub end-meant : (resumes : Bool) (v action value : ℕ) (feed : Feed)
      → Meant (change st guest d (EndWait resumes v action value feed)) (apply st.session.settings (model_of st) guest d (EndWait resumes v action value feed))
  unfolding change apply
  end-meant resumes v action value feed =
      rw (ended-as words v)
      (test (ltb v count)
      (λ t. let h = ltb-true v count t in
      record { model = waits-set v 0 0 no_fault none h refl; guest = refl; code = refl; words = wait-kept st g few v h 0 0 no_fault (λ e. (refl, refl)) })
      (λ t. let h = ltb-false v count t in
      let none-there : set (awaited_of words 0 count) v none ≡ awaited_of words 0 count = set_out (awaited_of words 0 count) v none (rw (awaited-length words 0 count) h) in
      rw (ended-past v h)
      (record {
        model = ap (λ (x : List (Option Awaited)). with_awaited (model_of st) x) (sym none-there);
        guest = refl;
        code = refl;
        words = g;
      })))
