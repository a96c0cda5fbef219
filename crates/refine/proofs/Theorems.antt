-- The theorems on sessions. A session that fresh makes, on whatever words were lent, is well formed, and every call leaves one that is; so is one
-- that an accepted image makes (`history/Images`). Assumes nothing.
use mathlib.Core.Path.{◌≡◌, refl, sym, ap, ◌∙◌, subst}
use mathlib.Core.Logic.{◌⊎◌, ◌≢◌, inl, inr, ⊎_elim}
use Prim.Native.Nat.{ℕ, zero, suc, ◌+◌, ◌*◌, ◌≤◌, ◌<◌}
use native.Mathlib.Omega.{arith}
use mathlib.Core.List.{List, [], ◌∷◌}
use mathlib.Core.Bool.{Bool, true, false, cond, not, ◌&&◌, So, false≢true}
use mathlib.Core.Option.{Option, none, some}
use lib.ListN.{length, take, drop, replicate, length-replicate}
use lib.Dec.{ltb, leb, eqb}
use borrow.Author.Tests.{eqb-true}
use Rattle.std.specs.Prelude.{Some, None}
use Rattle.wire.specs.Header.{whole, HeaderRead, header_of}
use Rattle.kvmi.specs.declared.Settings.{Settings}
use Rattle.kvmi.specs.declared.Awaited.{Awaited}
use Rattle.kvmi.specs.declared.Facts.{Facts}
use Rattle.kvmi.specs.declared.Signal.TheVariants.{Quiet}
use Rattle.kvmi.specs.declared.Change.{Change}
use Rattle.kvmi.specs.declared.Change.TheVariants.{Nothing, SetVmEvent, WritePhysical, QueuePause, SetVcpuEvent, SetCr, SetMsr, SetPages, SetSinglestep, SetReplies, EndWait}
use Rattle.kvmi.specs.declared.Verdict.{Verdict}
use Rattle.kvmi.specs.Answer.{handled}
use Rattle.kvmi.specs.Limits.{page_limit}
use Rattle.kvmi.specs.Codes.{is_error, OK, ENOMEM}
use Rattle.kvmi.specs.Settings.{in_range, all_or_nothing}
use Rattle.kvmi.specs.Tables.{Tables, resting, empty_tables, with_vcpus, with_msrs, with_pages}
use Rattle.kvmi.specs.Model.{Model, fresh, with_tables, with_awaited}
use Rattle.kvmi.specs.Message.{names_vcpu, vcpu_of, enables, register_of, count_of, view_of, entries_of}
use Rattle.kvmi.specs.Verdict.{change_of, mode_of, verdict}
use Rattle.kvmi.specs.Valid.{Valid}
use Rattle.kvmi.specs.Call as model
use Rattle.store.specs.Words.{field, set_field, set_msr_bit, cleared, SINGLESTEP, CRS, EVENTS, PAUSES, AWAITED, AWAITED_SEQ, FAULT_GVA, FAULT_GPA, FAULT_ACCESS, set_fault, ended_wait, vcpu_word_count}
use Rattle.page_words.specs.PageWords.{PageTable, page_table, run_entries, page_word_count}
use Rattle.kvmi.specs.Mode.{mode_of_number}
use Rattle.session.specs.State.{State, state, fresh_session, cleared_state, with_field, with_seq_of, is_closed}
use Rattle.session.specs.Calls.{Told, told_same, fresh_of, ready_of}
use Rattle.change.specs.Change.{changed_pages, pages_by, change}
use Rattle.message.specs.Message.{facts_in, code_by, answering_of, judged_of, headed_of, message_of}
use Rattle.entry.specs.Entry.{enter_of}
use Rattle.session.specs.Meaning.{tables_of, model_of, WordsGood, WellFormed}
use Rattle.refine.specs.Errors.{code_headed, code_of, with_pages_of, ErrorSpares}
use Rattle.laws.proofs.Verdicts.{pick, Passed, ending, verdict-cases}
use Rattle.laws.proofs.Kept.{empty-valid}
use Rattle.laws.proofs.Steps.{message-kept, ready-kept, enter-kept}
use Rattle.refine.proofs.Msrs.{field-block, bit-block, zeros-msrs}
use Rattle.refine.proofs.Vcpus.{zeros-vcpus}
use Rattle.refine.proofs.Awaited.{zeros-awaited}
use Rattle.refine.proofs.Simulate.{Simulates, zero-words, no-pages, message-simulates, ready-simulates, enter-simulates}

-- ---- fresh makes a well-formed session, whatever words were lent; it stands for the fresh model
pub fresh-model : (s : Settings) (vcpus pages : List ℕ) → model_of (cleared_state (fresh_session s) vcpus pages) ≡ fresh s
unfolding cleared mode_of_number
fresh-model s vcpus pages =
    let n = s.vcpus in
    let k = length vcpus in
    let waits = zeros-awaited k n ∙ ap (λ (i : ℕ). replicate i none) (sym (length-replicate n resting)) in
    λ j. with_awaited
    (with_tables (fresh s) (with_pages (with_msrs (with_vcpus (empty_tables n) (zeros-vcpus k n j)) (zeros-msrs k n j)) (no-pages (cleared pages) j)))
    (waits j)

pub fresh-formed : (s : Settings) (vcpus pages : List ℕ) → length vcpus ≡ vcpu_word_count → length pages ≡ page_word_count → So (in_range s) → WellFormed (cleared_state (fresh_session s) vcpus pages)
fresh-formed s vcpus pages v p ok =
    record {
      settings = ok;
      words = zero-words s (fresh_session s) vcpus pages v p (omega arith) (omega arith) refl refl;
      tables = subst (λ (m : Model). Valid s m.tables) (sym (fresh-model s vcpus pages)) (empty-valid s ok);
    }

-- what `begin` leaves where it is not refused
pub begin-fresh : (s : Settings) (vcpus pages : List ℕ) → So (in_range s) → ((fresh_of s vcpus pages).answer ≡ handled 0 Quiet) × ((fresh_of s vcpus pages).state ≡ cleared_state (fresh_session s) vcpus pages)
unfolding fresh_of
begin-fresh s vcpus pages ok = (rw ok, rw ok)

-- ---- every call keeps it
pub formed : (st : State) (r : Told) (q : model.Step) → WellFormed st → Simulates st r q → Valid st.session.settings q.model.tables → WellFormed r.state
formed st r q f m a =
    let same : tables_of r.state ≡ q.model.tables = ap (λ (x : Model). x.tables) m.model in
    record {
      settings = subst (λ (x : Settings). So (in_range x)) (sym m.settings) f.settings;
      words = m.words;
      tables = subst (λ (x : Settings). Valid x (tables_of r.state)) (sym m.settings) (subst (λ (t : Tables). Valid st.session.settings t) (sym same) a);
    }

pub message-formed : (st : State) (msg out guest : List ℕ) → WellFormed st → WellFormed (message_of st msg out guest).state
message-formed st msg out guest f =
    formed st _ _ f (message-simulates st f out guest msg) (message-kept st.session.settings f.settings (model_of st) msg out guest f.tables)

pub ready-formed : (st : State) (vcpu : ℕ) → WellFormed st → WellFormed (ready_of st vcpu).state
ready-formed st vcpu f = formed st _ _ f (ready-simulates st f vcpu) (ready-kept st.session.settings f.settings (model_of st) vcpu f.tables)

pub enter-formed : (st : State) (vcpu : ℕ) (block : List ℕ) (event : ℕ) (own out : List ℕ) → WellFormed st → WellFormed (enter_of st vcpu block event own out).state
enter-formed st vcpu block event own out f =
    formed st _ _ f (enter-simulates st f vcpu block event own out) (enter-kept st.session.settings f.settings (model_of st) vcpu block event own out f.tables)

-- ---- demand 2: a command changes no other vCPU's block, unless it closes the session. Any bits in the session.
abbrev pub block : List ℕ → ℕ → List ℕ
block w i = take 272 (drop (i * 272) w)

module _ (st : State) (guest d : List ℕ) (i : ℕ) (other : i ≢ vcpu_of d) where
  abbrev Apart : Change → Type 0
  Apart c = block (change st guest d c).state.vcpus i ≡ block st.vcpus i

  one_field : (k x : ℕ) → k < 272 → block (set_field st.vcpus (vcpu_of d) k x) i ≡ block st.vcpus i
  one_field k x h = field-block st.vcpus (vcpu_of d) k x i h other

  change-apart : (id : ℕ) (f : Facts) → Passed st.session.settings f id d → Apart (change_of id d)
  unfolding change_of change
  change-apart id f p =
      pick Apart (eqb id 5) _ _ (λ _. refl)
      (λ _. pick Apart (eqb id 7) _ _ (λ _. refl)
      (λ _. pick Apart (eqb id 9) _ _ (λ _. one_field PAUSES _ (omega arith))
      (λ _. pick Apart (eqb id 10) _ _ (λ _. one_field EVENTS _ (omega arith))
      (λ _. pick Apart (eqb id 11) _ _ (λ _. one_field CRS _ (omega arith))
      (λ _. pick Apart (eqb id 12) _ _
      (λ _. bit-block st.vcpus (vcpu_of d) (register_of d) (enables id d) i other)
      (λ _. pick Apart (eqb id 13) _ _ (λ _. refl)
      (λ _. pick Apart (eqb id 14) _ _ (λ _. one_field SINGLESTEP _ (omega arith))
      (λ _. pick Apart (eqb id 15) _ _ (λ _. refl) (λ _. refl)))))))))

  end-apart : (a : Awaited) (n : ℕ) → Apart (ending a n d)
  unfolding change ended_wait set_fault
  end-apart a n =
      let v = vcpu_of d in
      let one = set_field st.vcpus v AWAITED 0 in
      let two = set_field one v AWAITED_SEQ 0 in
      let three = set_field two v FAULT_GVA 0 in
      let four = set_field three v FAULT_GPA 0 in
      field-block four v FAULT_ACCESS 0 i (omega arith) other ∙ field-block three v FAULT_GPA 0 i (omega arith) other ∙ field-block two v FAULT_GVA 0 i (omega arith) other
      ∙ field-block one v AWAITED_SEQ 0 i (omega arith) other ∙ one_field AWAITED 0 (omega arith)

  abbrev Spares : Told → Type 0
  Spares r = (r.answer.number ≡ 1 → ⊥) → (block r.state.vcpus i ≡ block st.vcpus i) × (r.state.session.shared.ready ≡ st.session.shared.ready)

  ready-kept-by : (c : Change) → (change st guest d c).state.session.shared.ready ≡ st.session.shared.ready
  unfolding change
  ready-kept-by Nothing = refl
  ready-kept-by (SetVmEvent on event) = refl
  ready-kept-by (WritePhysical gpa) = refl
  ready-kept-by (QueuePause wait vcpu) = refl
  ready-kept-by (SetVcpuEvent on vcpu event) = refl
  ready-kept-by (SetCr on vcpu cr) = refl
  ready-kept-by (SetMsr on vcpu msr) = refl
  ready-kept-by (SetPages view count) = refl
  ready-kept-by (SetSinglestep on vcpu) = refl
  ready-kept-by (SetReplies now mode) = refl
  ready-kept-by (EndWait resumes vcpu action value feed) = refl

  judged-apart : (id seq : ℕ) (out : List ℕ) (f : Facts) → Spares (judged_of st id seq d out guest (verdict st.session.settings f id seq d))
  unfolding judged_of answering_of
  judged-apart id seq out f =
      verdict-cases (λ v. Spares (judged_of st id seq d out guest v)) st.session.settings f id seq d (λ h. absurd (h refl)) (λ code _ _. (refl, refl))
      (λ p _. (change-apart id f p, ready-kept-by (change_of id d))) (λ a _ _. (end-apart a f.guest, ready-kept-by (ending a f.guest d)))

pub message-apart : (st : State) (msg out guest : List ℕ) (i : ℕ) → i ≢ vcpu_of (drop 8 msg) → ((message_of st msg out guest).answer.number ≡ 1 → ⊥)
    → (block (message_of st msg out guest).state.vcpus i ≡ block st.vcpus i) × ((message_of st msg out guest).state.session.shared.ready ≡ st.session.shared.ready)
unfolding message_of headed_of
message-apart st msg out guest i other =
    pick (Spares st guest (drop 8 msg) i other) (is_closed st) _ _ (λ _ _. (refl, refl))
    (λ _. pick (Spares st guest (drop 8 msg) i other) (ltb (length out) 4112) _ _ (λ _ _. (refl, refl)) (λ _. by-header (header_of msg)))
  where
    by-header : (h : HeaderRead) → Spares st guest (drop 8 msg) i other (headed_of st (drop 8 msg) out guest h)
    by-header None = λ h. absurd (h refl)
    by-header (Some h) = judged-apart st guest (drop 8 msg) i other h.id h.seq out (facts_in st (length guest) (vcpu_of (drop 8 msg)))

-- ---- an error changes no tables and no guest memory, message 13 with -12 in revision 1 excepted
-- pages and the next event's seq can be changed in either order
pages-seq : (st x : State) (seq : ℕ) → x ≡ with_pages_of st x.session.tool.pages x.pages → with_seq_of x seq ≡ with_pages_of (with_seq_of st seq) x.session.tool.pages x.pages
pages-seq st x seq e = ap (λ (y : State). with_seq_of y seq) e

same-seq : (st x : State) (seq : ℕ) → x ≡ with_pages_of st st.session.tool.pages st.pages → with_seq_of x seq ≡ with_seq_of st seq
same-seq st x seq e = ap (λ (y : State). with_seq_of y seq) e

module _ (st : State) (guest d : List ℕ) where
  -- the pages as they were, or not all or nothing and other pages
  abbrev Pages-by : State → Type 0
  Pages-by x =
      (x ≡ with_pages_of st st.session.tool.pages st.pages)
      ⊎ ((all_or_nothing st.session.settings ≡ false) × (x ≡ with_pages_of st x.session.tool.pages x.pages))

  by-revision : (whole skipped : Bool) (t : PageTable) → all_or_nothing st.session.settings ≡ whole → t.skipped ≡ skipped
      → let r = changed_pages st guest (cond (whole && skipped) (page_table st.pages st.session.tool.pages true) t) in
      is_error r.code ≡ true → (r.code ≡ ENOMEM) × Pages-by r.state
  by-revision true true t w k e = (refl, inl refl)
  by-revision true false t w k e = absurd (false≢true (rw k at e))
  by-revision false true t w k e = (rw k, inr (w, refl))
  by-revision false false t w k e = absurd (false≢true (rw k at e))

  abbrev Only-13 : ℕ → Change → Type 0
  Only-13 id c =
      let r = change st guest d c in
      is_error r.code ≡ true → (id ≡ 13) × (r.code ≡ ENOMEM) × (r.guest ≡ guest) × Pages-by r.state

  only-13 : (id : ℕ) → Only-13 id (change_of id d)
  unfolding change_of change pages_by
  only-13 id =
      pick (Only-13 id) (eqb id 5) _ _ (λ _ e. absurd (false≢true e))
      (λ _. pick (Only-13 id) (eqb id 7) _ _ (λ _ e. absurd (false≢true e))
      (λ _. pick (Only-13 id) (eqb id 9) _ _ (λ _ e. absurd (false≢true e))
      (λ _. pick (Only-13 id) (eqb id 10) _ _ (λ _ e. absurd (false≢true e))
      (λ _. pick (Only-13 id) (eqb id 11) _ _ (λ _ e. absurd (false≢true e))
      (λ _. pick (Only-13 id) (eqb id 12) _ _ (λ _ e. absurd (false≢true e))
      (λ _. pick (Only-13 id) (eqb id 13) _ _ (λ h e. let t = run_entries page_limit (view_of d) (entries_of (count_of d) (drop 8 d)) st.pages st.session.tool.pages in
      let b = by-revision (all_or_nothing st.session.settings) t.skipped t refl refl e in (eqb-true id 13 h, b.0, refl, b.1))
      (λ _. pick (Only-13 id) (eqb id 14) _ _ (λ _ e. absurd (false≢true e))
      (λ _. pick (Only-13 id) (eqb id 15) _ _ (λ _ e. absurd (false≢true e)) (λ _ e. absurd (false≢true e))))))))))

  -- by the verdict of a message with a whole header
  abbrev Spared-by : List ℕ → ℕ → ℕ → ℕ → List ℕ → Verdict → Type 0
  Spared-by msg id size seq out v = is_error (code_by st guest d v) ≡ true → ErrorSpares st msg guest (code_by st guest d v) (judged_of st id seq d out guest v)

  spared-by : (msg : List ℕ) (id size seq : ℕ) (out : List ℕ) (f : Facts) → header_of msg ≡ whole id size seq → Spared-by msg id size seq out (verdict st.session.settings f id seq d)
  unfolding judged_of answering_of change
  spared-by msg id size seq out f w =
      verdict-cases (Spared-by msg id size seq out) st.session.settings f id seq d (λ e. absurd (false≢true e)) (λ code _ _. inl (refl, refl))
      (λ _ e. let o = only-13 id e in
      ⊎_elim (λ q. inl (o.2, same-seq st _ _ q))
      (λ q. inr ((size, seq, w ∙ ap (λ (n : ℕ). whole n size seq) o.0), o.1, q.0, (o.2, pages-seq st _ _ q.1))) o.3)
      (λ _ _ e. absurd (false≢true e))

-- a message that is answered with an error
pub error-spares : (st : State) (msg out guest : List ℕ) → is_error (code_of st msg out guest) ≡ true → ErrorSpares st msg guest (code_of st msg out guest) (message_of st msg out guest)
unfolding message_of headed_of
error-spares st msg out guest = by-refusal (is_closed st) (ltb (length out) 4112)
  where
    d : List ℕ
    d = drop 8 msg

    by-header : (h : HeaderRead) → header_of msg ≡ h → is_error (code_headed st guest d h) ≡ true → ErrorSpares st msg guest (code_headed st guest d h) (headed_of st d out guest h)
    by-header None w e = absurd (false≢true e)
    by-header (Some h) w e = spared-by st guest d msg h.id h.size h.seq out (facts_in st (length guest) (vcpu_of d)) w e

    by-refusal : (closed short : Bool) → is_error (cond closed OK (cond short OK (code_headed st guest d (header_of msg)))) ≡ true
        → ErrorSpares st msg guest (cond closed OK (cond short OK (code_headed st guest d (header_of msg))))
        (cond closed (told_same 2 st out guest) (cond short (told_same 3 st out guest) (headed_of st d out guest (header_of msg))))
    by-refusal true short e = absurd (false≢true e)
    by-refusal false true e = absurd (false≢true e)
    by-refusal false false e = by-header (header_of msg) refl e
