-- On a well-formed session each call gives the model's answer, output and guest memory, moves as the model moves, and stays well formed. Assumes nothing.
use mathlib.Core.Path.{◌≡◌, refl, sym, ap, ◌∙◌, subst}
use mathlib.Core.Logic.{◌⊎◌, inr}
use Prim.Native.Nat.{ℕ, zero, suc, ◌+◌, ◌-◌, ◌*◌, ◌/◌, ◌%◌, ◌^◌, ◌≤◌, ◌<◌, zero-le}
use native.Mathlib.Omega.{arith}
use mathlib.Core.List.{List, [], ◌∷◌, ◌++◌}
use mathlib.Core.Bool.{Bool, true, false, cond, not, ◌&&◌, So}
use lib.IntN.{ℤ}
use lib.ListN.{length, get_or, set, take, drop, replicate, length-replicate, get_or-replicate, get_or-eq_default}
use lib.Seq.{take-nil}
use lib.Pow.{pow_pos}
use lib.Dec.{ltb, leb, eqb}
use borrow.Author.Tests.{ltb-false, leb-true, leb-false, lt-ltb, eqb-true, eqb-false, not-false}
use Rattle.std.specs.Prelude.{Some, None}
use Rattle.wire.specs.Bytes.{store}
use Rattle.wire.specs.Header.{HeaderRead, header_of}
use Rattle.wire.proofs.Laws.{store-start}
use Rattle.kvmi.specs.declared.Settings.{Settings}
use Rattle.kvmi.specs.declared.Signal.{Signal}
use Rattle.kvmi.specs.declared.Signal.TheVariants.{Quiet}
use Rattle.kvmi.specs.declared.ReplyMode.{ReplyMode}
use Rattle.kvmi.specs.declared.Change.{Change}
use Rattle.kvmi.specs.declared.Change.TheVariants.{SetVmEvent, QueuePause, SetVcpuEvent, SetCr, SetMsr, SetPages, SetSinglestep}
use Rattle.kvmi.specs.declared.Verdict.{Verdict}
use Rattle.kvmi.specs.declared.Verdict.TheVariants.{Closes, Fails, Does}
use Rattle.kvmi.specs.Answer.{Paper, handled, with_padding}
use Rattle.kvmi.specs.Bits.{every, among, put_bit}
use Rattle.kvmi.specs.Codes.{is_error}
use Rattle.kvmi.specs.Settings.{in_range}
use Rattle.kvmi.specs.declared.Fault.{Fault}
use Rattle.kvmi.specs.Feed.{no_fault, kept_of}
use Rattle.kvmi.specs.Tables.{Vcpu, vcpu_at, resting, empty_tables, with_ready, with_pauses, with_vcpus, with_msrs, with_pages}
use Rattle.kvmi.specs.Model.{Model, fresh, closed_model, with_tables, with_seq, with_awaited, next_seq, on_vcpu, awaited_by, is_some}
use Rattle.kvmi.specs.Message.{layout_of, reply_kind, names_vcpu, vcpu_of, enables, event_of, register_of, gpa_of, size_of, count_of, count_fits, view_of, Entry, entries_of, is_vm_event, is_vcpu_event, takes_event}
use Rattle.kvmi.specs.Verdict.{facts_of, is_access, takes_access, in_one_page, is_invalid, is_busy, mode_of, change_of, verdict}
use Rattle.kvmi.specs.Change.{Applied, applied, apply, signal_of, mode_for}
use Rattle.kvmi.specs.Event.{offer_fits, is_asked_for}
use Rattle.kvmi.specs.Reply.{reply_bytes, reply_data, command_error_event, answer_of, answer_seq}
use Rattle.kvmi.specs.Valid.{Valid}
use Rattle.kvmi.specs.Call as model
use Rattle.store.specs.Words.{field, set_field, put_bit64, cleared, SINGLESTEP, PAUSES, AWAITED, AWAITED_SEQ, vcpu_word_count}
use Rattle.store.specs.Meaning.{msrs_of, vcpus_of, vcpu_of_words}
use Rattle.page_words.specs.Meaning.{pages_of, PagesGood}
use Rattle.session.specs.declared.Session.{Session}
use Rattle.kvmi.specs.Mode.{mode_of_number}
use Rattle.page_words.specs.PageWords.{page_word_count}
use Rattle.session.specs.State.{State, state, fresh_session, closed_session, cleared_state, with_ready_bits, with_seq_of, with_vcpu_words, with_field, is_closed}
use Rattle.session.specs.Calls.{Told, told_same, told_written, told_closing, fresh_of, ready_of}
use Rattle.change.specs.Change.{StateChanged, changed, change}
use Rattle.change.proofs.Laws.{change-keeps}
use Rattle.message.specs.Message.{facts_in, answering_of, judged_of, reporting_of, headed_of, message_of}
use Rattle.entry.specs.Entry.{Sent, awaiting_words, sending_of, pausing_of, dequeuing_of, sent_of, told_sent, entered_of, enter_of}
use Rattle.session.specs.Meaning.{awaited_of, tables_of, model_of, WordsGood, WellFormed}
use Rattle.laws.proofs.Bool.{and_l, and_r, every-imp}
use Rattle.laws.proofs.Bits.{put-below}
use Rattle.laws.proofs.Verdicts.{pick, and-false, or-false-l, Passed, ending, verdict-cases, sound-of}
use Rattle.laws.proofs.Events.{asked-some}
use Rattle.laws.proofs.Steps.{takes-access, step_kept}
use Rattle.reply.proofs.Lengths.{length-answer}
use Rattle.refine.proofs.Frames.{error-length, data-fits, sent-length}
use Rattle.refine.proofs.Pages.{none-good}
use Rattle.refine.proofs.Msrs.{field-set-other, zeros-field, zeros-msrs}
use Rattle.refine.proofs.Vcpus.{zeros-vcpus, vcpus-ready, vcpus-pauses}
use Rattle.refine.proofs.Waits.{wait_words, awaiting-as, sent-words}
use Rattle.refine.proofs.Awaited.{awaited-there, zeros-awaited}
use Rattle.refine.proofs.Words.{few-vcpus, tool-kept, shared_kept, vcpu-means, awaited-means, asked-means, facts-mean, block_inside, field-kept, wait-kept}
use Rattle.refine.proofs.Changes.{field-model, await-model, Meant, pause-meant, event-meant, cr-meant, single-meant, msr-meant, vm-event-meant, replies-meant, pages-meant, end-meant}

-- ---- a message that passes: its change
module _ (st : State) (g : WordsGood st) (ok : So (in_range st.session.settings)) (guest d : List ℕ) where
  abbrev s : Settings
  s = st.session.settings

  few : s.vcpus ≤ 16
  few = few-vcpus s ok

  views : s.views ≤ 8
  unfolding in_range
  views = let h = ok in leb-true s.views 8 (search (and_l, and_r))

  abbrev M : Change → Type 0
  M c = Meant (change st guest d c) (apply s (model_of st) guest d c)

  -- changes of guest memory and of nothing
  still : (to : List ℕ) → Meant (changed st to) (applied (model_of st) to)
  still to = record { model = refl; guest = refl; code = refl; words = g }

  abbrev P : ℕ → Type 0
  P id = Passed s (facts_of (model_of st) (length guest) (vcpu_of d)) id d

  inside : (id : ℕ) → names_vcpu id ≡ true → P id → vcpu_of d < s.vcpus
  inside id n p = leb-false s.vcpus (vcpu_of d) (and-false (names_vcpu id) _ (sound-of s id d p.valid).vcpu n)

  taken : (id : ℕ) → among id (3 ∷ 5 ∷ 10 ∷ []) ≡ true → P id → So (takes_event id (event_of id d))
  taken id n p = not-false _ (and-false (among id (3 ∷ 5 ∷ 10 ∷ [])) _ (sound-of s id d p.valid).event n)

  meant-5 : P 5 → M (SetVmEvent (enables 5 d) (event_of 5 d))
  unfolding takes_event
  meant-5 p = vm-event-meant st g few guest d (event_of 5 d) (enables 5 d) (taken 5 refl p)

  meant-9 : P 9 → M (QueuePause (enables 9 d) (vcpu_of d))
  unfolding names_vcpu is_busy vcpu_of_words
  meant-9 p =
      let own = ap (λ (x : Vcpu). x.pauses) (vcpu-means st g (vcpu_of d)) in
      let room = leb-false 8 (vcpu_at (tables_of st) (vcpu_of d)).pauses p.free in
      pause-meant st g few guest d (vcpu_of d) (enables 9 d) (inside 9 refl p) (omega arith)

  meant-10 : P 10 → M (SetVcpuEvent (enables 10 d) (vcpu_of d) (event_of 10 d))
  unfolding names_vcpu takes_event
  meant-10 p = event-meant st g few guest d (vcpu_of d) (event_of 10 d) (enables 10 d) (inside 10 refl p) (taken 10 refl p)

  meant-11 : P 11 → M (SetCr (enables 11 d) (vcpu_of d) (register_of d))
  unfolding names_vcpu
  meant-11 p = cr-meant st g few guest d (vcpu_of d) (register_of d) (enables 11 d) (inside 11 refl p)

  meant-12 : P 12 → M (SetMsr (enables 12 d) (vcpu_of d) (register_of d))
  unfolding names_vcpu
  meant-12 p = msr-meant st g few guest d (vcpu_of d) (register_of d) (enables 12 d) (inside 12 refl p)

  meant-13 : P 13 → M (SetPages (view_of d) (count_of d))
  meant-13 p =
      let c = sound-of s 13 d p.valid in
      let below = leb-false s.views (view_of d) c.view in
      let most = views in
      pages-meant st g few guest d (view_of d) (count_of d) (omega arith)
      (every-imp (λ (e : Entry). takes_access s e.access) (λ (e : Entry). is_access e.access) (λ e h. takes-access s e.access h) (entries_of (count_of d) (drop 8 d)) (and_r (count_fits d) _ (not-false _ c.entries)))

  meant-14 : P 14 → M (SetSinglestep (enables 14 d) (vcpu_of d))
  unfolding names_vcpu
  meant-14 p = single-meant st g few guest d (vcpu_of d) (enables 14 d) (inside 14 refl p)

  change-meant : (id : ℕ) → P id → M (change_of id d)
  unfolding change_of change apply
  change-meant id p =
      pick M (eqb id 5) _ _ (λ e. rw (eqb-true id 5 e) (meant-5 (rw (eqb-true id 5 e) at p)))
      (λ _. pick M (eqb id 7) _ _ (λ _. still (store guest (gpa_of d) (drop 16 d)))
      (λ _. pick M (eqb id 9) _ _ (λ e. meant-9 (rw (eqb-true id 9 e) at p))
      (λ _. pick M (eqb id 10) _ _ (λ e. rw (eqb-true id 10 e) (meant-10 (rw (eqb-true id 10 e) at p)))
      (λ _. pick M (eqb id 11) _ _ (λ e. rw (eqb-true id 11 e) (meant-11 (rw (eqb-true id 11 e) at p)))
      (λ _. pick M (eqb id 12) _ _ (λ e. rw (eqb-true id 12 e) (meant-12 (rw (eqb-true id 12 e) at p)))
      (λ _. pick M (eqb id 13) _ _ (λ e. meant-13 (rw (eqb-true id 13 e) at p))
      (λ _. pick M (eqb id 14) _ _ (λ e. rw (eqb-true id 14 e) (meant-14 (rw (eqb-true id 14 e) at p)))
      (λ _. pick M (eqb id 15) _ _ (λ _. replies-meant st g few guest d (mode_of (enables id d) (eqb (get_or d 2 0) 1)) (eqb (get_or d 1 0) 1)) (λ _. still guest)))))))))

-- by cases on one test of both
pub both : {A B : Type 0} (R : A → B → Type 0) (b : Bool) (x y : A) (u v : B) → (b ≡ true → R x u) → (b ≡ false → R y v) → R (cond b x y) (cond b u v)
both R true x y u v f g = f refl
both R false x y u v f g = g refl

-- ---- what a call gives, on the words and on the model
pub record Simulates (st : State) (r : Told) (q : model.Step) : Type 0 where
  pub answer : r.answer ≡ q.answer
  pub out : r.out ≡ q.out
  pub guest : r.guest ≡ q.guest
  pub model : model_of r.state ≡ q.model
  pub settings : r.state.session.settings ≡ st.session.settings
  pub words : WordsGood r.state

pub same-simulates : (k : ℕ) (st : State) (out guest : List ℕ) → WordsGood st → Simulates st (told_same k st out guest) (model.unchanged k (model_of st) out guest)
same-simulates k st out guest g = record { answer = refl; out = refl; guest = refl; model = refl; settings = refl; words = g }

-- all words 0
pub zero-words : (s : Settings) (x : Session) (vcpus pages : List ℕ) → length vcpus ≡ vcpu_word_count → length pages ≡ page_word_count → x.tool.opened ≤ 1 → x.tool.mode ≤ 2 → x.shared.ready ≡ 0 → x.tool.pages ≡ 0
    → WordsGood (cleared_state x vcpus pages)
unfolding cleared field
zero-words s x vcpus pages v p c m r k =
    record {
      vcpu_words = length-replicate (length vcpus) 0 ∙ v;
      page_words = length-replicate (length pages) 0 ∙ p;
      opened = c;
      mode = m;
      ready = rw r (pow_pos x.settings.vcpus);
      pages = rw k (none-good (length pages));
      flag = λ i. rw (zeros-field (length vcpus) i SINGLESTEP) zero-le;
      waits = λ i j _ _ _. zeros-field (length vcpus) i j;
      spare = λ i j _ _. zeros-field (length vcpus) i j;
      past = λ j _. zero-at (length vcpus) j;
    }
  where
    zero-at : (n j : ℕ) → get_or (replicate {A = ℕ} n 0) j 0 ≡ 0
    zero-at zero j = refl
    zero-at (suc n) zero = refl
    zero-at (suc n) (suc j) = zero-at n j

pub no-pages : (ws : List ℕ) → pages_of ws 0 ≡ []
unfolding pages_of
no-pages [] = refl
no-pages (w ∷ ws) = refl

closing-simulates : (st : State) (out guest : List ℕ) → WordsGood st → Simulates st (told_closing st out guest) (model.closing st.session.settings out guest)
unfolding cleared mode_of_number
closing-simulates st out guest g =
    let n = st.session.settings.vcpus in
    let k = length st.vcpus in
    record {
      answer = refl;
      out = refl;
      guest = refl;
      model = λ j. with_awaited
          (with_tables (closed_model st.session.settings)
          (with_pages (with_msrs (with_vcpus (empty_tables n) (zeros-vcpus k n j)) (zeros-msrs k n j)) (no-pages (replicate (length st.pages) 0) j)))
          (zeros-awaited k n j);
      settings = refl;
      words = zero-words st.session.settings (closed_session st.session.settings) st.vcpus st.pages g.vcpu_words g.page_words (omega arith) (omega arith) refl refl;
    }

-- bytes that fit are written at the front
written-simulates : (st st' : State) (bytes : List ℕ) (sig : Signal) (out guest : List ℕ) → length bytes ≤ length out → st'.session.settings ≡ st.session.settings → WordsGood st'
    → Simulates st (told_written bytes sig st' out guest) (model.writing bytes sig out guest (model_of st'))
written-simulates st st' bytes sig out guest h e g = record { answer = refl; out = store-start out bytes h; guest = refl; model = refl; settings = e; words = g }

-- the next event's seq is no part of the words
seq-kept : (st : State) (x : ℕ) → WordsGood st → WordsGood (with_seq_of st x)
seq-kept st x g = tool-kept st g _ refl g.opened g.mode

answering-simulates : (st st' : State) (mode : ReplyMode) (id seq : ℕ) (code : ℤ) (d : List ℕ) (sig : Signal) (out guest : List ℕ)
    → length (answer_of (reply_kind (layout_of id)) mode st'.session.tool.seq id seq code (reply_data st'.session.settings guest id d)) ≤ length out
    → st'.session.settings ≡ st.session.settings → WordsGood st'
    → Simulates st (answering_of mode id seq code d sig out guest st') (model.answering st.session.settings mode id seq code d sig out guest (model_of st'))
unfolding answering_of model.answering
answering-simulates st st' mode id seq code d sig out guest h e g =
    let bytes : Settings → List ℕ = λ x. answer_of (reply_kind (layout_of id)) mode st'.session.tool.seq id seq code (reply_data x guest id d) in
    record {
      answer = λ j. handled (length (bytes (e j))) sig;
      out = store-start out (bytes st'.session.settings) h ∙ (λ j. bytes (e j) ++ drop (length (bytes (e j))) out);
      guest = refl;
      model = refl;
      settings = e;
      words = seq-kept st' _ g;
    }

-- what is reported of padding is the answer's alone
reporting-simulates : (st : State) (padding : ℕ) (r : Told) (q : model.Step) → Simulates st r q → Simulates st (reporting_of padding r) (model.reporting padding q)
reporting-simulates st padding r q h =
    record { answer = ap (with_padding padding) h.answer; out = h.out; guest = h.guest; model = h.model; settings = h.settings; words = h.words }

-- ---- a message
module _ (st : State) (f : WellFormed st) (out guest : List ℕ) where
  abbrev S : Told → model.Step → Type 0
  S = Simulates st

  abbrev cfg : Settings
  cfg = st.session.settings

  does-simulates : (id seq : ℕ) (d : List ℕ) → 4112 ≤ length out → (c : Change) → (in_one_page (gpa_of d) (size_of d) ≡ true) ⊎ (id ≡ 6 → ⊥)
      → Meant (change st guest d c) (apply cfg (model_of st) guest d c) → S (judged_of st id seq d out guest (Does c)) (model.judged cfg (model_of st) id seq d out guest (Does c))
  unfolding judged_of model.judged
  does-simulates id seq d long c fits m =
      let r = change st guest d c in
      let mode = mode_for (mode_of_number st.session.tool.mode) c in
      let l = length-answer (reply_kind (layout_of id)) mode r.state.session.tool.seq id seq r.code r.state.session.settings r.guest d fits in
      let here = answering-simulates st r.state mode id seq r.code d (signal_of c) out r.guest (omega arith) (change-keeps st guest d c) m.words in
      subst (λ (x : Model). S (answering_of mode id seq r.code d (signal_of c) out r.guest r.state) (model.answering cfg mode id seq (apply cfg (model_of st) guest d c).code d (signal_of c) out (apply cfg (model_of st) guest d c).guest x)) m.model
      (subst (λ (x : List ℕ). S (answering_of mode id seq r.code d (signal_of c) out r.guest r.state) (model.answering cfg mode id seq (apply cfg (model_of st) guest d c).code d (signal_of c) out x (model_of r.state))) m.guest
      (subst (λ (x : ℤ). S (answering_of mode id seq r.code d (signal_of c) out r.guest r.state) (model.answering cfg mode id seq x d (signal_of c) out r.guest (model_of r.state))) m.code here))

  fails-simulates : (id seq : ℕ) (d : List ℕ) → 4112 ≤ length out → (code : ℤ) → is_error code ≡ true
      → S (judged_of st id seq d out guest (Fails code)) (model.judged cfg (model_of st) id seq d out guest (Fails code))
  unfolding judged_of model.judged
  fails-simulates id seq d long code e =
      let mode = mode_of_number st.session.tool.mode in
      let l = error-length (reply_kind (layout_of id)) mode st.session.tool.seq id seq code (reply_data cfg guest id d) e in
      answering-simulates st st mode id seq code d Quiet out guest (omega arith) refl f.words

  closes-simulates : (id seq : ℕ) (d : List ℕ) → S (judged_of st id seq d out guest Closes) (model.judged cfg (model_of st) id seq d out guest Closes)
  unfolding judged_of model.judged
  closes-simulates id seq d = closing-simulates st out guest f.words

  judged-simulates : (id seq : ℕ) (d : List ℕ) → 4112 ≤ length out
      → let v = verdict cfg (facts_of (model_of st) (length guest) (vcpu_of d)) id seq d in S (judged_of st id seq d out guest v) (model.judged cfg (model_of st) id seq d out guest v)
  judged-simulates id seq d long =
      verdict-cases (λ v. S (judged_of st id seq d out guest v) (model.judged cfg (model_of st) id seq d out guest v)) cfg (facts_of (model_of st) (length guest) (vcpu_of d)) id seq d
      (closes-simulates id seq d) (λ code e. fails-simulates id seq d long code e)
      (λ p. does-simulates id seq d long (change_of id d) (data-fits cfg (facts_of (model_of st) (length guest) (vcpu_of d)) id d p) (change-meant st f.words f.settings guest d id p))
      (λ a p. let e = p.reply in
      does-simulates id seq d long (ending a (length guest) d) (inr (λ q. omega arith))
      (end-meant st f.words (few-vcpus cfg f.settings) guest d _ (vcpu_of d) _ _ _))

  headed-simulates : (d : List ℕ) → 4112 ≤ length out → (h : HeaderRead) → S (headed_of st d out guest h) (model.headed cfg (model_of st) d out guest h)
  unfolding headed_of model.headed
  headed-simulates d long None = closing-simulates st out guest f.words
  headed-simulates d long (Some h) =
      let v = verdict cfg (facts_in st (length guest) (vcpu_of d)) h.id h.seq d in
      let w = verdict cfg (facts_of (model_of st) (length guest) (vcpu_of d)) h.id h.seq d in
      let here : S (judged_of st h.id h.seq d out guest v) (model.judged cfg (model_of st) h.id h.seq d out guest w) = rw (facts-mean st f.words (length guest) (vcpu_of d)) (judged-simulates h.id h.seq d long) in
      reporting-simulates st _ _ _ here

  pub message-simulates : (msg : List ℕ) → S (message_of st msg out guest) (model.message_step cfg (model_of st) msg out guest)
  unfolding message_of model.message_step
  message-simulates msg =
      both S (is_closed st) _ _ _ _ (λ _. same-simulates 2 st out guest f.words)
      (λ _. both S (ltb (length out) 4112) _ _ _ _ (λ _. same-simulates 3 st out guest f.words)
      (λ h. headed-simulates (drop 8 msg) (ltb-false (length out) 4112 h) (header_of msg)))

-- ---- a ready mark
module _ (st : State) (f : WellFormed st) where
  ready-set : (v : ℕ) → v < st.session.settings.vcpus
      → let r = state (with_ready_bits st.session (put_bit st.session.shared.ready v true)) st.vcpus st.pages in
      (model_of r ≡ on_vcpu (model_of st) v (λ x. with_ready x true)) × WordsGood r
  ready-set v h =
      let g = f.words in
      let n = st.session.settings.vcpus in
      let vcpus = vcpus-ready st.session.shared.ready st.vcpus v true n ∙ ap (λ (y : Vcpu). set (vcpus_of st.session.shared.ready st.vcpus 0 n) v (with_ready y true)) (sym (vcpu-means st g v)) in (
        ap (λ (x : List Vcpu). with_tables (model_of st) (with_vcpus (tables_of st) x)) vcpus,
        shared_kept st g _ (put-below n st.session.shared.ready v true g.ready h),
      )

  pub ready-simulates : (v : ℕ) → Simulates st (ready_of st v) (model.ready_step st.session.settings (model_of st) v)
  unfolding ready_of model.ready_step put_bit64
  ready-simulates v =
      both (Simulates st) (is_closed st) _ _ _ _ (λ _. same-simulates 2 st [] [] f.words)
      (λ _. both (Simulates st) (leb st.session.settings.vcpus v) _ _ _ _ (λ _. same-simulates 4 st [] [] f.words)
      (λ h. let inside = leb-false st.session.settings.vcpus v h in
      let few = few-vcpus st.session.settings f.settings in
      let r = ready-set v inside in
      rw (lt-ltb v 64 (omega arith))
      (record { answer = refl; out = store-start [] [] zero-le; guest = refl; model = r.0; settings = refl; words = r.1 })))

-- ---- entry of a vCPU
-- the reply to an event that was sent is awaited
awaiting-simulates : (st : State) → WordsGood st → st.session.settings.vcpus ≤ 16 → (v event : ℕ) (fault : Fault) → v < st.session.settings.vcpus → (event ≡ 0 → ⊥)
    → let x = with_vcpu_words st (wait_words st.vcpus v event st.session.tool.seq fault) in
    (model_of (with_seq_of x (next_seq st.session.tool.seq)) ≡ model.awaiting_reply (model_of st) v event fault) × WordsGood x
awaiting-simulates st g few v event fault inside some-event =
    let seq = st.session.tool.seq in (
      ap (λ (m : Model). with_seq m (next_seq seq)) (await-model st g few [] [] v event seq fault inside some-event),
      wait-kept st g few v inside event seq fault (λ e. absurd (some-event e)),
    )

module _ (st : State) (f : WellFormed st) (v : ℕ) (inside : v < st.session.settings.vcpus) (idle : field st.vcpus v AWAITED ≡ 0) (block out : List ℕ) where
  abbrev less : ℕ
  less = field st.vcpus v PAUSES - 1

  few-here : st.session.settings.vcpus ≤ 16
  few-here = few-vcpus st.session.settings f.settings

  -- one pause less
  abbrev dequeued : State
  dequeued = with_field st v PAUSES less

  dequeued-words : WordsGood dequeued
  dequeued-words = field-kept st f.words few-here v inside PAUSES less (omega arith) (λ e. absurd (omega arith))

  dequeued-model : model_of dequeued ≡ on_vcpu (model_of st) v (λ x. with_pauses x (x.pauses - 1))
  unfolding vcpu_of_words
  dequeued-model =
      field-model st f.words few-here [] [] v PAUSES less (λ x. with_pauses x (x.pauses - 1)) (omega arith) inside
      (vcpus-pauses st.session.shared.ready st.vcpus v less st.session.settings.vcpus (block_inside st f.words few-here v inside) inside)

  -- what is sent, on the words and on the model
  told-simulates : (x : Sent) (m : Model) → length x.bytes ≤ length out → (model_of (with_seq_of (with_vcpu_words st x.vcpus) x.next) ≡ m) × WordsGood (with_vcpu_words st x.vcpus)
      → Simulates st (told_sent st x out) (model.writing x.bytes Quiet out [] m)
  told-simulates x m l p =
      record { answer = refl; out = store-start out x.bytes l; guest = refl; model = p.0; settings = refl; words = seq-kept (with_vcpu_words st x.vcpus) x.next p.1 }

  sending-simulates : (event : ℕ) (own : List ℕ) → (event ≡ 0 → ⊥) → length (sending_of st.vcpus v st.session.tool.seq block event own).bytes ≤ length out
      → Simulates st (told_sent st (sending_of st.vcpus v st.session.tool.seq block event own) out) (model.sending (model_of st) v block event own out)
  unfolding sending_of model.sending
  sending-simulates event own some-event l =
      told-simulates _ _ l
      (rw (sent-words st.vcpus v event st.session.tool.seq own (λ k a b. f.words.waits v k (omega arith) b idle))
      (awaiting-simulates st f.words few-here v event (kept_of event own) inside some-event))

  pausing-simulates : length (pausing_of st.vcpus v st.session.tool.seq block).bytes ≤ length out
      → Simulates st (told_sent st (pausing_of st.vcpus v st.session.tool.seq block) out) (model.pausing (model_of st) v block out)
  unfolding pausing_of model.pausing
  pausing-simulates l =
      let waits = awaiting-simulates dequeued dequeued-words few-here v 2 no_fault inside (λ e. omega arith) in
      let empty : (k : ℕ) → 6 ≤ k → k < 9 → field dequeued.vcpus v k ≡ 0
      = λ k a b. field-set-other st.vcpus v PAUSES less v k (omega arith) (omega arith) (λ p q. omega arith) ∙ f.words.waits v k (omega arith) b idle in
      told-simulates _ _ l
      (rw (awaiting-as dequeued.vcpus v 2 st.session.tool.seq empty)
      (waits.0 ∙ ap (λ (m : Model). model.awaiting_reply m v 2 no_fault) dequeued-model, waits.1))

  -- the queued pauses are the model's
  own-pauses : (vcpu_at (tables_of st) v).pauses ≡ field st.vcpus v PAUSES
  unfolding vcpu_of_words
  own-pauses = ap (λ (x : Vcpu). x.pauses) (vcpu-means st f.words v)

  entering-simulates : (event : ℕ) (own : List ℕ) → length (sent_of st v block event own).bytes ≤ length out
      → Simulates st (told_sent st (sent_of st v block event own) out) (model.entering (model_of st) v block event own out)
  unfolding sent_of dequeuing_of model.entering model.dequeuing
  entering-simulates event own =
      rw (asked-means st f.words f.tables.pa_up v event own, own-pauses)
      (both (λ (x : Sent) (q : model.Step). length x.bytes ≤ length out → Simulates st (told_sent st x out) q) (is_asked_for (tables_of st) v event own) _ _ _ _
      (λ asked. sending-simulates event own (eqb-false event 0 (asked-some (tables_of st) v event own asked)))
      (λ _. both (λ (x : Sent) (q : model.Step). length x.bytes ≤ length out → Simulates st (told_sent st x out) q) (leb 1 (field st.vcpus v PAUSES)) _ _ _ _
      (λ _. pausing-simulates) (λ _ l. told-simulates _ _ l (refl, f.words))))

-- an event is awaited where its word is not 0
awaits-same : (st : State) → WordsGood st → (v : ℕ) → is_some (awaited_by (model_of st) v) ≡ not (eqb (field st.vcpus v AWAITED) 0)
awaits-same st g v = ap is_some (awaited-means st g v) ∙ awaited-there st.vcpus v

pub enter-simulates : (st : State) → WellFormed st → (v : ℕ) (block : List ℕ) (event : ℕ) (own out : List ℕ)
    → Simulates st (enter_of st v block event own out) (model.enter_step st.session.settings (model_of st) v block event own out)
unfolding enter_of entered_of model.enter_step
enter-simulates st f v block event own out =
    both (Simulates st) (is_closed st) _ _ _ _ (λ _. same-simulates 2 st out [] f.words)
    (λ _. both (Simulates st) (leb st.session.settings.vcpus v) _ _ _ _ (λ _. same-simulates 4 st out [] f.words)
    (λ h. both (Simulates st) (not (eqb (length block) 536 && offer_fits event own)) _ _ _ _ (λ _. same-simulates 5 st out [] f.words)
    (λ w. both (Simulates st) (ltb (length out) 576) _ _ _ _ (λ _. same-simulates 3 st out [] f.words)
    (λ l. rw (awaits-same st f.words v)
    (both (Simulates st) (not (eqb (field st.vcpus v AWAITED) 0)) _ _ _ _ (λ _. same-simulates 6 st out [] f.words)
    (λ a. let few = sent-length st v block event own (not-false _ w) in
    let room = ltb-false (length out) 576 l in
    let idle = eqb-true (field st.vcpus v AWAITED) 0 (not-false _ a) in
    entering-simulates st f v (leb-false st.session.settings.vcpus v h) idle block out event own (omega arith)))))))
