-- The guest can't steer the filter. Assumes nothing.
use mathlib.Core.Path.{◌≡◌, refl, sym, ap, ◌∙◌, subst}
use Prim.Native.Nat.{ℕ, zero, suc, ◌+◌, ◌≤◌}
use native.Mathlib.Omega.{arith}
use mathlib.Core.List.{List, [], ◌∷◌, ◌++◌, append_assoc}
use mathlib.Core.Bool.{Bool, true, false, cond, not, ◌&&◌}
use lib.IntN.{ℤ}
use lib.ListN.{length, take, drop, replicate, length-append, length-take, length-drop}
use lib.Seq.{take_at, take-append_seam}
use lib.Dec.{leb, ltb, eqb}
use borrow.Author.Tests.{ltb-false, eqb-true, eqb-false, ne_eqb}
use Rattle.std.specs.Prelude.{Some, None}
use Rattle.wire.specs.Bytes.{le, store}
use Rattle.wire.specs.Code.{code_bytes}
use Rattle.wire.specs.Header.{whole, HeaderRead, header_of}
use Rattle.wire.proofs.Laws.{length-le, length-store, store-start}
use Rattle.kvmi.specs.declared.Settings.{Settings}
use Rattle.kvmi.specs.declared.Signal.{Signal}
use Rattle.kvmi.specs.declared.Signal.TheVariants.{Quiet}
use Rattle.kvmi.specs.declared.ReplyMode.{ReplyMode}
use Rattle.kvmi.specs.declared.ReplyMode.TheVariants.{On, Off, ErrorsOnly}
use Rattle.kvmi.specs.declared.ReplyKind.{ReplyKind}
use Rattle.kvmi.specs.declared.ReplyKind.TheVariants.{CodeOnly, WithData, Silent}
use Rattle.kvmi.specs.declared.Change.{Change}
use Rattle.kvmi.specs.declared.Change.TheVariants.{Nothing, SetVmEvent, WritePhysical, QueuePause, SetVcpuEvent, SetCr, SetMsr, SetPages, SetSinglestep, SetReplies, EndWait}
use Rattle.kvmi.specs.declared.Verdict.{Verdict}
use Rattle.kvmi.specs.declared.Verdict.TheVariants.{Closes, Fails, Does}
use Rattle.kvmi.specs.Answer.{Paper, handled, plain, with_padding}
use Rattle.kvmi.specs.Limits.{least_out, event_out, state_bytes}
use Rattle.kvmi.specs.Codes.{is_error}
use Rattle.kvmi.specs.Mode.{mode_of_number}
use Rattle.kvmi.specs.Message.{layout_of, reply_kind, vcpu_of}
use Rattle.kvmi.specs.Verdict.{verdict}
use Rattle.kvmi.specs.Change.{signal_of, mode_for}
use Rattle.kvmi.specs.Event.{event_row_of, is_offered, offer_fits, cr_named, msr_named}
use Rattle.kvmi.specs.declared.Fault.{Fault}
use Rattle.kvmi.specs.Feed.{PF, kept_of, view_named}
use Rattle.kvmi.specs.Reply.{message_bytes, reply_bytes, reply_data, event_bytes, pause_event, answer_bytes, answer_of}
use Rattle.kvmi.specs.Image.{image}
use Rattle.kvmi.specs.Call.{Call, message, ready, enter, write_image, awaits_any}
use Rattle.store.specs.Words.{field, PAUSES, AWAITED}
use Rattle.session.specs.declared.Tool.{Tool}
use Rattle.session.specs.State.{State, with_seq_of, with_vcpu_words, is_closed}
use Rattle.session.specs.Calls.{Told, told_same, told_written}
use Rattle.session.specs.Meaning.{awaited_of}
use Rattle.change.specs.Change.{change}
use Rattle.message.specs.Message.{facts_in, answering_of, reporting_of, judged_of, headed_of, message_of}
use Rattle.entry.specs.Entry.{is_guarded, asked_for_by, is_asked_for_of, awaiting_words, fault_words, Sent, sending_of, pausing_of, dequeuing_of, sent_of, told_sent, entered_of, enter_of}
use Rattle.image_writer.specs.Write.{stated_vcpus, stated_tables, image_of}
use Rattle.history.specs.History.{step_of, after_of}
use Rattle.history.specs.Unsteered.{written, own_bytes, Alike, messages, readies, enters, writes, SameFor, ButGuest, ended, more, answers_of, bytes_of, Unsteered}
use Rattle.laws.proofs.Bool.{test}
use Rattle.reply.proofs.Lengths.{length-code, length-reply, length-event}
use Rattle.refine.proofs.Frames.{message-past, enter-past}
use Rattle.refine.proofs.Simulate.{both}

-- ---- what is written
written_is : (b : List ℕ) (g : Signal) (st : State) (out guest : List ℕ) → length b ≤ length out → written (told_written b g st out guest) ≡ b
written_is b g st out guest h = ap (take (length b)) (store-start out b h) ∙ take-append_seam b (drop (length b) out)

-- nothing written
idle-bytes : (c : Call) (r q : Told) → r.answer.count ≡ 0 → q.answer.count ≡ 0 → own_bytes c r ≡ own_bytes c q
unfolding own_bytes
idle-bytes (message msg out guest) r q h g = rw (h, g)
idle-bytes (ready vcpu) r q h g = rw (h, g)
idle-bytes (enter vcpu block event own out) r q h g = rw (h, g)
idle-bytes (write_image out) r q h g = rw (h, g)

idle : (c : Call) (a : Paper) → a.count ≡ 0 → (st : State) (out out' guest guest' : List ℕ)
    → SameFor c (record { answer = a; state = st; out = out; guest = guest }) (record { answer = a; state = st; out = out'; guest = guest' })
idle c a z st out out' guest guest' = record { answer = refl; state = refl; bytes = idle-bytes c _ _ z z }

-- by cases on a test of each run, the same one
on_both : (R : Told → Told → Type 0) (b c : Bool) → b ≡ c → (x y u v : Told) → (b ≡ true → R x u) → (b ≡ false → R y v) → R (cond b x y) (cond c u v)
on_both R b c e x y u v f g = subst (λ (t : Bool). R (cond b x y) (cond t u v)) e (both R b x y u v f g)

-- a relation of two runs of which the first writes inside its output
abbrev Inside : List ℕ → (Told → Told → Type 0) → Told → Told → Type 0
Inside out R r q = r.answer.count ≤ length out → R r q

-- ---- two answers with data of one length
-- a reply's first 16 bytes: they know of its data the length alone
abbrev head : ℕ → ℕ → ℤ → ℕ → List ℕ
head id seq code n = le 2 id ++ le 2 n ++ le 4 seq ++ code_bytes code ++ le 4 0

head-length : (id seq : ℕ) (code : ℤ) (n : ℕ) → length (head id seq code n) ≡ 16
head-length id seq code n = simp (length-append, length-le, length-code)

-- the data that are sent, and what follows the header
abbrev sent : ℤ → List ℕ → List ℕ
sent code d = cond (is_error code) [] d

abbrev size : ℤ → List ℕ → ℕ
size code d = length (code_bytes code ++ le 4 0 ++ sent code d)

reply-front : (id seq : ℕ) (code : ℤ) (d : List ℕ) → take 16 (reply_bytes id seq code d) ≡ head id seq code (size code d)
unfolding reply_bytes message_bytes
reply-front id seq code d =
    let split : reply_bytes id seq code d ≡ head id seq code (size code d) ++ sent code d = simp append_assoc in
    ap (take 16) split ∙ take_at (head id seq code (size code d)) (sent code d) 16 (head-length id seq code _)

module _ (d e : List ℕ) (l : length d ≡ length e) (next id seq : ℕ) (code : ℤ) where
  size_same : size code d ≡ size code e
  size_same = by (is_error code)
    where
      by : (b : Bool) → length (code_bytes code ++ le 4 0 ++ cond b [] d) ≡ length (code_bytes code ++ le 4 0 ++ cond b [] e)
      by true = refl
      by false = simp (length-append, l)

  abbrev bytes : ReplyMode → List ℕ → List ℕ
  bytes mode x = answer_bytes mode next id seq code x

  bytes-length : (mode : ReplyMode) → length (bytes mode d) ≡ length (bytes mode e)
  unfolding answer_bytes
  bytes-length On = length-reply id seq code d ∙ ap (λ (n : ℕ). 16 + cond (is_error code) 0 n) l ∙ sym (length-reply id seq code e)
  bytes-length Off = refl
  bytes-length ErrorsOnly = refl

  bytes-front : (mode : ReplyMode) → take 16 (bytes mode d) ≡ take 16 (bytes mode e)
  unfolding answer_bytes
  bytes-front On = reply-front id seq code d ∙ ap (head id seq code) size_same ∙ sym (reply-front id seq code e)
  bytes-front Off = refl
  bytes-front ErrorsOnly = refl

  abbrev answer : ReplyKind → ReplyMode → List ℕ → List ℕ
  answer kind mode x = answer_of kind mode next id seq code x

  answer-length : (kind : ReplyKind) (mode : ReplyMode) → length (answer kind mode d) ≡ length (answer kind mode e)
  unfolding answer_of
  answer-length CodeOnly mode = bytes-length mode
  answer-length WithData mode = bytes-length mode
  answer-length Silent mode = refl

  answer-front : (kind : ReplyKind) (mode : ReplyMode) → take 16 (answer kind mode d) ≡ take 16 (answer kind mode e)
  unfolding answer_of
  answer-front CodeOnly mode = bytes-front mode
  answer-front WithData mode = bytes-front mode
  answer-front Silent mode = refl

-- ---- the data of a reply on two memories
module _ (s : Settings) (guest guest' : List ℕ) (id : ℕ) (d : List ℕ) where
  data-same : (id ≡ 6 → ⊥) → reply_data s guest id d ≡ reply_data s guest' id d
  unfolding reply_data
  data-same h = rw (ne_eqb id 6 h)

  data-length : length guest ≡ length guest' → length (reply_data s guest id d) ≡ length (reply_data s guest' id d)
  unfolding reply_data
  data-length l =
      test (eqb id 6)
      (λ h. rw (eqb-true id 6 h) (simp (length-take, length-drop, l)))
      (λ h. ap length (data-same (eqb-false id 6 h)))

-- ---- a change on two memories
module _ (st : State) (guest guest' d : List ℕ) where
  abbrev On-both : Change → Type 0
  On-both c =
      ((change st guest d c).state ≡ (change st guest' d c).state) × ((change st guest d c).code ≡ (change st guest' d c).code)
      × (length guest ≡ length guest' → length (change st guest d c).guest ≡ length (change st guest' d c).guest)

  change-same : (c : Change) → On-both c
  unfolding change
  change-same Nothing = (refl, refl, λ l. l)
  change-same (SetVmEvent on event) = (refl, refl, λ l. l)
  change-same (WritePhysical gpa) = (refl, refl, λ l. length-store guest gpa (drop 16 d) ∙ l ∙ sym (length-store guest' gpa (drop 16 d)))
  change-same (QueuePause wait vcpu) = (refl, refl, λ l. l)
  change-same (SetVcpuEvent on vcpu event) = (refl, refl, λ l. l)
  change-same (SetCr on vcpu cr) = (refl, refl, λ l. l)
  change-same (SetMsr on vcpu msr) = (refl, refl, λ l. l)
  change-same (SetPages view count) = (refl, refl, λ l. l)
  change-same (SetSinglestep on vcpu) = (refl, refl, λ l. l)
  change-same (SetReplies now mode) = (refl, refl, λ l. l)
  change-same (EndWait resumes vcpu action value feed) = (refl, refl, λ l. l)

-- ---- a message
module _ (msg out out' : List ℕ) (lo : length out ≡ length out') where
  abbrev For : Told → Told → Type 0
  For = SameFor (message msg out [])

  untouched : (a : Paper) → a.count ≡ 0 → (st : State) (guest guest' : List ℕ)
      → For (record { answer = a; state = st; out = out; guest = guest }) (record { answer = a; state = st; out = out'; guest = guest' })
  untouched a z st guest guest' = idle (message msg out []) a z st out out' guest guest'

  module _ (d : List ℕ) (id size seq : ℕ) (w : header_of msg ≡ whole id size seq) where
    answering-same : (mode : ReplyMode) (code : ℤ) (g : Signal) (guest guest' : List ℕ) (st : State) → length guest ≡ length guest'
        → Inside out For (answering_of mode id seq code d g out guest st) (answering_of mode id seq code d g out' guest' st)
    unfolding answering_of own_bytes
    answering-same mode code g guest guest' st l fits =
        let next = st.session.tool.seq in
        let kind = reply_kind (layout_of id) in
        let s = st.session.settings in
        let e = reply_data s guest id d in
        let f = reply_data s guest' id d in
        let long = data-length s guest guest' id d l in
        let n = answer-length e f long next id seq code kind mode in
        let b = answer_of kind mode next id seq code e in
        let c = answer_of kind mode next id seq code f in
        let one : take (length b) (store out 0 b) ≡ b = written_is b g st out guest fits in
        let two : take (length c) (store out' 0 c) ≡ c = written_is c g st out' guest' (omega arith) in
        record {
          answer = ap (λ (k : ℕ). handled k g) n;
          state = refl;
          bytes =
              rw (w, one, two)
              (both (λ (x y : List ℕ). x ≡ y) _ _ _ _ _ (λ _. answer-front e f long next id seq code kind mode)
              (λ h. ap (answer_of kind mode next id seq code) (data-same s guest guest' id d (eqb-false id 6 h))));
        }

    judged-same : (guest guest' : List ℕ) (st : State) → length guest ≡ length guest' → (v : Verdict)
        → Inside out For (judged_of st id seq d out guest v) (judged_of st id seq d out' guest' v)
    unfolding judged_of
    judged-same guest guest' st l Closes _ = untouched _ refl _ guest guest'
    judged-same guest guest' st l (Fails code) fits = answering-same (mode_of_number st.session.tool.mode) code Quiet guest guest' st l fits
    judged-same guest guest' st l (Does c) fits =
        let mode = mode_for (mode_of_number st.session.tool.mode) c in
        let r = change st guest d c in
        let q = change st guest' d c in
        let both-memories = change-same st guest guest' d c in
        let here = answering-same mode r.code (signal_of c) r.guest q.guest r.state (both-memories.2 l) fits in
        subst (λ (x : State). For (answering_of mode id seq r.code d (signal_of c) out r.guest r.state) (answering_of mode id seq q.code d (signal_of c) out' q.guest x)) both-memories.0
        (subst (λ (x : ℤ). For (answering_of mode id seq r.code d (signal_of c) out r.guest r.state) (answering_of mode id seq x d (signal_of c) out' q.guest r.state)) both-memories.1 here)

  -- what is reported of padding is the same
  reporting-same : (padding : ℕ) (r q : Told) → For r q → For (reporting_of padding r) (reporting_of padding q)
  unfolding own_bytes
  reporting-same padding r q h = record { answer = ap (with_padding padding) h.answer; state = h.state; bytes = h.bytes }

  module _ (st : State) (guest guest' : List ℕ) (l : length guest ≡ length guest') where
    headed-same : (h : HeaderRead) → header_of msg ≡ h → Inside out For (headed_of st (drop 8 msg) out guest h) (headed_of st (drop 8 msg) out' guest' h)
    unfolding headed_of
    headed-same None w = λ _. untouched _ refl _ guest guest'
    headed-same (Some h) w =
        let d = drop 8 msg in
        let judged =
        subst
        (λ (n : ℕ). Inside out For (judged_of st h.id h.seq d out guest (verdict st.session.settings (facts_in st (length guest) (vcpu_of d)) h.id h.seq d))
        (judged_of st h.id h.seq d out' guest' (verdict st.session.settings (facts_in st n (vcpu_of d)) h.id h.seq d)))
        l
        (judged-same d h.id h.size h.seq w guest guest' st l (verdict st.session.settings (facts_in st (length guest) (vcpu_of d)) h.id h.seq d)) in
        λ fits. reporting-same _ _ _ (judged fits)

    message-inside : Inside out For (message_of st msg out guest) (message_of st msg out' guest')
    unfolding message_of
    message-inside =
        both (Inside out For) (is_closed st) _ _ _ _ (λ _ _. untouched (plain 2) refl st guest guest')
        (λ _. on_both (Inside out For) (ltb (length out) least_out) (ltb (length out') least_out) (ap (λ (n : ℕ). ltb n least_out) lo) _ _ _ _
        (λ _ _. untouched (plain 3) refl st guest guest')
        (λ _. headed-same (header_of msg) refl))

    message-same : For (message_of st msg out guest) (message_of st msg out' guest')
    message-same = message-inside (message-past st msg out guest).inside

-- ---- an entry
-- an event's first 16 bytes: they know of the registers and of its own bytes the length alone
abbrev event-head : ℕ → ℕ → ℕ → ℕ → List ℕ
event-head seq vcpu event n = le 2 17 ++ le 2 n ++ le 4 seq ++ le 2 544 ++ le 2 vcpu ++ le 1 event ++ replicate 3 0

abbrev event-size : ℕ → ℕ → List ℕ → List ℕ → ℕ
event-size vcpu event block own = length (le 2 544 ++ le 2 vcpu ++ le 1 event ++ replicate 3 0 ++ block ++ own)

event-head-length : (seq vcpu event n : ℕ) → length (event-head seq vcpu event n) ≡ 16
event-head-length seq vcpu event n = simp (length-append, length-le)

event-front : (seq vcpu event : ℕ) (block own : List ℕ) → take 16 (event_bytes seq vcpu event block own) ≡ event-head seq vcpu event (event-size vcpu event block own)
unfolding event_bytes message_bytes
event-front seq vcpu event block own =
    let n = event-size vcpu event block own in
    let split : event_bytes seq vcpu event block own ≡ event-head seq vcpu event n ++ (block ++ own) = simp append_assoc in
    ap (take 16) split ∙ take_at (event-head seq vcpu event n) (block ++ own) 16 (event-head-length seq vcpu event n)

-- what is sent in two runs
record SentAlike (x y : Sent) : Type 0 where
  long : length x.bytes ≡ length y.bytes
  front : take 16 x.bytes ≡ take 16 y.bytes
  words : x.vcpus ≡ y.vcpus
  next : x.next ≡ y.next

-- an event of two runs
events-alike : (seq vcpu event : ℕ) (block block' own own' : List ℕ) → length block ≡ length block' → length own ≡ length own' → (words : List ℕ) (next : ℕ)
    → SentAlike (record { bytes = event_bytes seq vcpu event block own; vcpus = words; next = next }) (record { bytes = event_bytes seq vcpu event block' own'; vcpus = words; next = next })
events-alike seq vcpu event block block' own own' lb lw words next =
    let n : event-size vcpu event block own ≡ event-size vcpu event block' own' = simp (length-append, lb, lw) in
    let p = length-event seq vcpu event block own in
    let q = length-event seq vcpu event block' own' in
    record {
      long = omega arith;
      front = event-front seq vcpu event block own ∙ ap (event-head seq vcpu event) n ∙ sym (event-front seq vcpu event block' own');
      words = refl;
      next = refl;
    }

-- of its own bytes the switches that an event asks for know the register that CR and MSR name, and the page that a fault names
asked-alike : (t : Tool) (w pages : List ℕ) (vcpu event : ℕ) (own own' : List ℕ) → (event ≡ 5 → cr_named own ≡ cr_named own')
    → (event ≡ 9 → msr_named own ≡ msr_named own') → (event ≡ PF → (kept_of event own ≡ kept_of event own') × (view_named own ≡ view_named own'))
    → is_asked_for_of t w pages vcpu event own ≡ is_asked_for_of t w pages vcpu event own'
unfolding is_asked_for_of asked_for_by is_guarded kept_of event_row_of
asked-alike t w pages vcpu zero own own' cr msr pf = refl
asked-alike t w pages vcpu (suc (zero)) own own' cr msr pf = refl
asked-alike t w pages vcpu (suc (suc (zero))) own own' cr msr pf = refl
asked-alike t w pages vcpu (suc (suc (suc (zero)))) own own' cr msr pf = refl
asked-alike t w pages vcpu (suc (suc (suc (suc (zero))))) own own' cr msr pf = refl
asked-alike t w pages vcpu (suc (suc (suc (suc (suc (zero)))))) own own' cr msr pf = rw (cr refl)
asked-alike t w pages vcpu (suc (suc (suc (suc (suc (suc (zero))))))) own own' cr msr pf = refl
asked-alike t w pages vcpu (suc (suc (suc (suc (suc (suc (suc (zero)))))))) own own' cr msr pf = refl
asked-alike t w pages vcpu (suc (suc (suc (suc (suc (suc (suc (suc (zero))))))))) own own' cr msr pf = refl
asked-alike t w pages vcpu (suc (suc (suc (suc (suc (suc (suc (suc (suc (zero)))))))))) own own' cr msr pf = rw (msr refl)
asked-alike t w pages vcpu (suc (suc (suc (suc (suc (suc (suc (suc (suc (suc (zero))))))))))) own own' cr msr pf = rw ((pf refl).1, ap (λ (f : Fault). f.gpa) (pf refl).0)
asked-alike t w pages vcpu (suc (suc (suc (suc (suc (suc (suc (suc (suc (suc (suc (zero)))))))))))) own own' cr msr pf = refl
asked-alike t w pages vcpu (suc (suc (suc (suc (suc (suc (suc (suc (suc (suc (suc (suc (zero))))))))))))) own own' cr msr pf = refl
asked-alike t w pages vcpu (suc (suc (suc (suc (suc (suc (suc (suc (suc (suc (suc (suc (suc (zero)))))))))))))) own own' cr msr pf = refl
asked-alike t w pages vcpu (suc (suc (suc (suc (suc (suc (suc (suc (suc (suc (suc (suc (suc (suc (zero))))))))))))))) own own' cr msr pf = refl
asked-alike t w pages vcpu (suc (suc (suc (suc (suc (suc (suc (suc (suc (suc (suc (suc (suc (suc (suc (n)))))))))))))))) own own' cr msr pf = refl

module _ (vcpu : ℕ) (block block' : List ℕ) (event : ℕ) (own own' out out' : List ℕ) (lb : length block ≡ length block') (lw : length own ≡ length own')
    (cr : event ≡ 5 → cr_named own ≡ cr_named own') (msr : event ≡ 9 → msr_named own ≡ msr_named own')
    (pf : event ≡ PF → (kept_of event own ≡ kept_of event own') × (view_named own ≡ view_named own')) (lo : length out ≡ length out') (st : State) where
  abbrev Enters : Told → Told → Type 0
  Enters = SameFor (enter vcpu block event own out)

  stays : (k : ℕ) → Enters (told_same k st out []) (told_same k st out' [])
  stays k = idle (enter vcpu block event own out) (plain k) refl st out out' [] []

  kept-alike : (w : List ℕ) → fault_words w vcpu event own ≡ fault_words w vcpu event own'
  unfolding fault_words
  kept-alike w = test (eqb event PF) (λ e. rw (e, (pf (eqb-true event PF e)).0)) (λ e. rw e)

  sent-same : SentAlike (sent_of st vcpu block event own) (sent_of st vcpu block' event own')
  unfolding sent_of sending_of dequeuing_of pausing_of pause_event
  sent-same =
      let seq = st.session.tool.seq in
      rw (← asked-alike st.session.tool st.vcpus st.pages vcpu event own own' cr msr pf, ← kept-alike (awaiting_words st.vcpus vcpu event seq))
      (both SentAlike (is_asked_for_of st.session.tool st.vcpus st.pages vcpu event own) _ _ _ _
      (λ _. events-alike seq vcpu event block block' own own' lb lw _ _)
      (λ _. both SentAlike (leb 1 (field st.vcpus vcpu PAUSES)) _ _ _ _ (λ _. events-alike seq vcpu 2 block block' [] [] lb refl _ _)
      (λ _. record { long = refl; front = refl; words = refl; next = refl })))

  told_same_lem : (x y : Sent) → SentAlike x y → Inside out Enters (told_sent st x out) (told_sent st y out')
  unfolding own_bytes
  told_same_lem x y a fits =
      let b = x.bytes in
      let c = y.bytes in
      let n = a.long in
      let one : take (length b) (store out 0 b) ≡ b = written_is b Quiet st out [] fits in
      let two : take (length c) (store out' 0 c) ≡ c = written_is c Quiet st out' [] (omega arith) in
      record {
        answer = ap (λ (k : ℕ). handled k Quiet) n;
        state = λ j. with_seq_of (with_vcpu_words st (a.words j)) (a.next j);
        bytes = rw (one, two) a.front;
      }

  abbrev Enters-in : Told → Told → Type 0
  Enters-in = Inside out Enters

  fits-same : not (eqb (length block) state_bytes && offer_fits event own) ≡ not (eqb (length block') state_bytes && offer_fits event own')
  unfolding offer_fits
  fits-same = λ j. not (eqb (lb j) state_bytes && (is_offered (event_row_of event).switch && eqb (lw j) (event_row_of event).own))

  enter-inside : Enters-in (enter_of st vcpu block event own out) (enter_of st vcpu block' event own' out')
  unfolding enter_of entered_of
  enter-inside =
      both Enters-in (is_closed st) _ _ _ _ (λ _ _. stays 2)
      (λ _. both Enters-in (leb st.session.settings.vcpus vcpu) _ _ _ _ (λ _ _. stays 4)
      (λ _. on_both Enters-in _ _ fits-same _ _ _ _ (λ _ _. stays 5)
      (λ _. on_both Enters-in (ltb (length out) event_out) (ltb (length out') event_out) (ap (λ (n : ℕ). ltb n event_out) lo) _ _ _ _ (λ _ _. stays 3)
      (λ _. both Enters-in (not (eqb (field st.vcpus vcpu AWAITED) 0)) _ _ _ _ (λ _ _. stays 6) (λ _. told_same_lem _ _ sent-same)))))

  enter-same : Enters (enter_of st vcpu block event own out) (enter_of st vcpu block' event own' out')
  enter-same = enter-inside (enter-past st vcpu block event own out).inside

-- ---- an image
module _ (out out' : List ℕ) (lo : length out ≡ length out') (st : State) where
  abbrev Writes : Told → Told → Type 0
  Writes = SameFor (write_image out)

  kept : (k : ℕ) → Writes (told_same k st out []) (told_same k st out' [])
  kept k = idle (write_image out) (plain k) refl st out out' [] []

  image-same : Writes (image_of st out) (image_of st out')
  unfolding image_of own_bytes
  image-same =
      let b = image (stated_tables st) in
      both Writes (is_closed st) _ _ _ _ (λ _. kept 2)
      (λ _. both Writes (awaits_any (awaited_of st.vcpus 0 (stated_vcpus st))) _ _ _ _ (λ _. kept 10)
      (λ _. on_both Writes (ltb (length out) (length b)) (ltb (length out') (length b)) (ap (λ (n : ℕ). ltb n (length b)) lo) _ _ _ _ (λ _. kept 3)
      (λ h. let room = ltb-false (length out) (length b) h in
      record { answer = refl; state = refl; bytes = written_is b Quiet st out [] room ∙ sym (written_is b Quiet st out' [] (omega arith)) })))

-- ---- a call
call_same : (st : State) (c d : Call) → Alike c d → SameFor c (step_of st c) (step_of st d)
unfolding step_of own_bytes
call_same st c d (messages msg out out' guest guest' lo lg) =
    let same = message-same msg out out' lo st guest guest' lg in record { answer = same.answer; state = same.state; bytes = same.bytes }
call_same st c d (readies vcpu) = record { answer = refl; state = refl; bytes = refl }
call_same st c d (enters vcpu block block' event own own' out out' lb lw cr msr pf lo) = enter-same vcpu block block' event own own' out out' lb lw cr msr pf lo st
call_same st c d (writes out out' lo) = image-same out out' lo st

-- ---- lists of calls
-- which bytes are a call's own is the same for both
own-alike : (c d : Call) → Alike c d → (r : Told) → own_bytes c r ≡ own_bytes d r
unfolding own_bytes
own-alike c d (messages msg out out' guest guest' lo lg) r = refl
own-alike c d (readies vcpu) r = refl
own-alike c d (enters vcpu block block' event own own' out out' lb lw cr msr pf lo) r = refl
own-alike c d (writes out out' lo) r = refl

-- what lists of calls give
abbrev Same-lists : State → List Call → List Call → Type 0
Same-lists st cs ds = (answers_of st cs ≡ answers_of st ds) × (after_of st cs ≡ after_of st ds) × (bytes_of st cs ≡ bytes_of st ds)

lists-same : (st : State) (cs ds : List Call) → ButGuest cs ds → Same-lists st cs ds
unfolding answers_of after_of bytes_of
lists-same st cs ds ended = (refl, refl, refl)
lists-same st cs ds (more {c = c} {d = d} {cs = cs'} {ds = ds'} a b) =
    let one = call_same st c d a in
    let r = lists-same (step_of st c).state cs' ds' b in
    let own = one.bytes ∙ own-alike c d a (step_of st d) in
    let answers = r.0 ∙ ap (λ (x : State). answers_of x ds') one.state in
    let bytes = r.2 ∙ ap (λ (x : State). bytes_of x ds') one.state in
    ((λ j. one.answer j ∷ answers j), r.1 ∙ ap (λ (x : State). after_of x ds') one.state, (λ j. own j ∷ bytes j))

pub unsteered : Unsteered
unsteered =
    record {
      call = call_same;
      answers = λ st cs ds b. (lists-same st cs ds b).0;
      state = λ st cs ds b. (lists-same st cs ds b).1;
      bytes = λ st cs ds b. (lists-same st cs ds b).2;
    }
