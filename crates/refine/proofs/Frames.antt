-- What a host call leaves as it was, whatever bits the session holds. Assumes nothing.
use mathlib.Core.Path.{◌≡◌, refl}
use mathlib.Core.Logic.{◌⊎◌, inl, inr}
use Prim.Native.Nat.{ℕ, ◌≤◌, zero-le}
use native.Mathlib.Omega.{arith}
use mathlib.Core.List.{List, []}
use mathlib.Core.Bool.{Bool, true, false, cond, not, ◌&&◌}
use lib.IntN.{ℤ}
use lib.ListN.{length, drop}
use lib.Dec.{leb, ltb, eqb}
use borrow.Author.Tests.{ltb-false, eqb-true, eqb-false, not-false}
use Rattle.std.specs.Prelude.{Some, None}
use Rattle.wire.specs.Header.{HeaderRead, header_of}
use Rattle.wire.proofs.Laws.{length-store, drop-store}
use Rattle.kvmi.specs.declared.Settings.{Settings}
use Rattle.kvmi.specs.declared.Facts.{Facts}
use Rattle.kvmi.specs.declared.Signal.{Signal}
use Rattle.kvmi.specs.declared.Signal.TheVariants.{Quiet}
use Rattle.kvmi.specs.declared.ReplyMode.{ReplyMode}
use Rattle.kvmi.specs.declared.ReplyMode.TheVariants.{On, Off, ErrorsOnly}
use Rattle.kvmi.specs.declared.ReplyKind.{ReplyKind}
use Rattle.kvmi.specs.declared.ReplyKind.TheVariants.{CodeOnly, WithData, Silent}
use Rattle.kvmi.specs.declared.Change.{Change}
use Rattle.kvmi.specs.declared.Verdict.{Verdict}
use Rattle.kvmi.specs.declared.Verdict.TheVariants.{Closes, Fails, Does}
use Rattle.kvmi.specs.Answer.{lacks_page}
use Rattle.kvmi.specs.Codes.{is_error}
use Rattle.kvmi.specs.Message.{layout_of, reply_kind, vcpu_of, gpa_of, size_of}
use Rattle.kvmi.specs.Change.{signal_of, mode_for}
use Rattle.kvmi.specs.Event.{offer_fits}
use Rattle.kvmi.specs.Reply.{reply_data, answer_bytes, answer_of}
use Rattle.kvmi.specs.Verdict.{in_one_page, change_of, verdict}
use Rattle.kvmi.specs.Mode.{mode_of_number}
use Rattle.store.specs.Words.{field, PAUSES, AWAITED}
use Rattle.session.specs.State.{State, is_closed}
use Rattle.session.specs.Calls.{Told, told_same, told_written, told_closing, ready_of}
use Rattle.change.specs.Change.{change}
use Rattle.message.specs.Message.{facts_in, answering_of, judged_of, reporting_of, headed_of, message_of}
use Rattle.entry.specs.Entry.{is_asked_for_of, Sent, sending_of, pausing_of, dequeuing_of, sent_of, entered_of, enter_of}
use Rattle.laws.proofs.Bool.{and_l, and_r, test}
use Rattle.laws.proofs.Verdicts.{pick, Passed, ending, verdict-cases, sound-of}
use Rattle.laws.proofs.Events.{own-few}
use Rattle.reply.proofs.Lengths.{length-reply, length-command-error, length-event, length-pause-whole, length-answer}
use Rattle.refine.specs.Frames.{Refuses, Past}

-- ---- "None": answers from 2 on change nothing in session, tables, output or guest memory
pub same-refuses : (k : ℕ) (st : State) (out guest : List ℕ) → Refuses st out guest (told_same k st out guest)
same-refuses k st out guest h _ = record { answer = refl; state = refl; output = refl; memory = refl }

-- a message that was looked at was taken, or closed the session
abbrev Acts : ℕ → Type 0
Acts k = (k ≤ 1) ⊎ (k ≡ 12)

acts : (st : State) (out guest : List ℕ) (r : Told) → Acts r.answer.number → Refuses st out guest r
acts st out guest r (inl h) g _ = absurd (omega arith)
acts st out guest r (inr h) g other = absurd (other h)

handled-acts : (lacks : Bool) → Acts (cond lacks 12 0)
handled-acts true = inr refl
handled-acts false = inl zero-le

judged-acts : (st : State) (id seq : ℕ) (d out guest : List ℕ) (v : Verdict) → Acts (judged_of st id seq d out guest v).answer.number
unfolding judged_of answering_of
judged-acts st id seq d out guest Closes = inl (omega arith)
judged-acts st id seq d out guest (Fails code) = inl (omega arith)
judged-acts st id seq d out guest (Does c) = handled-acts (lacks_page (signal_of c))

headed-acts : (st : State) (d out guest : List ℕ) (h : HeaderRead) → Acts (headed_of st d out guest h).answer.number
unfolding headed_of
headed-acts st d out guest None = inl (omega arith)
headed-acts st d out guest (Some h) = judged-acts st h.id h.seq d out guest (verdict st.session.settings (facts_in st (length guest) (vcpu_of d)) h.id h.seq d)

pub message-refuses : (st : State) (msg out guest : List ℕ) → Refuses st out guest (message_of st msg out guest)
unfolding message_of
message-refuses st msg out guest =
    pick (Refuses st out guest) (is_closed st) _ _ (λ _. same-refuses 2 st out guest)
    (λ _. pick (Refuses st out guest) (ltb (length out) 4112) _ _ (λ _. same-refuses 3 st out guest)
    (λ _. acts st out guest (headed_of st (drop 8 msg) out guest (header_of msg)) (headed-acts st (drop 8 msg) out guest (header_of msg))))

pub ready-refuses : (st : State) (vcpu : ℕ) → Refuses st [] [] (ready_of st vcpu)
unfolding ready_of
ready-refuses st vcpu =
    pick (Refuses st [] []) (is_closed st) _ _ (λ _. same-refuses 2 st [] [])
    (λ _. pick (Refuses st [] []) (leb st.session.settings.vcpus vcpu) _ _ (λ _. same-refuses 4 st [] []) (λ _ h _. absurd (omega arith)))

pub enter-refuses : (st : State) (vcpu : ℕ) (block : List ℕ) (event : ℕ) (own out : List ℕ) → Refuses st out [] (enter_of st vcpu block event own out)
unfolding enter_of entered_of
enter-refuses st vcpu block event own out =
    pick (Refuses st out []) (is_closed st) _ _ (λ _. same-refuses 2 st out [])
    (λ _. pick (Refuses st out []) (leb st.session.settings.vcpus vcpu) _ _ (λ _. same-refuses 4 st out [])
    (λ _. pick (Refuses st out []) (not (eqb (length block) 536 && offer_fits event own)) _ _ (λ _. same-refuses 5 st out [])
    (λ _. pick (Refuses st out []) (ltb (length out) 576) _ _ (λ _. same-refuses 3 st out [])
    (λ _. pick (Refuses st out []) (not (eqb (field st.vcpus vcpu AWAITED) 0)) _ _ (λ _. same-refuses 6 st out []) (λ _ h _. absurd (omega arith))))))

-- ---- 4,112 bytes hold every answer
-- an error has no data
error-bytes : (mode : ReplyMode) (seq id command_seq : ℕ) (code : ℤ) (d : List ℕ) → is_error code ≡ true → length (answer_bytes mode seq id command_seq code d) ≤ 4112
unfolding answer_bytes
error-bytes On seq id command_seq code d e = let l = length-reply id command_seq code d in let z : cond (is_error code) 0 (length d) ≡ 0 = rw e in omega arith
error-bytes Off seq id command_seq code d e = omega arith
error-bytes ErrorsOnly seq id command_seq code d e = rw (e, length-command-error seq code command_seq id) (omega arith)

pub error-length : (kind : ReplyKind) (mode : ReplyMode) (seq id command_seq : ℕ) (code : ℤ) (d : List ℕ) → is_error code ≡ true → length (answer_of kind mode seq id command_seq code d) ≤ 4112
unfolding answer_of
error-length CodeOnly mode seq id command_seq code d e = error-bytes mode seq id command_seq code d e
error-length WithData mode seq id command_seq code d e = error-bytes mode seq id command_seq code d e
error-length Silent mode seq id command_seq code d e = omega arith

-- the data of a message that passes fit a page
pub data-fits : (s : Settings) (f : Facts) (id : ℕ) (d : List ℕ) → Passed s f id d → (in_one_page (gpa_of d) (size_of d) ≡ true) ⊎ (id ≡ 6 → ⊥)
data-fits s f id d p =
    test (eqb id 6) (λ e. let q = rw (eqb-true id 6 e) at p in inl (not-false _ (sound-of s 6 d q.valid).range)) (λ e. inr (eqb-false id 6 e))

-- ---- "After answers 0 and 1, output past the count is untouched" (and after every other answer)
pub same-past : (k : ℕ) (st : State) (out guest : List ℕ) → Past out (told_same k st out guest)
same-past k st out guest = record { inside = zero-le; long = refl; rest = refl }

pub written-past : (bytes : List ℕ) (g : Signal) (st : State) (out guest : List ℕ) → length bytes ≤ length out → Past out (told_written bytes g st out guest)
written-past bytes g st out guest h =
    record { inside = h; long = length-store out 0 bytes; rest = drop-store (length bytes) out 0 bytes (omega arith) }

-- what is reported of padding stands in none of these
reporting-past : (padding : ℕ) (out : List ℕ) (r : Told) → Past out r → Past out (reporting_of padding r)
reporting-past padding out r h = record { inside = h.inside; long = h.long; rest = h.rest }

module _ (st : State) (d out guest : List ℕ) (long : 4112 ≤ length out) where
  does-past : (id seq : ℕ) (c : Change) → (in_one_page (gpa_of d) (size_of d) ≡ true) ⊎ (id ≡ 6 → ⊥) → Past out (judged_of st id seq d out guest (Does c))
  unfolding judged_of answering_of
  does-past id seq c fits =
      let r = change st guest d c in
      let mode = mode_for (mode_of_number st.session.tool.mode) c in
      let l = length-answer (reply_kind (layout_of id)) mode r.state.session.tool.seq id seq r.code r.state.session.settings r.guest d fits in
      written-past _ (signal_of c) _ out r.guest (omega arith)

  fails-past : (id seq : ℕ) (code : ℤ) → is_error code ≡ true → Past out (judged_of st id seq d out guest (Fails code))
  unfolding judged_of answering_of
  fails-past id seq code e =
      let mode = mode_of_number st.session.tool.mode in
      let l = error-length (reply_kind (layout_of id)) mode st.session.tool.seq id seq code (reply_data st.session.settings guest id d) e in
      written-past _ Quiet _ out guest (omega arith)

  closes-past : Past out (told_closing st out guest)
  closes-past = record { inside = zero-le; long = refl; rest = refl }

  headed-past : (h : HeaderRead) → Past out (headed_of st d out guest h)
  unfolding headed_of judged_of
  headed-past None = closes-past
  headed-past (Some h) =
      let f = facts_in st (length guest) (vcpu_of d) in
      reporting-past _ out _
      (verdict-cases (λ v. Past out (judged_of st h.id h.seq d out guest v)) st.session.settings f h.id h.seq d closes-past (λ code e. fails-past h.id h.seq code e)
      (λ p. does-past h.id h.seq (change_of h.id d) (data-fits st.session.settings f h.id d p))
      (λ a p. let e = p.reply in does-past h.id h.seq (ending a f.guest d) (inr (λ q. omega arith))))

pub message-past : (st : State) (msg out guest : List ℕ) → Past out (message_of st msg out guest)
unfolding message_of
message-past st msg out guest =
    pick (Past out) (is_closed st) _ _ (λ _. same-past 2 st out guest)
    (λ _. pick (Past out) (ltb (length out) 4112) _ _ (λ _. same-past 3 st out guest)
    (λ h. headed-past st (drop 8 msg) out guest (ltb-false (length out) 4112 h) (header_of msg)))

-- 576 bytes hold what an entry sends
pub sent-length : (st : State) (vcpu : ℕ) (block : List ℕ) (event : ℕ) (own : List ℕ) → (eqb (length block) 536 && offer_fits event own) ≡ true
    → length (sent_of st vcpu block event own).bytes ≤ 576
unfolding sent_of sending_of dequeuing_of pausing_of
sent-length st vcpu block event own fits =
    let seq = st.session.tool.seq in
    let whole = eqb-true (length block) 536 (and_l (eqb (length block) 536) (offer_fits event own) fits) in
    let few = own-few event own (and_r (eqb (length block) 536) (offer_fits event own) fits) in
    let l = length-event seq vcpu event block own in
    let p = length-pause-whole seq vcpu block whole in
    pick (λ (x : Sent). length x.bytes ≤ 576) (is_asked_for_of st.session.tool st.vcpus st.pages vcpu event own) _ _ (λ _. omega arith)
    (λ _. pick (λ (x : Sent). length x.bytes ≤ 576) (leb 1 (field st.vcpus vcpu PAUSES)) _ _ (λ _. omega arith) (λ _. zero-le))

pub enter-past : (st : State) (vcpu : ℕ) (block : List ℕ) (event : ℕ) (own out : List ℕ) → Past out (enter_of st vcpu block event own out)
unfolding enter_of entered_of
enter-past st vcpu block event own out =
    pick (Past out) (is_closed st) _ _ (λ _. same-past 2 st out [])
    (λ _. pick (Past out) (leb st.session.settings.vcpus vcpu) _ _ (λ _. same-past 4 st out [])
    (λ _. pick (Past out) (not (eqb (length block) 536 && offer_fits event own)) _ _ (λ _. same-past 5 st out [])
    (λ w. pick (Past out) (ltb (length out) 576) _ _ (λ _. same-past 3 st out [])
    (λ l. pick (Past out) (not (eqb (field st.vcpus vcpu AWAITED) 0)) _ _ (λ _. same-past 6 st out [])
    (λ _. let few = sent-length st vcpu block event own (not-false _ w) in
    let room = ltb-false (length out) 576 l in
    written-past (sent_of st vcpu block event own).bytes Quiet _ out [] (omega arith))))))
