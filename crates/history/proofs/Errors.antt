-- The error in the bytes that a message writes is the one of its verdict or of its change. Assumes nothing.
use mathlib.Core.Path.{◌≡◌, refl, sym, ap, ◌∙◌}
use mathlib.Core.Logic.{◌⊎◌, inl, inr}
use Prim.Native.Nat.{ℕ, ◌%◌, ◌≤◌}
use native.Mathlib.Omega.{arith}
use mathlib.Core.List.{List, ◌++◌}
use mathlib.Core.Bool.{Bool, true, false, cond, not, ◌&&◌}
use lib.IntN.{ℤ, pos, negsuc}
use lib.ListN.{length, drop}
use lib.Dec.{leb, ltb, eqb}
use mir.Syntax.{w32}
use mir.Val.{SFits}
use mir.Facts.{sfits_lit}
use borrow.Author.Tests.{leb-true, ltb-false}
use Rattle.std.specs.Prelude.{Some, None}
use Rattle.wire.specs.Bytes.{le, store}
use Rattle.wire.specs.Header.{HeaderRead, header_of}
use Rattle.wire.proofs.Laws.{store-start, le_join}
use Rattle.kvmi.specs.declared.Settings.{Settings}
use Rattle.kvmi.specs.declared.Facts.{Facts}
use Rattle.kvmi.specs.declared.ReplyMode.{ReplyMode}
use Rattle.kvmi.specs.declared.ReplyMode.TheVariants.{On, Off, ErrorsOnly}
use Rattle.kvmi.specs.declared.ReplyKind.{ReplyKind}
use Rattle.kvmi.specs.declared.ReplyKind.TheVariants.{CodeOnly, WithData, Silent}
use Rattle.kvmi.specs.declared.Change.{Change}
use Rattle.kvmi.specs.declared.Change.TheVariants.{Nothing, SetVmEvent, WritePhysical, QueuePause, SetVcpuEvent, SetCr, SetMsr, SetPages, SetSinglestep, SetReplies, EndWait}
use Rattle.kvmi.specs.declared.Verdict.{Verdict}
use Rattle.kvmi.specs.declared.Verdict.TheVariants.{Closes, Fails, Does}
use Rattle.kvmi.specs.Limits.{page_limit, least_out}
use Rattle.kvmi.specs.Codes.{is_error, EPERM, EINVAL, ENOMEM, ENOSYS, OK}
use Rattle.kvmi.specs.Settings.{allows_command, allows_event}
use Rattle.kvmi.specs.Mode.{mode_of_number}
use Rattle.kvmi.specs.Message.{layout_of, reply_kind, data_fits, carries_data, vcpu_of, gpa_of, size_of, entries_of}
use Rattle.kvmi.specs.Verdict.{replies_on, refuse, is_invalid, is_unready, is_denied, is_unsupported, is_busy, is_absent, loses_errors, in_one_page, change_of, command_verdict_by, command_verdict, event_reply_verdict, verdict}
use Rattle.kvmi.specs.Change.{mode_for}
use Rattle.kvmi.specs.Reply.{message_bytes, reply_bytes, reply_data, command_error_event, answer_bytes, answer_of}
use Rattle.page_words.specs.PageWords.{run_entries}
use Rattle.session.specs.State.{State, is_closed}
use Rattle.session.specs.Calls.{Told, told_same}
use Rattle.change.specs.Change.{pages_by, change}
use Rattle.message.specs.Message.{facts_in, code_by, answering_of, judged_of, headed_of, message_of}
use Rattle.std.specs.Prelude.{Some}
use Rattle.stream.specs.Line.{error_of}
use Rattle.refine.specs.Errors.{code_headed, code_of, Spared, ErrorSpares}
use Rattle.refine.proofs.Theorems.{error-spares}
use Rattle.history.specs.Demand2.{WritesError}
use Rattle.laws.proofs.Bool.{and_r}
use Rattle.laws.proofs.Verdicts.{pick, Admitted, ending, reply-cases, verdict-cases}
use Rattle.reply.proofs.Lengths.{length-answer}
use Rattle.replay.proofs.Errors.{answer-error}
use Rattle.refine.proofs.Frames.{error-length, data-fits}

-- ---- codes that an i32 holds
abbrev Fits-by : Verdict → Type 0
Fits-by Closes = Unit {0}
Fits-by (Fails code) = SFits w32 code
Fits-by (Does c) = Unit {0}

-- those of the tests
verdict-fits : (s : Settings) (f : Facts) (id seq : ℕ) (d : List ℕ) → Fits-by (verdict s f id seq d)
unfolding verdict command_verdict command_verdict_by is_invalid event_reply_verdict
verdict-fits s f id seq d =
    let refused : (code : ℤ) → SFits w32 code → Fits-by (refuse f.mode code) = λ code e. pick Fits-by (replies_on f.mode) (Fails code) Closes (λ _. e) (λ _. tt) in
    pick Fits-by (not (leb 1 id && leb id 16)) _ _ (λ _. refused ENOSYS (sfits_lit tt))
    (λ _. pick Fits-by (not (allows_command s id)) _ _ (λ _. refused EPERM (sfits_lit tt))
    (λ _. pick Fits-by (not (replies_on f.mode) && carries_data (reply_kind (layout_of id))) _ _ (λ _. tt)
    (λ _. pick Fits-by (not (data_fits (layout_of id) d)) _ _ (λ _. tt)
    (λ _. pick Fits-by (eqb id 16) _ _
    (λ _. reply-cases Fits-by f.pending.awaited f.guest seq d tt (λ a w h. tt))
    (λ _. pick Fits-by (eqb id 9 && not (allows_event s 2)) _ _ (λ _. tt)
    (λ _. pick Fits-by (is_invalid s id d) _ _ (λ _. sfits_lit tt)
    (λ _. pick Fits-by (is_unready f id) _ _ (λ _. sfits_lit tt)
    (λ _. pick Fits-by (is_denied s id d) _ _ (λ _. sfits_lit tt)
    (λ _. pick Fits-by (is_unsupported s id d) _ _ (λ _. sfits_lit tt)
    (λ _. pick Fits-by (is_busy s f id d) _ _ (λ _. sfits_lit tt)
    (λ _. pick Fits-by (is_absent f id d) _ _ (λ _. sfits_lit tt)
    (λ _. pick Fits-by (loses_errors s id d) _ _ (λ _. tt) (λ _. tt)))))))))))))

-- 0, or -12 of message 13
change-fits : (st : State) (guest d : List ℕ) (c : Change) → SFits w32 (change st guest d c).code
unfolding change
change-fits st guest d Nothing = sfits_lit tt
change-fits st guest d (SetVmEvent on event) = sfits_lit tt
change-fits st guest d (WritePhysical gpa) = sfits_lit tt
change-fits st guest d (QueuePause wait vcpu) = sfits_lit tt
change-fits st guest d (SetVcpuEvent on vcpu event) = sfits_lit tt
change-fits st guest d (SetCr on vcpu cr) = sfits_lit tt
change-fits st guest d (SetMsr on vcpu msr) = sfits_lit tt
change-fits st guest d (SetPages view count) =
    pick (SFits w32) (pages_by st.session.settings st.pages st.session.tool.pages (run_entries page_limit view (entries_of count (drop 8 d)) st.pages st.session.tool.pages)).skipped ENOMEM OK (λ _. sfits_lit tt) (λ _. sfits_lit tt)
change-fits st guest d (SetSinglestep on vcpu) = sfits_lit tt
change-fits st guest d (SetReplies now mode) = sfits_lit tt
change-fits st guest d (EndWait resumes vcpu action value feed) = sfits_lit tt

-- ---- the error in an answer's bytes
-- of an id two bytes are written
id-bytes : (id : ℕ) → le 2 id ≡ le 2 (id % 65536)
unfolding le
id-bytes id = sym (le_join 2 0 id)

short-id : (mode : ReplyMode) (next id seq : ℕ) (code : ℤ) (d : List ℕ) → answer_bytes mode next id seq code d ≡ answer_bytes mode next (id % 65536) seq code d
unfolding answer_bytes reply_bytes message_bytes command_error_event
short-id On next id seq code d = rw (id-bytes id)
short-id Off next id seq code d = refl
short-id ErrorsOnly next id seq code d = rw (id-bytes id)

-- an id that is no command's, as that of events, is answered with an error
module _ (next id seq : ℕ) (d : List ℕ) where
  abbrev Known : ℤ → Type 0
  Known code = (is_error code ≡ true) ⊎ (id ≤ 16)

  no-event : (code : ℤ) → Known code → id % 65536 ≡ 17 → is_error code ≡ true
  no-event code (inl e) h = e
  no-event code (inr l) h = absurd (omega arith)

  code_in : (mode : ReplyMode) (code : ℤ) (rest : List ℕ) → SFits w32 code → Known code → (length (answer_bytes mode next id seq code d) ≡ 0 → ⊥)
      → error_of (answer_bytes mode next id seq code d ++ rest) (length (answer_bytes mode next id seq code d)) ≡ Some code
  unfolding answer_bytes
  code_in On code rest f k ne =
      let e = short-id On next id seq code d in
      (λ j. error_of (e j ++ rest) (length (e j))) ∙ answer-error On next (id % 65536) seq code d rest f (omega arith) (no-event code k)
  code_in Off code rest f k ne = absurd (ne refl)
  code_in ErrorsOnly (pos n) rest f k ne = absurd (ne refl)
  code_in ErrorsOnly (negsuc n) rest f k ne =
      let e = short-id ErrorsOnly next id seq (negsuc n) d in
      (λ j. error_of (e j ++ rest) (length (e j))) ∙ answer-error ErrorsOnly next (id % 65536) seq (negsuc n) d rest f (omega arith) (no-event (negsuc n) k)

  -- written at the front of an output that has room
  abbrev Said : List ℕ → List ℕ → ℤ → Type 0
  Said out bytes code = length bytes ≤ length out → (length bytes ≡ 0 → ⊥) → error_of (store out 0 bytes) (length bytes) ≡ Some code

  code-said : (kind : ReplyKind) (mode : ReplyMode) (code : ℤ) (out : List ℕ) → SFits w32 code → Known code → Said out (answer_of kind mode next id seq code d) code
  unfolding answer_of
  code-said CodeOnly mode code out f k room ne =
      let bytes = answer_bytes mode next id seq code d in
      ap (λ (l : List ℕ). error_of l (length bytes)) (store-start out bytes room) ∙ code_in mode code (drop (length bytes) out) f k ne
  code-said WithData mode code out f k room ne =
      let bytes = answer_bytes mode next id seq code d in
      ap (λ (l : List ℕ). error_of l (length bytes)) (store-start out bytes room) ∙ code_in mode code (drop (length bytes) out) f k ne
  code-said Silent mode code out f k room ne = absurd (ne refl)

-- ---- of a message
module _ (st : State) (guest d out : List ℕ) (long : least_out ≤ length out) (id seq : ℕ) where
  abbrev Code-by : Verdict → Type 0
  Code-by v =
      Fits-by v → ((judged_of st id seq d out guest v).answer.count ≡ 0 → ⊥) → WritesError (judged_of st id seq d out guest v) (code_by st guest d v)

  does-code : (c : Change) → id ≤ 16 → (in_one_page (gpa_of d) (size_of d) ≡ true) ⊎ (id ≡ 6 → ⊥) → Code-by (Does c)
  unfolding judged_of answering_of
  does-code c known fits _ ne =
      let r = change st guest d c in
      let mode = mode_for (mode_of_number st.session.tool.mode) c in
      let next = r.state.session.tool.seq in
      let l = length-answer (reply_kind (layout_of id)) mode next id seq r.code r.state.session.settings r.guest d fits in
      code-said next id seq (reply_data r.state.session.settings r.guest id d) (reply_kind (layout_of id)) mode r.code out (change-fits st guest d c) (inr known) (omega arith) ne

  fails-code : (code : ℤ) → is_error code ≡ true → Code-by (Fails code)
  unfolding judged_of answering_of
  fails-code code e fits ne =
      let mode = mode_of_number st.session.tool.mode in
      let next = st.session.tool.seq in
      let rest = reply_data st.session.settings guest id d in
      let l = error-length (reply_kind (layout_of id)) mode next id seq code rest e in
      code-said next id seq rest (reply_kind (layout_of id)) mode code out fits (inl e) (omega arith) ne

  known-id : (f : Facts) → Admitted st.session.settings f id d → id ≤ 16
  known-id f a = leb-true id 16 (and_r (leb 1 id) (leb id 16) a.known)

  verdict-code : (f : Facts) → Code-by (verdict st.session.settings f id seq d)
  unfolding judged_of
  verdict-code f =
      verdict-cases Code-by st.session.settings f id seq d (λ _ ne. absurd (ne refl)) fails-code
      (λ p. does-code (change_of id d) (known-id f p.admitted) (data-fits st.session.settings f id d p))
      (λ a p. let e = p.reply in does-code (ending a f.guest d) (known-id f p.admitted) (inr (λ q. omega arith)))

-- where a call writes bytes, a code stands in them
abbrev Coded : Told → ℤ → Type 0
Coded r code = (r.answer.count ≡ 0 → ⊥) → WritesError r code

pub code-written : (st : State) (msg out guest : List ℕ) → Coded (message_of st msg out guest) (code_of st msg out guest)
unfolding message_of headed_of
code-written st msg out guest = by-refusal (is_closed st) (ltb (length out) least_out) (λ h. ltb-false (length out) least_out h)
  where
    d : List ℕ
    d = drop 8 msg

    by-header : least_out ≤ length out → (h : HeaderRead) → Coded (headed_of st d out guest h) (code_headed st guest d h)
    by-header long None ne = absurd (ne refl)
    by-header long (Some h) ne =
        let f = facts_in st (length guest) (vcpu_of d) in verdict-code st guest d out long h.id h.seq f (verdict-fits st.session.settings f h.id h.seq d) ne

    by-refusal : (closed short : Bool) → (short ≡ false → least_out ≤ length out)
        → Coded (cond closed (told_same 2 st out guest) (cond short (told_same 3 st out guest) (headed_of st d out guest (header_of msg))))
        (cond closed OK (cond short OK (code_headed st guest d (header_of msg))))
    by-refusal true short h ne = absurd (ne refl)
    by-refusal false true h ne = absurd (ne refl)
    by-refusal false false h ne = by-header (h refl) (header_of msg) ne

-- -22, which is not -12, leaves everything as it was but for the next event's seq
pub invalid-spares : (st : State) (msg out guest : List ℕ) → code_of st msg out guest ≡ EINVAL → Spared st guest (message_of st msg out guest)
invalid-spares st msg out guest e = by (error-spares st msg out guest (rw e))
  where
    below : ℤ → ℕ
    below (pos n) = 0
    below (negsuc n) = n

    by : ErrorSpares st msg guest (code_of st msg out guest) (message_of st msg out guest) → Spared st guest (message_of st msg out guest)
    by (inl w) = w
    by (inr (_, twelve, _, _)) = let no = ap below (sym e ∙ twelve) in absurd (omega arith)
