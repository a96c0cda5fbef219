-- "W6. Which padding byte was it?": what the answer to a message reports, and that nothing else of it changed. All but `booked`, which is said of every session
-- that began, after every list of calls, is said of any session, whatever bits it holds.
use Rattle.std.specs.Prelude.{◌≡◌, ◌↔◌, ◌⊎◌, ◌≢◌, ℕ, ◌+◌, ◌*◌, ◌≤◌, ◌<◌, List, [], ◌∷◌, cond, false, not, ◌&&◌, ◌||◌, length, get_or, drop, ltb, leb, eqb, Some, None}
use Rattle.std.proofs.Math.Bool.{So}
use Rattle.wire.specs.Header.{HeaderRead, header_of}
use Rattle.msrs.specs.Place.{is_msr}
use Rattle.kvmi.specs.declared.Facts.{Facts}
use Rattle.kvmi.specs.declared.ReplyMode.TheVariants.{On}
use Rattle.kvmi.specs.declared.Settings.{Settings}
use Rattle.kvmi.specs.declared.Verdict.TheVariants.{Closes, Fails, Does}
use Rattle.kvmi.specs.Bits.{among, every}
use Rattle.kvmi.specs.Limits.{least_out}
use Rattle.kvmi.specs.Codes.{EPERM, ENOENT, EAGAIN, EBUSY, EINVAL, EOPNOTSUPP}
use Rattle.kvmi.specs.Settings.{allows_command, allows_event}
use Rattle.kvmi.specs.Model.{Model}
use Rattle.kvmi.specs.Tables.{is_cr}
use Rattle.kvmi.specs.Message.{layout_of, data_fits, vcpu_of, count_of, names_vcpu, command_of, switches_at, event_of, register_of, gpa_of, size_of, count_fits, view_of, Entry, entries_of, first_padding, takes_event}
use Rattle.kvmi.specs.Verdict.{is_invalid, is_unready, is_denied, is_unsupported, is_busy, is_absent, loses_errors, change_of, command_verdict, verdict, takes_access, in_one_page}
use Rattle.kvmi.specs.Batch.{batch_by}
use Rattle.kvmi.specs.Call.{Call, message, after}
use Rattle.session.specs.State.{State, is_closed}
use Rattle.session.specs.Calls.{Told, told_same, told_closing, fresh_of}
use Rattle.session.specs.Meaning.{model_of}
use Rattle.image_reader.specs.Read.{read_of}
use Rattle.message.specs.Message.{facts_in, judged_of, reporting_of, message_of}
use Rattle.batch.specs.Batch.{told_taken, batch_of}
use Rattle.replay.specs.Runner.{left_by, passed_of}
use Rattle.refine.specs.Errors.{HasId, code_of, Spared}
use Rattle.history.specs.History.{step_of, after_of, BeganOn}

-- ---- the padding of each message, as kvmi.rst lays it out: which offsets in the message, whose header has 8 bytes. Said apart from the runs that the
-- test walks (kvmi/specs/Message: `padding_runs`)
abbrev pub Within : ℕ → ℕ → ℕ → Type 0
Within first last at = (first ≤ at) × (at ≤ last)

pub data PaddingByte (id : ℕ) (d : List ℕ) (at : ℕ) : Type 0 where
  -- behind a number, a command's, an event's or a vCPU's
  behind_number : So (among id (2 ∷ 3 ∷ 8 ∷ 9 ∷ 10 ∷ 11 ∷ 12 ∷ 14 ∷ [])) → Within 10 15 at → PaddingByte id d at
  -- VM_CONTROL_EVENTS, VM_CONTROL_CMD_RESPONSE
  behind_switch : So (among id (5 ∷ 15 ∷ [])) → Within 11 15 at → PaddingByte id d at
  -- VCPU_PAUSE, VCPU_CONTROL_SINGLESTEP
  behind_vcpu_switch : So (among id (9 ∷ 14 ∷ [])) → Within 17 23 at → PaddingByte id d at
  -- VCPU_CONTROL_EVENTS
  behind_vcpu_event : id ≡ 10 → Within 19 23 at → PaddingByte id d at
  -- VCPU_CONTROL_CR, VCPU_CONTROL_MSR
  before_register : So (among id (11 ∷ 12 ∷ [])) → Within 17 19 at → PaddingByte id d at
  -- VM_SET_PAGE_ACCESS, behind its view
  behind_view : id ≡ 13 → Within 12 15 at → PaddingByte id d at
  -- and in entry i: "Entries are looked at only if the count fits"
  in_entry : id ≡ 13 → length d ≡ 8 + 16 * count_of d → (i : ℕ) → i < count_of d → Within (16 * i + 25) (16 * i + 31) at → PaddingByte id d at

-- ---- test 6 is reached, read on the book: the message is not refused, its header is whole, and it is a command that passes tests 2 to 4 and
-- the first sentence of test 5
pub record Reaches (s : Settings) (m : Model) (id : ℕ) (msg out : List ℕ) : Type 0 where
  pub opened : m.closed ≡ false
  pub room : least_out ≤ length out
  pub header : HasId msg id
  -- 6: "Then, for ids 1 to 15, errors"
  pub command : (1 ≤ id) × (id ≤ 15)
  -- 2: "Id not allowed: -1 (EPERM)"
  pub allowed : So (allows_command s id)
  -- 3: "Replies off and id 1, 4, 6 or 8: closes."
  pub answerable : (m.mode ≡ On) ⊎ (among id (1 ∷ 4 ∷ 6 ∷ 8 ∷ []) ≡ false)
  -- 4: "Data size unlike the table: closes."
  pub size : So (data_fits (layout_of id) (drop 8 msg))
  -- 5: "Message 9 while event 2 is not allowed: closes."
  pub pauses : id ≡ 9 → So (allows_event s 2)

-- a padding byte that test 6 looks at, and that is not zero
abbrev pub Dirty : Settings → Model → List ℕ → List ℕ → ℕ → Type 0
Dirty s m msg out at = (id : ℕ) × Reaches s m id msg out × PaddingByte id (drop 8 msg) at × (get_or msg at 0 ≢ 0)

-- "the message offset of the first non-zero padding byte [..]; 0 means padding fine or test 6 not reached": it is not 0 exactly if there is such a byte, and
-- then it is the least of them
pub record ReportsFirst (s : Settings) (m : Model) (msg out : List ℕ) (padding : ℕ) : Type 0 where
  pub exactly : (padding ≢ 0) ↔ ((at : ℕ) × Dirty s m msg out at)
  pub itself : padding ≢ 0 → Dirty s m msg out padding
  pub first : (at : ℕ) → Dirty s m msg out at → padding ≤ at

-- ---- a message without W6's report
abbrev pub headed_unreported : State → List ℕ → List ℕ → List ℕ → HeaderRead → Told
headed_unreported st d out guest None = told_closing st out guest
headed_unreported st d out guest (Some h) =
    judged_of st h.id h.seq d out guest (verdict st.session.settings (facts_in st (length guest) (vcpu_of d)) h.id h.seq d)

abbrev pub message_unreported : State → List ℕ → List ℕ → List ℕ → Told
message_unreported st msg out guest =
    cond (is_closed st) (told_same 2 st out guest)
    (cond (ltb (length out) least_out) (told_same 3 st out guest)
    (headed_unreported st (drop 8 msg) out guest (header_of msg)))

-- any call but a message
abbrev pub IsOther : Call → Type 0
IsOther c = (msg out guest : List ℕ) → c ≢ message msg out guest

-- ---- which padding byte it was
pub record Padding : Type 0 where
  -- "The padding test should report the message offset of the first non-zero padding byte, in every command's host answer"
  pub reported : (st : State) (msg out guest : List ℕ) → ReportsFirst st.session.settings (model_of st) msg out (message_of st msg out guest).answer.padding
  -- and of the book, after every list of calls
  pub booked : (s : Settings) (st : State) (m : Model) → BeganOn s st m → (cs : List Call) (msg out guest : List ℕ)
      → ReportsFirst s (after s m cs) msg out (step_of (after_of st cs) (message msg out guest)).answer.padding
  -- then the error is -22, whether it is written or not, the answer is 0, and session, words and guest memory are as they were, but for the next event's seq
  pub invalid : (st : State) (msg out guest : List ℕ) → (message_of st msg out guest).answer.padding ≢ 0
      → (code_of st msg out guest ≡ EINVAL) × ((message_of st msg out guest).answer.number ≡ 0) × Spared st guest (message_of st msg out guest)
  -- no other call reports one, and none does that begins a session
  pub others : (st : State) (c : Call) → IsOther c → (step_of st c).answer.padding ≡ 0
  pub fresh : (s : Settings) (vcpus pages : List ℕ) → (fresh_of s vcpus pages).answer.padding ≡ 0
  pub loaded : (s : Settings) (l vcpus pages : List ℕ) → (read_of s l vcpus pages).answer.padding ≡ 0
  -- and of every -22 it is told, where padding is not zero: "Support gets calls about -22"
  pub told : (st : State) (msg out guest : List ℕ) → code_of st msg out guest ≡ EINVAL → (id at : ℕ) → HasId msg id → PaddingByte id (drop 8 msg) at → get_or msg at 0 ≢ 0
      → (message_of st msg out guest).answer.padding ≢ 0
  -- "Wire bytes stay": but for what is reported, a message gives and leaves, in session, words, output and guest memory, what it does without W6's report; and
  -- with session and words stays the image, which is made of them. Its tests say what they said: the codes in their order, and the causes of -22
  pub stays : (st : State) (msg out guest : List ℕ)
      → message_of st msg out guest ≡ reporting_of (message_of st msg out guest).answer.padding (message_unreported st msg out guest)
  pub tested : (s : Settings) (f : Facts) (id : ℕ) (d : List ℕ)
      → command_verdict s f id d
      ≡ cond (is_invalid s id d) (Fails EINVAL)
      (cond (is_unready f id) (Fails EAGAIN)
      (cond (is_denied s id d) (Fails EPERM)
      (cond (is_unsupported s id d) (Fails EOPNOTSUPP)
      (cond (is_busy s f id d) (Fails EBUSY)
      (cond (is_absent f id d) (Fails ENOENT)
      (cond (loses_errors s id d) Closes (Does (change_of id d))))))))
  pub causes : (s : Settings) (id : ℕ) (d : List ℕ)
      → is_invalid s id d
      ≡ (not (eqb (first_padding id d) 0)
      || names_vcpu id && leb s.vcpus (vcpu_of d)
      || not (every (λ at. leb (get_or d at 0) 1) (switches_at id))
      || among id (3 ∷ 5 ∷ 10 ∷ []) && not (takes_event id (event_of id d))
      || eqb id 2 && not (leb 1 (command_of d) && leb (command_of d) 15)
      || eqb id 11 && not (is_cr (register_of d))
      || eqb id 12 && not (is_msr (register_of d))
      || eqb id 13 && leb s.views (view_of d)
      || eqb id 13 && not (count_fits d && every (λ (e : Entry). takes_access s e.access) (entries_of (count_of d) (drop 8 d)))
      || among id (6 ∷ 7 ∷ []) && not (in_one_page (gpa_of d) (size_of d)))
  -- "a batch carries none": it is what it is without the report, all of it
  pub batched : (st : State) (input out signals guest : List ℕ)
      → batch_of st input out signals guest ≡ batch_by (λ s msg o g. told_taken (message_unreported s msg o g)) (is_closed st) st input out signals guest
  -- and so is what the runner passes on: its line, and whether it stops
  pub passed : (st : State) (msg out guest : List ℕ) → passed_of st msg out guest ≡ left_by msg (message_unreported st msg out guest)
