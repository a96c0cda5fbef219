-- A message as code performs it: answer, session, and every lent word and byte after it, for any bits in the session.
use Rattle.std.specs.Prelude.{ℕ, List, [], cond, ℤ, length, drop, ltb, Some, None}
use Rattle.wire.specs.Header.{HeaderRead, header_of}
use Rattle.kvmi.specs.declared.Facts.{Facts}
use Rattle.kvmi.specs.declared.ReplyMode.{ReplyMode}
use Rattle.kvmi.specs.declared.Signal.{Signal}
use Rattle.kvmi.specs.declared.Signal.TheVariants.{Quiet}
use Rattle.kvmi.specs.declared.Verdict.{Verdict}
use Rattle.kvmi.specs.declared.Verdict.TheVariants.{Closes, Fails, Does}
use Rattle.kvmi.specs.Bits.{is_on}
use Rattle.kvmi.specs.Codes.{OK}
use Rattle.kvmi.specs.Limits.{least_out}
use Rattle.kvmi.specs.Mode.{mode_of_number}
use Rattle.kvmi.specs.Message.{layout_of, reply_kind, vcpu_of}
use Rattle.kvmi.specs.Answer.{with_padding}
use Rattle.kvmi.specs.Verdict.{verdict, reported_padding}
use Rattle.kvmi.specs.Change.{signal_of, mode_for}
use Rattle.kvmi.specs.Reply.{reply_data, answer_bytes, answer_of, answer_seq}
use Rattle.store.specs.Words.{pending}
use Rattle.verdict.specs.declared.Asked.{Asked}
use Rattle.session.specs.declared.Session.{Session}
use Rattle.session.specs.State.{State, with_seq_of, is_closed}
use Rattle.session.specs.Calls.{Told, told_same, told_written, told_closing}
use Rattle.change.specs.Change.{change}

-- what the tests of a message ask
abbrev pub facts_in : State → ℕ → ℕ → Facts
facts_in st guest vcpu =
    record {
      mode = mode_of_number st.session.tool.mode;
      guest = guest;
      ready = is_on st.session.shared.ready vcpu;
      pending = pending st.vcpus vcpu;
    }

-- the code with which a message is answered, where it is: that of its verdict, or of its change
abbrev pub code_by : State → List ℕ → List ℕ → Verdict → ℤ
code_by st guest d Closes = OK
code_by st guest d (Fails code) = code
code_by st guest d (Does c) = (change st guest d c).code

-- ---- a message
unfoldable pub answering_of : ReplyMode → ℕ → ℕ → ℤ → List ℕ → Signal → List ℕ → List ℕ → State → Told
answering_of mode id seq code d g out guest st =
    told_written (answer_of (reply_kind (layout_of id)) mode st.session.tool.seq id seq code (reply_data st.session.settings guest id d)) g
    (with_seq_of st (answer_seq mode st.session.tool.seq code))
    out
    guest

unfoldable pub judged_of : State → ℕ → ℕ → List ℕ → List ℕ → List ℕ → Verdict → Told
judged_of st id seq d out guest Closes = told_closing st out guest
judged_of st id seq d out guest (Fails code) = answering_of (mode_of_number st.session.tool.mode) id seq code d Quiet out guest st
judged_of st id seq d out guest (Does c) =
    answering_of (mode_for (mode_of_number st.session.tool.mode) c) id seq (change st guest d c).code d (signal_of c) out (change st guest d c).guest
    (change st guest d c).state

-- W6: which padding byte is reported, and what is told with it
abbrev pub reported_of : State → ℕ → List ℕ → ℕ
reported_of st id d = reported_padding st.session.settings (mode_of_number st.session.tool.mode) id d

abbrev pub reporting_of : ℕ → Told → Told
reporting_of padding r = record { answer = with_padding padding r.answer; state = r.state; out = r.out; guest = r.guest }

unfoldable pub headed_of : State → List ℕ → List ℕ → List ℕ → HeaderRead → Told
headed_of st d out guest None = told_closing st out guest
headed_of st d out guest (Some h) =
    reporting_of (reported_of st h.id d) (judged_of st h.id h.seq d out guest (verdict st.session.settings (facts_in st (length guest) (vcpu_of d)) h.id h.seq d))

unfoldable pub message_of : State → List ℕ → List ℕ → List ℕ → Told
message_of st msg out guest =
    cond (is_closed st) (told_same 2 st out guest)
    (cond (ltb (length out) least_out) (told_same 3 st out guest)
    (headed_of st (drop 8 msg) out guest (header_of msg)))

-- ---- parts of the call
-- what the tests ask of a session
abbrev pub asked_of : Session → ReplyMode → ℕ → Asked
asked_of s mode guest = record { settings = s.settings; mode = mode; guest = guest; ready = s.shared.ready }

-- a command that fails is answered by its code, and by its padding byte that is reported
abbrev pub failed_of : State → ℕ → ℕ → ℤ → ℕ → List ℕ → List ℕ → Told
failed_of st id seq code padding out guest =
    reporting_of padding
    (told_written (answer_bytes (mode_of_number st.session.tool.mode) st.session.tool.seq id seq code []) Quiet
    (with_seq_of st (answer_seq (mode_of_number st.session.tool.mode) st.session.tool.seq code))
    out
    guest)

unfoldable pub handled_of : State → ℕ → ℕ → List ℕ → List ℕ → List ℕ → Told
handled_of st id seq d out guest =
    reporting_of (reported_of st id d) (judged_of st id seq d out guest (verdict st.session.settings (facts_in st (length guest) (vcpu_of d)) id seq d))
