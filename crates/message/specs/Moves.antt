-- What code says of a message: its answer, and what it moved of the session.
use Rattle.std.specs.Prelude.{ℕ, List, Bool, true, false, cond, length, drop, ltb, Some, None}
use Rattle.wire.specs.Header.{HeaderRead, header_of}
use Rattle.kvmi.specs.declared.Verdict.{Verdict}
use Rattle.kvmi.specs.declared.Verdict.TheVariants.{Closes, Fails, Does}
use Rattle.kvmi.specs.Limits.{least_out}
use Rattle.kvmi.specs.Message.{vcpu_of}
use Rattle.kvmi.specs.Mode.{mode_of_number}
use Rattle.kvmi.specs.Model.{next_seq}
use Rattle.kvmi.specs.Change.{mode_for}
use Rattle.kvmi.specs.Verdict.{verdict}
use Rattle.reply.specs.Off.{tells, kind_tells}
use Rattle.session.specs.declared.Done.{Done}
use Rattle.session.specs.declared.Session.{Session}
use Rattle.session.specs.declared.Tool.{Tool}
use Rattle.session.specs.State.{State, closed_session, with_tool, with_tool_seq, is_closed}
use Rattle.change.specs.Change.{change}
use Rattle.change.specs.declared.Moved.{Moved}
use Rattle.change.specs.declared.Moved.TheVariants.{Nothing, Events, Pages, Mode}
use Rattle.change.specs.Effect.{kind_of, moved_by, tool_after}
use Rattle.message.specs.declared.After.{After}
use Rattle.message.specs.declared.After.TheVariants.{Same, Closed, Changed}
use Rattle.message.specs.declared.Received.{Received}
use Rattle.message.specs.Message.{facts_in}

-- ---- what a message moves
-- what a change moves of the tool (`moved_by`), with the seq that an event took; nothing, where neither does
abbrev pub and_seq : Moved → Bool → After
and_seq moved true = Changed true moved
and_seq Nothing false = Same
and_seq (Events events) false = Changed false (Events events)
and_seq (Pages pages) false = Changed false (Pages pages)
and_seq (Mode number) false = Changed false (Mode number)

unfoldable pub judged_move : State → List ℕ → List ℕ → Verdict → After
judged_move st d guest Closes = Closed
judged_move st d guest (Fails code) = and_seq Nothing (tells (mode_of_number st.session.tool.mode) code)
judged_move st d guest (Does c) =
    and_seq (moved_by c (change st guest d c).state.session.tool)
    (kind_tells (kind_of c) (mode_for (mode_of_number st.session.tool.mode) c) (change st guest d c).code)

unfoldable pub handled_move : State → ℕ → ℕ → List ℕ → List ℕ → After
handled_move st id seq d guest = judged_move st d guest (verdict st.session.settings (facts_in st (length guest) (vcpu_of d)) id seq d)

unfoldable pub headed_move : State → List ℕ → List ℕ → HeaderRead → After
headed_move st d guest None = Closed
headed_move st d guest (Some h) = handled_move st h.id h.seq d guest

unfoldable pub message_move : State → List ℕ → List ℕ → List ℕ → After
message_move st msg out guest =
    cond (is_closed st) Same
    (cond (ltb (length out) least_out) Same
    (headed_move st (drop 8 msg) guest (header_of msg)))

-- ---- the session after it
abbrev pub seq_taken : Bool → Tool → Tool
seq_taken took t = with_tool_seq t (cond took (next_seq t.seq) t.seq)

unfoldable pub session_after : Session → After → Session
session_after s Same = s
session_after s Closed = closed_session s.settings
session_after s (Changed took moved) = with_tool s (seq_taken took (tool_after s.tool moved))

-- ---- of what code gives
abbrev pub done_by : Session → Received → Done
done_by s r = record { session = session_after s r.after; answer = r.answer }
