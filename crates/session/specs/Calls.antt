-- How a session begins, closes and gets a ready mark, as code performs it: answer, session, and every lent word and byte, for any bits in the session.
use Rattle.std.specs.Prelude.{ℕ, List, [], true, cond, not, length, leb, eqb}
use Rattle.wire.specs.Bytes.{store}
use Rattle.kvmi.specs.declared.Settings.{Settings}
use Rattle.kvmi.specs.declared.Signal.{Signal}
use Rattle.kvmi.specs.declared.Signal.TheVariants.{Quiet}
use Rattle.kvmi.specs.Answer.{Paper, paper, handled, plain}
use Rattle.kvmi.specs.Settings.{in_range}
use Rattle.store.specs.Words.{put_bit64}
use Rattle.session.specs.declared.Done.{Done}
use Rattle.session.specs.State.{State, state, fresh_session, closed_session, cleared_state, with_ready_bits, is_closed}

-- what a call gives and leaves
pub record Told : Type 0 where
  pub answer : Paper
  pub state : State
  pub out : List ℕ
  pub guest : List ℕ

-- of a result, and the lent words and bytes at exit
abbrev pub told : Done → List ℕ → List ℕ → List ℕ → List ℕ → Told
told r vcpus pages out guest = record { answer = paper r.answer; state = state r.session vcpus pages; out = out; guest = guest }

abbrev pub told_same : ℕ → State → List ℕ → List ℕ → Told
told_same k st out guest = record { answer = plain k; state = st; out = out; guest = guest }

abbrev pub told_written : List ℕ → Signal → State → List ℕ → List ℕ → Told
told_written bytes g st out guest = record { answer = handled (length bytes) g; state = st; out = store out 0 bytes; guest = guest }

abbrev pub told_closing : State → List ℕ → List ℕ → Told
told_closing st out guest = record { answer = plain 1; state = cleared_state (closed_session st.session.settings) st.vcpus st.pages; out = out; guest = guest }

-- ---- begin fresh, on whatever words were lent; refused, no word changes and the session is a closed one
unfoldable pub fresh_of : Settings → List ℕ → List ℕ → Told
fresh_of s vcpus pages =
    cond (in_range s)
    (record { answer = handled 0 Quiet; state = cleared_state (fresh_session s) vcpus pages; out = []; guest = [] })
    (record { answer = plain 7; state = state (closed_session s) vcpus pages; out = []; guest = [] })

-- ---- a ready mark
unfoldable pub ready_of : State → ℕ → Told
ready_of st vcpu =
    cond (is_closed st) (told_same 2 st [] [])
    (cond (leb st.session.settings.vcpus vcpu) (told_same 4 st [] [])
    (told_written [] Quiet (state (with_ready_bits st.session (put_bit64 st.session.shared.ready vcpu true)) st.vcpus st.pages) [] []))
