-- What can move of a session by a message: all but the settings. Assumes nothing.
use mathlib.Core.Path.{refl}
use Prim.Native.Nat.{ℕ}
use mathlib.Core.List.{List}
use lib.ListN.{length, drop}
use lib.Dec.{ltb}
use Rattle.std.specs.Prelude.{Some, None}
use Rattle.wire.specs.Header.{HeaderRead, header_of}
use Rattle.kvmi.specs.declared.Verdict.{Verdict}
use Rattle.kvmi.specs.declared.Verdict.TheVariants.{Closes, Fails, Does}
use Rattle.kvmi.specs.Limits.{least_out}
use Rattle.kvmi.specs.Message.{vcpu_of}
use Rattle.kvmi.specs.Verdict.{verdict}
use Rattle.session.specs.State.{State, with_settings, is_closed}
use Rattle.session.proofs.Kept.{Moves, moves, either, kept}
use Rattle.change.proofs.Laws.{change-keeps}
use Rattle.message.specs.Message.{facts_in, answering_of, judged_of, headed_of, message_of}

judged-moves : (st : State) (id seq : ℕ) (d out guest : List ℕ) (v : Verdict) → Moves (λ s. with_settings s st.session.settings) (judged_of st id seq d out guest v)
unfolding judged_of answering_of
judged-moves st id seq d out guest Closes = moves refl
judged-moves st id seq d out guest (Fails code) = moves refl
judged-moves st id seq d out guest (Does c) = moves (kept (change-keeps st guest d c))

headed-moves : (st : State) (d out guest : List ℕ) (h : HeaderRead) → Moves (λ s. with_settings s st.session.settings) (headed_of st d out guest h)
unfolding headed_of
headed-moves st d out guest None = moves refl
headed-moves st d out guest (Some h) =
    moves (judged-moves st h.id h.seq d out guest (verdict st.session.settings (facts_in st (length guest) (vcpu_of d)) h.id h.seq d)).session

pub message-moves : (st : State) (msg out guest : List ℕ) → Moves (λ s. with_settings s st.session.settings) (message_of st msg out guest)
unfolding message_of
message-moves st msg out guest =
    either (is_closed st) (moves refl)
    (either (ltb (length out) least_out) (moves refl)
    (headed-moves st (drop 8 msg) out guest (header_of msg)))
