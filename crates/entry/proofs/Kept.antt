-- What can move of a session by an entry: the next event's seq. Assumes nothing.
use mathlib.Core.Path.{refl}
use Prim.Native.Nat.{ℕ}
use mathlib.Core.List.{List}
use mathlib.Core.Bool.{not, ◌&&◌}
use lib.ListN.{length}
use lib.Dec.{leb, ltb, eqb}
use Rattle.kvmi.specs.Limits.{event_out, state_bytes}
use Rattle.kvmi.specs.Event.{offer_fits}
use Rattle.store.specs.Words.{field, AWAITED}
use Rattle.session.specs.State.{State, with_tool, with_tool_seq, is_closed}
use Rattle.session.proofs.Kept.{Moves, moves, either}
use Rattle.entry.specs.Entry.{entered_of, enter_of}

pub enter-moves : (st : State) (vcpu : ℕ) (block : List ℕ) (event : ℕ) (own out : List ℕ)
    → Moves (λ s. with_tool st.session (with_tool_seq st.session.tool s.tool.seq)) (enter_of st vcpu block event own out)
unfolding enter_of entered_of
enter-moves st vcpu block event own out =
    either (is_closed st) (moves refl)
    (either (leb st.session.settings.vcpus vcpu) (moves refl)
    (either (not (eqb (length block) state_bytes && offer_fits event own)) (moves refl)
    (either (ltb (length out) event_out) (moves refl)
    (either (not (eqb (field st.vcpus vcpu AWAITED) 0)) (moves refl) (moves refl)))))
