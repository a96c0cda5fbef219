-- What can move of a session by a batch: all but the settings. Assumes nothing.
use mathlib.Core.Path.{◌≡◌, refl, ap, subst}
use Prim.Native.Nat.{ℕ, zero, suc}
use mathlib.Core.List.{List}
use lib.ListN.{length}
use Rattle.kvmi.specs.declared.Settings.{Settings}
use Rattle.kvmi.specs.Batch.{Batch, goes_on, next_of, out_left, turn_of, turns_of, batch_by}
use Rattle.session.specs.declared.Session.{Session}
use Rattle.session.specs.State.{State, with_settings}
use Rattle.message.specs.Message.{message_of}
use Rattle.message.proofs.Kept.{message-moves}
use Rattle.laws.proofs.Verdicts.{pick}
use Rattle.batch.specs.Batch.{message_takes, batch_of}

abbrev Keeps : Settings → Batch State → Type 0
Keeps s b = b.state.session ≡ with_settings b.state.session s

turn-keeps : (s : Settings) (input : List ℕ) (b : Batch State) → Keeps s b → Keeps s (turn_of message_takes input b)
unfolding turn_of
turn-keeps s input b k =
    subst (λ (x : Settings). (message_of b.state (next_of input b) (out_left b) b.guest).state.session ≡ with_settings (message_of b.state (next_of input b) (out_left b) b.guest).state.session x)
    (ap (λ (x : Session). x.settings) k)
    (message-moves b.state (next_of input b) (out_left b) b.guest).session

turns-keep : (s : Settings) (n : ℕ) (input : List ℕ) (b : Batch State) → Keeps s b → Keeps s (turns_of message_takes n input b)
unfolding turns_of
turns-keep s zero input b k = k
turns-keep s (suc n) input b k =
    pick (Keeps s) (goes_on input b) _ _ (λ _. turns-keep s n input (turn_of message_takes input b) (turn-keeps s input b k)) (λ _. k)

pub batch-moves : (st : State) (input out signals guest : List ℕ) → Keeps st.session.settings (batch_of st input out signals guest)
unfolding batch_of batch_by
batch-moves st input out signals guest = turns-keep st.session.settings (length input) input _ refl
