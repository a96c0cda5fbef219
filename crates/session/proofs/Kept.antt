-- What can move of a session by a ready mark: what the tools share. Assumes nothing.
use mathlib.Core.Path.{◌≡◌, refl, ap}
use Prim.Native.Nat.{ℕ}
use mathlib.Core.Bool.{Bool, true, false, cond, not}
use lib.Dec.{leb, eqb}
use Rattle.kvmi.specs.declared.Settings.{Settings}
use Rattle.session.specs.declared.Session.{Session}
use Rattle.session.specs.State.{State, with_settings, with_shared, is_closed}
use Rattle.session.specs.Calls.{Told, ready_of}

-- of the session nothing moves but what `set` takes of the one after the call
pub record Moves (set : Session → Session) (t : Told) : Type 0 where
  pub session : t.state.session ≡ set t.state.session

pub moves : {set : Session → Session} {t : Told} → t.state.session ≡ set t.state.session → Moves set t
moves e = record { session = e }

pub either : {set : Session → Session} (b : Bool) {x y : Told} → Moves set x → Moves set y → Moves set (cond b x y)
either true h g = h
either false h g = g

-- all but the settings
pub kept : {s : Session} {x : Settings} → s.settings ≡ x → s ≡ with_settings s x
kept {s} e = ap (λ (y : Settings). with_settings s y) e

pub ready-moves : (st : State) (vcpu : ℕ) → Moves (λ s. with_shared st.session s.shared) (ready_of st vcpu)
unfolding ready_of
ready-moves st vcpu = either (is_closed st) (moves refl) (either (leb st.session.settings.vcpus vcpu) (moves refl) (moves refl))
