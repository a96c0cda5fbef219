-- "W2. Execute-only pages on hosts that lack them": what the settings' flag decides. `never`, `walked` and `refused` are said of every session that began,
-- after every list of calls; the others of any settings.
use Rattle.std.specs.Prelude.{◌≡◌, ◌≢◌, ℕ, ◌+◌, ◌*◌, ◌≤◌, ◌<◌, List, ◌∷◌, true, false, length, get_or, drop}
use Rattle.std.proofs.Math.Bool.{So}
use Rattle.kvmi.specs.declared.Settings.{Settings}
use Rattle.kvmi.specs.Limits.{least_out}
use Rattle.kvmi.specs.Codes.{EINVAL}
use Rattle.kvmi.specs.Settings.{allows_command, has_execute_only}
use Rattle.kvmi.specs.Tables.{Tables}
use Rattle.kvmi.specs.Model.{Model}
use Rattle.kvmi.specs.Message.{count_of}
use Rattle.kvmi.specs.Row.{Row}
use Rattle.kvmi.specs.Record.{PA, widths, pa_access, Rec, whole}
use Rattle.kvmi.specs.Verdict.{is_access, takes_access}
use Rattle.kvmi.specs.Image.{fits_in, load_rest, forbidden as forbiddenAt}
use Rattle.kvmi.specs.Call.{Call, message}
use Rattle.session.specs.State.{State}
use Rattle.lookup.specs.Lookup.{look_access, look_page}
use Rattle.refine.specs.Errors.{HasId, code_of, Spared}
use Rattle.history.specs.History.{step_of, after_of, BeganOn}
use Rattle.history.specs.Demand1.{Open}

-- a message 13 with room for its answer that passes tests 1 to 4 and asks for access 4: byte 8 of one of the entries that it counts, of 16 bytes each
-- behind the first 8
pub record AsksFour (s : Settings) (msg out : List ℕ) : Type 0 where
  pub header : HasId msg 13
  pub room : least_out ≤ length out
  pub allowed : So (allows_command s 13)
  pub long : 8 ≤ length (drop 8 msg)
  pub entry : (i : ℕ) × (i < count_of (drop 8 msg)) × (get_or (drop 8 msg) (8 + 16 * i + 8) 0 ≡ 4)

pub record ExecuteOnly : Type 0 where
  -- without the flag no page ever stands at access 4, as a host is told by lookup
  pub never : (s : Settings) (st : State) (m : Model) → BeganOn s st m → has_execute_only s ≡ false → (cs : List Call) (view page : ℕ)
      → look_access (after_of st cs).session (after_of st cs).pages view page ≢ 4
  -- nor does one meet such a page who walks those below rwx
  pub walked : (s : Settings) (st : State) (m : Model) → BeganOn s st m → has_execute_only s ≡ false → (cs : List Call) (i : ℕ)
      → (look_page (after_of st cs).session (after_of st cs).pages i).access ≢ 4
  -- "access 4 without the flag is -22 in message 13", whatever its other entries ask for; and none of them acts: session and every lent word are as they
  -- were, but for the next event's seq, which a CMD_ERROR event may have taken (where bytes are written the code stands in them: Demand2, `codes`)
  pub refused : (s : Settings) (st : State) (m : Model) → BeganOn s st m → has_execute_only s ≡ false → (cs : List Call) (msg out guest : List ℕ)
      → Open (after_of st cs) → AsksFour s msg out
      → (code_of (after_of st cs) msg out guest ≡ EINVAL) × Spared (after_of st cs) guest (step_of (after_of st cs) (message msg out guest))
  -- "and answer 9 in a PA record": at its start, where its place and its form are right, whatever stands before it and behind it
  pub forbidden : (s : Settings) (n off lo : ℕ) (t : Tables) (f : Row (widths PA)) (rs : List Rec) → has_execute_only s ≡ false → pa_access f ≡ 4
      → So (fits_in PA n lo t f) → load_rest s n off lo t (whole PA f ∷ rs) ≡ forbiddenAt off
  -- no other access goes by the flag, and with the flag each is as document 01 has it
  pub others : (s : Settings) (a : ℕ) → a ≢ 4 → takes_access s a ≡ is_access a
  pub taken : (s : Settings) (a : ℕ) → has_execute_only s ≡ true → takes_access s a ≡ is_access a
