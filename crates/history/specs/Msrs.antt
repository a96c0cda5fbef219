-- "W4. Let reviewers see the MSR ranges": an MSR of no place has no switch, at every level, and "No answer or image changes". Which MSRs have a place, and
-- what it is, stands in msrs/specs/Places. All but `recorded` is said of any session and any words, well formed or not. (The list form's records have no MSRs.)
use Rattle.std.specs.Prelude.{◌≡◌, ℕ, ◌+◌, ◌*◌, ◌/◌, ◌%◌, ◌≤◌, List, [], ◌∷◌, Bool, false, cond, not, ◌&&◌, ◌||◌, length, get_or, set, drop, leb, ltb, eqb, None}
use Rattle.std.proofs.Math.Bool.{So}
use Rattle.msrs.specs.Place.{msr_place, is_msr}
use Rattle.msrs.specs.Places.{in_ranges}
use Rattle.kvmi.specs.declared.Settings.{Settings}
use Rattle.kvmi.specs.Limits.{least_out}
use Rattle.kvmi.specs.Bits.{every, is_on, put_bit}
use Rattle.kvmi.specs.Codes.{EINVAL}
use Rattle.kvmi.specs.Settings.{allows_command}
use Rattle.kvmi.specs.Ascending.{put, forget}
use Rattle.kvmi.specs.Tables.{Vcpu, Msr, Tables, resting, msr_key, msr_in, msr_on}
use Rattle.kvmi.specs.Model.{Model}
use Rattle.kvmi.specs.Message.{vcpu_of, register_of, switches_at, first_padding}
use Rattle.kvmi.specs.Event.{msr_named}
use Rattle.kvmi.specs.Verdict.{is_invalid}
use Rattle.kvmi.specs.Change.{set_msr}
use Rattle.kvmi.specs.Row.{Row}
use Rattle.kvmi.specs.Record.{MS, widths, ms_msr, Rec, whole}
use Rattle.kvmi.specs.Image.{ms_form, load_rest, bad_form}
use Rattle.kvmi.specs.Call.{Call, message, enter, after}
use Rattle.store.specs.Words.{switch_on, msr_bit_on, set_msr_bit}
use Rattle.store.specs.Meaning.{msrs_of}
use Rattle.session.specs.declared.Session.{Session}
use Rattle.session.specs.State.{State}
use Rattle.lookup.specs.Lookup.{look_msr}
use Rattle.refine.specs.Errors.{HasId, code_of, Spared}
use Rattle.history.specs.History.{step_of, BeganOn}
use Rattle.history.specs.Demand1.{Open}

-- a message 12 with room for its answer that passes tests 1 to 4 and names an MSR of no place
pub record NamesNone (s : Settings) (msg out : List ℕ) : Type 0 where
  pub header : HasId msg 12
  pub room : least_out ≤ length out
  pub allowed : So (allows_command s 12)
  pub long : length (drop 8 msg) ≡ 16
  pub none : msr_place (register_of (drop 8 msg)) ≡ None

-- where an MSR's switch stood among a vCPU's before there was the formula: by the remainder by 8,192
abbrev pub slot_before : ℕ → ℕ
slot_before msr = msr / 0xC0000000 * 8192 + msr % 8192

pub record Msrs : Type 0 where
  -- an MSR of no place: in tables its switch reads as off, and setting it changes nothing
  pub off : (t : Tables) (vcpu msr : ℕ) → msr_place msr ≡ None → msr_on t vcpu msr ≡ false
  pub kept : (m : Msr) (on : Bool) (ms : List Msr) → msr_place m.msr ≡ None → set_msr m on ms ≡ ms
  -- and in lent words, whatever stands in them; nor do any words state a switch of one, so that no image has its record
  pub word_off : (w : List ℕ) (vcpu msr : ℕ) → msr_place msr ≡ None → msr_bit_on w vcpu msr ≡ false
  pub word_kept : (w : List ℕ) (vcpu msr : ℕ) (on : Bool) → msr_place msr ≡ None → set_msr_bit w vcpu msr on ≡ w
  pub stated : (w : List ℕ) (vcpu n : ℕ) → So (every (λ (m : Msr). is_msr m.msr) (msrs_of w vcpu n))
  -- so a host is told that it is off
  pub looked : (s : Session) (w : List ℕ) (vcpu msr : ℕ) → msr_place msr ≡ None → look_msr s w vcpu msr ≡ 0
  -- a message 12 for it is -22, and session and every lent word are as they were, but for the next event's seq, which a CMD_ERROR event may have taken
  pub refused : (st : State) (msg out guest : List ℕ) → Open st → NamesNone st.session.settings msg out
      → (code_of st msg out guest ≡ EINVAL) × Spared st guest (step_of st (message msg out guest))
  -- an offered event that names it is passed over: the entry is as if nothing were offered
  pub passed_over : (st : State) (vcpu : ℕ) (block own out : List ℕ) → length own ≡ 24 → msr_place (msr_named own) ≡ None
      → step_of st (enter vcpu block 9 own out) ≡ step_of st (enter vcpu block 0 [] out)
  -- an MS record of it breaks the form, whatever stands before it and behind it
  pub malformed : (s : Settings) (n at lo : ℕ) (t : Tables) (f : Row (widths MS)) (rs : List Rec) → msr_place (ms_msr f) ≡ None
      → load_rest s n at lo t (whole MS f ∷ rs) ≡ bad_form at
  -- "No answer or image changes." Message 12's -22 and the form of an MS record, in document 01's ranges
  pub tested : (s : Settings) (d : List ℕ)
      → is_invalid s 12 d
      ≡ (not (eqb (first_padding 12 d) 0) || leb s.vcpus (vcpu_of d) || not (every (λ at. leb (get_or d at 0) 1) (switches_at 12)) || not (in_ranges (register_of d)))
  pub formed : (vs : List Vcpu) (m : Msr) → ms_form vs m ≡ (ltb m.vcpu (length vs) && in_ranges m.msr && (get_or vs m.vcpu resting).ready)
  -- after every list of calls a switch is on where the tables have a record of it; and where a message 12 is not -22, setting its switch is putting or
  -- forgetting that record. Neither asks for a place there
  pub recorded : (s : Settings) (st : State) (m : Model) → BeganOn s st m → (cs : List Call) (vcpu msr : ℕ)
      → msr_on (after s m cs).tables vcpu msr ≡ msr_in (after s m cs).tables.msrs vcpu msr
  pub acted : (s : Settings) (d : List ℕ) → is_invalid s 12 d ≡ false → (m : Msr) → m.msr ≡ register_of d → (on : Bool) (ms : List Msr)
      → set_msr m on ms ≡ cond on (put msr_key m ms) (forget msr_key (msr_key m) ms)
  -- in any lent words an MSR's switch is the bit that it was, read and set; and so is that of a place, by which the words state their switches
  pub reads : (w : List ℕ) (vcpu msr : ℕ)
      → msr_bit_on w vcpu msr ≡ (in_ranges msr && is_on (get_or w (vcpu * 272 + 16 + slot_before msr / 64) 0) (slot_before msr % 64))
  pub sets : (w : List ℕ) (vcpu msr : ℕ) (on : Bool)
      → set_msr_bit w vcpu msr on
      ≡ cond (in_ranges msr)
      (set w (vcpu * 272 + 16 + slot_before msr / 64) (put_bit (get_or w (vcpu * 272 + 16 + slot_before msr / 64) 0) (slot_before msr % 64) on)) w
  pub states : (w : List ℕ) (vcpu place : ℕ) → switch_on w vcpu place ≡ is_on (get_or w (vcpu * 272 + 16 + place / 64) 0) (place % 64)
