-- A session's vCPUs read as the records of a list, and the session's own form of the CR switch: message 11.
use Rattle.std.specs.Prelude.{◌≡◌, ℕ, zero, suc, List, [], ◌∷◌, Bool, cond, not, ◌||◌, eqb}
use Rattle.kvmi.specs.declared.Change.TheVariants.{SetCr}
use Rattle.kvmi.specs.declared.Verdict.{Verdict}
use Rattle.kvmi.specs.declared.Verdict.TheVariants.{Fails, Does}
use Rattle.kvmi.specs.Answer.{Paper}
use Rattle.kvmi.specs.Bits.{bit, is_on}
use Rattle.kvmi.specs.Codes.{EAGAIN, EINVAL}
use Rattle.kvmi.specs.Tables.{is_cr}
use Rattle.kvmi.specs.Reply.{message_bytes}
use Rattle.kvmi.specs.Case.{register_data}
use Rattle.store.specs.Words.{field, SINGLESTEP, CRS, EVENTS, PAUSES, AWAITED, AWAITED_SEQ}
use Rattle.session.specs.State.{State}
use Rattle.session.specs.Calls.{Told}
use Rattle.message.specs.Message.{judged_of, message_of}
use Rattle.vcpu_list.specs.declared.Vcpu.{Vcpu}
use Rattle.vcpu_list.specs.List.{Listed, cr_set}

-- ---- a session's vCPUs as records
unfoldable pub record_of : ℕ → List ℕ → ℕ → Vcpu
record_of ready w i =
    record {
      ready = bit (is_on ready i);
      singlestep = field w i SINGLESTEP;
      crs = field w i CRS;
      events = field w i EVENTS;
      pauses = field w i PAUSES;
      awaited = field w i AWAITED;
      awaited_seq = field w i AWAITED_SEQ;
    }

-- what f gives of n numbers, from one on
unfoldable pub each_of : {A : Type 0} → (ℕ → A) → ℕ → ℕ → List A
each_of f i zero = []
each_of f i (suc n) = f i ∷ each_of f (suc i) n

-- one for each vCPU below the settings' count
unfoldable pub records_of : State → List Vcpu
records_of st = each_of (record_of st.session.shared.ready st.vcpus) 0 st.session.settings.vcpus

-- a call's answer, and the records that it leaves
abbrev pub records_told : Told → Listed
records_told r = record { answer = r.answer; vcpus = records_of r.state }

-- ---- message 11
unfoldable pub cr_message : ℕ → ℕ → ℕ → Bool → List ℕ
cr_message seq vcpu cr on = message_bytes 11 seq (register_data vcpu cr (bit on))

-- what its tests say where the list's form gives an answer: 0 is the change; 4, and 14 for a CR that has no switch, are -22; 14 for a record that is
-- not ready is -11
unfoldable pub cr_verdict : ℕ → ℕ → Bool → Paper → Verdict
cr_verdict vcpu cr on p = cond (eqb p.number 0) (Does (SetCr on vcpu cr)) (Fails (cond (eqb p.number 4 || not (is_cr cr)) EINVAL EAGAIN))

-- the message is judged as the list's form answers, and the records after it are those that the list's form leaves
pub record CrAgrees (st : State) (seq vcpu cr : ℕ) (on : Bool) (out guest : List ℕ) : Type 0 where
  pub judged : message_of st (cr_message seq vcpu cr on) out guest
      ≡ judged_of st 11 seq (register_data vcpu cr (bit on)) out guest (cr_verdict vcpu cr on (cr_set (records_of st) vcpu cr on).answer)
  pub records : records_of (message_of st (cr_message seq vcpu cr on) out guest).state ≡ (cr_set (records_of st) vcpu cr on).vcpus
