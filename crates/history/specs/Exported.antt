-- The exported calls are those that the demands speak of. The promises of `calls`, `host` and `host_batch` say that an exported call gives what
-- `fresh_given`, `ready_given` and the others of calls/specs/Given and batch_given/specs/Given say, of the session and the words that it is lent. Here: that
-- is what the call on the whole state gives, which is `step_of` in a list of calls, `batch_of` for a batch, and `fresh_of` or `read_of` where a session
-- begins. Said of any session whatever, well formed or not; of a ready mark and an entry, where a vCPU number past u16 is taken as 65,535, if the
-- settings have no more vCPUs than that.
use Rattle.std.specs.Prelude.{◌≡◌, ℕ, ◌≤◌, List}
use Rattle.kvmi.specs.declared.Settings.{Settings}
use Rattle.kvmi.specs.Model.{Model}
use Rattle.kvmi.specs.Call.{Call, message, ready, enter, write_image}
use Rattle.session.specs.declared.Session.{Session}
use Rattle.session.specs.State.{State}
use Rattle.session.specs.Calls.{Told, fresh_of}
use Rattle.image_reader.specs.Read.{read_of}
use Rattle.calls.specs.Given.{Given, given, fresh_given, ready_given, message_given, enter_given, size_given, write_given, read_given}
use Rattle.batch.specs.Batch.{batch_of}
use Rattle.batch_given.specs.Given.{given_batch, batch_given}
use Rattle.history.specs.History.{step_of, after_of, BeganOn}
use Rattle.history.specs.Demand1.{image_length}

-- ---- what is lent
-- to a ready mark the session alone: the words, which it is not lent, are as they were
pub record OnSession (st : State) (g : Given) (r : Told) : Type 0 where
  pub done : g.done ≡ (given r).done
  pub result : g.result ≡ (given r).result
  pub vcpus : r.state.vcpus ≡ st.vcpus
  pub pages : r.state.pages ≡ st.pages

-- to an entry the session, the vCPU words and the output, and the page words to be read: they are as they were
pub record OnVcpus (st : State) (g : Given) (r : Told) : Type 0 where
  pub done : g.done ≡ (given r).done
  pub vcpus : g.vcpus ≡ (given r).vcpus
  pub out : g.out ≡ (given r).out
  pub result : g.result ≡ (given r).result
  pub pages : r.state.pages ≡ st.pages

-- to a call that writes nothing but its output, session and words to be read: they are as they were
pub record OnOutput (st : State) (g : Given) (r : Told) : Type 0 where
  pub all : g ≡ given r
  pub state : r.state ≡ st

-- ---- call by call
pub record Exported : Type 0 where
  pub fresh : (s : Session) (vcpus pages : List ℕ) → fresh_given s vcpus pages ≡ given (fresh_of s.settings vcpus pages)
  pub read_image : (s : Session) (vcpus pages l : List ℕ) → read_given s vcpus pages l ≡ given (read_of s.settings l vcpus pages)
  pub ready : (st : State) (vcpu : ℕ) → st.session.settings.vcpus ≤ 65535 → OnSession st (ready_given st.session vcpu) (step_of st (ready vcpu))
  pub message : (st : State) (msg out guest : List ℕ)
      → message_given st.session st.vcpus st.pages msg out guest ≡ given (step_of st (message msg out guest))
  pub batch : (st : State) (input out signals guest : List ℕ)
      → batch_given st.session st.vcpus st.pages input out signals guest ≡ given_batch (batch_of st input out signals guest)
  pub enter : (st : State) (vcpu : ℕ) (block : List ℕ) (event : ℕ) (own out : List ℕ) → st.session.settings.vcpus ≤ 65535
      → OnVcpus st (enter_given st.session st.vcpus st.pages vcpu block event own out) (step_of st (enter vcpu block event own out))
  pub write_image : (st : State) (out : List ℕ) → OnOutput st (write_given st.session st.vcpus st.pages out) (step_of st (write_image out))
  -- the length that an output must have
  pub image_size : (st : State) → size_given st.session st.vcpus st.pages ≡ image_length st
  -- every session that began, whatever calls there were, has few vCPUs
  pub few : (s : Settings) (st : State) (m : Model) → BeganOn s st m → (cs : List Call) → (after_of st cs).session.settings.vcpus ≤ 16
