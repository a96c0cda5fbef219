-- Demand 2: "Each message is answered and acted on exactly as the KVMI document and our rules say: same reply bytes, same error code, same tables
-- after. A command naming one vCPU changes no other vCPU's switches, unless it closes the session."
-- `acted` is said of every session that began, after every list of calls; the others of any session whatever, well formed or not.
use Rattle.std.specs.Prelude.{◌≡◌, ◌≢◌, ℕ, List, ◌||◌, Some, ℤ, drop, eqb}
use Rattle.std.proofs.Math.Bool.{So}
use Rattle.kvmi.specs.declared.Settings.{Settings}
use Rattle.kvmi.specs.Codes.{is_error}
use Rattle.kvmi.specs.Tables.{vcpu_at, event_on, cr_on, msr_on, SameTables}
use Rattle.kvmi.specs.Model.{Model, awaited_by}
use Rattle.kvmi.specs.Message.{names_vcpu, vcpu_of}
use Rattle.kvmi.specs.Call.{Call, Step, step, after}
use Rattle.session.specs.State.{State}
use Rattle.session.specs.Calls.{Told}
use Rattle.session.specs.Meaning.{tables_of, model_of}
use Rattle.message.specs.Message.{message_of}
use Rattle.stream.specs.Line.{error_of}
use Rattle.refine.specs.Errors.{HasId, code_of, ErrorSpares}
use Rattle.history.specs.History.{step_of, after_of, BeganOn}

-- ---- what a call gives on a session is what it gives on the model, by document 01's rules
pub record SameStep (r : Told) (q : Step) : Type 0 where
  pub answer : r.answer ≡ q.answer
  -- the bytes of a reply or an event, with their error code, and the output behind them
  pub out : r.out ≡ q.out
  pub guest : r.guest ≡ q.guest
  -- every ready mark, switch, queue and access, read by lookup
  pub tables : SameTables (tables_of r.state) q.model.tables
  -- and what is beside the tables: reply mode, next event seq, awaited events, closed
  pub model : model_of r.state ≡ q.model

-- ---- errors
-- the error that stands in the bytes written, in a reply or in a CMD_ERROR event
abbrev pub WritesError : Told → ℤ → Type 0
WritesError r code = error_of r.out r.answer.count ≡ Some code

-- ---- one vCPU
-- a message marked (v), EVENT_REPLY among them, and the vCPU that it names
abbrev pub Names : List ℕ → ℕ → Type 0
Names msg vcpu = (id : ℕ) × HasId msg id × So (names_vcpu id || eqb id 16) × (vcpu_of (drop 8 msg) ≡ vcpu)

-- a vCPU's ready mark, switches, queue and awaited event are the same in two models, read by lookup
pub record SameVcpu (vcpu : ℕ) (m k : Model) : Type 0 where
  pub ready : (vcpu_at m.tables vcpu).ready ≡ (vcpu_at k.tables vcpu).ready
  pub events : (event : ℕ) → event_on m.tables vcpu event ≡ event_on k.tables vcpu event
  pub crs : (cr : ℕ) → cr_on m.tables vcpu cr ≡ cr_on k.tables vcpu cr
  pub msrs : (msr : ℕ) → msr_on m.tables vcpu msr ≡ msr_on k.tables vcpu msr
  pub singlestep : (vcpu_at m.tables vcpu).singlestep ≡ (vcpu_at k.tables vcpu).singlestep
  pub pauses : (vcpu_at m.tables vcpu).pauses ≡ (vcpu_at k.tables vcpu).pauses
  pub awaited : awaited_by m vcpu ≡ awaited_by k vcpu

-- ---- demand 2
pub record Demand2 : Type 0 where
  -- "Each message is answered and acted on exactly as the KVMI document and our rules say: same reply bytes, same error code, same tables after.":
  -- after every list of calls each message, and each other call too
  pub acted : (s : Settings) (st : State) (m : Model) → BeganOn s st m → (cs : List Call) (c : Call)
      → SameStep (step_of (after_of st cs) c) (step s (after s m cs) c)
  -- "An error changes no standing or guest memory, message 13 with -12 excepted.", W7: "In revision 2, message 13 loses its exception": an error that stands
  -- in the bytes written
  pub errors : (st : State) (msg out guest : List ℕ) (code : ℤ) → So (is_error code) → WritesError (message_of st msg out guest) code
      → ErrorSpares st msg guest code (message_of st msg out guest)
  -- and one that the tests or the entries give while replies are off, so that nothing is written
  pub silent_errors : (st : State) (msg out guest : List ℕ) → So (is_error (code_of st msg out guest))
      → ErrorSpares st msg guest (code_of st msg out guest) (message_of st msg out guest)
  -- where bytes are written the two are one
  pub codes : (st : State) (msg out guest : List ℕ) → (message_of st msg out guest).answer.count ≢ 0
      → WritesError (message_of st msg out guest) (code_of st msg out guest)
  -- "A command naming one vCPU changes no other vCPU's switches, unless it closes the session."
  pub apart : (st : State) (msg out guest : List ℕ) (named other : ℕ) → Names msg named → other ≢ named
      → (message_of st msg out guest).answer.number ≢ 1 → SameVcpu other (model_of (message_of st msg out guest).state) (model_of st)
