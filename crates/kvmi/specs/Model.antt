-- The model (document 01's book): the tables, and what is beside them.
use Rattle.std.specs.Prelude.{ℕ, ◌+◌, List, Bool, true, false, cond, length, get_or, set, replicate, eqb}
use Rattle.std.proofs.Math.Option.{Option, none, some}
use Rattle.kvmi.specs.declared.Settings.{Settings}
use Rattle.kvmi.specs.declared.ReplyMode.{ReplyMode}
use Rattle.kvmi.specs.declared.ReplyMode.TheVariants.{On}
use Rattle.kvmi.specs.declared.Awaited.{Awaited}
use Rattle.kvmi.specs.Tables.{Vcpu, Tables, empty_tables, vcpu_at, set_vcpu}
use Rattle.kvmi.specs.declared.Fault.{Fault}

-- an event that was sent and whose reply has not come
abbrev pub awaiting : ℕ → ℕ → Fault → Awaited
awaiting event seq fault = record { event = event; seq = seq; fault = fault }

-- "Beside the standing: the reply mode, the next event seq, each vCPU's awaited event, and whether closed."
pub record Model : Type 0 where
  pub tables : Tables
  pub mode : ReplyMode
  -- the next event's seq
  pub seq : ℕ
  -- for each vCPU
  pub awaited : List (Option Awaited)
  pub closed : Bool

-- with given tables: "replies on, next event seq 0", no reply awaited
abbrev pub begun : Tables → Model
begun t = record { tables = t; mode = On; seq = 0; awaited = replicate (length t.vcpus) none; closed = false }

-- "A fresh session has every switch off, no vCPU ready, no pauses, every page at rwx, replies on, next event seq 0."
abbrev pub fresh : Settings → Model
fresh s = begun (empty_tables s.vcpus)

-- "Closing makes all this fresh, drops awaited events and stays closed."
abbrev pub closed_model : Settings → Model
closed_model s = record { tables = empty_tables s.vcpus; mode = On; seq = 0; awaited = replicate s.vcpus none; closed = true }

-- ---- setters
abbrev pub with_tables : Model → Tables → Model
with_tables m x = record { tables = x; mode = m.mode; seq = m.seq; awaited = m.awaited; closed = m.closed }

abbrev pub with_mode : Model → ReplyMode → Model
with_mode m x = record { tables = m.tables; mode = x; seq = m.seq; awaited = m.awaited; closed = m.closed }

abbrev pub with_seq : Model → ℕ → Model
with_seq m x = record { tables = m.tables; mode = m.mode; seq = x; awaited = m.awaited; closed = m.closed }

abbrev pub with_awaited : Model → List (Option Awaited) → Model
with_awaited m x = record { tables = m.tables; mode = m.mode; seq = m.seq; awaited = x; closed = m.closed }

-- the awaited event of a vCPU; past the count, none
abbrev pub awaited_by : Model → ℕ → Option Awaited
awaited_by m vcpu = get_or m.awaited vcpu none

abbrev pub set_awaited : Model → ℕ → Option Awaited → Model
set_awaited m vcpu a = with_awaited m (set m.awaited vcpu a)

-- the model with one vCPU's record changed
abbrev pub on_vcpu : Model → ℕ → (Vcpu → Vcpu) → Model
on_vcpu m vcpu f = with_tables m (set_vcpu m.tables vcpu (f (vcpu_at m.tables vcpu)))

-- "Each event takes the next seq, which goes from 4,294,967,295 to 0."
unfoldable pub next_seq : ℕ → ℕ
next_seq n = cond (eqb n 4294967295) 0 (n + 1)

abbrev pub is_some {ℓ} : {A : Type ℓ} → Option A → Bool
is_some none = false
is_some (some x) = true
