-- Beyond W12, "Tools use separate workers": whole lists of the commands that Order speaks of, from a worker for each vCPU, in whatever order they come.
-- Each command gets the answer that it gets in its own worker's list alone, and the session at the end does not depend on the order in which the
-- workers' commands came.
use Rattle.std.specs.Prelude.{◌≡◌, ◌≢◌, ℕ, List, [], ◌∷◌, ◌++◌, Bool, true, false, cond, eqb}
use Rattle.kvmi.specs.declared.Settings.{Settings}
use Rattle.kvmi.specs.declared.ReplyMode.{ReplyMode}
use Rattle.kvmi.specs.Model.{Model}
use Rattle.kvmi.specs.Mode.{mode_of_number}
use Rattle.kvmi.specs.Verdict.{replies_on}
use Rattle.kvmi.specs.Call.{Call, Began, after}
use Rattle.session.specs.State.{State, is_closed}
use Rattle.history.specs.Order.{Lent, IsVcpuCommand, vcpu_in, taken, on_words, taken_by, on_model, by_host}

-- ---- lists of commands
-- each on the session that the one before it left: what they get, and the session at the end
unfoldable pub gets : {S G : Type 0} → (S → Lent → G × S) → S → List Lent → List G
gets take s [] = []
gets take s (c ∷ cs) = (take s c).0 ∷ gets take (take s c).1 cs

unfoldable pub leaves : {S G : Type 0} → (S → Lent → G × S) → S → List Lent → S
leaves take s [] = s
leaves take s (c ∷ cs) = leaves take (take s c).1 cs

-- the commands of one vCPU, in their order
unfoldable pub of_vcpu : ℕ → List Lent → List Lent
of_vcpu vcpu [] = []
of_vcpu vcpu (c ∷ cs) = cond (eqb (vcpu_in c) vcpu) (c ∷ of_vcpu vcpu cs) (of_vcpu vcpu cs)

-- and what these get in the whole list
unfoldable pub gets_of : {S G : Type 0} → (S → Lent → G × S) → ℕ → S → List Lent → List G
gets_of take vcpu s [] = []
gets_of take vcpu s (c ∷ cs) = cond (eqb (vcpu_in c) vcpu) ((take s c).0 ∷ gets_of take vcpu (take s c).1 cs) (gets_of take vcpu (take s c).1 cs)

-- each has a property
pub data Each (P : Lent → Type 0) : List Lent → Type 0 where
  none : Each P []
  next : (c : Lent) (cs : List Lent) → P c → Each P cs → Each P (c ∷ cs)

-- Order's `Pair`, of a list: no command closes the session as it stands, before any of them
pub record Commands (closed : Bool) (mode : ReplyMode) (number : Lent → ℕ) (cs : List Lent) : Type 0 where
  pub opened : closed ≡ false
  pub replies : replies_on mode ≡ true
  pub each : Each (λ c. IsVcpuCommand c × (number c ≢ 1)) cs

abbrev pub CommandsOn : State → List Lent → Type 0
CommandsOn st = Commands (is_closed st) (mode_of_number st.session.tool.mode) (λ c. (taken st c).answer.number)

abbrev pub CommandsBy : Settings → Model → List Lent → Type 0
CommandsBy s m = Commands m.closed m.mode (λ c. (taken_by s m c).answer.number)

-- ---- a worker for each vCPU
pub record Apart {S G : Type 0} (take : S → Lent → G × S) (s : S) (cs : List Lent) : Type 0 where
  -- the commands of a vCPU get what they get in that vCPU's list alone
  pub answers : (vcpu : ℕ) → gets_of take vcpu s cs ≡ gets take s (of_vcpu vcpu cs)
  -- a list with the same commands for each vCPU, in whatever order they come, leaves the same session
  pub session : (ds : List Lent) → ((vcpu : ℕ) → of_vcpu vcpu ds ≡ of_vcpu vcpu cs) → leaves take s ds ≡ leaves take s cs

-- ---- two workers
-- an interleaving of two lists: each in its own order
pub data Interleaves : List Lent → List Lent → List Lent → Type 0 where
  none : Interleaves [] [] []
  first : (c : Lent) (xs ys cs : List Lent) → Interleaves xs ys cs → Interleaves (c ∷ xs) ys (c ∷ cs)
  second : (c : Lent) (xs ys cs : List Lent) → Interleaves xs ys cs → Interleaves xs (c ∷ ys) (c ∷ cs)

abbrev pub Names : ℕ → List Lent → Type 0
Names vcpu = Each (λ c. vcpu_in c ≡ vcpu)

pub record TwoWorkers {S G : Type 0} (take : S → Lent → G × S) (s : S) (v u : ℕ) (xs ys cs : List Lent) : Type 0 where
  -- each command gets what it gets in its own list alone
  pub first : gets_of take v s cs ≡ gets take s xs
  pub second : gets_of take u s cs ≡ gets take s ys
  -- every interleaving leaves the session that the one list behind the other leaves
  pub session : leaves take s cs ≡ leaves take s (xs ++ ys)

pub record Workers : Type 0 where
  -- on the lent words, whatever bits they hold
  pub words : (st : State) (cs : List Lent) → CommandsOn st cs → Apart on_words st cs
  -- as a host gets it
  pub hosts : (st : State) (cs : List Lent) → CommandsOn st cs → Apart by_host st cs
  -- on the model of every session that began, after every list of calls
  pub models : (s : Settings) (m : Model) → Began s m → (before : List Call) (cs : List Lent) → CommandsBy s (after s m before) cs
      → Apart (on_model s) (after s m before) cs
  -- "does not close" is a fact of a command and the settings: on any two sessions of the same settings, open and with replies on, it is the same
  pub closing : (st st' : State) (c : Lent) → st.session.settings ≡ st'.session.settings → CommandsOn st [] → CommandsOn st' [] → IsVcpuCommand c
      → (taken st c).answer.number ≡ 1 → (taken st' c).answer.number ≡ 1
  -- two workers, on the lent words and as a host gets it
  pub two : (st : State) (v u : ℕ) (xs ys cs : List Lent) → v ≢ u → Names v xs → Names u ys → Interleaves xs ys cs → CommandsOn st cs
      → TwoWorkers on_words st v u xs ys cs × TwoWorkers by_host st v u xs ys cs
