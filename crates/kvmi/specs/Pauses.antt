-- "Over any calls while open: pauses queued at the start plus pauses accepted equals pause events sent plus pauses queued."
use Rattle.std.specs.Prelude.{ℕ, ◌+◌, List, [], ◌∷◌, not, ◌&&◌, get_or, eqb}
use Rattle.kvmi.specs.declared.Settings.{Settings}
use Rattle.kvmi.specs.declared.Signal.{Signal}
use Rattle.kvmi.specs.declared.Signal.TheVariants.{Quiet, Kick, Crash, Resume}
use Rattle.kvmi.specs.Bits.{bit}
use Rattle.kvmi.specs.Answer.{Paper}
use Rattle.kvmi.specs.Tables.{vcpu_at}
use Rattle.kvmi.specs.Model.{Model}
use Rattle.kvmi.specs.Call.{Call, message, ready, enter, write_image, step}

-- a pause of a vCPU is accepted where its kick is signalled
abbrev pub kicks : ℕ → Signal → ℕ
kicks vcpu Quiet = 0
kicks vcpu (Kick wait v) = bit (eqb v vcpu)
kicks vcpu (Crash v) = 0
kicks vcpu (Resume r) = 0

-- by a call's answer
unfoldable pub accepted : ℕ → Paper → ℕ
accepted vcpu a = kicks vcpu a.signal

-- a pause event is sent where an entry of the vCPU writes an event whose number, byte 12 of the output, is 2
unfoldable pub sent : ℕ → Call → Paper → List ℕ → ℕ
sent vcpu (message msg out guest) a wrote = 0
sent vcpu (ready v) a wrote = 0
sent vcpu (enter v block event own out) a wrote = bit (eqb v vcpu && (not (eqb a.count 0) && eqb (get_or wrote 12 0) 2))
sent vcpu (write_image out) a wrote = 0

-- the pauses that a vCPU has queued
unfoldable pub queued : ℕ → Model → ℕ
queued vcpu m = (vcpu_at m.tables vcpu).pauses

-- over a list of calls
unfoldable pub accepted_in : ℕ → Settings → Model → List Call → ℕ
accepted_in vcpu s m [] = 0
accepted_in vcpu s m (c ∷ cs) = accepted vcpu (step s m c).answer + accepted_in vcpu s (step s m c).model cs

unfoldable pub sent_in : ℕ → Settings → Model → List Call → ℕ
sent_in vcpu s m [] = 0
sent_in vcpu s m (c ∷ cs) = sent vcpu c (step s m c).answer (step s m c).out + sent_in vcpu s (step s m c).model cs
