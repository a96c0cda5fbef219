-- "Over any calls while open: pauses queued at the start plus pauses accepted equals pause events sent plus pauses queued", of a session.
use Rattle.std.specs.Prelude.{ℕ, ◌+◌, List, [], ◌∷◌}
use Rattle.kvmi.specs.Call.{Call}
use Rattle.kvmi.specs.Pauses.{accepted, sent}
use Rattle.store.specs.Words.{field, PAUSES}
use Rattle.session.specs.State.{State}
use Rattle.history.specs.History.{step_of}

-- what stands in the words of a vCPU
unfoldable pub queued_of : ℕ → State → ℕ
queued_of vcpu st = field st.vcpus vcpu PAUSES

-- over a list of calls: what was sent and accepted, by each call's answer
unfoldable pub sent_over : ℕ → State → List Call → ℕ
sent_over vcpu st [] = 0
sent_over vcpu st (c ∷ cs) = sent vcpu c (step_of st c).answer (step_of st c).out + sent_over vcpu (step_of st c).state cs

unfoldable pub accepted_over : ℕ → State → List Call → ℕ
accepted_over vcpu st [] = 0
accepted_over vcpu st (c ∷ cs) = accepted vcpu (step_of st c).answer + accepted_over vcpu (step_of st c).state cs
