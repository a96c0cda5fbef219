-- What the vCPU words mean: the model's lists.
use Rattle.std.specs.Prelude.{ℕ, zero, suc, cond, not, List, [], ◌∷◌, ◌==◌}
use Rattle.msrs.specs.Place.{msr_at}
use Rattle.kvmi.specs.Bits.{is_on}
use Rattle.kvmi.specs.Tables.{Vcpu, Msr}
use Rattle.store.specs.Words.{field, switch_on, SINGLESTEP, CRS, EVENTS, PAUSES}

-- ---- MSR switches
-- those that are on among n places of a vCPU, from one on, and then the rest
unfoldable pub switches_on : List ℕ → ℕ → ℕ → ℕ → List Msr → List Msr
switches_on w vcpu place zero rest = rest
switches_on w vcpu place (suc n) rest =
    cond (switch_on w vcpu place) (record { vcpu = vcpu; msr = msr_at place } ∷ switches_on w vcpu (suc place) n rest) (switches_on w vcpu (suc place) n rest)

-- those of n vCPUs, from one on
unfoldable pub msrs_of : List ℕ → ℕ → ℕ → List Msr
msrs_of w vcpu zero = []
msrs_of w vcpu (suc n) = switches_on w vcpu 0 16384 (msrs_of w (suc vcpu) n)

-- ---- vCPU records; bit i of `ready` is the ready mark of vCPU i
unfoldable pub vcpu_of_words : ℕ → List ℕ → ℕ → Vcpu
vcpu_of_words ready w i =
    record { ready = is_on ready i; singlestep = not (field w i SINGLESTEP == 0); crs = field w i CRS; events = field w i EVENTS; pauses = field w i PAUSES }

-- n of them, from one on
unfoldable pub vcpus_of : ℕ → List ℕ → ℕ → ℕ → List Vcpu
vcpus_of ready w i zero = []
vcpus_of ready w i (suc n) = vcpu_of_words ready w i ∷ vcpus_of ready w (suc i) n
