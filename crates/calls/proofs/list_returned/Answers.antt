-- The number that `put_result` gives, and the record as it is. Assumes nothing.
use mathlib.Core.Path.{ap}
use Prim.Native.Nat.{ℕ}
use Rattle.calls.proofs.list_returned.Goals as goal

pub returns : goal.returns
returns c = ap (λ (n : ℕ). record { vcpu = c.args.changed.vcpu; code = n }) c.put_result-code.ensures.0
