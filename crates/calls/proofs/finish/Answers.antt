-- What `put_result` gives. Assumes nothing.
use mathlib.Core.Path.{ap}
use Prim.Native.Nat.{ℕ}
use Rattle.calls.proofs.finish.Goals as goal

pub returns : goal.returns
returns c = (ap (λ (n : ℕ). record { code = n; session = c.args.done.session }) c.put_result-code.ensures.0, c.put_result-code.ensures.1)
