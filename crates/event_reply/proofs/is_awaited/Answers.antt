-- The tests are the definition's. Assumes nothing.
use native.Mathlib.Omega.{arith}
use Rattle.std.proofs.lemmas.Bool.Decides.{nat_tests}
use Rattle.kvmi.specs.Verdict.{is_awaited}
use Rattle.event_reply.proofs.is_awaited.Goals as goal

pub returns-then-awaited-seq : goal.returns-then-awaited-seq
unfolding is_awaited
returns-then-awaited-seq c = grind (arith, nat_tests)

pub returns-else-awaited-seq : goal.returns-else-awaited-seq
unfolding is_awaited
returns-else-awaited-seq c = grind (arith, nat_tests)
