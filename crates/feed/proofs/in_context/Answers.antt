-- Each test as it stands; without wrapping, the last one is that of the sum. Assumes nothing.
use Prim.Native.Nat.{suc, ◌+◌, ◌-◌}
use native.Mathlib.Omega.{arith}
use Rattle.std.proofs.lemmas.Bool.Decides.{nat_tests}
use Rattle.kvmi.specs.Feed.{in_context}
use Rattle.feed.proofs.in_context.Goals as goal

pub returns-then-address-gva : goal.returns-then-address-gva
unfolding in_context
returns-then-address-gva c = grind (arith, nat_tests)

pub returns-else-address-gva : goal.returns-else-address-gva
unfolding in_context
returns-else-address-gva c = grind (arith, nat_tests)
