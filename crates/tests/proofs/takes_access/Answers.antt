-- An access is the bit of its number; from 8 on there is none. Assumes nothing.
use mathlib.Core.Path.{refl, sym, ◌∙◌}
use borrow.Author.Tests.{lt-leb}
use Rattle.kvmi.specs.Verdict.{is_access}
use Rattle.tests.proofs.Access.{access-bit, access-past}
use Rattle.tests.proofs.takes_access.Goals as goal

pub returns-then-a-le7 : goal.returns-then-a-le7
unfolding is_access
returns-then-a-le7 c = rw c.accesses.ensures (access-bit _ _ _ _ refl refl c.if-a-le7.true)

pub returns-else-a-le7 : goal.returns-else-a-le7
returns-else-a-le7 c = lt-leb _ _ c.if-a-le7.false ∙ sym (access-past _ _ c.if-a-le7.false)
