-- A size above a page's is refused before the sum, which then fits. Assumes nothing.
use mathlib.Core.Path.{refl}
use mathlib.Core.Bool.{and-false}
use Prim.Native.Nat.{◌+◌, ◌%◌}
use native.Mathlib.Omega.{arith}
use borrow.Author.Tests.{lt-leb}
use Rattle.kvmi.specs.Verdict.{in_one_page}
use Rattle.tests.proofs.in_one_page.Goals as goal

pub returns-else-size-le4096 : goal.returns-else-size-le4096
unfolding in_one_page
returns-else-size-le4096 c = simp (lt-leb c.args.size 4096 c.if-size-le4096.false, lt-leb (c.args.gpa % 4096 + c.args.size) 4096 (omega arith), and-false)

pub returns-then-size-le4096 : goal.returns-then-size-le4096
unfolding in_one_page
returns-then-size-le4096 c = refl
