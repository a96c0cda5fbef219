-- None where all bits are 0, and else the ones of each word. Assumes nothing.
use native.Mathlib.Omega.{arith}
use Rattle.image_msrs.proofs.Switches.{four-count, four-none}
use Rattle.image_msrs.proofs.count_four.Goals as goal

pub returns-then-f-eq0 : goal.returns-then-f-eq0
returns-then-f-eq0 c = λ g. four-none c.args.f g c.if-f-eq0.true

pub returns : goal.returns
returns c = λ g. four-count c.args.f g (omega arith) (omega arith) (omega arith) (omega arith)
