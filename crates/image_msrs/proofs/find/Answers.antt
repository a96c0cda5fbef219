-- The loop's invariant: the switches from four j on are counted, and their fours marked. Assumes nothing.
use mathlib.Core.Path.{◌≡◌}
use native.Mathlib.Omega.{arith}
use Rattle.image_msrs.proofs.Switches.{finding-start, finding-none, finding-some, finding-end, finding_few}
use Rattle.image_msrs.proofs.find.Goals as goal

pub loop-j-init : goal.loop-j-init
loop-j-init c = finding-start _ _

pub overflow_add-on : goal.overflow_add-on
overflow_add-on c = let few = finding_few _ _ c.loop-j.invariant c.read_four.ensures c.count_four-more.ensures (omega arith) (omega arith) in omega arith

pub loop-j-preserved-then-more-eq0 : goal.loop-j-preserved-then-more-eq0
loop-j-preserved-then-more-eq0 c = finding-none _ _ c.loop-j.invariant c.read_four.ensures c.count_four-more.ensures (omega arith) (omega arith) c.if-more-eq0.true

pub loop-j-preserved : goal.loop-j-preserved
loop-j-preserved c = finding-some _ _ c.loop-j.invariant c.read_four.ensures c.count_four-more.ensures (omega arith) (omega arith)

pub returns : goal.returns
returns c = let none : c.loop-j.j ≡ 0 = omega arith in finding-end _ _ (rw none at c.loop-j.invariant)
