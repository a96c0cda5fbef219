-- The loop's invariant: the first i bytes of `src` are at their place. The measure is what is left of them. Assumes nothing.
use mathlib.Core.Path.{refl}
use native.Mathlib.Omega.{arith}
use Rattle.wire.proofs.Laws.{copied_none, copied-one, copied_all}
use Rattle.wire.proofs.copy_short.Goals as goal

pub loop-i-init : goal.loop-i-init
loop-i-init c = copied_none _ _ _ (omega arith)

pub overflow_add-out : goal.overflow_add-out
overflow_add-out c = omega arith

pub bounds-out-at : goal.bounds-out-at
bounds-out-at c = omega arith

pub loop-i-smaller : goal.loop-i-smaller
loop-i-smaller c = omega arith

pub loop-i-preserved : goal.loop-i-preserved
loop-i-preserved c = copied-one _ _ _ _ _ _ c.loop-i.invariant c.loop-i-test.true refl

pub shape_of-out : goal.shape_of-out
shape_of-out c = c.loop-i.invariant.kept

pub returns : goal.returns
returns c = copied_all _ _ _ _ _ c.loop-i.invariant c.loop-i-test.false
