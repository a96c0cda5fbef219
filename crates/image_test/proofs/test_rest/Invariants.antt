-- The records that are left give the outcome. Assumes nothing.
use Rattle.std.proofs.Common.{◌-◌, length}
use Rattle.kvmi.specs.Image.{load_image}
use Rattle.image_test.specs.Test.{outcome, Rest}
use Rattle.image_test.proofs.test_rest.Given as goal

abbrev pub invariant-loop-next : goal.invariant-loop-next
invariant-loop-next l = Rest l.s l.l l.p (outcome (load_image l.s l.l))

abbrev pub decreases-loop-next : goal.decreases-loop-next
decreases-loop-next l = length l.l - l.p.at
