-- The test is the definition's. Assumes nothing.
use mathlib.Core.Bool.{or_assoc, or-false}
use Rattle.kvmi.specs.Tables.{is_cr}
use Rattle.tests.proofs.is_cr.Goals as goal

pub returns : goal.returns
unfolding is_cr
returns c = simp (or_assoc, or-false)
