-- The test is the definition's. Assumes nothing.
use mathlib.Core.Bool.{or_assoc, or-false}
use Rattle.tests.proofs.allows_command.Goals as goal

pub returns : goal.returns
returns c = simp (or_assoc, or-false, c.is_on.ensures)
