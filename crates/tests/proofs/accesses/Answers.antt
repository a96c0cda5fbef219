-- One number where the flag is set, the other where it is not. Assumes nothing.
use Rattle.kvmi.specs.Settings.{has_execute_only}
use Rattle.tests.proofs.accesses.Goals as goal

pub returns-then-is_set : goal.returns-then-is_set
unfolding has_execute_only
returns-then-is_set c = rw (← c.is_set.ensures, c.if-is_set.true)

pub returns-else-is_set : goal.returns-else-is_set
unfolding has_execute_only
returns-else-is_set c = rw (← c.is_set.ensures, c.if-is_set.false)
