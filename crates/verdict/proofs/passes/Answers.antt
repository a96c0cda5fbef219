-- One test after the other. Assumes nothing.
use borrow.Author.Tests.{not-true, not-false}
use Rattle.kvmi.specs.Settings.{allows_command}
use Rattle.verdict.specs.Handlers.{passes_row}
use Rattle.verdict.proofs.passes.Goals as goal

pub returns-then-not-allows_command : goal.returns-then-not-allows_command
unfolding passes_row allows_command
returns-then-not-allows_command c = rw (← c.allows_command.ensures, c.if-not-allows_command.true)

pub returns-then-replies_on-carries_data : goal.returns-then-replies_on-carries_data
unfolding passes_row allows_command
returns-then-replies_on-carries_data c = rw (← c.allows_command.ensures, c.if-not-allows_command.false, ← c.replies_on.ensures, ← c.carries_data.ensures, c.if-replies_on-carries_data.true)

pub returns : goal.returns
unfolding passes_row allows_command
returns c = rw (← c.allows_command.ensures, c.if-not-allows_command.false, ← c.replies_on.ensures, ← c.carries_data.ensures, c.if-replies_on-carries_data.false) c.size_fits.ensures
