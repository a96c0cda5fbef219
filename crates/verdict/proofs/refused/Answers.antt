-- The same tests in their order. Assumes nothing.
use Rattle.kvmi.specs.Settings.{allows_command}
use Rattle.verdict.specs.Handlers.{refusal}
use Rattle.verdict.proofs.refused.Goals as goal

pub returns-then-not-allows_command : goal.returns-then-not-allows_command
unfolding refusal allows_command
returns-then-not-allows_command c = rw (← c.allows_command.ensures, c.if-not-allows_command.true) c.refuse.ensures

pub returns : goal.returns
unfolding refusal allows_command
returns c = rw (← c.allows_command.ensures, c.if-not-allows_command.false)
