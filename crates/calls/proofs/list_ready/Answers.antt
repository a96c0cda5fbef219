-- What `readied` gives, with its number. Assumes nothing.
use mathlib.Core.Path.{ap, ◌∙◌}
use Rattle.calls.specs.Given.{one_given}
use Rattle.calls.proofs.list_ready.Goals as goal

pub returns : goal.returns
returns c = c.list_returned.ensures ∙ ap one_given c.readied.ensures
