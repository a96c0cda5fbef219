-- What `with_cr` gives, with its number. Assumes nothing.
use mathlib.Core.Path.{ap, ◌∙◌}
use Rattle.kvmi.specs.Settings.{is_set}
use Rattle.calls.specs.Given.{one_given}
use Rattle.calls.proofs.list_cr.Goals as goal

pub returns : goal.returns
unfolding is_set
returns c = c.list_returned.ensures ∙ ap one_given c.with_cr.ensures
