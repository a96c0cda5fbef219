-- What `begin` tells, as a host has it. Assumes nothing.
use mathlib.Core.Path.{◌∙◌, ap}
use Rattle.session.specs.Calls.{Told}
use Rattle.calls.specs.Given.{given, fresh_given}
use Rattle.calls.proofs.fresh.Goals as goal

pub returns : goal.returns
unfolding fresh_given
returns c = (c.finish.ensures.0 ∙ ap (λ (t : Told). (given t).done) c.fresh-done.ensures, ap (λ (t : Told). t.state.vcpus) c.fresh-done.ensures, ap (λ (t : Told). t.state.pages) c.fresh-done.ensures, c.finish.ensures.1 ∙ ap (λ (t : Told). (given t).result) c.fresh-done.ensures)
