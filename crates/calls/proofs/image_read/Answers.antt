-- What the image reader tells, as a host has it. Assumes nothing.
use mathlib.Core.Path.{◌∙◌, ap}
use Rattle.session.specs.Calls.{Told}
use Rattle.calls.specs.Given.{given, read_given}
use Rattle.calls.proofs.image_read.Goals as goal

pub returns : goal.returns
unfolding read_given
returns c = (c.finish.ensures.0 ∙ ap (λ (t : Told). (given t).done) c.read_image-done.ensures, ap (λ (t : Told). t.state.vcpus) c.read_image-done.ensures, ap (λ (t : Told). t.state.pages) c.read_image-done.ensures, c.finish.ensures.1 ∙ ap (λ (t : Told). (given t).result) c.read_image-done.ensures)
