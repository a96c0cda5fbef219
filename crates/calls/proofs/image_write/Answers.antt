-- What the image writer tells, as a host has it. Assumes nothing.
use mathlib.Core.Path.{◌∙◌, ap}
use Rattle.session.specs.Calls.{Told}
use Rattle.calls.specs.declared.Returned.{Returned}
use Rattle.calls.specs.Given.{given, write_given}
use Rattle.calls.proofs.image_write.Goals as goal

pub returns : goal.returns
unfolding write_given
returns c =
    (ap (λ (d : Returned). d.code) c.finish-d.ensures.0 ∙ ap (λ (t : Told). (given t).done.code) c.write_image-done.ensures, ap (λ (t : Told). t.out) c.write_image-done.ensures, c.finish-d.ensures.1 ∙ ap (λ (t : Told). (given t).result) c.write_image-done.ensures)
