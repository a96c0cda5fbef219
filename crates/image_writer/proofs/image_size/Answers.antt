-- The session's image is that of its words. Assumes nothing.
use mathlib.Core.Path.{ap, ◌∙◌}
use lib.ListN.{length}
use Rattle.kvmi.specs.Tables.{Tables}
use Rattle.kvmi.specs.Image.{image}
use Rattle.session.specs.State.{state}
use Rattle.image_writer.proofs.Call.{stated-same}
use Rattle.image_writer.proofs.image_size.Goals as goal

pub returns : goal.returns
returns c =
    let a = c.args in
    c.measure.ensures a.s.tool.events a.s.shared.ready ∙ ap (λ (t : Tables). length (image t)) (stated-same (state a.s a.vcpus.now a.pages.now))
