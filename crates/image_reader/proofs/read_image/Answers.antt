-- By what the test says of the image. Assumes nothing.
use Rattle.std.proofs.Common.{sym, ◌∙◌}
use Rattle.kvmi.specs.Image.{load_image}
use Rattle.image_reader.specs.Read.{read_of}
use Rattle.image_reader.proofs.Loads.{told-refusal, told-accepted}
use Rattle.image_reader.proofs.read_image.Goals as goal

pub returns-then-not-in_range : goal.returns-then-not-in_range
unfolding read_of
returns-then-not-in_range c = simp (sym c.in_range.ensures ∙ c.if-not-in_range.true, c.answers.ensures.0, c.answers.ensures.1, c.shut.ensures)

pub returns-in-Err : goal.returns-in-Err
unfolding read_of
returns-in-Err c =
    simp (
      sym c.in_range.ensures ∙ c.if-not-in_range.false,
      c.answers-in-Err.ensures.0,
      c.answers-in-Err.ensures.1,
      c.shut-in-Err.ensures,
      c.from.ensures,
    ) (told-refusal c.args.settings _ _ (load_image c.args.settings c.args.l.now) c.in-Err.refusal (sym c.test.ensures ∙ c.in-Err.is))

pub returns-in-Ok : goal.returns-in-Ok
unfolding read_of
returns-in-Ok c =
    simp (
      sym c.in_range.ensures ∙ c.if-not-in_range.false,
      c.answers-in-Ok.ensures.0,
      c.answers-in-Ok.ensures.1,
      c.done.ensures,
      c.opened.ensures,
    ) (told-accepted c.args.settings _ _ (load_image c.args.settings c.args.l.now) c.in-Ok.stated _ _ (sym c.test.ensures ∙ c.in-Ok.is) (λ u e.
    let g = c.load.ensures c.args.settings u e in (g.0 ∙ rw c.clear.ensures, g.1 ∙ rw c.clear-in-Ok.ensures)))
