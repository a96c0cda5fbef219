-- The mark at the place, and the bytes from it on. Assumes nothing.
use Rattle.std.proofs.Common.{sym, ◌∙◌}
use Rattle.image_form.proofs.Forms.{mark-there}
use Rattle.image_form.proofs.mark_at.Goals as goal

pub returns : goal.returns
returns c = c.mark_in.ensures ∙ rw (c.load.ensures, c.saturating_sub.ensures) (sym (mark-there c.args.l.now c.args.at))
