-- In the arm of forms that have nothing to ask, size and action are all. Assumes nothing.
use mathlib.Core.Path.{sym, ◌∙◌}
use mathlib.Core.Bool.{and-true}
use mathlib.Core.Logic.{⊎_elim}
use Rattle.kvmi.specs.Verdict.{reply_fits}
use Rattle.event_reply.proofs.reply_fits.Goals as goal

pub returns-in-Plain : goal.returns-in-Plain
unfolding reply_fits
returns-in-Plain c =
    let same = c.action_fits.ensures ∙ sym (and-true _) in
    ⊎_elim (λ e. rw e same) (λ e. rw e same) c.in-Plain.is

pub returns-then-action_fits : goal.returns-then-action_fits
unfolding reply_fits
returns-then-action_fits c = rw (c.in-Context.is, ← c.action_fits-in-Context.ensures, c.if-action_fits.true) c.context_fits.ensures

pub returns-else-action_fits : goal.returns-else-action_fits
unfolding reply_fits
returns-else-action_fits c = rw (c.in-Context.is, ← c.action_fits-in-Context.ensures, c.if-action_fits.false)
