-- Each test by itself. Assumes nothing.
use borrow.Author.Tests.{eq-eqb, ne_eqb}
use Rattle.change.proofs.reply_signal.Goals as goal

pub returns-then-action-eq2 : goal.returns-then-action-eq2
returns-then-action-eq2 c = rw (eq-eqb _ _ c.if-action-eq2.true)

pub returns-then-resumes : goal.returns-then-resumes
returns-then-resumes c = rw (ne_eqb _ _ c.if-action-eq2.false, c.if-resumes.true)

pub returns-else-resumes : goal.returns-else-resumes
returns-else-resumes c = rw (ne_eqb _ _ c.if-action-eq2.false, c.if-resumes.false)
