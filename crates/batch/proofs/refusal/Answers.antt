-- Each test by itself. Assumes nothing.
use borrow.Author.Tests.{eq-eqb, ne_eqb}
use Rattle.kvmi.specs.Batch.{refusal_of}
use Rattle.batch.proofs.refusal.Goals as goal

pub returns-then-opened-eq0 : goal.returns-then-opened-eq0
unfolding refusal_of
returns-then-opened-eq0 c = simp (eq-eqb _ _ c.if-opened-eq0.true)

pub returns-then-is_short : goal.returns-then-is_short
unfolding refusal_of
returns-then-is_short c = simp (ne_eqb _ _ c.if-opened-eq0.false, ← c.is_short.ensures, c.if-is_short.true)

pub returns-then-signals-eq0 : goal.returns-then-signals-eq0
unfolding refusal_of
returns-then-signals-eq0 c = simp (ne_eqb _ _ c.if-opened-eq0.false, ← c.is_short.ensures, c.if-is_short.false, eq-eqb _ _ c.if-signals-eq0.true)

pub returns : goal.returns
unfolding refusal_of
returns c = simp (ne_eqb _ _ c.if-opened-eq0.false, ← c.is_short.ensures, c.if-is_short.false, ne_eqb _ _ c.if-signals-eq0.false)
