-- One run, then the other. Assumes nothing.
use borrow.Author.Tests.{eq-eqb, ne_eqb}
use Rattle.padding.proofs.Runs.{run-then}
use Rattle.padding.proofs.behind_vcpu.Goals as goal

pub returns-then-head-ne0 : goal.returns-then-head-ne0
returns-then-head-ne0 c = rw (run-then, ← c.in_word-head.ensures, ne_eqb _ _ c.if-head-ne0.true)

pub returns : goal.returns
returns c = rw (run-then, ← c.in_word-head.ensures, eq-eqb _ _ c.if-head-ne0.false) c.in_word.ensures
