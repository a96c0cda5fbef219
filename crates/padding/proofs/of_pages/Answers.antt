-- The run in front, then the entries' runs if their count fits. Assumes nothing.
use mathlib.Core.Path.{◌∙◌, sym}
use borrow.Author.Tests.{eq-eqb, ne_eqb, eqb-true}
use Rattle.kvmi.specs.Message.{first_padding, padding_runs, first_of_runs, entry_padding}
use Rattle.padding.proofs.Runs.{run-then}
use Rattle.padding.proofs.of_pages.Goals as goal

pub returns-then-head-ne0 : goal.returns-then-head-ne0
unfolding first_padding padding_runs first_of_runs
returns-then-head-ne0 c = rw (run-then, ← c.in_word-head.ensures, ne_eqb _ _ c.if-head-ne0.true)

pub returns-in_default : goal.returns-in_default
unfolding first_padding padding_runs first_of_runs entry_padding
returns-in_default c = rw (run-then, ← c.in_word-head.ensures, eq-eqb _ _ c.if-head-ne0.false, c.in_default.ensures.misfits)

pub returns-then-are_clean : goal.returns-then-are_clean
unfolding first_padding padding_runs first_of_runs
returns-then-are_clean c =
    let e = c.in-Some.ensures.fits in
    rw (run-then, ← c.in_word-head.ensures, eq-eqb _ _ c.if-head-ne0.false, e.0, ← e.2)
    (rw e.1 at (sym (eqb-true _ 0 (sym c.are_clean.ensures ∙ c.if-are_clean.true))))

pub returns : goal.returns
unfolding first_padding padding_runs first_of_runs
returns c =
    let e = c.in-Some.ensures.fits in
    rw (run-then, ← c.in_word-head.ensures, eq-eqb _ _ c.if-head-ne0.false, e.0, ← e.2) (rw e.1 at c.first_padding.ensures)
