-- The loop's invariant: the padding of the entries from i on says what that of all of them does. Assumes nothing.
use mathlib.Core.Path.{sym, ◌∙◌}
use native.Mathlib.Omega.{arith}
use Rattle.padding.proofs.Parts.{entry_at, padding-start, padding-clean, padding-found, padding-end}
use Rattle.padding.proofs.Runs.{run-bound}
use Rattle.padding.proofs.entries.Entries.first_padding.Goals as goal

pub loop-i-init : goal.loop-i-init
loop-i-init c = padding-start c.args.self.bytes.now c.args.self.count

pub overflow_add-result : goal.overflow_add-result
overflow_add-result c = omega (arith, c.of_entry-r.ensures, run-bound (entry_at c.args.self.bytes.now c.loop-i.i) 9 7)

pub returns-then-r-ne0 : goal.returns-then-r-ne0
returns-then-r-ne0 c = sym (padding-found _ _ _ (omega arith) _ c.of_entry-r.ensures c.if-r-ne0.true) ∙ c.loop-i.invariant

pub loop-i-preserved : goal.loop-i-preserved
loop-i-preserved c = padding-clean _ _ _ (omega arith) _ c.of_entry-r.ensures c.if-r-ne0.false ∙ c.loop-i.invariant

pub returns : goal.returns
returns c = sym (padding-end _ _ _ (omega arith)) ∙ c.loop-i.invariant
