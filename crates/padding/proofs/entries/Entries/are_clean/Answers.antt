-- The loop's invariant is that of `of_entries`. Assumes nothing.
use mathlib.Core.Path.{sym, ap, ◌∙◌}
use Prim.Native.Nat.{◌+◌, ◌*◌}
use native.Mathlib.Omega.{arith}
use lib.Dec.{eqb}
use borrow.Author.Tests.{eq-eqb, ne_eqb}
use Rattle.padding.proofs.Parts.{padding-start, padding-clean, padding-found, padding-end}
use Rattle.padding.proofs.entries.Entries.are_clean.Goals as goal

pub loop-i-init : goal.loop-i-init
loop-i-init c = padding-start c.args.self.bytes.now c.args.self.count

pub returns-then-of_entry-ne0 : goal.returns-then-of_entry-ne0
returns-then-of_entry-ne0 c =
    let found = padding-found c.args.self.bytes.now c.args.self.count c.loop-i.i (omega arith) _ c.of_entry.ensures c.if-of_entry-ne0.true in
    sym (ap (λ n. eqb n 0) (sym c.loop-i.invariant ∙ found) ∙ ne_eqb (8 + 16 * c.loop-i.i + c.of_entry.result) 0 (λ z. omega (arith, z)))

pub loop-i-preserved : goal.loop-i-preserved
loop-i-preserved c = padding-clean _ _ _ (omega arith) _ c.of_entry.ensures c.if-of_entry-ne0.false ∙ c.loop-i.invariant

pub returns : goal.returns
returns c = sym (eq-eqb _ 0 (sym c.loop-i.invariant ∙ padding-end _ _ _ (omega arith)))
