-- The loop's invariant: the entries from i on say what all of them do. Assumes nothing.
use mathlib.Core.Path.{◌≡◌, sym, ap, ◌∙◌}
use mathlib.Core.Bool.{true, false}
use native.Mathlib.Omega.{arith}
use Rattle.kvmi.specs.Verdict.{takes_access}
use Rattle.padding.proofs.Parts.{accesses-start, access-fits, access-unfit, accesses-end}
use Rattle.padding.proofs.entries.Entries.accesses_fit.Goals as goal

pub loop-i-init : goal.loop-i-init
loop-i-init c = accesses-start c.args.settings c.args.self.bytes.now c.args.self.count

pub returns-then-not-takes_access : goal.returns-then-not-takes_access
returns-then-not-takes_access c =
    let bad : c.takes_access.result ≡ false = c.if-not-takes_access.true in
    sym (access-unfit _ _ _ (omega arith) _ (ap (takes_access _) (sym c.entry_access.ensures) ∙ sym c.takes_access.ensures ∙ bad)) ∙ c.loop-i.invariant

pub loop-i-preserved : goal.loop-i-preserved
loop-i-preserved c =
    let good : c.takes_access.result ≡ true = c.if-not-takes_access.false in
    access-fits _ _ _ (omega arith) _ (ap (takes_access _) (sym c.entry_access.ensures) ∙ sym c.takes_access.ensures ∙ good) ∙ c.loop-i.invariant

pub returns : goal.returns
returns c = sym (accesses-end _ _ _ _ (omega arith)) ∙ c.loop-i.invariant
