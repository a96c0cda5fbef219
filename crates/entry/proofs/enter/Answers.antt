-- An event's own bytes that fit its row are few. Assumes nothing.
use mathlib.Core.Path.{◌∙◌, sym}
use mathlib.Core.Bool.{and-eq-true_iff}
use lib.ListN.{length}
use lib.Dec.{eqb}
use native.Mathlib.Omega.{arith}
use Rattle.laws.proofs.Events.{own-few}
use Rattle.entry.proofs.enter.Goals as goal

pub invariant_of-offer : goal.invariant_of-offer
invariant_of-offer c =
    let a = c.args in
    let whole = eqb (length a.block.now) 536 in
    let fits = c.offer_fits.result in
    record { few = omega (arith, own-few a.event a.own.now (sym c.offer_fits.ensures ∙ ((and-eq-true_iff whole fits).0 c.if-not-block-offer_fits.false).1)) }
