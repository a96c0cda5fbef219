-- What is no CR is off. Assumes nothing.
use Rattle.lookup.specs.Lookup.{look_cr}
use Rattle.lookup.proofs.cr.Goals as goal

pub returns-then-not-is_cr : goal.returns-then-not-is_cr
unfolding look_cr
returns-then-not-is_cr c = rw (← c.is_cr.ensures, c.if-not-is_cr.true)

pub returns : goal.returns
unfolding look_cr
returns c = rw (← c.is_cr.ensures, c.if-not-is_cr.false, c.is_on.ensures, c.cr_bit.ensures, c.field-crs.ensures)
