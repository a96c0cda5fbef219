-- The switch that `read_msr` gives, where the session is open. Assumes nothing.
use borrow.Author.Tests.{eq-eqb, ne_eqb}
use Rattle.lookup.specs.Lookup.{look_msr}
use Rattle.lookup.proofs.msr.Goals as goal

pub returns-then-s-eq0 : goal.returns-then-s-eq0
unfolding look_msr
returns-then-s-eq0 c = rw (eq-eqb _ 0 c.if-s-eq0.true)

pub returns : goal.returns
unfolding look_msr
returns c = rw (ne_eqb _ 0 c.if-s-eq0.false, c.read_msr.ensures, c.vcpu_number.ensures)
