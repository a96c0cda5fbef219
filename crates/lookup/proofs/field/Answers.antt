-- A closed session has 0 in every field. Assumes nothing.
use borrow.Author.Tests.{eq-eqb, ne_eqb}
use Rattle.lookup.specs.Lookup.{look_field}
use Rattle.lookup.proofs.field.Goals as goal

pub returns-then-s-eq0 : goal.returns-then-s-eq0
unfolding look_field
returns-then-s-eq0 c = rw (eq-eqb _ 0 c.if-s-eq0.true)

pub returns : goal.returns
unfolding look_field
returns c = rw (ne_eqb _ 0 c.if-s-eq0.false, c.read_field.ensures, c.vcpu_number.ensures)
