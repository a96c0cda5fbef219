-- The bit of the event in the field. Assumes nothing.
use Rattle.lookup.specs.Lookup.{look_event}
use Rattle.lookup.proofs.vcpu_event.Goals as goal

pub returns : goal.returns
unfolding look_event
returns c = rw (c.is_on.ensures, c.field-events.ensures)
