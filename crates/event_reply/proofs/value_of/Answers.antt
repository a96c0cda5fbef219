-- By the form. Assumes nothing.
use Rattle.event_reply.proofs.value_of.Goals as goal

pub returns-in-NewValue : goal.returns-in-NewValue
returns-in-NewValue c = rw c.in-NewValue.is c.load.ensures

pub returns-in-Context : goal.returns-in-Context
returns-in-Context c = rw c.in-Context.is c.byte.ensures
