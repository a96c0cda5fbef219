-- Nothing queued, or a pause taken from the queue. Assumes nothing.
use Rattle.entry.proofs.Laws.{nothing-queued, paused-as}
use Rattle.entry.proofs.dequeue.Goals as goal

pub returns-then-queued-eq0 : goal.returns-then-queued-eq0
returns-then-queued-eq0 c = nothing-queued _ _ _ _ _ _ c.read_field-queued.ensures c.if-queued-eq0.true

pub returns : goal.returns
returns c = paused-as _ _ _ _ _ _ _ _ _ _ _ c.read_field-queued.ensures c.if-queued-eq0.false c.pause_event-count.ensures c.write_field.ensures c.await_reply.ensures c.next_seq.ensures
