-- The event, what is awaited after it, and what is kept of a page fault. Assumes nothing.
use mathlib.Core.Path.{refl}
use Rattle.entry.proofs.Laws.{sent-as}
use Rattle.entry.proofs.send.Goals as goal

pub returns : goal.returns
returns c = sent-as _ _ _ _ _ _ _ _ _ _ _ _ c.event.ensures c.await_reply.ensures c.keep_fault.ensures refl c.next_seq.ensures
