-- The smaller of both. Assumes nothing.
use Rattle.kvmi.specs.Batch.{next_length}
use Rattle.batch.proofs.next_length.Goals as goal

pub returns : goal.returns
unfolding next_length
returns c = rw (← c.load.ensures) c.smaller.ensures
