-- The byte is the definition's. Assumes nothing.
use Rattle.kvmi.specs.Message.{entry_of}
use Rattle.padding.proofs.entries.entry_access.Goals as goal

pub returns : goal.returns
unfolding entry_of
returns c = c.byte.ensures
