-- A start past the end reads as the end, and a size larger than what is left as what is left. Assumes nothing.
use mathlib.Core.Path.{◌∙◌}
use Rattle.kvmi.specs.Message.{gpa_of, size_of}
use Rattle.reply.proofs.Data.{picked}
use Rattle.reply.proofs.memory.Goals as goal

pub returns : goal.returns
unfolding gpa_of size_of
returns c = picked _ _ _ _ (c.smaller-from.ensures ∙ rw c.load.ensures) (c.smaller-count.ensures ∙ rw c.load-2.ensures)
