-- A byte is its own number of one byte. Assumes nothing.
use mathlib.Core.Path.{sym, ◌∙◌}
use Rattle.wire.proofs.Laws.{load_byte}
use Rattle.wire.proofs.U8Number.get.Goals as goal

pub returns : goal.returns
returns c = c.byte.ensures ∙ sym (load_byte c.args.s.now c.args.at)
