-- A byte is its own number of one byte. Assumes nothing.
use mathlib.Core.Path.{sym, ◌∙◌}
use Rattle.wire.proofs.Laws.{store_byte, store-le-byte}
use Rattle.wire.proofs.U8Number.put.Goals as goal

pub returns : goal.returns
returns c = c.put_bytes.ensures ∙ store_byte _ _ _ ∙ sym (store-le-byte _ _ _ c.ranges.self.fits)
