-- The library adds up the bytes as `load` does. Assumes nothing.
use mathlib.Core.Path.{ap, ◌∙◌}
use mir.Syntax.{w64}
use Rattle.std.specs.Int.{from_le_bytes}
use Rattle.wire.proofs.Laws.{from_bytes}
use Rattle.wire.proofs.U64Number.get.Goals as goal

pub returns : goal.returns
returns c = c.from_le_bytes.ensures ∙ ap (from_le_bytes w64) c.bytes_at.ensures ∙ from_bytes w64 c.args.s.now c.args.at
