-- The library's bytes are those of `le`. Assumes nothing.
use mathlib.Core.Path.{ap, ◌∙◌}
use mir.Syntax.{w32}
use Rattle.wire.specs.Bytes.{store}
use Rattle.wire.proofs.Laws.{to_le_bytes-le}
use Rattle.wire.proofs.U32Number.put.Goals as goal

pub returns : goal.returns
returns c = c.put_bytes.ensures ∙ ap (store c.args.out.now c.args.at) (c.to_le_bytes.ensures ∙ to_le_bytes-le w32 c.args.self)
