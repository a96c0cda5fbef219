-- The code's bytes are those of its two's complement. Assumes nothing.
use mathlib.Core.Path.{◌∙◌}
use mir.Facts.{to_z-of_z}
use Rattle.wire.specs.Code.{code_bytes}
use Rattle.wire.proofs.store_code.Goals as goal

pub returns : goal.returns
unfolding code_bytes
returns c = c.store.ensures ∙ rw (c.twos_complement.ensures, to_z-of_z c.ranges.e)
