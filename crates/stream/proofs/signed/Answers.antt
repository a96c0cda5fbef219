-- It is how a machine reads the bits of an i32. Assumes nothing.
use Rattle.std.proofs.Common.{sym, ◌∙◌}
use mir.Facts.{to_z-of_z}
use Rattle.stream.proofs.Codes.{signed-bits, signed-fits}
use Rattle.stream.proofs.signed.Goals as goal

pub returns : goal.returns
returns c = rw (c.cast_signed.ensures, ← signed-bits c.args.n) (to_z-of_z (signed-fits _ c.ranges.n))
