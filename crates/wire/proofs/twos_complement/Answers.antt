-- The two's complement is the bits in which a machine holds the code. Assumes nothing.
use mathlib.Core.Path.{sym}
use mir.Facts.{to_z-of_z}
use Rattle.wire.proofs.Codes.{twos-bits}
use Rattle.wire.proofs.twos_complement.Goals as goal

pub returns : goal.returns
returns c = rw (c.cast_unsigned.ensures, to_z-of_z c.ranges.e) (sym (twos-bits c.args.e))
