-- A code is an error where it is below 0; it is read back from its bits. Assumes nothing.
use mir.Facts.{to_z-of_z}
use Rattle.reply.proofs.Laws.{below-zero}
use Rattle.reply.proofs.is_error.Goals as goal

pub returns : goal.returns
returns c = simp (to_z-of_z c.ranges.code) (below-zero c.args.code)
