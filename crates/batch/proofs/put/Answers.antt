-- A store of one number. Assumes nothing.
use mathlib.Core.Path.{refl, sym}
use Rattle.wire.proofs.Laws.{store_byte}
use Rattle.batch.proofs.put.Goals as goal

pub returns : goal.returns
returns c = (refl, sym (store_byte _ _ _))
