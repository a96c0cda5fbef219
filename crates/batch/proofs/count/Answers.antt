-- Number by number. Assumes nothing.
use mathlib.Core.Path.{refl}
use Rattle.batch.proofs.count.Goals as goal

pub resume_of-requires : goal.resume_of-requires
resume_of-requires c = rw c.values-values.ensures.1 c.requires.2

pub returns : goal.returns
returns c n vcpus pages out out' guest guest' v p e = rw (e, ← c.values-values.ensures.0, ← c.values-values.ensures.1, ← c.answer_number.ensures, c.list.ensures.0, c.list.ensures.1, c.resume_of.ensures) refl
