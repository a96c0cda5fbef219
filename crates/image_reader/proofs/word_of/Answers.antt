-- By computation. Assumes nothing.
use mathlib.Core.Path.{refl}
use Rattle.image_reader.specs.Load.{word_of}
use Rattle.image_reader.proofs.word_of.Goals as goal

pub returns : goal.returns
unfolding word_of
returns c = refl
