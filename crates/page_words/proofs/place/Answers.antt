-- The loop's invariant: what is left to look through lies in the words in use, and has the same answer. The measure is its size. Assumes nothing.
use mathlib.Core.Path.{◌≡◌, sym, ◌∙◌}
use native.Mathlib.Omega.{arith}
use Rattle.page_words.specs.PageWords.{bisect, place_of}
use Rattle.page_words.proofs.PageLaws.{bisect-turn, turn_inside}
use Rattle.page_words.proofs.place.Goals as goal

pub loop-len-init : goal.loop-len-init
unfolding place_of
loop-len-init c = (omega arith, rw c.min-len.ensures)

pub loop-len-preserved : goal.loop-len-preserved
loop-len-preserved c = (omega (arith, turn_inside c.args.words.now c.args.key c.loop-len.base c.loop-len.len c.loop-len-test.true c.is_below-below.result c.is_below-below.ensures), c.loop-len.invariant.1 ∙ bisect-turn _ _ _ _ c.loop-len-test.true _ c.is_below-below.ensures)

pub returns : goal.returns
unfolding bisect
returns c = let e : c.loop-len.len ≡ 0 = omega arith in sym (c.loop-len.invariant.1 ∙ rw e)
