-- The loop's invariant: what is left to look through lies in the words in use, and has the same answer. The measure is its size. Assumes nothing.
use mathlib.Core.Path.{◌≡◌}
use Prim.Native.Nat.{◌≤◌, ◌+◌, min}
use lib.ListN.{length}
use Rattle.page_words.specs.PageWords.{bisect, place_of}
use Rattle.page_words.proofs.place.Given as goal

abbrev pub invariant-loop-len : goal.invariant-loop-len
invariant-loop-len l = (l.base + l.len ≤ min l.count (length l.words)) × (place_of l.words (min l.count (length l.words)) l.key ≡ bisect l.len l.words l.key l.base l.len)

abbrev pub decreases-loop-len : goal.decreases-loop-len
decreases-loop-len l = l.len
