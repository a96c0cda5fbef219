-- The word at place i, in its three parts. Assumes nothing.
use mathlib.Core.Path.{refl}
use borrow.Author.Tests.{lt-ltb, le-ltb}
use Rattle.page_words.specs.Meaning.{page_of_word}
use Rattle.lookup.specs.Lookup.{look_page}
use Rattle.lookup.proofs.page_at.Goals as goal

pub returns-then-i-page_count : goal.returns-then-i-page_count
unfolding look_page page_of_word
returns-then-i-page_count c = rw (← c.page_count.ensures, lt-ltb _ _ c.if-i-page_count.true, ← c.word-word.ensures) (refl, refl)

pub returns-else-i-page_count : goal.returns-else-i-page_count
unfolding look_page
returns-else-i-page_count c = rw (← c.page_count.ensures, le-ltb _ _ c.if-i-page_count.false) (refl, refl)
