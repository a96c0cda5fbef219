-- What the context supplies, or the page's bytes. Assumes nothing.
use mathlib.Core.Path.{sym, ◌∙◌}
use Rattle.kvmi.specs.declared.Feed.{Feed}
use Rattle.kvmi.specs.Feed.{chosen_feed}
use Rattle.feed.proofs.Laws.{some-of, none-of}
use Rattle.feed.proofs.chosen_feed.Goals as goal

pub returns-in-Some : goal.returns-in-Some
unfolding chosen_feed
returns-in-Some c = rw (← c.load.ensures, ← c.load-2.ensures) (some-of (λ (f : Feed). f) _ _ _ _ (sym c.in-Some.is ∙ c.supplied.ensures))

pub returns-in-None : goal.returns-in-None
unfolding chosen_feed
returns-in-None c = rw (← c.load.ensures, ← c.load-2.ensures, ← c.page_feed.ensures) (none-of (λ (f : Feed). f) _ _ _ (sym c.in-None.is ∙ c.supplied.ensures))
