-- By whether the page exists. Assumes nothing.
use mathlib.Core.Path.{sym, ◌∙◌}
use Rattle.kvmi.specs.Feed.{page_feed}
use Rattle.feed.proofs.page_feed.Goals as goal

pub returns-then-page_exists : goal.returns-then-page_exists
unfolding page_feed
returns-then-page_exists c = rw (sym c.page_exists.ensures ∙ c.if-page_exists.true)

pub returns-else-page_exists : goal.returns-else-page_exists
unfolding page_feed
returns-else-page_exists c = rw (sym c.page_exists.ensures ∙ c.if-page_exists.false)
