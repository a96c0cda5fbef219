-- By the form, and whether bytes are wanted. Assumes nothing.
use mathlib.Core.Path.{sym, ◌∙◌}
use Rattle.kvmi.specs.Feed.{feed_of}
use Rattle.event_reply.proofs.feed_by.Goals as goal

pub returns-then-wants_bytes : goal.returns-then-wants_bytes
unfolding feed_of
returns-then-wants_bytes c = rw (c.in-Context.is, ← c.byte.ensures, sym c.wants_bytes.ensures ∙ c.if-wants_bytes.true) c.chosen_feed.ensures

pub returns-else-wants_bytes : goal.returns-else-wants_bytes
unfolding feed_of
returns-else-wants_bytes c = rw (c.in-Context.is, ← c.byte.ensures, sym c.wants_bytes.ensures ∙ c.if-wants_bytes.false) c.unfed-else-wants_bytes.ensures
