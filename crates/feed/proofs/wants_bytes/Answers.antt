-- The action first. Assumes nothing.
use borrow.Author.Tests.{eq-eqb, ne_eqb}
use Rattle.kvmi.specs.Feed.{wants_bytes}
use Rattle.feed.proofs.wants_bytes.Goals as goal

pub returns-else-action-eq0 : goal.returns-else-action-eq0
unfolding wants_bytes
returns-else-action-eq0 c = rw (ne_eqb _ _ c.if-action-eq0.false)

pub returns-then-action-eq0 : goal.returns-then-action-eq0
unfolding wants_bytes
returns-then-action-eq0 c = rw (eq-eqb _ _ c.if-action-eq0.true) c.is_on.ensures
