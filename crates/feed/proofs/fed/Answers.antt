-- The part that the context supplies, or guest memory's. Assumes nothing.
use mathlib.Core.Path.{sym, ◌∙◌}
use Rattle.kvmi.specs.declared.Feed.{Feed}
use Rattle.feed.specs.Fed.{part_of, fed_bytes}
use Rattle.feed.proofs.Laws.{some-of, none-of}
use Rattle.feed.proofs.fed.Goals as goal

pub returns-in-Some : goal.returns-in-Some
unfolding fed_bytes
returns-in-Some c = rw (c.part.ensures, ← c.load.ensures, ← c.load-2.ensures) (some-of (λ (f : Feed). part_of c.args.msg.now f.at f.length) _ _ _ _ (sym c.in-Some.is ∙ c.supplied.ensures))

pub returns-in-None : goal.returns-in-None
unfolding fed_bytes
returns-in-None c = rw (c.part-in-None.ensures, ← c.load.ensures, ← c.load-2.ensures) (none-of (λ (f : Feed). part_of c.args.msg.now f.at f.length) _ _ _ (sym c.in-None.is ∙ c.supplied.ensures))
