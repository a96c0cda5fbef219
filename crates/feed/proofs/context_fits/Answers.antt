-- The tests are the definition's. Assumes nothing.
use Rattle.kvmi.specs.Feed.{context_fits}
use Rattle.feed.proofs.context_fits.Goals as goal

pub returns : goal.returns
unfolding context_fits
returns c = rw (← c.byte.ensures, ← c.load.ensures, ← c.load-2.ensures, ← c.byte-2.ensures)
