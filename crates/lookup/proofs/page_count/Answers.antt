-- The smaller of the count and the words that there are. Assumes nothing.
use Rattle.lookup.specs.Lookup.{look_count}
use Rattle.lookup.proofs.page_count.Goals as goal

pub returns : goal.returns
unfolding look_count
returns c = c.smaller.ensures
