-- A count that fits says how long the bytes are. Assumes nothing.
use mathlib.Core.Path.{sym, refl, ◌∙◌}
use Rattle.kvmi.specs.Message.{count_of}
use Rattle.padding.proofs.Parts.{counted}
use Rattle.padding.proofs.entries.Entries.of.Goals as goal

pub invariant_of-result : goal.invariant_of-result
invariant_of-result c = record { inside = counted _ _ (sym c.count_fits.ensures ∙ c.if-not-count_fits.false) c.load-count.ensures }

pub returns-clause-fits : goal.returns-clause-fits
unfolding count_of
returns-clause-fits c = (sym c.count_fits.ensures ∙ c.if-not-count_fits.false, refl, c.load-count.ensures)
