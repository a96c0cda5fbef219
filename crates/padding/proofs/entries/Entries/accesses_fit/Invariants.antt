-- The loop's invariant: the entries from i on say what all of them do. Assumes nothing.
use mathlib.Core.Path.{◌≡◌}
use lib.ListN.{drop}
use Rattle.padding.specs.Entries.{accesses_fit}
use Rattle.padding.proofs.Parts.{accesses_from}
use Rattle.padding.proofs.entries.Entries.accesses_fit.Given as goal

abbrev pub invariant-loop-i : goal.invariant-loop-i
invariant-loop-i l = accesses_from l.settings l.self.bytes.now l.self.count l.i ≡ accesses_fit l.settings l.self.count (drop 8 l.self.bytes.now)
