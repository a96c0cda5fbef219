-- The loop's invariant: the padding of the entries from i on says what that of all of them does. Assumes nothing.
use mathlib.Core.Path.{◌≡◌}
use Rattle.kvmi.specs.Message.{first_of_runs, entry_padding}
use Rattle.padding.proofs.Parts.{padding_from}
use Rattle.padding.proofs.entries.Entries.are_clean.Given as goal

abbrev pub invariant-loop-i : goal.invariant-loop-i
invariant-loop-i l = padding_from l.self.bytes.now l.self.count l.i ≡ first_of_runs l.self.bytes.now (entry_padding 17 l.self.count)
