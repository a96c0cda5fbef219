-- The entries of message 13, taken one after the other.
use Rattle.std.specs.Prelude.{ℕ, List, Bool}
use Rattle.kvmi.specs.Bits.{every}
use Rattle.kvmi.specs.Message.{Entry, entries_of}
use Rattle.kvmi.specs.declared.Settings.{Settings}
use Rattle.kvmi.specs.Verdict.{takes_access}

-- the accesses of the first n entries of a list are those that a page can have under settings
abbrev pub accesses_fit : Settings → ℕ → List ℕ → Bool
accesses_fit s n l = every (λ (e : Entry). takes_access s e.access) (entries_of n l)
