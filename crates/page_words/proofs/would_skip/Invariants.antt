-- The loop's invariant: the entries that are left, on the copy as it is, give the same as all of them on the words. Assumes nothing.
use mathlib.Core.Path.{◌≡◌}
use Prim.Native.Nat.{◌≤◌, ◌-◌, ◌*◌}
use lib.ListN.{length, drop}
use Rattle.kvmi.specs.Message.{entries_of}
use Rattle.page_words.specs.PageWords.{page_table, put_entries, run_entries}
use Rattle.page_words.proofs.would_skip.Given as goal

abbrev pub invariant-loop-i : goal.invariant-loop-i
invariant-loop-i l =
    (length l.copy ≡ length l.words)
    × (l.t.count ≤ length l.words)
    × (run_entries l.limit l.view (entries_of l.n l.d) l.words l.count
    ≡ put_entries l.limit l.view (entries_of (l.n - l.i) (drop (l.i * 16) l.d)) l.hint (page_table l.copy l.t.count l.t.skipped))
