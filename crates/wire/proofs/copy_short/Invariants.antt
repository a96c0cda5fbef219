-- The loop's invariant: the first i bytes of `src` are at their place. Assumes nothing.
use Rattle.wire.proofs.Laws.{Copied}
use Rattle.wire.proofs.copy_short.Given as goal

abbrev pub invariant-loop-i : goal.invariant-loop-i
invariant-loop-i l = Copied l.initial.out l.at l.src l.out l.i
