-- All words cleared. Assumes nothing.
use Rattle.message.specs.Moves.{session_after}
use Rattle.message.proofs.close.Goals as goal

pub returns-clause-guest_after : goal.returns-clause-guest_after
unfolding session_after
returns-clause-guest_after c = λ s out guest. simp (c.clear.ensures, c.clear-2.ensures)
