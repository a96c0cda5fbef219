-- The loop's invariant: the switches from four j on are counted, and their fours marked. Assumes nothing.
use Rattle.image_msrs.proofs.Switches.{Finding}
use Rattle.image_msrs.proofs.find.Given as goal

abbrev pub invariant-loop-j : goal.invariant-loop-j
invariant-loop-j l = Finding l.words l.v l.j l.on l.fours
