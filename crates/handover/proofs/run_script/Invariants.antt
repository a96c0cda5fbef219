-- Each step takes some of the script. Assumes nothing.
use Rattle.std.proofs.Common.{length}
use Rattle.handover.proofs.run_script.Given as goal

abbrev pub decreases-loop-rest : goal.decreases-loop-rest
decreases-loop-rest l = length l.rest
