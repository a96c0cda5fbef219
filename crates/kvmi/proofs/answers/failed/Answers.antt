-- The values are those of `quiet` but for two: it signals nothing. Assumes nothing.
use Rattle.kvmi.proofs.answers.failed.Goals as goal

pub returns : goal.returns
returns c = rw c.quiet-values.ensures.1
