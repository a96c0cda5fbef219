-- The derived order is that of the image. Assumes nothing.
use Rattle.std.proofs.Common.{◌∙◌, arith}
use Rattle.image_step.proofs.Order.{after-last}
use Rattle.image_step.proofs.Progress.precedes.Goals as goal

pub returns : goal.returns
returns c = c.lt.ensures ∙ after-last c.args.self c.args.place (omega arith) (omega arith) (omega arith) (omega arith)
