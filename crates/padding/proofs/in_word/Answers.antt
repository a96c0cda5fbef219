-- What is left of the word when its other bytes are cut off is the run's number. Assumes nothing.
use mathlib.Core.Path.{sym}
use native.Mathlib.Omega.{arith}
use Rattle.padding.proofs.Runs.{run-in-word}
use Rattle.padding.proofs.in_word.Goals as goal

pub returns-then-at-d : goal.returns-then-at-d
returns-then-at-d c = sym (run-in-word c.args.d.now _ _ _ 0 _ c.type_inv.d (omega arith) (omega arith) c.load.ensures c.if-at-d.true)
