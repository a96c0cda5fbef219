-- By the reply mode. Assumes nothing.
use mir.Facts.{to_z-of_z}
use mir.Syntax.{w32}
use mir.Val.{SFits}
use borrow.Author.Rules.{rules}
use Rattle.verdict.proofs.refuse.Goals as goal

pub returns-then-replies_on : goal.returns-then-replies_on
returns-then-replies_on c = let f : SFits w32 c.args.code = search rules in simp (← c.replies_on.ensures, c.if-replies_on.true, to_z-of_z f)
