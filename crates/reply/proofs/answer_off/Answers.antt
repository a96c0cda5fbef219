-- Told or not. Assumes nothing.
use mathlib.Core.Path.{refl}
use mir.Syntax.{w32}
use mir.Val.{SFits}
use mir.Facts.{to_z-of_z}
use borrow.Author.Rules.{rules}
use Rattle.reply.specs.Off.{off_bytes}
use Rattle.reply.proofs.Laws.{written_none}
use Rattle.reply.proofs.Off.{told-as}
use Rattle.reply.proofs.answer_off.Goals as goal

pub returns-then-a-is_error : goal.returns-then-a-is_error
unfolding off_bytes
returns-then-a-is_error c = let f : SFits w32 c.args.a.code = search rules in rw (told-as _ f c.is_error.ensures c.if-a-is_error.true) (record { written = rw (to_z-of_z f) at c.put_command_error.ensures; took = refl })

pub returns : goal.returns
unfolding off_bytes
returns c = let f : SFits w32 c.args.a.code = search rules in rw (told-as _ f c.is_error.ensures c.if-a-is_error.false) (record { written = written_none _; took = refl })
