-- Replies off, or on. Assumes nothing.
use Rattle.std.proofs.Common.{rules}
use mathlib.Core.Path.{refl}
use Rattle.reply.proofs.Off.{off-as, on-as}
use Rattle.reply.proofs.answer_by.Goals as goal

pub returns-then-a-ne0 : goal.returns-then-a-ne0
returns-then-a-ne0 g c d written = off-as _ _ _ _ _ _ c.if-a-ne0.true c.answer_off.ensures

pub returns : goal.returns
returns g c d written = on-as _ _ _ _ _ _ c.if-a-ne0.false (written (search rules)) refl
