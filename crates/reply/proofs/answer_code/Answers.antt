-- The reply is what `put_code` writes. Assumes nothing.
use Rattle.std.proofs.Common.{rules}
use Rattle.reply.proofs.answer_code.Goals as goal

pub returns : goal.returns
returns c = c.answer_by.ensures _ (λ called. search rules)
