-- Each kind by itself. Assumes nothing.
use mathlib.Core.Path.{refl}
use Rattle.kvmi.specs.Reply.{answer_of}
use Rattle.reply.specs.Off.{kind_tells}
use Rattle.reply.proofs.Laws.{written_none}
use Rattle.reply.proofs.answer.Goals as goal

pub returns-in-CodeOnly : goal.returns-in-CodeOnly
unfolding answer_of kind_tells
returns-in-CodeOnly c = rw c.in-CodeOnly.is c.answer_code.ensures

pub returns-in-WithData : goal.returns-in-WithData
unfolding answer_of kind_tells
returns-in-WithData c = rw c.in-WithData.is c.answer_data.ensures

pub returns-in-Silent : goal.returns-in-Silent
unfolding answer_of kind_tells
returns-in-Silent c = rw c.in-Silent.is (record { written = written_none _; took = refl })
