-- A number of 32 bits has no bit past 31. Assumes nothing.
use mathlib.Core.Path.{refl, sym, ◌∙◌}
use native.Mathlib.Omega.{arith}
use borrow.Author.Tests.{le-ltb}
use Rattle.kvmi.specs.Bits.{is_on, bit_of}
use Rattle.tests.proofs.Alike.{on-past}
use Rattle.tests.proofs.allows_event.Goals as goal

pub returns-then-event-lt32 : goal.returns-then-event-lt32
unfolding is_on bit_of
returns-then-event-lt32 c = refl

pub returns-else-event-lt32 : goal.returns-else-event-lt32
returns-else-event-lt32 c = le-ltb _ _ c.if-event-lt32.false ∙ sym (on-past c.args.events _ (omega arith) c.if-event-lt32.false)
