-- A word has no bit from 64 on. Assumes nothing.
use mathlib.Core.Path.{refl, sym, ◌∙◌}
use borrow.Author.Tests.{le-ltb}
use Rattle.kvmi.specs.Bits.{is_on, bit_of}
use Rattle.kvmi.proofs.Past.{off-past}
use Rattle.kvmi.proofs.bits.is_on.Goals as goal

pub returns-then-k-lt64 : goal.returns-then-k-lt64
unfolding is_on bit_of
returns-then-k-lt64 c = refl

pub returns-else-k-lt64 : goal.returns-else-k-lt64
returns-else-k-lt64 c = le-ltb _ _ c.if-k-lt64.false ∙ sym (off-past _ _ c.ranges.w.fits c.if-k-lt64.false)
