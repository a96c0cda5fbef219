-- By the rule; a size is compared with the bytes behind the first 16, so that nothing wraps. Assumes nothing.
use Prim.Native.Nat.{◌+◌, ◌-◌}
use native.Mathlib.Omega.{arith}
use lib.ListN.{length}
use borrow.Author.Tests.{lt-leb, le-leb}
use Rattle.kvmi.specs.Message.{size_fits}
use Rattle.tests.proofs.Alike.{eqb-alike}
use Rattle.tests.proofs.size_fits.Goals as goal

pub returns-else-n-ge16 : goal.returns-else-n-ge16
unfolding size_fits
returns-else-n-ge16 c = rw (c.in-SizeField.is, lt-leb 16 _ c.if-n-ge16.false)

pub returns-in-Exactly : goal.returns-in-Exactly
unfolding size_fits
returns-in-Exactly c = rw c.in-Exactly.is

pub returns-then-n-ge16 : goal.returns-then-n-ge16
unfolding size_fits
returns-then-n-ge16 c =
    let n = length c.args.d.now in
    let size = c.load.result in
    rw (c.in-SizeField.is, le-leb 16 _ c.if-n-ge16.true, ← c.load.ensures) (eqb-alike (n - 16) size n (16 + size) (λ h. omega arith) (λ h. omega arith))

pub returns-in-Entries : goal.returns-in-Entries
unfolding size_fits
returns-in-Entries c = rw c.in-Entries.is

pub returns-in-ByEvent : goal.returns-in-ByEvent
unfolding size_fits
returns-in-ByEvent c = rw c.in-ByEvent.is
