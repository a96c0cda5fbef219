-- The two tests are those of `is_whole`. Assumes nothing.
use mathlib.Core.Path.{◌≡◌, sym}
use Prim.Native.Nat.{◌+◌}
use native.Mathlib.Omega.{arith}
use lib.ListN.{length}
use Rattle.wire.specs.Bytes.{load}
use Rattle.wire.proofs.Laws.{header-whole, header-broken}
use Rattle.wire.proofs.read_header.Goals as goal

pub returns-then-n-lt8 : goal.returns-then-n-lt8
returns-then-n-lt8 c = sym (header-broken _ (λ h g. omega arith))

pub returns-then-n-size : goal.returns-then-n-size
returns-then-n-size c =
    let s = c.args.s.now in
    let g : length s ≡ 8 + load 2 s 2 = omega arith in
    rw (c.load.ensures, c.load-size.ensures, c.load-then-n-size.ensures) (sym (header-whole s (omega arith) g))

pub returns-else-n-size : goal.returns-else-n-size
returns-else-n-size c = sym (header-broken _ (λ h g. c.if-n-size.false (omega arith)))
