-- The loop's invariant: the bytes that are left say what all of them do. Assumes nothing.
use mathlib.Core.Path.{◌≡◌}
use Prim.Native.Nat.{◌+◌, ◌-◌}
use Rattle.kvmi.specs.Message.{first_non_zero}
use Rattle.padding.proofs.first_nonzero.Given as goal

abbrev pub invariant-loop-i : goal.invariant-loop-i
invariant-loop-i l = first_non_zero l.d l.i (l.at + l.n - l.i) 0 ≡ first_non_zero l.d l.at l.n 0
