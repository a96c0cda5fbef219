-- A kick and a crash take a place, the others none. Assumes nothing.
use mathlib.Core.Path.{sym}
use Prim.Native.Nat.{◌≤◌}
use native.Mathlib.Omega.{arith}
use mathlib.Core.Bool.{Bool, true, false}
use mir.Val.{bool_byte}
use Rattle.wire.proofs.Laws.{store-none}
use Rattle.store.proofs.BitLaws.{bool-bit}
use Rattle.batch.proofs.list.Goals as goal

bool-one : (on : Bool) → bool_byte on ≤ 1
bool-one true = omega arith
bool-one false = omega arith

pub overflow_add-vcpu-in-Kick : goal.overflow_add-vcpu-in-Kick
overflow_add-vcpu-in-Kick c = let one = bool-one c.in-Kick.wait in record { fits = omega arith }

pub returns-in-Quiet : goal.returns-in-Quiet
returns-in-Quiet c = rw c.in-Quiet.is (omega arith, sym (store-none _ _))

pub returns-in-Kick : goal.returns-in-Kick
returns-in-Kick c = rw (c.in-Kick.is, ← bool-bit c.in-Kick.wait) c.put.ensures

pub returns-in-Crash : goal.returns-in-Crash
returns-in-Crash c = rw c.in-Crash.is c.put-in-Crash.ensures

pub returns-in-Resume : goal.returns-in-Resume
returns-in-Resume c = rw c.in-Resume.is (omega arith, sym (store-none _ _))
