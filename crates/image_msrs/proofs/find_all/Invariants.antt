-- The loop's invariant: so many switches were on, and those that are left are as many as were left out; the fours of the vCPUs passed are marked. Assumes nothing.
use mathlib.Core.Path.{◌≡◌}
use Prim.Native.Nat.{◌≤◌, ◌+◌, ◌-◌, ◌*◌}
use lib.ListN.{length}
use Rattle.image_msrs.specs.Switches.{switches_from, Marks}
use Rattle.image_msrs.proofs.find_all.Given as goal

abbrev pub invariant-loop-v : goal.invariant-loop-v
invariant-loop-v l = (length l.marks ≡ length l.initial.marks) × (l.on ≤ l.v * 16384) × (l.on + length (switches_from l.words (l.v * 16384) ((l.n - l.v) * 16384)) ≡ length (switches_from l.words 0 (l.n * 16384))) × Marks l.words l.v l.marks
