-- The loop's invariant: what is left of the bytes, behind what is written, gives all of them. Assumes nothing.
use Prim.Native.Nat.{◌-◌, ◌*◌}
use Rattle.image_msrs.specs.Switches.{ms_bytes, switches_from}
use Rattle.image_msrs.proofs.Stores.{Going}
use Rattle.image_msrs.proofs.put_switches.Given as goal

abbrev pub invariant-loop-v : goal.invariant-loop-v
invariant-loop-v l = Going l.initial.out l.at (ms_bytes (switches_from l.words 0 (l.n * 16384))) l.out l.to (ms_bytes (switches_from l.words (l.v * 16384) ((l.n - l.v) * 16384)))
