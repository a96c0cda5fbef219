-- The loop's invariant: what is left of the bytes, behind what is written, gives all of them. Assumes nothing.
use Prim.Native.Nat.{◌-◌}
use Rattle.std.proofs.Common.{◌≡◌}
use Rattle.image_msrs.specs.Switches.{ms_bytes, bits_from, four_of}
use Rattle.image_msrs.proofs.Stores.{Going}
use Rattle.image_msrs.proofs.put_vcpu.Given as goal

abbrev pub invariant-loop-j : goal.invariant-loop-j
invariant-loop-j l =
    (l.j-iterator.end ≡ 64)
    × Going l.initial.out l.at (ms_bytes (bits_from (four_of l.words l.v) l.fours 0 64)) l.out l.to
    (ms_bytes (bits_from (four_of l.words l.v) l.j-iterator.left l.j-iterator.at (l.j-iterator.end - l.j-iterator.at)))
