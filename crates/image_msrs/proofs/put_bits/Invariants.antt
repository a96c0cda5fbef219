-- The loop's invariant: what is left of the bytes, behind what is written, gives all of them. Assumes nothing.
use Rattle.std.proofs.Common.{◌≡◌, ◌+◌, ◌-◌}
use Rattle.image_msrs.specs.Switches.{ms_bytes, bits_from, one_at}
use Rattle.image_msrs.proofs.Stores.{Going}
use Rattle.image_msrs.proofs.put_bits.Given as goal

abbrev pub invariant-loop-p : goal.invariant-loop-p
invariant-loop-p l =
    (l.p-iterator.end ≡ l.g + 64)
    × Going l.initial.out l.at (ms_bytes (bits_from one_at l.w l.g 64)) l.out l.to (ms_bytes (bits_from one_at l.p-iterator.left l.p-iterator.at (l.p-iterator.end - l.p-iterator.at)))
