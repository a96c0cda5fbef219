-- The loop's invariant: what is left of the bytes, behind what is written, gives all of them. Assumes nothing.
use Prim.Native.Nat.{◌+◌, ◌*◌}
use Rattle.image_bytes.specs.Parts.{pa_bytes}
use Rattle.image_msrs.proofs.Stores.{Going}
use Rattle.image_bytes.proofs.Written.{pages_from}
use Rattle.image_bytes.proofs.put_pages.Given as goal

abbrev pub invariant-loop-i : goal.invariant-loop-i
invariant-loop-i l = Going l.initial.out l.at (pa_bytes (pages_from l.pages l.used 0)) l.out (l.at + 14 * l.i) (pa_bytes (pages_from l.pages l.used l.i))
