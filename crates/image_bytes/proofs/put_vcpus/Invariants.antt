-- The loop's invariant: what is left of the bytes, behind what is written, gives all of them. Assumes nothing.
use Prim.Native.Nat.{◌+◌, ◌-◌, ◌*◌}
use Rattle.store.specs.Meaning.{vcpus_of}
use Rattle.image_bytes.specs.Parts.{vc_bytes}
use Rattle.image_msrs.proofs.Stores.{Going}
use Rattle.image_bytes.proofs.put_vcpus.Given as goal

abbrev pub invariant-loop-i : goal.invariant-loop-i
invariant-loop-i l = Going l.initial.out l.at (vc_bytes 0 (vcpus_of l.ready l.words 0 l.n)) l.out (l.at + 10 * l.i) (vc_bytes l.i (vcpus_of l.ready l.words l.i (l.n - l.i)))
