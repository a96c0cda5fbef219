-- The loop's invariant: what is left of the bytes, behind what is written, gives all of them. Assumes nothing.
use mathlib.Core.Path.{◌≡◌}
use Prim.Native.Nat.{◌-◌}
use native.Mathlib.Omega.{arith}
use Rattle.kvmi.specs.Record.{VC}
use Rattle.laws.proofs.Record.{length-write}
use Rattle.image_msrs.proofs.Stores.{going_start, going-same, going_step, going_end, part-written}
use Rattle.image_bytes.proofs.Written.{vc-next, vc-none, length-vc, length-vcpus}
use Rattle.image_bytes.proofs.put_vcpus.Goals as goal

pub loop-i-init : goal.loop-i-init
loop-i-init c =
    let a = c.args in
    let e : a.n - 0 ≡ a.n = omega arith in
    going-same (going_start _ _ _ (rw (length-vc, length-vcpus) (omega arith))) (rw e) (omega arith)

pub loop-i-preserved : goal.loop-i-preserved
loop-i-preserved c =
    let l = c.loop-i in
    let next = vc-next _ _ l.i c.args.n (omega arith) in
    going_step _ _ l.invariant next (part-written _ _ 10 _ _ c.vc.ensures (length-write VC _) (omega arith)) (rw (length-write VC) (omega arith))

pub returns : goal.returns
returns c =
    let l = c.loop-i in
    let a = c.args in
    going_end l.invariant (vc-none _ _ l.i a.n (omega arith))
