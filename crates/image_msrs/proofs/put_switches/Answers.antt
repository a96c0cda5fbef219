-- The loop's invariant: what is left of the bytes, behind what is written, gives all of them. Assumes nothing.
use mathlib.Core.Path.{◌≡◌, ap, ◌∙◌}
use Prim.Native.Nat.{◌-◌, ◌*◌}
use native.Mathlib.Omega.{arith}
use lib.ListN.{length-append}
use Rattle.image_msrs.specs.Switches.{ms_bytes, switches_from}
use Rattle.image_msrs.proofs.Stores.{going_start, going_step, going_end}
use Rattle.image_msrs.proofs.Switches.{vcpu-from, vcpus-none, ms-append, ms-nil, length-ms}
use Rattle.image_msrs.proofs.put_switches.Goals as goal

pub loop-v-init : goal.loop-v-init
loop-v-init c =
    let e : (c.args.n - 0) * 16384 ≡ c.args.n * 16384 = omega arith in
    rw e (going_start c.args.out.now c.args.at (ms_bytes (switches_from c.args.words.now 0 (c.args.n * 16384))) (rw length-ms (omega arith)))

pub put_vcpu-to-requires : goal.put_vcpu-to-requires
put_vcpu-to-requires c =
    let next = vcpu-from c.args.words.now c.loop-v.v c.args.n (omega arith) in
    let g = c.loop-v.invariant in
    let room = rw (next, length-ms, length-append) at g.room in
    (omega arith, rw (c.requires.2.all c.loop-v.v (omega arith)) (omega (arith, room, g.kept)))

pub loop-v-preserved : goal.loop-v-preserved
loop-v-preserved c =
    let put = rw (c.requires.2.all c.loop-v.v (omega arith)) at c.put_vcpu-to.ensures in
    let next = ap ms_bytes (vcpu-from c.args.words.now c.loop-v.v c.args.n (omega arith)) ∙ ms-append _ _ in
    going_step _ _ {q = c.put_vcpu-to.result} c.loop-v.invariant next put.there (rw length-ms put.next)

pub returns : goal.returns
returns c = going_end c.loop-v.invariant (rw (vcpus-none c.args.words.now c.loop-v.v c.args.n (omega arith)) ms-nil)
