-- The loop's invariant: so many switches were on, and those that are left are as many as were left out; the fours of the vCPUs passed are marked. Assumes nothing.
use mathlib.Core.Path.{◌≡◌, ap, ◌∙◌}
use Prim.Native.Nat.{◌-◌, ◌*◌}
use native.Mathlib.Omega.{arith}
use lib.ListN.{length, length-set, length-append}
use Rattle.image_msrs.specs.Switches.{switches_from}
use Rattle.image_msrs.proofs.Switches.{vcpu-from, vcpus-none, from-bound, marks-none, marks-next}
use Rattle.image_msrs.proofs.find_all.Goals as goal

pub loop-v-init : goal.loop-v-init
loop-v-init c = let e : (c.args.n - 0) * 16384 ≡ c.args.n * 16384 = omega arith in (omega arith, omega arith, rw e (omega arith), marks-none _ _)

pub overflow_add-on : goal.overflow_add-on
overflow_add-on c =
    let all = from-bound c.args.words.now (c.loop-v.v * 16384) 16384 in
    omega (arith, c.find-found.ensures.count)

pub loop-v-preserved : goal.loop-v-preserved
loop-v-preserved c =
    let w = c.args.words.now in
    let f = c.find-found.ensures in
    let all = from-bound w (c.loop-v.v * 16384) 16384 in
    let next = ap length (vcpu-from w c.loop-v.v c.args.n (omega arith)) ∙ length-append (switches_from w (c.loop-v.v * 16384) 16384) _ in
    (rw length-set c.loop-v.invariant.0, omega (arith, f.count), omega (arith, c.loop-v.invariant.2, f.count), marks-next w c.loop-v.invariant.3 f (omega arith))

pub returns : goal.returns
returns c =
    let none = ap length (vcpus-none c.args.words.now c.loop-v.v c.args.n (omega arith)) in
    let all : c.loop-v.v ≡ c.args.n = omega arith in
    (omega (arith, c.loop-v.invariant.2), rw all at c.loop-v.invariant.3)
