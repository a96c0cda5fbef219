-- The loop's invariant: what is left of the bytes, behind what is written, gives all of them. Assumes nothing.
use Rattle.std.proofs.Common.{◌≡◌, ◌+◌, ◌<◌, refl, ap, ◌∙◌, arith}
use lib.ListN.{length-append}
use Rattle.image_msrs.specs.Switches.{ms_bytes, four_of}
use Rattle.image_msrs.proofs.Stores.{going_start, going-same, going_step}
use Rattle.image_msrs.proofs.Switches.{going-put, bits-begin, bits_none, four-bits, ms-append, ms-nil, length-ms}
use Rattle.image_msrs.proofs.put_vcpu.Goals as goal

pub loop-j-init : goal.loop-j-init
loop-j-init c =
    let left : c.into_iter-j-iterator.result.left ≡ c.args.fours = cc in
    let at : c.into_iter-j-iterator.result.at ≡ 0 = cc in
    let end : c.into_iter-j-iterator.result.end ≡ 0 + 64 = cc in
    (omega (arith, end), going-same (going_start _ _ _ (rw length-ms (omega arith))) (ap ms_bytes (bits-begin (four_of c.args.words.now c.args.v) c.args.fours 0 left at end)) refl)

pub put_four-to-requires : goal.put_four-to-requires
put_four-to-requires c =
    let step = c.in-Some.ensures.steps in
    let low : c.in-Some.j < 64 = omega (arith, step.0, c.loop-j.invariant.0) in
    let four = four-bits c.args.words.now c.args.v c.in-Some.j low in
    let g = c.loop-j.invariant.1 in
    let room = rw (step.2 (four_of c.args.words.now c.args.v), length-ms, length-append) at g.room in
    (omega (arith, low), rw (c.read_four-f.ensures, four) (omega (arith, room, g.kept)))

pub loop-j-preserved : goal.loop-j-preserved
loop-j-preserved c =
    let step = c.in-Some.ensures.steps in
    let low : c.in-Some.j < 64 = omega (arith, step.0, c.loop-j.invariant.0) in
    let four = four-bits c.args.words.now c.args.v c.in-Some.j low in
    let next = ap ms_bytes (step.2 (four_of c.args.words.now c.args.v)) ∙ ms-append _ _ in
    let put = rw (c.read_four-f.ensures, four) at c.put_four-to.ensures in
    let more = going_step _ _ {q = c.put_four-to.result} c.loop-j.invariant.1 next put.there (rw length-ms put.next) in
    (step.1 ∙ c.loop-j.invariant.0, rw step.1 more)

pub returns : goal.returns
returns c = going-put c.loop-j.invariant.1 (rw (c.in-None.ensures.steps, bits_none) ms-nil)
