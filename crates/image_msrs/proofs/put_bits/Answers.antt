-- The loop's invariant: what is left of the bytes, behind what is written, gives all of them. Assumes nothing.
use Rattle.std.proofs.Common.{◌≡◌, ◌+◌, refl, ap, ◌∙◌, arith}
use Rattle.kvmi.specs.Record.{MS}
use Rattle.laws.proofs.Record.{length-write}
use Rattle.image_msrs.specs.Switches.{ms_bytes, one_at}
use Rattle.image_msrs.proofs.Stores.{going_start, going-same, going_step}
use Rattle.image_msrs.proofs.Switches.{going-put, bits-begin, bits_none, ms-first, ms-nil, length-ms}
use Rattle.image_msrs.proofs.put_bits.Goals as goal

pub loop-p-init : goal.loop-p-init
loop-p-init c =
    let left : c.into_iter-p-iterator.result.left ≡ c.args.w = cc in
    let at : c.into_iter-p-iterator.result.at ≡ c.args.g = cc in
    let end : c.into_iter-p-iterator.result.end ≡ c.args.g + 64 = cc in
    (end, going-same (going_start _ _ _ (rw length-ms (omega arith))) (ap ms_bytes (bits-begin one_at c.args.w c.args.g left at end)) refl)

pub put_ms-requires : goal.put_ms-requires
put_ms-requires c =
    let step = c.in-Some.ensures.steps in
    let g = c.loop-p.invariant.1 in
    let room = rw (step.2 one_at, length-ms) at g.room in
    (omega (arith, room, g.kept), omega (arith, step.0, c.loop-p.invariant.0))

pub loop-p-preserved : goal.loop-p-preserved
loop-p-preserved c =
    let step = c.in-Some.ensures.steps in
    let next = ap ms_bytes (step.2 one_at) ∙ ms-first _ _ in
    let more = going_step _ _ {q = c.loop-p.to + 8} c.loop-p.invariant.1 next c.put_ms.ensures (rw (length-write MS)) in
    (step.1 ∙ c.loop-p.invariant.0, rw step.1 more)

pub returns : goal.returns
returns c = going-put c.loop-p.invariant.1 (rw (c.in-None.ensures.steps, bits_none) ms-nil)
