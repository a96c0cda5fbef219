-- By the promise of `message`, on parts of the input and of the output. Assumes nothing.
use mathlib.Core.Path.{refl}
use Prim.Native.Nat.{◌+◌, ◌-◌, ◌≤◌}
use native.Mathlib.Omega.{arith}
use lib.ListN.{length}
use Rattle.batch.proofs.Turns.{goes_of}
use Rattle.kvmi.specs.Answer.{paper}
use Rattle.batch.specs.Batch.{fed_at}
use Rattle.batch.proofs.Parts.{cut_inside, wrote-inside, fed-inside, turn-told}
use Rattle.batch.proofs.turn.Goals as goal

pub slice_bounds-next_length-count : goal.slice_bounds-next_length-count
slice_bounds-next_length-count c = let m = (goes_of _ _ c.requires).more in omega arith

pub slice_bounds-next_length-start : goal.slice_bounds-next_length-start
slice_bounds-next_length-start c = let m = (goes_of _ _ c.requires).more in omega arith

pub overflow_add-end : goal.overflow_add-end
overflow_add-end c = let i = cut_inside c.args.input.now c.args.b.used _ (goes_of _ _ c.requires).more c.next_length.ensures in record { fits = omega arith }

pub slice_bounds-take-end : goal.slice_bounds-take-end
slice_bounds-take-end c = cut_inside c.args.input.now c.args.b.used _ (goes_of _ _ c.requires).more c.next_length.ensures

pub slice_bounds-take-start-2 : goal.slice_bounds-take-start-2
slice_bounds-take-start-2 c = let m = (goes_of _ _ c.requires).room in omega arith

pub slice_bounds-take-count-2 : goal.slice_bounds-take-count-2
slice_bounds-take-count-2 c = let m = (goes_of _ _ c.requires).room in omega arith

pub count-requires : goal.count-requires
count-requires c =
    let g = goes_of _ _ c.requires in
    let r = g.room in
    let m = g.more in
    let k = c.well_formed.1.1.1.1.0.0 in
    let l = c.well_formed.1.1.1.0.0 in
    let i : (paper c.take-done.result.answer).count ≤ length c.args.out.now - c.args.b.count =
    wrote-inside c.take-done.result _ _ _ _ _ _ c.args.out.now c.args.b.count _ c.take-done.ensures in
    let s : c.args.b.count + (paper c.take-done.result.answer).count ≤ 18446744073709551615 = omega arith in
    let f : c.args.b.used + fed_at (paper c.take-done.result.answer).signal ≤ length c.args.input.now =
    fed-inside c.take-done.result _ _ _ _ _ c.args.input.now c.args.b.used (c.args.b.used + c.next_length.result - c.args.b.used) _ _ (omega arith) c.take-done.ensures in
    let t : c.args.b.used + fed_at (paper c.take-done.result.answer).signal ≤ 18446744073709551615 = omega arith in
    (g.place, s, t)

pub returns : goal.returns
returns c =
    let m = (goes_of _ _ c.requires).room in
    turn-told c.args.b c.count.result c.take-done.result c.args.input.now c.args.vcpus.now c.args.pages.now c.args.out.now c.args.signals.now c.args.guest.now _ _ _ _ _
    c.next_length.result (omega arith) c.next_length.ensures c.take-done.ensures (c.count.ensures _ _ _ c.args.out.now _ c.args.guest.now _ c.args.vcpus.now c.args.pages.now refl)
