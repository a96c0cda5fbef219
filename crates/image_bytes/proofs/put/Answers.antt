-- Where there is room, all of it is written, and else nothing. Assumes nothing.
use mathlib.Core.Path.{sym}
use native.Mathlib.Omega.{arith}
use lib.Seq.{length-take-le}
use Rattle.image_msrs.proofs.Switches.{msrs-bound}
use Rattle.image_bytes.proofs.Written.{stated-size, stated-written, stated-short}
use Rattle.image_bytes.proofs.put.Goals as goal

pub slice_bounds-put-end-2 : goal.slice_bounds-put-end-2
slice_bounds-put-end-2 c = sym (length-take-le _ _ (omega arith))

pub size_of-size-requires : goal.size_of-size-requires
size_of-size-requires c =
    let b = msrs-bound c.args.vcpus.now c.stated_count-n.result in
    let e = c.put-on.ensures.value in
    omega (arith, b, e)

pub returns-then-size-out : goal.returns-then-size-out
returns-then-size-out c =
    let a = c.args in
    let n = c.stated_count-n.ensures in
    let held = c.min-held.ensures in
    let on = c.put-on.ensures in
    let size = c.size_of-size.ensures in
    let room = c.saturating_sub-room.ensures in record {
      value = stated-size a.events a.ready a.count a.used a.vcpus.now a.pages.now _ _ n held _ _ on.value size;
      out_after = stated-written a.events a.ready a.count a.used a.vcpus.now a.pages.now _ _ n held _ _ on.value size a.out.now _ _ room on.out_after _ (omega arith) c.put_frame.ensures;
    }

pub returns-else-size-out : goal.returns-else-size-out
returns-else-size-out c =
    let a = c.args in
    let n = c.stated_count-n.ensures in
    let held = c.min-held.ensures in
    let on = c.put-on.ensures in
    let size = c.size_of-size.ensures in
    let room = c.saturating_sub-room.ensures in record {
      value = stated-size a.events a.ready a.count a.used a.vcpus.now a.pages.now _ _ n held _ _ on.value size;
      out_after = stated-short a.events a.ready a.count a.used a.vcpus.now a.pages.now _ _ n held _ _ on.value size a.out.now _ _ room on.out_after (omega arith);
    }
