-- The parts' lengths are the image's. Assumes nothing.
use native.Mathlib.Omega.{arith}
use Rattle.image_msrs.proofs.Switches.{msrs-bound}
use Rattle.image_bytes.proofs.Written.{stated-size}
use Rattle.image_bytes.proofs.measure.Goals as goal

pub size_of-requires : goal.size_of-requires
size_of-requires c = let b = msrs-bound c.args.vcpus.now c.stated_count-n.result in omega arith

pub returns : goal.returns
returns c = λ events ready.
    let a = c.args in
    stated-size events ready a.count a.used a.vcpus.now a.pages.now _ _ c.stated_count-n.ensures c.min-held.ensures _ _ c.count-on.ensures c.size_of.ensures
