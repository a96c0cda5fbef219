-- The loop's invariant: what is left of the bytes, behind what is written, gives all of them. Assumes nothing.
use mathlib.Core.Path.{refl, ◌∙◌}
use native.Mathlib.Omega.{arith}
use Rattle.kvmi.specs.Record.{PA}
use Rattle.laws.proofs.Record.{length-write}
use Rattle.image_msrs.proofs.Stores.{going_start, going-same, going_step, going_end, part-written}
use Rattle.image_bytes.proofs.Written.{pages-start, pa-next, pa-none, length-pa, length_from}
use Rattle.image_bytes.proofs.put_pages.Goals as goal

pub loop-i-init : goal.loop-i-init
loop-i-init c =
    let a = c.args in
    going-same (going_start _ _ _ (rw (length-pa, length_from a.pages.now a.used 0 (omega arith)) (omega arith))) refl (omega arith)

pub loop-i-preserved : goal.loop-i-preserved
loop-i-preserved c =
    let l = c.loop-i in
    let next = pa-next _ _ l.i (omega arith) c.requires.0 in
    going_step _ _ l.invariant next (part-written _ _ 14 _ _ c.pa.ensures (length-write PA _) (omega arith)) (rw (length-write PA) (omega arith))

pub returns : goal.returns
returns c =
    let l = c.loop-i in
    let a = c.args in
    going_end l.invariant (pa-none a.pages.now a.used l.i (omega arith) (omega arith)) ∙ rw (pages-start a.pages.now a.used)
