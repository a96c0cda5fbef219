-- By what the next step says. Assumes nothing.
use Rattle.std.proofs.Common.{◌≡◌, Ok, Err, sym, ap, ◌∙◌, arith, rules}
use Rattle.kvmi.specs.Image.{load_image}
use Rattle.image_test.specs.Test.{outcome}
use Rattle.image_test.proofs.Steps.{next-goes, went, ended, refused}
use Rattle.image_test.proofs.test_rest.Goals as goal

pub returns-in_err-next : goal.returns-in_err-next
returns-in_err-next c =
    let s = c.args.s in
    let l = c.args.l.now in
    let o = outcome (load_image s l) in
    let g = next-goes s l o c.well_formed.1.0.0 c.loop-next.p c.loop-next.invariant in
    let k : c.from_residual.result ≡ Err c.in_err-next.field-0.0 = search rules in
    k ∙ refused s l o _ _ _ (sym c.next_step.ensures ∙ c.in_err-next.was) g

pub returns-in-End : goal.returns-in-End
returns-in-End c =
    let s = c.args.s in
    let l = c.args.l.now in
    let o = outcome (load_image s l) in
    let g = next-goes s l o c.well_formed.1.0.0 c.loop-next.p c.loop-next.invariant in
    ended s l o _ _ _ (sym c.next_step.ensures ∙ c.in_ok-next.was ∙ ap Ok c.in-End.is) g

pub loop-next-smaller : goal.loop-next-smaller
loop-next-smaller c =
    let s = c.args.s in
    let l = c.args.l.now in
    let o = outcome (load_image s l) in
    let g = next-goes s l o c.well_formed.1.0.0 c.loop-next.p c.loop-next.invariant in
    let w = went s l o _ _ _ (sym c.next_step.ensures ∙ c.in_ok-next.was ∙ ap Ok c.in-Next.is) g in
    omega (arith, w.1, w.0.stands.inside)

pub loop-next-preserved : goal.loop-next-preserved
loop-next-preserved c =
    let s = c.args.s in
    let l = c.args.l.now in
    let o = outcome (load_image s l) in
    let g = next-goes s l o c.well_formed.1.0.0 c.loop-next.p c.loop-next.invariant in
    (went s l o _ _ _ (sym c.next_step.ensures ∙ c.in_ok-next.was ∙ ap Ok c.in-Next.is) g).0
