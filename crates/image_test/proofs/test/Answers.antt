-- By the first record. Assumes nothing.
use Rattle.std.proofs.Common.{◌≡◌, Err, sym, ◌∙◌, rules}
use Rattle.kvmi.specs.Image.{load_image}
use Rattle.image_test.specs.Test.{outcome}
use Rattle.image_test.proofs.Steps.{first_goes, began, begin-refused}
use Rattle.image_test.proofs.test.Goals as goal

pub returns-in_err-first : goal.returns-in_err-first
returns-in_err-first c =
    let s = c.args.s in
    let l = c.args.l.now in
    let k : c.from_residual.result ≡ Err c.in_err-first.field-0.0 = search rules in
    k ∙ begin-refused s l (outcome (load_image s l)) _ _ (sym c.first_step.ensures ∙ c.in_err-first.was) (first_goes s l)

pub test_rest-requires : goal.test_rest-requires
test_rest-requires c =
    let s = c.args.s in
    let l = c.args.l.now in
    began s l (outcome (load_image s l)) _ _ (sym c.first_step.ensures ∙ c.in_ok-first.was) (first_goes s l)
