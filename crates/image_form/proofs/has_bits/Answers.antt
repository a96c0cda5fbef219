-- The next bit fits, or ends the test. Assumes nothing.
use Rattle.std.proofs.Common.{sym, ◌∙◌, arith, eq-eqb, ne_eqb}
use Rattle.image_form.proofs.Forms.{bits-step, bits-stop, bits-end}
use Rattle.image_form.proofs.has_bits.Goals.{else-x-ne0-via-then-x-ne0+else-not-allowed, else-x-ne0-via-else-x-ne0}
use Rattle.image_form.proofs.has_bits.Goals as goal

pub returns-then-not-allowed : goal.returns-then-not-allowed
returns-then-not-allowed g c =
    λ f t. let a = t c.loop-i.i c.allowed.result (omega arith) c.allowed.ensures in
    sym (bits-stop f c.loop-i.i c.loop-i.x (omega arith) (rw (ne_eqb _ _ c.if-x-ne0.true, ← a) c.if-not-allowed.true)) ∙ c.loop-i.invariant f t

pub loop-i-preserved : goal.loop-i-preserved
loop-i-preserved g c =
    λ f t. sym (bits-step f c.loop-i.i c.loop-i.x (omega arith) (elim c.else-x-ne0.branch [
      | else-x-ne0-via-then-x-ne0+else-not-allowed w ↦ rw (ne_eqb _ _ w.if-x-ne0.true, ← t c.loop-i.i w.allowed.result (omega arith) w.allowed.ensures) w.if-not-allowed.false
      | else-x-ne0-via-else-x-ne0 w ↦ rw (eq-eqb _ _ w.if-x-ne0.false)
    ])) ∙ c.loop-i.invariant f t

pub returns : goal.returns
returns g c = λ f t. sym (bits-end f c.loop-i.i c.loop-i.x (omega arith)) ∙ c.loop-i.invariant f t
