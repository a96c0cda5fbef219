-- The bits that are left say the same as all of them. Assumes nothing.
use Rattle.std.proofs.Common.{◌≡◌, ℕ, ◌-◌, Bool}
use Rattle.kvmi.specs.Bits.{bits_have}
use Rattle.image_form.specs.Form.{Answers}
use Rattle.image_form.proofs.has_bits.Given as goal

abbrev pub invariant-loop-i : goal.invariant-loop-i
invariant-loop-i g l = (f : ℕ → Bool) → Answers (goal.F-post g l.allowed) f → bits_have f l.i (16 - l.i) l.x ≡ bits_have f 0 16 l.w
