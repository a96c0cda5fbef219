-- Every i32 has its negation in 64 bits. Assumes nothing.
use mathlib.Core.Path.{◌≡◌, sym, ◌∙◌}
use lib.IntN.{ℤ, pos, neg_ℤ, ◌-ℤ◌, +ℤ_idl}
use mir.Facts.{to_z-of_z}
use Rattle.wire.specs.Code.{negated}
use Rattle.wire.proofs.Codes.{negated-minus, negated_fits, wider}
use Rattle.wire.proofs.negate.Goals as goal

minus : (e : ℤ) → pos 0 -ℤ e ≡ negated e
minus e = +ℤ_idl (neg_ℤ e) ∙ sym (negated-minus e)

pub overflow_cast-result : goal.overflow_cast-result
overflow_cast-result c = let f = c.ranges.e in rw (to_z-of_z f) (wider _ f)

pub overflow_sub-result : goal.overflow_sub-result
overflow_sub-result c = let f = c.ranges.e in rw (to_z-of_z f, to_z-of_z (wider _ f), minus c.args.e) (negated_fits _ f)

pub returns : goal.returns
returns c = let f = c.ranges.e in rw (to_z-of_z f, to_z-of_z (wider _ f), minus c.args.e) (to_z-of_z (negated_fits _ f))
