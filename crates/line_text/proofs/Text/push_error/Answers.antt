-- A negative number is a minus sign and then its negation. Assumes nothing.
use Rattle.std.proofs.Common.{◌≡◌, refl, ap, ◌∙◌, true, zero, suc, arith, rules, length-append, append_assoc}
use lib.Dec.{T}
use lib.IntN.{ℤ, pos, negsuc, nat_abs}
use lib.Signed.{lt_z, non_neg}
use borrow.Author.Tests.{ltb-true}
use mir.Facts.{to_z-of_z}
use mir.Syntax.{w32, w64}
use mir.Val.{Fits, SFits, to_z, of_z}
use Rattle.wire.specs.Code.{negated}
use Rattle.wire.proofs.Codes.{negated_fits}
use Rattle.line_text.specs.Text.{code_text}
use Rattle.line_text.proofs.Texts.{decimal_fits, signed_below, signed_above}
use Rattle.line_text.proofs.Text.push_error.Goals as goal

-- a negative code's negation is no negative number, and as far from 0
below : (e : ℤ) → SFits w32 e → lt_z e (pos 0) ≡ true → T (non_neg (negated e)) × Fits w64 (nat_abs (negated e))
unfolding negated
below (pos n) f h = absurd (omega (arith, ltb-true n 0 h))
below (negsuc n) f h = (tt, record { fits = omega (arith, f.sfits) })

as-far : (e : ℤ) → nat_abs (negated e) ≡ nat_abs e
unfolding negated
as-far (pos zero) = refl
as-far (pos (suc n)) = refl
as-far (negsuc n) = refl

pub overflow_cast-negate : goal.overflow_cast-negate
overflow_cast-negate c =
    let f : SFits w32 c.in-Some.e = search rules in
    let e = to_z-of_z f in
    let n = c.negate.ensures ∙ ap negated e in
    rw (n, to_z-of_z (negated_fits _ f)) (below _ f (rw e at c.if-e-lt0.true))

pub push_decimal-requires : goal.push_decimal-requires
push_decimal-requires c = rw (c.push_all-in-Some.ensures, length-append) (omega (arith, decimal_fits (nat_abs (to_z w64 (of_z w64 c.negate.result)))))

pub returns-in-Some-clause-value : goal.returns-in-Some-clause-value
unfolding code_text
returns-in-Some-clause-value c =
    let f : SFits w32 c.in-Some.e = search rules in
    let e = to_z-of_z f in
    let n = c.negate.ensures ∙ ap negated e in
    rw (
      c.push_decimal.ensures,
      c.push_all-in-Some.ensures,
      c.in-Some.is,
      n,
      to_z-of_z (negated_fits _ f),
      as-far _,
      signed_below _ (rw e at c.if-e-lt0.true),
    ) (simp append_assoc)

pub returns-in-Some-clause-upper_bound : goal.returns-in-Some-clause-upper_bound
returns-in-Some-clause-upper_bound c =
    rw (c.push_decimal.ensures, c.push_all-in-Some.ensures) (simp length-append (omega (arith, decimal_fits (nat_abs (to_z w64 (of_z w64 c.negate.result))))))

pub returns-in-Some-2-clause-value : goal.returns-in-Some-2-clause-value
unfolding code_text
returns-in-Some-2-clause-value c =
    let f : SFits w32 c.in-Some.e = search rules in
    let e = to_z-of_z f in
    let same : c.in-Some-2.e ≡ c.in-Some.e = cc in
    rw (c.push_field.ensures.value, c.in-Some.is, c.unsigned_abs.ensures.value, same, e, signed_above _ (rw e at c.if-e-lt0.false))
