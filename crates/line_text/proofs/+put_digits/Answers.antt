-- The last digit follows the others. Assumes nothing.
use Rattle.std.proofs.Common.{ℕ, [], ◌∷◌, ◌++◌, ◌/◌, ◌<◌, ap, arith, rules, append_assoc, length, take}
use Rattle.std.proofs.lemmas.List.{take_more_set}
use Rattle.line_text.specs.Text.{decimal}
use Rattle.line_text.proofs.Texts.{decimal-one, decimal-more, length-decimal_one, length-decimal_more}
use Rattle.line_text.proofs.+put_digits.Goals as goal
use Rattle.line_text.proofs.+put_digits.Goals.{then-n-ge10, else-n-ge10}

pub put_digits-last-requires : goal.put_digits-last-requires
put_digits-last-requires t c = (search rules, omega (arith, length-decimal_more c.args.n c.if-n-ge10.true (omega arith)))

pub bounds-bytes-last : goal.bounds-bytes-last
bounds-bytes-last t c =
    elim c.if-n-ge10.branch [
      | then-n-ge10 w ↦ rw w.last-is (omega (arith, w.put_digits-last.ensures.place, length-decimal_more c.args.n w.if-n-ge10.true (omega arith)))
      | else-n-ge10 w ↦ rw w.last-is (omega (arith, length-decimal_one c.args.n w.if-n-ge10.false))
    ]

pub returns-clause-place : goal.returns-clause-place
returns-clause-place t c =
    elim c.if-n-ge10.branch [
      | then-n-ge10 w ↦ rw w.last-is (omega (arith, w.put_digits-last.ensures.place, length-decimal_more c.args.n w.if-n-ge10.true (omega arith)))
      | else-n-ge10 w ↦ rw w.last-is (omega (arith, length-decimal_one c.args.n w.if-n-ge10.false))
    ]

pub returns-clause-digits : goal.returns-clause-digits
returns-clause-digits t c =
    let inside : c.if-n-ge10.last < length c.if-n-ge10.bytes = rw c.if-n-ge10.array_long (omega (arith, returns-clause-place t c)) in
    rw (take_more_set c.if-n-ge10.bytes c.if-n-ge10.last _ inside)
    (elim c.if-n-ge10.branch [
      | then-n-ge10 w ↦
          rw (w.last-is, w.bytes-is, w.put_digits-last.ensures.digits, decimal-more c.args.n w.if-n-ge10.true (omega arith), append_assoc)
          (ap (λ (d : ℕ). take c.args.at c.args.bytes.now ++ (decimal (c.args.n / 10) ++ d ∷ [])) (omega arith))
      | else-n-ge10 w ↦
          rw (w.last-is, w.bytes-is, decimal-one c.args.n w.if-n-ge10.false) (ap (λ (d : ℕ). take c.args.at c.args.bytes.now ++ d ∷ []) (omega arith))
    ])
