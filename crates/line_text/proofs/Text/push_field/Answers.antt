-- Assumes nothing.
use Rattle.std.proofs.Common.{arith, length-append}
use Rattle.line_text.proofs.Texts.{decimal_fits}
use Rattle.line_text.proofs.Text.push_field.Goals as goal

pub push_decimal-requires : goal.push_decimal-requires
push_decimal-requires c = rw (c.push.ensures, length-append) (omega (arith, decimal_fits c.args.n))

pub returns-clause-upper_bound : goal.returns-clause-upper_bound
returns-clause-upper_bound c = rw (c.push_decimal.ensures, c.push.ensures) (simp length-append (omega (arith, decimal_fits c.args.n)))
