-- In the context nothing wraps: the address lies behind its start and before its end. Assumes nothing.
use mathlib.Core.Path.{sym, ◌∙◌}
use native.Mathlib.Omega.{arith}
use Rattle.laws.proofs.Feeds.{in-from, in-to}
use Rattle.feed.proofs.supplied.Goals as goal

pub overflow_sub-skipped : goal.overflow_sub-skipped
overflow_sub-skipped c = omega (arith, in-from _ _ _ (sym c.in_context.ensures ∙ c.if-in_context.true), in-to _ _ _ (sym c.in_context.ensures ∙ c.if-in_context.true))

pub overflow_add-result : goal.overflow_add-result
overflow_add-result c = omega (arith, in-from _ _ _ (sym c.in_context.ensures ∙ c.if-in_context.true), in-to _ _ _ (sym c.in_context.ensures ∙ c.if-in_context.true))

pub overflow_sub-result : goal.overflow_sub-result
overflow_sub-result c = omega (arith, in-from _ _ _ (sym c.in_context.ensures ∙ c.if-in_context.true), in-to _ _ _ (sym c.in_context.ensures ∙ c.if-in_context.true))
