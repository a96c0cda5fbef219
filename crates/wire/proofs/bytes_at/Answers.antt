-- The test is that of `bytes_at`. Assumes nothing.
use Rattle.std.proofs.Common.{rules}
use mathlib.Core.Path.{sym, ◌∙◌}
use Rattle.wire.proofs.Laws.{bytes-inside, bytes-past, test-passed, test-failed}
use Rattle.wire.proofs.bytes_at.Goals as goal

pub returns-then-inside : goal.returns-then-inside
returns-then-inside g c = rw (bytes-inside _ _ _ (test-passed c.inside.ensures c.if-inside.true)) (search rules)

pub returns-else-inside : goal.returns-else-inside
returns-else-inside g c = sym (bytes-past _ _ _ (test-failed c.inside.ensures c.if-inside.false))
