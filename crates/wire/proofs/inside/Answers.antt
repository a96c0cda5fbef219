-- Where the place is inside, the room behind it decides; where it is not, no bytes at it are. Assumes nothing.
use mathlib.Core.Path.{◌≡◌, sym, ◌∙◌}
use mathlib.Core.Logic.{⊎_elim}
use Prim.Native.Nat.{ℕ, ◌+◌, ◌-◌, ◌≤◌}
use native.Mathlib.Omega.{arith}
use lib.Dec.{leb}
use borrow.Author.Tests.{le-leb, lt-leb}
use Rattle.wire.proofs.Laws.{le-or-lt}
use Rattle.wire.proofs.inside.Goals as goal

room : (n at k : ℕ) → at ≤ n → leb k (n - at) ≡ leb (at + k) n
room n at k h = ⊎_elim
    (λ g. rw (le-leb (at + k) n g, le-leb k (n - at) (omega arith)))
    (λ g. rw (lt-leb (at + k) n g, lt-leb k (n - at) (omega arith)))
    (le-or-lt (at + k) n)

pub returns-then-at-n : goal.returns-then-at-n
returns-then-at-n c = room c.args.n c.args.at c.args.k c.if-at-n.true

pub returns-else-at-n : goal.returns-else-at-n
returns-else-at-n c = let a = c.args in lt-leb _ _ c.if-at-n.false ∙ sym (lt-leb (a.at + a.k) a.n (omega arith))
