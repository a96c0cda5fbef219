-- Inside, or past the end. Assumes nothing.
use mathlib.Core.Path.{◌≡◌, sym, ◌∙◌}
use native.Mathlib.Omega.{arith}
use lib.ListN.{replicate, length-replicate}
use borrow.Author.Rules.{rules}
use Rattle.wire.proofs.Laws.{put_mid-store, store-past, test-passed, test-failed}
use Rattle.wire.proofs.fill.Goals as goal

pub returns-then-inside : goal.returns-then-inside
returns-then-inside c =
    let a = c.args in
    let inside = test-passed c.inside.ensures c.if-inside.true in
    let e : c.fill.new.self ≡ replicate a.n a.v = c.fill.ensures.after (λ y h. h) ∙ search rules in
    rw e (put_mid-store a.out.now (replicate a.n a.v) a.at _ (rw length-replicate inside) (omega (arith, length-replicate a.n a.v)))

pub returns-else-inside : goal.returns-else-inside
returns-else-inside c = sym (store-past _ _ _ (rw length-replicate (test-failed c.inside.ensures c.if-inside.false)))
