-- The numbers are those of the first n vCPUs, and the closure computes the test of one. Assumes nothing.
use Rattle.std.proofs.Common.{ℕ, not, eqb, rules, tests, ◌∙◌}
use Rattle.std.proofs.lemmas.Iterator.{YieldsList-from_range}
use Rattle.std.proofs.lemmas.Iterator.Search.{any_from_yields_List}
use Rattle.store.specs.Words.{field, AWAITED}
use Rattle.image_writer.proofs.Call.{awaits-list}
use Rattle.image_writer.proofs.awaits.Goals as goal

pub returns : goal.returns
returns c =
    let a = c.args in
    any_from_yields_List (λ (i : ℕ). not (eqb (field a.words.now i AWAITED) 0)) _ _ _ c.any.ensures.ran (YieldsList-from_range 0 a.n a.n (cc) (search rules)) (λ x b q k. search (rules, tests))
    ∙ awaits-list a.words.now 0 a.n
