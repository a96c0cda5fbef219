-- What its code writes, and the seq that an event took. Assumes nothing.
use mir.Facts.{to_z-of_z}
use Rattle.message.proofs.Laws.{failed-as}
use Rattle.message.proofs.fail.Goals as goal

pub returns-clause-by_index : goal.returns-clause-by_index
returns-clause-by_index c =
    let w = rw (to_z-of_z c.ranges.code) at c.answer_code-a.ensures in
    λ v p guest. failed-as c.args.s c.answer_code-a.result v p _ _ guest _ _ _ _ (record { answer = c.failed.result; after = c.and_seq.result }) w c.and_seq.ensures c.failed.ensures
