-- Each verdict by itself. Assumes nothing.
use mathlib.Core.Path.{◌∙◌, ap}
use mir.Syntax.{w32}
use mir.Val.{SFits}
use mir.Facts.{to_z-of_z}
use Rattle.message.specs.Moves.{and_seq}
use Rattle.message.proofs.Laws.{closes-move, fails-move, does_move, answered-as, closes_as, fails-as, does-as}
use borrow.Author.Rules.{rules}
use Rattle.message.proofs.handle.Goals as goal

pub returns-in-Closes : goal.returns-in-Closes
returns-in-Closes c = record {
  result_value = c.close.ensures.result_value ∙ closes-move _ _ _ _ c.args.out.now _ _ _ c.from.ensures c.judge-judged.ensures c.in-Closes.is;
  guest_after = c.close.ensures.guest_after _ _ _ ∙ closes_as _ _ _ _ _ _ _ _ c.from.ensures c.judge-judged.ensures c.in-Closes.is;
}

pub returns-in-Fails : goal.returns-in-Fails
returns-in-Fails c =
    let g : SFits w32 c.in-Fails.code = search rules in
    record {
      result_value = (rw (to_z-of_z g) at c.fail.ensures.result_value) ∙ fails-move _ _ _ _ c.args.out.now _ _ _ c.from.ensures c.judge-judged.ensures _ c.in-Fails.is;
      guest_after = (rw (to_z-of_z g) at (c.fail.ensures.by_index c.args.vcpus.now c.args.pages.now c.args.guest.now)) ∙ fails-as _ _ _ _ _ _ _ _ c.from.ensures c.judge-judged.ensures _ c.in-Fails.is;
    }

pub returns : goal.returns
returns c =
    let f : SFits w32 c.apply-e.result.code = search rules in
    let w = rw (to_z-of_z f) at c.answer-a.ensures in
    let z = does-as _ _ _ _ _ _ _ _ c.from.ensures c.judge-judged.ensures _ _ c.in-Does.is c.apply-e.ensures in
    record {
      result_value = c.and_seq.ensures
          ∙ ap (and_seq c.apply-e.result.moved) w.took
          ∙ does_move _ _ _ _ c.args.out.now _ _ _ c.from.ensures c.judge-judged.ensures _ _ c.in-Does.is c.apply-e.ensures;
      guest_after = answered-as c.args.s c.apply-e.result c.answer-a.result _ _ _ _ _ _ _ _ (record { answer = c.signalled.result; after = c.and_seq.result }) w z.0 z.1 c.and_seq.ensures c.signalled.ensures
          ∙ z.2;
    }
