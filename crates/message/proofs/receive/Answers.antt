-- Each test by itself; a whole header is 8 bytes long at least. Assumes nothing.
use mathlib.Core.Path.{sym, ◌∙◌}
use borrow.Author.Tests.{eq-eqb, ne_eqb}
use Rattle.wire.proofs.Laws.{has-header}
use Rattle.session.proofs.Laws.{rest_part}
use Rattle.message.specs.Message.{message_of, headed_of, handled_of}
use Rattle.message.specs.Moves.{headed_move, message_move}
use Rattle.message.proofs.Moves.{stays}
use Rattle.message.proofs.receive.Goals as goal

pub returns-then-s-eq0 : goal.returns-then-s-eq0
unfolding message_of message_move
returns-then-s-eq0 c = record {
  result_value = rw (eq-eqb _ _ c.if-s-eq0.true) c.unmoved.ensures.1;
  guest_after = rw (eq-eqb _ _ c.if-s-eq0.true, c.unmoved.ensures.0, c.unmoved.ensures.1, stays);
}

pub returns-then-is_short : goal.returns-then-is_short
unfolding message_of message_move
returns-then-is_short c = record {
  result_value = rw (ne_eqb _ _ c.if-s-eq0.false, ← c.is_short.ensures, c.if-is_short.true) c.unmoved-then-is_short.ensures.1;
  guest_after = rw (ne_eqb _ _ c.if-s-eq0.false, ← c.is_short.ensures, c.if-is_short.true, c.unmoved-then-is_short.ensures.0, c.unmoved-then-is_short.ensures.1, stays);
}

pub returns-in_default : goal.returns-in_default
unfolding message_of headed_of message_move headed_move
returns-in_default c = record {
  result_value = simp (ne_eqb _ _ c.if-s-eq0.false, ← c.is_short.ensures, c.if-is_short.false, ← c.read_header.ensures, c.in_default.is) c.close.ensures.result_value;
  guest_after = simp (ne_eqb _ _ c.if-s-eq0.false, ← c.is_short.ensures, c.if-is_short.false, ← c.read_header.ensures, c.in_default.is) (c.close.ensures.guest_after _ _ _);
}

pub slice_bounds-d-count : goal.slice_bounds-d-count
slice_bounds-d-count c = (has-header c.args.msg.now _ _ _ (sym c.read_header.ensures ∙ c.in-Some.is)).long

pub slice_bounds-d-start : goal.slice_bounds-d-start
slice_bounds-d-start c = (has-header c.args.msg.now _ _ _ (sym c.read_header.ensures ∙ c.in-Some.is)).long

pub returns : goal.returns
unfolding message_of headed_of handled_of message_move headed_move
returns c = record {
  result_value = simp (ne_eqb _ _ c.if-s-eq0.false, ← c.is_short.ensures, c.if-is_short.false, ← c.read_header.ensures, c.in-Some.is)
      (rw (rest_part c.args.msg.now 8) at c.handle.ensures.result_value);
  guest_after = simp (ne_eqb _ _ c.if-s-eq0.false, ← c.is_short.ensures, c.if-is_short.false, ← c.read_header.ensures, c.in-Some.is)
      (rw (rest_part c.args.msg.now 8) at c.handle.ensures.guest_after);
}
