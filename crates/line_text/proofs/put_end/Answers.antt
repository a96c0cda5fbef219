-- Each arm has its text, which is far shorter than the buffer. Assumes nothing.
use Rattle.std.proofs.Common.{◌≡◌, ◌≤◌, length, arith, ap}
use Rattle.stream.specs.declared.End.{End}
use Rattle.stream.specs.declared.End.TheVariants.{Open, Closed, Long}
use Rattle.line_text.specs.Text.{end_text}
use Rattle.line_text.proofs.Texts.{counts}
use Rattle.line_text.proofs.put_end.Goals as goal
use Rattle.line_text.proofs.put_end.Goals.{in-Open, in-Closed, in-Long}

short : (end : End) → length (end_text end) ≤ 128
unfolding end_text
short Open = omega arith
short Closed = omega arith
short Long = omega arith

pub returns : goal.returns
unfolding end_text
returns c =
    let said : c.match-end.bytes.now ≡ end_text c.args.end =
    elim c.match-end.branch [ in-Open w ↦ rw (w.bytes-is, w.in-Open.is) | in-Closed w ↦ rw (w.bytes-is, w.in-Closed.is) | in-Long w ↦ rw (w.bytes-is, w.in-Long.is) ]
    in
    record {
      value = ap length said;
      text_after = rw said at c.copy.ensures;
      counts = counts _ _ (omega (arith, ap length said, short c.args.end, c.told-text));
    }
