-- Each test by itself. Assumes nothing.
use borrow.Author.Tests.{eq-eqb, ne_eqb, not-true, not-false}
use Rattle.kvmi.specs.Message.{vcpu_of}
use Rattle.kvmi.specs.Verdict.{reply_verdict, event_reply_verdict}
use Rattle.event_reply.proofs.judge_reply.Goals as goal

pub returns-in_default : goal.returns-in_default
unfolding reply_verdict event_reply_verdict
returns-in_default c = rw c.in_default.is

pub returns-then-of_event_reply-ne0 : goal.returns-then-of_event_reply-ne0
unfolding reply_verdict event_reply_verdict
returns-then-of_event_reply-ne0 c = rw (c.in-Some.is, ← c.of_event_reply.ensures, ne_eqb _ _ c.if-of_event_reply-ne0.true)

pub returns-then-not-is_awaited : goal.returns-then-not-is_awaited
unfolding reply_verdict event_reply_verdict
returns-then-not-is_awaited c = rw (c.in-Some.is, ← c.of_event_reply.ensures, eq-eqb _ _ c.if-of_event_reply-ne0.false, ← c.byte.ensures, ← c.is_awaited.ensures, c.if-not-is_awaited.true)

pub returns-then-not-reply_fits : goal.returns-then-not-reply_fits
unfolding reply_verdict event_reply_verdict
returns-then-not-reply_fits c = rw (c.in-Some.is, ← c.row-row.ensures, ← c.of_event_reply.ensures, eq-eqb _ _ c.if-of_event_reply-ne0.false, ← c.byte.ensures, ← c.is_awaited.ensures, c.if-not-is_awaited.false, ← c.reply_fits.ensures, c.if-not-reply_fits.true)

pub returns : goal.returns
unfolding reply_verdict event_reply_verdict vcpu_of
returns c = rw (c.in-Some.is, ← c.row-row.ensures, ← c.of_event_reply.ensures, eq-eqb _ _ c.if-of_event_reply-ne0.false, ← c.byte.ensures, ← c.is_awaited.ensures, c.if-not-is_awaited.false, ← c.reply_fits.ensures, c.if-not-reply_fits.false, ← c.load.ensures, ← c.byte-2.ensures, ← c.value_of.ensures, ← c.feed_by.ensures)
