-- Header, code, padding and data stand side by side. The count is the length of the data and 16. Assumes nothing.
use mathlib.Core.List.{List, []}
use mathlib.Core.Bool.{cond}
use mathlib.Core.Path.{◌≡◌, sym, ap, ◌∙◌}
use Prim.Native.Nat.{ℕ, ◌+◌}
use native.Mathlib.Omega.{arith}
use lib.ListN.{length}
use lib.IntN.{ℤ}
use mir.Facts.{to_z-of_z}
use borrow.Author.Rules.{rules}
use Rattle.wire.proofs.Laws.{length-le}
use Rattle.kvmi.specs.Codes.{is_error}
use Rattle.kvmi.specs.Reply.{reply_bytes, reply_data}
use Rattle.reply.proofs.Lengths.{length-code}
use Rattle.reply.proofs.Laws.{placed, more, length-header, reply-bytes, reply-count, written, unwritten}
use Rattle.reply.proofs.Data.{length-contents, count-bound}
use Rattle.kvmi.specs.declared.Settings.{Settings}
use Rattle.reply.specs.declared.Contents.{Contents}
use Rattle.reply.specs.Contents.{contents_bytes, contents_count, Chosen}
use Rattle.reply.proofs.put_reply.Goals as goal

pub overflow_add-total : goal.overflow_add-total
overflow_add-total c = omega (arith, count-bound c.choose-contents.result, c.choose-contents.ensures.inside, c.count_of-count.ensures)

pub shape_of-out : goal.shape_of-out
shape_of-out c = search rules

module _ (settings : Settings) (guest d : List ℕ) (id : ℕ) (code : ℤ) (contents : Contents) (chosen : Chosen guest id code d contents) where
  abbrev whole : List ℕ
  whole = reply_data settings guest id d

  abbrev part : List ℕ
  part = contents_bytes settings guest contents

  shown : part ≡ cond (is_error code) [] whole
  shown = chosen.bytes settings

  counted : (n : ℕ) → n ≡ contents_count contents → length part ≡ n
  counted n e = length-contents _ _ _ chosen.inside ∙ sym e

pub returns-then-total-out : goal.returns-then-total-out
returns-then-total-out c =
    let a = c.args in
    let fits = c.if-total-out.true in
    let chosen = rw (to_z-of_z c.ranges.code) at c.choose-contents.ensures in
    let all = whole a.settings a.guest.now a.d.now a.id a.code _ chosen in
    let piece = part a.settings a.guest.now a.d.now a.id a.code _ chosen in
    let long = counted a.settings a.guest.now a.d.now a.id a.code _ chosen _ c.count_of-count.ensures in
    let p1 = placed _ (length-header _ _ _) c.put_header.ensures in
    let p2 = more _ p1 (length-code _) c.store_code.ensures (omega arith) in
    let p3 = more _ p2 (length-le 4 0) c.store.ensures (omega arith) in
    let p4 = more _ p3 long c.put_contents.ensures (omega arith) in
    written {bytes = reply_bytes a.id a.seq a.code all} p4
    (rw (to_z-of_z c.ranges.code, ← long) (reply-bytes a.id a.seq a.code all piece (shown a.settings a.guest.now a.d.now a.id a.code _ chosen)))
    (omega arith)

pub returns-else-total-out : goal.returns-else-total-out
returns-else-total-out c =
    let a = c.args in
    let chosen = rw (to_z-of_z c.ranges.code) at c.choose-contents.ensures in
    let long = counted a.settings a.guest.now a.d.now a.id a.code _ chosen _ c.count_of-count.ensures in
    unwritten _ _ _ (ap (λ (n : ℕ). n + 16) (sym long) ∙ reply-count a.id a.seq a.code _ _ (shown a.settings a.guest.now a.d.now a.id a.code _ chosen)) c.if-total-out.false
