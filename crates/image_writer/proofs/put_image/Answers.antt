-- Each test by itself; where all pass, the image is written. Assumes nothing.
use mathlib.Core.Path.{sym, ap, ◌∙◌}
use Prim.Native.Nat.{◌≤◌}
use lib.ListN.{length}
use borrow.Author.Tests.{ne_eqb}
use Rattle.wire.specs.Bytes.{store}
use Rattle.wire.proofs.Laws.{length-store}
use Rattle.kvmi.specs.Tables.{Tables}
use Rattle.kvmi.specs.Image.{image}
use Rattle.session.specs.State.{state}
use Rattle.image_writer.specs.Write.{stated_tables}
use Rattle.image_writer.proofs.Call.{stated-same, image-busy, image-past, image-whole}
use Rattle.image_writer.proofs.put_image.Goals as goal

pub returns-then-awaits : goal.returns-then-awaits
returns-then-awaits c =
    let a = c.args in
    let st = state a.s a.vcpus.now a.pages.now in
    image-busy st _ c.stated_count-n.ensures (ne_eqb _ _ c.if-s-eq0.false) _ (sym c.awaits.ensures ∙ c.if-awaits.true)

pub returns-then-out-count : goal.returns-then-out-count
returns-then-out-count c =
    let a = c.args in
    let st = state a.s a.vcpus.now a.pages.now in
    let size = c.put-count.ensures.value ∙ ap (λ (t : Tables). length (image t)) (stated-same st) in
    let there = c.put-count.ensures.out_after ∙ ap (λ (t : Tables). store a.out.now 0 (image t)) (stated-same st) in
    image-past st _ c.stated_count-n.ensures (ne_eqb _ _ c.if-s-eq0.false) _ (sym c.awaits.ensures ∙ c.if-awaits.false) _ _ there size c.if-out-count.true

pub returns-else-out-count : goal.returns-else-out-count
returns-else-out-count c =
    let a = c.args in
    let st = state a.s a.vcpus.now a.pages.now in
    let size = c.put-count.ensures.value ∙ ap (λ (t : Tables). length (image t)) (stated-same st) in
    let there = c.put-count.ensures.out_after ∙ ap (λ (t : Tables). store a.out.now 0 (image t)) (stated-same st) in
    let room : length (image (stated_tables st)) ≤ length a.out.now = rw (there, length-store, size) at c.if-out-count.false in
    rw (c.wrote.ensures, there, size) (image-whole st _ c.stated_count-n.ensures (ne_eqb _ _ c.if-s-eq0.false) _ (sym c.awaits.ensures ∙ c.if-awaits.false) room)
