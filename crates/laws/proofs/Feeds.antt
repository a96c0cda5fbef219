-- W5: where an address lies that is in a context, and the bytes that a reply supplies lie inside its message. Assumes nothing.
use mathlib.Core.Path.{◌≡◌, refl, ◌∙◌}
use Prim.Native.Nat.{ℕ, ◌+◌, ◌≤◌, ◌<◌}
use native.Mathlib.Omega.{arith}
use mathlib.Core.List.{List}
use mathlib.Core.Bool.{Bool, true, not, ◌&&◌}
use lib.ListN.{length, get_or}
use lib.Dec.{leb, ltb, eqb}
use borrow.Author.Tests.{leb-true, ltb-true, eqb-true}
use Rattle.wire.specs.Bytes.{load}
use Rattle.kvmi.specs.declared.Settings.{Settings}
use Rattle.kvmi.specs.declared.Awaited.{Awaited}
use Rattle.kvmi.specs.declared.Facts.{Facts}
use Rattle.kvmi.specs.declared.Fault.{Fault}
use Rattle.kvmi.specs.declared.Feed.{Feed}
use Rattle.kvmi.specs.declared.Source.TheVariants.{Message}
use Rattle.kvmi.specs.declared.EventRow.{EventRow}
use Rattle.kvmi.specs.declared.ReplyForm.{ReplyForm}
use Rattle.kvmi.specs.declared.ReplyForm.TheVariants.{Plain, NewValue, Context}
use Rattle.kvmi.specs.Message.{action_of}
use Rattle.kvmi.specs.Feed.{address_of, supplied_size, rep_flag, context_fits, unknown_gva, wants_bytes, in_context, page_exists, page_feed, chosen_feed, feed_of}
use Rattle.kvmi.specs.Event.{event_row_of, takes_action, form_fits}
use Rattle.kvmi.specs.Verdict.{reply_fits, feed_by}
use Rattle.laws.proofs.Bool.{and_l, and_r}
use Rattle.laws.proofs.Verdicts.{pick, Replied}
use Rattle.laws.proofs.Events.{every-row}

-- ---- an address in a context
pub in-from : (gva address size : ℕ) → in_context gva address size ≡ true → address ≤ gva
unfolding in_context
in-from gva address size h =
    leb-true address gva (and_r (not (eqb gva unknown_gva)) (leb address gva) (and_l (not (eqb gva unknown_gva) && leb address gva) (ltb gva (address + size)) h))

pub in-to : (gva address size : ℕ) → in_context gva address size ≡ true → gva < address + size
unfolding in_context
in-to gva address size h = ltb-true gva (address + size) (and_r (not (eqb gva unknown_gva) && leb address gva) (ltb gva (address + size)) h)

-- ---- the bytes that feed a vCPU
-- where the message supplies them, its data are 288 bytes, its header is 8, and the bytes are a part of these
abbrev pub Inside : List ℕ → Feed → Type 0
Inside d x = x.source ≡ Message → (length d ≡ 288) × (x.at + x.length ≤ 296)

-- the reply to a page fault alone has a context, and 288 data bytes
abbrev is_long : ReplyForm → ℕ → Bool
is_long Plain n = true
is_long NewValue n = true
is_long Context n = eqb n 288

context-long : (event : ℕ) → is_long (event_row_of event).form (event_row_of event).reply ≡ true
context-long event = every-row (λ (r : EventRow). is_long r.form r.reply) refl refl event

-- a context that is taken has at most 256 bytes
context-few : (d : List ℕ) → context_fits d ≡ true → supplied_size d ≤ 256
unfolding context_fits
context-few d h =
    let padding = eqb (get_or d 28 0) 0 && eqb (load 2 d 30) 0 in
    let few = leb (supplied_size d) 256 in
    leb-true (supplied_size d) 256 (and_r padding few (and_l (padding && few) (leb (rep_flag d) 1) h))

page-inside : (guest gpa : ℕ) (d : List ℕ) → Inside d (page_feed guest gpa)
unfolding page_feed
page-inside guest gpa d = pick (Inside d) (page_exists guest gpa) _ _ (λ _ s. absurd (cc)) (λ _ s. absurd (cc))

chosen-inside : (gva gpa guest : ℕ) (d : List ℕ) → length d ≡ 288 → supplied_size d ≤ 256 → Inside d (chosen_feed gva gpa guest d)
unfolding chosen_feed
chosen-inside gva gpa guest d long few =
    let address = address_of d in
    let size = supplied_size d in
    pick (Inside d) (in_context gva address size) _ _
    (λ h _. let from = in-from gva address size h in let to = in-to gva address size h in (long, omega arith)) (λ _. page-inside guest gpa d)

fed-inside : (f : Fault) (guest : ℕ) (d : List ℕ) → length d ≡ 288 → supplied_size d ≤ 256 → Inside d (feed_of f guest d)
unfolding feed_of
fed-inside f guest d long few =
    pick (Inside d) (wants_bytes f.access (action_of d)) _ _ (λ _. chosen-inside f.gva f.gpa guest d long few) (λ _ s. absurd (cc))

form-inside : (form : ReplyForm) (reply : ℕ) (f : Fault) (guest : ℕ) (d : List ℕ) → is_long form reply ≡ true → length d ≡ reply → form_fits form d ≡ true
    → Inside d (feed_by form f guest d)
form-inside Plain reply f guest d long e fits = λ s. absurd (cc)
form-inside NewValue reply f guest d long e fits = λ s. absurd (cc)
form-inside Context reply f guest d long e fits = fed-inside f guest d (e ∙ eqb-true reply 288 long) (context-few d fits)

-- of a reply that is taken
pub reply-inside : (s : Settings) (f : Facts) (a : Awaited) (id seq : ℕ) (d : List ℕ) → Replied s f a id seq d
    → Inside d (feed_by (event_row_of a.event).form a.fault f.guest d)
unfolding reply_fits
reply-inside s f a id seq d r =
    let row = event_row_of a.event in
    let size = eqb (length d) row.reply in
    let action = takes_action row (action_of d) in
    let fits = r.fits in
    form-inside row.form row.reply a.fault f.guest d (context-long a.event) (eqb-true (length d) row.reply (and_l size action (and_l (size && action) _ fits)))
    (and_r (size && action) (form_fits row.form d) fits)
