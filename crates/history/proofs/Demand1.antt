-- Demand 1, proved. Assumes nothing.
use mathlib.Core.Path.{◌≡◌, refl, sym, ap, ◌∙◌, subst}
use mathlib.Core.Logic.{◌↔◌, inl, inr, ⊎_elim}
use Prim.Native.Nat.{ℕ, zero, suc, ◌≤◌, ◌<◌, min}
use native.Mathlib.Omega.{arith}
use mathlib.Core.List.{List, [], ◌∷◌}
use mathlib.Core.Bool.{Bool, true, false, cond, not, ◌&&◌, ◌||◌, So}
use mathlib.Core.Option.{Option, none}
use lib.ListN.{length, get_or, drop, get_or-eq_default}
use lib.Dec.{leb, ltb, eqb}
use borrow.Author.Tests.{ltb-true, ltb-false, leb-true, leb-false, lt-ltb, le-ltb, le-leb, lt-leb, eqb-true, eq-eqb, not-true, not-false}
use Rattle.std.specs.Prelude.{Some, None}
use Rattle.wire.specs.Header.{whole, HeaderRead, header_of}
use Rattle.kvmi.specs.declared.Settings.{Settings}
use Rattle.kvmi.specs.declared.Signal.TheVariants.{Quiet}
use Rattle.kvmi.specs.declared.Verdict.{Verdict}
use Rattle.kvmi.specs.declared.Verdict.TheVariants.{Closes, Fails, Does}
use Rattle.kvmi.specs.Answer.{plain_at, lacks_page}
use Rattle.kvmi.specs.Message.{vcpu_of}
use Rattle.kvmi.specs.Change.{signal_of}
use Rattle.kvmi.specs.declared.EventRow.{EventRow}
use Rattle.kvmi.specs.Bits.{among}
use Rattle.kvmi.specs.Limits.{least_out, event_out, state_bytes}
use Rattle.kvmi.specs.Settings.{in_range}
use Rattle.kvmi.specs.declared.Awaited.{Awaited}
use Rattle.kvmi.specs.Model.{awaited_by, is_some}
use Rattle.kvmi.specs.Image.{image, Loaded, loaded, bad_form, forbidden, load_image}
use Rattle.kvmi.specs.Event.{events, unoffered, event_row_of, is_offered, offer_fits}
use Rattle.kvmi.specs.Call.{awaits_any}
use Rattle.store.specs.Words.{field, AWAITED}
use Rattle.session.specs.State.{State, is_closed}
use Rattle.session.specs.Calls.{Told, told_same, told_written, told_closing, fresh_of, ready_of}
use Rattle.session.specs.Meaning.{awaited_of, model_of}
use Rattle.message.specs.Message.{facts_in, answering_of, reported_of, judged_of, headed_of, message_of}
use Rattle.entry.specs.Entry.{entered_of, enter_of}
use Rattle.image_writer.specs.Write.{stated_vcpus, stated_tables, image_of}
use Rattle.image_reader.specs.Read.{told_loaded, read_of}
use Rattle.refine.specs.Frames.{Refuses, Past}
use Rattle.history.proofs.BatchAnswers.{batch-answers}
use Rattle.history.specs.Demand1.{Answers, OneOf, Closed, Open, IsVcpu, NoVcpu, offers, own_length, Offer, Lent, Awaits, AwaitsAny, image_length, InRange, said_of, RuleCloses, NeedsPage, FreshAnswers, ReadyAnswers, MessageAnswers, EntryAnswers, WriterAnswers, ReaderAnswers, Demand1}
use Rattle.wire.proofs.Laws.{le-or-lt}
use Rattle.laws.proofs.Bool.{and_l, and_r, either, or_l, or_r, test, clash, same_test, among-every}
use Rattle.laws.proofs.Paddings.{reported}
use Rattle.laws.proofs.Verdicts.{pick}
use Rattle.reply.proofs.Data.{below}
use Rattle.refine.proofs.Awaited.{awaited-length, awaited-at, awaited-there}
use Rattle.refine.proofs.Frames.{same-refuses, same-past, written-past, message-refuses, ready-refuses, enter-refuses, message-past, enter-past}

-- conditions by an answer's number: the one at its place
abbrev at : List (Type 0) → ℕ → Type 0
at [] k = ⊥
at (C ∷ Cs) zero = C
at (C ∷ Cs) (suc k) = at Cs k

-- where an answer's number has its condition
abbrev Told-by : List (Type 0) → Told → Type 0
Told-by Cs r = at Cs r.answer.number

-- a number with a condition that gives it
exactly : (Cs : List (Type 0)) (r : Told) (k : ℕ) → Told-by Cs r → (at Cs k → Answers r k) → Answers r k ↔ at Cs k
exactly Cs r k t f = (λ e. subst (at Cs) e t, f)

-- ---- a ready mark
module _ (st : State) (vcpu : ℕ) where
  abbrev ready_by : List (Type 0)
  ready_by = Unit {0} ∷ ⊥ ∷ Closed st ∷ ⊥ ∷ (Open st × NoVcpu st vcpu) ∷ []

  ready-told : Told-by ready_by (ready_of st vcpu)
  unfolding ready_of
  ready-told =
      pick (Told-by ready_by) (is_closed st) _ _ (λ c. c)
      (λ o. pick (Told-by ready_by) (leb st.session.settings.vcpus vcpu) _ _ (λ h. (o, leb-true st.session.settings.vcpus vcpu h)) (λ _. tt))

  ready-answers : ReadyAnswers st vcpu (ready_of st vcpu)
  unfolding ready_of
  ready-answers =
      record {
        numbers =
            pick (OneOf (0 ∷ 2 ∷ 4 ∷ [])) (is_closed st) _ _ (λ _. refl)
            (λ _. pick (OneOf (0 ∷ 2 ∷ 4 ∷ [])) (leb st.session.settings.vcpus vcpu) _ _ (λ _. refl) (λ _. refl));
        closed = exactly ready_by (ready_of st vcpu) 2 ready-told (λ c. rw c);
        bad_vcpu = exactly ready_by (ready_of st vcpu) 4 ready-told (λ q. rw (q.0, le-leb st.session.settings.vcpus vcpu q.1));
        refused = ready-refuses st vcpu;
      }

-- ---- a message
abbrev message-numbers : List ℕ
message-numbers = 0 ∷ 1 ∷ 2 ∷ 3 ∷ 12 ∷ []

module _ (st : State) (msg out guest : List ℕ) where
  abbrev r-message : Told
  r-message = message_of st msg out guest

  abbrev closing-when : Type 0
  closing-when = Open st × (least_out ≤ length out) × RuleCloses st msg guest

  abbrev lacking-when : Type 0
  lacking-when = Open st × (least_out ≤ length out) × NeedsPage st msg guest

  abbrev message-by : List (Type 0)
  message-by =
      Unit {0} ∷ closing-when ∷ Closed st ∷ (Open st × (length out < least_out)) ∷ ⊥ ∷ ⊥ ∷ ⊥ ∷ ⊥ ∷ ⊥ ∷ ⊥ ∷ ⊥ ∷ ⊥ ∷ lacking-when ∷ []

  -- what holds of a message that tests 2 to 6 judge, by what they say
  judged-told : (id size seq : ℕ) → Open st → least_out ≤ length out → header_of msg ≡ whole id size seq → (v : Verdict) → said_of st msg guest id seq ≡ v
      → Told-by message-by (judged_of st id seq (drop 8 msg) out guest v)
  unfolding judged_of answering_of
  judged-told id size seq o l h Closes e = (o, l, inr (id, size, seq, h, e))
  judged-told id size seq o l h (Fails code) e = tt
  judged-told id size seq o l h (Does c) e = by (lacks_page (signal_of c)) refl
    where
      by : (lacks : Bool) → lacks_page (signal_of c) ≡ lacks → at message-by (cond lacks 12 0)
      by true p = (o, l, (id, size, seq, c, h, e, p))
      by false p = tt

  headed-told : Open st → least_out ≤ length out → (h : HeaderRead) → header_of msg ≡ h → Told-by message-by (headed_of st (drop 8 msg) out guest h)
  unfolding headed_of
  headed-told o l None e = (o, l, inl e)
  headed-told o l (Some h) e = judged-told h.id h.size h.seq o l e (said_of st msg guest h.id h.seq) refl

  message-told : Told-by message-by r-message
  unfolding message_of
  message-told =
      pick (Told-by message-by) (is_closed st) _ _ (λ c. c)
      (λ o. pick (Told-by message-by) (ltb (length out) least_out) _ _ (λ h. (o, ltb-true (length out) least_out h))
      (λ h. headed-told o (ltb-false (length out) least_out h) (header_of msg) refl))

  rule-closes : (closing : closing-when) → r-message ≡ told_closing st out guest
  unfolding message_of headed_of judged_of
  rule-closes (o, l, inl e) = rw (o, le-ltb (length out) least_out l, e)
  rule-closes (o, l, inr (id, size, seq, h, e)) =
      let none : reported_of st id (drop 8 msg) ≡ 0 = rw e at (reported st.session.settings (facts_in st (length guest) (vcpu_of (drop 8 msg))) id (drop 8 msg) seq) in
      rw (o, le-ltb (length out) least_out l, h, e, none)

  -- a message that needs the guest page
  page-lacks : lacking-when → Answers r-message 12
  unfolding message_of headed_of judged_of answering_of
  page-lacks (o, l, (id, size, seq, c, h, e, p)) = rw (o, le-ltb (length out) least_out l, h, e, p)

  few-numbers : (lacks : Bool) → So (among (cond lacks 12 0) message-numbers)
  few-numbers true = refl
  few-numbers false = refl

  judged-numbers : (id seq : ℕ) (v : Verdict) → OneOf message-numbers (judged_of st id seq (drop 8 msg) out guest v)
  unfolding judged_of answering_of
  judged-numbers id seq Closes = refl
  judged-numbers id seq (Fails code) = refl
  judged-numbers id seq (Does c) = few-numbers (lacks_page (signal_of c))

  headed-numbers : (h : HeaderRead) → OneOf message-numbers (headed_of st (drop 8 msg) out guest h)
  unfolding headed_of
  headed-numbers None = refl
  headed-numbers (Some h) = judged-numbers h.id h.seq (said_of st msg guest h.id h.seq)

  message-answers : MessageAnswers st msg out guest r-message
  unfolding message_of
  message-answers =
      let closing : Answers r-message 1 ↔ closing-when = exactly message-by r-message 1 message-told (λ q. ap (λ (r : Told). r.answer.number) (rule-closes q)) in
      record {
        numbers =
            pick (OneOf message-numbers) (is_closed st) _ _ (λ _. refl)
            (λ _. pick (OneOf message-numbers) (ltb (length out) least_out) _ _ (λ _. refl) (λ _. headed-numbers (header_of msg)));
        closed = exactly message-by r-message 2 message-told (λ c. rw c);
        short = exactly message-by r-message 3 message-told (λ q. rw (q.0, lt-ltb (length out) least_out q.1));
        no_page = exactly message-by r-message 12 message-told page-lacks;
        closing = closing;
        closes = λ e. rule-closes (closing.0 e);
        refused = message-refuses st msg out guest;
        past = message-past st msg out guest;
      }

-- ---- an entry
-- an event is awaited where its word is not 0
awaits-word : (st : State) (vcpu : ℕ) → IsVcpu st vcpu → is_some (awaited_by (model_of st) vcpu) ≡ not (eqb (field st.vcpus vcpu AWAITED) 0)
awaits-word st vcpu h = ap is_some (awaited-at st.vcpus st.session.settings.vcpus vcpu h) ∙ awaited-there st.vcpus vcpu

-- an offer is one of the events
offer-known : (event : ℕ) → is_offered (event_row_of event).switch ≡ among event offers
unfolding event_row_of
offer-known event =
    same_test _ _
    (λ h. ⊎_elim
    (λ far. clash h (ap (λ (r : EventRow). is_offered r.switch) (get_or-eq_default events unoffered {n = event} far)))
    (λ near. rw h at (below (λ k. not (is_offered (event_row_of k).switch) || among k offers) 15 event refl near))
    (le-or-lt 15 event))
    (λ h. among-every (λ k. is_offered (event_row_of k).switch) event offers refl h)

-- the lengths of the rows
own-lengths : (event : ℕ) → So (among event offers) → (event_row_of event).own ≡ own_length event
unfolding event_row_of
own-lengths event h = eqb-true _ _ (among-every (λ e. eqb (event_row_of e).own (own_length e)) event offers refl h)

-- the test of an offer
pub fits-offer : (event : ℕ) (own : List ℕ) → offer_fits event own ≡ true → Offer event own
unfolding offer_fits
fits-offer event own h =
    let offered : So (is_offered (event_row_of event).switch) = search (and_l, and_r) in
    let known : So (among event offers) = rw (offer-known event) at offered in
    (known, eqb-true (length own) (event_row_of event).own (search (and_l, and_r)) ∙ own-lengths event known)

pub offer-fits : (event : ℕ) (own : List ℕ) → Offer event own → offer_fits event own ≡ true
unfolding offer_fits
offer-fits event own (k, o) = rw (offer-known event, k, eq-eqb (length own) (event_row_of event).own (o ∙ sym (own-lengths event k)))

-- and of all that an entry is lent
lent_fits : (block : List ℕ) (event : ℕ) (own : List ℕ) → (eqb (length block) state_bytes && offer_fits event own) ≡ true → Lent block event own
lent_fits block event own h =
    (eqb-true (length block) state_bytes (search (and_l, and_r)), fits-offer event own (and_r (eqb (length block) state_bytes) (offer_fits event own) h))

fits-lent : (block : List ℕ) (event : ℕ) (own : List ℕ) → Lent block event own → (eqb (length block) state_bytes && offer_fits event own) ≡ true
fits-lent block event own (b, o) = rw (eq-eqb (length block) state_bytes b, offer-fits event own o)

module _ (st : State) (vcpu : ℕ) (block : List ℕ) (event : ℕ) (own out : List ℕ) where
  abbrev r-enter : Told
  r-enter = enter_of st vcpu block event own out

  abbrev lends : Bool
  lends = eqb (length block) state_bytes && offer_fits event own

  not-lent : (Lent block event own → ⊥) → lends ≡ false
  not-lent f = test lends (λ h. absurd (f (lent_fits block event own h))) (λ h. h)

  abbrev enter-by : List (Type 0)
  enter-by =
      Unit {0}
      ∷ ⊥
      ∷ Closed st
      ∷ (Open st × IsVcpu st vcpu × Lent block event own × (length out < event_out))
      ∷ (Open st × NoVcpu st vcpu)
      ∷ (Open st × IsVcpu st vcpu × (Lent block event own → ⊥))
      ∷ (Open st × IsVcpu st vcpu × Lent block event own × (event_out ≤ length out) × Awaits st vcpu)
      ∷ []

  enter-told : Told-by enter-by r-enter
  unfolding enter_of entered_of
  enter-told =
      let n = st.session.settings.vcpus in
      pick (Told-by enter-by) (is_closed st) _ _ (λ c. c)
      (λ o. pick (Told-by enter-by) (leb n vcpu) _ _ (λ h. (o, leb-true n vcpu h))
      (λ h. let i = leb-false n vcpu h in
      pick (Told-by enter-by) (not lends) _ _ (λ b. (o, i, λ w. clash (fits-lent block event own w) (not-true lends b)))
      (λ b. let w = lent_fits block event own (not-false lends b) in
      pick (Told-by enter-by) (ltb (length out) event_out) _ _ (λ l. (o, i, w, ltb-true (length out) event_out l))
      (λ l. pick (Told-by enter-by) (not (eqb (field st.vcpus vcpu AWAITED) 0)) _ _
      (λ a. (o, i, w, ltb-false (length out) event_out l, awaits-word st vcpu i ∙ a)) (λ _. tt)))))

  abbrev enter-numbers : List ℕ
  enter-numbers = 0 ∷ 2 ∷ 3 ∷ 4 ∷ 5 ∷ 6 ∷ []

  enter-answers : EntryAnswers st vcpu block event own out r-enter
  unfolding enter_of entered_of
  enter-answers =
      let n = st.session.settings.vcpus in
      record {
        numbers =
            pick (OneOf enter-numbers) (is_closed st) _ _ (λ _. refl)
            (λ _. pick (OneOf enter-numbers) (leb n vcpu) _ _ (λ _. refl)
            (λ _. pick (OneOf enter-numbers) (not lends) _ _ (λ _. refl)
            (λ _. pick (OneOf enter-numbers) (ltb (length out) event_out) _ _ (λ _. refl)
            (λ _. pick (OneOf enter-numbers) (not (eqb (field st.vcpus vcpu AWAITED) 0)) _ _ (λ _. refl) (λ _. refl)))));
        closed = exactly enter-by r-enter 2 enter-told (λ c. rw c);
        bad_vcpu = exactly enter-by r-enter 4 enter-told (λ q. rw (q.0, le-leb n vcpu q.1));
        bad_block = exactly enter-by r-enter 5 enter-told (λ q. rw (q.0, lt-leb n vcpu q.1, not-lent q.2));
        short =
            exactly enter-by r-enter 3 enter-told
            (λ q. rw (q.0, lt-leb n vcpu q.1, fits-lent block event own q.2, lt-ltb (length out) event_out q.3));
        waiting =
            exactly enter-by r-enter 6 enter-told
            (λ q. let a : not (eqb (field st.vcpus vcpu AWAITED) 0) ≡ true = sym (awaits-word st vcpu q.1) ∙ q.4 in
            rw (q.0, lt-leb n vcpu q.1, fits-lent block event own q.2, le-ltb (length out) event_out q.3, a));
        refused = enter-refuses st vcpu block event own out;
        past = enter-past st vcpu block event own out;
      }

-- ---- the image writer
any_found : (l : List (Option Awaited)) → awaits_any l ≡ true → (i : ℕ) × (i < length l) × (is_some (get_or l i none) ≡ true)
any_found [] h = clash h refl
any_found (a ∷ l) h =
    either (is_some a) (awaits_any l) h (λ e. (0, omega arith, e)) (λ e. let q = any_found l e in (suc q.0, omega (arith, q.1), q.2))

any_at : (l : List (Option Awaited)) (i : ℕ) → is_some (get_or l i none) ≡ true → awaits_any l ≡ true
any_at [] i h = h
any_at (a ∷ l) zero h = or_l (is_some a) (awaits_any l) h
any_at (a ∷ l) (suc i) h = or_r (is_some a) (awaits_any l) (any_at l i h)

module _ (st : State) where
  abbrev stated : List (Option Awaited)
  stated = awaited_of st.vcpus 0 (stated_vcpus st)

  -- those that an image could state are the first 16 of the model's
  stated-at : (i : ℕ) → i < stated_vcpus st → get_or stated i none ≡ awaited_by (model_of st) i
  unfolding stated_vcpus
  stated-at i h =
      let n = st.session.settings.vcpus in
      awaited-at st.vcpus (min n 16) i h ∙ sym (awaited-at st.vcpus n i (omega arith))

  any-awaits : awaits_any stated ≡ true → AwaitsAny st
  unfolding stated_vcpus
  any-awaits h =
      let q = any_found stated h in
      let inside : q.0 < stated_vcpus st = rw (awaited-length st.vcpus 0 (stated_vcpus st)) at q.1 in
      (q.0, omega arith, sym (ap is_some (stated-at q.0 inside)) ∙ q.2)

  awaits-any : AwaitsAny st → awaits_any stated ≡ true
  unfolding stated_vcpus
  awaits-any (i, few, a) =
      let n = st.session.settings.vcpus in
      test (ltb i n)
      (λ t. let below = ltb-true i n t in any_at stated i (ap is_some (stated-at i (omega arith)) ∙ a))
      (λ t. let past = ltb-false i n t in
      let gone : awaited_by (model_of st) i ≡ none = get_or-eq_default (awaited_of st.vcpus 0 n) none {n = i} (rw (awaited-length st.vcpus 0 n) past) in
      clash a (ap is_some gone))

  none-awaits : (AwaitsAny st → ⊥) → awaits_any stated ≡ false
  none-awaits f = test (awaits_any stated) (λ h. absurd (f (any-awaits h))) (λ h. h)

  module _ (out : List ℕ) where
    abbrev r-image : Told
    r-image = image_of st out

    abbrev image-by : List (Type 0)
    image-by =
        Unit {0}
        ∷ ⊥
        ∷ Closed st
        ∷ (Open st × (AwaitsAny st → ⊥) × (length out < image_length st))
        ∷ ⊥
        ∷ ⊥
        ∷ ⊥
        ∷ ⊥
        ∷ ⊥
        ∷ ⊥
        ∷ (Open st × AwaitsAny st)
        ∷ []

    -- a property of what the writer gives, by its tests
    image-cases : (P : Told → Type 0) → (Closed st → P (told_same 2 st out [])) → (Open st → awaits_any stated ≡ true → P (told_same 10 st out []))
        → (Open st → awaits_any stated ≡ false → length out < image_length st → P (told_same 3 st out []))
        → (image_length st ≤ length out → P (told_written (image (stated_tables st)) Quiet st out [])) → P r-image
    unfolding image_of
    image-cases P closed busy short writes =
        pick P (is_closed st) _ _ closed
        (λ o. pick P (awaits_any stated) _ _ (busy o)
        (λ a. pick P (ltb (length out) (image_length st)) _ _ (λ l. short o a (ltb-true (length out) (image_length st) l))
        (λ l. writes (ltb-false (length out) (image_length st) l))))

    image-told : Told-by image-by r-image
    image-told =
        image-cases (Told-by image-by) (λ c. c) (λ o a. (o, any-awaits a)) (λ o a l. (o, λ q. clash (awaits-any q) a, l)) (λ _. tt)

    image-answers : WriterAnswers st out r-image
    unfolding image_of
    image-answers =
        record {
          numbers = image-cases (OneOf (0 ∷ 2 ∷ 3 ∷ 10 ∷ [])) (λ _. refl) (λ _ _. refl) (λ _ _ _. refl) (λ _. refl);
          closed = exactly image-by r-image 2 image-told (λ c. rw c);
          busy = exactly image-by r-image 10 image-told (λ q. rw (q.0, awaits-any q.1));
          short = exactly image-by r-image 3 image-told (λ q. rw (q.0, none-awaits q.1, lt-ltb (length out) (image_length st) q.2));
          refused =
              image-cases (Refuses st out []) (λ _. same-refuses 2 st out []) (λ _ _. same-refuses 10 st out []) (λ _ _ _. same-refuses 3 st out [])
              (λ _ h. absurd (omega arith));
          past =
              image-cases (Past out) (λ _. same-past 2 st out []) (λ _ _. same-past 10 st out []) (λ _ _ _. same-past 3 st out [])
              (λ l. written-past (image (stated_tables st)) Quiet st out [] l);
        }

-- ---- how a session begins
in-range : (s : Settings) → in_range s ≡ true → InRange s
unfolding in_range
in-range s h = (
  leb-true 1 s.vcpus (search (and_l, and_r)),
  leb-true s.vcpus 16 (search (and_l, and_r)),
  leb-true 1 s.views (search (and_l, and_r)),
  leb-true s.views 8 (search (and_l, and_r)),
  leb-true 1 s.revision (search (and_l, and_r)),
  leb-true s.revision 2 (search (and_l, and_r)),
)

range-in : (s : Settings) → InRange s → in_range s ≡ true
unfolding in_range
range-in s (a, b, c, d, e, f) =
    rw (le-leb 1 s.vcpus a, le-leb s.vcpus 16 b, le-leb 1 s.views c, le-leb s.views 8 d, le-leb 1 s.revision e, le-leb s.revision 2 f)

out_of_range : (s : Settings) → (InRange s → ⊥) → in_range s ≡ false
out_of_range s f = test (in_range s) (λ h. absurd (f (in-range s h))) (λ h. h)

fresh-answers : (s : Settings) (vcpus pages : List ℕ) → FreshAnswers s vcpus pages (fresh_of s vcpus pages)
unfolding fresh_of
fresh-answers s vcpus pages =
    pick (FreshAnswers s vcpus pages) (in_range s) _ _
    (λ h. record { numbers = refl; settings = (λ e. absurd (omega arith), λ f. absurd (f (in-range s h))); refused = λ e. absurd (omega arith) })
    (λ h. record {
      numbers = refl;
      settings = (λ _ q. clash (range-in s q) h, λ _. refl);
      refused = λ _. record { answer = refl; session = refl; vcpus = refl; pages = refl };
    })

-- what an image loads as: the number that it is answered with, and the offset
abbrev number_of : Loaded → ℕ
number_of (loaded t) = 0
number_of (bad_form off) = 8
number_of (forbidden off) = 9

abbrev offset_of : Loaded → ℕ
offset_of (loaded t) = 0
offset_of (bad_form off) = off
offset_of (forbidden off) = off

module _ (s : Settings) (l vcpus pages : List ℕ) where
  abbrev A : Told → Type 0
  A = ReaderAnswers s l vcpus pages

  loaded-answers : in_range s ≡ true → (x : Loaded) → load_image s l ≡ x → A (told_loaded s vcpus pages x)
  unfolding told_loaded
  loaded-answers h (loaded t) e =
      record {
        numbers = refl;
        settings = (λ q. absurd (omega arith), λ f. absurd (f (in-range s h)));
        refused = λ q. absurd (omega arith);
        form = (λ q. absurd (omega arith), λ q. absurd (omega (arith, ap number_of (sym e ∙ q.1.1))));
        refused_form = λ off q. absurd (omega arith);
        lacks = (λ q. absurd (omega arith), λ q. absurd (omega (arith, ap number_of (sym e ∙ q.1.1))));
        refused_lacks = λ off q. absurd (omega arith);
      }
  loaded-answers h (bad_form at) e =
      record {
        numbers = refl;
        settings = (λ q. absurd (omega arith), λ f. absurd (f (in-range s h)));
        refused = λ q. absurd (omega arith);
        form = (λ _. (in-range s h, (at, e)), λ _. refl);
        refused_form = λ off _ q. record { answer = ap (plain_at 8) (ap offset_of (sym e ∙ q)); session = refl; vcpus = refl; pages = refl };
        lacks = (λ q. absurd (omega arith), λ q. absurd (omega (arith, ap number_of (sym e ∙ q.1.1))));
        refused_lacks = λ off q. absurd (omega arith);
      }
  loaded-answers h (forbidden at) e =
      record {
        numbers = refl;
        settings = (λ q. absurd (omega arith), λ f. absurd (f (in-range s h)));
        refused = λ q. absurd (omega arith);
        form = (λ q. absurd (omega arith), λ q. absurd (omega (arith, ap number_of (sym e ∙ q.1.1))));
        refused_form = λ off q. absurd (omega arith);
        lacks = (λ _. (in-range s h, (at, e)), λ _. refl);
        refused_lacks = λ off _ q. record { answer = ap (plain_at 9) (ap offset_of (sym e ∙ q)); session = refl; vcpus = refl; pages = refl };
      }

  read-answers : A (read_of s l vcpus pages)
  unfolding read_of
  read-answers =
      pick A (in_range s) _ _ (λ h. loaded-answers h (load_image s l) refl)
      (λ h. record {
        numbers = refl;
        settings = (λ _ q. clash (range-in s q) h, λ _. refl);
        refused = λ _. record { answer = refl; session = refl; vcpus = refl; pages = refl };
        form = (λ q. absurd (omega arith), λ q. clash (range-in s q.0) h);
        refused_form = λ off q. absurd (omega arith);
        lacks = (λ q. absurd (omega arith), λ q. clash (range-in s q.0) h);
        refused_lacks = λ off q. absurd (omega arith);
      })

-- ---- demand 1
pub demand-1 : Demand1
demand-1 =
    record { fresh = fresh-answers; ready = ready-answers; message = message-answers; batch = batch-answers; enter = enter-answers; write_image = image-answers; read_image = read-answers }
