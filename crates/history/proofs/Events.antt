-- The other events, proved. Assumes nothing.
use mathlib.Core.Path.{◌≡◌, refl, sym, ap, ◌∙◌, subst}
use mathlib.Core.Logic.{◌↔◌, ◌≢◌}
use Prim.Native.Nat.{ℕ, ◌+◌, ◌-◌, ◌%◌, ◌≤◌, ◌<◌}
use native.Mathlib.Omega.{arith}
use mathlib.Core.List.{List, [], ◌∷◌, ◌++◌}
use mathlib.Core.Bool.{Bool, true, false, cond, not, ◌&&◌, ◌||◌, So, and-false, true≢false}
use mathlib.Core.Option.{Option, none, some}
use lib.ListN.{length, get_or, set, take, drop, replicate, get_or-eq_default}
use lib.Seq.{get_or-set_same, get_or-set_other, set_out, take-append_seam}
use lib.Dec.{leb, ltb, eqb}
use borrow.Author.Tests.{ltb-true, ltb-false, eqb-true, eqb-false, eq-eqb, ne_eqb, leb-true, le-leb, le-ltb, not-true}
use Rattle.std.specs.Prelude.{Some, None}
use Rattle.wire.specs.Bytes.{load}
use Rattle.wire.specs.Header.{whole as whole_header, HeaderRead, header_of}
use Rattle.kvmi.specs.declared.ReplyMode.{ReplyMode}
use Rattle.kvmi.specs.declared.Settings.{Settings}
use Rattle.kvmi.specs.declared.EventRow.{EventRow}
use Rattle.kvmi.specs.declared.Signal.TheVariants.{Quiet, Crash}
use Rattle.kvmi.specs.declared.Change.{Change}
use Rattle.kvmi.specs.declared.Change.TheVariants.{EndWait}
use Rattle.kvmi.specs.declared.Verdict.{Verdict}
use Rattle.kvmi.specs.declared.Verdict.TheVariants.{Closes, Fails, Does}
use Rattle.kvmi.specs.Answer.{Paper, handled, plain, with_padding, resume}
use Rattle.kvmi.specs.Bits.{every, among}
use Rattle.kvmi.specs.Limits.{least_out}
use Rattle.kvmi.specs.Settings.{allows_command}
use Rattle.kvmi.specs.Tables.{Tables, Vcpu, resting, vcpu_at, with_pauses}
use Rattle.kvmi.specs.declared.ReplyForm.{ReplyForm}
use Rattle.kvmi.specs.declared.ReplyForm.TheVariants as form
use Rattle.kvmi.specs.declared.Fault.{Fault}
use Rattle.kvmi.specs.Feed.{no_fault, kept_of, wants_bytes, context_fits, feed_of}
use Rattle.kvmi.specs.declared.Awaited.{Awaited}
use Rattle.kvmi.specs.Model.{awaiting, Model, awaited_by, is_some, next_seq}
use Rattle.kvmi.specs.Message.{layout_of, size_fits, vcpu_of, action_of, replied_event, first_padding}
use Rattle.kvmi.specs.Event.{event_row_of, offer_fits, asks_for, is_asked_for, takes_action, form_fits, value_of}
use Rattle.kvmi.specs.Verdict.{awaited_event, awaits, facts_of, replies_on, is_awaited, reply_fits, feed_by, reply_verdict, event_reply_verdict, change_of, verdict, reaches_test6, reported_padding}
use Rattle.kvmi.specs.Change.{apply, signal_of}
use Rattle.kvmi.specs.Reply.{event_bytes, pause_event, answer_of}
use Rattle.kvmi.specs.Pauses.{queued}
use Rattle.kvmi.specs.Call.{Call, message, ready, enter, Step, answering, judged, headed, message_step, sending, pausing, dequeuing, entering, enter_step, step, move, after, unchanged}
use Rattle.session.specs.declared.Tool.{Tool}
use Rattle.session.specs.State.{State}
use Rattle.session.specs.Calls.{Told}
use Rattle.session.specs.Meaning.{model_of}
use Rattle.entry.specs.Entry.{asked_for_by, is_asked_for_of, sent_of, entered_of, enter_of}
use Rattle.refine.specs.Errors.{HasId}
use Rattle.history.specs.History.{step_of, after_of, BeganOn, anew, from_image}
use Rattle.history.specs.Demand1.{offers, Offer, Open, Awaits}
use Rattle.history.specs.Unsteered.{written}
use Rattle.history.specs.Events.{switches_on, SentExactly, PauseGoes, replied, has_value, reply_length, value_in, is_taken, fed_by, Context, Replies, signalled, NoReply, NoReplies, Events}
use Rattle.laws.proofs.Bool.{and_l, and_r, either, test, clash, every-get_d, every_set, every-replicate, among-every}
use Rattle.laws.proofs.Verdicts.{pick, verdict-cases}
use Rattle.laws.proofs.Events.{asked-some, event-number, event-long}
use Rattle.laws.proofs.Pauses.{closed-stays}
use Rattle.laws.proofs.Same.{count-is}
use Rattle.refine.proofs.Awaited.{awaited-length}
use Rattle.refine.proofs.Words.{asked-means}
use Rattle.refine.proofs.Simulate.{both}
use Rattle.lookup.proofs.Looks.{replicated}
use Rattle.history.proofs.Lists.{Stands, stands-valid, step-stands, after-stands, step_same, began-stands}
use Rattle.history.proofs.Demand1.{fits-offer, offer-fits}
use Rattle.history.proofs.Cases.{entering-cases, enter-cases, step-cases}
use Rattle.history.proofs.Closed.{Rests, step-rests, after-rests}
use Rattle.history.proofs.Lookups.{began-rests}

-- ---- the switches
-- what holds of each number of a list holds of one that stands in it
abbrev Each : (ℕ → Type 0) → List ℕ → Type 0
Each P [] = Unit {0}
Each P (y ∷ ys) = P y × Each P ys

each-among : (P : ℕ → Type 0) (x : ℕ) (ys : List ℕ) → Each P ys → So (among x ys) → P x
each-among P x [] e h = clash h refl
each-among P x (y ∷ ys) e h = either (eqb x y) (among x ys) h (λ q. rw (eqb-true x y q) e.0) (λ q. each-among P x ys e.1 q)

-- an offered event is asked for where its switches are on
asked-on : (t : Tables) (vcpu event : ℕ) (own : List ℕ) → So (among event offers) → is_asked_for t vcpu event own ≡ switches_on t vcpu event own
unfolding is_asked_for asks_for event_row_of switches_on
asked-on t vcpu event own h =
    each-among (λ e. is_asked_for t vcpu e own ≡ switches_on t vcpu e own) event offers (refl, (refl, (refl, (refl, (refl, (refl, (refl, (refl, (refl, (refl, (refl, tt))))))))))) h

-- it is no pause
no-pause : (event : ℕ) → So (among event offers) → event % 256 ≢ 2
no-pause event h = eqb-false (event % 256) 2 (not-true _ (among-every (λ k. not (eqb (k % 256) 2)) event offers refl h))

-- ---- an entry that is not refused
module _ (s : Settings) (m : Model) (vcpu : ℕ) (block : List ℕ) (event : ℕ) (own out : List ℕ) where
  record Entered (r : Step) : Type 0 where
    below : vcpu < s.vcpus
    known : So (among event offers)
    idle : is_some (awaited_by m vcpu) ≡ false
    same : r ≡ entering m vcpu block event own out

  entered : (enter_step s m vcpu block event own out).answer.number ≡ 0 → Entered (enter_step s m vcpu block event own out)
  entered =
      enter-cases (λ r. r.answer.number ≡ 0 → Entered r) m vcpu block event own out s (λ k l h. absurd (omega arith))
      (λ _ below fits idle _. record { below = below; known = (fits-offer event own fits).0; idle = idle; same = refl })

-- what a step wrote
abbrev wrote : Step → List ℕ
wrote r = take r.answer.count r.out

module _ (m : Model) (vcpu : ℕ) (block : List ℕ) (event : ℕ) (own out : List ℕ) (inside : vcpu < length m.awaited) where
  abbrev asked : Bool
  asked = is_asked_for m.tables vcpu event own

  -- the awaited record that is set
  awaits-now : (a : Option Awaited) → get_or (set m.awaited vcpu a) vcpu none ≡ a
  awaits-now a = get_or-set_same m.awaited vcpu a none inside

  abbrev Exactly : Step → Type 0
  Exactly r =
      ((wrote r ≡ event_bytes m.seq vcpu event block own) ↔ (asked ≡ true))
      × ((awaited_by r.model vcpu ≡ some (awaiting event m.seq (kept_of event own))) ↔ (asked ≡ true))
      × (asked ≡ true → r.model.seq ≡ next_seq m.seq)

  entering-exactly : event % 256 ≢ 2 → is_some (awaited_by m vcpu) ≡ false → Exactly (entering m vcpu block event own out)
  unfolding sending pausing pause_event
  entering-exactly other idle =
      let bytes = event_bytes m.seq vcpu event block own in
      let pause = event_bytes m.seq vcpu 2 block [] in
      entering-cases Exactly m vcpu block event own out
      (λ a. ((λ _. a, λ _. take-append_seam bytes (drop (length bytes) out)), (λ _. a, λ _. awaits-now (some (awaiting event m.seq (kept_of event own)))), λ _. refl))
      (λ a _. (
        (
          λ e. let same : pause ≡ bytes = sym (take-append_seam pause (drop (length pause) out)) ∙ e in
              let number : 2 ≡ event % 256 = sym (event-number m.seq vcpu 2 block [] []) ∙ ap (λ (l : List ℕ). get_or (l ++ []) 12 0) same ∙ event-number m.seq vcpu event block own [] in
              absurd (other (sym number)),
          λ t. clash t a,
        ),
        (
          λ e. let number : 2 ≡ event = ap awaited_event (sym (awaits-now (some (awaiting 2 m.seq no_fault))) ∙ e) in
              absurd (other (ap (λ (k : ℕ). k % 256) (sym number))),
          λ t. clash t a,
        ),
        λ t. clash t a,
      ))
      (λ a. ((λ e. clash (sym (ap (λ (l : List ℕ). eqb (length l) 0) e)) (event-long m.seq vcpu event block own), λ t. clash t a), (λ e. clash (ap is_some e) idle, λ t. clash t a), λ t. clash t a))

  abbrev Goes : Step → Type 0
  Goes r = (wrote r ≡ pause_event m.seq vcpu block) × (awaited_by r.model vcpu ≡ some (awaiting 2 m.seq no_fault)) × (queued vcpu r.model + 1 ≡ queued vcpu m)
      × (r.model.seq ≡ next_seq m.seq)

  entering-pauses : vcpu < length m.tables.vcpus → asked ≡ false → 1 ≤ queued vcpu m → Goes (entering m vcpu block event own out)
  unfolding entering dequeuing pausing queued
  entering-pauses here a one =
      let v = vcpu_at m.tables vcpu in
      let pause = pause_event m.seq vcpu block in
      let less = ap (λ (x : Vcpu). x.pauses) (get_or-set_same m.tables.vcpus vcpu (with_pauses v (v.pauses - 1)) resting here) in
      rw (a, le-leb 1 v.pauses one) (take-append_seam pause (drop (length pause) out), awaits-now (some (awaiting 2 m.seq no_fault)), omega arith, refl)

-- an event that is asked for leaves the tables as they are, refused or not
asked-keeps : (s : Settings) (m : Model) (vcpu : ℕ) (block : List ℕ) (event : ℕ) (own out : List ℕ) → is_asked_for m.tables vcpu event own ≡ true
    → (enter_step s m vcpu block event own out).model.tables ≡ m.tables
unfolding sending
asked-keeps s m vcpu block event own out a =
    let K : Step → Type 0 = λ r. r.model.tables ≡ m.tables in
    enter-cases K m vcpu block event own out s (λ _ _. refl) (λ _ _ _ _. entering-cases K m vcpu block event own out (λ _. refl) (λ n _. clash a n) (λ n. clash a n))

-- ---- an entry on the words that passes its offer over
none-fits : offer_fits 0 [] ≡ true
unfolding offer_fits event_row_of
none-fits = refl

none-asked : (t : Tool) (w pages : List ℕ) (vcpu : ℕ) → is_asked_for_of t w pages vcpu 0 [] ≡ false
unfolding is_asked_for_of asked_for_by event_row_of
none-asked t w pages vcpu = refl

over : (st : State) (vcpu : ℕ) (block : List ℕ) (event : ℕ) (own out : List ℕ) → offer_fits event own ≡ true → is_asked_for_of st.session.tool st.vcpus st.pages vcpu event own ≡ false
    → enter_of st vcpu block event own out ≡ enter_of st vcpu block 0 [] out
unfolding enter_of entered_of sent_of
over st vcpu block event own out fits a = rw (fits, none-fits, a, none-asked)

-- ---- a call between: the awaited record of a vCPU stays
-- no command ends a wait
change-waits : (s : Settings) (m : Model) (guest d : List ℕ) (id : ℕ) → (apply s m guest d (change_of id d)).model.awaited ≡ m.awaited
unfolding change_of apply
change-waits s m guest d id =
    let K : Change → Type 0 = λ c. (apply s m guest d c).model.awaited ≡ m.awaited in
    pick K (eqb id 5) _ _ (λ _. refl)
    (λ _. pick K (eqb id 7) _ _ (λ _. refl)
    (λ _. pick K (eqb id 9) _ _ (λ _. refl)
    (λ _. pick K (eqb id 10) _ _ (λ _. refl)
    (λ _. pick K (eqb id 11) _ _ (λ _. refl)
    (λ _. pick K (eqb id 12) _ _ (λ _. refl)
    (λ _. pick K (eqb id 13) _ _ (λ _. refl)
    (λ _. pick K (eqb id 14) _ _ (λ _. refl)
    (λ _. pick K (eqb id 15) _ _ (λ _. refl) (λ _. refl)))))))))

module _ (s : Settings) (m : Model) (vcpu : ℕ) (waits : is_some (awaited_by m vcpu) ≡ true) where
  abbrev Waits : Step → Type 0
  Waits r = r.model.closed ≡ false → awaited_by r.model vcpu ≡ awaited_by m vcpu

  headed-waits : (msg out guest : List ℕ) → (HasId msg 16 → vcpu_of (drop 8 msg) ≢ vcpu) → (h : HeaderRead) → header_of msg ≡ h → Waits (headed s m (drop 8 msg) out guest h)
  unfolding headed judged answering apply
  headed-waits msg out guest other None w = λ o. absurd (true≢false o)
  headed-waits msg out guest other (Some h) w =
      let d = drop 8 msg in
      verdict-cases (λ v. Waits (judged s m h.id h.seq d out guest v)) s (facts_of m (length guest) (vcpu_of d)) h.id h.seq d (λ o. absurd (true≢false o)) (λ code _ _. refl)
      (λ _ _. ap (λ (l : List (Option Awaited)). get_or l vcpu none) (change-waits s m guest d h.id))
      (λ a p _. let gone = other (h.size, h.seq, w ∙ ap (λ (n : ℕ). whole_header n h.size h.seq) p.reply) in
      get_or-set_other m.awaited (vcpu_of d) vcpu none none (λ e. gone (sym e)))

  -- an entry of another vCPU leaves its record
  entering-waits : (v : ℕ) (block : List ℕ) (event : ℕ) (own out : List ℕ) → is_some (awaited_by m v) ≡ false → Waits (entering m v block event own out)
  unfolding sending pausing
  entering-waits v block event own out idle =
      let stays : (a : Option Awaited) → get_or (set m.awaited v a) vcpu none ≡ awaited_by m vcpu
      = λ a. get_or-set_other m.awaited v vcpu a none (λ e. clash waits (ap (λ (k : ℕ). is_some (awaited_by m k)) e ∙ idle)) in
      entering-cases Waits m v block event own out (λ _ _. stays _) (λ _ _ _. stays _) (λ _ _. refl)

  -- and one of its own is refused
  step_waits : (c : Call) → NoReply vcpu c → Waits (step s m c)
  step_waits c other =
      step-cases Waits s m c (λ _ _ _ _. refl) (λ _ msg out guest e. headed-waits msg out guest (subst (NoReply vcpu) e other) (header_of msg) refl) (λ _ _ _. refl)
      (λ _ v block event own out _ idle. entering-waits v block event own out idle) (λ _ _. refl)

after-waits : (s : Settings) (m : Model) (vcpu : ℕ) (cs : List Call) → is_some (awaited_by m vcpu) ≡ true → NoReplies vcpu cs → (after s m cs).closed ≡ false
    → awaited_by (after s m cs) vcpu ≡ awaited_by m vcpu
unfolding after move
after-waits s m vcpu [] waits other o = refl
after-waits s m vcpu (c ∷ cs) waits other o =
    let k = (step s m c).model in
    let opened : k.closed ≡ false = test k.closed (λ e. clash (closed-stays s k cs e) o) (λ e. e) in
    let one : awaited_by k vcpu ≡ awaited_by m vcpu = step_waits s m vcpu waits c other.0 opened in
    after-waits s k vcpu cs (ap is_some one ∙ waits) other.1 o ∙ one

-- ---- the awaited events are those that take a reply
abbrev is_known : Option Awaited → Bool
is_known none = true
is_known (some a) = among a.event replied

abbrev KnownEvents : Model → Type 0
KnownEvents m = So (every is_known m.awaited)

known_at : (m : Model) → KnownEvents m → (vcpu event seq : ℕ) (fault : Fault) → awaited_by m vcpu ≡ some (awaiting event seq fault) → So (among event replied)
known_at m k vcpu event seq fault e = sym (ap is_known e) ∙ every-get_d is_known m.awaited vcpu none refl k

-- an offered event that is asked for
sent-known : (t : Tables) (vcpu event : ℕ) (own : List ℕ) → So (among event offers) → is_asked_for t vcpu event own ≡ true → So (among event replied)
sent-known t vcpu event own h a =
    either (eqb event 0) (among event replied) (among-every (λ k. eqb k 0 || among k replied) event offers refl h) (λ z. clash z (asked-some t vcpu event own a)) (λ k. k)

module _ (s : Settings) (m : Model) (known : KnownEvents m) where
  abbrev K : Step → Type 0
  K r = KnownEvents r.model

  set_known : (v : ℕ) (a : Option Awaited) → So (is_known a) → So (every is_known (set m.awaited v a))
  set_known v a h = every_set is_known m.awaited v a h known

  headed-known : (d out guest : List ℕ) (h : HeaderRead) → K (headed s m d out guest h)
  unfolding headed judged answering apply
  headed-known d out guest None = every-replicate is_known s.vcpus none refl
  headed-known d out guest (Some h) =
      verdict-cases (λ v. K (judged s m h.id h.seq d out guest v)) s (facts_of m (length guest) (vcpu_of d)) h.id h.seq d (every-replicate is_known s.vcpus none refl) (λ _ _. known)
      (λ _. subst (λ (l : List (Option Awaited)). So (every is_known l)) (sym (change-waits s m guest d h.id)) known) (λ _ _. set_known (vcpu_of d) none refl)

  entering-known : (v : ℕ) (block : List ℕ) (event : ℕ) (own out : List ℕ) → offer_fits event own ≡ true → K (entering m v block event own out)
  unfolding sending pausing
  entering-known v block event own out fits =
      entering-cases K m v block event own out
      (λ a. set_known v (some (awaiting event m.seq (kept_of event own))) (sent-known m.tables v event own (fits-offer event own fits).0 a))
      (λ _ _. set_known v (some (awaiting 2 m.seq no_fault)) refl) (λ _. known)

  step-known : (c : Call) → K (step s m c)
  step-known c =
      step-cases K s m c (λ _ _ _. known) (λ _ msg out guest _. headed-known (drop 8 msg) out guest (header_of msg)) (λ _ _. known)
      (λ _ v block event own out fits _. entering-known v block event own out fits) (λ _. known)

after-known : (s : Settings) (m : Model) (cs : List Call) → KnownEvents m → KnownEvents (after s m cs)
unfolding after move
after-known s m [] k = k
after-known s m (c ∷ cs) k = after-known s (step s m c).model cs (step-known s m k c)

began-known : (s : Settings) (st : State) (m : Model) → BeganOn s st m → KnownEvents m
began-known s st m (anew vcpus pages v p ok) = every-replicate is_known (length (replicate s.vcpus resting)) none refl
began-known s st m (from_image vcpus pages v p l t ok e) = every-replicate is_known (length t.vcpus) none refl

-- ---- the answer to an EVENT_REPLY
-- what its rule says; guest is how long guest memory is
abbrev pub says_of : Option Awaited → ℕ → ℕ → List ℕ → Verdict
says_of a guest seq d = cond (leb 16 (length d)) (reply_verdict (awaits a) guest seq d) Closes

abbrev answer_by : Verdict → Paper
answer_by Closes = plain 1
answer_by (Fails code) = handled 0 Quiet
answer_by (Does c) = handled 0 (signal_of c)

-- of the tests, only its own rule is left
pub reply-verdict : (s : Settings) (m : Model) (guest vcpu seq : ℕ) (d : List ℕ) → verdict s (facts_of m guest vcpu) 16 seq d ≡ says_of (awaited_by m vcpu) guest seq d
unfolding verdict allows_command layout_of size_fits event_reply_verdict
reply-verdict s m guest vcpu seq d = rw (and-false (not (replies_on m.mode))) (test (leb 16 (length d)) (λ e. rw e) (λ e. rw e))

-- nothing is reported of its padding
reply-unreported : (s : Settings) (mode : ReplyMode) (d : List ℕ) → reported_padding s mode 16 d ≡ 0
unfolding reported_padding reaches_test6
reply-unreported s mode d = refl

reply-answers : (s : Settings) (m : Model) (seq : ℕ) (d out guest : List ℕ) (v : Verdict) → with_padding 0 (judged s m 16 seq d out guest v).answer ≡ answer_by v
unfolding judged answering answer_of layout_of
reply-answers s m seq d out guest Closes = refl
reply-answers s m seq d out guest (Fails code) = refl
reply-answers s m seq d out guest (Does c) = refl

-- by whether it is closed, the length of the output, the awaited record and the length of guest memory
abbrev reply_answer : Bool → List ℕ → Option Awaited → ℕ → ℕ → List ℕ → Paper
reply_answer closed out a guest seq d = cond closed (plain 2) (cond (ltb (length out) least_out) (plain 3) (answer_by (says_of a guest seq d)))

reply-answer : (s : Settings) (m : Model) (msg out guest : List ℕ) (size seq : ℕ) → header_of msg ≡ whole_header 16 size seq
    → (step s m (message msg out guest)).answer ≡ reply_answer m.closed out (awaited_by m (vcpu_of (drop 8 msg))) (length guest) seq (drop 8 msg)
unfolding step message_step headed
reply-answer s m msg out guest size seq w =
    let d = drop 8 msg in
    let v = verdict s (facts_of m (length guest) (vcpu_of d)) 16 seq d in
    let own = ap (λ (n : ℕ). with_padding n (judged s m 16 seq d out guest v).answer) (reply-unreported s m.mode d) ∙ reply-answers s m seq d out guest v ∙ ap answer_by (reply-verdict s m (length guest) (vcpu_of d) seq d) in
    let Same : Step → Paper → Type 0 = λ r p. r.answer ≡ p in
    let here : Step = headed s m d out guest (whole_header 16 size seq) in
    rw w
    (both Same m.closed (unchanged 2 m out guest) (cond (ltb (length out) least_out) (unchanged 3 m out guest) here) _ _ (λ _. refl)
    (λ _. both Same (ltb (length out) least_out) (unchanged 3 m out guest) here _ _ (λ _. refl) (λ _. own)))

-- only what it reads counts
reads_same : (s s' : Settings) (m k : Model) (msg out guest guest' : List ℕ) → HasId msg 16 → length guest ≡ length guest' → m.closed ≡ k.closed
    → awaited_by m (vcpu_of (drop 8 msg)) ≡ awaited_by k (vcpu_of (drop 8 msg))
    → (step s m (message msg out guest)).answer ≡ (step s' k (message msg out guest')).answer
reads_same s s' m k msg out guest guest' (size, seq, w) long closed awaited =
    reply-answer s m msg out guest size seq w
    ∙ (λ j. reply_answer (closed j) out (awaited j) (long j) seq (drop 8 msg))
    ∙ sym (reply-answer s' k msg out guest' size seq w)

-- ---- a reply that fits
-- two tests are equal
abbrev alike : Bool → Bool → Bool
alike a b = cond a b (not b)

alike-true : (a b : Bool) → alike a b ≡ true → a ≡ b
alike-true true b h = sym h
alike-true false true h = h
alike-true false false h = refl

-- the rows of the events that take one
abbrev form_right : ℕ → ReplyForm → Bool
form_right event form.Plain = not (has_value event) && not (eqb event 10)
form_right event form.NewValue = has_value event && not (eqb event 10)
form_right event form.Context = eqb event 10

abbrev row_right : ℕ → EventRow → Bool
row_right event r = eqb r.reply (reply_length event) && alike r.retry (among event (4 ∷ 8 ∷ 10 ∷ [])) && form_right event r.form

module _ (event : ℕ) (known : So (among event replied)) where
  row-right : So (row_right event (event_row_of event))
  unfolding event_row_of
  row-right = among-every (λ e. row_right e (event_row_of e)) event replied refl known

  reply-length : (event_row_of event).reply ≡ reply_length event
  reply-length = let h = row-right in eqb-true (event_row_of event).reply (reply_length event) (search (and_l, and_r))

  reply-actions : (action : ℕ) → takes_action (event_row_of event) action ≡ is_taken event action
  reply-actions action =
      let h = row-right in
      ap (λ (b : Bool). among action (0 ∷ 2 ∷ []) || eqb action 1 && b) (alike-true (event_row_of event).retry (among event (4 ∷ 8 ∷ 10 ∷ [])) (search (and_l, and_r)))

  -- what a form says is what is said of the event
  by_form : (form : ReplyForm) → form_right event form ≡ true → (f : Fault) (guest : ℕ) (d : List ℕ)
      → (value_of form d ≡ value_in event d) × (feed_by form f guest d ≡ fed_by event f guest d)
      × (form_fits form d ≡ cond (eqb event 10) (context_fits d) true)
  unfolding feed_of wants_bytes
  by_form form.Plain h f guest d =
      let a = not-true (has_value event) (and_l (not (has_value event)) (not (eqb event 10)) h) in
      let b = not-true (eqb event 10) (and_r (not (has_value event)) (not (eqb event 10)) h) in
      rw (a, b) (refl, refl, refl)
  by_form form.NewValue h f guest d =
      let a = and_l (has_value event) (not (eqb event 10)) h in
      let b = not-true (eqb event 10) (and_r (has_value event) (not (eqb event 10)) h) in
      rw (a, b) (refl, refl, refl)
  by_form form.Context h f guest d = rw h (refl, refl, refl)

  form-right : form_right event (event_row_of event).form ≡ true
  form-right = let h = row-right in search (and_l, and_r)

  reply-value : (d : List ℕ) → value_of (event_row_of event).form d ≡ value_in event d
  reply-value d = (by_form (event_row_of event).form form-right no_fault 0 d).0

  reply-feed : (f : Fault) (guest : ℕ) (d : List ℕ) → feed_by (event_row_of event).form f guest d ≡ fed_by event f guest d
  reply-feed f guest d = (by_form (event_row_of event).form form-right f guest d).1

  reply-form : (d : List ℕ) → form_fits (event_row_of event).form d ≡ cond (eqb event 10) (context_fits d) true
  reply-form d = (by_form (event_row_of event).form form-right no_fault 0 d).2

  some-event : event ≢ 0
  some-event = eqb-false event 0 (not-true _ (among-every (λ k. not (eqb k 0)) event replied refl known))

  reply-long : leb 16 (reply_length event) ≡ true
  reply-long = pick (λ (n : ℕ). leb 16 n ≡ true) (eqb event 10) 288 _ (λ _. refl) (λ _. pick (λ (n : ℕ). leb 16 n ≡ true) (has_value event) 24 16 (λ _. refl) (λ _. refl))

-- a context as it should be, as a test
context-fits : (d : List ℕ) → Context d → context_fits d ≡ true
unfolding context_fits
context-fits d c = rw (c.padding, c.padding2, le-leb _ 256 c.size, le-leb _ 1 c.rep)

context-said : (d : List ℕ) → context_fits d ≡ true → Context d
unfolding context_fits
context-said d h =
    record {
      padding = eqb-true (get_or d 28 0) 0 (search (and_l, and_r));
      padding2 = eqb-true (load 2 d 30) 0 (search (and_l, and_r));
      size = leb-true (load 4 d 24) 256 (search (and_l, and_r));
      rep = leb-true (get_or d 29 0) 1 (search (and_l, and_r));
    }

replied-context : (event : ℕ) (d : List ℕ) → (event ≡ 10 → Context d) → cond (eqb event 10) (context_fits d) true ≡ true
replied-context event d c = test (eqb event 10) (λ e. rw e (context-fits d (c (eqb-true event 10 e)))) (λ e. rw e)

abbrev ended : ℕ → Fault → ℕ → List ℕ → Change
ended event fault guest d = EndWait (not (eqb event 2)) (vcpu_of d) (action_of d) (value_in event d) (fed_by event fault guest d)

reply-does : (s : Settings) (m : Model) (guest vcpu event seq : ℕ) (fault : Fault) (msg : List ℕ) → awaited_by m vcpu ≡ some (awaiting event seq fault) → So (among event replied)
    → Replies vcpu event seq msg → verdict s (facts_of m guest (vcpu_of (drop 8 msg))) 16 seq (drop 8 msg) ≡ Does (ended event fault guest (drop 8 msg))
unfolding reply_verdict is_awaited reply_fits
reply-does s m guest vcpu event seq fault msg waits known q =
    let d = drop 8 msg in
    reply-verdict s m guest (vcpu_of d) seq d
    ∙ ap (λ (a : Option Awaited). says_of a guest seq d) (ap (λ (v : ℕ). awaited_by m v) q.names ∙ waits)
    ∙ rw (
      q.size,
      reply-long event known,
      eq-eqb (first_padding 16 d) 0 q.padding,
      ne_eqb event 0 (some-event event known),
      eq-eqb seq seq refl,
      eq-eqb event (replied_event d) (sym q.of),
      reply-length event known,
      eq-eqb (reply_length event) (reply_length event) refl,
      reply-actions event known (action_of d),
      q.action,
      reply-form event known d,
      replied-context event d q.context,
      reply-value event known d,
      reply-feed event known fault guest d,
    )

-- no record is awaited where none is set
none-set : (l : List (Option Awaited)) (v : ℕ) → get_or (set l v none) v none ≡ none
none-set l v =
    test (ltb v (length l)) (λ h. get_or-set_same l v none none (ltb-true v (length l) h))
    (λ h. let far = ltb-false v (length l) h in ap (λ (x : List (Option Awaited)). get_or x v none) (set_out l v none far) ∙ get_or-eq_default l none {n = v} far)

reply-taken : (s : Settings) (m : Model) (vcpu event seq : ℕ) (fault : Fault) (msg out guest : List ℕ) → m.closed ≡ false → awaited_by m vcpu ≡ some (awaiting event seq fault)
    → So (among event replied) → Replies vcpu event seq msg → least_out ≤ length out
    → let r = step s m (message msg out guest) in (r.answer ≡ handled 0 (signalled vcpu event fault (length guest) (drop 8 msg))) × (awaited_by r.model vcpu ≡ none)
unfolding step message_step headed judged answering answer_of layout_of apply reported_padding reaches_test6
reply-taken s m vcpu event seq fault msg out guest o waits known q long =
    let d = drop 8 msg in
    let does = reply-does s m (length guest) vcpu event seq fault msg waits known q in
    let taken : step s m (message msg out guest) ≡ judged s m 16 seq d out guest (Does (ended event fault (length guest) d)) = rw (o, le-ltb (length out) least_out long, q.header.1, does) in
    let signal : signal_of (ended event fault (length guest) d) ≡ signalled vcpu event fault (length guest) d = rw q.names (test (eqb event 2) (λ e. rw e) (λ e. rw e)) in (
      ap (λ (r : Step). r.answer) taken ∙ ap (handled 0) signal,
      ap (λ (r : Step). awaited_by r.model vcpu) taken ∙ ap (λ (v : ℕ). get_or (set m.awaited v none) vcpu none) q.names ∙ none-set m.awaited vcpu,
    )

-- ---- a reply that does not
reply-closes : (s : Settings) (m : Model) → KnownEvents m → (msg out guest : List ℕ) → HasId msg 16 → m.closed ≡ false → least_out ≤ length out
    → ((vcpu event seq : ℕ) (fault : Fault) → awaited_by m vcpu ≡ some (awaiting event seq fault) → Replies vcpu event seq msg → ⊥)
    → (step s m (message msg out guest)).answer ≡ plain 1
unfolding reply_verdict is_awaited reply_fits
reply-closes s m known msg out guest (size, seq, w) o long misses =
    reply-answer s m msg out guest size seq w ∙ rw (o, le-ltb (length out) least_out long) (by (awaited_by m (vcpu_of (drop 8 msg))) refl)
  where
    d : List ℕ
    d = drop 8 msg

    Shuts : Verdict → Type 0
    Shuts v = answer_by v ≡ plain 1

    fits : Awaited → Bool
    fits a = eqb (first_padding 16 (drop 8 msg)) 0 && is_awaited a seq (replied_event (drop 8 msg)) && reply_fits (event_row_of a.event) (drop 8 msg)

    never : (a : Awaited) → awaited_by m (vcpu_of (drop 8 msg)) ≡ some a → fits a ≡ true → ⊥
    never a e h =
        let same : a.seq ≡ seq = eqb-true a.seq seq (search (and_l, and_r)) in
        let k : So (among a.event replied) = known_at m known (vcpu_of (drop 8 msg)) a.event a.seq a.fault e in
        let form : form_fits (event_row_of a.event).form (drop 8 msg) ≡ true = search (and_l, and_r) in
        let whole : cond (eqb a.event 10) (context_fits (drop 8 msg)) true ≡ true = sym (reply-form a.event k (drop 8 msg)) ∙ form in
        let action : takes_action (event_row_of a.event) (action_of (drop 8 msg)) ≡ true = search (and_l, and_r) in
        misses (vcpu_of (drop 8 msg)) a.event a.seq a.fault e
        (record {
          header = (size, w ∙ ap (λ (n : ℕ). whole_header 16 size n) (sym same));
          names = refl;
          padding = eqb-true (first_padding 16 (drop 8 msg)) 0 (search (and_l, and_r));
          of = sym (eqb-true a.event (replied_event (drop 8 msg)) (search (and_l, and_r)));
          size = eqb-true (length (drop 8 msg)) (event_row_of a.event).reply (search (and_l, and_r)) ∙ reply-length a.event k;
          action = sym (reply-actions a.event k (action_of (drop 8 msg))) ∙ action;
          context = λ pf. context-said (drop 8 msg) (rw (eq-eqb a.event 10 pf) at whole);
        })

    by : (a : Option Awaited) → awaited_by m (vcpu_of (drop 8 msg)) ≡ a → answer_by (says_of a (length guest) seq (drop 8 msg)) ≡ plain 1
    by none e = pick Shuts (leb 16 (length (drop 8 msg))) _ _ (λ _. refl) (λ _. refl)
    by (some a) e =
        pick Shuts (leb 16 (length (drop 8 msg))) _ _ (λ _. pick Shuts (fits a) _ _ (λ h. absurd (never a e h)) (λ _. refl)) (λ _. refl)

-- ---- a session that stands for a model
module _ (s : Settings) (st : State) (m : Model) (f : Stands s st m) where
  -- as many records are awaited as there are vCPUs
  awaited-count : length m.awaited ≡ s.vcpus
  awaited-count =
      sym (ap (λ (k : Model). length k.awaited) f.model) ∙ awaited-length st.vcpus 0 st.session.settings.vcpus ∙ ap (λ (x : Settings). x.vcpus) f.settings

  -- a closed one awaits nothing
  waiting-open : Rests s m → (vcpu : ℕ) → is_some (awaited_by m vcpu) ≡ true → m.closed ≡ false
  waiting-open rests vcpu waits =
      test m.closed
      (λ e. clash waits (ap (λ (k : Model). is_some (awaited_by k vcpu)) (rests e) ∙ ap is_some (replicated s.vcpus none vcpu)))
      (λ e. e)

  -- ---- an entry
  module _ (vcpu : ℕ) (block : List ℕ) (event : ℕ) (own out : List ℕ) where
    abbrev call : Call
    call = enter vcpu block event own out

    abbrev r : Told
    r = step_of st call

    -- what is written and awaited, and the model's tables
    stands-wrote : written r ≡ wrote (step s m call)
    stands-wrote = let same = step_same s st m call f in λ j. take (same.0 j).count (same.1 j)

    stands-awaits : awaited_by (model_of r.state) vcpu ≡ awaited_by (step s m call).model vcpu
    stands-awaits = ap (λ (k : Model). awaited_by k vcpu) (step-stands s st m call f).model

    stands-seq : (model_of r.state).seq ≡ (step s m call).model.seq
    stands-seq = ap (λ (k : Model). k.seq) (step-stands s st m call f).model

    stands-entered : r.answer.number ≡ 0 → Entered s m vcpu block event own out (step s m call)
    unfolding step
    stands-entered h = entered s m vcpu block event own out (sym (ap (λ (p : Paper). p.number) (step_same s st m call f).0) ∙ h)

    abbrev on : Bool
    on = switches_on m.tables vcpu event own

    stands-sent : r.answer.number ≡ 0 → SentExactly m vcpu block event own r
    stands-sent h =
        let e = stands-entered h in
        let count = awaited-count in
        let inside : vcpu < length m.awaited = let b = e.below in omega arith in
        let x = subst (Exactly m vcpu block event own out inside) (sym e.same) (entering-exactly m vcpu block event own out inside (no-pause event e.known) e.idle) in
        let asks-on = asked-on m.tables vcpu event own e.known in
        record {
          bytes = (λ q. sym asks-on ∙ x.0.0 (sym stands-wrote ∙ q), λ q. stands-wrote ∙ x.0.1 (asks-on ∙ q));
          awaited = (λ q. sym asks-on ∙ x.1.0 (sym stands-awaits ∙ q), λ q. stands-awaits ∙ x.1.1 (asks-on ∙ q));
          next = λ q. stands-seq ∙ x.2 (asks-on ∙ q);
        }

    stands-pauses : r.answer.number ≡ 0 → on ≡ false → 1 ≤ queued vcpu m → PauseGoes m vcpu block r
    stands-pauses h off one =
        let e = stands-entered h in
        let count = awaited-count in
        let inside : vcpu < length m.awaited = let b = e.below in omega arith in
        let there : vcpu < length m.tables.vcpus = let b = e.below in let c = count-is s m.tables (stands-valid s st m f) in omega arith in
        let x = subst (Goes m vcpu block event own out inside) (sym e.same)
        (entering-pauses m vcpu block event own out inside there (asked-on m.tables vcpu event own e.known ∙ off) one) in
        record {
          bytes = stands-wrote ∙ x.0;
          awaited = stands-awaits ∙ x.1;
          queue = ap (λ (k : Model). queued vcpu k + 1) (step-stands s st m call f).model ∙ x.2;
          next = stands-seq ∙ x.3;
        }

    stands-keeps : Offer event own → on ≡ true → (model_of r.state).tables ≡ m.tables
    unfolding step
    stands-keeps o q =
        ap (λ (k : Model). k.tables) (step-stands s st m call f).model ∙ asked-keeps s m vcpu block event own out (asked-on m.tables vcpu event own o.0 ∙ q)

    stands-over : Offer event own → on ≡ false → r ≡ step_of st (enter vcpu block 0 [] out)
    unfolding step_of
    stands-over o q =
        over st vcpu block event own out (offer-fits event own o)
        (asked-means st f.formed.words f.formed.tables.pa_up vcpu event own ∙ ap (λ (k : Model). is_asked_for k.tables vcpu event own) f.model ∙ asked-on m.tables vcpu event own o.0 ∙ q)

  -- ---- a reply
  stands-taken : Rests s m → KnownEvents m → (vcpu event seq : ℕ) (fault : Fault) (msg out guest : List ℕ) → awaited_by m vcpu ≡ some (awaiting event seq fault)
      → Replies vcpu event seq msg → least_out ≤ length out
      → let r = step_of st (message msg out guest) in (r.answer ≡ handled 0 (signalled vcpu event fault (length guest) (drop 8 msg))) × (awaited_by (model_of r.state) vcpu ≡ none)
  stands-taken rests known vcpu event seq fault msg out guest waits q long =
      let c = message msg out guest in
      let t = reply-taken s m vcpu event seq fault msg out guest (waiting-open rests vcpu (ap is_some waits)) waits (known_at m known vcpu event seq fault waits) q long in
      ((step_same s st m c f).0 ∙ t.0, ap (λ (k : Model). awaited_by k vcpu) (step-stands s st m c f).model ∙ t.1)

  stands-later : Rests s m → (between : List Call) (msg out guest : List ℕ) → HasId msg 16 → let vcpu = vcpu_of (drop 8 msg) in
      Awaits st vcpu → NoReplies vcpu between → Open (after_of st between)
      → (step_of (after_of st between) (message msg out guest)).answer ≡ (step_of st (message msg out guest)).answer
  stands-later rests between msg out guest id waits none-replies o =
      let c = message msg out guest in
      let vcpu = vcpu_of (drop 8 msg) in
      let g = after-stands s st m between f in
      let awaits : is_some (awaited_by m vcpu) ≡ true = sym (ap (λ (k : Model). is_some (awaited_by k vcpu)) f.model) ∙ waits in
      let opened : (after s m between).closed ≡ false = sym (ap (λ (k : Model). k.closed) g.model) ∙ o in
      (step_same s (after_of st between) (after s m between) c g).0
      ∙ reads_same s s (after s m between) m msg out guest guest id refl (opened ∙ sym (waiting-open rests vcpu awaits)) (after-waits s m vcpu between awaits none-replies opened)
      ∙ sym (step_same s st m c f).0

  stands-closes : KnownEvents m → (msg out guest : List ℕ) → HasId msg 16 → Open st → least_out ≤ length out
      → ((vcpu event seq : ℕ) (fault : Fault) → awaited_by m vcpu ≡ some (awaiting event seq fault) → Replies vcpu event seq msg → ⊥)
      → (step_of st (message msg out guest)).answer ≡ plain 1
  stands-closes known msg out guest id o long misses =
      (step_same s st m (message msg out guest) f).0
      ∙ reply-closes s m known msg out guest id (sym (ap (λ (k : Model). k.closed) f.model) ∙ o) long misses

-- ---- one event, from the entry to its reply
stands-resumed : (s : Settings) (st : State) (m : Model) → Stands s st m → Rests s m → KnownEvents m → (vcpu : ℕ) (block : List ℕ) (event : ℕ) (own out : List ℕ)
    → let r = step_of st (enter vcpu block event own out) in
    r.answer.number ≡ 0 → switches_on m.tables vcpu event own ≡ true
    → (between : List Call) → NoReplies vcpu between → Open (after_of r.state between)
    → (msg out' guest : List ℕ) → Replies vcpu event m.seq msg → least_out ≤ length out'
    → (step_of (after_of r.state between) (message msg out' guest)).answer
    ≡ handled 0
    (cond (eqb (action_of (drop 8 msg)) 2) (Crash vcpu) (resume vcpu (action_of (drop 8 msg)) (value_in event (drop 8 msg)) (fed_by event (kept_of event own) (length guest) (drop 8 msg))))
stands-resumed s st m f rests known vcpu block event own out h on between none-replies o msg out' guest q long =
    let c = enter vcpu block event own out in
    let k = (step s m c).model in
    let g = step-stands s st m c f in
    let e = after-stands s (step_of st c).state k between g in
    let awaits : awaited_by k vcpu ≡ some (awaiting event m.seq (kept_of event own)) = sym (stands-awaits s st m f vcpu block event own out) ∙ (stands-sent s st m f vcpu block event own out h).awaited.1 on in
    let opened : (after s k between).closed ≡ false = sym (ap (λ (x : Model). x.closed) e.model) ∙ o in
    let still = after-waits s k vcpu between (ap is_some awaits) none-replies opened ∙ awaits in
    let taken = (stands-taken s (after_of (step_of st c).state between) (after s k between) e (after-rests s k between (step-rests s m rests c)) (after-known s k between (step-known s m known c)) vcpu event m.seq (kept_of event own) msg out' guest still q long).0 in
    let other : eqb event 2 ≡ false = ne_eqb event 2 (λ z. no-pause event (stands-entered s st m f vcpu block event own out h).known (ap (λ (n : ℕ). n % 256) z)) in
    rw other at taken

-- ---- the other events
module _ (s : Settings) (st : State) (m : Model) (b : BeganOn s st m) (cs : List Call) where
  stands : Stands s (after_of st cs) (after s m cs)
  stands = after-stands s st m cs (began-stands s st m b)

  rests : Rests s (after s m cs)
  rests = after-rests s m cs (began-rests s st m b)

  known : KnownEvents (after s m cs)
  known = after-known s m cs (began-known s st m b)

pub events : Events
events =
    record {
      sent = λ s st m b cs. stands-sent s (after_of st cs) (after s m cs) (stands s st m b cs);
      passed_over = λ s st m b cs. stands-over s (after_of st cs) (after s m cs) (stands s st m b cs);
      pause_instead = λ s st m b cs. stands-pauses s (after_of st cs) (after s m cs) (stands s st m b cs);
      keeps = λ s st m b cs. stands-keeps s (after_of st cs) (after s m cs) (stands s st m b cs);
      known = λ s st m b cs vcpu event seq fault e. known_at (after s m cs) (known s st m b cs) vcpu event seq fault (sym (ap (λ (k : Model). awaited_by k vcpu) (stands s st m b cs).model) ∙ e);
      reads = reads_same;
      later = λ s st m b cs. stands-later s (after_of st cs) (after s m cs) (stands s st m b cs) (rests s st m b cs);
      taken = λ s st m b cs. stands-taken s (after_of st cs) (after s m cs) (stands s st m b cs) (rests s st m b cs) (known s st m b cs);
      closes = λ s st m b cs. stands-closes s (after_of st cs) (after s m cs) (stands s st m b cs) (known s st m b cs);
      resumed = λ s st m b cs. stands-resumed s (after_of st cs) (after s m cs) (stands s st m b cs) (rests s st m b cs) (known s st m b cs);
    }
