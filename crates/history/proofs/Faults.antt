-- Page faults, over every list of calls. Assumes nothing.
use mathlib.Core.Path.{◌≡◌, refl, sym, ap, subst, ◌∙◌}
use mathlib.Core.Logic.{◌↔◌}
use Prim.Native.Nat.{ℕ, zero, suc, ◌+◌, ◌-◌, ◌*◌, ◌/◌, ◌%◌, ◌^◌, ◌≤◌, ◌<◌}
use native.Mathlib.Omega.{arith}
use mathlib.Core.List.{List, [], ◌∷◌}
use mathlib.Core.Bool.{Bool, true, false, cond, not, ◌&&◌, So}
use mathlib.Core.Option.{Option, none, some}
use lib.ListN.{length, take, drop, length-drop, length-take}
use lib.Seq.{drop-drop, take-take, take-nil}
use lib.Dec.{leb, ltb, eqb}
use borrow.Author.Tests.{ltb-true, lt-ltb, leb-true, eqb-true, ne_eqb}
use Rattle.std.specs.Prelude.{◌≢◌, Some, None}
use Rattle.wire.specs.Bytes.{load, store}
use Rattle.wire.specs.Header.{whole as whole_header, HeaderRead, header_of}
use Rattle.wire.proofs.Laws.{load-drop, store-none}
use Rattle.kvmi.specs.declared.Feed.{Feed}
use Rattle.kvmi.specs.declared.Source.{Source}
use Rattle.kvmi.specs.declared.Source.TheVariants.{Unfed, Message, Guest, Missing}
use Rattle.kvmi.specs.declared.Settings.{Settings}
use Rattle.kvmi.specs.declared.Signal.{Signal}
use Rattle.kvmi.specs.declared.Signal.TheVariants.{Quiet, Kick, Crash, Resume}
use Rattle.kvmi.specs.Answer.{Paper, handled, lacks_page, is_missing, resume}
use Rattle.kvmi.specs.Bits.{is_on, every}
use Rattle.kvmi.specs.Limits.{least_out}
use Rattle.kvmi.specs.Tables.{Page, event_on, access_in, access}
use Rattle.kvmi.specs.Image.{pa_form, pa_may}
use Rattle.kvmi.specs.Valid.{pa_good}
use Rattle.history.proofs.Lists.{stands-valid, after-stands, began-stands}
use Rattle.kvmi.specs.declared.Awaited.{Awaited}
use Rattle.kvmi.specs.Model.{Model, awaiting, awaited_by}
use Rattle.kvmi.specs.declared.Fault.{Fault}
use Rattle.kvmi.specs.Feed.{unfed, missing, is_message, address_of, supplied_size, in_context, page_exists, page_feed, chosen_feed, wants_bytes, feed_of}
use Rattle.kvmi.specs.declared.Change.TheVariants.{EndWait}
use Rattle.kvmi.specs.declared.Verdict.{Verdict}
use Rattle.kvmi.specs.declared.Verdict.TheVariants.{Closes, Does}
use Rattle.kvmi.specs.Change.{reply_signal, signal_of, apply}
use Rattle.kvmi.specs.Event.{event_row_of, value_of}
use Rattle.kvmi.specs.Verdict.{awaits, is_awaited, reply_fits, feed_by, reply_verdict, change_of, verdict, takes_access}
use Rattle.kvmi.specs.Reply.{reply_data, answer_of, answer_seq}
use Rattle.kvmi.specs.Message.{layout_of, reply_kind, action_of, vcpu_of, replied_event, first_padding}
use Rattle.kvmi.specs.Batch.{Batch, next_length, next_of, out_left, turn_of, feed_in, resume_of}
use Rattle.kvmi.specs.Call.{Call, message, unchanged, answering, judged, headed, message_step, Step, step, after, reporting}
use Rattle.kvmi.specs.declared.Change.{Change}
use Rattle.kvmi.specs.declared.Facts.{Facts}
use Rattle.kvmi.specs.declared.ReplyForm.{ReplyForm}
use Rattle.kvmi.specs.declared.ReplyForm.TheVariants as form
use Rattle.kvmi.specs.declared.ReplyMode.{ReplyMode}
use Rattle.kvmi.specs.declared.ReplyMode.TheVariants.{On, Off, ErrorsOnly}
use Rattle.kvmi.specs.Codes.{OK}
use Rattle.kvmi.specs.Mode.{mode_of_number}
use Rattle.store.specs.Words.{ended_wait}
use Rattle.session.specs.State.{State, with_vcpu_words, with_seq_of, is_closed}
use Rattle.session.specs.Calls.{Told}
use Rattle.change.specs.Change.{change}
use Rattle.message.specs.Message.{facts_in, answering_of, reporting_of, judged_of, headed_of, message_of}
use Rattle.batch.specs.Batch.{message_takes}
use Rattle.feed.specs.Fed.{part_of, address_in, size_in, fed_bytes}
use Rattle.calls.specs.Given.{source_number}
use Rattle.laws.proofs.Feeds.{in-from, in-to, reply-inside}
use Rattle.laws.proofs.Verdicts.{pick, verdict-cases}
use Rattle.refine.specs.Errors.{HasId}
use Rattle.laws.proofs.Bool.{and_l, and_r, test, clash, every-head, every-tail}
use Rattle.refine.proofs.Simulate.{both}
use Rattle.history.specs.History.{step_of, after_of, BeganOn}
use Rattle.history.specs.Events.{switches_on, signalled, Replies}
use Rattle.history.specs.Faults.{Part, Names, feed_of_signal, feed_of_resume, without_feed, Lies, Lacked, ButFeed, Faults}
use Rattle.history.proofs.Events.{says_of, reply-verdict, events}

-- ---- the source, by the number that a host gets
is-1 : (s : Source) → source_number s ≡ 1 → s ≡ Message
is-1 Unfed h = absurd (omega arith)
is-1 Message h = refl
is-1 Guest h = absurd (omega arith)
is-1 Missing h = absurd (omega arith)

is-2 : (s : Source) → source_number s ≡ 2 → s ≡ Guest
is-2 Unfed h = absurd (omega arith)
is-2 Message h = absurd (omega arith)
is-2 Guest h = refl
is-2 Missing h = absurd (omega arith)

is-3 : (s : Source) → source_number s ≡ 3 → s ≡ Missing
is-3 Unfed h = absurd (omega arith)
is-3 Message h = absurd (omega arith)
is-3 Guest h = absurd (omega arith)
is-3 Missing h = refl

few_sources : (s : Source) → source_number s ≤ 3
few_sources Unfed = omega arith
few_sources Message = omega arith
few_sources Guest = omega arith
few_sources Missing = omega arith

not_0 : (s : Source) → (0 < source_number s) ↔ (s ≢ Unfed)
not_0 Unfed = (λ h. absurd (omega arith), λ h. absurd (h refl))
not_0 Message = (λ h e. absurd (cc), λ h. omega arith)
not_0 Guest = (λ h e. absurd (cc), λ h. omega arith)
not_0 Missing = (λ h e. absurd (cc), λ h. omega arith)

named : (msg guest : List ℕ) (f : Feed) (bytes : List ℕ) → (f.source ≡ Message → Part msg f bytes) → (f.source ≡ Guest → Part guest f bytes) → Names msg guest f bytes
named msg guest f bytes one two =
    record { source = few_sources f.source; of_message = λ n. one (is-1 f.source n); of_guest = λ n. two (is-2 f.source n) }

lain : (msg guest : List ℕ) (f : Feed) → (f.source ≡ Message → f.at + f.length ≤ length msg) → (f.source ≡ Guest → f.at + f.length ≤ length guest)
    → (f.source ≡ Missing → f.length ≡ 0) → Lies msg guest f
lain msg guest f one two three =
    record {
      source = few_sources f.source;
      of_message = λ n. one (is-1 f.source n);
      of_guest = λ n. two (is-2 f.source n);
      of_none = λ n. three (is-3 f.source n);
    }

-- ---- the part that a choice names
module _ (msg guest : List ℕ) (gva gpa : ℕ) (long : length (drop 8 msg) ≡ 288) (few : load 4 (drop 8 msg) 24 ≤ 256) where
  abbrev d : List ℕ
  d = drop 8 msg

  same_address : address_of d ≡ address_in msg
  same_address = load-drop 8 8 msg 16

  same_size : supplied_size d ≡ size_in msg
  same_size = load-drop 4 8 msg 24

  whole : length msg ≡ 296
  whole = let l = length-drop 8 msg in let e = long in omega arith

  chosen-names : Names msg guest (chosen_feed gva gpa (length guest) d) (fed_bytes msg guest gva gpa)
  unfolding chosen_feed page_feed fed_bytes
  chosen-names =
      rw (same_address, same_size)
      (test (in_context gva (address_in msg) (size_in msg))
      (λ i. let a = in-from gva (address_in msg) (size_in msg) i in
      let b = in-to gva (address_in msg) (size_in msg) i in
      let n : size_in msg ≤ 256 = rw same_size at few in
      let w = whole in
      rw i (named _ _ _ _ (λ _. record { inside = omega arith; any = omega arith; same = refl }) (λ e. absurd (cc))))
      (λ i. rw i
      (test (page_exists (length guest) gpa)
      (λ p. let l = page-inside p in
      rw p (named _ _ _ _ (λ e. absurd (cc)) (λ _. record { inside = omega arith; any = omega arith; same = refl })))
      (λ p. rw p (named _ _ _ _ (λ e. absurd (cc)) (λ e. absurd (cc)))))))
    where
      page-inside : page_exists (length guest) gpa ≡ true → (gpa / 4096 + 1) * 4096 ≤ length guest
      page-inside p = leb-true ((gpa / 4096 + 1) * 4096) (length guest) (unfold page_exists in p)

-- no bytes are named where none are wanted
none_named : (msg guest bytes : List ℕ) → Names msg guest unfed bytes
none_named msg guest bytes = named _ _ _ _ (λ e. absurd (cc)) (λ e. absurd (cc))

-- ---- what is signalled for a fault's reply
feed-signalled : (vcpu : ℕ) (fault : Fault) (guest : ℕ) (d : List ℕ)
    → feed_of_signal (signalled vcpu 10 fault guest d) ≡ cond (eqb (action_of d) 0 && is_on fault.access 0) (chosen_feed fault.gva fault.gpa guest d) unfed
feed-signalled vcpu fault guest d =
    test (eqb (action_of d) 2)
    (λ e. let two = eqb-true (action_of d) 2 e in
    let other : eqb (action_of d) 0 ≡ false = ne_eqb (action_of d) 0 (λ z. omega arith) in
    rw (e, other))
    (λ e. rw e)

is-missing : (s : Source) → is_missing s ≡ true → s ≡ Missing
is-missing Unfed h = cc
is-missing Message h = cc
is-missing Guest h = cc
is-missing Missing h = refl

lacks-signalled : (g : Signal) → lacks_page g ≡ is_missing (feed_of_signal g).source
lacks-signalled Quiet = refl
lacks-signalled (Kick wait vcpu) = refl
lacks-signalled (Crash vcpu) = refl
lacks-signalled (Resume r) = refl

-- ---- a fault's reply that is taken
module _ (s : Settings) (st : State) (m : Model) (began : BeganOn s st m) (cs : List Call) (vcpu seq : ℕ) (fault : Fault) (msg out guest : List ℕ)
    (waits : awaited_by (after s m cs) vcpu ≡ some (awaiting 10 seq fault)) (fits : Replies vcpu 10 seq msg) (room : least_out ≤ length out) where
  abbrev given : Paper
  given = (step_of (after_of st cs) (message msg out guest)).answer

  abbrev data_of : List ℕ
  data_of = drop 8 msg

  answered : given ≡ handled 0 (signalled vcpu 10 fault (length guest) data_of)
  answered = (events.taken s st m began cs vcpu 10 seq fault msg out guest waits fits room).0

  abbrev wants : Bool
  wants = eqb (action_of data_of) 0 && is_on fault.access 0

  fed-is : feed_of_signal given.signal ≡ cond wants (chosen_feed fault.gva fault.gpa (length guest) data_of) unfed
  fed-is = ap (λ (p : Paper). feed_of_signal p.signal) answered ∙ feed-signalled vcpu fault (length guest) data_of

  fed-names : Names msg guest (feed_of_signal given.signal) (fed_bytes msg guest fault.gva fault.gpa)
  fed-names =
      subst (λ (f : Feed). Names msg guest f (fed_bytes msg guest fault.gva fault.gpa)) (sym fed-is)
      (test wants (λ w. rw w (chosen-names msg guest fault.gva fault.gpa fits.size (fits.context refl).size)) (λ w. rw w (none_named msg guest (fed_bytes msg guest fault.gva fault.gpa))))

  wants-both : wants ≡ true → (action_of data_of ≡ 0) × (is_on fault.access 0 ≡ true)
  wants-both w = (eqb-true (action_of data_of) 0 (and_l (eqb (action_of data_of) 0) (is_on fault.access 0) w), and_r (eqb (action_of data_of) 0) (is_on fault.access 0) w)

  both-wants : (action_of data_of ≡ 0) × (is_on fault.access 0 ≡ true) → wants ≡ true
  both-wants q = rw (q.0, q.1)

  -- a choice has a source
  chosen-source : (chosen_feed fault.gva fault.gpa (length guest) data_of).source ≢ Unfed
  unfolding chosen_feed page_feed
  chosen-source =
      test (in_context fault.gva (address_of data_of) (supplied_size data_of)) (λ i. rw i (λ e. cc))
      (λ i. rw i (test (page_exists (length guest) fault.gpa) (λ p. rw p (λ e. cc)) (λ p. rw p (λ e. cc))))

  fed-wanted : (0 < source_number (feed_of_signal given.signal).source) ↔ ((action_of data_of ≡ 0) × (is_on fault.access 0 ≡ true))
  fed-wanted = (
    λ l. test wants wants-both (λ w. let z : (feed_of_signal given.signal).source ≡ Unfed = ap (λ (f : Feed). f.source) fed-is ∙ rw w in absurd ((not_0 _).0 l z)),
    λ q. (not_0 _).1 (subst (λ (f : Feed). f.source ≢ Unfed) (sym fed-is) (rw (both-wants q) chosen-source)),
  )

  -- which choice is missing
  abbrev Lacking : Type 0
  Lacking = (in_context fault.gva (load 8 msg 24) (load 4 msg 32) ≡ false) × (page_exists (length guest) fault.gpa ≡ false)

  chosen-missing : (is_missing (chosen_feed fault.gva fault.gpa (length guest) data_of).source ≡ true) ↔ Lacking
  unfolding chosen_feed page_feed
  chosen-missing =
      rw (same_address msg guest fault.gva fault.gpa fits.size (fits.context refl).size, same_size msg guest fault.gva fault.gpa fits.size (fits.context refl).size)
      (test (in_context fault.gva (load 8 msg 24) (load 4 msg 32)) (λ i. rw i (λ e. absurd (clash e refl), λ q. clash refl q.0))
      (λ i. rw i
      (test (page_exists (length guest) fault.gpa) (λ p. rw p (λ e. absurd (clash e refl), λ q. clash refl q.1)) (λ p. rw p (λ _. (refl, refl), λ _. refl)))))

  number_is : given.number ≡ cond (is_missing (feed_of_signal given.signal).source) 12 0
  number_is =
      ap (λ (p : Paper). p.number) answered
      ∙ ap (λ (b : Bool). cond b 12 0) (lacks-signalled (signalled vcpu 10 fault (length guest) data_of) ∙ ap (λ (p : Paper). is_missing (feed_of_signal p.signal).source) (sym answered))

  fed-missing : (given.number ≡ 12) ↔ ((action_of data_of ≡ 0) × (is_on fault.access 0 ≡ true) × (in_context fault.gva (load 8 msg 24) (load 4 msg 32) ≡ false)
      × (page_exists (length guest) fault.gpa ≡ false))
  fed-missing =
      let source = ap (λ (f : Feed). is_missing f.source) fed-is in (
        λ n. test wants
            (λ w. let three : is_missing (feed_of_signal given.signal).source ≡ true = twelve (is_missing (feed_of_signal given.signal).source) (sym number_is ∙ n) in
            let lacks = chosen-missing.0 (sym (source ∙ rw w) ∙ three) in
            ((wants-both w).0, (wants-both w).1, lacks.0, lacks.1))
            (λ w. let three : is_missing (feed_of_signal given.signal).source ≡ true = twelve (is_missing (feed_of_signal given.signal).source) (sym number_is ∙ n) in
            clash three (source ∙ rw w)),
        λ q. let three : is_missing (feed_of_signal given.signal).source ≡ true = source ∙ rw (both-wants (q.0, q.1)) (chosen-missing.1 (q.2, q.3)) in
            number_is ∙ ap (λ (b : Bool). cond {A = ℕ} b 12 0) three,
      )
    where
      twelve : (b : Bool) → ◌≡◌ {A = ℕ} (cond b 12 0) 12 → b ≡ true
      twelve true h = refl
      twelve false h = absurd (omega arith)

-- ---- a fault that is offered
fault-sent : (s : Settings) (st : State) (m : Model) → BeganOn s st m → (cs : List Call) (vcpu : ℕ) (own : List ℕ)
    → (switches_on (after s m cs).tables vcpu 10 own ≡ true)
    ↔ ((event_on (after s m cs).tables vcpu 10 ≡ true) × (access (after s m cs).tables (load 2 own 18) (load 8 own 8 % 2 ^ 64 / 4096) < 7))
unfolding switches_on
fault-sent s st m began cs vcpu own =
    let t = (after s m cs).tables in
    let on = event_on t vcpu 10 in
    let stands = access t (load 2 own 18) (load 8 own 8 % 2 ^ 64 / 4096) in (
      λ h. (and_l on (ltb stands 7) h, ltb-true stands 7 (and_r on (ltb stands 7) h)),
      λ q. rw (q.0, lt-ltb stands 7 q.1),
    )

-- ---- a view that is not there
no-view : (s : Settings) (view page : ℕ) → s.views ≤ view → (ps : List Page) → So (every (pa_good s) ps) → access_in ps view page ≡ 7
unfolding access_in pa_may
no-view s view page far [] h = refl
no-view s view page far (p ∷ ps) h =
    let may = and_r (pa_form p) (pa_may s p) (every-head (pa_good s) p ps h) in
    let below = ltb-true p.view s.views (and_l (ltb p.view s.views) (takes_access s p.access) may) in
    rw (ne_eqb p.view view (λ e. omega arith)) (no-view s view page far ps (every-tail (pa_good s) p ps h))

began-no-view : (s : Settings) (st : State) (m : Model) → BeganOn s st m → (cs : List Call) (view page : ℕ) → s.views ≤ view → access (after s m cs).tables view page ≡ 7
unfolding access
began-no-view s st m b cs view page far =
    no-view s view page far (after s m cs).tables.pages (stands-valid s (after_of st cs) (after s m cs) (after-stands s st m cs (began-stands s st m b))).pas

-- ---- guest memory moves nothing but the bytes
signal-moves : (resumes : Bool) (vcpu action value : ℕ) (f g : Feed) → without_feed (reply_signal resumes vcpu action value f) ≡ without_feed (reply_signal resumes vcpu action value g)
signal-moves resumes vcpu action value f g = test (eqb action 2) (λ e. rw e) (λ e. rw e (test resumes (λ r. rw r) (λ r. rw r)))

module _ (s : Settings) (m : Model) (msg out guest guest' : List ℕ) where
  taken-moves : (seq : ℕ) (resumes : Bool) (vcpu action value : ℕ) (f g : Feed)
      → ButFeed (judged s m 16 seq (drop 8 msg) out guest (Does (EndWait resumes vcpu action value f))) (judged s m 16 seq (drop 8 msg) out guest' (Does (EndWait resumes vcpu action value g)))
  unfolding judged answering answer_of layout_of apply
  taken-moves seq resumes vcpu action value f g = record { model = refl; out = refl; count = refl; offset = refl; padding = refl; signal = signal-moves resumes vcpu action value f g }

  closes-moves : (seq : ℕ) → ButFeed (judged s m 16 seq (drop 8 msg) out guest Closes) (judged s m 16 seq (drop 8 msg) out guest' Closes)
  unfolding judged
  closes-moves seq = record { model = refl; out = refl; count = refl; offset = refl; padding = refl; signal = refl }

  said-moves : (seq : ℕ) (a : Option Awaited)
      → ButFeed (judged s m 16 seq (drop 8 msg) out guest (says_of a (length guest) seq (drop 8 msg))) (judged s m 16 seq (drop 8 msg) out guest' (says_of a (length guest') seq (drop 8 msg)))
  unfolding reply_verdict
  said-moves seq a = both R (leb 16 (length (drop 8 msg))) _ _ _ _ (λ _. by a) (λ _. closes-moves seq)
    where
      R : Verdict → Verdict → Type 0
      R v w = ButFeed (judged s m 16 seq (drop 8 msg) out guest v) (judged s m 16 seq (drop 8 msg) out guest' w)

      by : (a : Option Awaited) → R (reply_verdict (awaits a) (length guest) seq (drop 8 msg)) (reply_verdict (awaits a) (length guest') seq (drop 8 msg))
      by none = closes-moves seq
      by (some a) =
          let d = drop 8 msg in
          both R (eqb (first_padding 16 d) 0 && is_awaited a seq (replied_event d) && reply_fits (event_row_of a.event) d) _ _ _ _
          (λ _. taken-moves seq _ (vcpu_of d) _ _ _ _) (λ _. closes-moves seq)

  reporting-moves : (padding : ℕ) (r q : Step) → ButFeed r q → ButFeed (reporting padding r) (reporting padding q)
  reporting-moves padding r q h = record { model = h.model; out = h.out; count = h.count; offset = h.offset; padding = refl; signal = h.signal }

  reply-moves : HasId msg 16 → ButFeed (step s m (message msg out guest)) (step s m (message msg out guest'))
  unfolding step message_step headed
  reply-moves (size, seq, w) =
      let d = drop 8 msg in
      let same : (k : ℕ) (o g g' : List ℕ) → ButFeed (unchanged k m o g) (unchanged k m o g') = λ k o g g'. record { model = refl; out = refl; count = refl; offset = refl; padding = refl; signal = refl } in
      rw w
      (both ButFeed m.closed _ _ _ _ (λ _. same 2 out guest guest')
      (λ _. both ButFeed (ltb (length out) least_out) _ _ _ _ (λ _. same 3 out guest guest')
      (λ _. rw (reply-verdict s m (length guest) (vcpu_of d) seq d, reply-verdict s m (length guest') (vcpu_of d) seq d) (reporting-moves _ _ _ (said-moves seq (awaited_by m (vcpu_of d)))))))

-- ---- in a batch
drop-taken : (at n : ℕ) (l : List ℕ) → drop at (take n l) ≡ take (n - at) (drop at l)
drop-taken zero n l = let e : n - 0 ≡ n = omega arith in rw e
drop-taken (suc at) zero l = let e : 0 - suc at ≡ 0 = omega arith in rw e
drop-taken (suc at) (suc n) [] = sym (take-nil (suc n - suc at))
drop-taken (suc at) (suc n) (x ∷ l) = let e : suc n - suc at ≡ n - at = omega arith in rw e (drop-taken at n l)

part-inside : (input : List ℕ) (start n at k : ℕ) → at + k ≤ length (take n (drop start input)) → 0 < k → start + at + k ≤ length input
part-inside input start n at k l any =
    let t = length-take n (drop start input) in
    let d = length-drop start input in
    omega arith

part_moved : (input : List ℕ) (start n at k : ℕ) → at + k ≤ length (take n (drop start input)) → part_of (take n (drop start input)) at k ≡ part_of input (start + at) k
part_moved input start n at k l =
    let few = length-take n (drop start input) in
    ap (λ (x : List ℕ). take k x) (drop-taken at n (drop start input)) ∙ take-take k (n - at) (drop at (drop start input)) (omega arith)
    ∙ ap (λ (x : List ℕ). take k x) (drop-drop at start input)

feed-back : (start : ℕ) (g : Signal) → feed_in start (feed_of_signal g) ≡ feed_of_resume (resume_of start g)
feed-back start Quiet = refl
feed-back start (Kick wait vcpu) = refl
feed-back start (Crash vcpu) = refl
feed-back start (Resume r) = refl

feed-moved : (input guest : List ℕ) (start n : ℕ) (f : Feed) (bytes : List ℕ) → Names (take n (drop start input)) guest f bytes → Names input guest (feed_in start f) bytes
feed-moved input guest start n f bytes h =
    named _ _ _ _
    (λ one. let p = h.of_message (ap source_number one) in
    let e : cond (is_message f.source) (start + f.at) f.at ≡ start + f.at = rw one in
    record {
      inside = rw e (part-inside input start n f.at f.length p.inside p.any);
      any = p.any;
      same = rw e (sym (part_moved input start n f.at f.length p.inside) ∙ p.same);
    })
    (λ two. let p = h.of_guest (ap source_number two) in
    let e : cond (is_message f.source) (start + f.at) f.at ≡ f.at = rw two in
    record { inside = rw e p.inside; any = p.any; same = rw e p.same })

turn-names : (input : List ℕ) (b : Batch State) (bytes : List ℕ)
    → let r = message_of b.state (next_of input b) (out_left b) b.guest in
    let e = turn_of message_takes input b in
    Names (next_of input b) r.guest (feed_of_signal r.answer.signal) bytes → Names input e.guest (feed_of_resume e.resume) bytes
unfolding turn_of
turn-names input b bytes h =
    let r = message_of b.state (next_of input b) (out_left b) b.guest in
    subst (λ (f : Feed). Names input r.guest f bytes) (feed-back b.used r.answer.signal)
    (feed-moved input r.guest b.used (next_length (drop b.used input)) (feed_of_signal r.answer.signal) bytes h)

-- ---- any session: what a message's verdict names
-- what a form's choice has, but for its place in the message
record Rest (guest : ℕ) (x : Feed) : Type 0 where
  of_guest : x.source ≡ Guest → x.at + x.length ≤ guest
  of_none : x.source ≡ Missing → x.length ≡ 0

unfed-rests : (guest : ℕ) → Rest guest unfed
unfed-rests guest = record { of_guest = λ e. absurd (cc); of_none = λ e. absurd (cc) }

chosen-rests : (gva gpa guest : ℕ) (d : List ℕ) → Rest guest (chosen_feed gva gpa guest d)
unfolding chosen_feed page_feed page_exists
chosen-rests gva gpa guest d =
    pick (Rest guest) (in_context gva (address_of d) (supplied_size d)) _ _
    (λ _. record { of_guest = λ e. absurd (cc); of_none = λ e. absurd (cc) })
    (λ _. pick (Rest guest) (leb ((gpa / 4096 + 1) * 4096) guest) _ _
    (λ p. let l = leb-true ((gpa / 4096 + 1) * 4096) guest p in
    record { of_guest = λ _. omega arith; of_none = λ e. absurd (cc) })
    (λ _. record { of_guest = λ e. absurd (cc); of_none = λ _. refl }))

form-rests : (form : ReplyForm) (f : Fault) (guest : ℕ) (d : List ℕ) → Rest guest (feed_by form f guest d)
unfolding feed_of
form-rests form.Plain f guest d = unfed-rests guest
form-rests form.NewValue f guest d = unfed-rests guest
form-rests form.Context f guest d = pick (Rest guest) (wants_bytes f.access (action_of d)) _ _ (λ _. chosen-rests f.gva f.gpa guest d) (λ _. unfed-rests guest)

-- a change that a command makes names nothing
command-unfed : (id : ℕ) (d : List ℕ) → feed_of_signal (signal_of (change_of id d)) ≡ unfed
unfolding change_of
command-unfed id d =
    let U : Change → Type 0 = λ c. feed_of_signal (signal_of c) ≡ unfed in
    pick U (eqb id 5) _ _ (λ _. refl)
    (λ _. pick U (eqb id 7) _ _ (λ _. refl)
    (λ _. pick U (eqb id 9) _ _ (λ _. refl)
    (λ _. pick U (eqb id 10) _ _ (λ _. refl)
    (λ _. pick U (eqb id 11) _ _ (λ _. refl)
    (λ _. pick U (eqb id 12) _ _ (λ _. refl)
    (λ _. pick U (eqb id 13) _ _ (λ _. refl)
    (λ _. pick U (eqb id 14) _ _ (λ _. refl)
    (λ _. pick U (eqb id 15) _ _ (λ _. refl) (λ _. refl)))))))))

-- a reply's signal names its feed, or nothing
reply-feeds : (P : Feed → Type 0) (resumes : Bool) (vcpu action value : ℕ) (f : Feed) → P unfed → P f → P (feed_of_signal (reply_signal resumes vcpu action value f))
reply-feeds P resumes vcpu action value f n y =
    pick (λ (g : Signal). P (feed_of_signal g)) (eqb action 2) _ _ (λ _. n) (λ _. pick (λ (g : Signal). P (feed_of_signal g)) resumes (resume vcpu action value f) Quiet (λ _. y) (λ _. n))

unfed-lies : (msg guest : List ℕ) → Lies msg guest unfed
unfed-lies msg guest = lain _ _ _ (λ e. absurd (cc)) (λ e. absurd (cc)) (λ e. absurd (cc))

answer-seq : (mode : ReplyMode) (n : ℕ) → answer_seq mode n OK ≡ n
unfolding answer_seq
answer-seq On n = refl
answer-seq Off n = refl
answer-seq ErrorsOnly n = refl

module _ (st : State) (msg out guest : List ℕ) where
  abbrev body : List ℕ
  body = drop 8 msg

  abbrev facts : Facts
  facts = facts_in st (length guest) (vcpu_of body)

  abbrev here : ℕ → ℕ → Verdict → Told
  here id seq v = judged_of st id seq body out guest v

  judged-lies : (id size seq : ℕ) → Lies msg guest (feed_of_signal (here id seq (verdict st.session.settings facts id seq body)).answer.signal)
  unfolding judged_of answering_of
  judged-lies id size seq =
      verdict-cases (λ v. Lies msg guest (feed_of_signal (here id seq v).answer.signal)) st.session.settings facts id seq body (unfed-lies msg guest) (λ _ _. unfed-lies msg guest)
      (λ _. subst (Lies msg guest) (sym (command-unfed id body)) (unfed-lies msg guest))
      (λ a p. let form = (event_row_of a.event).form in
      let x = feed_by form a.fault (length guest) body in
      let rest = form-rests form a.fault (length guest) body in
      let inside = reply-inside st.session.settings facts a id seq body p in
      let long = length-drop 8 msg in
      reply-feeds (Lies msg guest) (not (eqb a.event 2)) (vcpu_of body) (action_of body) (value_of form body) x (unfed-lies msg guest)
      (lain _ _ _ (λ one. let i = inside one in let whole = i.0 in let few = i.1 in omega arith) rest.of_guest rest.of_none))

  headed-lies : (h : HeaderRead) → Lies msg guest (feed_of_signal (headed_of st body out guest h).answer.signal)
  unfolding headed_of
  headed-lies None = unfed-lies msg guest
  headed-lies (Some h) = judged-lies h.id h.size h.seq

  message-lies : Lies msg guest (feed_of_signal (message_of st msg out guest).answer.signal)
  unfolding message_of
  message-lies =
      let L : Told → Type 0 = λ r. Lies msg guest (feed_of_signal r.answer.signal) in
      pick L (is_closed st) _ _ (λ _. unfed-lies msg guest) (λ _. pick L (ltb (length out) least_out) _ _ (λ _. unfed-lies msg guest) (λ _. headed-lies (header_of msg)))

  -- guest memory
  judged-kept : (seq : ℕ) → (here 16 seq (verdict st.session.settings facts 16 seq body)).guest ≡ guest
  unfolding judged_of answering_of change
  judged-kept seq =
      verdict-cases (λ v. (here 16 seq v).guest ≡ guest) st.session.settings facts 16 seq body refl (λ _ _. refl)
      (λ p. unfold change_of in refl) (λ _ _. refl)

  message-kept : HasId msg 16 → (message_of st msg out guest).guest ≡ guest
  unfolding message_of headed_of
  message-kept (size, seq, w) =
      let K : Told → Type 0 = λ r. r.guest ≡ guest in
      pick K (is_closed st) _ _ (λ _. refl) (λ _. pick K (ltb (length out) least_out) _ _ (λ _. refl) (λ _. rw w (judged-kept seq)))

  -- answer 12
  abbrev L12 : Told → Type 0
  L12 r = r.answer.number ≡ 12 → Lacked st msg out guest r

  lacks-source : (g : Signal) → cond {A = ℕ} (lacks_page g) 12 0 ≡ 12 → (feed_of_signal g).source ≡ Missing
  lacks-source g n = is-missing (feed_of_signal g).source (sym (lacks-signalled g) ∙ yes (lacks_page g) n)
    where
      yes : (b : Bool) → ◌≡◌ {A = ℕ} (cond b 12 0) 12 → b ≡ true
      yes true h = refl
      yes false h = absurd (omega arith)

  judged-lacked : (id size seq : ℕ) → header_of msg ≡ whole_header id size seq → L12 (here id seq (verdict st.session.settings facts id seq body))
  unfolding judged_of answering_of change
  judged-lacked id size seq w =
      verdict-cases (λ v. L12 (here id seq v)) st.session.settings facts id seq body (λ n. absurd (omega arith)) (λ _ _ n. absurd (omega arith))
      (λ _ n. let z = lacks-source (signal_of (change_of id body)) n in let u = ap (λ (f : Feed). f.source) (command-unfed id body) in absurd (cc))
      (λ a p n. let form = (event_row_of a.event).form in
      let x = feed_by form a.fault (length guest) body in
      let g = reply_signal (not (eqb a.event 2)) (vcpu_of body) (action_of body) (value_of form body) x in
      let three = lacks-source g n in
      let empty : (feed_of_signal g).length ≡ 0
      = reply-feeds (λ (f : Feed). f.source ≡ Missing → f.length ≡ 0) (not (eqb a.event 2)) (vcpu_of body) (action_of body) (value_of form body) x (λ e. absurd (cc))
      (form-rests form a.fault (length guest) body).of_none three in
      let mode = mode_of_number st.session.tool.mode in
      let sixteen = p.reply in
      let silent : answer_of (reply_kind (layout_of id)) mode st.session.tool.seq id seq OK (reply_data st.session.settings guest id body) ≡ []
      = rw sixteen (unfold layout_of in unfold answer_of in refl) in
      record {
        of = (size, seq, w ∙ ap (λ (k : ℕ). whole_header k size seq) sixteen);
        count = ap length silent;
        bytes = empty;
        output = ap (λ (l : List ℕ). store out 0 l) silent ∙ store-none out 0;
        memory = refl;
        state = ap (λ (k : ℕ). with_seq_of (with_vcpu_words st (ended_wait st.vcpus (vcpu_of body))) k) (answer-seq mode st.session.tool.seq);
      })

  reporting-lacked : (padding : ℕ) (r : Told) → L12 r → L12 (reporting_of padding r)
  reporting-lacked padding r h n =
      let x = h n in
      record { of = x.of; count = x.count; bytes = x.bytes; output = x.output; memory = x.memory; state = x.state }

  headed-lacked : (h : HeaderRead) → header_of msg ≡ h → L12 (headed_of st body out guest h)
  unfolding headed_of
  headed-lacked None w = λ n. absurd (omega arith)
  headed-lacked (Some h) w = reporting-lacked _ _ (judged-lacked h.id h.size h.seq w)

  message-lacked : L12 (message_of st msg out guest)
  unfolding message_of
  message-lacked =
      pick L12 (is_closed st) _ _ (λ _ n. absurd (omega arith)) (λ _. pick L12 (ltb (length out) least_out) _ _ (λ _ n. absurd (omega arith)) (λ _. headed-lacked (header_of msg) refl))

pub faults : Faults
faults =
    record {
      sent = λ s st m b cs vcpu block own out h.
          let e = (events.sent s st m b cs vcpu block 10 own out h).bytes in
          let f = fault-sent s st m b cs vcpu own in
          (λ q. f.0 (e.0 q), λ q. e.1 (f.1 q));
      no_view = began-no-view;
      fed = fed-names;
      wanted = fed-wanted;
      missing = fed-missing;
      moves = reply-moves;
      lies = message-lies;
      kept = message-kept;
      lacked = message-lacked;
      in_batch = turn-names;
    }
