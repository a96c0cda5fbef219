-- The answers of a batch, each with its condition and with what it leaves, of any session whatever. Assumes nothing.
use mathlib.Core.Path.{◌≡◌, refl, sym, ap, subst, ◌∙◌}
use mathlib.Core.Logic.{◌↔◌, ◌⊎◌, ◌≢◌, inl, inr, ⊎_elim}
use Prim.Native.Nat.{ℕ, zero, suc, ◌+◌, ◌-◌, ◌≤◌, ◌<◌}
use native.Mathlib.Omega.{arith}
use mathlib.Core.List.{List, [], ◌∷◌, ◌++◌}
use mathlib.Core.Bool.{Bool, true, false, cond, So, false≢true}
use lib.ListN.{length, take, drop, length-append, length-drop}
use lib.Seq.{length-take-le, drop-drop, drop-append-add}
use lib.Dec.{ltb, eqb}
use borrow.Author.Tests.{ltb-true, ltb-false, le-ltb, ne_eqb, eqb-true, eqb-false}
use Rattle.std.specs.Prelude.{Option, Some, None}
use Rattle.wire.specs.Header.{HeaderRead, header_of}
use Rattle.kvmi.specs.declared.Resumption.{Resumption}
use Rattle.kvmi.specs.declared.Signal.{Signal}
use Rattle.kvmi.specs.declared.Signal.TheVariants.{Quiet, Kick, Crash, Resume}
use Rattle.kvmi.specs.declared.Change.{Change}
use Rattle.kvmi.specs.declared.Change.TheVariants.{Nothing, SetVmEvent, WritePhysical, QueuePause, SetVcpuEvent, SetCr, SetMsr, SetPages, SetSinglestep, SetReplies, EndWait}
use Rattle.kvmi.specs.declared.Verdict.{Verdict}
use Rattle.kvmi.specs.declared.Verdict.TheVariants.{Closes, Fails, Does}
use Rattle.kvmi.specs.Answer.{lacks_page}
use Rattle.kvmi.specs.Bits.{among}
use Rattle.kvmi.specs.Limits.{least_out}
use Rattle.kvmi.specs.Message.{vcpu_of}
use Rattle.kvmi.specs.Verdict.{verdict}
use Rattle.kvmi.specs.Batch.{Batch, next_length, listed_as, resume_of, is_resume, resume_lacks_page, at_start, refusal_of, goes_on, next_of, out_left, turn_of, turns_of, batch_by}
use Rattle.session.specs.State.{State, is_closed}
use Rattle.session.specs.Calls.{Told}
use Rattle.change.specs.Change.{change}
use Rattle.message.specs.Message.{facts_in, answering_of, judged_of, headed_of, message_of}
use Rattle.batch.specs.Batch.{message_takes, batch_of}
use Rattle.history.specs.Demand1.{Closed, Open, PastCount, BatchAnswers}
use Rattle.wire.proofs.Laws.{length-store, drop-store}
use Rattle.laws.proofs.Bool.{test, clash}
use Rattle.laws.proofs.Verdicts.{pick}
use Rattle.refine.proofs.Frames.{message-past}
use Rattle.batch.proofs.Turns.{goes_of, goes_by, next-inside, ends-inside, ends-behind, turns-end, turns_next, turns-over}
use Rattle.history.proofs.Singly.{one_place}

-- ---- a message to an open session, with room, is answered 0 and leaves it open, or 1, closes it and signals nothing
abbrev Lives : Told → Type 0
Lives r = ((r.answer.number ≡ cond (lacks_page r.answer.signal) 12 0) × (is_closed r.state ≡ false)) ⊎ ((r.answer.number ≡ 1) × (is_closed r.state ≡ true) × (r.answer.signal ≡ Quiet))

change-lives : (st : State) (guest d : List ℕ) (c : Change) → is_closed (change st guest d c).state ≡ is_closed st
unfolding change
change-lives st guest d Nothing = refl
change-lives st guest d (SetVmEvent on event) = refl
change-lives st guest d (WritePhysical gpa) = refl
change-lives st guest d (QueuePause wait vcpu) = refl
change-lives st guest d (SetVcpuEvent on vcpu event) = refl
change-lives st guest d (SetCr on vcpu cr) = refl
change-lives st guest d (SetMsr on vcpu msr) = refl
change-lives st guest d (SetPages view count) = refl
change-lives st guest d (SetSinglestep on vcpu) = refl
change-lives st guest d (SetReplies now mode) = refl
change-lives st guest d (EndWait resumes vcpu action value feed) = refl

judged-lives : (st : State) (id seq : ℕ) (d out guest : List ℕ) → is_closed st ≡ false → (v : Verdict) → Lives (judged_of st id seq d out guest v)
unfolding judged_of answering_of
judged-lives st id seq d out guest o Closes = inr (refl, refl, refl)
judged-lives st id seq d out guest o (Fails code) = inl (refl, o)
judged-lives st id seq d out guest o (Does c) = inl (refl, change-lives st guest d c ∙ o)

headed-lives : (st : State) (d out guest : List ℕ) → is_closed st ≡ false → (h : HeaderRead) → Lives (headed_of st d out guest h)
unfolding headed_of
headed-lives st d out guest o None = inr (refl, refl, refl)
headed-lives st d out guest o (Some h) = judged-lives st h.id h.seq d out guest o (verdict st.session.settings (facts_in st (length guest) (vcpu_of d)) h.id h.seq d)

message-lives : (st : State) (msg out guest : List ℕ) → is_closed st ≡ false → least_out ≤ length out → Lives (message_of st msg out guest)
unfolding message_of
message-lives st msg out guest o l = rw (o, le-ltb (length out) least_out l) (headed-lives st (drop 8 msg) out guest o (header_of msg))

-- a resume that is handed back lacks its page where the message's does
lacks-back : (start : ℕ) (g : Signal) → lacks_page g ≡ resume_lacks_page (resume_of start g)
lacks-back start Quiet = refl
lacks-back start (Kick wait vcpu) = refl
lacks-back start (Crash vcpu) = refl
lacks-back start (Resume r) = refl

-- ---- so does each turn
abbrev Alive : Batch State → Type 0
Alive b = ((b.number ≡ cond (resume_lacks_page b.resume) 12 0) × (is_closed b.state ≡ false)) ⊎ ((b.number ≡ 1) × (is_closed b.state ≡ true) × (is_resume b.resume ≡ false))

-- ---- what a turn leaves, of what was lent
record Held (input out signals : List ℕ) (b : Batch State) : Type 0 where
  alive : Alive b
  inside : b.used ≤ length input
  output : PastCount out b.count b.out
  list : PastCount signals b.listed b.signals

module _ (input out signals : List ℕ) (b : Batch State) (g : goes_on input b ≡ true) (h : Held input out signals b) where
  abbrev r : Told
  r = message_of b.state (next_of input b) (out_left b) b.guest

  opened : is_closed b.state ≡ false
  opened = still h.alive
    where
      still : Alive b → is_closed b.state ≡ false
      still (inl q) = q.1
      still (inr e) = let z = (goes_of input b g).number in let one = e.0 in absurd (omega arith)

  lives : Alive (turn_of message_takes input b)
  unfolding turn_of
  lives = by-message (message-lives b.state (next_of input b) (out_left b) b.guest opened (let room = (goes_of input b g).room in rw (length-drop b.count b.out) room))
    where
      by-message : Lives r → Alive (turn_of message_takes input b)
      by-message (inl q) = inl (q.0 ∙ ap (λ (x : Bool). cond x 12 0) (lacks-back b.used r.answer.signal), q.1)
      by-message (inr q) = inr (q.0, q.1, ap (λ (x : Signal). is_resume (resume_of b.used x)) q.2)

  output-held : PastCount out (b.count + r.answer.count) (take b.count b.out ++ r.out)
  output-held =
      let room = (goes_of input b g).room in
      let past = message-past b.state (next_of input b) (out_left b) b.guest in
      let i = past.inside in
      let l = past.long in
      let d = length-drop b.count b.out in
      let m = h.output.long in
      let front : length (take b.count b.out) ≡ b.count = length-take-le b.count b.out (omega arith) in
      record {
        inside = omega arith;
        long = rw (length-append, front) (omega arith);
        rest =
            ap (λ (k : ℕ). drop (k + r.answer.count) (take b.count b.out ++ r.out)) (sym front)
            ∙ drop-append-add (take b.count b.out) r.out r.answer.count
            ∙ past.rest
            ∙ ap (drop r.answer.count) h.output.rest
            ∙ drop-drop r.answer.count b.count out;
      }

  turn-held : Held input out signals (turn_of message_takes input b)
  unfolding turn_of
  turn-held =
      let room = (goes_of input b g).room in
      let more = (goes_of input b g).more in
      let place = (goes_of input b g).place in
      let one = one_place r.answer.signal in
      let m = h.list.long in
      let codes = listed_as r.answer.signal in
      record {
        alive = lives;
        inside = ends-inside input b.used (omega arith);
        output = output-held;
        list = record {
          inside = omega arith;
          long = length-store b.signals b.listed codes ∙ m;
          rest =
              drop-store (b.listed + length codes) b.signals b.listed codes (omega arith)
              ∙ sym (drop-drop (length codes) b.listed b.signals)
              ∙ ap (drop (length codes)) h.list.rest
              ∙ drop-drop (length codes) b.listed signals;
        };
      }

turns-held : (n : ℕ) (input out signals : List ℕ) (b : Batch State) → Held input out signals b → Held input out signals (turns_of message_takes n input b)
unfolding turns_of
turns-held zero input out signals b h = h
turns-held (suc n) input out signals b h =
    pick (Held input out signals) (goes_on input b) _ _ (λ g. turns-held n input out signals (turn_of message_takes input b) (turn-held input out signals b g h)) (λ _. h)

-- ---- what is used grows
turns-grow : (n : ℕ) (input : List ℕ) (b : Batch State) → b.used ≤ (turns_of message_takes n input b).used
unfolding turns_of turn_of
turns-grow zero input b = omega arith
turns-grow (suc n) input b =
    pick (λ (e : Batch State). b.used ≤ e.used) (goes_on input b) _ _
    (λ g. let m = (goes_of input b g).more in let s = ends-behind input b.used m in let l = turns-grow n input (turn_of message_takes input b) in omega arith)
    (λ _. omega arith)

-- ---- the refusals, in their order, and a batch that is not refused
module _ (st : State) (input out signals guest : List ℕ) where
  abbrev start : ℕ → Batch State
  start k = at_start k st out signals guest

  -- where a batch begins nothing has changed
  start-held : (k : ℕ) → Alive (start k) → Held input out signals (start k)
  start-held k a =
      record {
        alive = a;
        inside = omega arith;
        output = record { inside = omega arith; long = refl; rest = refl };
        list = record { inside = omega arith; long = refl; rest = refl };
      }

  -- a refusal ends it there
  stays : (k : ℕ) → eqb k 0 ≡ false → turns_of message_takes (length input) input (start k) ≡ start k
  unfolding goes_on
  stays k e = turns-end message_takes (length input) input (start k) (rw e refl)

  batch-cases : (P : Batch State → Type 0) → (is_closed st ≡ true → P (start 2)) → (is_closed st ≡ false → length out < least_out → P (start 3))
      → (is_closed st ≡ false → least_out ≤ length out → length signals ≡ 0 → P (start 11))
      → (is_closed st ≡ false → least_out ≤ length out → 0 < length signals → P (turns_of message_takes (length input) input (start 0))) → P (batch_of st input out signals guest)
  unfolding batch_of batch_by refusal_of
  batch-cases P f g h i =
      test (is_closed st) (λ c. rw (c, stays 2 refl) (f c))
      (λ c. test (ltb (length out) least_out) (λ l. rw (c, l, stays 3 refl) (g c (ltb-true (length out) least_out l)))
      (λ l. test (eqb (length signals) 0) (λ z. rw (c, l, z, stays 11 refl) (h c (ltb-false (length out) least_out l) (eqb-true (length signals) 0 z)))
      (λ z. rw (c, l, z) (i c (ltb-false (length out) least_out l) (some-place z)))))
    where
      some-place : eqb (length signals) 0 ≡ false → 0 < length signals
      some-place z = let n = eqb-false (length signals) 0 z in omega arith

  refused-answers : (k : ℕ) → 2 ≤ k → k ≢ 12 → So (among k (0 ∷ 1 ∷ 2 ∷ 3 ∷ 11 ∷ 12 ∷ [])) → ((k ≡ 2) ↔ Closed st) → ((k ≡ 3) ↔ (Open st × (length out < least_out)))
      → ((k ≡ 11) ↔ (Open st × (least_out ≤ length out) × (length signals ≡ 0))) → BatchAnswers st input out signals guest (start k)
  unfolding goes_on
  refused-answers k two none-lacks numbers closed short place =
      record {
        numbers = numbers;
        closed = closed;
        short = short;
        no_place = place;
        refused = λ _ _. refl;
        output = record { inside = omega arith; long = refl; rest = refl };
        list = record { inside = omega arith; long = refl; rest = refl };
        inside = omega arith;
        some = λ l _. absurd (neither l);
        closes = λ e. absurd (omega arith);
        opened = λ e. absurd (⊎_elim (λ z. omega arith) none-lacks e);
        resumes = λ e. absurd (false≢true e);
        no_page = (λ e. absurd (none-lacks e), λ e. absurd (false≢true e));
        ends = rw (not-nought k two) refl;
      }
    where
      neither : (k < 2) ⊎ (k ≡ 12) → ⊥
      neither (inl l) = omega arith
      neither (inr e) = none-lacks e

      not-nought : (k : ℕ) → 2 ≤ k → eqb k 0 ≡ false
      not-nought k l = ne_eqb k 0 (λ z. absurd (omega arith))

  taken-answers : is_closed st ≡ false → least_out ≤ length out → 0 < length signals → BatchAnswers st input out signals guest (turns_of message_takes (length input) input (start 0))
  unfolding turn_of
  taken-answers o l p =
      let e = turns_of message_takes (length input) input (start 0) in
      let h = turns-held (length input) input out signals (start 0) (start-held 0 (inl (refl, o))) in
      record {
        numbers = small e h.alive;
        closed = (λ k. absurd (below e _ h.alive k (omega arith) (λ z. omega arith)), λ c. clash c o);
        short = (λ k. absurd (below e _ h.alive k (omega arith) (λ z. omega arith)), λ q. absurd (omega arith));
        no_place = (λ k. absurd (below e _ h.alive k (omega arith) (λ z. omega arith)), λ q. absurd (omega arith));
        refused = λ k n. absurd (below e _ h.alive refl k n);
        output = h.output;
        list = h.list;
        inside = h.inside;
        some = λ _ m. first m;
        closes = closing e h.alive;
        opened = opening e h.alive;
        resumes = resuming e h.alive;
        no_page = lacking e h.alive;
        ends = turns-over message_takes (length input) input (start 0) (omega arith);
      }
    where
      few : (lacks : Bool) → So (among (cond lacks 12 0) (0 ∷ 1 ∷ 2 ∷ 3 ∷ 11 ∷ 12 ∷ []))
      few true = refl
      few false = refl

      either-one : (lacks : Bool) → (◌≡◌ {A = ℕ} (cond lacks 12 0) 0) ⊎ (◌≡◌ {A = ℕ} (cond lacks 12 0) 12)
      either-one true = inr refl
      either-one false = inl refl

      small : (e : Batch State) → Alive e → So (among e.number (0 ∷ 1 ∷ 2 ∷ 3 ∷ 11 ∷ 12 ∷ []))
      small e (inl q) = rw q.0 (few (resume_lacks_page e.resume))
      small e (inr q) = rw q.0 refl

      closing : (e : Batch State) → Alive e → e.number ≡ 1 → Closed e.state
      closing e (inl q) n = let z = q.0 in ⊎_elim (λ a. absurd (omega arith)) (λ a. absurd (omega arith)) (either-one (resume_lacks_page e.resume))
      closing e (inr q) n = q.1

      opening : (e : Batch State) → Alive e → (e.number ≡ 0) ⊎ (e.number ≡ 12) → Open e.state
      opening e (inl q) n = q.1
      opening e (inr q) (inl n) = let z = q.0 in absurd (omega arith)
      opening e (inr q) (inr n) = let z = q.0 in absurd (omega arith)

      resuming : (e : Batch State) → Alive e → is_resume e.resume ≡ true → (e.number ≡ 0) ⊎ (e.number ≡ 12)
      resuming e (inl q) n = ⊎_elim (λ a. inl (q.0 ∙ a)) (λ a. inr (q.0 ∙ a)) (either-one (resume_lacks_page e.resume))
      resuming e (inr q) n = clash n q.2

      -- what lacks its page is a resume
      lacks-resumes : (g : Option Resumption) → resume_lacks_page g ≡ true → is_resume g ≡ true
      lacks-resumes None h = absurd (false≢true h)
      lacks-resumes (Some r) h = refl

      twelve : (lacks : Bool) → ◌≡◌ {A = ℕ} (cond lacks 12 0) 12 → lacks ≡ true
      twelve true h = refl
      twelve false h = absurd (omega arith)

      lacking : (e : Batch State) → Alive e → (e.number ≡ 12) ↔ (resume_lacks_page e.resume ≡ true)
      lacking e (inl q) = (λ n. twelve (resume_lacks_page e.resume) (sym q.0 ∙ n), λ l. q.0 ∙ ap (λ (x : Bool). cond x 12 0) l)
      lacking e (inr q) = (λ n. let z = q.0 in absurd (omega arith), λ l. clash (lacks-resumes e.resume l) q.2)

      below : (e : Batch State) (k : ℕ) → Alive e → e.number ≡ k → 2 ≤ k → k ≢ 12 → ⊥
      below e k (inl q) n l other = let z = q.0 in ⊎_elim (λ a. omega arith) (λ a. other (sym n ∙ z ∙ a)) (either-one (resume_lacks_page e.resume))
      below e k (inr q) n l other = let z = q.0 in omega arith

      -- the first message
      first : 0 < length input → 0 < (turns_of message_takes (length input) input (start 0)).used
      first m = by_length (length input) refl m
        where
          by_length : (n : ℕ) → length input ≡ n → 0 < n → 0 < (turns_of message_takes n input (start 0)).used
          by_length zero e z = absurd (omega arith)
          by_length (suc n) e z =
              let g = goes_by input (start 0) refl refl (omega arith) (omega arith) p in
              let grow = turns-grow n input (turn_of message_takes input (start 0)) in
              let some = ends-behind input 0 (omega arith) in
              subst (λ (x : Batch State). 0 < x.used) (sym (turns_next message_takes n input (start 0) g)) (omega arith)

  pub batch-answers : BatchAnswers st input out signals guest (batch_of st input out signals guest)
  batch-answers =
      batch-cases (BatchAnswers st input out signals guest)
      (λ c. refused-answers 2 (omega arith) (λ z. omega arith) refl (λ _. c, λ _. refl) (λ k. absurd (omega arith), λ q. clash c q.0) (λ k. absurd (omega arith), λ q. clash c q.0))
      (λ o l. refused-answers 3 (omega arith) (λ z. omega arith) refl (λ k. absurd (omega arith), λ c. clash c o) (λ _. (o, l), λ _. refl) (λ k. absurd (omega arith), λ q. let m = q.1 in absurd (omega arith)))
      (λ o l z. refused-answers 11 (omega arith) (λ z. omega arith) refl (λ k. absurd (omega arith), λ c. clash c o) (λ k. absurd (omega arith), λ q. let m = q.1 in absurd (omega arith)) (λ _. (o, l, z), λ _. refl))
      taken-answers
