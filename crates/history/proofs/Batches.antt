-- A list of calls with batches in it is the list with each replaced by its messages. Assumes nothing.
use mathlib.Core.Path.{◌≡◌, refl, sym, ap, subst, ◌∙◌}
use mathlib.Core.Logic.{◌↔◌}
use Prim.Native.Nat.{ℕ, zero, suc, ◌≤◌}
use mathlib.Core.List.{List, [], ◌∷◌, ◌++◌}
use mathlib.Core.Bool.{Bool, true, false, cond}
use lib.ListN.{length}
use Rattle.kvmi.specs.declared.Settings.{Settings}
use Rattle.kvmi.specs.Model.{Model}
use Rattle.kvmi.specs.Image.{image}
use Rattle.kvmi.specs.Call.{Call, message, awaits_any, step, move, after}
use Rattle.kvmi.specs.Batch.{Batch, at_start, refusal_of, goes_on, next_of, out_left, turn_of, turns_of, batch_by, used_in, used_by, step_takes, batch_step, used_on}
use Rattle.session.specs.State.{State, is_closed}
use Rattle.session.specs.Meaning.{model_of}
use Rattle.image_writer.specs.Write.{image_of}
use Rattle.batch.specs.Batch.{message_takes, batch_of, used_of}
use Rattle.history.specs.History.{step_of, after_of, BeganOn}
use Rattle.history.specs.Demand2.{SameStep}
use Rattle.history.specs.Demand3.{Writes}
use Rattle.history.specs.Batches.{HostCall, single, batch, singles, left_by, book_by, SameAsBook, Batches}
use Rattle.laws.proofs.Bool.{test}
use Rattle.history.proofs.Lists.{Stands, step-stands, step_same, after-stands, began-stands}
use Rattle.history.proofs.Singly.{batch-singly}
use Rattle.history.proofs.BatchUnsteered.{batch-unsteered}
use Rattle.history.proofs.Demand2.{demand-2}
use Rattle.history.proofs.Demand3.{demand-3}

-- ---- lists of calls, one behind the other
after-join : (st : State) (cs ds : List Call) → after_of st (cs ++ ds) ≡ after_of (after_of st cs) ds
unfolding after_of
after-join st [] ds = refl
after-join st (c ∷ cs) ds = after-join (step_of st c).state cs ds

book-join : (s : Settings) (m : Model) (cs ds : List Call) → after s m (cs ++ ds) ≡ after s (after s m cs) ds
unfolding after
book-join s m [] ds = refl
book-join s m (c ∷ cs) ds = book-join s (move s m c) cs ds

-- ---- the book's batch is its messages
book-turns : (s : Settings) (n : ℕ) (input : List ℕ) (b : Batch Model) → (turns_of (step_takes s) n input b).state ≡ after s b.state (used_in (step_takes s) n input b)
unfolding turns_of used_in turn_of after move step
book-turns s zero input b = refl
book-turns s (suc n) input b =
    test (goes_on input b) (λ g. rw g (book-turns s n input (turn_of (step_takes s) input b))) (λ g. rw g refl)

book-singly : (s : Settings) (m : Model) (input out signals guest : List ℕ) → (batch_step s m input out signals guest).state ≡ after s m (used_on s m input out signals guest)
unfolding batch_step batch_by used_on used_by
book-singly s m input out signals guest = book-turns s (length input) input _

-- ---- a session's batch and its book's go abreast
record Abreast (s : Settings) (b : Batch State) (c : Batch Model) : Type 0 where
  stands : Stands s b.state c.state
  number : b.number ≡ c.number
  used : b.used ≡ c.used
  count : b.count ≡ c.count
  listed : b.listed ≡ c.listed
  resume : b.resume ≡ c.resume
  out : b.out ≡ c.out
  signals : b.signals ≡ c.signals
  guest : b.guest ≡ c.guest

module _ (s : Settings) (input : List ℕ) (b : Batch State) (c : Batch Model) (h : Abreast s b c) where
  same-goes : goes_on input b ≡ goes_on input c
  unfolding goes_on
  same-goes = rw (h.number, h.resume, h.used, h.out, h.count, h.listed, h.signals) refl

  same_next : next_of input b ≡ next_of input c
  same_next = rw h.used refl

  same_left : out_left b ≡ out_left c
  same_left = rw (h.count, h.out) refl

  same-call : message (next_of input b) (out_left b) b.guest ≡ message (next_of input c) (out_left c) c.guest
  same-call = rw (same_next, same_left, h.guest) refl

  turn-abreast : Abreast s (turn_of message_takes input b) (turn_of (step_takes s) input c)
  unfolding turn_of step_of step
  turn-abreast =
      let call = message (next_of input b) (out_left b) b.guest in
      let one = step_same s b.state c.state call h.stands in
      let to = ap (λ (x : Call). step s c.state x) same-call in
      let answer = one.0 ∙ ap (λ (x : _). x.answer) to in
      let out' = one.1 ∙ ap (λ (x : _). x.out) to in
      let guest' = one.2 ∙ ap (λ (x : _). x.guest) to in
      record {
        stands = subst (λ (x : Model). Stands s (step_of b.state call).state x) (ap (λ (x : _). x.model) to) (step-stands s b.state c.state call h.stands);
        number = ap (λ (x : _). x.number) answer;
        used = rw h.used refl;
        count = rw (answer, h.count) refl;
        listed = rw (answer, h.listed) refl;
        resume = rw (answer, h.used) refl;
        out = rw (out', h.count, h.out) refl;
        signals = rw (answer, h.signals, h.listed) refl;
        guest = guest';
      }

same-used : (s : Settings) (n : ℕ) (input : List ℕ) (b : Batch State) (c : Batch Model) → Abreast s b c → used_in message_takes n input b ≡ used_in (step_takes s) n input c
unfolding used_in
same-used s zero input b c h = refl
same-used s (suc n) input b c h =
    let g = same-goes s input b c h in
    test (goes_on input c)
    (λ t. rw (g ∙ t, t) (ap (λ (x : Call). x ∷ used_in message_takes n input (turn_of message_takes input b)) (same-call s input b c h) ∙ ap (λ (x : List Call). message (next_of input c) (out_left c) c.guest ∷ x) (same-used s n input _ _ (turn-abreast s input b c h))))
    (λ t. rw (g ∙ t, t) refl)

turns-abreast : (s : Settings) (n : ℕ) (input : List ℕ) (b : Batch State) (c : Batch Model) → Abreast s b c
    → Abreast s (turns_of message_takes n input b) (turns_of (step_takes s) n input c)
unfolding turns_of
turns-abreast s zero input b c h = h
turns-abreast s (suc n) input b c h =
    let g = same-goes s input b c h in
    test (goes_on input c) (λ t. rw (g ∙ t, t) (turns-abreast s n input _ _ (turn-abreast s input b c h))) (λ t. rw (g ∙ t, t) h)

start-abreast : (s : Settings) (st : State) (m : Model) (out signals guest : List ℕ) → Stands s st m
    → Abreast s (at_start (refusal_of (is_closed st) (length out) (length signals)) st out signals guest) (at_start (refusal_of m.closed (length out) (length signals)) m out signals guest)
start-abreast s st m out signals guest f =
    let closed : is_closed st ≡ m.closed = ap (λ (x : Model). x.closed) f.model in
    record { stands = f; number = rw closed refl; used = refl; count = refl; listed = refl; resume = refl; out = refl; signals = refl; guest = refl }

batch-abreast : (s : Settings) (st : State) (m : Model) (input out signals guest : List ℕ) → Stands s st m
    → SameAsBook (batch_of st input out signals guest) (batch_step s m input out signals guest)
unfolding batch_of batch_step batch_by
batch-abreast s st m input out signals guest f =
    let h = turns-abreast s (length input) input _ _ (start-abreast s st m out signals guest f) in
    record {
      number = h.number;
      used = h.used;
      count = h.count;
      listed = h.listed;
      resume = h.resume;
      out = h.out;
      signals = h.signals;
      guest = h.guest;
      model = h.stands.model;
    }

-- the messages that a session's batch uses are those that its book says
used-same : (s : Settings) (st : State) (m : Model) (input out signals guest : List ℕ) → Stands s st m
    → used_of st input out signals guest ≡ used_on s m input out signals guest
unfolding used_of used_on used_by
used-same s st m input out signals guest f = same-used s (length input) input _ _ (start-abreast s st m out signals guest f)

-- ---- lists with batches in them
left-stands : (s : Settings) (st : State) (m : Model) (hs : List HostCall) → Stands s st m → left_by st hs ≡ after_of st (singles s m hs)
unfolding left_by singles after_of move
left-stands s st m [] f = refl
left-stands s st m (single c ∷ hs) f = left-stands s (step_of st c).state (step s m c).model hs (step-stands s st m c f)
left-stands s st m (batch input out signals guest ∷ hs) f =
    let b = batch_of st input out signals guest in
    let used = used_on s m input out signals guest in
    let same : b.state ≡ after_of st used = (batch-singly st input out signals guest).state ∙ ap (after_of st) (used-same s st m input out signals guest f) in
    let book = book-singly s m input out signals guest in
    let stands : Stands s b.state (batch_step s m input out signals guest).state =
    subst (λ (x : State). Stands s x (batch_step s m input out signals guest).state) (sym same)
    (subst (λ (x : Model). Stands s (after_of st used) x) (sym book) (after-stands s st m used f)) in
    left-stands s b.state (batch_step s m input out signals guest).state hs stands
    ∙ ap (λ (x : State). after_of x (singles s (batch_step s m input out signals guest).state hs)) same
    ∙ sym (after-join st used (singles s (batch_step s m input out signals guest).state hs))

module _ (s : Settings) (st : State) (m : Model) (b : BeganOn s st m) (hs : List HostCall) where
  left-same : left_by st hs ≡ after_of st (singles s m hs)
  left-same = left-stands s st m hs (began-stands s st m b)

  left-abreast : Stands s (left_by st hs) (after s m (singles s m hs))
  left-abreast = subst (λ (x : State). Stands s x (after s m (singles s m hs))) (sym left-same) (after-stands s st m (singles s m hs) (began-stands s st m b))

pub batches : Batches
batches =
    record {
      singly = batch-singly;
      unsteered = batch-unsteered;
      replaced = left-same;
      same = λ s st m b hs input out signals guest. used-same s (left_by st hs) (after s m (singles s m hs)) input out signals guest (left-abreast s st m b hs);
      acted = λ s st m b hs input out signals guest. batch-abreast s (left_by st hs) (after s m (singles s m hs)) input out signals guest (left-abreast s st m b hs);
      acted_singly = λ s st m b hs c. subst (λ (x : State). SameStep (step_of x c) (step s (book_by s m hs) c)) (sym (left-same s st m b hs)) (demand-2.acted s st m b (singles s m hs) c);
      closed = λ s st m b hs out. subst (λ (x : State). ((image_of x out).answer.number ≡ 2) ↔ ((book_by s m hs).closed ≡ true)) (sym (left-same s st m b hs)) (demand-3.closed s st m b (singles s m hs) out);
      busy = λ s st m b hs out. subst (λ (x : State). ((image_of x out).answer.number ≡ 10) ↔ (((book_by s m hs).closed ≡ false) × (awaits_any (book_by s m hs).awaited ≡ true))) (sym (left-same s st m b hs)) (demand-3.busy s st m b (singles s m hs) out);
      writes = λ s st m b hs out o room. subst (λ (x : State). Writes x out (image (book_by s m hs).tables)) (sym (left-same s st m b hs)) (demand-3.writes s st m b (singles s m hs) out o room);
      alike = λ s st st' m k b d hs gs out out' bytes bytes' o p w v.
          demand-3.alike s st st' m k b d (singles s m hs) (singles s k gs) out out' bytes bytes' o p
          (subst (λ (x : State). Writes x out bytes) (left-same s st m b hs) w) (subst (λ (x : State). Writes x out' bytes') (left-same s st' k d gs) v);
    }
