-- A batch is its messages taken singly, of any session whatever. Assumes nothing.
use mathlib.Core.Path.{◌≡◌, refl, sym, ap, subst, ◌∙◌}
use Prim.Native.Nat.{ℕ, zero, suc, ◌+◌, ◌-◌, ◌≤◌, ◌<◌}
use native.Mathlib.Omega.{arith}
use mathlib.Core.List.{List, [], ◌∷◌, ◌++◌, append_assoc}
use mathlib.Core.Bool.{true, false, cond}
use lib.ListN.{length, take, drop, length-append, length-drop, take-append-drop}
use lib.Seq.{length-take-le, drop-drop, drop-append-add, take_at, drop_at}
use Rattle.kvmi.specs.declared.Signal.{Signal}
use Rattle.kvmi.specs.declared.Signal.TheVariants.{Quiet, Kick, Crash, Resume}
use Rattle.kvmi.specs.Answer.{Paper, plain}
use Rattle.kvmi.specs.Call.{Call, message}
use Rattle.kvmi.specs.Batch.{Batch, next_length, listed_as, resume_of, goes_on, next_of, out_left, turn_of, turns_of, batch_by, used_in, used_by}
use Rattle.session.specs.State.{State}
use Rattle.session.specs.Calls.{Told}
use Rattle.message.specs.Message.{message_of}
use Rattle.batch.specs.Batch.{message_takes, batch_of, used_of}
use Rattle.history.specs.History.{step_of, after_of}
use Rattle.history.specs.Unsteered.{written}
use Rattle.history.specs.Batches.{Singly, none, next, bytes_over, written_over, listed_over, guest_over, last_begins, last_over, TakenSingly}
use Rattle.wire.proofs.Laws.{store-whole}
use Rattle.laws.proofs.Bool.{test}
use Rattle.refine.proofs.Frames.{message-past}
use Rattle.batch.proofs.Turns.{goes_of, next-inside}

-- ---- lists
-- a list that has w behind its first c, and from there is as it was: with W behind that, it has both
join-past : (xs ys w W : List ℕ) (c n : ℕ) → c + n ≤ length xs → length w ≡ n → ys ≡ take c xs ++ (w ++ drop n (drop c xs))
    → take (c + n) ys ++ (W ++ drop (length W) (drop (c + n) ys)) ≡ take c xs ++ ((w ++ W) ++ drop (length (w ++ W)) (drop c xs))
join-past xs ys w W c n fits e h =
    let a = take c xs in
    let r = drop n (drop c xs) in
    let whole : ys ≡ (a ++ w) ++ r = h ∙ sym (append_assoc a w r) in
    let long : length (a ++ w) ≡ c + n = rw (length-append, length-take-le c xs (omega arith), e) refl in
    let front : take (c + n) ys ≡ a ++ w = ap (take (c + n)) whole ∙ take_at (a ++ w) r (c + n) long in
    let back : drop (c + n) ys ≡ r = ap (drop (c + n)) whole ∙ drop_at (a ++ w) r (c + n) long in
    let both : drop (length W) r ≡ drop (length (w ++ W)) (drop c xs) = drop-drop (length W) n (drop c xs) ∙ ap (λ (k : ℕ). drop k (drop c xs)) (sym (length-append w W ∙ ap (λ (k : ℕ). k + length W) e)) in
    ap (λ (x : List ℕ). x ++ (W ++ drop (length W) (drop (c + n) ys))) front
    ∙ ap (λ (x : List ℕ). (a ++ w) ++ (W ++ drop (length W) x)) back
    ∙ append_assoc a w (W ++ drop (length W) r)
    ∙ ap (λ (x : List ℕ). a ++ x) (sym (append_assoc w W (drop (length W) r)))
    ∙ ap (λ (x : List ℕ). a ++ ((w ++ W) ++ x)) both

pub one_place : (g : Signal) → length (listed_as g) ≤ 1
one_place Quiet = omega arith
one_place (Kick wait vcpu) = omega arith
one_place (Crash vcpu) = omega arith
one_place (Resume r) = omega arith

-- ---- from somewhere in a batch to its end, by the messages between
record Ran (input : List ℕ) (b : Batch State) (cs : List Call) (e : Batch State) : Type 0 where
  messages : Singly b.state (drop b.used input) (out_left b) b.guest cs
  used : e.used ≡ b.used + bytes_over cs
  state : e.state ≡ after_of b.state cs
  count : e.count ≡ b.count + length (written_over b.state cs)
  output : e.out ≡ take b.count b.out ++ (written_over b.state cs ++ drop (length (written_over b.state cs)) (out_left b))
  listed : e.listed ≡ b.listed + length (listed_over b.state cs)
  list : e.signals ≡ take b.listed b.signals ++ (listed_over b.state cs ++ drop (length (listed_over b.state cs)) (drop b.listed b.signals))
  memory : e.guest ≡ guest_over b.state b.guest cs
  number : (p : Paper) → p.number ≡ b.number → e.number ≡ (last_over b.state p cs).number
  resume : (p : Paper) (at : ℕ) → resume_of at p.signal ≡ b.resume → e.resume ≡ resume_of (last_begins at b.used cs) (last_over b.state p cs).signal

-- no message: it is the end
ran-none : (input : List ℕ) (b : Batch State) → Ran input b [] b
unfolding after_of bytes_over written_over listed_over guest_over last_begins last_over
ran-none input b =
    record {
      messages = none b.state (drop b.used input) (out_left b) b.guest;
      used = omega arith;
      state = refl;
      count = omega arith;
      output = sym (take-append-drop b.count b.out);
      listed = omega arith;
      list = sym (take-append-drop b.listed b.signals);
      memory = refl;
      number = λ p h. sym h;
      resume = λ p at h. sym h;
    }

-- one message more, in front
module _ (input : List ℕ) (b : Batch State) (g : goes_on input b ≡ true) where
  abbrev r : Told
  r = message_of b.state (next_of input b) (out_left b) b.guest

  abbrev size : ℕ
  size = next_length (drop b.used input)

  room : b.count ≤ length b.out
  room = let x = (goes_of input b g).room in omega arith

  fits : b.count + r.answer.count ≤ length b.out
  fits =
      let x = room in
      let i = (message-past b.state (next_of input b) (out_left b) b.guest).inside in
      let d = length-drop b.count b.out in
      omega arith

  wrote : length (written r) ≡ r.answer.count
  wrote =
      let p = message-past b.state (next_of input b) (out_left b) b.guest in
      let i = p.inside in
      let l = p.long in
      length-take-le r.answer.count r.out (omega arith)

  whole : r.out ≡ written r ++ drop r.answer.count (out_left b)
  whole = sym (take-append-drop r.answer.count r.out) ∙ ap (λ (x : List ℕ). written r ++ x) (message-past b.state (next_of input b) (out_left b) b.guest).rest

  length-next : length (next_of input b) ≡ size
  length-next = length-take-le size (drop b.used input) (next-inside (drop b.used input))

  place : b.listed + length (listed_as r.answer.signal) ≤ length b.signals
  place = let p = (goes_of input b g).place in let o = one_place r.answer.signal in omega arith

  ran-next : (cs : List Call) (e : Batch State) → Ran input (turn_of message_takes input b) cs e → Ran input b (message (next_of input b) (out_left b) b.guest ∷ cs) e
  unfolding turn_of step_of after_of bytes_over written_over listed_over guest_over last_begins last_over
  ran-next cs e h =
      record {
        messages =
            next b.state (drop b.used input) (out_left b) b.guest cs (next_of input b) refl
            (subst (λ (x : List ℕ). Singly r.state x (drop r.answer.count r.out) r.guest cs) (sym (drop-drop size b.used input))
            (subst (λ (x : List ℕ). Singly r.state (drop (b.used + size) input) x r.guest cs) rest h.messages));
        used = h.used ∙ rw length-next (omega arith);
        state = h.state;
        count = h.count ∙ rw (length-append, wrote) (omega arith);
        output = h.output ∙ join-past b.out _ (written r) _ b.count r.answer.count fits wrote (ap (λ (x : List ℕ). take b.count b.out ++ x) whole);
        listed = h.listed ∙ rw length-append (omega arith);
        list = h.list ∙ join-past b.signals _ (listed_as r.answer.signal) _ b.listed (length (listed_as r.answer.signal)) place refl put;
        memory = h.memory;
        number = λ p _. h.number r.answer refl;
        resume = λ p at _. h.resume r.answer b.used refl ∙ ap (λ (k : ℕ). resume_of (last_begins b.used (b.used + k) cs) (last_over r.state r.answer cs).signal) (sym length-next);
      }
    where
      rest : drop (b.count + r.answer.count) (take b.count b.out ++ r.out) ≡ drop r.answer.count r.out
      rest =
          ap (λ (k : ℕ). drop (k + r.answer.count) (take b.count b.out ++ r.out)) (sym (length-take-le b.count b.out room))
          ∙ drop-append-add (take b.count b.out) r.out r.answer.count

      put : (turn_of message_takes input b).signals ≡ take b.listed b.signals ++ (listed_as r.answer.signal ++ drop (length (listed_as r.answer.signal)) (drop b.listed b.signals))
      put =
          store-whole b.signals b.listed (listed_as r.answer.signal) place
          ∙ append_assoc (take b.listed b.signals) (listed_as r.answer.signal) (drop (b.listed + length (listed_as r.answer.signal)) b.signals)
          ∙ ap (λ (x : List ℕ). take b.listed b.signals ++ (listed_as r.answer.signal ++ x)) (sym (drop-drop (length (listed_as r.answer.signal)) b.listed b.signals))

ran : (n : ℕ) (input : List ℕ) (b : Batch State) → Ran input b (used_in message_takes n input b) (turns_of message_takes n input b)
unfolding used_in turns_of
ran zero input b = ran-none input b
ran (suc n) input b =
    test (goes_on input b) (λ g. rw g (ran-next input b g (used_in message_takes n input (turn_of message_takes input b)) (turns_of message_takes n input (turn_of message_takes input b)) (ran n input (turn_of message_takes input b))))
    (λ g. rw g (ran-none input b))

-- ---- a whole batch
pub batch-singly : (st : State) (input out signals guest : List ℕ) → TakenSingly st input out signals guest (used_of st input out signals guest) (batch_of st input out signals guest)
unfolding batch_of batch_by used_of used_by
batch-singly st input out signals guest =
    let h = ran (length input) input _ in
    record {
      messages = h.messages;
      used = h.used ∙ omega arith;
      state = h.state;
      count = h.count ∙ omega arith;
      output = h.output;
      listed = h.listed ∙ omega arith;
      list = h.list;
      memory = h.memory;
      number = h.number _ refl;
      resume = h.resume _ 0 refl;
    }
