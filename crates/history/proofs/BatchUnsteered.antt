-- The guest can't steer a batch. Assumes nothing.
use mathlib.Core.Path.{◌≡◌, refl, sym, ap, subst, ◌∙◌}
use Prim.Native.Nat.{ℕ, zero, suc, ◌+◌, ◌-◌}
use native.Mathlib.Omega.{arith}
use mathlib.Core.List.{List, [], ◌∷◌, ◌++◌}
use mathlib.Core.Bool.{Bool, true, false, cond}
use lib.ListN.{length, take, drop, length-append, length-take, length-drop}
use lib.Dec.{ltb}
use Rattle.std.specs.Prelude.{Some, None}
use Rattle.wire.specs.Header.{HeaderRead, header_of}
use Rattle.kvmi.specs.declared.Change.{Change}
use Rattle.kvmi.specs.declared.Change.TheVariants.{Nothing, SetVmEvent, WritePhysical, QueuePause, SetVcpuEvent, SetCr, SetMsr, SetPages, SetSinglestep, SetReplies, EndWait}
use Rattle.kvmi.specs.declared.Verdict.{Verdict}
use Rattle.kvmi.specs.declared.Verdict.TheVariants.{Closes, Fails, Does}
use Rattle.kvmi.specs.Limits.{least_out}
use Rattle.kvmi.specs.Message.{vcpu_of}
use Rattle.kvmi.specs.Verdict.{verdict}
use Rattle.kvmi.specs.Answer.{Paper}
use Rattle.kvmi.specs.Call.{Call, message}
use Rattle.kvmi.specs.Batch.{Batch, at_start, refusal_of, goes_on, next_of, out_left, turn_of, turns_of, batch_by, used_in, used_by}
use Rattle.session.specs.State.{State, is_closed}
use Rattle.session.specs.Calls.{Told}
use Rattle.change.specs.Change.{change}
use Rattle.message.specs.Message.{facts_in, answering_of, judged_of, headed_of, message_of}
use Rattle.batch.specs.Batch.{message_takes, batch_of, used_of}
use Rattle.history.specs.History.{step_of}
use Rattle.history.specs.Unsteered.{Alike, messages, ButGuest, ended, more}
use Rattle.history.specs.Batches.{SameBatch}
use Rattle.wire.proofs.Laws.{length-store}
use Rattle.laws.proofs.Bool.{test}
use Rattle.laws.proofs.Verdicts.{pick}
use Rattle.refine.proofs.Frames.{message-past}
use Rattle.batch.proofs.Turns.{turns-end, turns_next}
use Rattle.history.proofs.Unsteered.{unsteered}

-- ---- a message leaves guest memory as long as it was
module _ (guest : List ℕ) where
  abbrev Long : Told → Type 0
  Long r = length r.guest ≡ length guest

  change-long : (st : State) (d : List ℕ) (c : Change) → length (change st guest d c).guest ≡ length guest
  unfolding change
  change-long st d Nothing = refl
  change-long st d (SetVmEvent on event) = refl
  change-long st d (WritePhysical gpa) = length-store guest gpa (drop 16 d)
  change-long st d (QueuePause wait vcpu) = refl
  change-long st d (SetVcpuEvent on vcpu event) = refl
  change-long st d (SetCr on vcpu cr) = refl
  change-long st d (SetMsr on vcpu msr) = refl
  change-long st d (SetPages view count) = refl
  change-long st d (SetSinglestep on vcpu) = refl
  change-long st d (SetReplies now mode) = refl
  change-long st d (EndWait resumes vcpu action value feed) = refl

  judged-long : (st : State) (id seq : ℕ) (d out : List ℕ) (v : Verdict) → Long (judged_of st id seq d out guest v)
  unfolding judged_of answering_of
  judged-long st id seq d out Closes = refl
  judged-long st id seq d out (Fails code) = refl
  judged-long st id seq d out (Does c) = change-long st d c

  headed-long : (st : State) (d out : List ℕ) (h : HeaderRead) → Long (headed_of st d out guest h)
  unfolding headed_of
  headed-long st d out None = refl
  headed-long st d out (Some h) = judged-long st h.id h.seq d out (verdict st.session.settings (facts_in st (length guest) (vcpu_of d)) h.id h.seq d)

  message-long : (st : State) (msg out : List ℕ) → Long (message_of st msg out guest)
  unfolding message_of
  message-long st msg out =
      pick Long (is_closed st) _ _ (λ _. refl) (λ _. pick Long (ltb (length out) least_out) _ _ (λ _. refl) (λ _. headed-long st (drop 8 msg) out (header_of msg)))

-- ---- a batch on another output and other guest memory
abbrev with_lent : Batch State → List ℕ → List ℕ → Batch State
with_lent b out guest =
    record { number = b.number; used = b.used; count = b.count; listed = b.listed; resume = b.resume; state = b.state; out = out; signals = b.signals; guest = guest }

record Apart (b c : Batch State) : Type 0 where
  out : List ℕ
  guest : List ℕ
  is : c ≡ with_lent b out guest
  outs : length b.out ≡ length out
  guests : length b.guest ≡ length guest

module _ (input : List ℕ) (b : Batch State) (out guest : List ℕ) (outs : length b.out ≡ length out) (guests : length b.guest ≡ length guest) where
  abbrev c : Batch State
  c = with_lent b out guest

  same-goes : goes_on input b ≡ goes_on input c
  unfolding goes_on
  same-goes = rw outs refl

  abbrev r : Told
  r = message_of b.state (next_of input b) (out_left b) b.guest

  abbrev q : Told
  q = message_of b.state (next_of input b) (drop b.count out) guest

  lefts : length (out_left b) ≡ length (drop b.count out)
  lefts = rw (length-drop, length-drop, outs) refl

  alike : Alike (message (next_of input b) (out_left b) b.guest) (message (next_of input b) (drop b.count out) guest)
  alike = messages (next_of input b) (out_left b) (drop b.count out) b.guest guest lefts guests

  same_answer : q.answer ≡ r.answer
  unfolding step_of
  same_answer = sym (unsteered.call b.state _ _ alike).answer

  same-state : q.state ≡ r.state
  unfolding step_of
  same-state = sym (unsteered.call b.state _ _ alike).state

  turn-apart : Apart (turn_of message_takes input b) (turn_of message_takes input c)
  unfolding turn_of
  turn-apart =
      let i = (message-past b.state (next_of input b) (out_left b) b.guest).long in
      let j = (message-past b.state (next_of input b) (drop b.count out) guest).long in
      let l = lefts in
      record {
        out = take b.count out ++ q.out;
        guest = q.guest;
        is = rw (same_answer, same-state) refl;
        outs = rw (length-append, length-append, length-take, length-take, outs, i, j, l) refl;
        guests = message-long b.guest b.state (next_of input b) (out_left b) ∙ guests ∙ sym (message-long guest b.state (next_of input b) (drop b.count out));
      }

-- ---- turn by turn
record Ran (b c : Batch State) (cs ds : List Call) : Type 0 where
  apart : Apart b c
  calls : ButGuest cs ds

used-end : (n : ℕ) (input : List ℕ) (b : Batch State) → goes_on input b ≡ false → used_in message_takes n input b ≡ []
unfolding used_in
used-end zero input b g = refl
used-end (suc n) input b g = rw g refl

used-next : (n : ℕ) (input : List ℕ) (b : Batch State) → goes_on input b ≡ true
    → used_in message_takes (suc n) input b ≡ message (next_of input b) (out_left b) b.guest ∷ used_in message_takes n input (turn_of message_takes input b)
unfolding used_in
used-next n input b g = rw g refl

ran-by : {b b' c c' : Batch State} {cs cs' ds ds' : List Call} → b ≡ b' → c ≡ c' → cs ≡ cs' → ds ≡ ds' → Ran b' c' cs' ds' → Ran b c cs ds
ran-by {b} {b'} {c} {c'} {cs} {cs'} {ds} {ds'} e f g h x =
    record {
      apart = subst (λ (y : Batch State). Apart y c) (sym e) (subst (λ (y : Batch State). Apart b' y) (sym f) x.apart);
      calls = subst (λ (y : List Call). ButGuest y ds) (sym g) (subst (λ (y : List Call). ButGuest cs' y) (sym h) x.calls);
    }

abbrev RanFrom : ℕ → List ℕ → Batch State → Batch State → Type 0
RanFrom n input b c = Ran (turns_of message_takes n input b) (turns_of message_takes n input c) (used_in message_takes n input b) (used_in message_takes n input c)

module _ (n : ℕ) (input : List ℕ) (b : Batch State) (out guest : List ℕ) (outs : length b.out ≡ length out) (guests : length b.guest ≡ length guest) where
  ran-end : goes_on input b ≡ false → RanFrom n input b (with_lent b out guest)
  ran-end g =
      let k = sym (same-goes input b out guest outs guests) ∙ g in
      ran-by (turns-end message_takes n input b g) (turns-end message_takes n input (with_lent b out guest) k) (used-end n input b g) (used-end n input (with_lent b out guest) k)
      (record { apart = record { out = out; guest = guest; is = refl; outs = outs; guests = guests }; calls = ended })

  ran-next : goes_on input b ≡ true → RanFrom n input (turn_of message_takes input b) (turn_of message_takes input (with_lent b out guest)) → RanFrom (suc n) input b (with_lent b out guest)
  ran-next g h =
      let k = sym (same-goes input b out guest outs guests) ∙ g in
      ran-by (turns_next message_takes n input b g) (turns_next message_takes n input (with_lent b out guest) k) (used-next n input b g) (used-next n input (with_lent b out guest) k)
      (record { apart = h.apart; calls = more (alike input b out guest outs guests) h.calls })

ran-none : (input : List ℕ) (b c : Batch State) → Apart b c → RanFrom zero input b c
unfolding turns_of used_in
ran-none input b c a = record { apart = a; calls = ended }

ran : (n : ℕ) (input : List ℕ) (b c : Batch State) → Apart b c → RanFrom n input b c
ran zero input b c a = ran-none input b c a
ran (suc n) input b c a =
    subst (λ (x : Batch State). RanFrom (suc n) input b x) (sym a.is)
    (test (goes_on input b)
    (λ g. ran-next n input b a.out a.guest a.outs a.guests g (ran n input _ _ (turn-apart input b a.out a.guest a.outs a.guests)))
    (λ g. ran-end (suc n) input b a.out a.guest a.outs a.guests g))

pub batch-unsteered : (st : State) (input out out' signals guest guest' : List ℕ) → length out ≡ length out' → length guest ≡ length guest'
    → SameBatch (batch_of st input out signals guest) (batch_of st input out' signals guest') × ButGuest (used_of st input out signals guest) (used_of st input out' signals guest')
unfolding batch_of batch_by used_of used_by
batch-unsteered st input out out' signals guest guest' outs guests =
    let first : Apart (at_start (refusal_of (is_closed st) (length out) (length signals)) st out signals guest) (at_start (refusal_of (is_closed st) (length out') (length signals)) st out' signals guest') =
    record { out = out'; guest = guest'; is = rw (sym outs) refl; outs = outs; guests = guests } in
    let h = ran (length input) input _ _ first in
    let e = h.apart.is in (
      record {
        number = sym (ap (λ (x : Batch State). x.number) e);
        used = sym (ap (λ (x : Batch State). x.used) e);
        count = sym (ap (λ (x : Batch State). x.count) e);
        listed = sym (ap (λ (x : Batch State). x.listed) e);
        resume = sym (ap (λ (x : Batch State). x.resume) e);
        state = sym (ap (λ (x : Batch State). x.state) e);
        signals = sym (ap (λ (x : Batch State). x.signals) e);
      },
      h.calls,
    )
