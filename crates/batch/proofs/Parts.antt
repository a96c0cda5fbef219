-- A message cut off the input, and what the call that takes it promises. Assumes nothing.
use mathlib.Core.Path.{◌≡◌, refl, sym, ap, subst, ◌∙◌}
use Prim.Native.Nat.{ℕ, ◌+◌, ◌-◌, ◌≤◌, ◌<◌}
use native.Mathlib.Omega.{arith}
use mathlib.Core.List.{List, ◌++◌, append-nil}
use mathlib.Core.Bool.{true}
use lib.Dec.{eqb}
use lib.ListN.{length, take, drop, length-append, length-take, length-drop, drop_of_length-le}
use borrow.Rule.Slice.PartMut.{put_mid, post_of}
use Rattle.kvmi.specs.Answer.{paper}
use Rattle.kvmi.specs.Batch.{Batch, next_length, refusal_of, at_start, goes_on, next_of, out_left, counted, turn_of, batch_by}
use Rattle.session.specs.declared.Done.{Done}
use Rattle.session.specs.declared.Session.{Session}
use Rattle.session.specs.State.{State, state}
use Rattle.session.specs.Calls.{Told, told}
use Rattle.session.proofs.Laws.{rest_part}
use Rattle.message.specs.Message.{message_of}
use Rattle.refine.proofs.Frames.{message-past}
use Rattle.batch.specs.declared.Batched.{Batched}
use Rattle.batch.specs.Batch.{told_taken, message_takes, batch_of, batched, fed_at}
use Rattle.batch.proofs.Feeds.{message-begins}
use Rattle.batch.proofs.Turns.{goes_of, ends-inside, ends-behind, Rest, rest-begins, rest-next}

-- the next message, as code measures it: of the part of the input behind a place
pub cut_inside : (input : List ℕ) (at n : ℕ) → at < length input → n ≡ next_length (take (length input - at) (drop at input)) → at + n ≤ length input
cut_inside input at n h e = let l = ends-inside input at (omega arith) in rw (e, rest_part input at) l

-- what a message wrote lies inside the output that it was lent, a part of the batch's
pub wrote-inside : (done : Done) (vcpus pages out' guest' : List ℕ) (st : State) (msg out : List ℕ) (at : ℕ) (guest : List ℕ)
    → told done vcpus pages out' guest' ≡ message_of st msg (take (length out - at) (drop at out)) guest → (paper done.answer).count ≤ length out - at
wrote-inside done vcpus pages out' guest' st msg out at guest e =
    let part = take (length out - at) (drop at out) in
    let long : length part ≡ length out - at = rw (rest_part out at) (length-drop at out) in
    subst (λ (n : ℕ). (paper done.answer).count ≤ n) long
    (subst (λ (r : Told). r.answer.count ≤ length part) (sym e) (message-past st msg part guest).inside)

-- and what it supplies to feed a vCPU begins inside the input
pub fed-inside : (done : Done) (vcpus pages out' guest' : List ℕ) (st : State) (input : List ℕ) (at n : ℕ) (out guest : List ℕ) → at ≤ length input
    → told done vcpus pages out' guest' ≡ message_of st (take n (drop at input)) out guest → at + fed_at (paper done.answer).signal ≤ length input
fed-inside done vcpus pages out' guest' st input at n out guest h e =
    let msg = take n (drop at input) in
    let begins : fed_at (paper done.answer).signal ≤ length msg =
    subst (λ (r : Told). fed_at r.answer.signal ≤ length msg) (sym e) (message-begins st msg out guest) in
    let part = length-take n (drop at input) in
    let rest = length-drop at input in
    omega arith

-- a turn: the message that was cut off was taken on the output that is left, and was counted
pub turn-told : (b r : Batched) (done : Done) (input vcpus pages out signals guest vcpus' pages' out' signals' guest' : List ℕ) (n : ℕ)
    → b.count ≤ length out
    → n ≡ next_length (take (length input - b.used) (drop b.used input))
    → told done vcpus' pages' out' guest'
    ≡ message_of (state b.session vcpus pages) (take (b.used + n - b.used) (drop b.used input)) (take (length out - b.count) (drop b.count out)) guest
    → batched r vcpus' pages' (take b.count out ++ out') signals' guest'
    ≡ counted (batched b vcpus pages out signals guest) n (told_taken (told done vcpus' pages' out' guest'))
    → batched r vcpus' pages' (put_mid b.count (length out - b.count) out out') signals' guest'
    ≡ turn_of message_takes input (batched b vcpus pages out signals guest)
unfolding turn_of
turn-told b r done input vcpus pages out signals guest vcpus' pages' out' signals' guest' n inside cut e f =
    let size : n ≡ next_length (drop b.used input) = cut ∙ ap next_length (rest_part input b.used) in
    let back : b.used + n - b.used ≡ next_length (drop b.used input) = omega arith in
    let whole : out' ++ post_of b.count (length out - b.count) out ≡ out' =
    ap (λ (l : List ℕ). out' ++ l) (drop_of_length-le (drop b.count out) {i = length out - b.count} (rw (length-drop b.count out) (omega arith)))
    ∙ append-nil out' in
    ap (λ (l : List ℕ). batched r vcpus' pages' (take b.count out ++ l) signals' guest') whole
    ∙ f
    ∙ ap (λ (t : Told). counted (batched b vcpus pages out signals guest) n (told_taken t)) e
    ∙ rw (back, size, rest_part out b.count) refl

-- what was written by then lies inside the output
pub turn-written : (input : List ℕ) (b : Batch State) → goes_on input b ≡ true → (turn_of message_takes input b).count ≤ length (turn_of message_takes input b).out
unfolding turn_of
turn-written input b g =
    let room = (goes_of input b g).room in
    let past = message-past b.state (next_of input b) (out_left b) b.guest in
    let i = past.inside in
    let l = past.long in
    let d = length-drop b.count b.out in
    rw (length-append, length-take) (omega arith)

-- ---- the loop
-- before the first turn
pub batch-begins : (s : Session) (number : ℕ) (input vcpus pages out signals guest : List ℕ) → number ≡ refusal_of (eqb s.tool.opened 0) (length out) (length signals)
    → Rest message_takes input (at_start number (state s vcpus pages) out signals guest) (batch_of (state s vcpus pages) input out signals guest)
unfolding batch_of batch_by
batch-begins s number input vcpus pages out signals guest e =
    rw e (rest-begins message_takes input (at_start (refusal_of (eqb s.tool.opened 0) (length out) (length signals)) (state s vcpus pages) out signals guest) refl refl)

-- behind a turn, which left something
module _ (input : List ℕ) (b r : Batch State) (g : goes_on input b ≡ true) (e : r ≡ turn_of message_takes input b) where
  pub turn-rest : (end : Batch State) → Rest message_takes input b end → Rest message_takes input r end
  turn-rest end rest = subst (λ (x : Batch State). Rest message_takes input x end) (sym e) (rest-next message_takes input b end rest g (turn-written input b g))

  pub turn-less : length input - r.used < length input - b.used
  unfolding turn_of
  turn-less =
      let more = (goes_of input b g).more in
      let behind = ends-behind input b.used more in
      let inside = ends-inside input b.used (omega arith) in
      let used : r.used ≡ b.used + next_length (drop b.used input) = ap (λ (x : Batch State). x.used) e in
      omega arith
