-- W5: what a message supplies to feed a vCPU begins inside the message. Assumes nothing.
use mathlib.Core.Path.{◌≡◌, refl}
use Prim.Native.Nat.{ℕ, ◌≤◌, zero-le}
use native.Mathlib.Omega.{arith}
use mathlib.Core.List.{List}
use mathlib.Core.Bool.{true, not}
use lib.ListN.{length, drop, length-drop}
use lib.Dec.{ltb, eqb}
use Rattle.std.specs.Prelude.{Some, None}
use Rattle.wire.specs.Header.{HeaderRead, header_of}
use Rattle.kvmi.specs.declared.Change.{Change}
use Rattle.kvmi.specs.declared.Awaited.{Awaited}
use Rattle.kvmi.specs.declared.Feed.{Feed}
use Rattle.kvmi.specs.declared.Source.{Source}
use Rattle.kvmi.specs.declared.Source.TheVariants.{Unfed, Message, Guest, Missing}
use Rattle.kvmi.specs.Feed.{is_message}
use Rattle.kvmi.specs.declared.Signal.{Signal}
use Rattle.kvmi.specs.Limits.{least_out}
use Rattle.kvmi.specs.Message.{vcpu_of, action_of}
use Rattle.kvmi.specs.Change.{signal_of}
use Rattle.kvmi.specs.Event.{event_row_of}
use Rattle.kvmi.specs.Verdict.{change_of, feed_by}
use Rattle.session.specs.State.{State, is_closed}
use Rattle.session.specs.Calls.{Told}
use Rattle.message.specs.Message.{facts_in, answering_of, judged_of, headed_of, message_of}
use Rattle.laws.proofs.Verdicts.{pick, ending, verdict-cases}
use Rattle.laws.proofs.Feeds.{Inside, reply-inside}
use Rattle.batch.specs.Batch.{supplied_at, fed_at}

-- of a signal, and of what a call told
abbrev Signals : List ℕ → Signal → Type 0
Signals msg g = fed_at g ≤ length msg

abbrev Begins : List ℕ → Told → Type 0
Begins msg r = Signals msg r.answer.signal

-- no command feeds a vCPU
command-begins : (msg : List ℕ) (id : ℕ) (d : List ℕ) → Signals msg (signal_of (change_of id d))
unfolding change_of
command-begins msg id d =
    let K : Change → Type 0 = λ c. Signals msg (signal_of c) in
    pick K (eqb id 5) _ _ (λ _. zero-le)
    (λ _. pick K (eqb id 7) _ _ (λ _. zero-le)
    (λ _. pick K (eqb id 9) _ _ (λ _. zero-le)
    (λ _. pick K (eqb id 10) _ _ (λ _. zero-le)
    (λ _. pick K (eqb id 11) _ _ (λ _. zero-le)
    (λ _. pick K (eqb id 12) _ _ (λ _. zero-le)
    (λ _. pick K (eqb id 13) _ _ (λ _. zero-le)
    (λ _. pick K (eqb id 14) _ _ (λ _. zero-le)
    (λ _. pick K (eqb id 15) _ _ (λ _. zero-le) (λ _. zero-le)))))))))

is-message : (s : Source) → is_message s ≡ true → s ≡ Message
is-message Unfed h = cc
is-message Message h = refl
is-message Guest h = cc
is-message Missing h = cc

-- a reply's bytes are a part of it
feed-begins : (msg : List ℕ) (x : Feed) → Inside (drop 8 msg) x → supplied_at x ≤ length msg
feed-begins msg x i =
    pick (λ (k : ℕ). k ≤ length msg) (is_message x.source) _ _
    (λ e. let h = i (is-message x.source e) in let whole = h.0 in let end = h.1 in let l = length-drop 8 msg in omega arith) (λ _. zero-le)

reply-begins : (msg : List ℕ) (a : Awaited) (guest : ℕ) → Inside (drop 8 msg) (feed_by (event_row_of a.event).form a.fault guest (drop 8 msg))
    → Signals msg (signal_of (ending a guest (drop 8 msg)))
reply-begins msg a guest i =
    pick (Signals msg) (eqb (action_of (drop 8 msg)) 2) _ _ (λ _. zero-le)
    (λ _. pick (Signals msg) (not (eqb a.event 2)) _ _ (λ _. feed-begins msg _ i) (λ _. zero-le))

headed-begins : (st : State) (msg out guest : List ℕ) (h : HeaderRead) → Begins msg (headed_of st (drop 8 msg) out guest h)
unfolding headed_of judged_of answering_of
headed-begins st msg out guest None = zero-le
headed-begins st msg out guest (Some h) =
    let d = drop 8 msg in
    let s = st.session.settings in
    let f = facts_in st (length guest) (vcpu_of d) in
    verdict-cases (λ v. Begins msg (judged_of st h.id h.seq d out guest v)) s f h.id h.seq d zero-le (λ code e. zero-le) (λ p. command-begins msg h.id d)
    (λ a p. reply-begins msg a f.guest (reply-inside s f a h.id h.seq d p))

pub message-begins : (st : State) (msg out guest : List ℕ) → Begins msg (message_of st msg out guest)
unfolding message_of
message-begins st msg out guest =
    pick (Begins msg) (is_closed st) _ _ (λ _. zero-le)
    (λ _. pick (Begins msg) (ltb (length out) least_out) _ _ (λ _. zero-le) (λ _. headed-begins st msg out guest (header_of msg)))
