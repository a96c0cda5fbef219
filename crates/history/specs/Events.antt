-- "W1. The other events": which event goes out at an entry, what goes where it is passed over, and what its reply gives. Said of every session that began,
-- after every list of calls, but `reads`, which is said of any two models; the switches are those of the model that the same calls moved, read by lookup.
use Rattle.std.specs.Prelude.{◌≡◌, ◌↔◌, ◌≢◌, ℕ, ◌+◌, ◌/◌, ◌%◌, ◌^◌, ◌≤◌, List, [], ◌∷◌, Bool, true, false, cond, ◌&&◌, ◌||◌, length, get_or, drop, ltb, eqb}
use Rattle.std.proofs.Math.Bool.{So}
use Rattle.std.proofs.Math.Option.{none, some}
use Rattle.wire.specs.Bytes.{load}
use Rattle.wire.specs.Header.{whole, header_of}
use Rattle.kvmi.specs.declared.Settings.{Settings}
use Rattle.kvmi.specs.declared.Signal.{Signal}
use Rattle.kvmi.specs.declared.Signal.TheVariants.{Quiet, Crash}
use Rattle.kvmi.specs.Answer.{handled, plain, resume}
use Rattle.kvmi.specs.declared.Feed.{Feed}
use Rattle.kvmi.specs.declared.Fault.{Fault}
use Rattle.kvmi.specs.Feed.{no_fault, kept_of, unfed, chosen_feed}
use Rattle.kvmi.specs.Bits.{among, is_on}
use Rattle.kvmi.specs.Limits.{least_out}
use Rattle.kvmi.specs.Tables.{Tables, vm_event_on, event_on, cr_on, msr_on, access}
use Rattle.kvmi.specs.Model.{Model, awaiting, awaited_by, next_seq}
use Rattle.kvmi.specs.Message.{vcpu_of, action_of, replied_event, first_padding}
use Rattle.kvmi.specs.Reply.{event_bytes, pause_event}
use Rattle.kvmi.specs.Pauses.{queued}
use Rattle.kvmi.specs.Call.{Call, message, ready, enter, write_image, step, after}
use Rattle.session.specs.State.{State}
use Rattle.session.specs.Calls.{Told}
use Rattle.session.specs.Meaning.{model_of}
use Rattle.refine.specs.Errors.{HasId}
use Rattle.history.specs.History.{step_of, after_of, BeganOn}
use Rattle.history.specs.Demand1.{Open, Awaits, Offer}
use Rattle.history.specs.Unsteered.{written}

-- ---- at an entry
-- "its switch is on, and for CR and MSR also that of the register its bytes name": a u16 for CR (5), a u32 for MSR (9), at their start. The switch of
-- CREATE_VCPU (12) is the VM's, that of every other event the vCPU's; 0 is no event. W5, of PF (10): "exactly for a page standing below rwx in the view its
-- bytes name, with the PF switch on": the view is the u16 at byte 18, the page's address the u64 at byte 8.
unfoldable pub switches_on : Tables → ℕ → ℕ → List ℕ → Bool
switches_on t vcpu event own =
    cond (eqb event 0) false
    (cond (eqb event 12) (vm_event_on t event)
    (cond (eqb event 5) (event_on t vcpu event && cr_on t vcpu (load 2 own 0))
    (cond (eqb event 9) (event_on t vcpu event && msr_on t vcpu (load 4 own 0))
    (cond (eqb event 10) (event_on t vcpu event && ltb (access t (load 2 own 18) (load 8 own 8 % 2 ^ 64 / 4096)) 7)
    (event_on t vcpu event)))))

-- "unless refused, it is sent exactly if its switch is on [..]": its bytes, with the next seq, are what is written, and its reply is awaited
pub record SentExactly (m : Model) (vcpu : ℕ) (block : List ℕ) (event : ℕ) (own : List ℕ) (r : Told) : Type 0 where
  pub bytes : (written r ≡ event_bytes m.seq vcpu event block own) ↔ (switches_on m.tables vcpu event own ≡ true)
  pub awaited : (awaited_by (model_of r.state) vcpu ≡ some (awaiting event m.seq (kept_of event own))) ↔ (switches_on m.tables vcpu event own ≡ true)
  -- "Each event takes the next seq"
  pub next : switches_on m.tables vcpu event own ≡ true → (model_of r.state).seq ≡ next_seq m.seq

-- a queued pause goes
pub record PauseGoes (m : Model) (vcpu : ℕ) (block : List ℕ) (r : Told) : Type 0 where
  pub bytes : written r ≡ pause_event m.seq vcpu block
  pub awaited : awaited_by (model_of r.state) vcpu ≡ some (awaiting 2 m.seq no_fault)
  pub queue : queued vcpu (model_of r.state) + 1 ≡ queued vcpu m
  pub next : (model_of r.state).seq ≡ next_seq m.seq

-- ---- its reply
-- the events that take one: a pause, and those that an entry is offered
abbrev pub replied : List ℕ
replied = 2 ∷ 3 ∷ 4 ∷ 5 ∷ 7 ∷ 8 ∷ 9 ∷ 10 ∷ 11 ∷ 12 ∷ 14 ∷ []

-- "Replies carry 24 data bytes for CR and MSR, the new value last, and 16 otherwise."; W5, of PF: "its reply (288 data bytes)", "A resume's value is the rep
-- flag", which is byte 29
abbrev pub has_value : ℕ → Bool
has_value event = among event (5 ∷ 9 ∷ [])

abbrev pub reply_length : ℕ → ℕ
reply_length event = cond (eqb event 10) 288 (cond (has_value event) 24 16)

abbrev pub value_in : ℕ → List ℕ → ℕ
value_in event d = cond (eqb event 10) (get_or d 29 0) (cond (has_value event) (load 8 d 16) 0)

-- "the action is 0 continue or 2 crash"; 1: "Retry is taken for BREAKPOINT and DESCRIPTOR only.", and W5, of PF: "All three actions are valid."
abbrev pub is_taken : ℕ → ℕ → Bool
is_taken event action = among action (0 ∷ 2 ∷ []) || eqb action 1 && among event (4 ∷ 8 ∷ 10 ∷ [])

-- W5: "context size above 256 or rep flag above 1 closes", and so does padding that is not zero: bytes 28, 30 and 31
pub record Context (d : List ℕ) : Type 0 where
  pub padding : get_or d 28 0 ≡ 0
  pub padding2 : load 2 d 30 ≡ 0
  pub size : load 4 d 24 ≤ 256
  pub rep : get_or d 29 0 ≤ 1

-- a message that replies to an event of a vCPU with a seq: "padding is zero, [..] seq and event match", and its data size and its action are the event's
pub record Replies (vcpu event seq : ℕ) (msg : List ℕ) : Type 0 where
  pub header : (size : ℕ) × (header_of msg ≡ whole 16 size seq)
  pub names : vcpu_of (drop 8 msg) ≡ vcpu
  pub padding : first_padding 16 (drop 8 msg) ≡ 0
  pub of : replied_event (drop 8 msg) ≡ event
  pub size : length (drop 8 msg) ≡ reply_length event
  pub action : is_taken event (action_of (drop 8 msg)) ≡ true
  pub context : event ≡ 10 → Context (drop 8 msg)

-- W5: "On a continued read (access bit R) the host wants the bytes to feed the instruction"; `guest` is how long guest memory is
abbrev pub fed_by : ℕ → Fault → ℕ → List ℕ → Feed
fed_by event fault guest d =
    cond (eqb event 10) (cond (eqb (action_of d) 0 && is_on fault.access 0) (chosen_feed fault.gva fault.gpa guest d) unfed) unfed

-- what is signalled for its data, of a crash (action 2), of a pause (event 2) and of any other: "resume(vCPU, action, new value or 0)"
abbrev pub signalled : ℕ → ℕ → Fault → ℕ → List ℕ → Signal
signalled vcpu event fault guest d =
    cond (eqb (action_of d) 2) (Crash vcpu) (cond (eqb event 2) Quiet (resume vcpu (action_of d) (value_in event d) (fed_by event fault guest d)))

-- a call that is no reply to an event of a vCPU, and a list of them
abbrev pub NoReply : ℕ → Call → Type 0
NoReply vcpu (message msg out guest) = HasId msg 16 → vcpu_of (drop 8 msg) ≢ vcpu
NoReply vcpu (ready v) = Unit {0}
NoReply vcpu (enter v block event own out) = Unit {0}
NoReply vcpu (write_image out) = Unit {0}

abbrev pub NoReplies : ℕ → List Call → Type 0
NoReplies vcpu [] = Unit {0}
NoReplies vcpu (c ∷ cs) = NoReply vcpu c × NoReplies vcpu cs

-- ---- the other events
pub record Events : Type 0 where
  -- "unless refused, it is sent exactly if its switch is on, and for CR and MSR also that of the register its bytes name"
  pub sent : (s : Settings) (st : State) (m : Model) → BeganOn s st m → (cs : List Call) (vcpu : ℕ) (block : List ℕ) (event : ℕ) (own out : List ℕ)
      → let r = step_of (after_of st cs) (enter vcpu block event own out) in
      r.answer.number ≡ 0 → SentExactly (after s m cs) vcpu block event own r
  -- "a switched-off event is passed over": the entry is the one that is offered nothing
  pub passed_over : (s : Settings) (st : State) (m : Model) → BeganOn s st m → (cs : List Call) (vcpu : ℕ) (block : List ℕ) (event : ℕ) (own out : List ℕ)
      → Offer event own → switches_on (after s m cs).tables vcpu event own ≡ false
      → step_of (after_of st cs) (enter vcpu block event own out) ≡ step_of (after_of st cs) (enter vcpu block 0 [] out)
  -- "and a queued pause goes instead"
  pub pause_instead : (s : Settings) (st : State) (m : Model) → BeganOn s st m → (cs : List Call) (vcpu : ℕ) (block : List ℕ) (event : ℕ) (own out : List ℕ)
      → let r = step_of (after_of st cs) (enter vcpu block event own out) in
      r.answer.number ≡ 0 → switches_on (after s m cs).tables vcpu event own ≡ false → 1 ≤ queued vcpu (after s m cs) → PauseGoes (after s m cs) vcpu block r
  -- "Entry order: offered event, then pause.": one that is sent leaves every table as it was, and so the pause queue of every vCPU
  pub keeps : (s : Settings) (st : State) (m : Model) → BeganOn s st m → (cs : List Call) (vcpu : ℕ) (block : List ℕ) (event : ℕ) (own out : List ℕ)
      → Offer event own → switches_on (after s m cs).tables vcpu event own ≡ true
      → (model_of (step_of (after_of st cs) (enter vcpu block event own out)).state).tables ≡ (after s m cs).tables
  -- "The awaited record now holds which event it is": one that takes a reply
  pub known : (s : Settings) (st : State) (m : Model) → BeganOn s st m → (cs : List Call) (vcpu event seq : ℕ) (fault : Fault)
      → awaited_by (model_of (after_of st cs)) vcpu ≡ some (awaiting event seq fault) → So (among event replied)
  -- of the session, the answer to an EVENT_REPLY reads whether it is closed and the awaited record of the vCPU that it names: no table, mode or setting; and
  -- of guest memory how long it is
  pub reads : (s s' : Settings) (m k : Model) (msg out guest guest' : List ℕ) → HasId msg 16 → length guest ≡ length guest' → m.closed ≡ k.closed
      → awaited_by m (vcpu_of (drop 8 msg)) ≡ awaited_by k (vcpu_of (drop 8 msg))
      → (step s m (message msg out guest)).answer ≡ (step s' k (message msg out guest')).answer
  -- so it is answered after any calls between as it would have been before them, whatever they switch, if they leave the session open and none of them
  -- is a reply to that vCPU's event
  pub later : (s : Settings) (st : State) (m : Model) → BeganOn s st m → (cs between : List Call) (msg out guest : List ℕ) → HasId msg 16
      → let vcpu = vcpu_of (drop 8 msg) in
      Awaits (after_of st cs) vcpu → NoReplies vcpu between → Open (after_of (after_of st cs) between)
      → (step_of (after_of (after_of st cs) between) (message msg out guest)).answer ≡ (step_of (after_of st cs) (message msg out guest)).answer
  -- "Once taken, it is awaited no more. A crash is signalled"; "Such a continue or retry, unlike a pause's, is signalled as resume(vCPU, action, new value
  -- or 0)."
  pub taken : (s : Settings) (st : State) (m : Model) → BeganOn s st m → (cs : List Call) (vcpu event seq : ℕ) (fault : Fault) (msg out guest : List ℕ)
      → awaited_by (after s m cs) vcpu ≡ some (awaiting event seq fault) → Replies vcpu event seq msg → least_out ≤ length out
      → let r = step_of (after_of st cs) (message msg out guest) in
      (r.answer ≡ handled 0 (signalled vcpu event fault (length guest) (drop 8 msg))) × (awaited_by (model_of r.state) vcpu ≡ none)
  -- "a wrong reply closes"
  pub closes : (s : Settings) (st : State) (m : Model) → BeganOn s st m → (cs : List Call) (msg out guest : List ℕ) → HasId msg 16
      → Open (after_of st cs) → least_out ≤ length out
      → ((vcpu event seq : ℕ) (fault : Fault) → awaited_by (after s m cs) vcpu ≡ some (awaiting event seq fault) → Replies vcpu event seq msg → ⊥)
      → (step_of (after_of st cs) (message msg out guest)).answer ≡ plain 1
  -- all of it for one event: sent, whatever comes between, and replied to
  pub resumed : (s : Settings) (st : State) (m : Model) → BeganOn s st m → (cs : List Call) (vcpu : ℕ) (block : List ℕ) (event : ℕ) (own out : List ℕ)
      → let r = step_of (after_of st cs) (enter vcpu block event own out) in
      r.answer.number ≡ 0 → switches_on (after s m cs).tables vcpu event own ≡ true
      → (between : List Call) → NoReplies vcpu between → Open (after_of r.state between)
      → (msg out' guest : List ℕ) → Replies vcpu event (after s m cs).seq msg → least_out ≤ length out'
      → (step_of (after_of r.state between) (message msg out' guest)).answer
      ≡ handled 0 (cond (eqb (action_of (drop 8 msg)) 2) (Crash vcpu) (resume vcpu (action_of (drop 8 msg)) (value_in event (drop 8 msg)) (fed_by event (kept_of event own) (length guest) (drop 8 msg))))
