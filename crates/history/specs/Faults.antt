-- "W5. Page faults with bytes supplied by the tool": when a fault goes to the tool, what its reply gives, and that the bytes which the answer names are those
-- that feed the instruction. Said of every session that began, after every list of calls, but `moves`, which is said of any model, and `lies`, `kept`, `lacked`
-- and `in_batch`, which are said of any session, whatever bits it holds. That a fault's reply is taken or closes, and what is signalled for it, `Events` says
-- with the other events.
use Rattle.std.specs.Prelude.{Option, Some, None, ◌≡◌, ◌↔◌, ℕ, ◌+◌, ◌/◌, ◌%◌, ◌^◌, ◌≤◌, ◌<◌, List, true, false, length, drop}
use Rattle.std.proofs.Math.Option.{some}
use Rattle.wire.specs.Bytes.{load}
use Rattle.kvmi.specs.declared.Feed.{Feed}
use Rattle.kvmi.specs.declared.Resumption.{Resumption}
use Rattle.kvmi.specs.Answer.{resume}
use Rattle.kvmi.specs.declared.Settings.{Settings}
use Rattle.kvmi.specs.declared.Signal.{Signal}
use Rattle.kvmi.specs.declared.Signal.TheVariants.{Quiet, Kick, Crash, Resume}
use Rattle.kvmi.specs.Bits.{is_on}
use Rattle.kvmi.specs.Limits.{least_out}
use Rattle.kvmi.specs.Tables.{event_on, access}
use Rattle.kvmi.specs.Model.{Model, awaiting, awaited_by}
use Rattle.kvmi.specs.declared.Fault.{Fault}
use Rattle.kvmi.specs.Feed.{unfed, in_context, page_exists}
use Rattle.kvmi.specs.Message.{action_of, vcpu_of}
use Rattle.kvmi.specs.Reply.{event_bytes}
use Rattle.kvmi.specs.Batch.{Batch, next_of, out_left, turn_of}
use Rattle.kvmi.specs.Call.{Call, message, enter, Step, step, after}
use Rattle.store.specs.Words.{ended_wait}
use Rattle.session.specs.State.{State, with_vcpu_words}
use Rattle.session.specs.Calls.{Told}
use Rattle.message.specs.Message.{message_of}
use Rattle.batch.specs.Batch.{message_takes}
use Rattle.feed.specs.Fed.{part_of, fed_bytes}
use Rattle.calls.specs.Given.{source_number}
use Rattle.refine.specs.Errors.{HasId}
use Rattle.history.specs.History.{step_of, after_of, BeganOn}
use Rattle.history.specs.Unsteered.{written}
use Rattle.history.specs.Events.{Replies}

-- ---- the bytes
-- "It must be a part of one of the two buffers": the part that a feed names lies inside its buffer, is not empty, and is these bytes
pub record Part (buffer : List ℕ) (f : Feed) (bytes : List ℕ) : Type 0 where
  pub inside : f.at + f.length ≤ length buffer
  pub any : 0 < f.length
  pub same : part_of buffer f.at f.length ≡ bytes

-- by its source, as the number that a host gets: 1 the message, 2 guest memory; of any other none are named
pub record Names (msg guest : List ℕ) (f : Feed) (bytes : List ℕ) : Type 0 where
  pub source : source_number f.source ≤ 3
  pub of_message : source_number f.source ≡ 1 → Part msg f bytes
  pub of_guest : source_number f.source ≡ 2 → Part guest f bytes

-- what feeds a signalled vCPU
abbrev pub feed_of_signal : Signal → Feed
feed_of_signal Quiet = unfed
feed_of_signal (Kick wait vcpu) = unfed
feed_of_signal (Crash vcpu) = unfed
feed_of_signal (Resume r) = r.feed

-- and a vCPU that a batch resumes
abbrev pub feed_of_resume : Option Resumption → Feed
feed_of_resume None = unfed
feed_of_resume (Some r) = r.feed

-- a signal but for its bytes
abbrev pub without_feed : Signal → Signal
without_feed Quiet = Quiet
without_feed (Kick wait vcpu) = Kick wait vcpu
without_feed (Crash vcpu) = Crash vcpu
without_feed (Resume r) = resume r.vcpu r.action r.value unfed

-- the part that a feed names lies inside its buffer, and one that is missing has no bytes
pub record Lies (msg guest : List ℕ) (f : Feed) : Type 0 where
  pub source : source_number f.source ≤ 3
  pub of_message : source_number f.source ≡ 1 → f.at + f.length ≤ length msg
  pub of_guest : source_number f.source ≡ 2 → f.at + f.length ≤ length guest
  pub of_none : source_number f.source ≡ 3 → f.length ≡ 0

-- what answer 12 leaves: an EVENT_REPLY was taken, which writes nothing and hands back no bytes; of the session the awaited record alone goes
pub record Lacked (st : State) (msg out guest : List ℕ) (r : Told) : Type 0 where
  pub of : HasId msg 16
  pub count : r.answer.count ≡ 0
  pub bytes : (feed_of_signal r.answer.signal).length ≡ 0
  pub output : r.out ≡ out
  pub memory : r.guest ≡ guest
  pub state : r.state ≡ with_vcpu_words st (ended_wait st.vcpus (vcpu_of (drop 8 msg)))

-- two steps that are alike but for the bytes that feed a vCPU, and with them for the answer's number
pub record ButFeed (r q : Step) : Type 0 where
  pub model : r.model ≡ q.model
  pub out : r.out ≡ q.out
  pub count : r.answer.count ≡ q.answer.count
  pub offset : r.answer.offset ≡ q.answer.offset
  pub padding : r.answer.padding ≡ q.answer.padding
  pub signal : without_feed r.answer.signal ≡ without_feed q.answer.signal

-- ---- page faults
pub record Faults : Type 0 where
  -- "Unless refused, a PF is sent exactly for a page standing below rwx in the view its bytes name, with the PF switch on."
  pub sent : (s : Settings) (st : State) (m : Model) → BeganOn s st m → (cs : List Call) (vcpu : ℕ) (block own out : List ℕ)
      → let r = step_of (after_of st cs) (enter vcpu block 10 own out) in
      r.answer.number ≡ 0
      → (written r ≡ event_bytes (after s m cs).seq vcpu 10 block own)
      ↔ ((event_on (after s m cs).tables vcpu 10 ≡ true) × (access (after s m cs).tables (load 2 own 18) (load 8 own 8 % 2 ^ 64 / 4096) < 7))
  -- in a view that the session has not, every page stands at rwx, so that such a fault is passed over
  pub no_view : (s : Settings) (st : State) (m : Model) → BeganOn s st m → (cs : List Call) (view page : ℕ) → s.views ≤ view → access (after s m cs).tables view page ≡ 7
  -- "If gva is known and in the context's [address, address + size), reckoned without wrapping, they are the supplied data from gva to its end; else the page's
  -- bytes from gpa to the page end": what the answer names is what `fed_bytes` gives out of the message and guest memory
  pub fed : (s : Settings) (st : State) (m : Model) → BeganOn s st m → (cs : List Call) (vcpu seq : ℕ) (fault : Fault) (msg out guest : List ℕ)
      → awaited_by (after s m cs) vcpu ≡ some (awaiting 10 seq fault) → Replies vcpu 10 seq msg → least_out ≤ length out
      → Names msg guest (feed_of_signal (step_of (after_of st cs) (message msg out guest)).answer.signal) (fed_bytes msg guest fault.gva fault.gpa)
  -- "On a continued read (access bit R) the host wants the bytes": exactly then there are some, or the page is missing
  pub wanted : (s : Settings) (st : State) (m : Model) → BeganOn s st m → (cs : List Call) (vcpu seq : ℕ) (fault : Fault) (msg out guest : List ℕ)
      → awaited_by (after s m cs) vcpu ≡ some (awaiting 10 seq fault) → Replies vcpu 10 seq msg → least_out ≤ length out
      → (0 < source_number (feed_of_signal (step_of (after_of st cs) (message msg out guest)).answer.signal).source)
      ↔ ((action_of (drop 8 msg) ≡ 0) × (is_on fault.access 0 ≡ true))
  -- "a continue that needs the guest page where none exists is answer 12"
  pub missing : (s : Settings) (st : State) (m : Model) → BeganOn s st m → (cs : List Call) (vcpu seq : ℕ) (fault : Fault) (msg out guest : List ℕ)
      → awaited_by (after s m cs) vcpu ≡ some (awaiting 10 seq fault) → Replies vcpu 10 seq msg → least_out ≤ length out
      → ((step_of (after_of st cs) (message msg out guest)).answer.number ≡ 12)
      ↔ ((action_of (drop 8 msg) ≡ 0) × (is_on fault.access 0 ≡ true) × (in_context fault.gva (load 8 msg 24) (load 4 msg 32) ≡ false)
      × (page_exists (length guest) fault.gpa ≡ false))
  -- "all else as under answer 0, in demand 3's book too": guest memory, of whatever length, moves nothing but the bytes and the number
  pub moves : (s : Settings) (m : Model) (msg out guest guest' : List ℕ) → HasId msg 16 → ButFeed (step s m (message msg out guest)) (step s m (message msg out guest'))
  -- "It must be a part of one of the two buffers."
  pub lies : (st : State) (msg out guest : List ℕ) → Lies msg guest (feed_of_signal (message_of st msg out guest).answer.signal)
  -- an EVENT_REPLY leaves guest memory as it was lent: the bytes that are named there are still those after the call
  pub kept : (st : State) (msg out guest : List ℕ) → HasId msg 16 → (message_of st msg out guest).guest ≡ guest
  -- "is answer 12 and hands back no bytes, all else as under answer 0": no other message is answered so
  pub lacked : (st : State) (msg out guest : List ℕ) → (message_of st msg out guest).answer.number ≡ 12 → Lacked st msg out guest (message_of st msg out guest)
  -- in a batch: what a message names of itself, its batch names of the input; what it names of guest memory stands in what the batch leaves there
  pub in_batch : (input : List ℕ) (b : Batch State) (bytes : List ℕ)
      → let r = message_of b.state (next_of input b) (out_left b) b.guest in
      let e = turn_of message_takes input b in
      Names (next_of input b) r.guest (feed_of_signal r.answer.signal) bytes → Names input e.guest (feed_of_resume e.resume) bytes
