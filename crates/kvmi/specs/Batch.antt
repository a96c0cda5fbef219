-- W3, "Several messages in one write": a call for messages end to end. It is said once, for a session and for its book, and rests on nothing but what a
-- single message does to either (`Takes`).
use Rattle.std.specs.Prelude.{Option, Some, None, is_some, ℕ, zero, suc, ◌+◌, ◌-◌, ◌*◌, min, List, [], ◌∷◌, ◌++◌, Bool, true, false, cond, not, ◌&&◌, length, take, drop, leb, ltb, eqb}
use Rattle.wire.specs.Bytes.{load, store}
use Rattle.kvmi.specs.declared.Settings.{Settings}
use Rattle.kvmi.specs.declared.Feed.{Feed}
use Rattle.kvmi.specs.declared.Resumption.{Resumption}
use Rattle.kvmi.specs.declared.Signal.{Signal}
use Rattle.kvmi.specs.declared.Signal.TheVariants.{Quiet, Kick, Crash, Resume}
use Rattle.kvmi.specs.Bits.{bit}
use Rattle.kvmi.specs.Limits.{least_out}
use Rattle.kvmi.specs.Answer.{Paper, is_missing}
use Rattle.kvmi.specs.Feed.{is_message}
use Rattle.kvmi.specs.Model.{Model}
use Rattle.kvmi.specs.Call.{Call, message, Step, message_step}

-- ---- a single message
-- what it gives and leaves: its answer, the session or book, output and guest memory
pub record Taken (A : Type 0) : Type 0 where
  pub answer : Paper
  pub state : A
  pub out : List ℕ
  pub guest : List ℕ

-- what takes one: session or book, message, output, guest memory
abbrev pub Takes : Type 0 → Type 0
Takes A = A → List ℕ → List ℕ → List ℕ → Taken A

-- ---- "messages end to end, each cut by its size field"
-- How many bytes the next one has, its header included. "An incomplete last message closes": it has all that are left, fewer than 8 or than its size
-- field says, and so test 1 closes.
unfoldable pub next_length : List ℕ → ℕ
next_length input = min (8 + load 2 input 2) (length input)

-- ---- "signals in a lent list of u32"
-- "kick as 256 + 2 × vCPU + wait, crash as 512 + vCPU"; none and a resume take no place
abbrev pub listed_as : Signal → List ℕ
listed_as Quiet = []
listed_as (Kick wait vcpu) = (256 + 2 * vcpu + bit wait) ∷ []
listed_as (Crash vcpu) = (512 + vcpu) ∷ []
listed_as (Resume r) = []

-- the bytes that feed a vCPU, of a message that begins at a byte of the input: W5's "part of one of the two buffers" is then one of the input
abbrev pub feed_in : ℕ → Feed → Feed
feed_in start f = record { source = f.source; at = cond (is_message f.source) (start + f.at) f.at; length = f.length }

-- "A resume is handed back beside the list": of any other signal nothing is
abbrev pub resume_of : ℕ → Signal → Option Resumption
resume_of start Quiet = None
resume_of start (Kick wait vcpu) = None
resume_of start (Crash vcpu) = None
resume_of start (Resume r) = Some (record { vcpu = r.vcpu; action = r.action; value = r.value; feed = feed_in start r.feed })

abbrev pub is_resume : Option Resumption → Bool
is_resume r = is_some r

-- whether it lacks the page that was to feed it
abbrev pub resume_lacks_page : Option Resumption → Bool
resume_lacks_page None = false
resume_lacks_page (Some r) = is_missing r.feed.source

-- ---- how far a batch is, or where it ended
pub record Batch (A : Type 0) : Type 0 where
  -- the answer's number
  pub number : ℕ
  -- "it says how many input bytes it used"; output bytes written, and signals listed
  pub used : ℕ
  pub count : ℕ
  pub listed : ℕ
  -- the resume, if one ended it
  pub resume : Option Resumption
  -- whole, what the messages so far left
  pub state : A
  pub out : List ℕ
  pub signals : List ℕ
  pub guest : List ℕ

-- before the first message
abbrev pub at_start : {A : Type 0} → ℕ → A → List ℕ → List ℕ → List ℕ → Batch A
at_start number a out signals guest =
    record { number = number; used = 0; count = 0; listed = 0; resume = None; state = a; out = out; signals = signals; guest = guest }

-- "Refusals, tested first, for an empty batch too: closed 2, short output 3, a list with no place 11", by the lengths of both; 0: none of them
unfoldable pub refusal_of : Bool → ℕ → ℕ → ℕ
refusal_of closed out signals = cond closed 2 (cond (ltb out least_out) 3 (cond (eqb signals 0) 11 0))

-- "A resume is handed back beside the list and ends the batch. Else it goes on unless a message closes or, before one, under 4,112 output bytes or no
-- list place remain". A refusal and a closing message have a number that is not 0, and so has W5's 12, which "ends a batch with that answer".
unfoldable pub goes_on : {A : Type 0} → List ℕ → Batch A → Bool
goes_on input b =
    eqb b.number 0 && not (is_resume b.resume) && ltb b.used (length input) && leb least_out (length b.out - b.count)
    && ltb b.listed (length b.signals)

-- the next message, and the output that is left for its answer
abbrev pub next_of : {A : Type 0} → List ℕ → Batch A → List ℕ
next_of input b = take (next_length (drop b.used input)) (drop b.used input)

abbrev pub out_left : {A : Type 0} → Batch A → List ℕ
out_left b = drop b.count b.out

-- A message was taken: it is used, whatever its answer is, and what it wrote and signalled is counted. One that closes wrote and signalled nothing: "a
-- closing message gives answer 1, counting the bytes and signals before it", and "bytes after a closing message count as unused".
-- "A lent list past its count is untouched".
abbrev pub counted : {A : Type 0} → Batch A → ℕ → Taken A → Batch A
counted b n r =
    record {
      number = r.answer.number;
      used = b.used + n;
      count = b.count + r.answer.count;
      listed = b.listed + length (listed_as r.answer.signal);
      resume = resume_of b.used r.answer.signal;
      state = r.state;
      out = take b.count b.out ++ r.out;
      signals = store b.signals b.listed (listed_as r.answer.signal);
      guest = r.guest;
    }

unfoldable pub turn_of : {A : Type 0} → Takes A → List ℕ → Batch A → Batch A
turn_of takes input b = counted b (next_length (drop b.used input)) (takes b.state (next_of input b) (out_left b) b.guest)

-- the turns of a batch, at most n; each uses a byte at least
unfoldable pub turns_of : {A : Type 0} → Takes A → ℕ → List ℕ → Batch A → Batch A
turns_of takes zero input b = b
turns_of takes (suc n) input b = cond (goes_on input b) (turns_of takes n input (turn_of takes input b)) b

unfoldable pub batch_by : {A : Type 0} → Takes A → Bool → A → List ℕ → List ℕ → List ℕ → List ℕ → Batch A
batch_by takes closed a input out signals guest =
    turns_of takes (length input) input (at_start (refusal_of closed (length out) (length signals)) a out signals guest)

-- ---- "the used messages", as single calls, each with the output that is left for it and the guest memory that the one before it left. That the batch
-- equals them "taken singly", and stands "in demand 3's list as these messages", is history/specs/Batches.
unfoldable pub used_in : {A : Type 0} → Takes A → ℕ → List ℕ → Batch A → List Call
used_in takes zero input b = []
used_in takes (suc n) input b =
    cond (goes_on input b) (message (next_of input b) (out_left b) b.guest ∷ used_in takes n input (turn_of takes input b)) []

unfoldable pub used_by : {A : Type 0} → Takes A → Bool → A → List ℕ → List ℕ → List ℕ → List ℕ → List Call
used_by takes closed a input out signals guest =
    used_in takes (length input) input (at_start (refusal_of closed (length out) (length signals)) a out signals guest)

-- ---- on the book
abbrev pub step_taken : Step → Taken Model
step_taken r = record { answer = r.answer; state = r.model; out = r.out; guest = r.guest }

abbrev pub step_takes : Settings → Takes Model
step_takes s m msg out guest = step_taken (message_step s m msg out guest)

unfoldable pub batch_step : Settings → Model → List ℕ → List ℕ → List ℕ → List ℕ → Batch Model
batch_step s m input out signals guest = batch_by (step_takes s) m.closed m input out signals guest

unfoldable pub used_on : Settings → Model → List ℕ → List ℕ → List ℕ → List ℕ → List Call
used_on s m input out signals guest = used_by (step_takes s) m.closed m input out signals guest
