-- W3, "Several messages in one write": "Outputs, signals, session and guest memory must equal the used messages taken singly; a batch stands in demand 3's
-- list as these messages." `singly` and `unsteered` are said of any session whatever, well formed or not; the others of every session that began, as
-- demand 3 is, of lists of calls with batches among them.
use Rattle.std.specs.Prelude.{◌≡◌, ◌↔◌, ℕ, ◌+◌, ◌≤◌, List, [], ◌∷◌, ◌++◌, true, false, length, take, drop}
use Rattle.kvmi.specs.declared.Settings.{Settings}
use Rattle.kvmi.specs.Answer.{Paper, plain}
use Rattle.kvmi.specs.Tables.{SameTables}
use Rattle.kvmi.specs.Model.{Model}
use Rattle.kvmi.specs.Image.{image}
use Rattle.kvmi.specs.Call.{Call, message, ready, enter, write_image, awaits_any, step, move, after}
use Rattle.kvmi.specs.Batch.{Batch, next_length, listed_as, resume_of, refusal_of, batch_step, used_on}
use Rattle.session.specs.State.{State, is_closed}
use Rattle.session.specs.Meaning.{model_of}
use Rattle.image_writer.specs.Write.{image_of}
use Rattle.batch.specs.Batch.{batch_of, used_of}
use Rattle.history.specs.History.{step_of, after_of, BeganOn}
use Rattle.history.specs.Demand2.{SameStep}
use Rattle.history.specs.Demand3.{Writable, Writes}
use Rattle.history.specs.Unsteered.{written, ButGuest}

-- ---- the used messages
-- Messages that are cut off an input by their size fields, each taken on what the one before it left: session, guest memory, and the output behind what
-- that one wrote.
pub data Singly : State → List ℕ → List ℕ → List ℕ → List Call → Type 0 where
  none : (st : State) (input out guest : List ℕ) → Singly st input out guest []
  next : (st : State) (input out guest : List ℕ) (cs : List Call) (msg : List ℕ) → msg ≡ take (next_length input) input
      → Singly (step_of st (message msg out guest)).state (drop (next_length input) input)
      (drop (step_of st (message msg out guest)).answer.count (step_of st (message msg out guest)).out) (step_of st (message msg out guest)).guest cs
      → Singly st input out guest (message msg out guest ∷ cs)

-- how many bytes messages have
abbrev pub call_bytes : Call → ℕ
call_bytes (message msg out guest) = length msg
call_bytes (ready vcpu) = 0
call_bytes (enter vcpu block event own out) = 0
call_bytes (write_image out) = 0

unfoldable pub bytes_over : List Call → ℕ
bytes_over [] = 0
bytes_over (c ∷ cs) = call_bytes c + bytes_over cs

-- what calls write, end to end
unfoldable pub written_over : State → List Call → List ℕ
written_over st [] = []
written_over st (c ∷ cs) = written (step_of st c) ++ written_over (step_of st c).state cs

-- what they signal, as a list has it, end to end
unfoldable pub listed_over : State → List Call → List ℕ
listed_over st [] = []
listed_over st (c ∷ cs) = listed_as (step_of st c).answer.signal ++ listed_over (step_of st c).state cs

-- the guest memory that the last of them leaves, or that there was
unfoldable pub guest_over : State → List ℕ → List Call → List ℕ
guest_over st guest [] = guest
guest_over st guest (c ∷ cs) = guest_over (step_of st c).state (step_of st c).guest cs

-- where in the input the last of them begins, if the first begins at `from`; or another place where there is none
unfoldable pub last_begins : ℕ → ℕ → List Call → ℕ
last_begins other from [] = other
last_begins other from (c ∷ cs) = last_begins from (from + call_bytes c) cs

-- the last one's answer, or another where there is none
unfoldable pub last_over : State → Paper → List Call → Paper
last_over st p [] = p
last_over st p (c ∷ cs) = last_over (step_of st c).state (step_of st c).answer cs

-- ---- a batch is these messages
pub record TakenSingly (st : State) (input out signals guest : List ℕ) (cs : List Call) (b : Batch State) : Type 0 where
  -- they stand end to end at the input's start, and are what is used of it
  pub messages : Singly st input out guest cs
  pub used : b.used ≡ bytes_over cs
  -- "session": and every lent word
  pub state : b.state ≡ after_of st cs
  -- "Outputs": end to end, and behind them the output as it was
  pub count : b.count ≡ length (written_over st cs)
  pub output : b.out ≡ written_over st cs ++ drop (length (written_over st cs)) out
  -- "signals": end to end; "A lent list past its count is untouched"
  pub listed : b.listed ≡ length (listed_over st cs)
  pub list : b.signals ≡ listed_over st cs ++ drop (length (listed_over st cs)) signals
  -- "and guest memory"
  pub memory : b.guest ≡ guest_over st guest cs
  -- the answer is the last one's; where there is none, the refusal or 0
  pub number : b.number ≡ (last_over st (plain (refusal_of (is_closed st) (length out) (length signals))) cs).number
  -- W5: the bytes that the last message supplies are a part of the input, from where it begins
  pub resume : b.resume ≡ resume_of (last_begins 0 0 cs) (last_over st (plain (refusal_of (is_closed st) (length out) (length signals))) cs).signal

-- ---- two batches that agree but for what the guest has a part in
-- what is the same after them
pub record SameBatch (b c : Batch State) : Type 0 where
  -- the answer: number, bytes used and written, signals listed, resume
  pub number : b.number ≡ c.number
  pub used : b.used ≡ c.used
  pub count : b.count ≡ c.count
  pub listed : b.listed ≡ c.listed
  pub resume : b.resume ≡ c.resume
  -- the session, every lent word, and the list
  pub state : b.state ≡ c.state
  pub signals : b.signals ≡ c.signals

-- ---- what a batch gives on a session is what it gives on the book, by document 02's rules: number, counts and resume, every byte of the output and of guest
-- memory, the list, and the model
pub record SameAsBook (b : Batch State) (c : Batch Model) : Type 0 where
  pub number : b.number ≡ c.number
  pub used : b.used ≡ c.used
  pub count : b.count ≡ c.count
  pub listed : b.listed ≡ c.listed
  pub resume : b.resume ≡ c.resume
  pub out : b.out ≡ c.out
  pub signals : b.signals ≡ c.signals
  pub guest : b.guest ≡ c.guest
  pub model : model_of b.state ≡ c.state

-- ---- lists with batches in them
pub data HostCall : Type 0 where
  single : Call → HostCall
  -- input, output, list of signals, guest memory
  batch : List ℕ → List ℕ → List ℕ → List ℕ → HostCall

-- "a batch stands in demand 3's list as these messages": which they are is read on the book, and never on the session
unfoldable pub singles : Settings → Model → List HostCall → List Call
singles s m [] = []
singles s m (single c ∷ hs) = c ∷ singles s (move s m c) hs
singles s m (batch input out signals guest ∷ hs) = used_on s m input out signals guest ++ singles s (batch_step s m input out signals guest).state hs

-- what such a list does to a session
unfoldable pub left_by : State → List HostCall → State
left_by st [] = st
left_by st (single c ∷ hs) = left_by (step_of st c).state hs
left_by st (batch input out signals guest ∷ hs) = left_by (batch_of st input out signals guest).state hs

-- and to the book
abbrev pub book_by : Settings → Model → List HostCall → Model
book_by s m hs = after s m (singles s m hs)

pub record Batches : Type 0 where
  -- "equal the used messages taken singly"
  pub singly : (st : State) (input out signals guest : List ℕ)
      → TakenSingly st input out signals guest (used_of st input out signals guest) (batch_of st input out signals guest)
  -- The guest can't steer a batch: where guest memory and what stood in the output differ, their lengths apart, it uses the same messages, each alike (so
  -- that Unsteered says what is the same of the bytes), and gives and leaves the same.
  pub unsteered : (st : State) (input out out' signals guest guest' : List ℕ) → length out ≡ length out' → length guest ≡ length guest'
      → SameBatch (batch_of st input out signals guest) (batch_of st input out' signals guest')
      × ButGuest (used_of st input out signals guest) (used_of st input out' signals guest')
  -- the list with each batch replaced by its messages leaves the same session and words
  pub replaced : (s : Settings) (st : State) (m : Model) → BeganOn s st m → (hs : List HostCall) → left_by st hs ≡ after_of st (singles s m hs)
  -- the messages that a batch behind such a list uses are those that its book says
  pub same : (s : Settings) (st : State) (m : Model) → BeganOn s st m → (hs : List HostCall) (input out signals guest : List ℕ)
      → used_of (left_by st hs) input out signals guest ≡ used_on s (book_by s m hs) input out signals guest
  -- Demand2: `acted`, of batches behind such a list, and of single calls
  pub acted : (s : Settings) (st : State) (m : Model) → BeganOn s st m → (hs : List HostCall) (input out signals guest : List ℕ)
      → SameAsBook (batch_of (left_by st hs) input out signals guest) (batch_step s (book_by s m hs) input out signals guest)
  pub acted_singly : (s : Settings) (st : State) (m : Model) → BeganOn s st m → (hs : List HostCall) (c : Call)
      → SameStep (step_of (left_by st hs) c) (step s (book_by s m hs) c)
  -- Demand3: `closed`, `busy`, `writes` and `alike`, word for word
  pub closed : (s : Settings) (st : State) (m : Model) → BeganOn s st m → (hs : List HostCall) (out : List ℕ)
      → ((image_of (left_by st hs) out).answer.number ≡ 2) ↔ ((book_by s m hs).closed ≡ true)
  pub busy : (s : Settings) (st : State) (m : Model) → BeganOn s st m → (hs : List HostCall) (out : List ℕ)
      → ((image_of (left_by st hs) out).answer.number ≡ 10) ↔ (((book_by s m hs).closed ≡ false) × (awaits_any (book_by s m hs).awaited ≡ true))
  pub writes : (s : Settings) (st : State) (m : Model) → BeganOn s st m → (hs : List HostCall) (out : List ℕ) → Writable s m (singles s m hs)
      → length (image (book_by s m hs).tables) ≤ length out → Writes (left_by st hs) out (image (book_by s m hs).tables)
  pub alike : (s : Settings) (st st' : State) (m k : Model) → BeganOn s st m → BeganOn s st' k
      → (hs gs : List HostCall) (out out' bytes bytes' : List ℕ) → Writable s m (singles s m hs) → Writable s k (singles s k gs)
      → Writes (left_by st hs) out bytes → Writes (left_by st' gs) out' bytes'
      → (bytes ≡ bytes') ↔ SameTables (book_by s m hs).tables (book_by s k gs).tables
