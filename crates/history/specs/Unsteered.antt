-- The guest can't steer the filter. Two runs of a call that agree on everything but what the guest has a part in agree on answer, session, tables and
-- the bytes that go out, but for the data of VM_READ_PHYSICAL's reply and the registers and own bytes of an event; and so do two runs of every list of calls.
-- A host may reuse its output buffer: what an earlier read left in it moves nothing. Said of any session whatever, well formed or not.
use Rattle.std.specs.Prelude.{◌≡◌, ℕ, List, [], ◌∷◌, Bool, false, cond, length, take, eqb, Some, None}
use Rattle.wire.specs.Header.{HeaderRead, header_of}
use Rattle.kvmi.specs.Answer.{Paper}
use Rattle.kvmi.specs.Event.{cr_named, msr_named}
use Rattle.kvmi.specs.Feed.{PF, kept_of, view_named}
use Rattle.kvmi.specs.Call.{Call, message, ready, enter, write_image}
use Rattle.session.specs.State.{State}
use Rattle.session.specs.Calls.{Told}
use Rattle.history.specs.History.{step_of, after_of}

-- ---- what a call writes
-- whether a header is that of VM_READ_PHYSICAL, whose reply has guest memory as its data
abbrev pub reads_guest : HeaderRead → Bool
reads_guest (Some h) = eqb h.id 6
reads_guest None = false

-- the bytes that a call wrote; what lies behind them in the output is as it was (Demand1: `past`)
abbrev pub written : Told → List ℕ
written r = take r.answer.count r.out

-- those of them that are not the guest's own: of VM_READ_PHYSICAL's reply, and of the event at an entry, which carries the vCPU's registers and the
-- event's own bytes, the first 16
unfoldable pub own_bytes : Call → Told → List ℕ
own_bytes (message msg out guest) r = cond (reads_guest (header_of msg)) (take 16 (written r)) (written r)
own_bytes (ready vcpu) r = written r
own_bytes (enter vcpu block event own out) r = take 16 (written r)
own_bytes (write_image out) r = written r

-- ---- two runs
-- calls that agree but for what the guest has a part in: the bytes of guest memory, a vCPU's registers, an offered event's own bytes, and what stands
-- in the output before the call, where an earlier read may have left the guest's bytes; all lengths agree, and so do the number of an offered event,
-- the register that the bytes of CR (5) and MSR (9) name, by which its switches are found, and of a page fault (10) its view, addresses and access, by which
-- its page is found and its reply's bytes are chosen
pub data Alike : Call → Call → Type 0 where
  messages : (msg out out' guest guest' : List ℕ) → length out ≡ length out' → length guest ≡ length guest'
      → Alike (message msg out guest) (message msg out' guest')
  readies : (vcpu : ℕ) → Alike (ready vcpu) (ready vcpu)
  enters : (vcpu : ℕ) (block block' : List ℕ) (event : ℕ) (own own' out out' : List ℕ) → length block ≡ length block' → length own ≡ length own'
      → (event ≡ 5 → cr_named own ≡ cr_named own') → (event ≡ 9 → msr_named own ≡ msr_named own')
      → (event ≡ PF → (kept_of event own ≡ kept_of event own') × (view_named own ≡ view_named own')) → length out ≡ length out'
      → Alike (enter vcpu block event own out) (enter vcpu block' event own' out')
  writes : (out out' : List ℕ) → length out ≡ length out' → Alike (write_image out) (write_image out')

-- what is the same after two runs of a call
pub record SameFor (c : Call) (r q : Told) : Type 0 where
  -- its answer: number, count of bytes written, signal
  pub answer : r.answer ≡ q.answer
  -- the session and every lent word
  pub state : r.state ≡ q.state
  -- what goes out, the guest's own bytes apart
  pub bytes : own_bytes c r ≡ own_bytes c q

-- lists of calls that agree so, call by call
pub data ButGuest : List Call → List Call → Type 0 where
  ended : ButGuest [] []
  more : {c d : Call} {cs ds : List Call} → Alike c d → ButGuest cs ds → ButGuest (c ∷ cs) (d ∷ ds)

-- each call's answer
unfoldable pub answers_of : State → List Call → List Paper
answers_of st [] = []
answers_of st (c ∷ cs) = (step_of st c).answer ∷ answers_of (step_of st c).state cs

-- each call's own bytes
unfoldable pub bytes_of : State → List Call → List (List ℕ)
bytes_of st [] = []
bytes_of st (c ∷ cs) = own_bytes c (step_of st c) ∷ bytes_of (step_of st c).state cs

-- ---- "the guest cannot steer the filter"
pub record Unsteered : Type 0 where
  -- two runs of a call
  pub call : (st : State) (c d : Call) → Alike c d → SameFor c (step_of st c) (step_of st d)
  -- over every list of calls: the same answers, the same session and words after it, and the same bytes out
  pub answers : (st : State) (cs ds : List Call) → ButGuest cs ds → answers_of st cs ≡ answers_of st ds
  pub state : (st : State) (cs ds : List Call) → ButGuest cs ds → after_of st cs ≡ after_of st ds
  pub bytes : (st : State) (cs ds : List Call) → ButGuest cs ds → bytes_of st cs ≡ bytes_of st ds
