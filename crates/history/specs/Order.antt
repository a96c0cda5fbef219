-- "W12. Order between vCPUs": "with replies on, two commands of ids 8 to 12 or 14 naming different vCPUs, neither of which closes the session, give the
-- same two answers and the same session in either order, from any open session." Said of any session whatever, well formed or not; each command has an
-- output and guest memory of its own. Whole lists of such commands are in Workers.
use Rattle.std.specs.Prelude.{◌≡◌, ◌≢◌, ℕ, ◌<◌, List, [], ◌∷◌, ◌++◌, Bool, true, false, drop, replicate}
use Rattle.std.proofs.Math.Bool.{So}
use Rattle.kvmi.specs.declared.Settings.{Settings}
use Rattle.kvmi.specs.declared.ReplyMode.{ReplyMode}
use Rattle.kvmi.specs.Bits.{among}
use Rattle.kvmi.specs.Answer.{Paper}
use Rattle.kvmi.specs.Model.{Model}
use Rattle.kvmi.specs.Mode.{mode_of_number}
use Rattle.kvmi.specs.Message.{vcpu_of}
use Rattle.kvmi.specs.Verdict.{replies_on}
use Rattle.kvmi.specs.Reply.{message_bytes}
use Rattle.kvmi.specs.Call.{Call, message, Step, Began, message_step, after}
use Rattle.kvmi.specs.Case.{two, flag_data}
use Rattle.store.specs.Words.{vcpu_word_count, block_words, field, set_field, PAUSES}
use Rattle.page_words.specs.PageWords.{page_word_count}
use Rattle.session.specs.State.{State, state, fresh_session, with_ready_bits, with_vcpu_words, is_closed}
use Rattle.session.specs.Calls.{Told}
use Rattle.message.specs.Message.{message_of}
use Rattle.calls.specs.Given.{Given, message_given}
use Rattle.refine.specs.Errors.{HasId}
use Rattle.history.specs.History.{after_of}

-- ---- a command
-- a message, with the output and the guest memory that it is lent
pub record Lent : Type 0 where
  pub msg : List ℕ
  pub out : List ℕ
  pub guest : List ℕ

-- as a call in a list of calls
abbrev pub call_of : Lent → Call
call_of c = message c.msg c.out c.guest

-- "commands of ids 8 to 12 or 14"
abbrev pub vcpu_commands : List ℕ
vcpu_commands = 8 ∷ 9 ∷ 10 ∷ 11 ∷ 12 ∷ 14 ∷ []

abbrev pub IsVcpuCommand : Lent → Type 0
IsVcpuCommand c = (id : ℕ) × HasId c.msg id × So (among id vcpu_commands)

-- the vCPU that it names
abbrev pub vcpu_in : Lent → ℕ
vcpu_in c = vcpu_of (drop 8 c.msg)

-- ---- what it gives, and the session that it leaves
-- its answer (number, count, signal, offset, padding byte), and every byte of its output and guest memory
pub record Answered : Type 0 where
  pub answer : Paper
  pub out : List ℕ
  pub guest : List ℕ

-- on the lent words
abbrev pub taken : State → Lent → Told
taken st c = message_of st c.msg c.out c.guest

abbrev pub on_words : State → Lent → Answered × State
on_words st c = (record { answer = (taken st c).answer; out = (taken st c).out; guest = (taken st c).guest }, (taken st c).state)

-- on the model
abbrev pub taken_by : Settings → Model → Lent → Step
taken_by s m c = message_step s m c.msg c.out c.guest

abbrev pub on_model : Settings → Model → Lent → Answered × Model
on_model s m c = (record { answer = (taken_by s m c).answer; out = (taken_by s m c).out; guest = (taken_by s m c).guest }, (taken_by s m c).model)

-- by the exported call: its number, the words of its result, output and guest memory; and the session and the words in the host's memory
pub record HostAnswer : Type 0 where
  pub code : ℕ
  pub result : List ℕ
  pub out : List ℕ
  pub guest : List ℕ

abbrev pub exported : State → Lent → Given
exported st c = message_given st.session st.vcpus st.pages c.msg c.out c.guest

abbrev pub by_host : State → Lent → HostAnswer × State
by_host st c = (
  record { code = (exported st c).done.code; result = (exported st c).result; out = (exported st c).out; guest = (exported st c).guest },
  state (exported st c).done.session (exported st c).vcpus (exported st c).pages,
)

-- ---- two commands
-- what the request asks of them, of a session's closed mark and reply mode, and of the number with which it answers a command
pub record Pair (closed : Bool) (mode : ReplyMode) (number : Lent → ℕ) (a b : Lent) : Type 0 where
  -- "from any open session", "with replies on"
  pub opened : closed ≡ false
  pub replies : replies_on mode ≡ true
  -- "two commands of ids 8 to 12 or 14 naming different vCPUs"
  pub first : IsVcpuCommand a
  pub second : IsVcpuCommand b
  pub different : vcpu_in a ≢ vcpu_in b
  -- "neither of which closes the session": as it stands, before either
  pub first_stays : number a ≢ 1
  pub second_stays : number b ≢ 1

abbrev pub PairOn : State → Lent → Lent → Type 0
PairOn st = Pair (is_closed st) (mode_of_number st.session.tool.mode) (λ c. (taken st c).answer.number)

abbrev pub PairBy : Settings → Model → Lent → Lent → Type 0
PairBy s m = Pair m.closed m.mode (λ c. (taken_by s m c).answer.number)

-- "give the same two answers and the same session in either order": a gives behind b what it gives before b, and b likewise
pub record EitherOrder {S G : Type 0} (take : S → Lent → G × S) (s : S) (a b : Lent) : Type 0 where
  pub first : (take (take s b).1 a).0 ≡ (take s a).0
  pub second : (take (take s a).1 b).0 ≡ (take s b).0
  pub session : (take (take s a).1 b).1 ≡ (take (take s b).1 a).1

-- ---- the words that a command reads
-- a vCPU's block is the same in two lists of words
abbrev pub SameBlock : ℕ → List ℕ → List ℕ → Type 0
SameBlock vcpu w x = (k : ℕ) → k < block_words → field w vcpu k ≡ field x vcpu k

-- ---- an example: seven pauses are queued for each of two vCPUs, and one more comes for each
abbrev pub seven_queued : State
seven_queued =
    state (with_ready_bits (fresh_session two) 3) (set_field (set_field (replicate vcpu_word_count 0) 0 PAUSES 7) 1 PAUSES 7) (replicate page_word_count 0)

abbrev pub pause_of : ℕ → ℕ → Lent
pause_of vcpu seq = record { msg = message_bytes 9 seq (flag_data vcpu 0); out = replicate 4112 0xAA; guest = [] }

abbrev pub one_pause : Lent
one_pause = pause_of 0 1

abbrev pub other_pause : Lent
other_pause = pause_of 1 2

-- ---- W12
pub record Order : Type 0 where
  -- on the lent words, whatever bits they hold
  pub words : (st : State) (a b : Lent) → PairOn st a b → EitherOrder on_words st a b
  -- as a host gets it
  pub hosts : (st : State) (a b : Lent) → PairOn st a b → EitherOrder by_host st a b
  -- on the model of every session that began, after every list of calls
  pub models : (s : Settings) (m : Model) → Began s m → (cs : List Call) (a b : Lent) → PairBy s (after s m cs) a b
      → EitherOrder (on_model s) (after s m cs) a b
  -- inside any list of calls: those behind the two find the same session
  pub lists : (st : State) (before : List Call) (a b : Lent) → PairOn (after_of st before) a b → (behind : List Call)
      → after_of st (before ++ call_of a ∷ call_of b ∷ behind) ≡ after_of st (before ++ call_of b ∷ call_of a ∷ behind)
  -- guest memory is as it was
  pub memory : (st : State) (a b : Lent) → PairOn st a b → ((on_words st a).0.guest ≡ a.guest) × ((on_words st b).0.guest ≡ b.guest)
  -- why: of the words a command reads its vCPU's block alone
  pub own : (st : State) (a b : Lent) → PairOn st a b → (w : List ℕ) → SameBlock (vcpu_in a) w st.vcpus
      → (on_words (with_vcpu_words st w) a).0 ≡ (on_words st a).0
  -- the example: what the request asks is met, and either order gives the same
  pub conditions : PairOn seven_queued one_pause other_pause
  pub pauses : EitherOrder on_words seven_queued one_pause other_pause
  -- "naming different vCPUs" is needed: of two pauses of one vCPU the first is taken, whichever it is, and the second is the ninth
  pub on_one_vcpu : EitherOrder on_words seven_queued one_pause (pause_of 0 2) → ⊥
