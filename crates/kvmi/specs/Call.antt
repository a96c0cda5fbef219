-- The host calls of demand 3's list on the model, each with its arguments: its answer, what it leaves in lent memory, and the model after it.
-- They read nothing but the model, the arguments and the settings.
use Rattle.std.specs.Prelude.{ℕ, ◌-◌, ◌≡◌, List, [], ◌∷◌, ◌++◌, Bool, true, false, cond, not, ◌&&◌, ◌||◌, ℤ, length, drop, leb, ltb, eqb, Some, None}
use Rattle.std.proofs.Math.Option.{Option, none, some}
use Rattle.wire.specs.Header.{HeaderRead, header_of}
use Rattle.kvmi.specs.declared.Settings.{Settings}
use Rattle.kvmi.specs.declared.Signal.{Signal}
use Rattle.kvmi.specs.declared.Signal.TheVariants.{Quiet}
use Rattle.kvmi.specs.declared.ReplyMode.{ReplyMode}
use Rattle.kvmi.specs.declared.Verdict.{Verdict}
use Rattle.kvmi.specs.declared.Verdict.TheVariants.{Closes, Fails, Does}
use Rattle.kvmi.specs.Limits.{least_out, event_out, state_bytes}
use Rattle.kvmi.specs.Answer.{Paper, handled, plain, plain_at, with_padding}
use Rattle.kvmi.specs.Settings.{in_range}
use Rattle.kvmi.specs.Tables.{Tables, vcpu_at, with_ready, with_pauses}
use Rattle.kvmi.specs.declared.Awaited.{Awaited}
use Rattle.kvmi.specs.Model.{awaiting, Model, begun, fresh, closed_model, with_seq, set_awaited, awaited_by, on_vcpu, next_seq, is_some}
use Rattle.kvmi.specs.Message.{layout_of, reply_kind, vcpu_of}
use Rattle.kvmi.specs.Event.{offer_fits, is_asked_for}
use Rattle.kvmi.specs.declared.Fault.{Fault}
use Rattle.kvmi.specs.Feed.{no_fault, kept_of}
use Rattle.kvmi.specs.Verdict.{verdict, facts_of, reported_padding}
use Rattle.kvmi.specs.Change.{apply, signal_of, mode_for}
use Rattle.kvmi.specs.Reply.{reply_data, event_bytes, pause_event, answer_of, answer_seq}
use Rattle.kvmi.specs.Image.{Loaded, loaded, bad_form, forbidden, image, load_image}

-- what a call gives and leaves: its answer, output, guest memory, and the model
pub record Step : Type 0 where
  pub answer : Paper
  pub out : List ℕ
  pub guest : List ℕ
  pub model : Model

-- "None": nothing in session, output or guest memory changes
abbrev pub unchanged : ℕ → Model → List ℕ → List ℕ → Step
unchanged k m out guest = record { answer = plain k; out = out; guest = guest; model = m }

-- answer 1: "0 bytes, session closes"; "Settings and guest memory are kept."
abbrev pub closing : Settings → List ℕ → List ℕ → Step
closing s out guest = record { answer = plain 1; out = out; guest = guest; model = closed_model s }

-- answer 0 (or 12, which is as 0) with bytes written; "output past the count is untouched"
abbrev pub writing : List ℕ → Signal → List ℕ → List ℕ → Model → Step
writing bytes g out guest m = record { answer = handled (length bytes) g; out = bytes ++ drop (length bytes) out; guest = guest; model = m }

-- W6: a step whose answer reports a padding byte; "Wire bytes stay", and so does all else
abbrev pub reporting : ℕ → Step → Step
reporting padding r = record { answer = with_padding padding r.answer; out = r.out; guest = r.guest; model = r.model }

-- ---- how a session begins
-- its answer and, unless it is refused, its model
pub record Begin : Type 0 where
  pub answer : Paper
  pub model : Option Model

-- answer 0, with no bytes
abbrev pub beginning : Model → Begin
beginning m = record { answer = handled 0 Quiet; model = some m }

-- "no session"
abbrev pub no_session : Paper → Begin
no_session p = record { answer = p; model = none }

-- answer 7: "a count out of its range", and W7's revision; "no session"
unfoldable pub begin_fresh : Settings → Begin
begin_fresh s = cond (in_range s) (beginning (fresh s)) (no_session (plain 7))

-- answers 8 and 9, with the offset; "first fresh, or fresh but for what the image states"
abbrev pub begin_loaded : Loaded → Begin
begin_loaded (loaded t) = beginning (begun t)
begin_loaded (bad_form off) = no_session (plain_at 8 off)
begin_loaded (forbidden off) = no_session (plain_at 9 off)

-- "image reader 7, then 8 or 9"; "Loaded sessions have replies on, seq 0."
unfoldable pub begin_from : Settings → List ℕ → Begin
begin_from s l = cond (in_range s) (begin_loaded (load_image s l)) (no_session (plain 7))

-- a session that began, and the model that it began with
pub data Began (s : Settings) : Model → Type 0 where
  anew : in_range s ≡ true → Began s (fresh s)
  from_image : (l : List ℕ) (t : Tables) → in_range s ≡ true → load_image s l ≡ loaded t → Began s (begun t)

-- ---- a message: "Orders: message 2, 3, then below"
-- a command with its data and its code, answered by a mode
unfoldable pub answering : Settings → ReplyMode → ℕ → ℕ → ℤ → List ℕ → Signal → List ℕ → List ℕ → Model → Step
answering s mode id seq code d g out guest m =
    writing (answer_of (reply_kind (layout_of id)) mode m.seq id seq code (reply_data s guest id d)) g out guest (with_seq m (answer_seq mode m.seq code))

-- an error follows the old mode; a change answers by the mode and with the signal that it decides
unfoldable pub judged : Settings → Model → ℕ → ℕ → List ℕ → List ℕ → List ℕ → Verdict → Step
judged s m id seq d out guest Closes = closing s out guest
judged s m id seq d out guest (Fails code) = answering s m.mode id seq code d Quiet out guest m
judged s m id seq d out guest (Does c) =
    answering s (mode_for m.mode c) id seq (apply s m guest d c).code d (signal_of c) out (apply s m guest d c).guest (apply s m guest d c).model

-- test 1: "Fewer than 8 bytes, or size unequal to the bytes that follow: closes."
-- The vCPU number is read from the data of every message and used only where the message names a vCPU.
unfoldable pub headed : Settings → Model → List ℕ → List ℕ → List ℕ → HeaderRead → Step
headed s m d out guest None = closing s out guest
headed s m d out guest (Some h) =
    reporting (reported_padding s m.mode h.id d) (judged s m h.id h.seq d out guest (verdict s (facts_of m (length guest) (vcpu_of d)) h.id h.seq d))

-- 2 closed; 3 short out, below 4,112; then the tests
unfoldable pub message_step : Settings → Model → List ℕ → List ℕ → List ℕ → Step
message_step s m msg out guest =
    cond m.closed (unchanged 2 m out guest)
    (cond (ltb (length out) least_out) (unchanged 3 m out guest)
    (headed s m (drop 8 msg) out guest (header_of msg)))

-- ---- a ready mark: "2, 4"
unfoldable pub ready_step : Settings → Model → ℕ → Step
ready_step s m vcpu =
    cond m.closed (unchanged 2 m [] [])
    (cond (leb s.vcpus vcpu) (unchanged 4 m [] [])
    (writing [] Quiet [] [] (on_vcpu m vcpu (λ v. with_ready v true))))

-- ---- "Entry of a vCPU into the guest": "2, 4, 5, 3, 6"
-- an event that was sent with the next seq. W1: "The awaited record now holds which event it is"; of W5's page fault what its reply asks for
abbrev pub awaiting_reply : Model → ℕ → ℕ → Fault → Model
awaiting_reply m vcpu event fault = with_seq (set_awaited m vcpu (some (awaiting event m.seq fault))) (next_seq m.seq)

-- the offered event goes out
unfoldable pub sending : Model → ℕ → List ℕ → ℕ → List ℕ → List ℕ → Step
sending m vcpu state event own out = writing (event_bytes m.seq vcpu event state own) Quiet out [] (awaiting_reply m vcpu event (kept_of event own))

-- "with a pause queued, writes the pause event (552 bytes), one pause less, reply awaited"
unfoldable pub pausing : Model → ℕ → List ℕ → List ℕ → Step
pausing m vcpu state out =
    writing (pause_event m.seq vcpu state) Quiet out []
    (awaiting_reply (on_vcpu m vcpu (λ v. with_pauses v (v.pauses - 1))) vcpu 2 no_fault)

-- "else 0 bytes"
unfoldable pub dequeuing : Model → ℕ → List ℕ → List ℕ → Step
dequeuing m vcpu state out = cond (leb 1 (vcpu_at m.tables vcpu).pauses) (pausing m vcpu state out) (writing [] Quiet out [] m)

-- W1: "Entry order: offered event, then pause."; "a switched-off event is passed over and a queued pause goes instead"
unfoldable pub entering : Model → ℕ → List ℕ → ℕ → List ℕ → List ℕ → Step
entering m vcpu state event own out =
    cond (is_asked_for m.tables vcpu event own) (sending m vcpu state event own out) (dequeuing m vcpu state out)

-- 2 closed; 4 bad vCPU; 5 bad state block, not 536 bytes, or an offer that does not fit; 3 short out, below 576; 6 waiting
unfoldable pub enter_step : Settings → Model → ℕ → List ℕ → ℕ → List ℕ → List ℕ → Step
enter_step s m vcpu state event own out =
    cond m.closed (unchanged 2 m out [])
    (cond (leb s.vcpus vcpu) (unchanged 4 m out [])
    (cond (not (eqb (length state) state_bytes && offer_fits event own)) (unchanged 5 m out [])
    (cond (ltb (length out) event_out) (unchanged 3 m out [])
    (cond (is_some (awaited_by m vcpu)) (unchanged 6 m out [])
    (entering m vcpu state event own out)))))

-- ---- image writing: "2, 10, 3"
abbrev pub awaits_any : List (Option Awaited) → Bool
awaits_any [] = false
awaits_any (a ∷ rest) = is_some a || awaits_any rest

-- 2 closed; 10 busy, "while any reply is awaited"; 3 short out, below the image's length
unfoldable pub image_step : Model → List ℕ → Step
image_step m out =
    cond m.closed (unchanged 2 m out [])
    (cond (awaits_any m.awaited) (unchanged 10 m out [])
    (cond (ltb (length out) (length (image m.tables))) (unchanged 3 m out [])
    (writing (image m.tables) Quiet out [] m)))

-- ---- a list of them, each on what the one before it left
pub data Call : Type 0 where
  -- message, output, guest memory
  message : List ℕ → List ℕ → List ℕ → Call
  -- vCPU
  ready : ℕ → Call
  -- vCPU, register block, offered event (0: none), its own bytes, output
  enter : ℕ → List ℕ → ℕ → List ℕ → List ℕ → Call
  -- output
  write_image : List ℕ → Call

-- "A call's arguments, the settings and these rules, read on the book and never on the session, move it"
unfoldable pub step : Settings → Model → Call → Step
step s m (message msg out guest) = message_step s m msg out guest
step s m (ready vcpu) = ready_step s m vcpu
step s m (enter vcpu state event own out) = enter_step s m vcpu state event own out
step s m (write_image out) = image_step m out

-- the model after a call
unfoldable pub move : Settings → Model → Call → Model
move s m c = (step s m c).model

-- and after a list of calls
unfoldable pub after : Settings → Model → List Call → Model
after s m [] = m
after s m (c ∷ cs) = after s (move s m c) cs
