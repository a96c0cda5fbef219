-- Edges of several messages in one write (W3). A row is one batch behind other calls, seen whole: its answer, all of its output, its list of signals and
-- guest memory, the image of the tables after it, and what stands beside them.
use Prim.Native.Nat.{ℕ, ◌+◌}
use mathlib.Core.List.{List, [], ◌∷◌, ◌++◌, map}
use mathlib.Core.Bool.{true}
use mathlib.Core.Option.{Option, none, some}
use lib.ListN.{take, drop, replicate}
use Rattle.kvmi.specs.declared.Settings.{Settings}
use Rattle.kvmi.specs.declared.ReplyMode.TheVariants.{On, Off, ErrorsOnly}
use Rattle.std.specs.Prelude as prelude
use Rattle.kvmi.specs.declared.Resumption.{Resumption}
use Rattle.kvmi.specs.Answer.{resumption, resume}
use Rattle.kvmi.specs.Tables.{with_ready, with_pauses}
use Rattle.kvmi.specs.declared.Awaited.{Awaited}
use Rattle.kvmi.specs.Model.{Model, fresh, closed_model, with_mode, with_seq, set_awaited, on_vcpu}
use Rattle.kvmi.specs.Reply.{message_bytes}
use Rattle.kvmi.specs.Image.{image}
use Rattle.kvmi.specs.Call.{Call, message, ready}
use Rattle.kvmi.specs.Feed.{unfed}
use Rattle.kvmi.specs.Batch.{Batch, batch_step, used_on}
use Rattle.kvmi.specs.Case.{Start, anew, from_bytes, standing, End, unbegun, ended, end_of, two, page, vcpu_header, physical, flag_data, register_data, reply, c0, c22, vm, vc, en, fresh_image, ready_image}
use Rattle.kvmi.proofs.Edge.{Beside, beside_of, sized, lent, naming, event_data, mode_data, answer_data, to15, c11, c1000, vm_of, idle, joined, fail_bytes, beside, nobody, awaits_of, quiet, shut, over}
use Rattle.kvmi.proofs.SessionEdges.{sent}
use Rattle.kvmi.proofs.EventEdges.{Event, rising, hypercall, breakpoint, cr3, efer, asking, offer, enters, reply_to, waits, both, sixteen}

-- ---- rows
-- what is seen of a session
pub record After : Type 0 where
  pub image : List ℕ
  pub beside : Beside

pub record BatchEdge : Type 0 where
  pub settings : Settings
  pub start : Start
  pub calls : List Call
  pub input : List ℕ
  pub out : List ℕ
  pub signals : List ℕ
  pub guest : List ℕ
  pub expected : Batch After

abbrev pub seen_batch : Batch Model → Batch After
seen_batch b =
    record {
      number = b.number;
      used = b.used;
      count = b.count;
      listed = b.listed;
      resume = b.resume;
      state = record { image = image b.state.tables; beside = beside_of b.state };
      out = b.out;
      signals = b.signals;
      guest = b.guest;
    }

abbrev pub batch_at : BatchEdge → End → Option (Batch After)
batch_at e (unbegun p) = none
batch_at e (ended r) = some (seen_batch (batch_step e.settings r.model e.input e.out e.signals e.guest))

unfoldable pub batch_outcome : BatchEdge → Option (Batch After)
batch_outcome e = batch_at e (end_of e.settings e.start e.calls)

-- the single calls that it stands for
abbrev pub used_after : BatchEdge → End → List Call
used_after e (unbegun p) = []
used_after e (ended r) = used_on e.settings r.model e.input e.out e.signals e.guest

unfoldable pub used_at : BatchEdge → List Call
used_at e = used_after e (end_of e.settings e.start e.calls)

-- ---- what is lent, and what is told
pub record Lends : Type 0 where
  pub out : List ℕ
  pub signals : List ℕ
  pub guest : List ℕ

-- bytes of output, places of the list; no guest memory, or one page
abbrev pub lends : ℕ → ℕ → Lends
lends n places = record { out = lent n; signals = rising 0xAAAAAA00 places; guest = [] }

abbrev pub lends_page : ℕ → ℕ → Lends
lends_page n places = record { out = lent n; signals = rising 0xAAAAAA00 places; guest = page }

pub record Says : Type 0 where
  pub number : ℕ
  pub used : ℕ
  pub count : ℕ
  pub listed : ℕ
  pub resume : prelude.Option Resumption

-- the answer's number, input bytes used, output bytes written, signals listed
abbrev pub did : ℕ → ℕ → ℕ → ℕ → Says
did number used count listed = record { number = number; used = used; count = count; listed = listed; resume = prelude.None }

-- with answer 0, ended by a resume: the same three counts
abbrev pub resumed : ℕ → ℕ → ℕ → Resumption → Says
resumed used count listed r = record { number = 0; used = used; count = count; listed = listed; resume = prelude.Some r }

-- ---- rows by kind
-- how it begins; input and what is lent; what is told, the bytes written and the signals listed, guest memory, image and what is beside
abbrev pub onto : Settings → Start → List Call → List ℕ → Lends → Says → List ℕ → List ℕ → List ℕ → List ℕ → Beside → BatchEdge
onto s start calls input l t bytes signals guest image b =
    record {
      settings = s;
      start = start;
      calls = calls;
      input = input;
      out = l.out;
      signals = l.signals;
      guest = l.guest;
      expected =
          record {
            number = t.number;
            used = t.used;
            count = t.count;
            listed = t.listed;
            resume = t.resume;
            state = record { image = image; beside = b };
            out = over bytes l.out;
            signals = over signals l.signals;
            guest = guest;
          };
    }

-- guest memory stays as it was; and of a session of `two` begun fresh
abbrev pub from : Settings → Start → List Call → List ℕ → Lends → Says → List ℕ → List ℕ → List ℕ → Beside → BatchEdge
from s start calls input l t bytes signals image b = onto s start calls input l t bytes signals l.guest image b

abbrev pub afresh : List Call → List ℕ → Lends → Says → List ℕ → List ℕ → List ℕ → Beside → BatchEdge
afresh calls input l t bytes signals image b = from two anew calls input l t bytes signals image b

-- ---- messages, with seq 8
abbrev pub msg : ℕ → List ℕ → List ℕ
msg id d = message_bytes id 8 d

-- GET_VERSION, 8 bytes, and its reply of 32
abbrev pub version : List ℕ
version = msg 1 []

abbrev pub version_bytes : List ℕ
version_bytes = 1 ∷ 0 ∷ 24 ∷ 0 ∷ 8 ∷ 0 ∷ 0 ∷ 0 ∷ c0 ++ c0 ++ (1 ∷ 0 ∷ 0 ∷ 0 ∷ 0 ∷ 0 ∷ 0 ∷ 0 ∷ 1 ∷ 1 ∷ 1 ∷ 1 ∷ 1 ∷ 0 ∷ 0 ∷ 0 ∷ [])

-- message 2, 16 bytes: it knows 5, and is refused 0
abbrev pub known : List ℕ
known = msg 2 (naming 5)

abbrev pub unknown : List ℕ
unknown = msg 2 (naming 0)

-- vCPU, wait: 24 bytes
abbrev pub pauses : ℕ → ℕ → List ℕ
pauses vcpu wait = msg 9 (flag_data vcpu wait)

-- CR3 of vCPU 0 on, 24 bytes
abbrev pub sets_cr3 : List ℕ
sets_cr3 = msg 11 (register_data 0 3 1)

-- enable, now, flags: 16 bytes
abbrev pub replies : ℕ → ℕ → ℕ → List ℕ
replies enable now flags = msg 15 (mode_data enable now flags)

-- a byte into guest memory, 25 bytes, and a byte of it read, 24 bytes, with its reply of 17
abbrev pub pokes : ℕ → List ℕ
pokes b = msg 7 (physical 0 1 ++ (b ∷ []))

abbrev pub peeks : List ℕ
peeks = msg 6 (physical 0 1)

abbrev pub peeked : ℕ → List ℕ
peeked b = 6 ∷ 0 ∷ 9 ∷ 0 ∷ 8 ∷ 0 ∷ 0 ∷ 0 ∷ c0 ++ c0 ++ (b ∷ [])

-- a page of it read, 24 bytes, with its reply of 4,112
abbrev pub reads_page : List ℕ
reads_page = msg 6 (physical 0 4096)

abbrev pub page_bytes : List ℕ
page_bytes = 6 ∷ 0 ∷ 0x08 ∷ 0x10 ∷ 8 ∷ 0 ∷ 0 ∷ 0 ∷ c0 ++ c0 ++ page

-- seq, vCPU and action of a reply to a pause event, 24 bytes; with seq 0, to an offered one, 24 or 32
abbrev pub answers_pause : ℕ → ℕ → ℕ → List ℕ
answers_pause seq vcpu action = message_bytes 16 seq (answer_data vcpu action 2)

abbrev pub answers : Event → ℕ → List ℕ
answers e action = message_bytes 16 0 (reply_to e 0 action)

-- GET_VERSION with a byte too many, 9 bytes: it closes
abbrev pub wrong : List ℕ
wrong = msg 1 (0 ∷ [])

-- three bytes of one
abbrev pub three : List ℕ
three = take 3 version

-- ---- a pause with wait 1 of vCPU 1, GET_VERSION, three bytes of one
-- vCPU 1 ready, with one pause
abbrev pub paused1 : List ℕ
paused1 = vm ++ idle 0 ++ vc 1 1 0 0 1 ++ en 3

abbrev pub pause_and_version : BatchEdge
pause_and_version = afresh (ready 1 ∷ []) (pauses 1 1 ++ version) (lends 4200 2) (did 0 32 48 1) (reply 9 c0 ++ version_bytes) (259 ∷ []) paused1 quiet

abbrev pub one_of_two : BatchEdge
one_of_two = afresh [] (version ++ version) (lends 4112 1) (did 0 8 32 0) version_bytes [] fresh_image quiet

abbrev pub cut_tail : BatchEdge
cut_tail = afresh [] (version ++ three) (lends 4200 1) (did 1 11 32 0) version_bytes [] fresh_image shut

abbrev pub example_edges : List BatchEdge
example_edges =
    afresh (ready 1 ∷ []) (pauses 1 1 ++ version) (lends 4200 1) (did 0 24 16 1) (reply 9 c0) (259 ∷ []) paused1 quiet
    ∷ pause_and_version
    ∷ one_of_two
    ∷ cut_tail
    ∷ afresh [] three (lends 4112 1) (did 1 3 0 0) [] [] fresh_image shut
    ∷ []

-- ---- refusals, and nothing to do
-- vCPU 0 has three pauses and awaits CR's reply; replies are off but for errors
abbrev pub busy : Start
busy = standing (with_seq (with_mode (set_awaited (on_vcpu (fresh two) 0 (λ v. with_pauses (with_ready v true) 3)) 0 (awaits_of 5 6)) ErrorsOnly) 7)

abbrev pub busy_image : List ℕ
busy_image = vm ++ vc 0 1 0 0 3 ++ idle 1 ++ en 3

abbrev pub on_busy : List ℕ → Lends → Says → BatchEdge
on_busy input l t = from two busy [] input l t [] [] busy_image (beside ErrorsOnly 7 (awaits_of 5 6 ∷ none ∷ []))

abbrev pub on_closed : List ℕ → Lends → BatchEdge
on_closed input l = from two (standing (closed_model two)) [] input l (did 2 0 0 0) [] [] fresh_image shut

-- 2, 3, 11: each alone, and before those behind it
abbrev pub refusals : List ℕ → List BatchEdge
refusals input =
    on_closed input (lends_page 4112 1)
    ∷ on_closed input (lends 4111 1)
    ∷ on_closed input (lends 4112 0)
    ∷ on_closed input (lends 0 0)
    ∷ on_busy input (lends_page 4111 1) (did 3 0 0 0)
    ∷ on_busy input (lends 4111 0) (did 3 0 0 0)
    ∷ on_busy input (lends 0 2) (did 3 0 0 0)
    ∷ on_busy input (lends_page 4112 0) (did 11 0 0 0)
    ∷ []

abbrev pub refusal_edges : List BatchEdge
refusal_edges =
    -- an empty input, a message, an incomplete one
    joined (map refusals ([] ∷ replies 1 1 0 ∷ three ∷ []))
    ++ (on_busy [] (lends_page 4112 1) (did 0 0 0 0)
    ∷ afresh [] [] (lends 4200 3) (did 0 0 0 0) [] [] fresh_image quiet
    ∷ [])

-- ---- the room before a message
abbrev pub room_edges : List BatchEdge
room_edges =
    -- 4,112 bytes and 4,111 before a second message, before one that writes nothing, before an incomplete one
    afresh [] (version ++ known) (lends 4144 1) (did 0 24 48 0) (version_bytes ++ reply 2 c0) [] fresh_image quiet
    ∷ afresh [] (version ++ known) (lends 4143 1) (did 0 8 32 0) version_bytes [] fresh_image quiet
    ∷ afresh [] (version ++ replies 0 1 0) (lends 4144 1) (did 0 24 32 0) version_bytes [] fresh_image (beside Off 0 nobody)
    ∷ afresh [] (version ++ replies 0 1 0) (lends 4143 1) (did 0 8 32 0) version_bytes [] fresh_image quiet
    ∷ afresh [] (version ++ three) (lends 4144 1) (did 1 11 32 0) version_bytes [] fresh_image shut
    ∷ afresh [] (version ++ three) (lends 4143 1) (did 0 8 32 0) version_bytes [] fresh_image quiet
    -- before a third: what all of them wrote counts
    ∷ afresh [] (version ++ known ++ version) (lends 4160 1) (did 0 32 80 0) (version_bytes ++ reply 2 c0 ++ version_bytes) [] fresh_image quiet
    ∷ afresh [] (version ++ known ++ version) (lends 4159 1) (did 0 24 48 0) (version_bytes ++ reply 2 c0) [] fresh_image quiet
    -- two that fill the output to its last byte; one that does
    ∷ afresh [] (reads_page ++ reads_page) (lends_page 8224 1) (did 0 48 8224 0) (page_bytes ++ page_bytes) [] fresh_image quiet
    ∷ afresh [] (reads_page ++ reads_page) (lends_page 8223 1) (did 0 24 4112 0) page_bytes [] fresh_image quiet
    -- one place and none before a message that signals nothing, and before an incomplete one
    ∷ afresh (ready 1 ∷ []) (pauses 1 1 ++ known) (lends 4200 2) (did 0 40 32 1) (reply 9 c0 ++ reply 2 c0) (259 ∷ []) paused1 quiet
    ∷ afresh (ready 1 ∷ []) (pauses 1 1 ++ known) (lends 4200 1) (did 0 24 16 1) (reply 9 c0) (259 ∷ []) paused1 quiet
    ∷ afresh (ready 1 ∷ []) (pauses 1 1 ++ three) (lends 4200 2) (did 1 27 16 1) (reply 9 c0) (259 ∷ []) fresh_image shut
    ∷ afresh (ready 1 ∷ []) (pauses 1 1 ++ three) (lends 4200 1) (did 0 24 16 1) (reply 9 c0) (259 ∷ []) paused1 quiet
    -- the second place is the last
    ∷ afresh (ready 1 ∷ []) (pauses 1 0 ++ pauses 1 1 ++ pauses 1 0) (lends 4200 2) (did 0 48 32 2) (reply 9 c0 ++ reply 9 c0) (258 ∷ 259 ∷ []) (vm ++ idle 0 ++ vc 1 1 0 0 2 ++ en 3) quiet
    ∷ []

-- ---- signals
-- of sixteen vCPUs the first and the last are ready, with pauses
abbrev pub ends : ℕ → ℕ → List ℕ
ends p q = vm_of 16 ++ vc 0 1 0 0 p ++ joined (map idle (take 14 (drop 1 to15))) ++ vc 15 1 0 0 q ++ en 17

abbrev pub waits_none : ℕ → Beside
waits_none seq = beside On seq (replicate 16 none)

abbrev pub signal_edges : List BatchEdge
signal_edges =
    -- kicks of the first and the last vCPU, without wait and with it, in their order; the list past them
    from (sized 16 1) (from_bytes (ends 0 0)) [] (pauses 0 0 ++ pauses 0 1 ++ pauses 15 0 ++ pauses 15 1) (lends 4200 6)
    (did 0 96 64 4) (joined (replicate 4 (reply 9 c0))) (256 ∷ 257 ∷ 286 ∷ 287 ∷ []) (ends 2 2) (waits_none 0)
    ∷ from (sized 16 1) (from_bytes (ends 0 0)) [] (pauses 15 1 ++ pauses 0 0) (lends 4200 2) (did 0 48 32 2) (reply 9 c0 ++ reply 9 c0) (287 ∷ 256 ∷ []) (ends 1 1) (waits_none 0)
    -- crashes, which do not end it, and a kick between them
    ∷ from (sized 16 1) (from_bytes (ends 1 1)) (enters 0 ∷ enters 15 ∷ []) (answers_pause 1 15 2 ++ pauses 0 1 ++ answers_pause 0 0 2 ++ version) (lends 4200 4)
    (did 0 80 48 3) (reply 9 c0 ++ version_bytes) (527 ∷ 257 ∷ 512 ∷ []) (ends 1 0) (waits_none 2)
    -- no place for a pause's continue, for a pause that is refused; one for a kick with replies off
    ∷ afresh sent (answers_pause 0 0 0 ++ version) (lends 4112 1) (did 0 32 32 0) version_bytes [] ready_image (beside On 1 nobody)
    ∷ afresh (ready 0 ∷ []) (pauses 1 1 ++ version) (lends 4200 1) (did 0 32 48 0) (reply 9 c11 ++ version_bytes) [] ready_image quiet
    ∷ afresh (ready 1 ∷ []) (replies 0 1 0 ++ pauses 1 0) (lends 4112 2) (did 0 40 0 1) [] (258 ∷ []) paused1 (beside Off 0 nobody)
    ∷ []

-- ---- resumes
-- an event was sent to vCPU 0 with seq 0
abbrev pub sent_event : Event → List ℕ → Lends → Says → List ℕ → List ℕ → List ℕ → Beside → BatchEdge
sent_event e input l t bytes signals image b = from two (from_bytes (asking e 0)) (offer 0 e (lent 576) ∷ []) input l t bytes signals image b

-- events were sent to both vCPUs, with seqs 0 and 1
abbrev pub sent_both : List ℕ → Lends → Says → List ℕ → List (Option Awaited) → BatchEdge
sent_both input l t signals awaited = from two (from_bytes both) (offer 0 cr3 (lent 576) ∷ offer 1 efer (lent 576) ∷ []) input l t [] signals both (beside On 2 awaited)

abbrev pub resumes_cr3 : Resumption
resumes_cr3 = resumption 0 0 0x1122334455667788 unfed

abbrev pub kick_and_resume : BatchEdge
kick_and_resume =
    sent_event cr3 (version ++ pauses 0 1 ++ answers cr3 0 ++ version) (lends 4200 2) (resumed 64 48 1 resumes_cr3) (version_bytes ++ reply 9 c0) (257 ∷ []) (asking cr3 1) (beside On 1 nobody)

abbrev pub resume_edges : List BatchEdge
resume_edges =
    -- the first message, in the middle, the last; what is behind it is unused, an incomplete message too; it takes no place
    sent_event cr3 (answers cr3 0 ++ version ++ version) (lends 4112 1) (resumed 32 0 0 resumes_cr3) [] [] (asking cr3 0) (beside On 1 nobody)
    ∷ kick_and_resume
    ∷ sent_event cr3 (version ++ answers cr3 0) (lends 4200 1) (resumed 40 32 0 resumes_cr3) version_bytes [] (asking cr3 0) (beside On 1 nobody)
    ∷ sent_event cr3 (answers cr3 0 ++ three) (lends 4112 1) (resumed 32 0 0 resumes_cr3) [] [] (asking cr3 0) (beside On 1 nobody)
    -- with no place left it is not taken
    ∷ sent_event cr3 (pauses 0 1 ++ answers cr3 0) (lends 4200 1) (did 0 24 16 1) (reply 9 c0) (257 ∷ []) (asking cr3 1) (beside On 1 (waits 0 cr3))
    -- a retry; of the last vCPU
    ∷ sent_event breakpoint (answers breakpoint 1 ++ version) (lends 4112 1) (resumed 24 0 0 (resumption 0 1 0 unfed)) [] [] (asking breakpoint 0) (beside On 1 nobody)
    ∷ from (sized 16 1) (from_bytes sixteen) (offer 15 hypercall (lent 576) ∷ []) (message_bytes 16 0 (reply_to hypercall 15 0) ++ version) (lends 4112 1) (resumed 24 0 0 (resumption 15 0 0 unfed)) [] [] sixteen (waits_none 1)
    -- of two the first; a crash before it, which goes on
    ∷ sent_both (answers cr3 0 ++ message_bytes 16 1 (reply_to efer 1 0)) (lends 4112 1) (resumed 32 0 0 resumes_cr3) [] (none ∷ awaits_of 9 1 ∷ [])
    ∷ sent_both (answers cr3 2 ++ message_bytes 16 1 (reply_to efer 1 0)) (lends 4112 2) (resumed 64 0 1 (resumption 1 0 0x8807060504030201 unfed)) (512 ∷ []) nobody
    -- it is not handed back a second time
    ∷ from two (from_bytes (asking cr3 0)) (offer 0 cr3 (lent 576) ∷ message (answers cr3 0) (lent 4112) [] ∷ []) version (lends 4112 1) (did 0 8 32 0) version_bytes [] (asking cr3 0) (beside On 1 nobody)
    ∷ []

-- ---- closing messages
abbrev pub closed_behind : BatchEdge
closed_behind = onto two anew (ready 0 ∷ []) (pokes 5 ++ pauses 0 1 ++ wrong ++ version) (lends_page 4200 2) (did 1 58 32 1) (reply 7 c0 ++ reply 9 c0) (257 ∷ []) (5 ∷ drop 1 page) fresh_image shut

abbrev pub closing_edges : List BatchEdge
closing_edges =
    -- in the middle: what was written, listed and stored before it stays; the first; the second of two is unused
    closed_behind
    ∷ from two busy [] (wrong ++ replies 1 1 0) (lends 4112 1) (did 1 9 0 0) [] [] fresh_image shut
    ∷ afresh [] (wrong ++ wrong) (lends 4112 1) (did 1 9 0 0) [] [] fresh_image shut
    -- by the other tests: a reply that nobody awaits, behind the same one awaited; GET_VERSION with replies off
    ∷ sent_event cr3 (answers cr3 2 ++ answers cr3 2 ++ version) (lends 4112 2) (did 1 64 0 1) [] (512 ∷ []) fresh_image shut
    ∷ afresh [] (replies 0 1 0 ++ version ++ version) (lends 4112 1) (did 1 24 0 0) [] [] fresh_image shut
    -- an incomplete one behind another: of 1, 4 and 7 bytes; a size of 8 bytes with none and with 7, of 1 with none, of 65,535 with 8
    ∷ map (λ n. afresh (ready 0 ∷ []) (version ++ take n known) (lends 4200 1) (did 1 (8 + n) 32 0) version_bytes [] fresh_image shut) (1 ∷ 4 ∷ 7 ∷ 8 ∷ 15 ∷ [])
    ++ (afresh [] (version ++ (1 ∷ 0 ∷ 1 ∷ 0 ∷ 8 ∷ 0 ∷ 0 ∷ 0 ∷ [])) (lends 4200 1) (did 1 16 32 0) version_bytes [] fresh_image shut
    ∷ afresh [] (version ++ (1 ∷ 0 ∷ 0xFF ∷ 0xFF ∷ 8 ∷ 0 ∷ 0 ∷ 0 ∷ version)) (lends 4200 1) (did 1 24 32 0) version_bytes [] fresh_image shut
    ∷ [])
    -- alone
    ++ map (λ n. from two busy [] (take n known) (lends 4112 1) (did 1 n 0 0) [] [] fresh_image shut) (1 ∷ 7 ∷ 15 ∷ [])
    -- a whole one of 256 data bytes, and of 65,535: it is answered, and the next begins behind it; with a byte missing it closes
    ++ (afresh [] (msg 17 (replicate 256 0) ++ version) (lends 4200 1) (did 0 272 48 0) (reply 17 c1000 ++ version_bytes) [] fresh_image quiet
    ∷ afresh [] (msg 17 (replicate 65535 0) ++ version) (lends 4200 1) (did 0 65551 48 0) (reply 17 c1000 ++ version_bytes) [] fresh_image quiet
    ∷ afresh [] (take 65542 (msg 17 (replicate 65535 0))) (lends 4112 1) (did 1 65542 0 0) [] [] fresh_image shut
    ∷ [])

-- ---- each on what the one before it left
-- vCPU 0 ready, its CR3 switch on; and event 4
abbrev pub cr3_on : List ℕ
cr3_on = vm ++ vc 0 1 2 0 0 ++ idle 1 ++ en 3

abbrev pub both_on : List ℕ
both_on = vm ++ vc 0 1 2 0x10 0 ++ idle 1 ++ en 3

abbrev pub poke_and_peek : BatchEdge
poke_and_peek = onto two anew [] (peeks ++ pokes 5 ++ peeks ++ pokes 6) (lends_page 4200 1) (did 0 98 66 0) (peeked 0 ++ reply 7 c0 ++ peeked 5 ++ reply 7 c0) [] (6 ∷ drop 1 page) fresh_image quiet

abbrev pub state_edges : List BatchEdge
state_edges =
    -- replies off, switches set, an error in silence, replies on: with now 1 and with now 0
    afresh (ready 0 ∷ []) (replies 0 1 0 ++ msg 10 (vcpu_header 0 ++ event_data 4 1) ++ sets_cr3 ++ unknown ++ replies 1 1 0) (lends 4112 1) (did 0 96 16 0) (reply 15 c0) [] both_on quiet
    ∷ afresh (ready 0 ∷ []) (replies 0 0 0 ++ sets_cr3 ++ replies 1 0 0 ++ version) (lends 4200 1) (did 0 64 48 0) (reply 15 c0 ++ version_bytes) [] cr3_on quiet
    -- errors alone, each by an event with the next seq
    ∷ afresh (ready 0 ∷ []) (replies 0 1 1 ++ unknown ++ sets_cr3 ++ unknown ++ replies 1 1 0) (lends 5264 1) (did 0 88 1152 0) (fail_bytes 0 c22 2 ++ fail_bytes 1 c22 2 ++ reply 15 c0) [] cr3_on (beside On 2 nobody)
    -- behind an event 4,112 bytes are left, and 4,111
    ∷ afresh [] (replies 0 1 1 ++ unknown ++ replies 1 1 0) (lends 4680 1) (did 0 48 584 0) (fail_bytes 0 c22 2 ++ reply 15 c0) [] fresh_image (beside On 1 nobody)
    ∷ afresh [] (replies 0 1 1 ++ unknown ++ replies 1 1 0) (lends 4679 1) (did 0 32 568 0) (fail_bytes 0 c22 2) [] fresh_image (beside ErrorsOnly 1 nobody)
    -- guest memory written and read
    ∷ poke_and_peek
    -- errors do not end it; each reply has its command's seq
    ∷ afresh (ready 0 ∷ []) (unknown ++ msg 17 [] ++ pauses 1 1 ++ sets_cr3) (lends 4200 1) (did 0 72 64 0) (reply 2 c22 ++ reply 17 c1000 ++ reply 9 c11 ++ reply 11 c0) [] cr3_on quiet
    ∷ afresh [] (message_bytes 2 0x04030201 (naming 5) ++ message_bytes 2 0x08070605 (naming 5)) (lends 4200 1) (did 0 32 32 0)
    (2 ∷ 0 ∷ 8 ∷ 0 ∷ 1 ∷ 2 ∷ 3 ∷ 4 ∷ c0 ++ c0 ++ (2 ∷ 0 ∷ 8 ∷ 0 ∷ 5 ∷ 6 ∷ 7 ∷ 8 ∷ c0 ++ c0)) [] fresh_image quiet
    ∷ []

abbrev pub of_batches : List BatchEdge
of_batches = example_edges ++ refusal_edges ++ room_edges ++ signal_edges ++ resume_edges ++ closing_edges ++ state_edges

-- ---- "a batch stands in demand 3's list as these messages": each with the output that is left for it and the guest memory that it finds
abbrev pub batch_calls : List (List Call)
batch_calls =
    map used_at
    (pause_and_version ∷ cut_tail ∷ kick_and_resume ∷ closed_behind ∷ poke_and_peek ∷ one_of_two
    -- refused; empty
    ∷ on_busy three (lends 4112 0) (did 11 0 0 0)
    ∷ on_busy [] (lends 4112 1) (did 0 0 0 0)
    ∷ [])

abbrev pub batch_calls_seen : List (List Call)
batch_calls_seen =
    (message (pauses 1 1) (lent 4200) [] ∷ message version (lent 4184) [] ∷ [])
    ∷ (message version (lent 4200) [] ∷ message three (lent 4168) [] ∷ [])
    ∷ (message version (lent 4200) [] ∷ message (pauses 0 1) (lent 4168) [] ∷ message (answers cr3 0) (lent 4152) [] ∷ [])
    ∷ (message (pokes 5) (lent 4200) page ∷ message (pauses 0 1) (lent 4184) (5 ∷ drop 1 page) ∷ message wrong (lent 4168) (5 ∷ drop 1 page) ∷ [])
    ∷ (message peeks (lent 4200) page ∷ message (pokes 5) (lent 4183) page ∷ message peeks (lent 4167) (5 ∷ drop 1 page) ∷ message (pokes 6) (lent 4150) (5 ∷ drop 1 page) ∷ [])
    ∷ (message version (lent 4112) [] ∷ [])
    ∷ []
    ∷ []
    ∷ []
