-- Edges that a wrong reading would get wrong. An edge is a row as in `Case`, seen whole: its last call's answer, all of its output and guest memory,
-- the image of the tables after it, and what stands beside them. Here are rows and what they are made of; the rows themselves are in
-- `MessageEdges`, `SessionEdges`, `EventEdges`, `ImageEdges`, `ExecuteOnlyEdges`, `FaultEdges`, `PaddingEdges` and `RevisionEdges`; those of several messages in
-- one write, which have a form of their own, in `BatchEdges` and `FaultEdges`.
use Prim.Native.Nat.{ℕ, ◌-◌, ◌^◌}
use mathlib.Core.List.{List, [], ◌∷◌, ◌++◌}
use mathlib.Core.Bool.{Bool, true, false}
use mathlib.Core.Option.{Option, none, some}
use lib.ListN.{length, drop, replicate}
use Rattle.wire.specs.Bytes.{le}
use Rattle.kvmi.specs.declared.Settings.{Settings}
use Rattle.kvmi.specs.declared.ReplyMode.{ReplyMode}
use Rattle.kvmi.specs.declared.ReplyMode.TheVariants.{On}
use Rattle.kvmi.specs.declared.Signal.TheVariants.{Quiet}
use Rattle.kvmi.specs.Answer.{Paper, handled, plain, with_padding}
use Rattle.kvmi.specs.Feed.{no_fault}
use Rattle.kvmi.specs.declared.Awaited.{Awaited}
use Rattle.kvmi.specs.Model.{awaiting, Model}
use Rattle.kvmi.specs.Reply.{message_bytes}
use Rattle.kvmi.specs.Image.{image}
use Rattle.kvmi.specs.Call.{Call, message, ready}
use Rattle.kvmi.specs.Case.{Start, anew, End, unbegun, ended, end_of, two, out, page, send, vcpu_header, flag_data, register_data, reply, c0, c22, vc, fresh_image, ready_image}

-- ---- rows
pub record Beside : Type 0 where
  pub mode : ReplyMode
  pub seq : ℕ
  pub awaited : List (Option Awaited)
  pub closed : Bool

pub record Outcome : Type 0 where
  pub answer : Paper
  pub out : List ℕ
  pub guest : List ℕ
  pub image : List ℕ
  pub beside : Option Beside

pub record Edge : Type 0 where
  pub settings : Settings
  pub start : Start
  pub calls : List Call
  pub expected : Outcome

abbrev pub beside_of : Model → Beside
beside_of m = record { mode = m.mode; seq = m.seq; awaited = m.awaited; closed = m.closed }

-- no session, with the answer that says why
abbrev pub nothing : Paper → Outcome
nothing p = record { answer = p; out = []; guest = []; image = []; beside = none }

abbrev pub left : Paper → List ℕ → List ℕ → List ℕ → Beside → Outcome
left p out guest image beside = record { answer = p; out = out; guest = guest; image = image; beside = some beside }

abbrev pub outcome_at : End → Outcome
outcome_at (unbegun p) = nothing p
outcome_at (ended r) = left r.answer r.out r.guest (image r.model.tables) (beside_of r.model)

unfoldable pub outcome : Edge → Outcome
outcome e = outcome_at (end_of e.settings e.start e.calls)

-- ---- settings
-- those of `two` but for the counts, the commands and events allowed, and singlestep, descriptors and breakpoints
abbrev pub given : ℕ → ℕ → ℕ → ℕ → ℕ → ℕ → ℕ → Settings
given n views commands events step desc bp =
    record { vcpus = n; views = views; commands = commands; events = events; tsc = two.tsc; singlestep = step; vmfunc = two.vmfunc; eptp = two.eptp; ve = two.ve; spp = two.spp; descriptors = desc; breakpoints = bp; execute_only = two.execute_only; revision = two.revision }

-- with another TSC speed and other features beside singlestep: VMFUNC, EPTP, VE, SPP
abbrev pub featuring : ℕ → ℕ → ℕ → ℕ → ℕ → Settings → Settings
featuring tsc vmfunc eptp ve spp s =
    record { vcpus = s.vcpus; views = s.views; commands = s.commands; events = s.events; tsc = tsc; singlestep = s.singlestep; vmfunc = vmfunc; eptp = eptp; ve = ve; spp = spp; descriptors = s.descriptors; breakpoints = s.breakpoints; execute_only = s.execute_only; revision = s.revision }

-- with another execute-only flag, and without it
abbrev pub executing : ℕ → Settings → Settings
executing flag s =
    record { vcpus = s.vcpus; views = s.views; commands = s.commands; events = s.events; tsc = s.tsc; singlestep = s.singlestep; vmfunc = s.vmfunc; eptp = s.eptp; ve = s.ve; spp = s.spp; descriptors = s.descriptors; breakpoints = s.breakpoints; execute_only = flag; revision = s.revision }

abbrev pub lacking : Settings → Settings
lacking s = executing 0 s

-- with another revision
abbrev pub revised : ℕ → Settings → Settings
revised revision s =
    record { vcpus = s.vcpus; views = s.views; commands = s.commands; events = s.events; tsc = s.tsc; singlestep = s.singlestep; vmfunc = s.vmfunc; eptp = s.eptp; ve = s.ve; spp = s.spp; descriptors = s.descriptors; breakpoints = s.breakpoints; execute_only = s.execute_only; revision = revision }

-- the bit set of every command or event
abbrev pub everything : ℕ
everything = 0xFFFFFFFF

abbrev pub sized : ℕ → ℕ → Settings
sized n views = given n views everything everything 1 1 0

abbrev pub commanding : ℕ → Settings
commanding commands = given 2 1 commands everything 1 1 0

abbrev pub eventful : ℕ → Settings
eventful events = given 2 1 everything events 1 1 0

-- singlestep, descriptors, breakpoints
abbrev pub equipped : ℕ → ℕ → ℕ → Settings
equipped step desc bp = given 2 1 everything everything step desc bp

-- every event but one allowed
abbrev pub without : ℕ → Settings
without event = eventful (everything - 2 ^ event)

-- two vCPUs, one view, every command allowed, of the events 2, 9 and 13 alone, no feature, descriptor events not catchable, breakpoints taken,
-- no execute-only pages
abbrev pub few : Settings
few = lacking (featuring 0 0 0 0 0 (given 2 1 everything 0x2204 0 0 1))

-- three vCPUs, and numbers of which no two bytes are alike
abbrev pub odd : Settings
odd = executing 0xF8 (featuring 0x1122334455667788 0xF2 0xF3 0xF4 0xF5 (given 3 8 everything everything 0xF1 0xF6 0xF7))

-- ---- what is lent, data, and calls
abbrev pub lent : ℕ → List ℕ
lent n = replicate n 0xAA

abbrev pub registers : List ℕ
registers = 1 ∷ replicate 534 0x55 ++ (2 ∷ [])

-- messages 2 and 3
abbrev pub naming : ℕ → List ℕ
naming n = le 2 n ++ replicate 6 0

-- message 5, and message 10 behind its vCPU header
abbrev pub event_data : ℕ → ℕ → List ℕ
event_data event enable = le 2 event ++ (enable ∷ replicate 5 0)

abbrev pub mode_data : ℕ → ℕ → ℕ → List ℕ
mode_data enable now flags = enable ∷ now ∷ flags ∷ replicate 5 0

abbrev pub answer_data : ℕ → ℕ → ℕ → List ℕ
answer_data vcpu action event = vcpu_header vcpu ++ (action ∷ event ∷ replicate 6 0)

abbrev pub control_vm_event : ℕ → ℕ → Call
control_vm_event event enable = send 5 (event_data event enable)

abbrev pub control_event : ℕ → ℕ → ℕ → Call
control_event vcpu event enable = send 10 (vcpu_header vcpu ++ event_data event enable)

abbrev pub control_cr : ℕ → ℕ → ℕ → Call
control_cr vcpu cr enable = send 11 (register_data vcpu cr enable)

abbrev pub singlestep : ℕ → ℕ → Call
singlestep vcpu enable = send 14 (flag_data vcpu enable)

-- enable, now, flags
abbrev pub responses : ℕ → ℕ → ℕ → Call
responses enable now flags = send 15 (mode_data enable now flags)

-- a message with a seq of its own
abbrev pub send_as : ℕ → ℕ → List ℕ → Call
send_as seq id d = message (message_bytes id seq d) out page

-- seq, vCPU, action, event
abbrev pub event_reply : ℕ → ℕ → ℕ → ℕ → Call
event_reply seq vcpu action event = send_as seq 16 (answer_data vcpu action event)

abbrev pub to15 : List ℕ
to15 = 0 ∷ 1 ∷ 2 ∷ 3 ∷ 4 ∷ 5 ∷ 6 ∷ 7 ∷ 8 ∷ 9 ∷ 10 ∷ 11 ∷ 12 ∷ 13 ∷ 14 ∷ 15 ∷ []

-- ---- what is expected
-- the four bytes of the other codes: -1, -2, -11, -12, -95, -1000
abbrev pub c1 : List ℕ
c1 = 0xFF ∷ 0xFF ∷ 0xFF ∷ 0xFF ∷ []

abbrev pub c2 : List ℕ
c2 = 0xFE ∷ 0xFF ∷ 0xFF ∷ 0xFF ∷ []

abbrev pub c11 : List ℕ
c11 = 0xF5 ∷ 0xFF ∷ 0xFF ∷ 0xFF ∷ []

abbrev pub c12 : List ℕ
c12 = 0xF4 ∷ 0xFF ∷ 0xFF ∷ 0xFF ∷ []

abbrev pub c95 : List ℕ
c95 = 0xA1 ∷ 0xFF ∷ 0xFF ∷ 0xFF ∷ []

abbrev pub c1000 : List ℕ
c1000 = 0x18 ∷ 0xFC ∷ 0xFF ∷ 0xFF ∷ []

-- records of an image: VM by its count, or of two vCPUs by its event bits; VC of a vCPU with all off; MS; PA with view, page number and access
abbrev pub vm_of : ℕ → List ℕ
vm_of count = 0x56 ∷ 0x4D ∷ 1 ∷ 0 ∷ count ∷ 0 ∷ 0 ∷ 0 ∷ []

abbrev pub vm_has : ℕ → List ℕ
vm_has events = 0x56 ∷ 0x4D ∷ 1 ∷ 0 ∷ 2 ∷ 0 ∷ le 2 events

abbrev pub idle : ℕ → List ℕ
idle vcpu = vc vcpu 0 0 0 0

abbrev pub ms : ℕ → ℕ → List ℕ
ms vcpu msr = 0x4D ∷ 0x53 ∷ vcpu ∷ 0 ∷ le 4 msr

abbrev pub pa : ℕ → ℕ → ℕ → List ℕ
pa view n access = 0x50 ∷ 0x41 ∷ view ∷ 0 ∷ access ∷ 0 ∷ le 8 n

abbrev pub joined {ℓ} : {A : Type ℓ} → List (List A) → List A
joined [] = []
joined (l ∷ ls) = l ++ joined ls

-- the event bytes of a pause (552), with the event's seq, and of a command with seq 8 that failed (568), with the event's seq, code and id
abbrev pub pause_bytes : ℕ → ℕ → List ℕ
pause_bytes seq vcpu = 17 ∷ 0 ∷ 0x20 ∷ 2 ∷ le 4 seq ++ (0x20 ∷ 2 ∷ vcpu ∷ 0 ∷ 2 ∷ 0 ∷ 0 ∷ 0 ∷ registers)

abbrev pub fail_bytes : ℕ → List ℕ → ℕ → List ℕ
fail_bytes seq code id = 17 ∷ 0 ∷ 0x30 ∷ 2 ∷ le 4 seq ++ (0x20 ∷ 2 ∷ 0 ∷ 0 ∷ 13 ∷ 0 ∷ 0 ∷ 0 ∷ replicate 536 0) ++ code ++ (8 ∷ 0 ∷ 0 ∷ 0 ∷ id ∷ 0 ∷ 0 ∷ 0 ∷ 0 ∷ 0 ∷ 0 ∷ 0 ∷ [])

-- beside the tables of an open session: reply mode, next event seq, awaited events
abbrev pub beside : ReplyMode → ℕ → List (Option Awaited) → Beside
beside mode seq awaited = record { mode = mode; seq = seq; awaited = awaited; closed = false }

abbrev pub nobody : List (Option Awaited)
nobody = none ∷ none ∷ []

-- an event's reply, by event and seq; a pause event's
abbrev pub awaits_of : ℕ → ℕ → Option Awaited
awaits_of event seq = some (awaiting event seq no_fault)

abbrev pub awaits : ℕ → Option Awaited
awaits seq = awaits_of 2 seq

abbrev pub quiet : Beside
quiet = beside On 0 nobody

abbrev pub shut : Beside
shut = record { mode = On; seq = 0; awaited = nobody; closed = true }

-- bytes in a lent output: "output past the count is untouched"
abbrev pub over : List ℕ → List ℕ → List ℕ
over bytes lent = bytes ++ drop (length bytes) lent

-- of a message; of a call with an output and no guest memory
abbrev pub told : Paper → List ℕ → List ℕ → Beside → Outcome
told p bytes image b = left p (over bytes out) page image b

abbrev pub gave : Paper → List ℕ → List ℕ → List ℕ → Beside → Outcome
gave p bytes lent image b = left p (over bytes lent) [] image b

abbrev pub answered : ℕ → List ℕ → List ℕ → Outcome
answered id code image = told (handled 16 Quiet) (reply id code) image quiet

abbrev pub closing : Outcome
closing = told (plain 1) [] fresh_image shut

-- ---- rows by kind
abbrev pub started : Settings → Start → List Call → Outcome → Edge
started s start calls expected = record { settings = s; start = start; calls = calls; expected = expected }

-- begun and not called; begun fresh
abbrev pub begun : Settings → Start → Outcome → Edge
begun s start expected = started s start [] expected

abbrev pub afresh : Settings → List Call → Outcome → Edge
afresh s calls expected = started s anew calls expected

-- one message, by id and data, in the session of `two` with vCPU 0 ready: replied to with 0 and an image after it; with an error; closing
abbrev pub taken : ℕ → List ℕ → List ℕ → Edge
taken id d image = afresh two (ready 0 ∷ send id d ∷ []) (answered id c0 image)

abbrev pub fails : ℕ → List ℕ → List ℕ → Edge
fails id d code = afresh two (ready 0 ∷ send id d ∷ []) (answered id code ready_image)

-- with -22, and the message offset of its first padding byte that is not zero
abbrev pub reports : ℕ → List ℕ → ℕ → Edge
reports id d padding = afresh two (ready 0 ∷ send id d ∷ []) (told (with_padding padding (handled 16 Quiet)) (reply id c22) ready_image quiet)

abbrev pub closes : ℕ → List ℕ → Edge
closes id d = afresh two (ready 0 ∷ send id d ∷ []) closing

-- the same under other settings, and behind other calls
abbrev pub under : Settings → Edge → Edge
under s e = started s e.start e.calls e.expected

abbrev pub behind : List Call → Edge → Edge
behind cs e = started e.settings e.start (cs ++ e.calls) e.expected
