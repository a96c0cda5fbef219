-- Document 01's cases P1 to P12. A case is a row: settings, how the session begins, calls, and what the last of them gives (the beginning, where
-- there are none): answer, bytes written, and the image of the tables after it. Further rows, seen whole, are in proofs/ (`MessageEdges`,
-- `SessionEdges`, `ImageEdges`, `EventEdges`, `ExecuteOnlyEdges`, `BatchEdges`, `FaultEdges`, `PaddingEdges`).
use Rattle.std.specs.Prelude.{ℕ, List, [], ◌∷◌, ◌++◌, true, take, replicate}
use Rattle.std.proofs.Math.Option.{Option, none, some}
use Rattle.wire.specs.Bytes.{le}
use Rattle.kvmi.specs.declared.Settings.{Settings}
use Rattle.kvmi.specs.declared.Signal.TheVariants.{Quiet, Kick}
use Rattle.kvmi.specs.Answer.{Paper, handled, plain}
use Rattle.kvmi.specs.Model.{Model}
use Rattle.kvmi.specs.Reply.{message_bytes}
use Rattle.kvmi.specs.Image.{image}
use Rattle.kvmi.specs.Call.{Step, Begin, beginning, begin_fresh, begin_from, Call, message, ready, write_image, step}

-- ---- rows
pub data Start : Type 0 where
  anew : Start
  from_bytes : List ℕ → Start
  -- as a session that stands so
  standing : Model → Start

abbrev pub begin : Settings → Start → Begin
begin s anew = begin_fresh s
begin s (from_bytes l) = begin_from s l
begin s (standing m) = beginning m

-- how a row ends: without a session, or with what its last call gives and leaves
pub data End : Type 0 where
  unbegun : Paper → End
  ended : Step → End

abbrev pub last_step : Settings → Step → List Call → Step
last_step s r [] = r
last_step s r (c ∷ cs) = last_step s (step s r.model c) cs

abbrev pub end_from : Settings → Paper → Option Model → List Call → End
end_from s p none cs = unbegun p
end_from s p (some m) cs = ended (last_step s (record { answer = p; out = []; guest = []; model = m }) cs)

abbrev pub end_of : Settings → Start → List Call → End
end_of s b cs = end_from s (begin s b).answer (begin s b).model cs

pub record Seen : Type 0 where
  pub answer : Paper
  pub bytes : List ℕ
  pub image : List ℕ

pub record Case : Type 0 where
  pub settings : Settings
  pub start : Start
  pub calls : List Call
  pub expected : Seen

abbrev pub seen_at : End → Seen
seen_at (unbegun p) = record { answer = p; bytes = []; image = [] }
seen_at (ended r) = record { answer = r.answer; bytes = take r.answer.count r.out; image = image r.model.tables }

unfoldable pub seen : Case → Seen
seen c = seen_at (end_of c.settings c.start c.calls)

-- ---- settings
-- two vCPUs, one view, all allowed, all five features, descriptor events catchable, breakpoints free, execute-only pages, revision 1
abbrev pub two : Settings
two =
    record {
      vcpus = 2;
      views = 1;
      commands = 0xFFFFFFFF;
      events = 0xFFFFFFFF;
      tsc = 0;
      singlestep = 1;
      vmfunc = 1;
      eptp = 1;
      ve = 1;
      spp = 1;
      descriptors = 1;
      breakpoints = 0;
      execute_only = 1;
      revision = 1;
    }

-- ---- what is lent, and calls
abbrev pub out : List ℕ
out = replicate 4112 0xAA

-- one page of guest memory
abbrev pub page : List ℕ
page = replicate 4095 0 ++ (0xAB ∷ [])

-- a command with seq 8
abbrev pub send : ℕ → List ℕ → Call
send id d = message (message_bytes id 8 d) out page

abbrev pub vcpu_header : ℕ → List ℕ
vcpu_header vcpu = le 2 vcpu ++ replicate 6 0

-- messages 6 and 7
abbrev pub physical : ℕ → ℕ → List ℕ
physical gpa size = le 8 gpa ++ le 8 size

-- messages 9 (wait) and 14 (enable)
abbrev pub flag_data : ℕ → ℕ → List ℕ
flag_data vcpu flag = vcpu_header vcpu ++ (flag ∷ replicate 7 0)

-- messages 11 and 12
abbrev pub register_data : ℕ → ℕ → ℕ → List ℕ
register_data vcpu register enable = vcpu_header vcpu ++ (enable ∷ 0 ∷ 0 ∷ 0 ∷ []) ++ le 4 register

-- message 13
abbrev pub entry : ℕ → ℕ → List ℕ
entry gpa access = le 8 gpa ++ (access ∷ replicate 7 0)

abbrev pub access_data : ℕ → ℕ → List ℕ → List ℕ
access_data count view entries = le 2 count ++ le 2 view ++ le 4 0 ++ entries

-- with wait 1
abbrev pub pause : ℕ → Call
pause vcpu = send 9 (flag_data vcpu 1)

abbrev pub control_msr : ℕ → ℕ → ℕ → Call
control_msr vcpu msr enable = send 12 (register_data vcpu msr enable)

abbrev pub set_access : ℕ → ℕ → List ℕ → Call
set_access count view entries = send 13 (access_data count view entries)

-- ---- what is expected
-- the 16 bytes of an error or 0 in reply to a command with seq 8, by the code's four bytes
abbrev pub reply : ℕ → List ℕ → List ℕ
reply id code = id ∷ 0 ∷ 8 ∷ 0 ∷ 8 ∷ 0 ∷ 0 ∷ 0 ∷ code ++ (0 ∷ 0 ∷ 0 ∷ 0 ∷ [])

abbrev pub c0 : List ℕ
c0 = 0 ∷ 0 ∷ 0 ∷ 0 ∷ []

-- -16
abbrev pub c16 : List ℕ
c16 = 0xF0 ∷ 0xFF ∷ 0xFF ∷ 0xFF ∷ []

-- -22
abbrev pub c22 : List ℕ
c22 = 0xEA ∷ 0xFF ∷ 0xFF ∷ 0xFF ∷ []

-- the records of an image of two vCPUs, here with no VM event switch on
abbrev pub vm : List ℕ
vm = 0x56 ∷ 0x4D ∷ 1 ∷ 0 ∷ 2 ∷ 0 ∷ 0 ∷ 0 ∷ []

-- vCPU, flags, CR bits, event bits, pauses
abbrev pub vc : ℕ → ℕ → ℕ → ℕ → ℕ → List ℕ
vc vcpu flags crs events pauses = 0x56 ∷ 0x43 ∷ vcpu ∷ 0 ∷ flags ∷ crs ∷ le 2 events ++ (pauses ∷ 0 ∷ [])

abbrev pub en : ℕ → List ℕ
en count = 0x45 ∷ 0x4E ∷ le 4 count

-- P1: 34 bytes
abbrev pub fresh_image : List ℕ
fresh_image =
    0x56 ∷ 0x4D ∷ 0x01 ∷ 0x00 ∷ 0x02 ∷ 0x00 ∷ 0x00 ∷ 0x00
    ∷ 0x56 ∷ 0x43 ∷ 0x00 ∷ 0x00 ∷ 0x00 ∷ 0x00 ∷ 0x00 ∷ 0x00 ∷ 0x00 ∷ 0x00
    ∷ 0x56 ∷ 0x43 ∷ 0x01 ∷ 0x00 ∷ 0x00 ∷ 0x00 ∷ 0x00 ∷ 0x00 ∷ 0x00 ∷ 0x00
    ∷ 0x45 ∷ 0x4E ∷ 0x03 ∷ 0x00 ∷ 0x00 ∷ 0x00 ∷ []

-- vCPU 0 ready
abbrev pub ready_image : List ℕ
ready_image = vm ++ vc 0 1 0 0 0 ++ vc 1 0 0 0 0 ++ en 3

abbrev pub gives : Paper → List ℕ → List ℕ → Seen
gives p bytes image = record { answer = p; bytes = bytes; image = image }

-- a command of the session of `two` begun fresh with vCPU 0 ready, its reply's code, and the image after it
abbrev pub replied : ℕ → Call → List ℕ → List ℕ → Case
replied id call code after =
    record { settings = two; start = anew; calls = ready 0 ∷ call ∷ []; expected = gives (handled 16 Quiet) (reply id code) after }

-- ---- "P marks those proved together, by one statement over a list of them."
abbrev pub cases : List Case
cases =
    -- P1
    (record { settings = two; start = anew; calls = write_image out ∷ []; expected = gives (handled 34 Quiet) fresh_image fresh_image })
    -- P2
    ∷ (record { settings = two; start = anew; calls = pause 2 ∷ []; expected = gives (handled 16 Quiet) (0x09 ∷ 0x00 ∷ 0x08 ∷ 0x00 ∷ 0x08 ∷ 0x00 ∷ 0x00 ∷ 0x00 ∷ 0xEA ∷ 0xFF ∷ 0xFF ∷ 0xFF ∷ 0x00 ∷ 0x00 ∷ 0x00 ∷ 0x00 ∷ []) fresh_image })
    -- P3
    ∷ (record { settings = two; start = anew; calls = ready 0 ∷ message [] out page ∷ []; expected = gives (plain 1) [] fresh_image })
    -- P4
    ∷ (record { settings = two; start = anew; calls = ready 0 ∷ message (1 ∷ 0 ∷ 1 ∷ 0 ∷ 7 ∷ 0 ∷ 0 ∷ 0 ∷ []) out page ∷ []; expected = gives (plain 1) [] fresh_image })
    -- P5
    ∷ (record { settings = two; start = anew; calls = send 6 (physical 4095 1) ∷ []; expected = gives (handled 17 Quiet) (6 ∷ 0 ∷ 9 ∷ 0 ∷ 8 ∷ 0 ∷ 0 ∷ 0 ∷ c0 ++ (0 ∷ 0 ∷ 0 ∷ 0 ∷ 0xAB ∷ [])) fresh_image })
    -- P6
    ∷ (record { settings = two; start = anew; calls = send 6 (physical 4095 2) ∷ []; expected = gives (handled 16 Quiet) (reply 6 c22) fresh_image })
    -- P7
    ∷ replied 12 (control_msr 0 0x1FFF 1) c0 (vm ++ vc 0 1 0 0 0 ++ vc 1 0 0 0 0 ++ (0x4D ∷ 0x53 ∷ 0 ∷ 0 ∷ 0xFF ∷ 0x1F ∷ 0 ∷ 0 ∷ []) ++ en 4)
    -- P8
    ∷ replied 12 (control_msr 0 0x2000 1) c22 ready_image
    -- P9
    ∷ (record { settings = two; start = anew; calls = ready 0 ∷ replicate 8 (pause 0); expected = gives (handled 16 (Kick true 0)) (reply 9 c0) (vm ++ vc 0 1 0 0 8 ++ vc 1 0 0 0 0 ++ en 3) })
    -- P10
    ∷ (record { settings = two; start = anew; calls = ready 0 ∷ replicate 9 (pause 0); expected = gives (handled 16 Quiet) (reply 9 c16) (vm ++ vc 0 1 0 0 8 ++ vc 1 0 0 0 0 ++ en 3) })
    -- P11
    ∷ replied 13 (set_access 1 0 (entry 0x5000 2)) c22 ready_image
    -- P12
    ∷ replied 13 (set_access 2 0 (entry 0x5000 1 ++ entry 0x5FFF 7)) c0 ready_image
    ∷ []
