-- "Messages": the table by message number, the fields and padding of each layout (kvmi.rst), and the events that messages take.
-- d is a message's data, the bytes after its header.
use Rattle.std.specs.Prelude.{ℕ, zero, suc, ◌+◌, ◌*◌, ◌/◌, ◌%◌, ◌^◌, List, [], ◌∷◌, Bool, true, false, cond, ◌&&◌, length, get_or, take, drop, leb, eqb, Option, Some, None}
use Rattle.wire.specs.Bytes.{load}
use Rattle.kvmi.specs.declared.SizeRule.{SizeRule}
use Rattle.kvmi.specs.declared.SizeRule.TheVariants.{Exactly, SizeField, Entries, ByEvent}
use Rattle.kvmi.specs.declared.ReplyKind.{ReplyKind}
use Rattle.kvmi.specs.declared.ReplyKind.TheVariants.{CodeOnly, WithData, Silent}
use Rattle.kvmi.specs.declared.Handler.{Handler}
use Rattle.kvmi.specs.declared.Handler.TheVariants.{GetVersion, VmCheckCommand, VmCheckEvent, VmGetInfo, VmControlEvents, VmReadPhysical, VmWritePhysical, VcpuGetInfo, VcpuPause, VcpuControlEvents, VcpuControlCr, VcpuControlMsr, VmSetPageAccess, VcpuControlSinglestep, VmControlCmdResponse, EventReply}
use Rattle.kvmi.specs.declared.Layout.{Layout}
use Rattle.kvmi.specs.Bits.{among}

-- ---- "The message number decides the layout."
abbrev pub row : SizeRule → ReplyKind → Handler → Option Layout
row size reply handler = Some (record { size = size; reply = reply; handler = handler })

-- messages 0 to 16; 0 is none
abbrev pub messages : List (Option Layout)
messages =
    None
    ∷ row (Exactly 0) WithData GetVersion
    ∷ row (Exactly 8) CodeOnly VmCheckCommand
    ∷ row (Exactly 8) CodeOnly VmCheckEvent
    ∷ row (Exactly 0) WithData VmGetInfo
    ∷ row (Exactly 8) CodeOnly VmControlEvents
    ∷ row (Exactly 16) WithData VmReadPhysical
    ∷ row SizeField CodeOnly VmWritePhysical
    ∷ row (Exactly 8) WithData VcpuGetInfo
    ∷ row (Exactly 16) CodeOnly VcpuPause
    ∷ row (Exactly 16) CodeOnly VcpuControlEvents
    ∷ row (Exactly 16) CodeOnly VcpuControlCr
    ∷ row (Exactly 16) CodeOnly VcpuControlMsr
    ∷ row Entries CodeOnly VmSetPageAccess
    ∷ row (Exactly 16) CodeOnly VcpuControlSinglestep
    ∷ row (Exactly 8) CodeOnly VmControlCmdResponse
    ∷ row ByEvent Silent EventReply
    ∷ []

-- an id's row, if the table has one
unfoldable pub layout_of : ℕ → Option Layout
layout_of id = get_or messages id None

-- how a message is answered; an id without a row by a code alone
abbrev pub reply_kind : Option Layout → ReplyKind
reply_kind None = CodeOnly
reply_kind (Some row) = row.reply

-- test 4: the data's size is the table's. "Message 13 closes only below 8 bytes; a count that disagrees is -22."
unfoldable pub size_fits : SizeRule → List ℕ → Bool
size_fits (Exactly n) d = eqb (length d) n
size_fits SizeField d = leb 16 (length d) && eqb (length d) (16 + load 8 d 8)
size_fits Entries d = leb 8 (length d)
-- EVENT_REPLY: what every reply has; Verdict's `reply_fits` asks for the awaited event's own size, and both close
size_fits ByEvent d = leb 16 (length d)

-- an id without a row has no size that the data could miss: test 2 answers it before
abbrev pub data_fits : Option Layout → List ℕ → Bool
data_fits None d = true
data_fits (Some row) d = size_fits row.size d

-- the last column, "Reply data"
abbrev pub carries_data : ReplyKind → Bool
carries_data CodeOnly = false
carries_data WithData = true
carries_data Silent = false

-- ---- fields
-- the messages marked (v), with "the 8-byte vCPU header first"; EVENT_REPLY, 16, is marked too and is judged apart
unfoldable pub names_vcpu : ℕ → Bool
names_vcpu id = among id (8 ∷ 9 ∷ 10 ∷ 11 ∷ 12 ∷ 14 ∷ [])

-- the vCPU header: vcpu u16, then padding
unfoldable pub vcpu_of : List ℕ → ℕ
vcpu_of d = load 2 d 0

-- message 2: id u16, then padding
abbrev pub command_of : List ℕ → ℕ
command_of d = load 2 d 0

-- the place of enable (wait in 9), in the messages that have one
unfoldable pub enable_at : ℕ → ℕ
enable_at id = cond (eqb id 5) 2 (cond (eqb id 10) 10 (cond (eqb id 15) 0 8))

-- enable is 1 (wait in 9)
unfoldable pub enables : ℕ → List ℕ → Bool
enables id d = eqb (get_or d (enable_at id) 0) 1

-- the places of the bytes that are 0 or 1: enable; wait; now and flags
unfoldable pub switches_at : ℕ → List ℕ
switches_at id = cond (among id (5 ∷ 9 ∷ 10 ∷ 11 ∷ 12 ∷ 14 ∷ [])) (enable_at id ∷ []) (cond (eqb id 15) (0 ∷ 1 ∷ 2 ∷ []) [])

-- message 15: enable u8, now u8, flags u8, then padding; "flag bit 0" is the only one, since "response flags above 1" are -22
abbrev pub is_now : List ℕ → Bool
is_now d = eqb (get_or d 1 0) 1

abbrev pub has_flag : List ℕ → Bool
has_flag d = eqb (get_or d 2 0) 1

-- messages 3, 5 and 10: event u16
unfoldable pub event_of : ℕ → List ℕ → ℕ
event_of id d = load 2 d (cond (eqb id 10) 8 0)

-- the control register or the MSR of messages 11 and 12
unfoldable pub register_of : List ℕ → ℕ
register_of d = load 4 d 12

-- messages 6 and 7: gpa u64, size u64
unfoldable pub gpa_of : List ℕ → ℕ
gpa_of d = load 8 d 0

unfoldable pub size_of : List ℕ → ℕ
size_of d = load 8 d 8

-- message 13: count u16, which its size must agree with
unfoldable pub count_of : List ℕ → ℕ
count_of d = load 2 d 0

-- "a count that disagrees is -22"
unfoldable pub count_fits : List ℕ → Bool
count_fits d = eqb (length d) (8 + 16 * count_of d)

-- behind the count, the view u16
unfoldable pub view_of : List ℕ → ℕ
view_of d = load 2 d 2

-- EVENT_REPLY: behind the vCPU header the action u8 and the event u8, then padding
abbrev pub action_of : List ℕ → ℕ
action_of d = get_or d 8 0

abbrev pub replied_event : List ℕ → ℕ
replied_event d = get_or d 9 0

-- an entry of message 13: gpa u64, access u8, then padding; "Page number is gpa / 4096, rounded down". (`% 2 ^ 64` only says that an address has 64 bits: any eight bytes do.)
pub record Entry : Type 0 where
  pub page : ℕ
  pub access : ℕ

unfoldable pub entry_of : List ℕ → Entry
entry_of e = record { page = load 8 e 0 % 2 ^ 64 / 4096; access = get_or e 8 0 }

-- n entries, one behind the other
unfoldable pub entries_of : ℕ → List ℕ → List Entry
entries_of zero l = []
entries_of (suc n) l = entry_of (take 16 l) ∷ entries_of n (drop 16 l)

-- ---- padding: runs of bytes, by where they start and how long they are
-- the padding of the n entries of message 13, the first of which has its padding at a place
unfoldable pub entry_padding : ℕ → ℕ → List (ℕ × ℕ)
entry_padding at zero = []
entry_padding at (suc n) = (at, 7) ∷ entry_padding (at + 16) n

-- by message number; of 13, W6: "Entries are looked at only if the count fits" (where it does not, that is -22 by itself)
unfoldable pub padding_runs : ℕ → List ℕ → List (ℕ × ℕ)
padding_runs id d =
    cond (among id (2 ∷ 3 ∷ 8 ∷ [])) ((2, 6) ∷ [])
    (cond (among id (5 ∷ 15 ∷ [])) ((3, 5) ∷ [])
    (cond (among id (9 ∷ 14 ∷ [])) ((2, 6) ∷ (9, 7) ∷ [])
    (cond (eqb id 10) ((2, 6) ∷ (11, 5) ∷ [])
    (cond (among id (11 ∷ 12 ∷ [])) ((2, 6) ∷ (9, 3) ∷ [])
    (cond (eqb id 13) ((4, 4) ∷ entry_padding 17 (cond (count_fits d) (count_of d) 0))
    (cond (eqb id 16) ((2, 6) ∷ (10, 6) ∷ [])
    []))))))

-- the message offset of the first of n bytes at a place that is not zero, or else what comes after them
unfoldable pub first_non_zero : List ℕ → ℕ → ℕ → ℕ → ℕ
first_non_zero d at zero after = after
first_non_zero d at (suc n) after = cond (eqb (get_or d at 0) 0) (first_non_zero d (suc at) n after) (8 + at)

-- the first in runs of bytes, in their order
unfoldable pub first_of_runs : List ℕ → List (ℕ × ℕ) → ℕ
first_of_runs d [] = 0
first_of_runs d (r ∷ rs) = first_non_zero d r.0 r.1 (first_of_runs d rs)

-- the message offset of the first padding byte that is not zero, or 0, which no padding byte has: test 6 asks whether it is 0, and W6 reports it
unfoldable pub first_padding : ℕ → List ℕ → ℕ
first_padding id d = first_of_runs d (padding_runs id d)

-- ---- events
-- "Message 5 takes events 1 and 12; message 10 takes 3, 4, 5, 7, 8, 9, 10, 11, 14."
unfoldable pub is_vm_event : ℕ → Bool
is_vm_event e = among e (1 ∷ 12 ∷ [])

unfoldable pub is_vcpu_event : ℕ → Bool
is_vcpu_event e = among e (3 ∷ 4 ∷ 5 ∷ 7 ∷ 8 ∷ 9 ∷ 10 ∷ 11 ∷ 14 ∷ [])

-- the events of messages 3, 5 and 10; "Events 1..14"
unfoldable pub takes_event : ℕ → ℕ → Bool
takes_event id e = cond (eqb id 5) (is_vm_event e) (cond (eqb id 10) (is_vcpu_event e) (leb 1 e && leb e 14))
