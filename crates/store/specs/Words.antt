-- The vCPU words: 272 for each vCPU, 16 plain fields and then 256 words of MSR switches, a bit each. A word past the end reads as 0, and a
-- store there changes nothing.
use Rattle.std.specs.Prelude.{ℕ, ◌+◌, ◌*◌, ◌/◌, ◌%◌, ◌^◌, Bool, false, cond, List, length, replicate, nat_lt, eqb, slice_index, slice_set, Option, Some, None}
use Rattle.msrs.specs.Place.{msr_place}
use Rattle.kvmi.specs.Bits.{is_on, put_bit}
use Rattle.kvmi.specs.Tables.{cr_bit}
use Rattle.kvmi.specs.declared.Fault.{Fault}
use Rattle.kvmi.specs.Feed.{no_fault}
use Rattle.kvmi.specs.declared.Awaited.{Awaited}
use Rattle.kvmi.specs.declared.Pending.{Pending}

-- how many words a vCPU has
abbrev pub block_words : ℕ
block_words = 272

-- how many words are lent for the vCPUs: a block for each of 16
abbrev pub vcpu_word_count : ℕ
vcpu_word_count = 4352

-- the plain fields; the others are spare and 0
abbrev pub SINGLESTEP : ℕ
SINGLESTEP = 0

abbrev pub CRS : ℕ
CRS = 1

abbrev pub EVENTS : ℕ
EVENTS = 2

abbrev pub PAUSES : ℕ
PAUSES = 3

-- the event whose reply is awaited, or 0, and its seq
abbrev pub AWAITED : ℕ
AWAITED = 4

abbrev pub AWAITED_SEQ : ℕ
AWAITED_SEQ = 5

-- of a page fault: its addresses and access
abbrev pub FAULT_GVA : ℕ
FAULT_GVA = 6

abbrev pub FAULT_GPA : ℕ
FAULT_GPA = 7

abbrev pub FAULT_ACCESS : ℕ
FAULT_ACCESS = 8

-- the first word of MSR switches
abbrev pub MSRS : ℕ
MSRS = 16

-- field k of a vCPU
unfoldable pub field : List ℕ → ℕ → ℕ → ℕ
field w vcpu k = slice_index w (vcpu * block_words + k)

-- an awaited event by its numbers; 0 stands for none
unfoldable pub awaited_from : ℕ → ℕ → Fault → Option Awaited
awaited_from event seq fault = cond (eqb event 0) None (Some (record { event = event; seq = seq; fault = fault }))

-- what is kept of a page fault
abbrev pub fault_in : List ℕ → ℕ → Fault
fault_in w vcpu = record { gva = field w vcpu FAULT_GVA; gpa = field w vcpu FAULT_GPA; access = field w vcpu FAULT_ACCESS }

-- the words of an awaited event, one that is awaited or not
abbrev pub awaited_words : List ℕ → ℕ → Awaited
awaited_words w vcpu = record { event = field w vcpu AWAITED; seq = field w vcpu AWAITED_SEQ; fault = fault_in w vcpu }

-- what is pending of a vCPU
abbrev pub pending : List ℕ → ℕ → Pending
pending w vcpu =
    record { pauses = field w vcpu PAUSES; awaited = awaited_from (field w vcpu AWAITED) (field w vcpu AWAITED_SEQ) (fault_in w vcpu) }

-- field k of a vCPU set
unfoldable pub set_field : List ℕ → ℕ → ℕ → ℕ → List ℕ
set_field w vcpu k x = slice_set w (vcpu * block_words + k) x

-- bit k of a 64-bit word as given; there is none past 63
unfoldable pub put_bit64 : ℕ → ℕ → Bool → ℕ
put_bit64 w k on = cond (nat_lt k 64) (put_bit w k on) w

-- ---- what a command does to the plain fields of a vCPU
-- one pause more
unfoldable pub queued_pause : List ℕ → ℕ → List ℕ
queued_pause w vcpu = set_field w vcpu PAUSES ((field w vcpu PAUSES + 1) % 2 ^ 64)

-- one bit of a field
unfoldable pub switched_field : List ℕ → ℕ → ℕ → ℕ → Bool → List ℕ
switched_field w vcpu k bit on = set_field w vcpu k (put_bit64 (field w vcpu k) bit on)

-- one control register's switch
unfoldable pub switched_cr : List ℕ → ℕ → ℕ → Bool → List ℕ
switched_cr w vcpu cr on = set_field w vcpu CRS (put_bit (field w vcpu CRS) (cr_bit cr) on)

-- what is kept of a page fault
unfoldable pub set_fault : List ℕ → ℕ → Fault → List ℕ
set_fault w vcpu f = set_field (set_field (set_field w vcpu FAULT_GVA f.gva) vcpu FAULT_GPA f.gpa) vcpu FAULT_ACCESS f.access

-- no reply awaited any more
unfoldable pub ended_wait : List ℕ → ℕ → List ℕ
ended_wait w vcpu = set_fault (set_field (set_field w vcpu AWAITED 0) vcpu AWAITED_SEQ 0) vcpu no_fault

-- ---- MSR switches
-- the switch of a place
unfoldable pub switch_on : List ℕ → ℕ → ℕ → Bool
switch_on w vcpu place = is_on (field w vcpu (MSRS + place / 64)) (place % 64)

-- of a place, or of none: then it is off, and setting it changes nothing
abbrev pub read_switch : List ℕ → ℕ → Option ℕ → Bool
read_switch w vcpu (Some place) = switch_on w vcpu place
read_switch w vcpu None = false

abbrev pub set_switch : List ℕ → ℕ → Option ℕ → Bool → List ℕ
set_switch w vcpu (Some place) on = switched_field w vcpu (MSRS + place / 64) (place % 64) on
set_switch w vcpu None on = w

-- a vCPU's switch for an MSR
unfoldable pub msr_bit_on : List ℕ → ℕ → ℕ → Bool
msr_bit_on w vcpu msr = read_switch w vcpu (msr_place msr)

unfoldable pub set_msr_bit : List ℕ → ℕ → ℕ → Bool → List ℕ
set_msr_bit w vcpu msr on = set_switch w vcpu (msr_place msr) on

-- ---- all words 0
unfoldable pub cleared : List ℕ → List ℕ
cleared w = replicate (length w) 0
