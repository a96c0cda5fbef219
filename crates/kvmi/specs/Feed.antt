-- Document 02, "W5. Page faults with bytes supplied by the tool.": what a page fault's bytes say, its reply's context, and the bytes that feed the
-- instruction whose read it stopped. Quotes are W5's, unless they are marked. own is a fault's own bytes, d its reply's data.
use Rattle.std.specs.Prelude.{ℕ, ◌+◌, ◌-◌, ◌*◌, ◌/◌, ◌%◌, ◌^◌, List, Bool, true, false, cond, not, ◌&&◌, get_or, leb, ltb, eqb}
use Rattle.wire.specs.Bytes.{load}
use Rattle.kvmi.specs.declared.Fault.{Fault}
use Rattle.kvmi.specs.declared.Feed.{Feed}
use Rattle.kvmi.specs.declared.Source.{Source}
use Rattle.kvmi.specs.declared.Source.TheVariants.{Unfed, Message, Guest, Missing}
use Rattle.kvmi.specs.Bits.{is_on}
use Rattle.kvmi.specs.Message.{action_of}

-- KVMI_EVENT_PF
abbrev pub PF : ℕ
PF = 10

-- ---- a fault's own bytes: gva u64, gpa u64, access u8, padding, view u16, padding
-- the awaited record keeps a `Fault` of them; of any other event nothing is kept
abbrev pub no_fault : Fault
no_fault = record { gva = 0; gpa = 0; access = 0 }

unfoldable pub kept_of : ℕ → List ℕ → Fault
kept_of event own = cond (eqb event PF) (record { gva = load 8 own 0; gpa = load 8 own 8; access = get_or own 16 0 }) no_fault

-- "the view its bytes name": kvmi.rst's padding2 (docs/DECISIONS.md)
abbrev pub view_named : List ℕ → ℕ
view_named own = load 2 own 18

-- the number of the page at gpa (`% 2 ^ 64` only says that an address has 64 bits: any eight bytes do)
abbrev pub page_named : List ℕ → ℕ
page_named own = load 8 own 8 % 2 ^ 64 / 4096

-- ---- a reply's context, behind the first 16 bytes: ctx_addr u64, ctx_size u32, padding u8, rep_complete u8, padding u16, ctx_data
abbrev pub address_of : List ℕ → ℕ
address_of d = load 8 d 16

abbrev pub supplied_size : List ℕ → ℕ
supplied_size d = load 4 d 24

abbrev pub rep_flag : List ℕ → ℕ
rep_flag d = get_or d 29 0

-- document 01's "padding is zero", and "context size above 256 or rep flag above 1 closes"
unfoldable pub context_fits : List ℕ → Bool
context_fits d = eqb (get_or d 28 0) 0 && eqb (load 2 d 30) 0 && leb (supplied_size d) 256 && leb (rep_flag d) 1

-- ---- the bytes that feed the instruction: which part of which buffer
-- none are wanted
abbrev pub unfed : Feed
unfed = record { source = Unfed; at = 0; length = 0 }

-- "the supplied data from gva to its end"; the data begins at byte 40 of the message
abbrev pub supplied : ℕ → ℕ → ℕ → Feed
supplied gva address size = record { source = Message; at = 40 + (gva - address); length = size - (gva - address) }

-- "the page's bytes from gpa to the page end"
abbrev pub from_page : ℕ → Feed
from_page gpa = record { source = Guest; at = gpa; length = 4096 - gpa % 4096 }

-- they are the guest page's, "where none exists"
abbrev pub missing : Feed
missing = record { source = Missing; at = 0; length = 0 }

abbrev pub is_message : Source → Bool
is_message Unfed = false
is_message Message = true
is_message Guest = false
is_message Missing = false

-- "On a continued read (access bit R) the host wants the bytes to feed the instruction": the action is 0, and R is bit 0
unfoldable pub wants_bytes : ℕ → ℕ → Bool
wants_bytes access action = eqb action 0 && is_on access 0

-- "Gva all ones means unknown."
abbrev pub unknown_gva : ℕ
unknown_gva = 18446744073709551615

-- "gva is known and in the context's [address, address + size), reckoned without wrapping"
unfoldable pub in_context : ℕ → ℕ → ℕ → Bool
in_context gva address size = not (eqb gva unknown_gva) && leb address gva && ltb gva (address + size)

-- document 01: "a page (4,096 bytes) exists if it lies wholly inside"
unfoldable pub page_exists : ℕ → ℕ → Bool
page_exists guest gpa = leb ((gpa / 4096 + 1) * 4096) guest

unfoldable pub page_feed : ℕ → ℕ → Feed
page_feed guest gpa = cond (page_exists guest gpa) (from_page gpa) missing

-- "the bytes come from the reply's data or from the guest page"; guest is how many bytes of guest memory are lent
unfoldable pub chosen_feed : ℕ → ℕ → ℕ → List ℕ → Feed
chosen_feed gva gpa guest d =
    cond (in_context gva (address_of d) (supplied_size d)) (supplied gva (address_of d) (supplied_size d)) (page_feed guest gpa)

unfoldable pub feed_of : Fault → ℕ → List ℕ → Feed
feed_of f guest d = cond (wants_bytes f.access (action_of d)) (chosen_feed f.gva f.gpa guest d) unfed
