-- Document 02, "W1. The other events.": the events that an entry is offered, the bytes that each has of its own, the switches that it asks for, and
-- the reply that it takes; and of W5 the page fault's row. Quotes are W1's, unless they are marked.
use Rattle.std.specs.Prelude.{ℕ, List, [], ◌∷◌, Bool, true, false, ◌&&◌, ◌||◌, length, get_or, ltb, eqb, Option, Some, None, is_some}
use Rattle.std.specs.Option.{option_map_or}
use Rattle.wire.specs.Bytes.{load}
use Rattle.kvmi.specs.declared.EventSwitch.{EventSwitch}
use Rattle.kvmi.specs.declared.EventSwitch.TheVariants.{NoEvent, OfVm, OfVcpu, OfCr, OfMsr, OfPage}
use Rattle.kvmi.specs.declared.ReplyForm.{ReplyForm}
use Rattle.kvmi.specs.declared.ReplyForm.TheVariants.{Plain, NewValue, Context}
use Rattle.kvmi.specs.declared.EventRow.{EventRow}
use Rattle.kvmi.specs.Bits.{among}
use Rattle.kvmi.specs.Tables.{Tables, vm_event_on, event_on, cr_on, msr_on, access}
use Rattle.kvmi.specs.Feed.{view_named, page_named, rep_flag, context_fits}

-- ---- the table of events
-- how many bytes it has of its own ("The bytes after the first 544"), how many data bytes its reply has, whether "Retry is taken", what the reply has behind
-- its first 16 bytes, and the switch that it asks for
abbrev pub event_row : ℕ → ℕ → Bool → ReplyForm → Option EventSwitch → EventRow
event_row own reply retry form switch = record { switch = switch; form = form; retry = retry; own = own; reply = reply }

-- without a value or a retry
abbrev pub plain_event : ℕ → Option EventSwitch → EventRow
plain_event own switch = event_row own 16 false Plain switch

-- one that is not built: an entry is not offered it, and no reply to it is taken
abbrev pub unoffered : EventRow
unoffered = event_row 0 0 false Plain None

-- events 0 to 14. "Replies carry 24 data bytes for CR and MSR, the new value last, and 16 otherwise."; "Retry is taken for BREAKPOINT and DESCRIPTOR
-- only."
abbrev pub events : List EventRow
events =
    -- "or 0 for none with no bytes"
    event_row 0 0 false Plain (Some NoEvent)
    -- UNHOOK
    ∷ unoffered
    -- PAUSE_VCPU: it comes from the queue
    ∷ plain_event 0 None
    -- HYPERCALL
    ∷ plain_event 0 (Some OfVcpu)
    -- BREAKPOINT: gpa u64, insn_len u8, padding
    ∷ event_row 16 16 true Plain (Some OfVcpu)
    -- CR: cr u16, padding, old_value u64, new_value u64
    ∷ event_row 24 24 false NewValue (Some OfCr)
    -- TRAP
    ∷ unoffered
    -- XSETBV
    ∷ plain_event 0 (Some OfVcpu)
    -- DESCRIPTOR: descriptor u8, write u8, padding
    ∷ event_row 8 16 true Plain (Some OfVcpu)
    -- MSR: msr u32, padding, old_value u64, new_value u64
    ∷ event_row 24 24 false NewValue (Some OfMsr)
    -- PF: gva u64, gpa u64, access u8, padding, view u16, padding; W5: "event data 568", "its reply (288 data bytes)", "All three actions are valid."
    ∷ event_row 24 288 true Context (Some OfPage)
    -- SINGLESTEP: failed u8, padding; "The singlestep block goes with the event."
    ∷ plain_event 8 (Some OfVcpu)
    -- CREATE_VCPU: message 5's
    ∷ plain_event 0 (Some OfVm)
    -- CMD_ERROR
    ∷ unoffered
    -- CPUID: function u32, index u32, insn_length u8, padding
    ∷ plain_event 16 (Some OfVcpu)
    ∷ []

-- an event's row
unfoldable pub event_row_of : ℕ → EventRow
event_row_of event = get_or events event unoffered

-- ---- an offer at a vCPU's entry
-- the numbers that are taken: 0, which offers nothing, is one of them
abbrev pub is_offered : Option EventSwitch → Bool
is_offered switch = is_some switch

-- "another number, or lent event bytes of the wrong length, switched on or off, is answer 5"
unfoldable pub offer_fits : ℕ → List ℕ → Bool
offer_fits event own = is_offered (event_row_of event).switch && eqb (length own) (event_row_of event).own

-- "the register its bytes name"
abbrev pub cr_named : List ℕ → ℕ
cr_named own = load 2 own 0

abbrev pub msr_named : List ℕ → ℕ
msr_named own = load 4 own 0

-- "it is sent exactly if its switch is on, and for CR and MSR also that of the register its bytes name". A CR other than 0, 3 and 4 has none (`cr_on`), nor
-- has an MSR outside message 12's ranges, one of no place (`msr_on`). W5: "a PF is sent exactly for a page standing below rwx in the view its bytes name, with
-- the PF switch on"; in a view that the session has not every page stands at rwx.
unfoldable pub asks_for : Tables → ℕ → ℕ → List ℕ → EventSwitch → Bool
asks_for t vcpu event own NoEvent = false
asks_for t vcpu event own OfVm = vm_event_on t event
asks_for t vcpu event own OfVcpu = event_on t vcpu event
asks_for t vcpu event own OfCr = event_on t vcpu event && cr_on t vcpu (cr_named own)
asks_for t vcpu event own OfMsr = event_on t vcpu event && msr_on t vcpu (msr_named own)
asks_for t vcpu event own OfPage = event_on t vcpu event && ltb (access t (view_named own) (page_named own)) 7

unfoldable pub is_asked_for : Tables → ℕ → ℕ → List ℕ → Bool
is_asked_for t vcpu event own = option_map_or (asks_for t vcpu event own) (event_row_of event).switch false

-- ---- its reply
-- document 01: "the action is 0 continue or 2 crash (1 is retry)"
abbrev pub takes_action : EventRow → ℕ → Bool
takes_action r action = among action (0 ∷ 2 ∷ []) || eqb action 1 && r.retry

-- what stands behind its first 16 bytes is as it should be: of a new value anything
abbrev pub form_fits : ReplyForm → List ℕ → Bool
form_fits Plain d = true
form_fits NewValue d = true
form_fits Context d = context_fits d

-- "the new value last": behind the first 16 bytes; "new value or 0"; W5: "A resume's value is the rep flag"
abbrev pub value_of : ReplyForm → List ℕ → ℕ
value_of Plain d = 0
value_of NewValue d = load 8 d 16
value_of Context d = rep_flag d
