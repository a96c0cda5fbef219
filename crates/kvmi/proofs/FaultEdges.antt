-- Edges of page faults (W5): which go out and which are passed over, what is awaited, which replies are taken, and the bytes that feed a continued read,
-- from the reply's data or from the guest page; and the same in one write.
use Prim.Native.Nat.{ℕ}
use mathlib.Core.List.{List, [], ◌∷◌, ◌++◌, map}
use mathlib.Core.Option.{Option, none, some}
use lib.ListN.{take, drop, set, replicate}
use Rattle.wire.specs.Bytes.{le}
use Rattle.kvmi.specs.declared.Settings.{Settings}
use Rattle.kvmi.specs.declared.ReplyMode.TheVariants.{On, Off, ErrorsOnly}
use Rattle.kvmi.specs.declared.Signal.{Signal}
use Rattle.kvmi.specs.declared.Signal.TheVariants.{Quiet, Crash}
use Rattle.kvmi.specs.declared.Source.TheVariants.{Unfed, Message, Guest, Missing}
use Rattle.kvmi.specs.declared.Feed.{Feed}
use Rattle.std.specs.Prelude.{Some}
use Rattle.kvmi.specs.Answer.{Paper, handled, plain, resumption, resume}
use Rattle.kvmi.specs.declared.Awaited.{Awaited}
use Rattle.kvmi.specs.Model.{awaiting}
use Rattle.kvmi.specs.Reply.{message_bytes}
use Rattle.kvmi.specs.Call.{Call, message, enter, write_image}
use Rattle.kvmi.specs.Case.{from_bytes, two, out, page, entry, access_data, set_access, reply, c0, vm, vc, en, fresh_image}
use Rattle.kvmi.proofs.Edge.{Beside, Outcome, Edge, left, lacking, sized, lent, registers, answer_data, control_event, responses, send_as, c1000, to15, vm_of, idle, pa, joined, pause_bytes, beside, nobody, awaits, quiet, shut, gave, closing, started, afresh}
use Rattle.kvmi.proofs.SessionEdges.{sent as pauseSent}
use Rattle.kvmi.proofs.EventEdges.{rising, cr3, sent as eventSent, enters}
use Rattle.kvmi.proofs.BatchEdges.{BatchEdge, Lends, Says, lends, lends_page, did, resumed, onto, from, used_at, msg, version, version_bytes, pauses, pokes, three}

-- ---- what a fault is made of
-- its own bytes: gva, gpa, access, view; the padding is not zero
abbrev pub fault_own : ℕ → ℕ → ℕ → ℕ → List ℕ
fault_own gva gpa access view = le 8 gva ++ le 8 gpa ++ (access ∷ 0xC1 ∷ []) ++ le 2 view ++ (0xC2 ∷ 0xC3 ∷ 0xC4 ∷ 0xC5 ∷ [])

-- the event, 576 bytes, by seq, vCPU and its own bytes
abbrev pub fault_bytes : ℕ → ℕ → List ℕ → List ℕ
fault_bytes seq vcpu own = 17 ∷ 0 ∷ 0x38 ∷ 2 ∷ le 4 seq ++ (0x20 ∷ 2 ∷ vcpu ∷ 0 ∷ 10 ∷ 0 ∷ 0 ∷ 0 ∷ registers) ++ own

-- vCPU, own bytes, output
abbrev pub faults : ℕ → List ℕ → List ℕ → Call
faults vcpu own out = enter vcpu registers 10 own out

-- its reply is awaited: seq, gva, gpa, access
abbrev pub awaits_fault : ℕ → ℕ → ℕ → ℕ → Option Awaited
awaits_fault seq gva gpa access = some (awaiting 10 seq (record { gva = gva; gpa = gpa; access = access }))

-- data of a reply to vCPU 0: action, the context's address and size, rep flag; its 256 bytes go on past the size
abbrev pub context_data : ℕ → ℕ → ℕ → ℕ → List ℕ
context_data action address size rep = answer_data 0 action 10 ++ le 8 address ++ le 4 size ++ (0 ∷ rep ∷ 0 ∷ 0 ∷ rising 0 256)

abbrev pub unknown : ℕ
unknown = 0xFFFFFFFFFFFFFFFF

-- the bytes handed back: none wanted; of the message (or the input), of guest memory, by their start and length; none, for want of the page
abbrev pub unwanted : Feed
unwanted = record { source = Unfed; at = 0; length = 0 }

abbrev pub of_reply : ℕ → ℕ → Feed
of_reply at length = record { source = Message; at = at; length = length }

abbrev pub of_guest : ℕ → ℕ → Feed
of_guest at length = record { source = Guest; at = at; length = length }

abbrev pub lacked : Feed
lacked = record { source = Missing; at = 0; length = 0 }

-- the answer's number, and its signal
abbrev pub says : ℕ → Signal → Paper
says number signal = record { number = number; count = 0; signal = signal; offset = 0; padding = 0 }

-- ---- entry: a page below rwx, the switch, and the view
-- two vCPUs, vCPU 0 ready: its event bits and pauses, PAs, and the count of all records
abbrev pub paged : ℕ → ℕ → List ℕ → ℕ → List ℕ
paged bits queued pas count = vm ++ vc 0 1 0 bits queued ++ idle 1 ++ pas ++ en count

-- page 6 of view 0 at an access
abbrev pub page6 : ℕ → ℕ → List ℕ
page6 access queued = paged 0x0400 queued (pa 0 6 access) 4

-- by gpa, access and view, it goes; pauses stay
abbrev pub goes_in : Settings → List ℕ → ℕ → ℕ → ℕ → Edge
goes_in s image gpa access view =
    started s (from_bytes image) (faults 0 (fault_own 0x1122334455667788 gpa access view) (lent 577) ∷ [])
    (gave (handled 576 Quiet) (fault_bytes 0 0 (fault_own 0x1122334455667788 gpa access view)) (lent 577) image (beside On 1 (awaits_fault 0 0x1122334455667788 gpa access ∷ none ∷ [])))

abbrev pub goes : List ℕ → ℕ → Edge
goes image gpa = goes_in two image gpa 1 0

-- it is passed over, and one of two pauses goes instead; the image by its pauses
abbrev pub passed_in : Settings → (ℕ → List ℕ) → ℕ → ℕ → Edge
passed_in s image gpa view =
    started s (from_bytes (image 2)) (faults 0 (fault_own 0 gpa 1 view) (lent 576) ∷ [])
    (gave (handled 552 Quiet) (pause_bytes 0 0) (lent 576) (image 1) (beside On 1 (awaits 0 ∷ none ∷ [])))

abbrev pub passed : ℕ → ℕ → Edge
passed gpa view = passed_in two (page6 1) gpa view

-- 24 bytes of its own that name page 6, and 25
abbrev pub own24 : List ℕ
own24 = fault_own 0 0x6000 1 0

abbrev pub own25 : List ℕ
own25 = own24 ++ (0 ∷ [])

-- and with none queued nothing goes
abbrev pub silent : List ℕ → List Call → List ℕ → Edge
silent image calls after = started two (from_bytes image) (calls ++ (faults 0 own24 (lent 576) ∷ [])) (gave (handled 0 Quiet) [] (lent 576) after quiet)

-- of eight views: page 6 in 0, pages 6 and 7 in 1, page 8 in 7; and page 6 in 2, of three views
abbrev pub views8 : ℕ → List ℕ
views8 queued = paged 0x0400 queued (pa 0 6 4 ++ pa 1 6 0 ++ pa 1 7 5 ++ pa 7 8 3) 7

abbrev pub views3 : ℕ → List ℕ
views3 queued = paged 0x0400 queued (pa 2 6 1) 4

abbrev pub entry_edges : List Edge
entry_edges =
    -- each access below rwx; pauses queued; without execute-only pages
    map (λ access. goes (page6 access 0) 0x6000) (0 ∷ 1 ∷ 3 ∷ 4 ∷ 5 ∷ [])
    ++ (goes (page6 5 3) 0x6000
    ∷ goes_in (lacking two) (page6 5 0) 0x6000 1 0
    -- what the event's access says does not matter: fetches of a page that may be fetched, none at all
    ∷ goes_in two (page6 5 0) 0x6000 4 0
    ∷ goes_in two (page6 5 0) 0x6000 0 0
    ∷ goes_in two (page6 5 0) 0x6000 0xFF 0
    -- gpa names its page: all of it, the last page of all, and not its neighbours, nor one that is alike in its low or its high bytes
    ∷ goes (page6 1 0) 0x6FFF
    ∷ goes (paged 0x0400 0 (pa 0 0 1) 4) 0
    ∷ goes (paged 0x0400 0 (pa 0 0xFFFFFFFFFFFFF 1) 4) 0xFFFFFFFFFFFFFFFF
    ∷ passed 0x5FFF 0
    ∷ passed 0x7000 0
    ∷ passed 6 0
    ∷ passed 0x106000 0
    ∷ passed 0x100006000 0
    ∷ passed 0x100000006000 0
    ∷ passed 0x8000000000006000 0
    -- the view that its bytes name, of eight: where the page is guarded, and where it is not
    ∷ goes_in (sized 2 8) (views8 0) 0x6000 1 0
    ∷ goes_in (sized 2 8) (views8 0) 0x6000 1 1
    ∷ goes_in (sized 2 8) (views8 0) 0x7000 1 1
    ∷ goes_in (sized 2 8) (views8 0) 0x8FFF 1 7
    ∷ passed_in (sized 2 8) views8 0x7000 0
    ∷ passed_in (sized 2 8) views8 0x6000 2
    ∷ passed_in (sized 2 8) views8 0x6000 7
    ∷ passed_in (sized 2 8) views8 0x8000 0
    -- past the count: 8 and numbers alike in a byte; of three views 3, of one view 1
    ∷ map (λ view. passed_in (sized 2 8) views8 0x6000 view) (8 ∷ 9 ∷ 0x100 ∷ 0x101 ∷ 0xFFFF ∷ []))
    ++ (goes_in (sized 2 3) (views3 0) 0x6000 1 2
    ∷ passed_in (sized 2 3) views3 0x6000 3
    ∷ [])
    ++ map (λ view. passed 0x6000 view) (1 ∷ 7 ∷ 8 ∷ 0x100 ∷ 0xFFFF ∷ [])
    -- all switches of the vCPU but this one; that of vCPU 1 alone; none
    ++ (passed_in two (λ queued. paged 0x4BB8 queued (pa 0 6 1) 4) 0x6000 0
    ∷ passed_in two (λ queued. vm ++ vc 0 1 0 0 queued ++ vc 1 1 0 0x0400 0 ++ pa 0 6 1 ++ en 4) 0x6000 0
    ∷ silent (paged 0 0 (pa 0 6 1) 4) [] (paged 0 0 (pa 0 6 1) 4)
    -- vCPU 1 is not ready
    ∷ started two (from_bytes (page6 1 0)) (faults 1 own24 (lent 576) ∷ []) (gave (handled 0 Quiet) [] (lent 576) (page6 1 0) quiet)
    -- a page that was forgotten, no page at all; one that was set, one that was set in another view
    ∷ silent (page6 1 0) (set_access 1 0 (entry 0x6FFF 7) ∷ []) (paged 0x0400 0 [] 3)
    ∷ silent (paged 0x0400 0 [] 3) [] (paged 0x0400 0 [] 3)
    ∷ started two (from_bytes (paged 0x0400 0 [] 3)) (set_access 1 0 (entry 0x6000 3) ∷ faults 0 (fault_own 1 0x6001 2 0) (lent 576) ∷ [])
    (gave (handled 576 Quiet) (fault_bytes 0 0 (fault_own 1 0x6001 2 0)) [] (page6 3 0) (beside On 1 (awaits_fault 0 1 0x6001 2 ∷ none ∷ [])))
    ∷ started (sized 2 3) (from_bytes (paged 0x0400 0 [] 3)) (set_access 1 2 (entry 0x6000 1) ∷ faults 0 (fault_own 1 0x6000 2 0) (lent 576) ∷ [])
    (gave (handled 0 Quiet) [] (lent 576) (views3 0) quiet)
    -- with replies off it goes
    ∷ started two (from_bytes (page6 1 0)) (responses 0 1 0 ∷ faults 0 (fault_own 1 0x6000 2 0) (lent 576) ∷ [])
    (gave (handled 576 Quiet) (fault_bytes 0 0 (fault_own 1 0x6000 2 0)) [] (page6 1 0) (beside Off 1 (awaits_fault 0 1 0x6000 2 ∷ none ∷ [])))
    ∷ [])

-- ---- refused entries
-- nothing was sent; a fault was sent with seq 0
abbrev pub refuses : List ℕ → ℕ → (List ℕ → Call) → List ℕ → Edge
refuses image k call out = started two (from_bytes image) (call out ∷ []) (gave (plain k) [] out image quiet)

abbrev pub refuses_after : ℕ → (List ℕ → Call) → List ℕ → Edge
refuses_after k call out =
    started two (from_bytes (page6 1 1)) (faults 0 (fault_own 2 0x6003 1 0) (lent 576) ∷ call out ∷ [])
    (gave (plain k) [] out (page6 1 1) (beside On 1 (awaits_fault 0 2 0x6003 1 ∷ none ∷ [])))

abbrev pub refusal_edges : List Edge
refusal_edges =
    -- 5: other than 24 bytes of its own, asked for or not; a number that is 10 in its low bytes alone
    joined (map (λ own. refuses (page6 1 1) 5 (faults 0 own) (lent 576) ∷ refuses (paged 0 1 (pa 0 6 1) 4) 5 (faults 0 own) (lent 576) ∷ []) ([] ∷ take 16 own24 ∷ take 23 own24 ∷ own25 ∷ []))
    ++ map (λ number. refuses (page6 1 1) 5 (enter 0 registers number own24) (lent 576)) (0x10A ∷ 0x1000A ∷ 0x10000000A ∷ [])
    ++ (refuses (page6 1 1) 5 (enter 0 (drop 1 registers) 10 own24) (lent 576)
    -- 3: 575 bytes are short, passed over or not
    ∷ refuses (page6 1 1) 3 (faults 0 own24) (lent 575)
    ∷ refuses (paged 0 0 (pa 0 6 1) 4) 3 (faults 0 own24) (lent 575)
    -- 2, 4, 5, 3, 6: each before those behind it
    ∷ started two (from_bytes (page6 1 1)) (message [] out page ∷ faults 2 own25 (lent 5) ∷ []) (gave (plain 2) [] (lent 5) fresh_image shut)
    ∷ refuses_after 4 (faults 2 own25) (lent 575)
    ∷ refuses_after 5 (faults 0 own25) (lent 575)
    ∷ refuses_after 3 (faults 0 own24) (lent 575)
    -- 6 and 10 while it is awaited, also where nothing would go
    ∷ refuses_after 6 (faults 0 own24) (lent 576)
    ∷ refuses_after 6 (faults 0 (fault_own 0 0x7000 1 0)) (lent 576)
    ∷ refuses_after 6 (enter 0 registers 0 []) (lent 576)
    ∷ refuses_after 10 write_image (lent 48)
    -- 6 while a pause is awaited
    ∷ started two (from_bytes (page6 1 1)) (enters 0 ∷ faults 0 own24 (lent 576) ∷ []) (gave (plain 6) [] (lent 576) (page6 1 0) (beside On 1 (awaits 0 ∷ none ∷ [])))
    ∷ [])

-- ---- replies
-- pages 0, 1, 2, 2^20 and the last one are guarded: 104 bytes
abbrev pub guarded_by : ℕ → List ℕ → ℕ → List ℕ
guarded_by bits pas count = paged bits 0 (pas ++ pa 0 1 4 ++ pa 0 2 0 ++ pa 0 0x100000 3 ++ pa 0 0xFFFFFFFFFFFFF 1) count

abbrev pub guarded : List ℕ
guarded = guarded_by 0x0400 (pa 0 0 5) 8

-- a fault of vCPU 0, by gva, gpa and access, was sent with seq 0
abbrev pub faulted : ℕ → ℕ → ℕ → List Call → Outcome → Edge
faulted gva gpa access calls expected = started two (from_bytes guarded) (faults 0 (fault_own gva gpa access 0) (lent 576) ∷ calls) expected

-- a reply by its data, with the guest memory lent
abbrev pub replies : List ℕ → List ℕ → Call
replies d guest = message (message_bytes 16 0 d) out guest

-- it is taken: nothing is awaited any more, and nothing is written
abbrev pub taken : ℕ → ℕ → ℕ → List ℕ → List ℕ → Paper → Edge
taken gva gpa access d guest p = faulted gva gpa access (replies d guest ∷ []) (left p out guest guarded (beside On 1 nobody))

-- ---- the bytes of a continued read: from the reply or from the page
-- address, size and gva: bytes of the message, with no guest memory
abbrev pub supplies : ℕ → ℕ → ℕ → ℕ → ℕ → Edge
supplies address size gva at length = taken gva 0x1004 1 (context_data 0 address size 0) [] (says 0 (resume 0 0 0 (of_reply at length)))

-- the same: the page's, from byte 0x10 of page 0 on
abbrev pub turns : ℕ → ℕ → ℕ → Edge
turns address size gva = taken gva 0x10 1 (context_data 0 address size 0) page (says 0 (resume 0 0 0 (of_guest 16 4080)))

abbrev pub context_edges : List Edge
context_edges =
    -- 16 bytes: one before the first, the first, the fifth, the last, one past it
    turns 0x1000 16 0xFFF
    ∷ supplies 0x1000 16 0x1000 40 16
    ∷ supplies 0x1000 16 0x1004 44 12
    ∷ supplies 0x1000 16 0x100F 55 1
    ∷ turns 0x1000 16 0x1010
    -- none, 1, 255, 256
    ∷ turns 0x1000 0 0x1000
    ∷ supplies 0x1000 1 0x1000 40 1
    ∷ turns 0x1000 1 0x1001
    ∷ supplies 0x1000 255 0x1000 40 255
    ∷ supplies 0x1000 255 0x10FE 294 1
    ∷ turns 0x1000 255 0x10FF
    ∷ supplies 0x1000 256 0x1000 40 256
    ∷ supplies 0x1000 256 0x10FF 295 1
    ∷ turns 0x1000 256 0x1100
    -- from address 0, where gva 0 is known
    ∷ supplies 0 256 0 40 256
    ∷ turns 0 0 0
    ∷ turns 0 256 unknown
    -- address + size is 2^64
    ∷ turns 0xFFFFFFFFFFFFFFF0 16 0xFFFFFFFFFFFFFFEF
    ∷ supplies 0xFFFFFFFFFFFFFFF0 16 0xFFFFFFFFFFFFFFF0 40 16
    ∷ supplies 0xFFFFFFFFFFFFFFF0 16 0xFFFFFFFFFFFFFFFE 54 2
    ∷ turns 0xFFFFFFFFFFFFFFF0 16 unknown
    ∷ turns 0xFFFFFFFFFFFFFFF0 16 0
    -- above it: nothing wraps
    ∷ turns 0xFFFFFFFFFFFFFFFC 256 0xFFFFFFFFFFFFFFFB
    ∷ supplies 0xFFFFFFFFFFFFFFFC 256 0xFFFFFFFFFFFFFFFC 40 256
    ∷ supplies 0xFFFFFFFFFFFFFFFC 256 0xFFFFFFFFFFFFFFFE 42 254
    ∷ turns 0xFFFFFFFFFFFFFFFC 256 unknown
    ∷ turns 0xFFFFFFFFFFFFFFFC 256 0
    ∷ turns 0xFFFFFFFFFFFFFFFC 256 1
    ∷ turns 0xFFFFFFFFFFFFFFFC 256 251
    ∷ supplies 0xFFFFFFFFFFFFFFFE 1 0xFFFFFFFFFFFFFFFE 40 1
    ∷ turns unknown 1 unknown
    ∷ turns unknown 256 0
    -- eight bytes of each
    ∷ supplies 0x1122334455667788 16 0x1122334455667790 48 8
    ∷ turns 0x1122334455667788 16 0x2122334455667790
    ∷ turns 0x2122334455667788 16 0x1122334455667790
    ∷ turns 0x1000 16 0x100001004
    ∷ turns 0x100001000 16 0x1004
    ∷ []

-- gva is unknown. By gpa and bytes of guest memory, and with a rep flag: the page's bytes; the page is not there, and so none
abbrev pub feeds : ℕ → ℕ → ℕ → ℕ → Edge
feeds gpa guest at length = taken unknown gpa 1 (context_data 0 0x1000 256 0) (replicate guest 0xAB) (says 0 (resume 0 0 0 (of_guest at length)))

abbrev pub lacks : ℕ → ℕ → ℕ → Edge
lacks gpa guest rep = taken unknown gpa 1 (context_data 0 0x1000 256 rep) (replicate guest 0xAB) (says 12 (resume 0 0 rep lacked))

abbrev pub guest_edges : List Edge
guest_edges =
    -- a page's first byte, a byte of it, its last
    feeds 0 4096 0 4096
    ∷ feeds 0x7FF 4096 2047 2049
    ∷ feeds 0xFFF 4096 4095 1
    ∷ feeds 0x1000 8192 4096 4096
    ∷ feeds 0x1FFF 8192 8191 1
    -- guest memory that ends inside the page, though behind gpa; that ends inside the next one
    ∷ lacks 0 4095 0
    ∷ lacks 0x1000 8191 0
    ∷ lacks 0x1FFF 8191 0
    ∷ feeds 0xFFF 8191 4095 1
    -- that ends before the page; none at all; each rep flag
    ∷ lacks 0x1000 4096 0
    ∷ lacks 0x2000 8192 0
    ∷ lacks 0 0 0
    ∷ lacks 0 0 1
    ∷ lacks 0x1FFF 4096 1
    -- addresses alike in their low bytes; the last page's end is 2^64
    ∷ lacks 0x100000010 4096 0
    ∷ lacks 0xFFFFFFFFFFFFF000 4096 0
    ∷ lacks 0xFFFFFFFFFFFFFFFF 4096 0
    -- gva is known and past the context
    ∷ taken 0x1010 0x10 1 (context_data 0 0x1000 16 0) [] (says 12 (resume 0 0 0 lacked))
    -- it is the guest memory lent with the reply
    ∷ faulted unknown 0x10 1 (set_access 0 0 [] ∷ replies (context_data 0 0 0 0) [] ∷ []) (left (says 12 (resume 0 0 0 lacked)) out [] guarded (beside On 1 nobody))
    -- no error: with errors told by an event none goes, and the seq stays
    ∷ faulted unknown 0x10 1 (responses 0 1 1 ∷ replies (context_data 0 0 0 1) [] ∷ []) (left (says 12 (resume 0 0 1 lacked)) out [] guarded (beside ErrorsOnly 1 nobody))
    ∷ []

-- ---- actions, rep flags and accesses
-- by the event's access, action and rep flag: what is supplied; bytes are not wanted, supplied ones or a page's that is not there
abbrev pub supplies_for : ℕ → ℕ → Edge
supplies_for access rep = taken 0x1004 0x1004 access (context_data 0 0x1000 16 rep) [] (says 0 (resume 0 0 rep (of_reply 44 12)))

abbrev pub resumes_for : ℕ → ℕ → ℕ → ℕ → Edge
resumes_for gva access action rep = taken gva 0x1004 access (context_data action 0x1000 256 rep) [] (says 0 (resume 0 action rep unwanted))

abbrev pub crashes : ℕ → ℕ → ℕ → Edge
crashes gva size rep = taken gva 0x1004 1 (context_data 2 0x1000 size rep) [] (says 0 (Crash 0))

abbrev pub action_edges : List Edge
action_edges =
    -- a continue with bit R: bytes are wanted, whatever the other bits say
    map (λ access. supplies_for access 0) (3 ∷ 5 ∷ 7 ∷ 0x81 ∷ 0xFF ∷ [])
    ++ map (λ access. taken unknown 0x10 access (context_data 0 0 0 1) page (says 0 (resume 0 0 1 (of_guest 16 4080)))) (1 ∷ 7 ∷ [])
    ++ map (λ access. taken unknown 0x1004 access (context_data 0 0 0 0) page (says 12 (resume 0 0 0 lacked))) (3 ∷ 5 ∷ 0xFF ∷ [])
    -- without it: none, and no page is asked for
    ++ map (λ access. resumes_for 0x1004 access 0 0) (0 ∷ 2 ∷ 4 ∷ 6 ∷ 0xFE ∷ [])
    ++ map (λ access. resumes_for unknown access 0 1) (0 ∷ 2 ∷ 4 ∷ 6 ∷ 0xFE ∷ [])
    -- nor for a retry or a crash; each rep flag
    ++ (supplies_for 1 1
    ∷ resumes_for 0x1004 1 1 0
    ∷ resumes_for 0x1004 1 1 1
    ∷ resumes_for unknown 1 1 0
    ∷ resumes_for unknown 7 1 1
    ∷ resumes_for unknown 2 1 0
    ∷ crashes 0x1004 256 0
    ∷ crashes 0x1004 256 1
    ∷ crashes unknown 0 0
    ∷ crashes unknown 0 1
    -- the context's bytes are free, and so is its address
    ∷ taken 0x1004 0x1004 1 (take 32 (context_data 0 0x1000 16 0) ++ replicate 256 0xFF) [] (says 0 (resume 0 0 0 (of_reply 44 12)))
    ∷ taken unknown 0x1004 2 (take 32 (context_data 0 unknown 0 0) ++ replicate 256 0xFF) [] (says 0 (resume 0 0 0 unwanted))
    ∷ [])

-- ---- replies that close
-- with no guest memory: gva is in the context; gva is unknown, so that the reply set right would be 12
abbrev pub closes : ℕ → List ℕ → Edge
closes seq d = faulted 0x1004 0x10 1 (message (message_bytes 16 seq d) out [] ∷ []) (left (plain 1) out [] fresh_image shut)

abbrev pub closes_first : List ℕ → Edge
closes_first d = faulted unknown 0x10 1 (replies d [] ∷ []) (left (plain 1) out [] fresh_image shut)

-- by action: sizes above 256, none cut to its low bytes; rep flags above 1; padding
abbrev pub closes_by : ℕ → List Edge
closes_by action =
    map (λ size. closes 0 (context_data action 0x1000 size 0)) (257 ∷ 0x10010 ∷ 0x1000100 ∷ 0xFFFFFFFF ∷ [])
    ++ map (λ rep. closes 0 (context_data action 0x1000 16 rep)) (2 ∷ 255 ∷ [])
    ++ map (λ at. closes 0 (set (context_data action 0x1000 16 1) at 1)) (2 ∷ 7 ∷ 10 ∷ 15 ∷ 28 ∷ 30 ∷ 31 ∷ [])

-- a reply of the right size and form but of another event's number
abbrev pub naming : ℕ → List ℕ
naming event = answer_data 0 0 event ++ drop 16 (context_data 0 0x1000 16 0)

abbrev pub right : List ℕ
right = context_data 0 0x1000 16 0

abbrev pub closing_edges : List Edge
closing_edges =
    joined (map closes_by (0 ∷ 1 ∷ 2 ∷ []))
    -- before the page is asked for
    ++ map closes_first (context_data 0 0x1000 257 0 ∷ context_data 0 0x1000 16 2 ∷ set right 28 1 ∷ set right 31 0x80 ∷ take 287 right ∷ [])
    -- other actions
    ++ map (λ action. closes 0 (context_data action 0x1000 16 0)) (3 ∷ 4 ∷ 255 ∷ [])
    -- 0, 8, 16, 24, 32, 287 and 289 bytes of data; crashes too
    ++ map (λ n. closes 0 (take n right)) (0 ∷ 8 ∷ 16 ∷ 24 ∷ 32 ∷ 287 ∷ [])
    ++ (closes 0 (right ++ (0 ∷ []))
    ∷ closes 0 (take 16 (context_data 2 0 0 0))
    ∷ closes 0 (take 32 (context_data 2 0 0 0))
    -- another seq, in its first and in its last byte; another event; another vCPU
    ∷ closes 1 right
    ∷ closes 0x1000000 right
    ∷ map (λ event. closes 0 (naming event)) (0 ∷ 2 ∷ 5 ∷ 9 ∷ 11 ∷ 0x8A ∷ []))
    ++ map (λ vcpu. closes 0 (answer_data vcpu 0 10 ++ drop 16 right)) (1 ∷ 2 ∷ 0x100 ∷ [])
    -- a second time, after 0 and after 12; and with none awaited at all
    ++ (faulted 0x1004 0x10 1 (replies right page ∷ replies right page ∷ []) closing
    ∷ faulted unknown 0x10 1 (replies right [] ∷ replies right page ∷ []) closing
    ∷ started two (from_bytes guarded) (replies right page ∷ []) closing
    -- 288 bytes in reply to a pause and to CR, under either number
    ∷ afresh two (pauseSent ++ (replies (naming 2) page ∷ [])) closing
    ∷ afresh two (pauseSent ++ (replies right page ∷ [])) closing
    ∷ eventSent cr3 (replies (naming 5) page ∷ []) closing
    ∷ eventSent cr3 (replies right page ∷ []) closing
    ∷ [])

-- ---- between a fault and its reply, and after it
-- behind other calls it is fed as ever, from the reply or from the page; the image after it
abbrev pub fed_behind : List Call → List ℕ → List Edge
fed_behind calls image =
    faulted 0x1004 0x10 1 (calls ++ (replies right [] ∷ [])) (left (says 0 (resume 0 0 0 (of_reply 44 12))) out [] image (beside On 1 nobody))
    ∷ faulted unknown 0x10 1 (calls ++ (replies right page ∷ [])) (left (says 0 (resume 0 0 0 (of_guest 16 4080))) out page image (beside On 1 nobody))
    ∷ []

-- both vCPUs are asked; faults went to both, with seqs 0 and 1
abbrev pub both : List ℕ
both = vm ++ vc 0 1 0 0x0400 0 ++ vc 1 1 0 0x0400 0 ++ pa 0 0 1 ++ en 4

abbrev pub both_sent : List Call → Outcome → Edge
both_sent calls expected =
    started two (from_bytes both) (faults 0 (fault_own 0x1004 0x10 1 0) (lent 576) ∷ faults 1 (fault_own 0x2008 0xFFE 3 0) (lent 577) ∷ calls) expected

-- a continue of vCPU 1, by the context's address
abbrev pub right1 : ℕ → List ℕ
right1 address = answer_data 1 0 10 ++ drop 16 (context_data 0 address 16 1)

-- sixteen vCPUs, of which the last is asked
abbrev pub sixteen : List ℕ
sixteen = vm_of 16 ++ joined (map idle (take 15 to15)) ++ vc 15 1 0 0x0400 0 ++ pa 0 6 1 ++ en 18

abbrev pub after_edges : List Edge
after_edges =
    -- the page forgotten since, its access changed, the switch turned off, both
    fed_behind (set_access 1 0 (entry 0 7) ∷ []) (guarded_by 0x0400 [] 7)
    ++ fed_behind (set_access 1 0 (entry 0 3) ∷ []) (guarded_by 0x0400 (pa 0 0 3) 8)
    ++ fed_behind (control_event 0 10 0 ∷ []) (guarded_by 0 (pa 0 0 5) 8)
    ++ fed_behind (control_event 0 10 0 ∷ set_access 1 0 (entry 0 7) ∷ []) (guarded_by 0 [] 7)
    -- with an output of 4,111 bytes it is refused, and stays awaited
    ++ (faulted 0x1004 0x10 1 (message (message_bytes 16 0 right) (lent 4111) page ∷ [])
    (left (plain 3) (lent 4111) page guarded (beside On 1 (awaits_fault 0 0x1004 0x10 1 ∷ none ∷ [])))
    -- closing drops it
    ∷ faulted 0x1004 0x10 1 (message [] out page ∷ []) closing
    ∷ faulted 0x1004 0x10 1 (message [] out page ∷ replies right page ∷ []) (left (plain 2) out page fresh_image shut)
    -- the image is written after it, and after 12
    ∷ faulted 0x1004 0x10 1 (replies right [] ∷ write_image (lent 104) ∷ []) (gave (handled 104 Quiet) guarded [] guarded (beside On 1 nobody))
    ∷ faulted unknown 0x10 1 (replies right [] ∷ write_image (lent 104) ∷ []) (gave (handled 104 Quiet) guarded [] guarded (beside On 1 nobody))
    -- a second fault goes after 12, and its reply is read by what it said itself
    ∷ faulted unknown 0x10 1 (replies right [] ∷ faults 0 (fault_own 0x100F 0x1FFF 5 0) (lent 576) ∷ [])
    (gave (handled 576 Quiet) (fault_bytes 1 0 (fault_own 0x100F 0x1FFF 5 0)) [] guarded (beside On 2 (awaits_fault 1 0x100F 0x1FFF 5 ∷ none ∷ [])))
    ∷ faulted unknown 0x10 1 (replies right [] ∷ faults 0 (fault_own 0x100F 0x1FFF 5 0) (lent 576) ∷ send_as 1 16 right ∷ [])
    (left (says 0 (resume 0 0 0 (of_reply 55 1))) out page guarded (beside On 2 nobody))
    -- of two that are awaited, the one that is meant
    ∷ both_sent [] (gave (handled 576 Quiet) (fault_bytes 1 1 (fault_own 0x2008 0xFFE 3 0)) (lent 577) both (beside On 2 (awaits_fault 0 0x1004 0x10 1 ∷ awaits_fault 1 0x2008 0xFFE 3 ∷ [])))
    ∷ both_sent (send_as 1 16 (right1 0x2000) ∷ []) (left (says 0 (resume 1 0 1 (of_reply 48 8))) out page both (beside On 2 (awaits_fault 0 0x1004 0x10 1 ∷ none ∷ [])))
    ∷ both_sent (send_as 1 16 (right1 0x1000) ∷ []) (left (says 0 (resume 1 0 1 (of_guest 4094 2))) out page both (beside On 2 (awaits_fault 0 0x1004 0x10 1 ∷ none ∷ [])))
    ∷ both_sent (send_as 0 16 right ∷ []) (left (says 0 (resume 0 0 0 (of_reply 44 12))) out page both (beside On 2 (none ∷ awaits_fault 1 0x2008 0xFFE 3 ∷ [])))
    ∷ both_sent (send_as 0 16 (right1 0x2000) ∷ []) closing
    -- of the last vCPU
    ∷ started (sized 16 1) (from_bytes sixteen) (faults 15 (fault_own 0x1004 0x6000 1 0) (lent 576) ∷ send_as 0 16 (answer_data 15 0 10 ++ drop 16 right) ∷ [])
    (left (says 0 (resume 15 0 0 (of_reply 44 12))) out page sixteen (beside On 1 (replicate 16 none)))
    ∷ [])

abbrev pub of_faults : List Edge
of_faults = entry_edges ++ refusal_edges ++ context_edges ++ guest_edges ++ action_edges ++ closing_edges ++ after_edges

-- ---- in one write
-- a reply with seq 0, 296 bytes
abbrev pub reply_message : List ℕ → List ℕ
reply_message d = message_bytes 16 0 d

-- page 0 guarded, with pauses of vCPU 0
abbrev pub page0 : ℕ → List ℕ
page0 queued = paged 0x0400 queued (pa 0 0 5) 4

-- a fault was sent to vCPU 0, by gva: input, what is lent, what is told, bytes, signals, image, and what is beside
abbrev pub in_write : ℕ → List ℕ → Lends → Says → List ℕ → List ℕ → List ℕ → Beside → BatchEdge
in_write gva input l t bytes signals image b = from two (from_bytes (page0 0)) (faults 0 (fault_own gva 0x10 1 0) (lent 576) ∷ []) input l t bytes signals image b

-- ended by 12: input bytes used, output bytes written, signals listed, rep flag
abbrev pub ended12 : ℕ → ℕ → ℕ → ℕ → Says
ended12 used count listed rep = record { number = 12; used = used; count = count; listed = listed; resume = Some (resumption 0 0 rep lacked) }

abbrev pub lacked_behind : BatchEdge
lacked_behind = in_write unknown (version ++ pauses 0 1 ++ reply_message right ++ version) (lends 4200 2) (ended12 328 48 1 0) (version_bytes ++ reply 9 c0) (257 ∷ []) (page0 1) (beside On 1 nobody)

abbrev pub of_fault_batches : List BatchEdge
of_fault_batches =
    -- supplied bytes are a part of the input: of its first message, its second, its third; what is behind is unused
    in_write 0x1004 (reply_message right ++ version) (lends 4112 1) (resumed 296 0 0 (resumption 0 0 0 (of_reply 44 12))) [] [] (page0 0) (beside On 1 nobody)
    ∷ in_write 0x1004 (version ++ reply_message right ++ version) (lends 4200 1) (resumed 304 32 0 (resumption 0 0 0 (of_reply 52 12))) version_bytes [] (page0 0) (beside On 1 nobody)
    ∷ in_write 0x100F (version ++ pauses 0 1 ++ reply_message (context_data 0 0x1000 16 1)) (lends 4200 2) (resumed 328 48 1 (resumption 0 0 1 (of_reply 87 1))) (version_bytes ++ reply 9 c0) (257 ∷ []) (page0 1) (beside On 1 nobody)
    -- behind 264 bytes; behind a message that forgets the page
    ∷ in_write 0x1004 (msg 17 (replicate 256 0) ++ reply_message right) (lends 4200 1) (resumed 560 16 0 (resumption 0 0 0 (of_reply 308 12))) (reply 17 c1000) [] (page0 0) (beside On 1 nobody)
    ∷ in_write 0x1004 (msg 13 (access_data 1 0 (entry 0 7)) ++ reply_message right) (lends 4200 1) (resumed 328 16 0 (resumption 0 0 0 (of_reply 76 12))) (reply 13 c0) [] (paged 0x0400 0 [] 3) (beside On 1 nobody)
    -- a page's are where they are; also of a page that was written just before
    ∷ in_write unknown (reply_message right ++ three) (lends_page 4112 1) (resumed 296 0 0 (resumption 0 0 0 (of_guest 16 4080))) [] [] (page0 0) (beside On 1 nobody)
    ∷ in_write unknown (version ++ reply_message right) (lends_page 4200 1) (resumed 304 32 0 (resumption 0 0 0 (of_guest 16 4080))) version_bytes [] (page0 0) (beside On 1 nobody)
    ∷ onto two (from_bytes (page0 0)) (faults 0 (fault_own unknown 0 1 0) (lent 576) ∷ []) (pokes 5 ++ reply_message right) (lends_page 4200 1) (resumed 321 16 0 (resumption 0 0 0 (of_guest 0 4096))) (reply 7 c0) [] (5 ∷ drop 1 page) (page0 0) (beside On 1 nobody)
    -- a retry has none, wherever it is
    ∷ in_write 0x1004 (version ++ reply_message (context_data 1 0x1000 16 1) ++ version) (lends 4200 1) (resumed 304 32 0 (resumption 0 1 1 unwanted)) version_bytes [] (page0 0) (beside On 1 nobody)
    -- 12 ends it, and is used: alone, with a rest, with a cut rest, behind others, whose counts stand
    ∷ in_write unknown (reply_message right) (lends 4112 1) (ended12 296 0 0 0) [] [] (page0 0) (beside On 1 nobody)
    ∷ in_write unknown (reply_message (context_data 0 0 0 1) ++ version) (lends 4112 1) (ended12 296 0 0 1) [] [] (page0 0) (beside On 1 nobody)
    ∷ in_write unknown (version ++ reply_message right ++ three) (lends 4200 1) (ended12 304 32 0 0) version_bytes [] (page0 0) (beside On 1 nobody)
    ∷ lacked_behind
    -- a crash goes on; a reply that closes ends it, before the page is asked for
    ∷ in_write unknown (reply_message (context_data 2 0 0 1) ++ version) (lends 4112 2) (did 0 304 32 1) version_bytes (512 ∷ []) (page0 0) (beside On 1 nobody)
    ∷ in_write unknown (version ++ reply_message (context_data 0 0x1000 257 0) ++ version) (lends 4200 1) (did 1 304 32 0) version_bytes [] fresh_image shut
    -- refused, or without room, it leaves the reply awaited
    ∷ in_write unknown (reply_message right) (lends 4111 1) (did 3 0 0 0) [] [] (page0 0) (beside On 1 (awaits_fault 0 unknown 0x10 1 ∷ none ∷ []))
    ∷ in_write unknown (reply_message right) (lends 4112 0) (did 11 0 0 0) [] [] (page0 0) (beside On 1 (awaits_fault 0 unknown 0x10 1 ∷ none ∷ []))
    ∷ in_write unknown (version ++ reply_message right) (lends 4143 1) (did 0 8 32 0) version_bytes [] (page0 0) (beside On 1 (awaits_fault 0 unknown 0x10 1 ∷ none ∷ []))
    ∷ []

-- the single calls that a write ended by 12 stands for
abbrev pub fault_calls : List Call
fault_calls = used_at lacked_behind

abbrev pub fault_calls_seen : List Call
fault_calls_seen = message version (lent 4200) [] ∷ message (pauses 0 1) (lent 4168) [] ∷ message (reply_message right) (lent 4152) [] ∷ []
