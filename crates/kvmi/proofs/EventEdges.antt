-- Edges of the events that an entry is offered: what goes out and what is passed over, refusals, who waits, and the replies.
use Prim.Native.Nat.{ℕ, zero, suc, ◌-◌}
use mathlib.Core.List.{List, [], ◌∷◌, ◌++◌, map}
use mathlib.Core.Bool.{true}
use mathlib.Core.Option.{Option, none}
use lib.ListN.{take, drop, set, replicate}
use Rattle.wire.specs.Bytes.{le}
use Rattle.kvmi.specs.declared.ReplyMode.{ReplyMode}
use Rattle.kvmi.specs.declared.ReplyMode.TheVariants.{On, Off, ErrorsOnly}
use Rattle.kvmi.specs.declared.Signal.TheVariants.{Quiet, Crash}
use Rattle.kvmi.specs.Feed.{unfed}
use Rattle.kvmi.specs.Answer.{handled, plain, resume}
use Rattle.kvmi.specs.Tables.{with_ready, with_events}
use Rattle.kvmi.specs.declared.Awaited.{Awaited}
use Rattle.kvmi.specs.Model.{fresh, with_seq, on_vcpu}
use Rattle.kvmi.specs.Call.{Call, message, ready, enter, write_image}
use Rattle.kvmi.specs.Case.{from_bytes, standing, two, out, page, send, pause, control_msr, vm, vc, en, fresh_image}
use Rattle.kvmi.proofs.Edge.{Outcome, Edge, sized, equipped, lent, registers, naming, answer_data, control_vm_event, control_event, control_cr, responses, send_as, to15, vm_has, vm_of, idle, ms, joined, pause_bytes, beside, nobody, awaits, awaits_of, quiet, shut, told, gave, closing, started}

-- ---- the events
-- n bytes, each one more than the one before it
abbrev pub rising : ℕ → ℕ → List ℕ
rising x zero = []
rising x (suc n) = x ∷ rising (suc x) n

pub record Event : Type 0 where
  pub number : ℕ
  -- its own bytes; their padding is not zero
  pub own : List ℕ
  -- its switches in an image: the VM's event bits; CR bits and event bits of vCPU 0; what follows the VCs
  pub vm_bits : ℕ
  pub crs : ℕ
  pub bits : ℕ
  pub behind : List ℕ
  -- the bytes of its message, and the low byte of its size field, whose high byte is 2
  pub count : ℕ
  pub size : ℕ
  -- its reply's data behind the first 16 bytes, and the value of a resume
  pub rest : List ℕ
  pub value : ℕ

-- number, own bytes, the VM's bits and the vCPU's, bytes of its message, low byte of its size; a reply of 16 bytes
abbrev pub plain_event : ℕ → List ℕ → ℕ → ℕ → ℕ → ℕ → Event
plain_event number own vm_bits bits count size =
    record { number = number; own = own; vm_bits = vm_bits; crs = 0; bits = bits; behind = en 3; count = count; size = size; rest = []; value = 0 }

-- of a register: number, own bytes, CR bits, event bits, what follows the VCs; the new value, as bytes and as a number
abbrev pub register_event : ℕ → List ℕ → ℕ → ℕ → List ℕ → List ℕ → ℕ → Event
register_event number own crs bits behind rest value =
    record { number = number; own = own; vm_bits = 0; crs = crs; bits = bits; behind = behind; count = 576; size = 0x38; rest = rest; value = value }

abbrev pub hypercall : Event
hypercall = plain_event 3 [] 0 0x0008 552 0x20

abbrev pub breakpoint : Event
breakpoint = plain_event 4 (rising 0x11 16) 0 0x0010 568 0x30

-- the register's number, then other bytes
abbrev pub cr_own : ℕ → List ℕ
cr_own cr = le 2 cr ++ rising 0x61 22

abbrev pub cr3 : Event
cr3 = register_event 5 (cr_own 3) 2 0x0020 (en 3) (0x88 ∷ 0x77 ∷ 0x66 ∷ 0x55 ∷ 0x44 ∷ 0x33 ∷ 0x22 ∷ 0x11 ∷ []) 0x1122334455667788

abbrev pub xsetbv : Event
xsetbv = plain_event 7 [] 0 0x0080 552 0x20

abbrev pub descriptor : Event
descriptor = plain_event 8 (rising 0x21 8) 0 0x0100 560 0x28

abbrev pub msr_own : ℕ → List ℕ
msr_own msr = le 4 msr ++ rising 0x71 20

abbrev pub efer : Event
efer =
    register_event 9 (msr_own 0xC0000080) 0 0x0200 (ms 0 0xC0000080 ++ en 4) (1 ∷ 2 ∷ 3 ∷ 4 ∷ 5 ∷ 6 ∷ 7 ∷ 0x88 ∷ []) 0x8807060504030201

abbrev pub stepped : Event
stepped = plain_event 11 (rising 0x31 8) 0 0x0800 560 0x28

abbrev pub create_vcpu : Event
create_vcpu = plain_event 12 [] 0x1000 0 552 0x20

abbrev pub cpuid : Event
cpuid = plain_event 14 (rising 0x41 16) 0 0x4000 568 0x30

-- those with no bytes of their own; those with some whose reply has 16 data bytes, and 24
abbrev pub bare : List Event
bare = hypercall ∷ xsetbv ∷ create_vcpu ∷ []

abbrev pub detailed : List Event
detailed = breakpoint ∷ descriptor ∷ stepped ∷ cpuid ∷ []

abbrev pub valued : List Event
valued = cr3 ∷ efer ∷ []

abbrev pub events : List Event
events = bare ++ detailed ++ valued

-- ---- images of two vCPUs
-- an event's switches alone, with pauses queued at vCPU 0
abbrev pub asking : Event → ℕ → List ℕ
asking e pauses = vm_has e.vm_bits ++ vc 0 1 e.crs e.bits pauses ++ idle 1 ++ e.behind

-- all but its event switch, and all of vCPU 1; vCPU 0 is in singlestep
abbrev pub all_but : Event → ℕ → List ℕ
all_but e pauses = vm_has (0x1002 - e.vm_bits) ++ vc 0 3 7 (0x4FB8 - e.bits) pauses ++ vc 1 3 7 0x4FB8 2 ++ ms 0 0xC0000080 ++ ms 1 0xC0000080 ++ en 5

-- all
abbrev pub all : ℕ → List ℕ
all pauses = vm_has 0x1002 ++ vc 0 3 7 0x4FB8 pauses ++ vc 1 3 7 0x4FB8 2 ++ ms 0 0xC0000080 ++ ms 1 0xC0000080 ++ en 5

-- ---- calls and bytes
abbrev pub offer : ℕ → Event → List ℕ → Call
offer vcpu e out = enter vcpu registers e.number e.own out

-- no event is offered
abbrev pub enters : ℕ → Call
enters vcpu = enter vcpu registers 0 [] (lent 576)

-- the event, by seq and vCPU
abbrev pub offered : ℕ → ℕ → Event → List ℕ
offered seq vcpu e = 17 ∷ 0 ∷ e.size ∷ 2 ∷ le 4 seq ++ (0x20 ∷ 2 ∷ vcpu ∷ 0 ∷ e.number ∷ 0 ∷ 0 ∷ 0 ∷ registers) ++ e.own

-- vCPU 0 awaits its reply, by seq
abbrev pub waits : ℕ → Event → List (Option Awaited)
waits seq e = awaits_of e.number seq ∷ none ∷ []

-- vCPU, action
abbrev pub reply_to : Event → ℕ → ℕ → List ℕ
reply_to e vcpu action = answer_data vcpu action e.number ++ e.rest

-- ---- an offer
abbrev pub goes : ℕ → Event → Edge
goes pauses e =
    started two (from_bytes (asking e pauses)) (offer 0 e (lent 580) ∷ [])
    (gave (handled e.count Quiet) (offered 0 0 e) (lent 580) (asking e pauses) (beside On 1 (waits 0 e)))

abbrev pub passed_over : Event → Edge
passed_over e = started two (from_bytes (all_but e 0)) (offer 0 e (lent 580) ∷ []) (gave (handled 0 Quiet) [] (lent 580) (all_but e 0) quiet)

abbrev pub pause_instead : Event → Edge
pause_instead e =
    started two (from_bytes (all_but e 3)) (offer 0 e (lent 580) ∷ [])
    (gave (handled 552 Quiet) (pause_bytes 0 0) (lent 580) (all_but e 2) (beside On 1 (awaits 0 ∷ none ∷ [])))

-- answer 5: an image, a number, and bytes
abbrev pub unfit : List ℕ → ℕ → List ℕ → Edge
unfit image number own = started two (from_bytes image) (enter 0 registers number own (lent 576) ∷ []) (gave (plain 5) [] (lent 576) image quiet)

-- an event with other bytes, switched on and off
abbrev pub misfit : Event → List ℕ → List Edge
misfit e own = unfit (asking e 1) e.number own ∷ unfit (all_but e 1) e.number own ∷ []

abbrev pub offer_edges : List Edge
offer_edges =
    -- what is asked for goes out, and pauses stay queued; what is not is passed over, and a pause goes instead
    map (goes 0) events ++ map (goes 3) events ++ map passed_over events ++ map pause_instead events
    -- one byte more, one byte fewer
    ++ joined (map (λ (e : Event). misfit e (e.own ++ (0 ∷ []))) events) ++ joined (map (λ (e : Event). misfit e (drop 1 e.own)) (detailed ++ valued))
    -- other numbers, with every switch on, none cut to its low bytes; and 0 with bytes
    ++ map (λ number. unfit (all 3) number []) (1 ∷ 2 ∷ 6 ∷ 10 ∷ 13 ∷ 15 ∷ 16 ∷ 255 ∷ 0x103 ∷ 0x10003 ∷ [])
    ++ map (λ number. unfit (all 3) number (cr_own 3)) (0x10005 ∷ 0x100000005 ∷ [])
    ++ map (λ own. unfit (all 3) 0 own) ((0 ∷ []) ∷ cr_own 3 ∷ [])

-- ---- the register that an event names
-- an image with its event switch on, and its own bytes: it goes out, it is passed over
abbrev pub names_on : Event → List ℕ → List ℕ → Edge
names_on e image own =
    started two (from_bytes image) (enter 0 registers e.number own (lent 576) ∷ [])
    (gave (handled 576 Quiet) (17 ∷ 0 ∷ 0x38 ∷ 2 ∷ 0 ∷ 0 ∷ 0 ∷ 0 ∷ 0x20 ∷ 2 ∷ 0 ∷ 0 ∷ e.number ∷ 0 ∷ 0 ∷ 0 ∷ registers ++ own) [] image (beside On 1 (waits 0 e)))

abbrev pub names_off : Event → List ℕ → List ℕ → Edge
names_off e image own = started two (from_bytes image) (enter 0 registers e.number own (lent 576) ∷ []) (gave (handled 0 Quiet) [] (lent 576) image quiet)

-- by CR bits of vCPU 0; vCPU 1 has all
abbrev pub cr_image : ℕ → List ℕ
cr_image crs = vm ++ vc 0 1 crs 0x20 0 ++ vc 1 1 7 0x20 0 ++ en 3

-- MSRs 0, 0x1FFF, 0xC0000000 and 0xC0001FFF of vCPU 0, and 0x174 of vCPU 1
abbrev pub msr_image : List ℕ
msr_image = vm ++ vc 0 1 0 0x200 0 ++ vc 1 1 0 0x200 0 ++ ms 0 0 ++ ms 0 0x1FFF ++ ms 0 0xC0000000 ++ ms 0 0xC0001FFF ++ ms 1 0x174 ++ en 8

abbrev pub register_edges : List Edge
register_edges =
    -- one CR's switch alone, and all but one's
    names_on cr3 (cr_image 1) (cr_own 0)
    ∷ names_on cr3 (cr_image 2) (cr_own 3)
    ∷ names_on cr3 (cr_image 4) (cr_own 4)
    ∷ names_off cr3 (cr_image 6) (cr_own 0)
    ∷ names_off cr3 (cr_image 5) (cr_own 3)
    ∷ names_off cr3 (cr_image 3) (cr_own 4)
    -- others have no switch; the number has two bytes
    ∷ map (λ cr. names_off cr3 (cr_image 7) (cr_own cr)) (1 ∷ 2 ∷ 5 ∷ 8 ∷ 0x100 ∷ 0x103 ∷ 0xFFFF ∷ [])
    -- the ends of both ranges; beside them there are no switches; the number has four bytes, and is looked up for this vCPU
    ++ map (λ msr. names_on efer msr_image (msr_own msr)) (0 ∷ 0x1FFF ∷ 0xC0000000 ∷ 0xC0001FFF ∷ [])
    ++ map (λ msr. names_off efer msr_image (msr_own msr)) (1 ∷ 0x174 ∷ 0x1FFE ∷ 0x2000 ∷ 0x10000 ∷ 0xBFFFFFFF ∷ 0xC0000001 ∷ 0xC0002000 ∷ 0xFFFFFFFF ∷ [])

-- ---- the order of refusals, and waiting
-- an event was sent with seq 0
abbrev pub sent : Event → List Call → Outcome → Edge
sent e calls expected = started two (from_bytes (asking e 0)) (offer 0 e (lent 576) ∷ calls) expected

-- then a call is refused, with an output
abbrev pub refused_after : Event → ℕ → (List ℕ → Call) → List ℕ → Edge
refused_after e k call out = sent e (call out ∷ []) (gave (plain k) [] out (asking e 0) (beside On 1 (waits 0 e)))

-- no event goes, offered or not, and no image is written
abbrev pub waiting : Event → List Edge
waiting e =
    refused_after e 6 (enter 0 registers 0 []) (lent 576)
    ∷ refused_after e 6 (offer 0 e) (lent 576)
    ∷ refused_after e 10 write_image (lent 80)
    ∷ []

-- the same with nothing sent
abbrev pub refused : List ℕ → ℕ → (List ℕ → Call) → List ℕ → Edge
refused image k call out = started two (from_bytes image) (call out ∷ []) (gave (plain k) [] out image quiet)

abbrev pub order_edges : List Edge
order_edges =
    -- 2, 4, 5, 3, 6: each before those behind it
    started two (from_bytes (all 3)) (message [] out page ∷ enter 2 [] 1 [] (lent 5) ∷ []) (gave (plain 2) [] (lent 5) fresh_image shut)
    ∷ started two (from_bytes (all 3)) (message [] out page ∷ offer 0 cr3 (lent 576) ∷ []) (gave (plain 2) [] (lent 576) fresh_image shut)
    ∷ refused_after hypercall 4 (enter 2 registers 1 []) (lent 575)
    ∷ refused_after hypercall 4 (offer 2 cr3) (lent 576)
    ∷ refused_after hypercall 5 (enter 0 registers 1 []) (lent 575)
    ∷ refused_after hypercall 5 (enter 0 registers 5 []) (lent 575)
    ∷ refused_after hypercall 5 (enter 0 registers 0 (0 ∷ [])) (lent 575)
    ∷ refused_after hypercall 5 (enter 0 (drop 1 registers) 3 []) (lent 575)
    ∷ refused_after hypercall 3 (offer 0 hypercall) (lent 575)
    ∷ refused_after hypercall 5 (enter 0 registers 1 []) (lent 576)
    -- 575 bytes are short and 576 are not, whatever is sent
    ∷ refused (asking cr3 0) 3 (offer 0 cr3) (lent 575)
    ∷ refused (asking hypercall 0) 3 (offer 0 hypercall) (lent 575)
    ∷ refused (all_but hypercall 0) 3 (offer 0 hypercall) (lent 575)
    ∷ refused (all_but hypercall 1) 3 (enter 0 registers 0 []) (lent 575)
    ∷ started two (from_bytes (asking cr3 0)) (offer 0 cr3 (lent 576) ∷ []) (gave (handled 576 Quiet) (offered 0 0 cr3) [] (asking cr3 0) (beside On 1 (waits 0 cr3)))
    ∷ started two (from_bytes (all_but hypercall 0)) (offer 0 hypercall (lent 576) ∷ []) (gave (handled 0 Quiet) [] (lent 576) (all_but hypercall 0) quiet)
    -- a reply is awaited: 6 and 10, with nothing to send too
    ∷ joined (map waiting events)
    -- the other vCPU does not wait
    ++ (sent cr3 (enters 1 ∷ []) (gave (handled 0 Quiet) [] (lent 576) (asking cr3 0) (beside On 1 (waits 0 cr3))) ∷ [])

-- ---- replies
-- one with other data closes the session
abbrev pub closes_by : (Event → List ℕ) → Event → Edge
closes_by d e = sent e (send_as 0 16 (d e) ∷ []) closing

-- one behind other calls is taken; the image and the reply mode after it
abbrev pub resumes_behind : List Call → List ℕ → ReplyMode → ℕ → Event → Edge
resumes_behind calls image mode action e =
    sent e (calls ++ (send_as 0 16 (reply_to e 0 action) ∷ [])) (told (handled 0 (resume 0 action e.value unfed)) [] image (beside mode 1 nobody))

abbrev pub resumes : ℕ → Event → Edge
resumes action e = resumes_behind [] (asking e 0) On action e

abbrev pub crashes : Event → Edge
crashes e = sent e (send_as 0 16 (reply_to e 0 2) ∷ []) (told (handled 0 (Crash 0)) [] (asking e 0) (beside On 1 nobody))

-- of CR, by seq and data
abbrev pub wrong : ℕ → List ℕ → Edge
wrong seq d = sent cr3 (send_as seq 16 d ∷ []) closing

abbrev pub event_reply_edges : List Edge
event_reply_edges =
    -- actions 0, 1, 2, 3
    map (resumes 0) events
    ++ map (resumes 1) (breakpoint ∷ descriptor ∷ [])
    ++ map (closes_by (λ e. reply_to e 0 1)) (bare ++ (stepped ∷ cpuid ∷ cr3 ∷ efer ∷ []))
    ++ map crashes events
    ++ map (closes_by (λ e. reply_to e 0 3)) events
    -- of 16 and 24 data bytes the other; 8; 32
    ++ map (closes_by (λ e. reply_to e 0 0 ++ replicate 8 0)) (bare ++ detailed)
    ++ map (closes_by (λ e. take 16 (reply_to e 0 0))) valued
    ++ map (closes_by (λ e. take 8 (reply_to e 0 0))) events
    ++ map (closes_by (λ e. reply_to e 0 0 ++ replicate 16 0)) (bare ++ detailed)
    ++ map (closes_by (λ e. reply_to e 0 0 ++ replicate 8 0)) valued
    -- of CR: another seq, in its first and in its last byte; another event; another vCPU; padding; one byte fewer, one more; a second time
    ++ map (λ seq. wrong seq (reply_to cr3 0 0)) (1 ∷ 0x1000000 ∷ [])
    ++ map (λ number. wrong 0 (answer_data 0 0 number ++ cr3.rest)) (0 ∷ 2 ∷ 3 ∷ 9 ∷ 13 ∷ [])
    ++ map (λ vcpu. wrong 0 (reply_to cr3 vcpu 0)) (1 ∷ 2 ∷ 0x100 ∷ [])
    ++ map (λ at. wrong 0 (set (reply_to cr3 0 0) at 1)) (2 ∷ 7 ∷ 10 ∷ 15 ∷ [])
    ++ map (wrong 0) (take 23 (reply_to cr3 0 0) ∷ (reply_to cr3 0 0 ++ (0 ∷ [])) ∷ answer_data 0 0 3 ∷ [])
    ++ (sent cr3 (send_as 0 16 (reply_to cr3 0 0) ∷ send_as 0 16 (reply_to cr3 0 0) ∷ []) closing
    -- any new value
    ∷ sent cr3 (send_as 0 16 (answer_data 0 0 5 ++ replicate 8 0) ∷ []) (told (handled 0 (resume 0 0 0 unfed)) [] (asking cr3 0) (beside On 1 nobody))
    ∷ sent cr3 (send_as 0 16 (answer_data 0 0 5 ++ replicate 8 0xFF) ∷ []) (told (handled 0 (resume 0 0 0xFFFFFFFFFFFFFFFF unfed)) [] (asking cr3 0) (beside On 1 nobody))
    -- a switch turned off since does not matter, nor does the reply mode
    ∷ resumes_behind (control_event 0 5 0 ∷ []) (vm ++ vc 0 1 2 0 0 ++ idle 1 ++ en 3) On 0 cr3
    ∷ resumes_behind (control_cr 0 3 0 ∷ []) (vm ++ vc 0 1 0 0x20 0 ++ idle 1 ++ en 3) On 0 cr3
    ∷ resumes_behind (control_event 0 9 0 ∷ []) (vm ++ vc 0 1 0 0 0 ++ idle 1 ++ ms 0 0xC0000080 ++ en 4) On 0 efer
    ∷ resumes_behind (control_msr 0 0xC0000080 0 ∷ []) (vm ++ vc 0 1 0 0x200 0 ++ idle 1 ++ en 3) On 0 efer
    ∷ resumes_behind (control_vm_event 12 0 ∷ []) (vm ++ vc 0 1 0 0 0 ++ idle 1 ++ en 3) On 0 create_vcpu
    ∷ resumes_behind (responses 0 1 0 ∷ []) (asking cr3 0) Off 0 cr3
    ∷ resumes_behind (responses 0 1 1 ∷ []) (asking breakpoint 0) ErrorsOnly 1 breakpoint
    -- after it the image is written, a queued pause goes, and the event goes again
    ∷ sent cr3 (send_as 0 16 (reply_to cr3 0 0) ∷ write_image (lent 34) ∷ []) (gave (handled 34 Quiet) (asking cr3 0) [] (asking cr3 0) (beside On 1 nobody))
    ∷ sent cr3 (send_as 0 16 (reply_to cr3 0 0) ∷ pause 0 ∷ enters 0 ∷ []) (gave (handled 552 Quiet) (pause_bytes 1 0) (lent 576) (asking cr3 0) (beside On 2 (awaits 1 ∷ none ∷ [])))
    ∷ sent cr3 (send_as 0 16 (reply_to cr3 0 0) ∷ offer 0 cr3 (lent 576) ∷ []) (gave (handled 576 Quiet) (offered 1 0 cr3) [] (asking cr3 0) (beside On 2 (waits 1 cr3)))
    ∷ [])

-- ---- several events, and their seq
-- no vCPU is ready; event 12 is on
abbrev pub newborn : List ℕ
newborn = vm_has 0x1000 ++ idle 0 ++ idle 1 ++ en 3

-- CREATE_VCPU went out for vCPU 1
abbrev pub born : List Call → Outcome → Edge
born calls expected = started two (from_bytes newborn) (offer 1 create_vcpu (lent 580) ∷ calls) expected

-- vCPU 0 is asked for CR3, vCPU 1 for MSR 0xC0000080
abbrev pub both : List ℕ
both = vm ++ vc 0 1 2 0x20 0 ++ vc 1 1 0 0x200 0 ++ ms 1 0xC0000080 ++ en 4

abbrev pub both_sent : List Call → Outcome → Edge
both_sent calls expected = started two (from_bytes both) (offer 0 cr3 (lent 576) ∷ offer 1 efer (lent 576) ∷ calls) expected

-- vCPU 0 is asked for HYPERCALL, and the next event has a given seq
abbrev pub hypercall_at : ℕ → List Call → Outcome → Edge
hypercall_at seq calls expected = started two (standing (with_seq (on_vcpu (fresh two) 0 (λ v. with_events (with_ready v true) 8)) seq)) (offer 0 hypercall (lent 576) ∷ calls) expected

-- sixteen vCPUs, and the last one is asked for HYPERCALL
abbrev pub sixteen : List ℕ
sixteen = vm_of 16 ++ joined (map idle (take 15 to15)) ++ vc 15 1 0 0x8 0 ++ en 17

abbrev pub sequence_edges : List Edge
sequence_edges =
    -- CREATE_VCPU of a vCPU that is not ready: sent, awaited, and its reply taken, though it is ready by then
    born [] (gave (handled 552 Quiet) (offered 0 1 create_vcpu) (lent 580) newborn (beside On 1 (none ∷ awaits_of 12 0 ∷ [])))
    ∷ born (enters 1 ∷ []) (gave (plain 6) [] (lent 576) newborn (beside On 1 (none ∷ awaits_of 12 0 ∷ [])))
    ∷ born (write_image (lent 34) ∷ []) (gave (plain 10) [] (lent 34) newborn (beside On 1 (none ∷ awaits_of 12 0 ∷ [])))
    ∷ born (send_as 0 16 (reply_to create_vcpu 1 0) ∷ []) (told (handled 0 (resume 1 0 0 unfed)) [] newborn (beside On 1 nobody))
    ∷ born (send_as 0 16 (reply_to create_vcpu 1 2) ∷ []) (told (handled 0 (Crash 1)) [] newborn (beside On 1 nobody))
    ∷ born (ready 1 ∷ send_as 0 16 (reply_to create_vcpu 1 0) ∷ []) (told (handled 0 (resume 1 0 0 unfed)) [] (vm_has 0x1000 ++ idle 0 ++ vc 1 1 0 0 0 ++ en 3) (beside On 1 nobody))
    ∷ born (message [] out page ∷ []) closing
    -- SINGLESTEP asks for no feature
    ∷ started (equipped 0 1 0) (from_bytes (asking stepped 0)) (offer 0 stepped (lent 576) ∷ []) (gave (handled 560 Quiet) (offered 0 0 stepped) (lent 576) (asking stepped 0) (beside On 1 (waits 0 stepped)))
    -- with replies off events go out
    ∷ started two (from_bytes (asking cr3 0)) (responses 0 1 0 ∷ offer 0 cr3 (lent 576) ∷ []) (gave (handled 576 Quiet) (offered 0 0 cr3) [] (asking cr3 0) (beside Off 1 (waits 0 cr3)))
    -- what was passed over is not kept
    ∷ started two (from_bytes (all_but cpuid 0)) (offer 0 cpuid (lent 576) ∷ control_event 0 14 1 ∷ enters 0 ∷ []) (gave (handled 0 Quiet) [] (lent 576) (all 0) quiet)
    -- while a pause's reply is awaited, no event goes
    ∷ started two (from_bytes (asking cr3 1)) (enters 0 ∷ offer 0 cr3 (lent 576) ∷ []) (gave (plain 6) [] (lent 576) (asking cr3 0) (beside On 1 (awaits 0 ∷ none ∷ [])))
    -- the seq of an error's event, then this one's, then a pause's
    ∷ started two (from_bytes (asking cr3 0)) (responses 0 1 1 ∷ send 2 (naming 0) ∷ offer 0 cr3 (lent 576) ∷ []) (gave (handled 576 Quiet) (offered 1 0 cr3) [] (asking cr3 0) (beside ErrorsOnly 2 (waits 1 cr3)))
    ∷ sent cr3 (ready 1 ∷ pause 1 ∷ enters 1 ∷ []) (gave (handled 552 Quiet) (pause_bytes 1 1) (lent 576) (vm ++ vc 0 1 2 0x20 0 ++ vc 1 1 0 0 0 ++ en 3) (beside On 2 (awaits_of 5 0 ∷ awaits 1 ∷ [])))
    -- of two that are awaited, the one that is meant
    ∷ both_sent [] (gave (handled 576 Quiet) (offered 1 1 efer) [] both (beside On 2 (awaits_of 5 0 ∷ awaits_of 9 1 ∷ [])))
    ∷ both_sent (send_as 1 16 (reply_to efer 1 0) ∷ []) (told (handled 0 (resume 1 0 efer.value unfed)) [] both (beside On 2 (awaits_of 5 0 ∷ none ∷ [])))
    ∷ both_sent (send_as 0 16 (reply_to cr3 0 2) ∷ []) (told (handled 0 (Crash 0)) [] both (beside On 2 (none ∷ awaits_of 9 1 ∷ [])))
    ∷ both_sent (send_as 0 16 (reply_to efer 1 0) ∷ []) closing
    ∷ both_sent (send_as 1 16 (reply_to cr3 1 0) ∷ []) closing
    -- of the last vCPU
    ∷ started (sized 16 1) (from_bytes sixteen) (offer 15 hypercall (lent 576) ∷ []) (gave (handled 552 Quiet) (offered 0 15 hypercall) (lent 576) sixteen (beside On 1 (replicate 15 none ++ (awaits_of 3 0 ∷ []))))
    ∷ started (sized 16 1) (from_bytes sixteen) (offer 15 hypercall (lent 576) ∷ send_as 0 16 (reply_to hypercall 15 0) ∷ []) (told (handled 0 (resume 15 0 0 unfed)) [] sixteen (beside On 1 (replicate 16 none)))
    -- the seq has four bytes, and goes from 4,294,967,295 to 0
    ∷ hypercall_at 0x04030201 [] (gave (handled 552 Quiet) (17 ∷ 0 ∷ 0x20 ∷ 2 ∷ 1 ∷ 2 ∷ 3 ∷ 4 ∷ 0x20 ∷ 2 ∷ 0 ∷ 0 ∷ 3 ∷ 0 ∷ 0 ∷ 0 ∷ registers) (lent 576) (asking hypercall 0) (beside On 0x04030202 (waits 0x04030201 hypercall)))
    ∷ hypercall_at 0xFFFFFFFF [] (gave (handled 552 Quiet) (offered 0xFFFFFFFF 0 hypercall) (lent 576) (asking hypercall 0) (beside On 0 (waits 0xFFFFFFFF hypercall)))
    ∷ hypercall_at 0xFFFFFFFF (send_as 0xFFFFFFFF 16 (reply_to hypercall 0 0) ∷ []) (told (handled 0 (resume 0 0 0 unfed)) [] (asking hypercall 0) (beside On 0 nobody))
    ∷ []

abbrev pub of_events : List Edge
of_events = offer_edges ++ register_edges ++ order_edges ++ event_reply_edges ++ sequence_edges
