-- Edges of several calls: replies and the reply mode, pause events and their replies, the other host calls, closed sessions, beginnings, full tables.
use Prim.Native.Nat.{ℕ, zero, suc}
use mathlib.Core.List.{List, [], ◌∷◌, ◌++◌, map}
use mathlib.Core.Bool.{Bool, true, false}
use mathlib.Core.Option.{none}
use lib.ListN.{length, take, drop, set, replicate}
use Rattle.kvmi.specs.declared.ReplyMode.{ReplyMode}
use Rattle.kvmi.specs.declared.ReplyMode.TheVariants.{On, Off, ErrorsOnly}
use Rattle.kvmi.specs.declared.Signal.TheVariants.{Quiet, Kick, Crash}
use Rattle.kvmi.specs.Answer.{handled, plain}
use Rattle.kvmi.specs.Tables.{Msr, Page, Tables, resting, empty_tables, with_ready, with_singlestep, with_crs, with_events, with_pauses, with_vm_events, with_vcpus, with_msrs, with_pages, vm_event_on, event_on, cr_on, msr_on, access}
use Rattle.kvmi.specs.Model.{Model, fresh, with_tables, with_mode, with_seq, on_vcpu}
use Rattle.kvmi.specs.Message.{Entry}
use Rattle.kvmi.specs.Change.{Run, take_entries, set_msr}
use Rattle.kvmi.specs.Reply.{message_bytes}
use Rattle.kvmi.specs.Call.{Call, message, ready, enter, write_image}
use Rattle.kvmi.specs.Case.{anew, from_bytes, standing, two, out, page, send, vcpu_header, physical, entry, pause, control_msr, set_access, reply, c0, c22, vm, vc, en, fresh_image, ready_image}
use Rattle.kvmi.proofs.Edge.{Outcome, Edge, nothing, left, commanding, sized, odd, lent, registers, naming, event_data, mode_data, answer_data, control_vm_event, control_event, control_cr, singlestep, responses, send_as, event_reply, to15, c11, c12, vm_has, idle, ms, pa, joined, vm_of, pause_bytes, fail_bytes, beside, nobody, awaits, quiet, shut, over, told, gave, answered, closing, started, begun, afresh}

-- ---- replies and reply mode
abbrev pub reply_edges : List Edge
reply_edges =
    -- what the settings say, before any vCPU is ready, and a command's seq echoed; VCPU_GET_INFO of the last vCPU
    afresh odd (send_as 0x04030201 1 [] ∷ [])
    (told (handled 32 Quiet) (1 ∷ 0 ∷ 24 ∷ 0 ∷ 1 ∷ 2 ∷ 3 ∷ 4 ∷ c0 ++ c0 ++ (1 ∷ 0 ∷ 0 ∷ 0 ∷ 0 ∷ 0 ∷ 0 ∷ 0 ∷ 0xF1 ∷ 0xF2 ∷ 0xF3 ∷ 0xF4 ∷ 0xF5 ∷ 0 ∷ 0 ∷ 0 ∷ [])) (vm_of 3 ++ idle 0 ++ idle 1 ++ idle 2 ++ en 4) (beside On 0 (none ∷ none ∷ none ∷ [])))
    ∷ afresh odd (send 4 [] ∷ [])
    (told (handled 32 Quiet) (4 ∷ 0 ∷ 24 ∷ 0 ∷ 8 ∷ 0 ∷ 0 ∷ 0 ∷ c0 ++ c0 ++ (3 ∷ replicate 15 0)) (vm_of 3 ++ idle 0 ++ idle 1 ++ idle 2 ++ en 4) (beside On 0 (none ∷ none ∷ none ∷ [])))
    ∷ afresh odd (ready 2 ∷ send 8 (vcpu_header 2) ∷ [])
    (told (handled 24 Quiet) (8 ∷ 0 ∷ 16 ∷ 0 ∷ 8 ∷ 0 ∷ 0 ∷ 0 ∷ c0 ++ c0 ++ (0x88 ∷ 0x77 ∷ 0x66 ∷ 0x55 ∷ 0x44 ∷ 0x33 ∷ 0x22 ∷ 0x11 ∷ [])) (vm_of 3 ++ idle 0 ++ idle 1 ++ vc 2 1 0 0 0 ++ en 4) (beside On 0 (none ∷ none ∷ none ∷ [])))
    -- from replies on: now 0 is replied to and now 1 is not; the flag is kept with enable 0
    ∷ afresh two (responses 0 0 0 ∷ []) (told (handled 16 Quiet) (reply 15 c0) fresh_image (beside Off 0 nobody))
    ∷ afresh two (responses 0 0 1 ∷ []) (told (handled 16 Quiet) (reply 15 c0) fresh_image (beside ErrorsOnly 0 nobody))
    ∷ afresh two (responses 0 1 0 ∷ []) (told (handled 0 Quiet) [] fresh_image (beside Off 0 nobody))
    ∷ afresh two (responses 0 1 1 ∷ []) (told (handled 0 Quiet) [] fresh_image (beside ErrorsOnly 0 nobody))
    ∷ afresh two (responses 1 0 1 ∷ []) (answered 15 c0 fresh_image)
    ∷ afresh two (responses 1 1 1 ∷ []) (answered 15 c0 fresh_image)
    -- from replies off: on again with now 0 in silence and with now 1 replied to; the flag set and dropped in silence
    ∷ afresh two (responses 0 1 0 ∷ responses 1 0 0 ∷ []) (told (handled 0 Quiet) [] fresh_image quiet)
    ∷ afresh two (responses 0 1 0 ∷ responses 1 1 0 ∷ []) (answered 15 c0 fresh_image)
    ∷ afresh two (responses 0 1 1 ∷ responses 1 1 1 ∷ []) (answered 15 c0 fresh_image)
    ∷ afresh two (responses 0 1 0 ∷ responses 0 0 1 ∷ []) (told (handled 0 Quiet) [] fresh_image (beside ErrorsOnly 0 nobody))
    ∷ afresh two (responses 0 1 1 ∷ responses 0 1 0 ∷ []) (told (handled 0 Quiet) [] fresh_image (beside Off 0 nobody))
    -- an error in 15 follows the old mode, whatever now says
    ∷ afresh two (responses 0 1 2 ∷ []) (answered 15 c22 fresh_image)
    ∷ afresh two (responses 0 1 0 ∷ responses 1 1 2 ∷ []) (told (handled 0 Quiet) [] fresh_image (beside Off 0 nobody))
    ∷ afresh two (responses 0 1 1 ∷ responses 1 1 2 ∷ []) (told (handled 568 Quiet) (fail_bytes 0 c22 15) fresh_image (beside ErrorsOnly 1 nobody))
    -- an error with replies off: in silence without the flag, an event with it, of vCPU 0 whichever vCPU the command named, with the command's seq
    ∷ afresh two (responses 0 1 0 ∷ control_cr 1 4 1 ∷ []) (told (handled 0 Quiet) [] fresh_image (beside Off 0 nobody))
    ∷ afresh two (responses 0 1 1 ∷ control_cr 1 4 1 ∷ []) (told (handled 568 Quiet) (fail_bytes 0 c11 11) fresh_image (beside ErrorsOnly 1 nobody))
    ∷ afresh two (responses 0 1 1 ∷ send_as 0x04030201 2 (naming 0) ∷ [])
    (told (handled 568 Quiet) (17 ∷ 0 ∷ 0x30 ∷ 2 ∷ 0 ∷ 0 ∷ 0 ∷ 0 ∷ 0x20 ∷ 2 ∷ 0 ∷ 0 ∷ 13 ∷ 0 ∷ 0 ∷ 0 ∷ replicate 536 0 ++ c22 ++ (1 ∷ 2 ∷ 3 ∷ 4 ∷ 2 ∷ 0 ∷ 0 ∷ 0 ∷ 0 ∷ 0 ∷ 0 ∷ 0 ∷ [])) fresh_image (beside ErrorsOnly 1 nobody))
    -- the second error's event has the next seq; what is no error takes none
    ∷ afresh two (responses 0 1 1 ∷ control_cr 1 4 1 ∷ send 2 (naming 5) ∷ send 2 (naming 0) ∷ []) (told (handled 568 Quiet) (fail_bytes 1 c22 2) fresh_image (beside ErrorsOnly 2 nobody))
    -- an error that is replied to takes no seq
    ∷ afresh two (send 2 (naming 0) ∷ responses 0 1 1 ∷ send 2 (naming 0) ∷ []) (told (handled 568 Quiet) (fail_bytes 0 c22 2) fresh_image (beside ErrorsOnly 1 nobody))
    ∷ []

-- ---- vCPU entry and event replies
-- vCPU 0 has one pause queued, and the next event has a given seq
abbrev pub paused_at : ℕ → Model
paused_at seq = with_seq (on_vcpu (fresh two) 0 (λ v. with_pauses (with_ready v true) 1)) seq

-- vCPU 0 has sent a pause event with seq 0
abbrev pub sent : List Call
sent = ready 0 ∷ pause 0 ∷ enter 0 registers 0 [] (lent 576) ∷ []

-- a reply to it that closes
abbrev pub wrong : ℕ → List ℕ → Edge
wrong seq d = afresh two (sent ++ (send_as seq 16 d ∷ [])) closing

abbrev pub event_edges : List Edge
event_edges =
    -- no pause is queued; the vCPU need not be ready
    afresh two (enter 1 registers 0 [] (lent 576) ∷ []) (gave (handled 0 Quiet) [] (lent 576) fresh_image quiet)
    -- one of three pauses; the output behind the event
    ∷ afresh two (ready 0 ∷ pause 0 ∷ pause 0 ∷ pause 0 ∷ enter 0 registers 0 [] (lent 577) ∷ [])
    (gave (handled 552 Quiet) (pause_bytes 0 0) (lent 577) (vm ++ vc 0 1 0 0 2 ++ idle 1 ++ en 3) (beside On 1 (awaits 0 ∷ none ∷ [])))
    -- of vCPU 1; pauses and switches of vCPU 0 stay
    ∷ afresh two (ready 0 ∷ ready 1 ∷ control_cr 0 3 1 ∷ pause 0 ∷ pause 1 ∷ enter 1 registers 0 [] (lent 576) ∷ [])
    (gave (handled 552 Quiet) (pause_bytes 0 1) (lent 576) (vm ++ vc 0 1 2 0 1 ++ vc 1 1 0 0 0 ++ en 3) (beside On 1 (none ∷ awaits 0 ∷ [])))
    -- with replies off too
    ∷ afresh two (ready 0 ∷ pause 0 ∷ responses 0 1 0 ∷ enter 0 registers 0 [] (lent 576) ∷ [])
    (gave (handled 552 Quiet) (pause_bytes 0 0) (lent 576) ready_image (beside Off 1 (awaits 0 ∷ none ∷ [])))
    -- the next event has the next seq, be it a pause or an error
    ∷ afresh two (ready 1 ∷ pause 1 ∷ sent ++ (enter 1 registers 0 [] (lent 576) ∷ []))
    (gave (handled 552 Quiet) (pause_bytes 1 1) (lent 576) (vm ++ vc 0 1 0 0 0 ++ vc 1 1 0 0 0 ++ en 3) (beside On 2 (awaits 0 ∷ awaits 1 ∷ [])))
    ∷ afresh two (sent ++ (responses 0 1 1 ∷ send 2 (naming 0) ∷ [])) (told (handled 568 Quiet) (fail_bytes 1 c22 2) ready_image (beside ErrorsOnly 2 (awaits 0 ∷ none ∷ [])))
    ∷ afresh two (responses 0 1 1 ∷ send 2 (naming 0) ∷ sent) (gave (handled 552 Quiet) (pause_bytes 1 0) (lent 576) ready_image (beside ErrorsOnly 2 (awaits 1 ∷ none ∷ [])))
    -- refused in the order 4, 5, 3, 6
    ∷ afresh two (enter 2 [] 0 [] [] ∷ []) (gave (plain 4) [] [] fresh_image quiet)
    ∷ afresh two (enter 3 registers 0 [] (lent 576) ∷ []) (gave (plain 4) [] (lent 576) fresh_image quiet)
    ∷ afresh two (sent ++ (enter 0 (drop 1 registers) 0 [] (lent 575) ∷ [])) (gave (plain 5) [] (lent 575) ready_image (beside On 1 (awaits 0 ∷ none ∷ [])))
    ∷ afresh two (enter 0 (0 ∷ registers) 0 [] (lent 576) ∷ []) (gave (plain 5) [] (lent 576) fresh_image quiet)
    ∷ afresh two (sent ++ (enter 0 registers 0 [] (lent 575) ∷ [])) (gave (plain 3) [] (lent 575) ready_image (beside On 1 (awaits 0 ∷ none ∷ [])))
    ∷ afresh two (enter 0 registers 0 [] (lent 575) ∷ []) (gave (plain 3) [] (lent 575) fresh_image quiet)
    ∷ afresh two (sent ++ (enter 0 registers 0 [] (lent 576) ∷ [])) (gave (plain 6) [] (lent 576) ready_image (beside On 1 (awaits 0 ∷ none ∷ [])))
    ∷ afresh two (sent ++ (pause 0 ∷ enter 0 registers 0 [] (lent 576) ∷ [])) (gave (plain 6) [] (lent 576) (vm ++ vc 0 1 0 0 1 ++ idle 1 ++ en 3) (beside On 1 (awaits 0 ∷ none ∷ [])))
    -- the other vCPU does not wait
    ∷ afresh two (sent ++ (enter 1 registers 0 [] (lent 576) ∷ [])) (gave (handled 0 Quiet) [] (lent 576) ready_image (beside On 1 (awaits 0 ∷ none ∷ [])))
    -- a reply is taken once, with action 0 or 2, and in any reply mode; no command need be allowed
    ∷ afresh two (sent ++ (event_reply 0 0 0 2 ∷ [])) (told (handled 0 Quiet) [] ready_image (beside On 1 nobody))
    ∷ afresh two (sent ++ (event_reply 0 0 2 2 ∷ [])) (told (handled 0 (Crash 0)) [] ready_image (beside On 1 nobody))
    ∷ afresh two (sent ++ (responses 0 1 1 ∷ event_reply 0 0 2 2 ∷ [])) (told (handled 0 (Crash 0)) [] ready_image (beside ErrorsOnly 1 nobody))
    ∷ afresh two (sent ++ (event_reply 0 0 0 2 ∷ event_reply 0 0 0 2 ∷ [])) closing
    ∷ started (commanding 0) (from_bytes (vm ++ idle 0 ++ vc 1 1 0 0 1 ++ en 3)) (enter 1 registers 0 [] (lent 576) ∷ event_reply 0 1 2 2 ∷ []) (told (handled 0 (Crash 1)) [] (vm ++ idle 0 ++ vc 1 1 0 0 0 ++ en 3) (beside On 1 nobody))
    -- of two that are awaited, the one that is meant
    ∷ afresh two (ready 1 ∷ pause 1 ∷ sent ++ (enter 1 registers 0 [] (lent 576) ∷ event_reply 1 1 0 2 ∷ []))
    (told (handled 0 Quiet) [] (vm ++ vc 0 1 0 0 0 ++ vc 1 1 0 0 0 ++ en 3) (beside On 2 (awaits 0 ∷ none ∷ [])))
    ∷ afresh two (ready 1 ∷ pause 1 ∷ sent ++ (enter 1 registers 0 [] (lent 576) ∷ event_reply 0 1 0 2 ∷ [])) closing
    -- after it the vCPU enters again
    ∷ afresh two (ready 0 ∷ pause 0 ∷ sent ++ (event_reply 0 0 0 2 ∷ enter 0 registers 0 [] (lent 576) ∷ []))
    (gave (handled 552 Quiet) (pause_bytes 1 0) (lent 576) ready_image (beside On 2 (awaits 1 ∷ none ∷ [])))
    -- another seq, in its first and in its last byte; another event; action 1 and 3; another vCPU, and ones not below the count
    ∷ wrong 1 (answer_data 0 0 2)
    ∷ wrong 0x1000000 (answer_data 0 0 2)
    ∷ wrong 0 (answer_data 0 0 13)
    ∷ wrong 0 (answer_data 0 0 0)
    ∷ wrong 0 (answer_data 0 1 2)
    ∷ wrong 0 (answer_data 0 3 2)
    ∷ wrong 0 (answer_data 1 0 2)
    ∷ wrong 0 (answer_data 2 0 2)
    ∷ wrong 0 (answer_data 0x100 0 2)
    -- padding; one byte more, one fewer; eight more, as of a CR event
    ∷ wrong 0 (set (answer_data 0 0 2) 2 1)
    ∷ wrong 0 (set (answer_data 0 0 2) 7 1)
    ∷ wrong 0 (set (answer_data 0 0 2) 10 1)
    ∷ wrong 0 (set (answer_data 0 0 2) 15 1)
    ∷ wrong 0 (answer_data 0 0 2 ++ (0 ∷ []))
    ∷ wrong 0 (take 15 (answer_data 0 0 2))
    ∷ wrong 0 (answer_data 0 0 2 ++ replicate 8 0)
    ∷ wrong 0 (answer_data 0 0 5 ++ replicate 8 0)
    -- none is awaited, whatever event is named
    ∷ afresh two (event_reply 0 0 0 2 ∷ []) closing
    ∷ afresh two (event_reply 0 0 0 1 ∷ []) closing
    ∷ afresh two (event_reply 0 0 0 0 ∷ []) closing
    -- the seq goes from 4,294,967,295 to 0
    ∷ started two (standing (paused_at 0xFFFFFFFF)) (enter 0 registers 0 [] (lent 576) ∷ []) (gave (handled 552 Quiet) (pause_bytes 0xFFFFFFFF 0) (lent 576) ready_image (beside On 0 (awaits 0xFFFFFFFF ∷ none ∷ [])))
    ∷ started two (standing (paused_at 0xFFFFFFFE)) (enter 0 registers 0 [] (lent 576) ∷ []) (gave (handled 552 Quiet) (pause_bytes 0xFFFFFFFE 0) (lent 576) ready_image (beside On 0xFFFFFFFF (awaits 0xFFFFFFFE ∷ none ∷ [])))
    ∷ []

-- ---- each call changes its own and nothing else
-- the image of a session of two vCPUs and eight views with nothing at rest: its VM event bits, VC of vCPU 0, and what follows the VCs
abbrev pub full_image : ℕ → List ℕ → List ℕ → List ℕ
full_image events vc0 behind = vm_has events ++ vc0 ++ vc 1 1 2 0x20 2 ++ behind

abbrev pub full_session : List ℕ
full_session = vc 0 3 5 0x4218 3

abbrev pub records : List ℕ
records = ms 0 0x10 ++ ms 1 0x20 ++ pa 0 5 1 ++ pa 1 6 4 ++ en 7

-- one call of it
abbrev pub on_full : Call → Outcome → Edge
on_full call expected = started (sized 2 8) (from_bytes (full_image 0x1000 full_session records)) (call ∷ []) expected

abbrev pub own_edges : List Edge
own_edges =
    on_full (send 2 (naming 5)) (answered 2 c0 (full_image 0x1000 full_session records))
    -- a switch more and a switch less, or a page, of each kind
    ∷ on_full (control_vm_event 1 1) (answered 5 c0 (full_image 0x1002 full_session records))
    ∷ on_full (control_vm_event 12 0) (answered 5 c0 (full_image 0 full_session records))
    ∷ on_full (control_event 0 5 1) (answered 10 c0 (full_image 0x1000 (vc 0 3 5 0x4238 3) records))
    ∷ on_full (control_event 0 4 0) (answered 10 c0 (full_image 0x1000 (vc 0 3 5 0x4208 3) records))
    ∷ on_full (control_cr 0 3 1) (answered 11 c0 (full_image 0x1000 (vc 0 3 7 0x4218 3) records))
    ∷ on_full (control_cr 0 0 0) (answered 11 c0 (full_image 0x1000 (vc 0 3 4 0x4218 3) records))
    ∷ on_full (control_msr 0 0x20 1) (answered 12 c0 (full_image 0x1000 full_session (ms 0 0x10 ++ ms 0 0x20 ++ ms 1 0x20 ++ pa 0 5 1 ++ pa 1 6 4 ++ en 8)))
    ∷ on_full (control_msr 1 0x20 0) (answered 12 c0 (full_image 0x1000 full_session (ms 0 0x10 ++ pa 0 5 1 ++ pa 1 6 4 ++ en 6)))
    ∷ on_full (set_access 1 1 (entry 0x5000 3)) (answered 13 c0 (full_image 0x1000 full_session (ms 0 0x10 ++ ms 1 0x20 ++ pa 0 5 1 ++ pa 1 5 3 ++ pa 1 6 4 ++ en 8)))
    ∷ on_full (set_access 1 1 (entry 0x6000 7)) (answered 13 c0 (full_image 0x1000 full_session (ms 0 0x10 ++ ms 1 0x20 ++ pa 0 5 1 ++ en 6)))
    ∷ on_full (singlestep 0 0) (answered 14 c0 (full_image 0x1000 (vc 0 1 5 0x4218 3) records))
    -- a pause more and one less; the reply mode; a ready mark
    ∷ on_full (pause 0) (told (handled 16 (Kick true 0)) (reply 9 c0) (full_image 0x1000 (vc 0 3 5 0x4218 4) records) quiet)
    ∷ on_full (enter 0 registers 0 [] (lent 576)) (gave (handled 552 Quiet) (pause_bytes 0 0) (lent 576) (full_image 0x1000 (vc 0 3 5 0x4218 2) records) (beside On 1 (awaits 0 ∷ none ∷ [])))
    ∷ on_full (responses 0 0 1) (told (handled 16 Quiet) (reply 15 c0) (full_image 0x1000 full_session records) (beside ErrorsOnly 0 nobody))
    ∷ on_full (ready 0) (gave (handled 0 Quiet) [] [] (full_image 0x1000 full_session records) quiet)
    -- its 78 bytes
    ∷ on_full (write_image (lent 80)) (gave (handled 78 Quiet) (full_image 0x1000 full_session records) (lent 80) (full_image 0x1000 full_session records) quiet)
    ∷ on_full (write_image (lent 77)) (gave (plain 3) [] (lent 77) (full_image 0x1000 full_session records) quiet)
    ∷ []

-- what a reader reads there: VM events 1 and 12; of each vCPU event 5, then CR0, CR3, CR4, then CR1 of vCPU 0, then MSRs 0x10 and 0x20 of each vCPU
abbrev pub tables : Tables
tables =
    with_pages
    (with_msrs
    (with_vcpus (with_vm_events (empty_tables 2) 0x1000)
    (with_pauses (with_events (with_crs (with_singlestep (with_ready resting true) true) 5) 0x4218) 3 ∷ with_pauses (with_events (with_crs (with_ready resting true) 2) 0x20) 2 ∷ []))
    ((record { vcpu = 0; msr = 0x10 }) ∷ (record { vcpu = 1; msr = 0x20 }) ∷ []))
    ((record { view = 0; page = 5; access = 1 }) ∷ (record { view = 1; page = 6; access = 4 }) ∷ [])

abbrev pub lookups : List Bool
lookups =
    vm_event_on tables 1 ∷ vm_event_on tables 12
    ∷ event_on tables 0 5 ∷ event_on tables 1 5
    ∷ cr_on tables 0 0 ∷ cr_on tables 0 3 ∷ cr_on tables 0 4 ∷ cr_on tables 1 0 ∷ cr_on tables 1 3 ∷ cr_on tables 1 4 ∷ cr_on tables 0 1
    ∷ msr_on tables 0 0x10 ∷ msr_on tables 0 0x20 ∷ msr_on tables 1 0x10 ∷ msr_on tables 1 0x20 ∷ []

abbrev pub lookups_seen : List Bool
lookups_seen =
    false ∷ true
    ∷ false ∷ true
    ∷ true ∷ false ∷ true ∷ false ∷ true ∷ false ∷ false
    ∷ true ∷ false ∷ false ∷ true ∷ []

-- records of the MSRs at the ends of the ranges, and of those beside them and the last of all, which no session has: what is read there, and how many
-- records setting each leaves
abbrev pub edge_msrs : List ℕ
edge_msrs = 0 ∷ 0x1FFF ∷ 0xC0000000 ∷ 0xC0001FFF ∷ 0x2000 ∷ 0xBFFFFFFF ∷ 0xC0002000 ∷ 0xFFFFFFFF ∷ []

abbrev pub edge_records : List Msr
edge_records = map (λ msr. record { vcpu = 0; msr = msr }) edge_msrs

abbrev pub edge_looks : List Bool
edge_looks = map (λ msr. msr_on (with_msrs tables edge_records) 0 msr) edge_msrs

abbrev pub edge_looks_seen : List Bool
edge_looks_seen = true ∷ true ∷ true ∷ true ∷ false ∷ false ∷ false ∷ false ∷ []

abbrev pub edge_sets : List ℕ
edge_sets =
    map (λ m. length (set_msr m true [])) edge_records ++ map (λ m. length (set_msr m false (m ∷ []))) edge_records

abbrev pub edge_sets_seen : List ℕ
edge_sets_seen = 1 ∷ 1 ∷ 1 ∷ 1 ∷ 0 ∷ 0 ∷ 0 ∷ 0 ∷ 0 ∷ 0 ∷ 0 ∷ 0 ∷ 1 ∷ 1 ∷ 1 ∷ 1 ∷ []

-- pages 5 and 6 of each view
abbrev pub accesses : List ℕ
accesses = access tables 0 5 ∷ access tables 0 6 ∷ access tables 1 5 ∷ access tables 1 6 ∷ []

abbrev pub accesses_seen : List ℕ
accesses_seen = 1 ∷ 7 ∷ 7 ∷ 4 ∷ []

-- ---- the other calls, calls on a closed session, and how a session begins
-- everything at once, and then an empty message
abbrev pub busy_then_closed : List Call
busy_then_closed = control_vm_event 12 1 ∷ set_access 1 0 (entry 0x5000 1) ∷ sent ++ (control_msr 0 0x10 1 ∷ control_cr 0 3 1 ∷ responses 0 1 1 ∷ message [] out page ∷ [])

abbrev pub call_edges : List Edge
call_edges =
    -- ready marks: of the last vCPU, a second time, of none
    afresh two (ready 1 ∷ []) (gave (handled 0 Quiet) [] [] (vm ++ idle 0 ++ vc 1 1 0 0 0 ++ en 3) quiet)
    ∷ afresh two (ready 0 ∷ control_event 0 4 1 ∷ control_cr 0 3 1 ∷ singlestep 0 1 ∷ pause 0 ∷ ready 0 ∷ []) (gave (handled 0 Quiet) [] [] (vm ++ vc 0 3 2 0x10 1 ++ idle 1 ++ en 3) quiet)
    ∷ afresh two (ready 2 ∷ []) (gave (plain 4) [] [] fresh_image quiet)
    ∷ afresh two (ready 3 ∷ []) (gave (plain 4) [] [] fresh_image quiet)
    ∷ afresh (sized 16 1) (ready 16 ∷ ready 15 ∷ [])
    (gave (handled 0 Quiet) [] [] (vm_of 16 ++ joined (map idle (take 15 to15)) ++ vc 15 1 0 0 0 ++ en 17) (beside On 0 (replicate 16 none)))
    -- image writing: as long as the image, one byte short, one byte more; 10 comes before 3
    ∷ afresh two (write_image (lent 34) ∷ []) (gave (handled 34 Quiet) fresh_image (lent 34) fresh_image quiet)
    ∷ afresh two (write_image (lent 33) ∷ []) (gave (plain 3) [] (lent 33) fresh_image quiet)
    ∷ afresh two (write_image (lent 35) ∷ []) (gave (handled 34 Quiet) fresh_image (lent 35) fresh_image quiet)
    ∷ afresh two (sent ++ (write_image (lent 34) ∷ [])) (gave (plain 10) [] (lent 34) ready_image (beside On 1 (awaits 0 ∷ none ∷ [])))
    ∷ afresh two (sent ++ (write_image (lent 33) ∷ [])) (gave (plain 10) [] (lent 33) ready_image (beside On 1 (awaits 0 ∷ none ∷ [])))
    ∷ afresh two (ready 1 ∷ pause 1 ∷ enter 1 registers 0 [] (lent 576) ∷ write_image (lent 34) ∷ []) (gave (plain 10) [] (lent 34) (vm ++ idle 0 ++ vc 1 1 0 0 0 ++ en 3) (beside On 1 (none ∷ awaits 0 ∷ [])))
    ∷ afresh two (sent ++ (event_reply 0 0 0 2 ∷ write_image (lent 34) ∷ [])) (gave (handled 34 Quiet) ready_image (lent 34) ready_image (beside On 1 nobody))
    -- a message with 4,111 bytes of output, whole or not; with more than 4,112
    ∷ afresh two (message (message_bytes 5 8 (event_data 12 1)) (lent 4111) page ∷ []) (left (plain 3) (lent 4111) page fresh_image quiet)
    ∷ afresh two (message [] (lent 4111) page ∷ []) (left (plain 3) (lent 4111) page fresh_image quiet)
    ∷ afresh two (message (message_bytes 15 8 (mode_data 1 0 0)) (lent 4113) page ∷ []) (left (handled 16 Quiet) (over (reply 15 c0) (lent 4113)) page fresh_image quiet)
    -- closing drops everything; what comes after it answers 2, whatever else is wrong with it
    ∷ afresh two busy_then_closed closing
    ∷ afresh two (busy_then_closed ++ (send 2 (naming 5) ∷ [])) (told (plain 2) [] fresh_image shut)
    ∷ afresh two (busy_then_closed ++ (message [] (lent 5) page ∷ [])) (left (plain 2) (lent 5) page fresh_image shut)
    ∷ afresh two (busy_then_closed ++ (send 7 (physical 0 1 ++ (1 ∷ [])) ∷ [])) (told (plain 2) [] fresh_image shut)
    ∷ afresh two (busy_then_closed ++ (ready 0 ∷ [])) (gave (plain 2) [] [] fresh_image shut)
    ∷ afresh two (busy_then_closed ++ (ready 2 ∷ [])) (gave (plain 2) [] [] fresh_image shut)
    ∷ afresh two (busy_then_closed ++ (enter 0 registers 0 [] (lent 576) ∷ [])) (gave (plain 2) [] (lent 576) fresh_image shut)
    ∷ afresh two (busy_then_closed ++ (enter 2 [] 0 [] (lent 5) ∷ [])) (gave (plain 2) [] (lent 5) fresh_image shut)
    ∷ afresh two (busy_then_closed ++ (write_image (lent 34) ∷ [])) (gave (plain 2) [] (lent 34) fresh_image shut)
    ∷ afresh two (busy_then_closed ++ (write_image (lent 5) ∷ [])) (gave (plain 2) [] (lent 5) fresh_image shut)
    -- settings in and out of range, in both ways to begin; 7 comes before 8
    ∷ begun (sized 0 1) anew (nothing (plain 7))
    ∷ begun (sized 17 1) anew (nothing (plain 7))
    ∷ begun (sized 2 0) anew (nothing (plain 7))
    ∷ begun (sized 2 9) anew (nothing (plain 7))
    ∷ begun (sized 0 1) (from_bytes []) (nothing (plain 7))
    ∷ begun (sized 17 1) (from_bytes fresh_image) (nothing (plain 7))
    ∷ begun (sized 2 0) (from_bytes fresh_image) (nothing (plain 7))
    ∷ begun (sized 2 9) (from_bytes fresh_image) (nothing (plain 7))
    ∷ begun (sized 1 1) anew (left (handled 0 Quiet) [] [] (vm_of 1 ++ idle 0 ++ en 2) (beside On 0 (none ∷ [])))
    ∷ begun (sized 16 8) anew (left (handled 0 Quiet) [] [] (vm_of 16 ++ joined (map idle to15) ++ en 17) (beside On 0 (replicate 16 none)))
    ∷ begun (sized 16 8) (from_bytes (vm_of 16 ++ joined (map idle to15) ++ en 17)) (left (handled 0 Quiet) [] [] (vm_of 16 ++ joined (map idle to15) ++ en 17) (beside On 0 (replicate 16 none)))
    ∷ []

-- ---- a full table
-- pages i to i + n - 1 at access 1, and their records
abbrev pub pages_from : ℕ → ℕ → List Page
pages_from i zero = []
pages_from i (suc n) = (record { view = 0; page = i; access = 1 }) ∷ pages_from (suc i) n

abbrev pub pas_from : ℕ → ℕ → List ℕ
pas_from i zero = []
pas_from i (suc n) = pa 0 i 1 ++ pas_from (suc i) n

-- two vCPUs, and the pages 0 to n - 1
abbrev pub holding : ℕ → Tables
holding n = with_pages (empty_tables 2) (pages_from 0 n)

-- a session with the pages 0 to n - 1 and a reply mode; in it, three entries of view 0
abbrev pub filled : ℕ → ReplyMode → List ℕ → Outcome → Edge
filled n mode entries expected =
    started two (standing (with_seq (with_mode (with_tables (fresh two) (holding n)) mode) 7)) (set_access 3 0 entries ∷ []) expected

abbrev pub full_edges : List Edge
full_edges =
    -- a page takes the last room, the next is skipped, one that stands below rwx is changed; with replies off it is told by an event, or not at all
    filled 1023 On (entry 0x1001000 3 ++ entry 0x1002000 3 ++ entry 0x3FE000 5)
    (told (handled 16 Quiet) (reply 13 c12) (vm ++ idle 0 ++ idle 1 ++ pas_from 0 1022 ++ pa 0 0x3FE 5 ++ pa 0 0x1001 3 ++ en 1027) (beside On 7 nobody))
    ∷ filled 1023 ErrorsOnly (entry 0x1001000 3 ++ entry 0x1002000 3 ++ entry 0x3FE000 5)
    (told (handled 568 Quiet) (fail_bytes 7 c12 13) (vm ++ idle 0 ++ idle 1 ++ pas_from 0 1022 ++ pa 0 0x3FE 5 ++ pa 0 0x1001 3 ++ en 1027) (beside ErrorsOnly 8 nobody))
    ∷ filled 1023 Off (entry 0x1001000 3 ++ entry 0x1002000 3 ++ entry 0x3FE000 5)
    (told (handled 0 Quiet) [] (vm ++ idle 0 ++ idle 1 ++ pas_from 0 1022 ++ pa 0 0x3FE 5 ++ pa 0 0x1001 3 ++ en 1027) (beside Off 7 nobody))
    -- one at rwx is forgotten without need of room, and one that is below rwx makes room
    ∷ filled 1024 On (entry 0x1001000 7 ++ entry 0x3FF000 7 ++ entry 0x1002000 0)
    (told (handled 16 Quiet) (reply 13 c0) (vm ++ idle 0 ++ idle 1 ++ pas_from 0 1023 ++ pa 0 0x1002 0 ++ en 1027) (beside On 7 nobody))
    ∷ []

abbrev pub asks : ℕ → ℕ → Entry
asks n access = record { page = n; access = access }

abbrev pub stands : ℕ → ℕ → Page
stands n access = record { view = 0; page = n; access = access }

-- entries of message 13 on a table with room for two pages: pages 2 and 8 are skipped, each while two pages stand below rwx; page 3, which stands
-- below rwx, is changed all the same, page 2 is at rwx and forgotten, and page 9 takes the room of page 1
abbrev pub skips : Run
skips =
    take_entries 2 0
    (asks 3 1 ∷ asks 1 5 ∷ asks 2 1 ∷ asks 3 3 ∷ asks 2 7 ∷ asks 1 7 ∷ asks 9 0 ∷ asks 8 4 ∷ [])
    (record { pages = []; skipped = false })

abbrev pub skips_seen : Run
skips_seen = record { pages = stands 3 3 ∷ stands 9 0 ∷ []; skipped = true }

abbrev pub of_sessions : List Edge
of_sessions = reply_edges ++ event_edges ++ own_edges ++ call_edges ++ full_edges
