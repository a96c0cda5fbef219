-- Edges of one message: its size, its fields, the tests in their order, and what it changes.
use Prim.Native.Nat.{ℕ, ◌+◌, ◌-◌, ◌*◌, ◌^◌}
use mathlib.Core.List.{List, [], ◌∷◌, ◌++◌, map}
use mathlib.Core.Bool.{true, false}
use mathlib.Core.Option.{none}
use lib.ListN.{length, take, drop, set, replicate}
use Rattle.kvmi.specs.declared.ReplyMode.{ReplyMode}
use Rattle.kvmi.specs.declared.ReplyMode.TheVariants.{On, Off, ErrorsOnly}
use Rattle.kvmi.specs.declared.Signal.{Signal}
use Rattle.kvmi.specs.declared.Signal.TheVariants.{Quiet, Kick}
use Rattle.kvmi.specs.Answer.{handled}
use Rattle.kvmi.specs.Reply.{message_bytes}
use Rattle.kvmi.specs.Call.{message, ready}
use Rattle.kvmi.specs.Case.{two, out, page, send, vcpu_header, physical, flag_data, register_data, entry, access_data, pause, control_msr, set_access, reply, c0, c16, c22, vm, vc, en, fresh_image, ready_image}
use Rattle.kvmi.proofs.Edge.{Edge, left, given, everything, commanding, eventful, equipped, sized, without, few, naming, event_data, mode_data, control_vm_event, control_event, control_cr, singlestep, responses, to15, c1, c2, c11, c95, c1000, vm_of, vm_has, idle, ms, pa, joined, beside, nobody, quiet, over, told, answered, closing, afresh, taken, fails, reports, closes, under, behind}

-- ---- each message once as it is taken
-- its data; in the session of `two` with vCPU 0 ready, its reply's data, its signal, and guest memory and image after it
pub record Sample : Type 0 where
  pub id : ℕ
  pub d : List ℕ
  pub bytes : List ℕ
  pub signal : Signal
  pub guest : List ℕ
  pub image : List ℕ

-- answered with data; they change nothing
abbrev pub asking : ℕ → List ℕ → List ℕ → Sample
asking id d bytes = record { id = id; d = d; bytes = bytes; signal = Quiet; guest = page; image = ready_image }

abbrev pub acting : ℕ → List ℕ → Signal → List ℕ → List ℕ → Sample
acting id d signal guest image = record { id = id; d = d; bytes = []; signal = signal; guest = guest; image = image }

abbrev pub asked : List Sample
asked =
    asking 1 [] (1 ∷ 0 ∷ 0 ∷ 0 ∷ 0 ∷ 0 ∷ 0 ∷ 0 ∷ 1 ∷ 1 ∷ 1 ∷ 1 ∷ 1 ∷ 0 ∷ 0 ∷ 0 ∷ [])
    ∷ asking 4 [] (2 ∷ replicate 15 0)
    ∷ asking 6 (physical 4094 2) (0 ∷ 0xAB ∷ [])
    ∷ asking 8 (vcpu_header 0) (replicate 8 0)
    ∷ []

abbrev pub acted : List Sample
acted =
    acting 2 (naming 5) Quiet page ready_image
    ∷ acting 3 (naming 5) Quiet page ready_image
    ∷ acting 5 (event_data 12 1) Quiet page (vm_has 0x1000 ++ vc 0 1 0 0 0 ++ idle 1 ++ en 3)
    ∷ acting 7 (physical 4093 3 ++ (7 ∷ 8 ∷ 9 ∷ [])) Quiet (replicate 4093 0 ++ (7 ∷ 8 ∷ 9 ∷ [])) ready_image
    ∷ acting 9 (flag_data 0 0) (Kick false 0) page (vm ++ vc 0 1 0 0 1 ++ idle 1 ++ en 3)
    ∷ acting 10 (vcpu_header 0 ++ event_data 9 1) Quiet page (vm ++ vc 0 1 0 0x200 0 ++ idle 1 ++ en 3)
    ∷ acting 11 (register_data 0 4 1) Quiet page (vm ++ vc 0 1 4 0 0 ++ idle 1 ++ en 3)
    ∷ acting 12 (register_data 0 0xC0000080 1) Quiet page (vm ++ vc 0 1 0 0 0 ++ idle 1 ++ ms 0 0xC0000080 ++ en 4)
    ∷ acting 13 (access_data 2 0 (entry 0x6000 4 ++ entry 0x5FFF 1)) Quiet page (vm ++ vc 0 1 0 0 0 ++ idle 1 ++ pa 0 5 1 ++ pa 0 6 4 ++ en 5)
    ∷ acting 14 (flag_data 0 1) Quiet page (vm ++ vc 0 3 0 0 0 ++ idle 1 ++ en 3)
    ∷ []

abbrev pub replying : Sample → Edge
replying p =
    afresh two (ready 0 ∷ send p.id p.d ∷ [])
    (left (handled (16 + length p.bytes) p.signal) (over (p.id ∷ 0 ∷ (8 + length p.bytes) ∷ 0 ∷ 8 ∷ 0 ∷ 0 ∷ 0 ∷ c0 ++ c0 ++ p.bytes) out) p.guest p.image quiet)

-- with replies off: flags of message 15, and the mode that it leaves
abbrev pub silent : ℕ → ReplyMode → Sample → Edge
silent flags mode p =
    afresh two (ready 0 ∷ responses 0 1 flags ∷ send p.id p.d ∷ [])
    (left (handled 0 p.signal) out p.guest p.image (beside mode 0 nobody))

-- test 3
abbrev pub closes_unreplied : ℕ → Sample → Edge
closes_unreplied flags p = behind (responses 0 1 flags ∷ []) (closes p.id p.d)

-- test 2, with every other command allowed
abbrev pub not_allowed : Sample → Edge
not_allowed p = under (commanding (everything - 2 ^ p.id)) (fails p.id p.d c1)

-- test 4: one byte more, one byte fewer
abbrev pub longer : Sample → Edge
longer p = closes p.id (p.d ++ (0 ∷ []))

abbrev pub shorter : Sample → Edge
shorter p = closes p.id (take (length p.d - 1) p.d)

abbrev pub message_edges : List Edge
message_edges =
    -- with replies on each is answered; with replies off those answered with data close (test 3), and the others act in silence
    map replying (asked ++ acted) ++ map (closes_unreplied 0) asked ++ map (closes_unreplied 1) asked ++ map (silent 0 Off) acted ++ map (silent 1 ErrorsOnly) acted
    -- test 2: each but 1, 2 and 3 can be not allowed
    ++ map not_allowed (drop 1 asked ++ drop 2 acted)
    ++ (under (commanding 0x7FFF) (fails 15 (mode_data 0 0 1) c1) ∷ [])
    -- test 4: each but 13 has one size; 1 and 4 have no byte to lose
    ++ map longer (asked ++ take 8 acted ++ drop 9 acted) ++ map shorter (drop 2 asked ++ take 8 acted ++ drop 9 acted)
    ++ (closes 15 (replicate 7 0) ∷ closes 15 (replicate 9 0) ∷ [])

-- ---- fields
-- a byte of data that are taken otherwise, at each of the places: -22
abbrev pub invalid_at : ℕ → List ℕ → ℕ → List ℕ → List Edge
invalid_at id d x places = map (λ at. fails id (set d at x) c22) places

abbrev pub field_edges : List Edge
field_edges =
    -- message 2 knows 1 to 15, message 3 events 1 to 14, each in two bytes
    fails 2 (naming 0) c22
    ∷ taken 2 (naming 1) ready_image
    ∷ taken 2 (naming 15) ready_image
    ∷ fails 2 (naming 16) c22
    ∷ fails 2 (naming 0x105) c22
    ∷ fails 3 (naming 0) c22
    ∷ taken 3 (naming 1) ready_image
    ∷ taken 3 (naming 14) ready_image
    ∷ fails 3 (naming 15) c22
    ∷ fails 3 (naming 0x105) c22
    -- enable, wait, now and flags above 1
    ∷ invalid_at 5 (event_data 12 1) 2 (2 ∷ [])
    ++ invalid_at 9 (flag_data 0 1) 2 (8 ∷ [])
    ++ invalid_at 10 (vcpu_header 0 ++ event_data 9 1) 2 (10 ∷ [])
    ++ invalid_at 11 (register_data 0 4 1) 2 (8 ∷ [])
    ++ invalid_at 12 (register_data 0 0x1FFF 1) 2 (8 ∷ [])
    ++ invalid_at 14 (flag_data 0 1) 2 (8 ∷ [])
    ++ invalid_at 15 (mode_data 0 0 1) 2 (0 ∷ 1 ∷ 2 ∷ [])
    -- the vCPU count, and 256, as a vCPU
    ++ invalid_at 8 (vcpu_header 0) 2 (0 ∷ [])
    ++ invalid_at 9 (flag_data 0 1) 2 (0 ∷ [])
    ++ invalid_at 10 (vcpu_header 0 ++ event_data 9 1) 2 (0 ∷ [])
    ++ invalid_at 11 (register_data 0 4 1) 2 (0 ∷ [])
    ++ invalid_at 12 (register_data 0 0x1FFF 1) 2 (0 ∷ [])
    ++ invalid_at 14 (flag_data 0 1) 2 (0 ∷ [])
    ++ invalid_at 8 (vcpu_header 0) 1 (1 ∷ [])

-- ---- switches: the image shows which of many messages were taken
abbrev pub switch_edges : List Edge
switch_edges =
    -- message 5 takes events 1 and 12, alone of 0 to 15; 0x10C is not 12; off again, and off where it is off
    afresh two (map (λ e. control_vm_event e 1) to15) (answered 5 c22 (vm_has 0x1002 ++ idle 0 ++ idle 1 ++ en 3))
    ∷ fails 5 (event_data 0x10C 1) c22
    ∷ afresh two (control_vm_event 1 1 ∷ control_vm_event 12 1 ∷ control_vm_event 1 0 ∷ []) (answered 5 c0 (vm_has 0x1000 ++ idle 0 ++ idle 1 ++ en 3))
    ∷ taken 5 (event_data 1 0) ready_image
    -- messages 2 and 3 only ask
    ∷ afresh two (control_vm_event 12 1 ∷ send 2 (naming 12) ∷ []) (answered 2 c0 (vm_has 0x1000 ++ idle 0 ++ idle 1 ++ en 3))
    ∷ afresh two (control_vm_event 12 1 ∷ send 3 (naming 12) ∷ []) (answered 3 c0 (vm_has 0x1000 ++ idle 0 ++ idle 1 ++ en 3))
    -- message 10 takes nine; 0x109 is not 9; off again, and off where it is off
    ∷ afresh two (ready 0 ∷ map (λ e. control_event 0 e 1) to15) (answered 10 c22 (vm ++ vc 0 1 0 0x4FB8 0 ++ idle 1 ++ en 3))
    ∷ fails 10 (vcpu_header 0 ++ event_data 0x109 1) c22
    ∷ afresh two (ready 0 ∷ control_event 0 4 1 ∷ control_event 0 14 1 ∷ control_event 0 14 0 ∷ []) (answered 10 c0 (vm ++ vc 0 1 0 0x10 0 ++ idle 1 ++ en 3))
    ∷ taken 10 (vcpu_header 0 ++ event_data 8 0) ready_image
    -- message 11: CR0, CR3 and CR4 have bits 1, 2 and 4; no other is taken, in any of its four bytes; off again, and off where it is off
    ∷ taken 11 (register_data 0 0 1) (vm ++ vc 0 1 1 0 0 ++ idle 1 ++ en 3)
    ∷ taken 11 (register_data 0 3 1) (vm ++ vc 0 1 2 0 0 ++ idle 1 ++ en 3)
    ∷ afresh two (ready 0 ∷ map (λ r. control_cr 0 r 1) (1 ∷ 2 ∷ 5 ∷ 6 ∷ 7 ∷ 8 ∷ 0x103 ∷ 0x10003 ∷ 0x1000003 ∷ [])) (answered 11 c22 ready_image)
    ∷ afresh two (ready 0 ∷ control_cr 0 0 1 ∷ control_cr 0 3 1 ∷ control_cr 0 4 1 ∷ control_cr 0 3 0 ∷ []) (answered 11 c0 (vm ++ vc 0 1 5 0 0 ++ idle 1 ++ en 3))
    ∷ taken 11 (register_data 0 4 0) ready_image
    -- message 12: the ends of both ranges, in whichever order they come, and nothing beside them; off again, and off where it is off; each beside them, on or off
    ∷ afresh two (ready 0 ∷ map (λ r. control_msr 0 r 1) (0xC0001FFF ∷ 0x1FFF ∷ 0xC0000000 ∷ 0 ∷ 0x2000 ∷ 0xBFFFFFFF ∷ 0xC0002000 ∷ 0xFFFFFFFF ∷ []))
    (answered 12 c22 (vm ++ vc 0 1 0 0 0 ++ idle 1 ++ ms 0 0 ++ ms 0 0x1FFF ++ ms 0 0xC0000000 ++ ms 0 0xC0001FFF ++ en 7))
    ∷ afresh two (ready 0 ∷ control_msr 0 0x10 1 ∷ control_msr 0 0x20 1 ∷ control_msr 0 0x10 0 ∷ []) (answered 12 c0 (vm ++ vc 0 1 0 0 0 ++ idle 1 ++ ms 0 0x20 ++ en 4))
    ∷ taken 12 (register_data 0 0x10 0) ready_image
    ∷ fails 12 (register_data 0 0x2000 1) c22
    ∷ fails 12 (register_data 0 0xBFFFFFFF 1) c22
    ∷ fails 12 (register_data 0 0xC0002000 0) c22
    ∷ fails 12 (register_data 0 0xFFFFFFFF 0) c22
    -- message 14, off again
    ∷ afresh two (ready 0 ∷ singlestep 0 1 ∷ singlestep 0 0 ∷ []) (answered 14 c0 ready_image)
    -- message 8 only asks
    ∷ afresh (sized 4 1) (ready 3 ∷ control_event 3 3 1 ∷ control_cr 3 0 1 ∷ singlestep 3 1 ∷ send 8 (vcpu_header 3) ∷ [])
    (told (handled 24 Quiet) (8 ∷ 0 ∷ 16 ∷ 0 ∷ 8 ∷ 0 ∷ 0 ∷ 0 ∷ replicate 16 0) (vm_of 4 ++ idle 0 ++ idle 1 ++ idle 2 ++ vc 3 3 1 8 0 ++ en 5) (beside On 0 (replicate 4 none)))
    -- all of them of vCPU 1, and none of vCPU 0
    ∷ afresh two (ready 1 ∷ control_event 1 4 1 ∷ control_cr 1 3 1 ∷ control_msr 1 0x10 1 ∷ singlestep 1 1 ∷ pause 1 ∷ [])
    (told (handled 16 (Kick true 1)) (reply 9 c0) (vm ++ idle 0 ++ vc 1 3 2 0x10 1 ++ ms 1 0x10 ++ en 4) quiet)
    -- MSRs by vCPU, then MSR
    ∷ afresh two (ready 0 ∷ ready 1 ∷ control_msr 1 0x10 1 ∷ control_msr 0 0xC0000000 1 ∷ control_msr 1 0x11 1 ∷ control_msr 1 0x11 1 ∷ [])
    (answered 12 c0 (vm ++ vc 0 1 0 0 0 ++ vc 1 1 0 0 0 ++ ms 0 0xC0000000 ++ ms 1 0x10 ++ ms 1 0x11 ++ en 6))
    ∷ []

-- ---- message 13
abbrev pub access_edges : List Edge
access_edges =
    -- a page below rwx is stated once, with its last access; two addresses of one page
    taken 13 (access_data 3 0 (entry 0x7000 5 ++ entry 0x5000 1 ++ entry 0x7FFF 3)) (vm ++ vc 0 1 0 0 0 ++ idle 1 ++ pa 0 5 1 ++ pa 0 7 3 ++ en 5)
    -- page n set to access n: 0, 1, 3, 4 and 5 are taken
    ∷ afresh two (map (λ a. set_access 1 0 (entry (a * 4096) a)) (0 ∷ 1 ∷ 2 ∷ 3 ∷ 4 ∷ 5 ∷ 6 ∷ 8 ∷ []))
    (answered 13 c22 (vm ++ idle 0 ++ idle 1 ++ pa 0 0 0 ++ pa 0 1 1 ++ pa 0 3 3 ++ pa 0 4 4 ++ pa 0 5 5 ++ en 8))
    -- access 7 forgets a page, alone
    ∷ afresh two (set_access 2 0 (entry 0x5000 1 ++ entry 0x6000 3) ∷ set_access 1 0 (entry 0x5000 7) ∷ []) (answered 13 c0 (vm ++ idle 0 ++ idle 1 ++ pa 0 6 3 ++ en 4))
    -- a later entry that is invalid keeps the first from acting
    ∷ fails 13 (access_data 2 0 (entry 0x5000 1 ++ entry 0x6000 6)) c22
    -- the last page that an address has
    ∷ taken 13 (access_data 1 0 (entry 0xFFFFFFFFFFFFFFFF 1)) (vm ++ vc 0 1 0 0 0 ++ idle 1 ++ pa 0 0xFFFFFFFFFFFFF 1 ++ en 4)
    -- 7 bytes close; 8 are a message without entries
    ∷ closes 13 (replicate 7 0)
    ∷ taken 13 (access_data 0 0 []) ready_image
    -- a count that disagrees, read from two bytes, and a size that no count has
    ∷ fails 13 (access_data 1 0 []) c22
    ∷ fails 13 (access_data 0 0 (entry 0x5000 1)) c22
    ∷ fails 13 (access_data 1 0 (entry 0x5000 1 ++ entry 0x6000 1)) c22
    ∷ fails 13 (access_data 2 0 (entry 0x5000 1)) c22
    ∷ fails 13 (access_data 0x101 0 (entry 0x5000 1)) c22
    ∷ fails 13 (access_data 1 0 (take 15 (entry 0x5000 1))) c22
    ∷ fails 13 (access_data 1 0 (entry 0x5000 1 ++ (0 ∷ []))) c22
    -- a view not below the count, read from two bytes; pages of two views, by view then page, and one forgotten in one view
    ∷ fails 13 (access_data 1 1 (entry 0x5000 1)) c22
    ∷ under (sized 2 8) (fails 13 (access_data 1 8 (entry 0x5000 1)) c22)
    ∷ under (sized 2 8) (fails 13 (access_data 1 0x100 (entry 0x5000 1)) c22)
    ∷ afresh (sized 2 8) (set_access 2 7 (entry 0x3000 1 ++ entry 0x9000 4) ∷ set_access 3 0 (entry 0xA000 5 ++ entry 0x3000 0 ++ entry 0x9000 5) ∷ set_access 1 0 (entry 0x3000 7) ∷ [])
    (answered 13 c0 (vm ++ idle 0 ++ idle 1 ++ pa 0 9 5 ++ pa 0 10 5 ++ pa 7 3 1 ++ pa 7 9 4 ++ en 7))
    ∷ []

-- ---- messages 6 and 7
-- guest memory of two pages, and one byte short of it
abbrev pub pages : List ℕ
pages = page ++ page

abbrev pub half : List ℕ
half = page ++ replicate 4095 3

-- with guest memory of its own, after which it is as said
abbrev pub lending : List ℕ → ℕ → List ℕ → List ℕ → List ℕ → Edge
lending guest id d bytes after =
    afresh two (message (message_bytes id 8 d) out guest ∷ []) (left (handled (length bytes) Quiet) (over bytes out) after fresh_image quiet)

abbrev pub memory_edges : List Edge
memory_edges =
    -- a whole page fills the output
    lending page 6 (physical 0 4096) (6 ∷ 0 ∷ 0x08 ∷ 0x10 ∷ 8 ∷ 0 ∷ 0 ∷ 0 ∷ c0 ++ c0 ++ page) page
    -- one byte too many, at the start of a page and behind it; no byte
    ∷ fails 6 (physical 0 4097) c22
    ∷ fails 6 (physical 1 4096) c22
    ∷ fails 6 (physical 0 0) c22
    ∷ fails 7 (physical 0 0) c22
    ∷ fails 7 (physical 4095 2 ++ (1 ∷ 2 ∷ [])) c22
    -- gpa + size passes 2^64: no wrapping; eight bytes of each count
    ∷ fails 6 (physical 1 0xFFFFFFFFFFFFFFFF) c22
    ∷ fails 6 (physical 0 0x100000000000001) c22
    ∷ closes 7 (physical 0 0x100000000000001 ++ (1 ∷ []))
    ∷ fails 6 (physical 0x100000000000000 1) c2
    ∷ fails 7 (physical 0x100000000000000 1 ++ (1 ∷ [])) c2
    ∷ fails 6 (physical 0xFFFFFFFFFFFFFFFF 1) c2
    -- a page that does not exist, one that lies half inside, and no guest memory
    ∷ fails 6 (physical 4096 1) c2
    ∷ fails 7 (physical 4096 1 ++ (1 ∷ [])) c2
    ∷ lending half 6 (physical 4096 1) (reply 6 c2) half
    ∷ lending half 7 (physical 4096 1 ++ (1 ∷ [])) (reply 7 c2) half
    ∷ lending [] 6 (physical 0 1) (reply 6 c2) []
    -- the first byte of all, read
    ∷ lending page 6 (physical 0 1) (6 ∷ 0 ∷ 9 ∷ 0 ∷ 8 ∷ 0 ∷ 0 ∷ 0 ∷ replicate 9 0) page
    -- the last byte of the seventeenth page: an address of more than two bytes
    ∷ lending (replicate 65536 0 ++ page) 6 (physical 69631 1) (6 ∷ 0 ∷ 9 ∷ 0 ∷ 8 ∷ 0 ∷ 0 ∷ 0 ∷ c0 ++ c0 ++ (0xAB ∷ [])) (replicate 65536 0 ++ page)
    ∷ lending (replicate 65536 0 ++ page) 7 (physical 69631 1 ++ (5 ∷ [])) (reply 7 c0) (replicate 69631 0 ++ (5 ∷ []))
    -- the last byte of the second page, read and written; the first bytes of all, written
    ∷ lending pages 6 (physical 8191 1) (6 ∷ 0 ∷ 9 ∷ 0 ∷ 8 ∷ 0 ∷ 0 ∷ 0 ∷ c0 ++ c0 ++ (0xAB ∷ [])) pages
    ∷ lending pages 7 (physical 8191 1 ++ (5 ∷ [])) (reply 7 c0) (page ++ replicate 4095 0 ++ (5 ∷ []))
    ∷ lending half 7 (physical 0 2 ++ (5 ∷ 6 ∷ [])) (reply 7 c0) (5 ∷ 6 ∷ drop 2 half)
    ∷ []

-- ---- tests 2 and 5, and the codes of test 6
abbrev pub test_edges : List Edge
test_edges =
    -- test 1: 7 bytes; a size one too small
    afresh two (ready 0 ∷ message (1 ∷ 0 ∷ 0 ∷ 0 ∷ 8 ∷ 0 ∷ 0 ∷ []) out page ∷ []) closing
    ∷ afresh two (ready 0 ∷ message (2 ∷ 0 ∷ 7 ∷ 0 ∷ 8 ∷ 0 ∷ 0 ∷ 0 ∷ 5 ∷ replicate 7 0) out page ∷ []) closing
    -- test 2: ids 0, 17 and 0x101 are unknown, whatever their size; the reply has their id
    ∷ fails 0 [] c1000
    ∷ fails 17 (0 ∷ []) c1000
    ∷ afresh two (send 0x101 [] ∷ []) (told (handled 16 Quiet) (1 ∷ 1 ∷ 8 ∷ 0 ∷ 8 ∷ 0 ∷ 0 ∷ 0 ∷ c1000 ++ c0) fresh_image quiet)
    -- a not_allowed id is answered whatever its size; with no command allowed 1, 2, 3 and 16 are; with one allowed that one is
    ∷ under (commanding 0) (fails 9 [] c1)
    ∷ under (commanding 0) (replying (asking 1 [] (1 ∷ 0 ∷ 0 ∷ 0 ∷ 0 ∷ 0 ∷ 0 ∷ 0 ∷ 1 ∷ 1 ∷ 1 ∷ 1 ∷ 1 ∷ 0 ∷ 0 ∷ 0 ∷ [])))
    ∷ under (commanding 0) (taken 2 (naming 3) ready_image)
    ∷ under (commanding 0) (taken 3 (naming 3) ready_image)
    ∷ under (commanding 0x10) (replying (asking 4 [] (2 ∷ replicate 15 0)))
    ∷ under (commanding 0x8000) (afresh two (responses 1 0 0 ∷ []) (answered 15 c0 fresh_image))
    -- with replies off either closes
    ∷ behind (responses 0 1 0 ∷ []) (closes 17 [])
    ∷ behind (responses 0 1 1 ∷ []) (closes 0 [])
    ∷ under (commanding 0x8000) (behind (responses 0 1 0 ∷ []) (closes 5 (event_data 12 1)))
    ∷ under (commanding 0x8000) (behind (responses 0 1 1 ∷ []) (closes 5 (event_data 12 1)))
    -- test 3 before test 6: an invalid read is not told by an event
    ∷ behind (responses 0 1 1 ∷ []) (closes 6 (physical 0 0))
    -- test 4 before test 6: padding in data of a wrong size
    ∷ closes 9 (replicate 17 1)
    -- test 5: a pause while event 2 is not allowed, invalid or not; it is the one event that a pause needs
    ∷ under (without 2) (closes 9 (flag_data 0 1))
    ∷ under (without 2) (closes 9 (flag_data 2 2))
    ∷ under (without 2) (closes 9 (flag_data 1 1))
    ∷ under (without 2) (taken 2 (naming 5) ready_image)
    ∷ under (without 2) (taken 14 (flag_data 0 0) ready_image)
    ∷ under (eventful 4) (afresh two (ready 0 ∷ pause 0 ∷ []) (told (handled 16 (Kick true 0)) (reply 9 c0) (vm ++ vc 0 1 0 0 1 ++ idle 1 ++ en 3) quiet))
    -- test 5: enable 0 with the flag while event 13 is not allowed, whatever now says; not with enable 1, without the flag, or with -22
    ∷ under (without 13) (closes 15 (mode_data 0 0 1))
    ∷ under (without 13) (closes 15 (mode_data 0 1 1))
    ∷ under (without 13) (taken 15 (mode_data 1 0 1) ready_image)
    ∷ afresh (without 13) (responses 0 0 0 ∷ []) (told (handled 16 Quiet) (reply 15 c0) fresh_image (beside Off 0 nobody))
    ∷ under (without 13) (fails 15 (mode_data 0 2 1) c22)
    ∷ under (without 13) (fails 15 (mode_data 0 0 3) c22)
    ∷ under (without 13) (reports 15 (set (mode_data 0 0 1) 7 1) 15)
    ∷ afresh (given 2 2 everything (everything - 2 ^ 13) 1 1 0) (set_access 1 1 (entry 0x5000 1) ∷ []) (answered 13 c0 (vm ++ idle 0 ++ idle 1 ++ pa 1 5 1 ++ en 4))
    ∷ afresh (eventful 0x2000) (responses 0 0 1 ∷ []) (told (handled 16 Quiet) (reply 15 c0) fresh_image (beside ErrorsOnly 0 nobody))
    -- -11: vCPU 1 is not ready
    ∷ fails 8 (vcpu_header 1) c11
    ∷ fails 9 (flag_data 1 1) c11
    ∷ fails 10 (vcpu_header 1 ++ event_data 9 1) c11
    ∷ fails 11 (register_data 1 4 1) c11
    ∷ fails 12 (register_data 1 0x1FFF 1) c11
    ∷ fails 14 (flag_data 1 1) c11
    -- -1: an event that is not allowed, with enable 0 too, and its neighbour that is
    ∷ under (without 12) (fails 3 (naming 12) c1)
    ∷ under (without 12) (taken 3 (naming 13) ready_image)
    ∷ under (without 12) (fails 5 (event_data 12 1) c1)
    ∷ under (without 12) (fails 5 (event_data 12 0) c1)
    ∷ under (without 12) (taken 5 (event_data 1 0) ready_image)
    ∷ under (without 9) (fails 10 (vcpu_header 0 ++ event_data 9 1) c1)
    ∷ under (without 9) (fails 10 (vcpu_header 0 ++ event_data 9 0) c1)
    ∷ under (without 9) (taken 10 (vcpu_header 0 ++ event_data 10 0) ready_image)
    -- -1: message 2, a command that is not allowed; 1, 2 and 3 always are
    ∷ under (commanding (everything - 2 ^ 9)) (fails 2 (naming 9) c1)
    ∷ under (commanding (everything - 2 ^ 9)) (taken 2 (naming 10) ready_image)
    ∷ under (commanding 0) (taken 2 (naming 1) ready_image)
    ∷ under (commanding 0) (taken 2 (naming 2) ready_image)
    ∷ under (commanding 0) (fails 2 (naming 4) c1)
    ∷ under (commanding 0) (fails 2 (naming 15) c1)
    -- -95: message 14 without the feature, with enable 0 too; any byte but 0 is the feature
    ∷ under (equipped 0 1 0) (fails 14 (flag_data 0 1) c95)
    ∷ under (equipped 0 1 0) (fails 14 (flag_data 0 0) c95)
    ∷ under (equipped 0x80 1 0) (taken 14 (flag_data 0 1) (vm ++ vc 0 3 0 0 0 ++ idle 1 ++ en 3))
    -- -95: enabling event 8 where it cannot be caught; disabling it, enabling another
    ∷ under (equipped 1 0 0) (fails 10 (vcpu_header 0 ++ event_data 8 1) c95)
    ∷ under (equipped 1 0 0) (taken 10 (vcpu_header 0 ++ event_data 8 0) ready_image)
    ∷ under (equipped 1 0 0) (taken 10 (vcpu_header 0 ++ event_data 9 1) (vm ++ vc 0 1 0 0x200 0 ++ idle 1 ++ en 3))
    ∷ under (equipped 1 0x80 0) (taken 10 (vcpu_header 0 ++ event_data 8 1) (vm ++ vc 0 1 0 0x100 0 ++ idle 1 ++ en 3))
    -- -16: enabling event 4 while the host has it; disabling it, enabling another
    ∷ under (equipped 1 1 1) (fails 10 (vcpu_header 0 ++ event_data 4 1) c16)
    ∷ under (equipped 1 1 0x80) (fails 10 (vcpu_header 0 ++ event_data 4 1) c16)
    ∷ under (equipped 1 1 1) (taken 10 (vcpu_header 0 ++ event_data 4 0) ready_image)
    ∷ under (equipped 1 1 1) (taken 10 (vcpu_header 0 ++ event_data 5 1) (vm ++ vc 0 1 0 0x20 0 ++ idle 1 ++ en 3))
    -- what the settings lack, and a full queue, is no matter to the other messages, nor is a vCPU's number an event's
    ∷ under few (taken 10 (vcpu_header 0 ++ event_data 9 1) (vm ++ vc 0 1 0 0x200 0 ++ idle 1 ++ en 3))
    ∷ under few (taken 15 (mode_data 1 0 0) ready_image)
    ∷ afresh two (ready 0 ∷ replicate 8 (pause 0) ++ (send 8 (vcpu_header 0) ∷ []))
    (told (handled 24 Quiet) (8 ∷ 0 ∷ 16 ∷ 0 ∷ 8 ∷ 0 ∷ 0 ∷ 0 ∷ replicate 16 0) (vm ++ vc 0 1 0 0 8 ++ idle 1 ++ en 3) quiet)
    ∷ afresh two (ready 0 ∷ replicate 8 (pause 0) ++ (control_cr 0 3 1 ∷ [])) (answered 11 c0 (vm ++ vc 0 1 2 0 8 ++ idle 1 ++ en 3))
    ∷ afresh (given 16 1 everything everything 1 0 1) (ready 4 ∷ ready 8 ∷ pause 4 ∷ pause 8 ∷ control_cr 4 3 1 ∷ control_cr 8 3 1 ∷ control_msr 4 0x10 1 ∷ control_msr 8 0x10 1 ∷ singlestep 4 1 ∷ singlestep 8 1 ∷ [])
    (told (handled 16 Quiet) (reply 14 c0) (vm_of 16 ++ joined (map idle (take 4 to15)) ++ vc 4 3 2 0 1 ++ idle 5 ++ idle 6 ++ idle 7 ++ vc 8 3 2 0 1 ++ joined (map idle (drop 9 to15)) ++ ms 4 0x10 ++ ms 8 0x10 ++ en 19) (beside On 0 (replicate 16 none)))
    -- the first code that applies: -22 before -11, -1, -95, -16 and -2; -11 before -1, -95 and -16; -1 before -95 and -16
    ∷ fails 10 (vcpu_header 1 ++ event_data 6 1) c22
    ∷ under few (reports 5 (set (event_data 12 1) 7 1) 15)
    ∷ under few (reports 14 (set (flag_data 0 1) 15 1) 23)
    ∷ under (equipped 1 1 1) (reports 10 (vcpu_header 0 ++ set (event_data 4 1) 7 1) 23)
    ∷ fails 6 (physical 4096 0) c22
    ∷ under few (fails 10 (vcpu_header 1 ++ event_data 5 1) c11)
    ∷ under few (fails 14 (flag_data 1 1) c11)
    ∷ under (equipped 1 1 1) (fails 10 (vcpu_header 1 ++ event_data 4 1) c11)
    ∷ under few (fails 10 (vcpu_header 0 ++ event_data 8 1) c1)
    ∷ under few (fails 10 (vcpu_header 0 ++ event_data 4 1) c1)
    ∷ []

abbrev pub of_messages : List Edge
of_messages = message_edges ++ field_edges ++ switch_edges ++ access_edges ++ memory_edges ++ test_edges
