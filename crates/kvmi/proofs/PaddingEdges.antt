-- Edges of W6: which padding byte an answer reports, and where it reports none. The offsets are in the message, whose header has 8 bytes.
use Prim.Native.Nat.{ℕ, ◌-◌, ◌^◌}
use mathlib.Core.List.{List, [], ◌∷◌, ◌++◌, map}
use lib.ListN.{set, replicate}
use Rattle.kvmi.specs.declared.ReplyMode.{ReplyMode}
use Rattle.kvmi.specs.declared.ReplyMode.TheVariants.{Off, ErrorsOnly}
use Rattle.kvmi.specs.declared.Signal.TheVariants.{Quiet}
use Rattle.kvmi.specs.Answer.{handled, plain, with_padding}
use Rattle.kvmi.specs.Message.{first_padding}
use Rattle.kvmi.specs.Reply.{message_bytes}
use Rattle.kvmi.specs.Call.{message, ready, enter}
use Rattle.kvmi.specs.Case.{two, out, page, send, vcpu_header, physical, flag_data, register_data, entry, access_data, pause, reply, c22, vm, vc, en, fresh_image, ready_image}
use Rattle.kvmi.proofs.Edge.{Edge, everything, commanding, without, few, equipped, lent, registers, naming, event_data, mode_data, answer_data, responses, send_as, c1, c11, c1000, idle, fail_bytes, beside, nobody, quiet, shut, left, told, closing, afresh, taken, fails, reports, closes, under, behind}

-- data, with bytes that are not zero, by their message offsets
abbrev pub dirty : List ℕ → List ℕ → List ℕ
dirty [] d = d
dirty (at ∷ rest) d = set (dirty rest d) (at - 8) 1

-- ---- each run of padding: its first and its last byte, of data that are taken otherwise; bytes of many values
abbrev pub at_each : ℕ → List ℕ → List ℕ → List Edge
at_each id d offsets = map (λ at. reports id (dirty (at ∷ []) d) at) offsets

abbrev pub run_edges : List Edge
run_edges =
    at_each 2 (naming 5) (10 ∷ 15 ∷ [])
    ++ at_each 3 (naming 5) (10 ∷ 15 ∷ [])
    ++ at_each 5 (event_data 12 1) (11 ∷ 15 ∷ [])
    ++ at_each 8 (vcpu_header 0) (10 ∷ 15 ∷ [])
    ++ at_each 9 (flag_data 0 1) (10 ∷ 15 ∷ 17 ∷ 23 ∷ [])
    ++ at_each 10 (vcpu_header 0 ++ event_data 9 1) (10 ∷ 15 ∷ 19 ∷ 23 ∷ [])
    ++ at_each 11 (register_data 0 4 1) (10 ∷ 15 ∷ 17 ∷ 19 ∷ [])
    ++ at_each 12 (register_data 0 0x1FFF 1) (10 ∷ 15 ∷ 17 ∷ 19 ∷ [])
    ++ at_each 13 (access_data 2 0 (entry 0x5000 1 ++ entry 0x6000 4)) (12 ∷ 15 ∷ 25 ∷ 31 ∷ 41 ∷ 47 ∷ [])
    ++ at_each 14 (flag_data 0 1) (10 ∷ 15 ∷ 17 ∷ 23 ∷ [])
    ++ at_each 15 (mode_data 0 0 1) (11 ∷ 15 ∷ [])
    ++ map (λ x. reports 12 (set (register_data 0 0x1FFF 1) 11 x) 19) (2 ∷ 0x40 ∷ 0x80 ∷ 0xFF ∷ [])

-- ---- several: the first; from the second entry on, and behind byte 255
abbrev pub first_edges : List Edge
first_edges =
    reports 2 (dirty (11 ∷ 13 ∷ []) (naming 5)) 11
    ∷ reports 9 (dirty (15 ∷ 17 ∷ []) (flag_data 0 1)) 15
    ∷ reports 9 (dirty (18 ∷ 23 ∷ []) (flag_data 0 1)) 18
    ∷ reports 10 (dirty (14 ∷ 19 ∷ 23 ∷ []) (vcpu_header 0 ++ event_data 9 1)) 14
    ∷ reports 11 (dirty (10 ∷ 11 ∷ 12 ∷ 13 ∷ 14 ∷ 15 ∷ 17 ∷ 18 ∷ 19 ∷ []) (register_data 0 4 1)) 10
    ∷ reports 13 (dirty (15 ∷ 25 ∷ 41 ∷ []) (access_data 2 0 (entry 0x5000 1 ++ entry 0x6000 4))) 15
    ∷ reports 13 (dirty (31 ∷ 41 ∷ []) (access_data 2 0 (entry 0x5000 1 ++ entry 0x6000 4))) 31
    ∷ reports 13 (dirty (43 ∷ 57 ∷ []) (access_data 3 0 (entry 0x5000 1 ++ entry 0x6000 4 ++ entry 0x7000 5))) 43
    ∷ reports 13 (dirty (269 ∷ []) (access_data 16 0 (replicate 128 0 ++ replicate 128 0))) 269
    ∷ []

-- ---- beside another cause of -22, and before -11, -1, -95 and -16
abbrev pub beside_edges : List Edge
beside_edges =
    -- a vCPU not below the count; a switch, a flag above 1; an event, a command, a CR, an MSR, a view, an access that is none
    reports 8 (dirty (12 ∷ []) (vcpu_header 2)) 12
    ∷ reports 9 (dirty (20 ∷ []) (flag_data 2 2)) 20
    ∷ reports 14 (dirty (20 ∷ []) (flag_data 0 2)) 20
    ∷ reports 15 (dirty (13 ∷ []) (mode_data 2 2 2)) 13
    ∷ reports 5 (dirty (13 ∷ []) (event_data 3 1)) 13
    ∷ reports 3 (dirty (13 ∷ []) (naming 15)) 13
    ∷ reports 2 (dirty (13 ∷ []) (naming 16)) 13
    ∷ reports 10 (dirty (21 ∷ []) (vcpu_header 0 ++ event_data 6 1)) 21
    ∷ reports 11 (dirty (18 ∷ []) (register_data 0 5 1)) 18
    ∷ reports 12 (dirty (18 ∷ []) (register_data 0 0x2000 1)) 18
    ∷ reports 13 (dirty (28 ∷ []) (access_data 1 1 (entry 0x5000 2))) 28
    -- a vCPU that is not ready, an event that is not allowed, a feature that is not there
    ∷ reports 11 (dirty (18 ∷ []) (register_data 1 4 1)) 18
    ∷ under few (reports 10 (dirty (21 ∷ []) (vcpu_header 1 ++ event_data 8 1)) 21)
    ∷ under few (reports 14 (dirty (21 ∷ []) (flag_data 0 1)) 21)
    -- the ninth pause, and an event that the host has
    ∷ afresh two (ready 0 ∷ replicate 8 (pause 0) ++ (send 9 (dirty (10 ∷ []) (flag_data 0 1)) ∷ []))
    (told (with_padding 10 (handled 16 Quiet)) (reply 9 c22) (vm ++ vc 0 1 0 0 8 ++ idle 1 ++ en 3) quiet)
    ∷ under (equipped 1 1 1) (reports 10 (dirty (19 ∷ []) (vcpu_header 0 ++ event_data 4 1)) 19)
    -- with clean padding the same fail, and nothing is reported
    ∷ fails 8 (vcpu_header 2) c22
    ∷ fails 9 (flag_data 2 2) c22
    ∷ fails 13 (access_data 1 1 (entry 0x5000 2)) c22
    ∷ fails 11 (register_data 1 4 1) c11
    -- messages 6 and 7 have no padding
    ∷ fails 6 (replicate 16 1) c22
    ∷ fails 7 (physical 0xFFFFFFFFFFFFFFFF 2 ++ (1 ∷ 1 ∷ [])) c22
    ∷ []

-- ---- message 13: "Entries are looked at only if the count fits"
abbrev pub count_edges : List Edge
count_edges =
    -- an entry too few, one too many, half an entry: -22, and no entry's padding is reported
    fails 13 (dirty (25 ∷ []) (access_data 2 0 (entry 0x5000 1))) c22
    ∷ fails 13 (dirty (25 ∷ 41 ∷ []) (access_data 1 0 (entry 0x5000 1 ++ entry 0x6000 4))) c22
    ∷ fails 13 (dirty (25 ∷ []) (access_data 1 0 (entry 0x5000 1 ++ replicate 8 0))) c22
    ∷ fails 13 (dirty (25 ∷ []) (access_data 0x101 0 (entry 0x5000 1))) c22
    -- a count of 0, and one of which 16 times is 16 in two bytes
    ∷ fails 13 (dirty (25 ∷ []) (access_data 0 0 (entry 0x5000 1))) c22
    ∷ fails 13 (dirty (25 ∷ []) (access_data 0x1001 0 (entry 0x5000 1))) c22
    -- that before them is
    ∷ reports 13 (dirty (14 ∷ 25 ∷ []) (access_data 2 0 (entry 0x5000 1))) 14
    ∷ reports 13 (dirty (12 ∷ []) (access_data 1 0 [])) 12
    ∷ reports 13 (dirty (15 ∷ []) (access_data 0 0 [])) 15
    ∷ []

-- ---- replies off: it is reported all the same, with no byte written, or with a CMD_ERROR event
abbrev pub unreplied : ℕ → ReplyMode → ℕ → List ℕ → ℕ → ℕ → List ℕ → ℕ → Edge
unreplied flags mode id d padding count bytes seq =
    afresh two (ready 0 ∷ responses 0 1 flags ∷ send id d ∷ []) (told (with_padding padding (handled count Quiet)) bytes ready_image (beside mode seq nobody))

abbrev pub silently : ℕ → List ℕ → ℕ → List Edge
silently id d padding = unreplied 0 Off id d padding 0 [] 0 ∷ unreplied 1 ErrorsOnly id d padding 568 (fail_bytes 0 c22 id) 1 ∷ []

abbrev pub off_edges : List Edge
off_edges =
    silently 2 (dirty (10 ∷ []) (naming 5)) 10
    ++ silently 3 (dirty (15 ∷ []) (naming 5)) 15
    ++ silently 5 (dirty (11 ∷ []) (event_data 12 1)) 11
    ++ silently 9 (dirty (23 ∷ []) (flag_data 0 1)) 23
    ++ silently 10 (dirty (19 ∷ []) (vcpu_header 0 ++ event_data 9 1)) 19
    ++ silently 11 (dirty (17 ∷ []) (register_data 0 4 1)) 17
    ++ silently 12 (dirty (19 ∷ []) (register_data 0 0x1FFF 1)) 19
    ++ silently 13 (dirty (41 ∷ []) (access_data 2 0 (entry 0x5000 1 ++ entry 0x6000 4))) 41
    ++ silently 14 (dirty (17 ∷ []) (flag_data 0 1)) 17
    -- an error of message 15 follows the old mode
    ++ silently 15 (dirty (15 ∷ []) (mode_data 1 1 0)) 15
    ++ silently 9 (dirty (23 ∷ []) (flag_data 2 2)) 23
    -- padding fine: -22 of another cause, and -11, report nothing
    ++ silently 9 (flag_data 2 2) 0
    ++ (unreplied 0 Off 9 (flag_data 1 1) 0 0 [] 0 ∷ unreplied 1 ErrorsOnly 9 (flag_data 1 1) 0 568 (fail_bytes 0 c11 9) 1 ∷ [])
    -- messages 8 (test 3) and those that are not allowed or unknown (test 2) close
    ++ (behind (responses 0 1 0 ∷ []) (closes 8 (dirty (10 ∷ []) (vcpu_header 0)))
    ∷ behind (responses 0 1 1 ∷ []) (closes 8 (dirty (10 ∷ []) (vcpu_header 0)))
    ∷ under (commanding 0x8000) (behind (responses 0 1 1 ∷ []) (closes 5 (dirty (11 ∷ []) (event_data 12 1))))
    ∷ behind (responses 0 1 1 ∷ []) (closes 17 (replicate 8 1))
    ∷ [])

-- ---- where test 6 is not reached, or is not of the message, nothing is reported
abbrev pub unreached_edges : List Edge
unreached_edges =
    -- test 2: not allowed, unknown; the data is looked at by no test
    under (commanding (everything - 2 ^ 11)) (fails 11 (dirty (10 ∷ []) (register_data 0 4 1)) c1)
    ∷ under (commanding 0) (fails 13 (dirty (12 ∷ []) (access_data 0 0 [])) c1)
    ∷ fails 0 (replicate 8 1) c1000
    ∷ fails 17 (replicate 16 1) c1000
    -- test 4: a size unlike the table closes
    ∷ closes 2 (replicate 9 1)
    ∷ closes 11 (replicate 15 1)
    ∷ closes 13 (replicate 7 1)
    -- test 5: a pause while event 2 is not allowed closes; message 15 closes only with padding that is fine
    ∷ under (without 2) (closes 9 (dirty (10 ∷ 17 ∷ []) (flag_data 0 1)))
    ∷ under (without 13) (closes 15 (mode_data 0 0 1))
    ∷ under (without 13) (reports 15 (dirty (11 ∷ []) (mode_data 0 0 1)) 11)
    -- EVENT_REPLY has no test 6: the reply that is awaited closes by its padding
    ∷ afresh two (ready 0 ∷ pause 0 ∷ enter 0 registers 0 [] (lent 576) ∷ send_as 0 16 (dirty (10 ∷ []) (answer_data 0 0 2)) ∷ []) closing
    ∷ afresh two (ready 0 ∷ pause 0 ∷ enter 0 registers 0 [] (lent 576) ∷ send_as 0 16 (dirty (23 ∷ []) (answer_data 0 0 2)) ∷ []) closing
    -- test 1: a size one too small
    ∷ afresh two (ready 0 ∷ message (2 ∷ 0 ∷ 7 ∷ 0 ∷ 8 ∷ 0 ∷ 0 ∷ 0 ∷ 5 ∷ replicate 7 1) out page ∷ []) closing
    -- 2 and 3 are always allowed, and so reach it
    ∷ under (commanding 0) (reports 2 (dirty (10 ∷ []) (naming 5)) 10)
    ∷ under (commanding 0) (reports 3 (dirty (15 ∷ []) (naming 5)) 15)
    -- answers 2 and 3
    ∷ afresh two (ready 0 ∷ send 9 [] ∷ send 9 (dirty (10 ∷ []) (flag_data 0 1)) ∷ []) (left (plain 2) out page fresh_image shut)
    ∷ afresh two (ready 0 ∷ message (message_bytes 9 8 (dirty (10 ∷ []) (flag_data 0 1))) (replicate 4111 0xAA) page ∷ [])
    (left (plain 3) (replicate 4111 0xAA) page ready_image quiet)
    -- the last answer's is not kept for the next
    ∷ behind (send 9 (dirty (10 ∷ []) (flag_data 0 1)) ∷ []) (taken 2 (naming 5) ready_image)
    ∷ []

abbrev pub of_padding : List Edge
of_padding = run_edges ++ first_edges ++ beside_edges ++ count_edges ++ off_edges ++ unreached_edges

-- the message offset of the first padding byte that is not zero: in the vCPU header, behind it in two places, in the second entry, nowhere, in an
-- entry whose count does not fit, where there are no bytes; and messages that have no padding
abbrev pub paddings : List ℕ
paddings =
    first_padding 9 (set (flag_data 0 1) 2 1)
    ∷ first_padding 9 (set (set (flag_data 0 1) 15 1) 9 1)
    ∷ first_padding 9 (set (flag_data 0 1) 15 1)
    ∷ first_padding 13 (set (access_data 2 0 (entry 0x5000 1 ++ entry 0x6000 1)) 39 1)
    ∷ first_padding 13 (access_data 2 0 (entry 0x5000 1 ++ entry 0x6000 1))
    ∷ first_padding 13 (set (access_data 2 0 (entry 0x5000 1)) 17 1)
    ∷ first_padding 9 []
    ∷ map (λ id. first_padding id (replicate 16 1)) (0 ∷ 1 ∷ 4 ∷ 6 ∷ 7 ∷ 17 ∷ [])

abbrev pub paddings_seen : List ℕ
paddings_seen = 10 ∷ 17 ∷ 23 ∷ 47 ∷ 0 ∷ 0 ∷ 0 ∷ replicate 6 0
