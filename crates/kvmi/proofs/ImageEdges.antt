-- Edges of image reading: what loads, what breaks form (answer 8) and what the settings lack (answer 9), with the offset.
use Prim.Native.Nat.{ℕ, ◌^◌}
use mathlib.Core.List.{List, [], ◌∷◌, ◌++◌, map}
use lib.ListN.{take, set}
use Rattle.kvmi.specs.declared.Settings.{Settings}
use Rattle.kvmi.specs.declared.Signal.TheVariants.{Quiet}
use Rattle.kvmi.specs.Answer.{handled, plain_at}
use Rattle.kvmi.specs.Record.{order_at}
use Rattle.kvmi.specs.Image.{Loaded, bad_form as badFormAt, pa_record, en_record, load_rest}
use Rattle.kvmi.specs.Call.{write_image}
use Rattle.kvmi.specs.Case.{from_bytes, two, vm, vc, en, fresh_image}
use Rattle.kvmi.proofs.SessionEdges.{holding, stands}
use Rattle.kvmi.proofs.Edge.{Edge, nothing, left, commanding, equipped, sized, without, few, lent, vm_has, idle, ms, pa, quiet, gave, started, begun}

-- under settings, an image that loads and states the same again; one of bad form, one that is forbidden, with the offset
abbrev pub loads : Settings → List ℕ → Edge
loads s l = begun s (from_bytes l) (left (handled 0 Quiet) [] [] l quiet)

abbrev pub bad_form : Settings → List ℕ → ℕ → Edge
bad_form s l off = begun s (from_bytes l) (nothing (plain_at 8 off))

abbrev pub forbidden : Settings → List ℕ → ℕ → Edge
forbidden s l off = begun s (from_bytes l) (nothing (plain_at 9 off))

-- two vCPUs and eight views, all allowed
abbrev pub wide : Settings
wide = sized 2 8

-- an image with every kind of record and every switch, and where its records start
abbrev pub rich : List ℕ
rich =
    -- 0, 8, 18
    vm_has 0x1002 ++ vc 0 3 7 0x4FB8 8 ++ vc 1 1 0 0 0
    -- 28, 36, 44
    ++ ms 0 0x1FFF ++ ms 0 0xC0000000 ++ ms 1 0
    -- 52, 66, 80
    ++ pa 0 7 1 ++ pa 7 3 5 ++ pa 7 0xFFFFFFFFFFFFF 0
    -- 94, and 100 bytes in all
    ++ en 9

-- its first n bytes, which fail at an offset
abbrev pub cut_at : ℕ → ℕ → Edge
cut_at n off = bad_form wide (take n rich) off

-- its byte at a place made another, whereupon it fails at an offset
abbrev pub broken : ℕ → ℕ → ℕ → Edge
broken at x off = bad_form wide (set rich at x) off

-- two vCPUs, the first with a VC of its own, and records behind them
abbrev pub first : List ℕ → List ℕ
first l = vm ++ l ++ idle 1 ++ en 3

abbrev pub tailed : List ℕ → List ℕ
tailed l = vm ++ vc 0 1 0 0 0 ++ vc 1 1 0 0 0 ++ l

abbrev pub form_edges : List Edge
form_edges =
    -- what loads is stated again, and is written so
    loads two fresh_image
    ∷ loads wide rich
    ∷ started wide (from_bytes rich) (write_image (lent 101) ∷ []) (gave (handled 100 Quiet) rich (lent 101) rich quiet)
    -- a record that is cut fails at its start, and a missing record at the length
    ∷ cut_at 0 0
    ∷ cut_at 1 0
    ∷ cut_at 7 0
    ∷ cut_at 8 8
    ∷ cut_at 9 8
    ∷ cut_at 17 8
    ∷ cut_at 18 18
    ∷ cut_at 27 18
    ∷ cut_at 28 28
    ∷ cut_at 29 28
    ∷ cut_at 35 28
    ∷ cut_at 36 36
    ∷ cut_at 52 52
    ∷ cut_at 53 52
    ∷ cut_at 65 52
    ∷ cut_at 66 66
    ∷ cut_at 94 94
    ∷ cut_at 95 94
    ∷ cut_at 99 94
    -- bytes behind EN, a second EN too
    ∷ bad_form wide (rich ++ (0 ∷ [])) 100
    ∷ bad_form wide (rich ++ en 10) 100
    -- marks, in both bytes
    ∷ broken 0 0x57 0
    ∷ broken 1 0x4C 0
    ∷ broken 9 0x42 8
    ∷ broken 28 0x4C 28
    ∷ broken 29 0x52 28
    ∷ broken 52 0x51 52
    ∷ broken 53 0x40 52
    ∷ broken 94 0x44 94
    ∷ broken 95 0x4F 94
    -- VM: version 0, 2 and 0x101; vCPU count 0, 17 and 0x102
    ∷ broken 2 0 0
    ∷ broken 2 2 0
    ∷ broken 3 1 0
    ∷ broken 4 0 0
    ∷ broken 4 17 0
    ∷ broken 5 1 0
    -- VC: a vCPU that is not the next, in both bytes; a flag and a CR bit not named; 9 pauses; the zero byte
    ∷ broken 10 1 8
    ∷ broken 11 1 8
    ∷ broken 20 0 18
    ∷ broken 20 2 18
    ∷ broken 12 7 8
    ∷ broken 12 0x83 8
    ∷ broken 13 8 8
    ∷ broken 16 9 8
    ∷ broken 17 1 8
    -- MS: a vCPU that is not below the count, in both bytes; an MSR between the ranges, and above them; a vCPU that is not ready
    ∷ broken 30 2 28
    ∷ broken 31 1 28
    ∷ broken 33 0x20 28
    ∷ broken 41 0x20 36
    ∷ broken 43 0xBF 36
    ∷ broken 22 0 44
    -- PA: view 8 and 0x100; access 2, 6, 7 and 8; the zero byte; page 2^52, and a bit above it
    ∷ broken 54 8 52
    ∷ broken 55 1 52
    ∷ broken 56 2 52
    ∷ broken 56 6 52
    ∷ broken 56 7 52
    ∷ broken 56 8 52
    ∷ broken 57 1 52
    ∷ broken 64 0x10 52
    ∷ broken 65 1 52
    -- EN: one record too few and too many, and a high byte
    ∷ broken 96 8 94
    ∷ broken 96 10 94
    ∷ broken 99 1 94
    -- a flag not named, alone and with ready; page 2^52 itself
    ∷ bad_form two (first (vc 0 4 0 0 0)) 8
    ∷ bad_form two (first (vc 0 5 0 0 0)) 8
    ∷ bad_form two (tailed (pa 0 0x10000000000000 1 ++ en 4)) 28
    -- event bits that message 5 does not take, and those that message 10 does not take
    ∷ map (λ e. bad_form two (vm_has (2 ^ e) ++ idle 0 ++ idle 1 ++ en 3) 0) (0 ∷ 2 ∷ 3 ∷ 4 ∷ 5 ∷ 6 ∷ 7 ∷ 8 ∷ 9 ∷ 10 ∷ 11 ∷ 13 ∷ 14 ∷ 15 ∷ [])
    ++ map (λ e. bad_form two (first (vc 0 1 0 (2 ^ e) 0)) 8) (0 ∷ 1 ∷ 2 ∷ 6 ∷ 12 ∷ 13 ∷ 15 ∷ [])
    -- the MSRs beside the ranges, and the last of all
    ++ map (λ msr. bad_form two (tailed (ms 0 msr ++ en 4)) 28) (0x2000 ∷ 0xBFFFFFFF ∷ 0xC0002000 ∷ 0xFFFFFFFF ∷ [])
    -- an unready vCPU with singlestep, a CR switch, an event switch, a pause
    ++ map (λ l. bad_form two (first l) 8) (vc 0 2 0 0 0 ∷ vc 0 0 4 0 0 ∷ vc 0 0 0 0x200 0 ∷ vc 0 0 0 0 1 ∷ [])

abbrev pub order_edges : List Edge
order_edges =
    -- VM comes first, and once
    bad_form two (idle 0 ++ idle 1 ++ en 2) 0
    ∷ bad_form two (ms 0 0 ++ fresh_image) 0
    ∷ bad_form two (pa 0 0 1 ++ fresh_image) 0
    ∷ bad_form two (en 0) 0
    ∷ bad_form two (vm ++ fresh_image) 8
    ∷ bad_form two (vm ++ idle 0 ++ idle 1 ++ vm ++ en 4) 28
    -- one VC for every vCPU, ascending: swapped, twice, one too many, missing before MS, PA and EN, behind MS and PA
    ∷ bad_form two (vm ++ idle 1 ++ idle 0 ++ en 3) 8
    ∷ bad_form two (vm ++ idle 0 ++ idle 0 ++ en 3) 18
    ∷ bad_form two (vm ++ idle 0 ++ idle 1 ++ idle 1 ++ en 4) 28
    ∷ bad_form two (vm ++ idle 0 ++ idle 1 ++ idle 2 ++ en 4) 28
    ∷ bad_form two (vm ++ vc 0 1 0 0 0 ++ ms 0 0 ++ idle 1 ++ en 4) 18
    ∷ bad_form two (vm ++ idle 0 ++ pa 0 0 1 ++ idle 1 ++ en 4) 18
    ∷ bad_form two (vm ++ idle 0 ++ en 2) 18
    ∷ bad_form two (vm ++ en 1) 8
    ∷ bad_form two (tailed (ms 0 0 ++ idle 1 ++ en 5)) 36
    ∷ bad_form two (tailed (pa 0 0 1 ++ idle 1 ++ en 5)) 42
    -- MS by vCPU then MSR, none twice: within a range, across the two, across vCPUs; behind PA
    ∷ bad_form two (tailed (ms 0 0x10 ++ ms 0 0x10 ++ en 5)) 36
    ∷ bad_form two (tailed (ms 0 0x11 ++ ms 0 0x10 ++ en 5)) 36
    ∷ bad_form two (tailed (ms 0 0xC0000000 ++ ms 0 0x10 ++ en 5)) 36
    ∷ bad_form two (tailed (ms 1 0x10 ++ ms 0 0x11 ++ en 5)) 36
    ∷ loads two (tailed (ms 0 0x11 ++ ms 1 0x10 ++ ms 1 0xC0001FFF ++ en 6))
    ∷ bad_form two (tailed (pa 0 0 1 ++ ms 0 0x10 ++ en 5)) 42
    -- PA by view then page, none twice; each access below rwx
    ∷ bad_form wide (tailed (pa 0 5 1 ++ pa 0 5 3 ++ en 5)) 42
    ∷ bad_form wide (tailed (pa 0 5 1 ++ pa 0 4 1 ++ en 5)) 42
    ∷ bad_form wide (tailed (pa 1 4 1 ++ pa 0 5 1 ++ en 5)) 42
    ∷ loads wide (tailed (pa 0 5 0 ++ pa 0 6 1 ++ pa 1 3 3 ++ pa 1 4 4 ++ pa 1 5 5 ++ en 8))
    ∷ []

abbrev pub permission_edges : List Edge
permission_edges =
    -- VC: singlestep, event 8, event 4
    forbidden (equipped 0 1 0) rich 8
    ∷ forbidden (equipped 1 0 0) rich 8
    ∷ forbidden (equipped 1 1 1) rich 8
    -- what an image does not want may be lacking: here event 13 (only the view is refused), the singlestep feature for event 11, most for `few`
    ∷ forbidden (without 13) rich 66
    ∷ loads (equipped 0 0 1) (first (vc 0 1 7 0x4EA8 8))
    ∷ loads few (first (vc 0 1 0 0x200 3))
    -- a pause is what event 2 is needed for
    ∷ loads (without 2) (first (vc 0 3 7 0x4FB8 0))
    ∷ forbidden (without 2) (first (vc 0 1 0 0 1)) 8
    -- commands are not asked
    ∷ loads (commanding 0) (tailed (ms 0 0x10 ++ pa 0 5 1 ++ en 5))
    -- of the second vCPU
    ∷ forbidden few (vm ++ idle 0 ++ vc 1 3 0 0 0 ++ en 3) 18
    -- PA: a view not below the count, and the last that is
    ∷ forbidden two (tailed (pa 0 5 1 ++ pa 1 5 1 ++ en 5)) 42
    ∷ forbidden (sized 2 3) (tailed (pa 2 5 1 ++ pa 3 5 1 ++ en 5)) 42
    ∷ loads (sized 2 3) (tailed (pa 2 5 1 ++ en 4))
    -- at one record form comes first: VM, VC, PA
    ∷ bad_form few (vm_has 0x1004 ++ idle 0 ++ idle 1 ++ en 3) 0
    ∷ bad_form few (first (vc 0 3 8 0 0)) 8
    ∷ bad_form two (tailed (pa 1 5 7 ++ en 4)) 28
    -- an earlier 9 before a later 8, and an earlier 8 before a later 9
    ∷ forbidden few (vm ++ vc 0 1 0 0x20 0 ++ idle 0 ++ en 3) 8
    ∷ bad_form few (vm ++ vc 0 1 8 0 0 ++ vc 1 3 0 0 0 ++ en 3) 8
    -- VM: the count is unlike the settings', whatever follows; an event is not allowed
    ∷ map (λ n. forbidden wide (take 8 (set rich 4 n)) 0) (1 ∷ 3 ∷ 16 ∷ [])
    ++ map (λ e. forbidden (without e) rich 0) (1 ∷ 12 ∷ [])
    -- VC: an event, or event 2 for pauses, is not allowed
    ++ map (λ e. forbidden (without e) rich 8) (2 ∷ 3 ∷ 4 ∷ 5 ∷ 7 ∷ 8 ∷ 9 ∷ 10 ∷ 11 ∷ 14 ∷ [])

abbrev pub of_images : List Edge
of_images = form_edges ++ order_edges ++ permission_edges

-- the 1,024th PA, behind 28 + 14 * 1,023 bytes, is right; the 1,025th breaks form at its start
abbrev pub page_limit_loads : Loaded
page_limit_loads = load_rest two 2 14350 (order_at 3 0 1023) (holding 1023) (pa_record (stands 1023 1) ∷ pa_record (stands 1024 1) ∷ en_record 1028 ∷ [])

abbrev pub page_limit_seen : Loaded
page_limit_seen = badFormAt 14364
