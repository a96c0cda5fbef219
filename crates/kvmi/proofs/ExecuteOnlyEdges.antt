-- Edges of execute-only pages: access 4, and no other, by the flag of the settings; in message 13, in PA records, and from one to the other.
use Prim.Native.Nat.{ℕ, ◌-◌, ◌^◌}
use mathlib.Core.List.{List, [], ◌∷◌, ◌++◌, map}
use lib.ListN.{take, drop, set}
use Rattle.kvmi.specs.declared.Settings.{Settings}
use Rattle.kvmi.specs.declared.ReplyMode.TheVariants.{On, Off, ErrorsOnly}
use Rattle.kvmi.specs.declared.Signal.TheVariants.{Quiet}
use Rattle.kvmi.specs.Answer.{handled, plain}
use Rattle.kvmi.specs.Record.{order_at}
use Rattle.kvmi.specs.Image.{Loaded, bad_form as badFormAt, forbidden as forbiddenAt, pa_record, en_record, load_rest}
use Rattle.kvmi.specs.Call.{ready, write_image}
use Rattle.kvmi.specs.Case.{from_bytes, two, entry, access_data, set_access, reply, c0, c22, vm, vc, en, fresh_image, ready_image}
use Rattle.kvmi.proofs.Edge.{Edge, nothing, everything, executing, lacking, sized, commanding, equipped, few, lent, responses, c1, c12, idle, ms, pa, fail_bytes, beside, nobody, quiet, told, gave, answered, started, begun, afresh, taken, fails, reports, closes, under, behind}
use Rattle.kvmi.proofs.MessageEdges.{asked, acted, replying}
use Rattle.kvmi.proofs.SessionEdges.{pas_from, holding, filled, stands}
use Rattle.kvmi.proofs.ImageEdges.{loads, bad_form, forbidden, wide, rich, tailed}

-- ---- settings, messages and images
-- two vCPUs and one view, all allowed and all there but execute-only pages
abbrev pub bare : Settings
bare = lacking two

-- data of message 13 that ask an access for page 6 of view 0
abbrev pub wants : ℕ → List ℕ
wants access = access_data 1 0 (entry 0x6000 access)

-- the image of vCPU 0 ready and of pages, with the count of all its records
abbrev pub paged : List ℕ → ℕ → List ℕ
paged pas count = vm ++ vc 0 1 0 0 0 ++ idle 1 ++ pas ++ en count

-- and of none ready
abbrev pub unready : List ℕ → ℕ → List ℕ
unready pas count = vm ++ idle 0 ++ idle 1 ++ pas ++ en count

-- an image whose first PA, at 28, has page 6 of view 0 at an access
abbrev pub states : ℕ → List ℕ
states access = tailed (pa 0 6 access ++ en 4)

-- ---- message 13
abbrev pub taken_edges : List Edge
taken_edges =
    -- without the flag each other access is taken: 5 reads too, and is not execute-only
    under bare (taken 13 (wants 0) (paged (pa 0 6 0) 4))
    ∷ under bare (taken 13 (wants 1) (paged (pa 0 6 1) 4))
    ∷ under bare (taken 13 (wants 3) (paged (pa 0 6 3) 4))
    ∷ under bare (taken 13 (wants 5) (paged (pa 0 6 5) 4))
    ∷ under bare (taken 13 (wants 7) ready_image)
    -- all of them in one message, the page at 1 twice
    ∷ under bare (taken 13 (access_data 6 0 (entry 0x9000 5 ++ entry 0x8000 3 ++ entry 0x7000 1 ++ entry 0x6000 0 ++ entry 0x5000 7 ++ entry 0x7FFF 1)) (paged (pa 0 6 0 ++ pa 0 7 1 ++ pa 0 8 3 ++ pa 0 9 5) 7))
    -- 4 as a count, a view, a page and in an address is no access
    ∷ under (lacking wide) (taken 13 (access_data 4 4 (entry 0x4004 5 ++ entry 0x44000 1 ++ entry 0x400000 0 ++ entry 0x4000000000004000 3)) (paged (pa 4 4 5 ++ pa 4 0x44 1 ++ pa 4 0x400 0 ++ pa 4 0x4000000000004 3) 7))
    -- in silence with replies off
    ∷ afresh bare (ready 0 ∷ responses 0 1 1 ∷ set_access 1 0 (entry 0x6000 5) ∷ []) (told (handled 0 Quiet) [] (paged (pa 0 6 5) 4) (beside ErrorsOnly 0 nobody))
    -- a message without entries, also behind one that was refused
    ∷ under bare (taken 13 (access_data 0 0 []) ready_image)
    ∷ under bare (behind (set_access 1 0 (entry 0x6000 4) ∷ []) (taken 13 (access_data 0 0 []) ready_image))
    -- a refused 4 keeps no later message from acting
    ∷ under bare (behind (set_access 1 0 (entry 0x6000 4) ∷ []) (taken 13 (wants 5) (paged (pa 0 6 5) 4)))
    -- with the flag, which is set where it is not 0, 4 is taken: alone, as the first, in the middle, as the last; and so is 5
    ∷ map (λ flag. under (executing flag two) (taken 13 (wants 4) (paged (pa 0 6 4) 4))) (1 ∷ 2 ∷ 4 ∷ 16 ∷ 0x80 ∷ 0xFE ∷ 255 ∷ [])
    ++ (taken 13 (access_data 3 0 (entry 0x5000 4 ++ entry 0x6000 1 ++ entry 0x7000 5)) (paged (pa 0 5 4 ++ pa 0 6 1 ++ pa 0 7 5) 6)
    ∷ taken 13 (access_data 3 0 (entry 0x5000 1 ++ entry 0x6000 4 ++ entry 0x7000 5)) (paged (pa 0 5 1 ++ pa 0 6 4 ++ pa 0 7 5) 6)
    ∷ taken 13 (access_data 3 0 (entry 0x5000 1 ++ entry 0x6000 5 ++ entry 0x7000 4)) (paged (pa 0 5 1 ++ pa 0 6 5 ++ pa 0 7 4) 6)
    ∷ taken 13 (wants 5) (paged (pa 0 6 5) 4)
    ∷ under (executing 255 two) (taken 13 (wants 5) (paged (pa 0 6 5) 4))
    -- with it a page goes from 5 to 4, and from 4 to 5 and to rwx
    ∷ behind (set_access 1 0 (entry 0x6000 5) ∷ []) (taken 13 (wants 4) (paged (pa 0 6 4) 4))
    ∷ behind (set_access 1 0 (entry 0x6000 4) ∷ []) (taken 13 (wants 5) (paged (pa 0 6 5) 4))
    ∷ behind (set_access 1 0 (entry 0x6000 4) ∷ []) (taken 13 (wants 7) ready_image)
    -- where nothing else is there the flag is enough
    ∷ under (executing 1 few) (taken 13 (wants 4) (paged (pa 0 6 4) 4))
    ∷ [])

abbrev pub refused_edges : List Edge
refused_edges =
    -- without the flag 4 is -22: alone, as the first, in the middle and as the last of three entries, of which then none acts
    under bare (fails 13 (wants 4) c22)
    ∷ under bare (fails 13 (access_data 3 0 (entry 0x5000 4 ++ entry 0x6000 1 ++ entry 0x7000 5)) c22)
    ∷ under bare (fails 13 (access_data 3 0 (entry 0x5000 1 ++ entry 0x6000 4 ++ entry 0x7000 5)) c22)
    ∷ under bare (fails 13 (access_data 3 0 (entry 0x5000 1 ++ entry 0x6000 5 ++ entry 0x7000 4)) c22)
    -- also where a later entry of the same page asks for something else
    ∷ under bare (fails 13 (access_data 2 0 (entry 0x6000 4 ++ entry 0x6000 5)) c22)
    ∷ under bare (fails 13 (access_data 2 0 (entry 0x6000 4 ++ entry 0x6000 7)) c22)
    -- of each view
    ∷ under (lacking wide) (fails 13 (access_data 1 7 (entry 0x6000 4)) c22)
    -- where all else is lacking too; what is there beside it does not stand for it (`bare` has all of it)
    ∷ under few (fails 13 (wants 4) c22)
    -- what stands below rwx stays so: asked for 4 alone, behind an entry that would change it, before one that would forget it; asked for 7 it is forgotten
    ∷ afresh bare (set_access 2 0 (entry 0x5000 3 ++ entry 0x6000 5) ∷ set_access 1 0 (entry 0x6000 4) ∷ []) (answered 13 c22 (unready (pa 0 5 3 ++ pa 0 6 5) 5))
    ∷ afresh bare (set_access 2 0 (entry 0x5000 3 ++ entry 0x6000 5) ∷ set_access 2 0 (entry 0x5000 1 ++ entry 0x6000 4) ∷ []) (answered 13 c22 (unready (pa 0 5 3 ++ pa 0 6 5) 5))
    ∷ afresh bare (set_access 2 0 (entry 0x5000 3 ++ entry 0x6000 5) ∷ set_access 2 0 (entry 0x6000 4 ++ entry 0x6000 7) ∷ []) (answered 13 c22 (unready (pa 0 5 3 ++ pa 0 6 5) 5))
    ∷ afresh bare (set_access 2 0 (entry 0x5000 3 ++ entry 0x6000 5) ∷ set_access 1 0 (entry 0x6000 7) ∷ []) (answered 13 c0 (unready (pa 0 5 3) 4))
    -- of a loaded session as well
    ∷ started bare (from_bytes (states 5)) (set_access 1 0 (entry 0x6000 4) ∷ []) (answered 13 c22 (states 5))
    -- an entry of 4 past the count, behind a count of 0, and with too few behind it: the count does not fit, with the flag too
    ∷ under bare (fails 13 (access_data 1 0 (entry 0x5000 1 ++ entry 0x6000 4)) c22)
    ∷ under bare (fails 13 (access_data 0 0 (entry 0x6000 4)) c22)
    ∷ under bare (fails 13 (access_data 2 0 (entry 0x6000 4)) c22)
    ∷ fails 13 (access_data 1 0 (entry 0x5000 1 ++ entry 0x6000 4)) c22
    ∷ fails 13 (access_data 0 0 (entry 0x6000 4)) c22
    ∷ fails 13 (access_data 2 0 (entry 0x6000 4)) c22
    -- with the flag 4 excuses nothing else: padding behind it, a view not below the count
    ∷ reports 13 (set (wants 4) 17 1) 25
    ∷ fails 13 (access_data 1 1 (entry 0x6000 4)) c22
    -- tests 2 and 4 come first: the command is not allowed, with replies off too; 7 bytes
    ∷ under (lacking (commanding (everything - 2 ^ 13))) (fails 13 (wants 4) c1)
    ∷ under (lacking (commanding (everything - 2 ^ 13))) (behind (responses 0 1 1 ∷ []) (closes 13 (wants 4)))
    ∷ under bare (closes 13 (take 7 (wants 4)))
    -- with replies off it is refused in silence, and told by an event if errors are; the second event has the next seq
    ∷ afresh bare (ready 0 ∷ responses 0 1 0 ∷ set_access 2 0 (entry 0x5000 1 ++ entry 0x6000 4) ∷ []) (told (handled 0 Quiet) [] ready_image (beside Off 0 nobody))
    ∷ afresh bare (ready 0 ∷ responses 0 1 1 ∷ set_access 2 0 (entry 0x5000 1 ++ entry 0x6000 4) ∷ []) (told (handled 568 Quiet) (fail_bytes 0 c22 13) ready_image (beside ErrorsOnly 1 nobody))
    ∷ afresh bare (ready 0 ∷ responses 0 1 1 ∷ set_access 1 0 (entry 0x6000 4) ∷ set_access 1 0 (entry 0x6000 5) ∷ set_access 1 0 (entry 0x6000 4) ∷ [])
    (told (handled 568 Quiet) (fail_bytes 1 c22 13) (paged (pa 0 6 5) 4) (beside ErrorsOnly 2 nobody))
    -- on a full table -22 comes before -12, and the room that an entry would make is not made; with the flag 4 takes that room, behind a skip
    ∷ under bare (filled 1024 On (entry 0x1001000 3 ++ entry 0x3FF000 7 ++ entry 0x1002000 4) (told (handled 16 Quiet) (reply 13 c22) (unready (pas_from 0 1024) 1027) (beside On 7 nobody)))
    ∷ filled 1024 On (entry 0x1001000 3 ++ entry 0x3FF000 7 ++ entry 0x1002000 4) (told (handled 16 Quiet) (reply 13 c12) (unready (pas_from 0 1023 ++ pa 0 0x1002 4) 1027) (beside On 7 nobody))
    -- what is no access stays -22, without the flag and with it
    ∷ map (λ a. under bare (fails 13 (wants a) c22)) (2 ∷ 6 ∷ 8 ∷ 12 ∷ 20 ∷ 0x84 ∷ 255 ∷ [])
    ++ map (λ a. fails 13 (wants a) c22) (2 ∷ 6 ∷ 8 ∷ 12 ∷ 20 ∷ 0x84 ∷ 255 ∷ [])
    ++ map (λ a. under (executing 255 two) (fails 13 (wants a) c22)) (2 ∷ 6 ∷ 8 ∷ 255 ∷ [])

-- the flag is no matter to the other messages, and no reply tells it: 1 to 12 and 14 as they are taken with the flag
abbrev pub other_edges : List Edge
other_edges = map (under bare) (map replying (asked ++ take 8 acted ++ drop 9 acted))

-- ---- images
abbrev pub allowed_edges : List Edge
allowed_edges =
    -- without the flag each other access below rwx loads; so do all of them, and 4 as a view and a page
    map (λ a. loads bare (states a)) (0 ∷ 1 ∷ 3 ∷ 5 ∷ [])
    ++ (loads bare (tailed (pa 0 5 0 ++ pa 0 6 1 ++ pa 0 7 3 ++ pa 0 8 5 ++ en 7))
    ∷ loads (lacking wide) (tailed (pa 4 4 5 ++ pa 4 0x400 1 ++ en 5))
    ∷ loads (lacking wide) rich
    ∷ loads bare fresh_image
    -- with the flag, set where it is not 0, 4 loads, and is written back as the same 48 bytes
    ∷ started two (from_bytes (states 4)) (write_image (lent 50) ∷ []) (gave (handled 48 Quiet) (states 4) (lent 50) (states 4) quiet)
    ∷ loads wide (tailed (pa 0 6 4 ++ pa 3 0 4 ++ pa 7 0xFFFFFFFFFFFFF 4 ++ en 6))
    -- where nothing else is there, and no command is allowed, the flag is enough
    ∷ loads (executing 1 few) (states 4)
    ∷ loads (commanding 0) (states 4)
    ∷ [])
    ++ map (λ flag. loads (executing flag two) (states 4)) (1 ∷ 2 ∷ 4 ∷ 16 ∷ 0x80 ∷ 0xFE ∷ 255 ∷ [])

abbrev pub forbidden_edges : List Edge
forbidden_edges =
    -- without the flag 4 is forbidden at the start of its PA: as the first, behind MS, as the second, as the third and in the last view
    forbidden bare (states 4) 28
    ∷ forbidden bare (tailed (ms 0 0x10 ++ pa 0 6 4 ++ en 5)) 36
    ∷ forbidden bare (tailed (pa 0 5 1 ++ pa 0 6 4 ++ en 5)) 42
    ∷ forbidden (lacking wide) (tailed (pa 0 5 5 ++ pa 1 5 3 ++ pa 7 0xFFFFFFFFFFFFF 4 ++ en 6)) 56
    -- where all else is lacking too, and where no command is allowed
    ∷ forbidden few (states 4) 28
    ∷ forbidden (lacking (commanding 0)) (states 4) 28
    -- both causes of one PA: a view not below the count is forbidden with the flag too
    ∷ forbidden bare (tailed (pa 1 6 4 ++ en 4)) 28
    ∷ forbidden two (tailed (pa 1 6 4 ++ en 4)) 28
    ∷ forbidden bare (tailed (pa 1 6 5 ++ en 4)) 28
    -- the first record that is bad: 4 before bad form, in the next PA (access, order, zero byte), in EN and behind it
    ∷ forbidden bare (tailed (pa 0 6 4 ++ pa 0 7 2 ++ en 5)) 28
    ∷ forbidden bare (tailed (pa 0 6 4 ++ pa 0 5 1 ++ en 5)) 28
    ∷ forbidden bare (tailed (pa 0 6 4 ++ set (pa 0 7 1) 5 1 ++ en 5)) 28
    ∷ forbidden bare (tailed (pa 0 6 4 ++ ms 0 0x10 ++ en 5)) 28
    ∷ forbidden bare (tailed (pa 0 6 4 ++ en 5)) 28
    ∷ forbidden bare (tailed (pa 0 6 4 ++ en 4 ++ (0 ∷ []))) 28
    -- an image cut behind it: at its end, within the next PA and within EN
    ∷ forbidden bare (take 42 (states 4)) 28
    ∷ forbidden bare (tailed (pa 0 6 4 ++ take 13 (pa 0 7 1))) 28
    ∷ forbidden bare (take 43 (states 4)) 28
    ∷ forbidden bare (take 47 (states 4)) 28
    -- of two at 4 the first, of which with the flag neither is forbidden; a view not below the count is before it or behind it
    ∷ forbidden bare (tailed (pa 0 6 4 ++ pa 0 7 4 ++ en 5)) 28
    ∷ loads two (tailed (pa 0 6 4 ++ pa 0 7 4 ++ en 5))
    ∷ forbidden bare (tailed (pa 0 6 4 ++ pa 1 6 1 ++ en 5)) 28
    ∷ forbidden two (tailed (pa 0 6 4 ++ pa 1 6 1 ++ en 5)) 42
    ∷ forbidden (lacking (sized 2 2)) (tailed (pa 1 6 1 ++ pa 1 7 4 ++ pa 2 6 1 ++ en 6)) 42
    -- what VM and VC are forbidden for comes first, and counts out of range before all
    ∷ forbidden (lacking (sized 3 1)) (states 4) 0
    ∷ forbidden (lacking (equipped 0 1 0)) (vm ++ vc 0 3 0 0 0 ++ idle 1 ++ pa 0 6 4 ++ en 4) 8
    ∷ begun (lacking (sized 2 9)) (from_bytes (states 4)) (nothing (plain 7))
    ∷ []

abbrev pub form_edges : List Edge
form_edges =
    -- without the flag, at a PA of 4 form comes first: the zero byte; view 8 and 0x100; page 2^52
    bad_form bare (tailed (set (pa 0 6 4) 5 1 ++ en 4)) 28
    ∷ bad_form bare (tailed (pa 8 6 4 ++ en 4)) 28
    ∷ bad_form bare (tailed (set (pa 0 6 4) 3 1 ++ en 4)) 28
    ∷ bad_form bare (tailed (pa 0 0x10000000000000 4 ++ en 4)) 28
    -- and the order: a page twice, a page and a view that come before, a VC that is missing, before VM; and a PA that is cut
    ∷ bad_form bare (tailed (pa 0 6 1 ++ pa 0 6 4 ++ en 5)) 42
    ∷ bad_form bare (tailed (pa 0 6 1 ++ pa 0 5 4 ++ en 5)) 42
    ∷ bad_form (lacking wide) (tailed (pa 1 5 1 ++ pa 0 6 4 ++ en 5)) 42
    ∷ bad_form bare (vm ++ idle 0 ++ pa 0 6 4 ++ idle 1 ++ en 4) 18
    ∷ bad_form bare (pa 0 6 4 ++ fresh_image) 0
    ∷ bad_form bare (take 41 (states 4)) 28
    ∷ bad_form bare (take 33 (states 4)) 28
    -- bad form of a record before it
    ∷ bad_form bare (tailed (pa 0 5 2 ++ pa 0 6 4 ++ en 5)) 28
    ∷ bad_form bare (tailed (set (pa 0 5 1) 5 1 ++ pa 0 6 4 ++ en 5)) 28
    ∷ bad_form bare (vm ++ vc 0 1 8 0 0 ++ idle 1 ++ pa 0 6 4 ++ en 4) 8
    -- with the flag a PA of 4 is right, and the next one is of bad form
    ∷ bad_form two (tailed (pa 0 6 4 ++ pa 0 7 2 ++ en 5)) 42
    -- what is no access below rwx stays bad form, without the flag and with it
    ∷ map (λ a. bad_form bare (states a) 28) (2 ∷ 6 ∷ 7 ∷ 8 ∷ 12 ∷ 20 ∷ 0x84 ∷ 255 ∷ [])
    ++ map (λ a. bad_form two (states a) 28) (2 ∷ 6 ∷ 7 ∷ 8 ∷ 12 ∷ 20 ∷ 0x84 ∷ 255 ∷ [])

-- the 1,024th PA, behind 28 + 14 * 1,023 bytes, is forbidden at 4 whatever follows; at 4 the 1,025th breaks form
abbrev pub limits_load : List Loaded
limits_load =
    load_rest bare 2 14350 (order_at 3 0 1023) (holding 1023) (pa_record (stands 1023 4) ∷ pa_record (stands 1024 1) ∷ en_record 1028 ∷ [])
    ∷ load_rest bare 2 14350 (order_at 3 0 1023) (holding 1023) (pa_record (stands 1023 1) ∷ pa_record (stands 1024 4) ∷ en_record 1028 ∷ [])
    ∷ load_rest two 2 14350 (order_at 3 0 1023) (holding 1023) (pa_record (stands 1023 4) ∷ pa_record (stands 1024 4) ∷ en_record 1028 ∷ [])
    ∷ []

abbrev pub limits_seen : List Loaded
limits_seen = forbiddenAt 14350 ∷ badFormAt 14364 ∷ badFormAt 14364 ∷ []

-- ---- from a session to another by an image
-- vCPU 0 ready and page 6 of view 0 at 4: 48 bytes, PA at 28
abbrev pub guarded_image : List ℕ
guarded_image =
    0x56 ∷ 0x4D ∷ 0x01 ∷ 0x00 ∷ 0x02 ∷ 0x00 ∷ 0x00 ∷ 0x00
    ∷ 0x56 ∷ 0x43 ∷ 0x00 ∷ 0x00 ∷ 0x01 ∷ 0x00 ∷ 0x00 ∷ 0x00 ∷ 0x00 ∷ 0x00
    ∷ 0x56 ∷ 0x43 ∷ 0x01 ∷ 0x00 ∷ 0x00 ∷ 0x00 ∷ 0x00 ∷ 0x00 ∷ 0x00 ∷ 0x00
    ∷ 0x50 ∷ 0x41 ∷ 0x00 ∷ 0x00 ∷ 0x04 ∷ 0x00 ∷ 0x06 ∷ 0x00 ∷ 0x00 ∷ 0x00 ∷ 0x00 ∷ 0x00 ∷ 0x00 ∷ 0x00
    ∷ 0x45 ∷ 0x4E ∷ 0x04 ∷ 0x00 ∷ 0x00 ∷ 0x00 ∷ []

-- under the flag a session sets it and writes its image; a session without the flag, asked for the same, has nothing to write; asked for 5 it has
abbrev pub guarded : Edge
guarded =
    afresh two (ready 0 ∷ set_access 1 0 (entry 0x6000 4) ∷ write_image (lent 48) ∷ []) (gave (handled 48 Quiet) guarded_image (lent 48) guarded_image quiet)

abbrev pub unguarded : Edge
unguarded =
    afresh bare (ready 0 ∷ set_access 1 0 (entry 0x6000 4) ∷ write_image (lent 34) ∷ []) (gave (handled 34 Quiet) ready_image (lent 34) ready_image quiet)

abbrev pub readable : Edge
readable =
    afresh bare (ready 0 ∷ set_access 1 0 (entry 0x6000 5) ∷ write_image (lent 48) ∷ []) (gave (handled 48 Quiet) (paged (pa 0 6 5) 4) (lent 48) (paged (pa 0 6 5) 4) quiet)

-- what a row's last call wrote
abbrev pub written : Edge → List ℕ
written e = e.expected.out

abbrev pub round_edges : List Edge
round_edges =
    guarded ∷ unguarded ∷ readable
    -- without the flag the first is forbidden at its PA; with it, it loads, and is written again
    ∷ forbidden bare (written guarded) 28
    ∷ loads two (written guarded)
    ∷ started two (from_bytes (written guarded)) (write_image (lent 48) ∷ []) (gave (handled 48 Quiet) guarded_image (lent 48) guarded_image quiet)
    -- the others load without the flag and with it
    ∷ loads bare (written unguarded)
    ∷ loads two (written unguarded)
    ∷ loads bare (written readable)
    ∷ loads two (written readable)
    -- a session that forgets the page again writes what loads without the flag
    ∷ started two (from_bytes (written guarded)) (set_access 1 0 (entry 0x6000 7) ∷ write_image (lent 34) ∷ []) (gave (handled 34 Quiet) ready_image (lent 34) ready_image quiet)
    ∷ loads bare ready_image
    ∷ []

abbrev pub of_execute_only : List Edge
of_execute_only = taken_edges ++ refused_edges ++ other_edges ++ allowed_edges ++ forbidden_edges ++ form_edges ++ round_edges
