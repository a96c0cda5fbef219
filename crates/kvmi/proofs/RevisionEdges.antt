-- Edges of the revision: message 13 on tables that are full or nearly so, in revision 1 and in revision 2, what GET_VERSION reports, and how a session begins.
use Prim.Native.Nat.{ℕ}
use mathlib.Core.List.{List, [], ◌∷◌, ◌++◌, map}
use mathlib.Core.Bool.{true, false}
use mathlib.Core.Option.{none}
use lib.ListN.{length, drop}
use Rattle.kvmi.specs.declared.Settings.{Settings}
use Rattle.kvmi.specs.declared.ReplyMode.{ReplyMode}
use Rattle.kvmi.specs.declared.ReplyMode.TheVariants.{On, Off, ErrorsOnly}
use Rattle.kvmi.specs.declared.Signal.TheVariants.{Quiet}
use Rattle.kvmi.specs.Answer.{handled, plain}
use Rattle.kvmi.specs.Model.{fresh, with_tables, with_mode, with_seq}
use Rattle.kvmi.specs.Tables.{Page}
use Rattle.kvmi.specs.Message.{Entry}
use Rattle.kvmi.specs.Change.{Run, take_entries, run_by}
use Rattle.kvmi.specs.Call.{Call, write_image}
use Rattle.kvmi.specs.Case.{anew, from_bytes, standing, two, entry, set_access, reply, c0, c22, en, fresh_image}
use Rattle.kvmi.proofs.Edge.{Edge, nothing, revised, lacking, sized, odd, lent, send_as, c12, idle, pa, vm_of, fail_bytes, beside, nobody, quiet, told, gave, started, begun, afresh, under}
use Rattle.kvmi.proofs.MessageEdges.{asked, acted, replying, closes_unreplied}
use Rattle.kvmi.proofs.SessionEdges.{pas_from, holding, asks, stands}
use Rattle.kvmi.proofs.ImageEdges.{loads, wide, rich}
use Rattle.kvmi.proofs.ExecuteOnlyEdges.{states, unready}

-- ---- settings and rows
-- two vCPUs and one view, all allowed and all there, revision 2
abbrev pub second : Settings
second = revised 2 two

-- a session with the pages 0 to n - 1 of view 0 at access 1, a reply mode and the next event's seq 7; in it calls
abbrev pub stocked : ℕ → ReplyMode → List Call → List ℕ → List ℕ → List ℕ → ℕ → ReplyMode → ℕ → Settings → Edge
stocked n mode calls bytes pas more count left seq s =
    started s (standing (with_seq (with_mode (with_tables (fresh s) (holding n)) mode) 7)) calls
    (told (handled (length bytes) Quiet) bytes (unready (pas ++ more) count) (beside left seq nobody))

-- one message 13 with so many entries, of view 0, replied to with a code; the pages that stand then, and the count of all records
abbrev pub sets : ℕ → ℕ → List ℕ → List ℕ → List ℕ → List ℕ → ℕ → Settings → Edge
sets n count entries code pas more records s = stocked n On (set_access count 0 entries ∷ []) (reply 13 code) pas more records On 7 s

-- in both revisions
abbrev pub both : (Settings → Edge) → List Edge
both row = row two ∷ row second ∷ []

-- with 1,024 pages the last is page 0x3FF, here A; page B stands at rwx
abbrev pub A : ℕ → List ℕ
A access = entry 0x3FF000 access

abbrev pub B : ℕ → List ℕ
B access = entry 0x1001000 access

-- ---- message 13
abbrev pub order_edges : List Edge
order_edges =
    -- the two orders. Room that an earlier entry gave back is used, in both revisions
    both (sets 1024 2 (A 7 ++ B 1) c0 (pas_from 0 1023) (pa 0 0x1001 1) 1027)
    -- room that a later entry gives back comes too late: in revision 1 that entry is applied, in revision 2 nothing is done
    ++ (sets 1024 2 (B 1 ++ A 7) c12 (pas_from 0 1023) [] 1026 two
    ∷ sets 1024 2 (B 1 ++ A 7) c12 (pas_from 0 1024) [] 1027 second
    -- it is told as another error is: with replies off by an event, which takes the next seq, or not at all
    ∷ stocked 1024 ErrorsOnly (set_access 2 0 (B 1 ++ A 7) ∷ []) (fail_bytes 7 c12 13) (pas_from 0 1024) [] 1027 ErrorsOnly 8 second
    ∷ stocked 1024 Off (set_access 2 0 (B 1 ++ A 7) ∷ []) [] (pas_from 0 1024) [] 1027 Off 7 second
    -- -22 comes before -12
    ∷ both (sets 1024 2 (B 1 ++ A 2) c22 (pas_from 0 1024) [] 1027))

-- entries of a view on a table with room for two pages, of which some of view 0 stand at access 1; what is left in revision 1, and in revision 2
abbrev pub runs_in : ℕ → List ℕ → List Entry → List Run
runs_in view ps es = map (λ (s : Settings). run_by s (map (λ n. stands n 1) ps) (take_entries 2 view es (record { pages = map (λ n. stands n 1) ps; skipped = false }))) (two ∷ second ∷ [])

abbrev pub runs : List ℕ → List Entry → List Run
runs ps es = runs_in 0 ps es

abbrev pub all_runs : List Run
all_runs =
    -- an entry is skipped behind a page that took the last room; behind one that was changed; behind one that was forgotten, and whose room is taken;
    -- before one that makes room for the next; as the only one
    runs (1 ∷ []) (asks 5 3 ∷ asks 6 3 ∷ asks 1 5 ∷ [])
    ++ runs (1 ∷ 2 ∷ []) (asks 2 5 ∷ asks 5 1 ∷ [])
    ++ runs (1 ∷ 2 ∷ []) (asks 2 7 ∷ asks 5 1 ∷ asks 6 1 ∷ [])
    ++ runs (1 ∷ 2 ∷ []) (asks 5 1 ∷ asks 2 7 ∷ asks 5 3 ∷ [])
    ++ runs (1 ∷ 2 ∷ []) (asks 5 0 ∷ [])
    -- none is skipped: the last room, both last rooms; a page that stands, and one at rwx that is forgotten; a page that is forgotten and guarded again;
    -- one page twice; the room of a page that was guarded in the same message; no entry at all
    ++ runs (1 ∷ []) (asks 5 1 ∷ [])
    ++ runs [] (asks 6 0 ∷ asks 5 4 ∷ [])
    ++ runs (1 ∷ 2 ∷ []) (asks 2 5 ∷ asks 5 7 ∷ [])
    ++ runs (1 ∷ 2 ∷ []) (asks 2 7 ∷ asks 2 3 ∷ [])
    ++ runs (1 ∷ []) (asks 5 1 ∷ asks 5 3 ∷ [])
    ++ runs (1 ∷ []) (asks 5 1 ∷ asks 5 7 ∷ asks 6 1 ∷ [])
    ++ runs (1 ∷ 2 ∷ []) []
    -- pages of another view fill the table: an entry behind a page at rwx that is forgotten, and the one that is set has room where its own view gives it back
    ++ runs_in 1 (1 ∷ 2 ∷ []) (asks 9 7 ∷ asks 1 3 ∷ [])
    ++ runs_in 1 (1 ∷ []) (asks 1 3 ∷ asks 1 7 ∷ asks 9 0 ∷ [])

abbrev pub done : List Page → Run
done ps = record { pages = ps; skipped = false }

abbrev pub short : List Page → Run
short ps = record { pages = ps; skipped = true }

abbrev pub in_view : ℕ → ℕ → ℕ → Page
in_view view n access = record { view = view; page = n; access = access }

abbrev pub all_runs_seen : List Run
all_runs_seen =
    short (stands 1 5 ∷ stands 5 3 ∷ []) ∷ short (stands 1 1 ∷ [])
    ∷ short (stands 1 1 ∷ stands 2 5 ∷ []) ∷ short (stands 1 1 ∷ stands 2 1 ∷ [])
    ∷ short (stands 1 1 ∷ stands 5 1 ∷ []) ∷ short (stands 1 1 ∷ stands 2 1 ∷ [])
    ∷ short (stands 1 1 ∷ stands 5 3 ∷ []) ∷ short (stands 1 1 ∷ stands 2 1 ∷ [])
    ∷ short (stands 1 1 ∷ stands 2 1 ∷ []) ∷ short (stands 1 1 ∷ stands 2 1 ∷ [])
    ∷ done (stands 1 1 ∷ stands 5 1 ∷ []) ∷ done (stands 1 1 ∷ stands 5 1 ∷ [])
    ∷ done (stands 5 4 ∷ stands 6 0 ∷ []) ∷ done (stands 5 4 ∷ stands 6 0 ∷ [])
    ∷ done (stands 1 1 ∷ stands 2 5 ∷ []) ∷ done (stands 1 1 ∷ stands 2 5 ∷ [])
    ∷ done (stands 1 1 ∷ stands 2 3 ∷ []) ∷ done (stands 1 1 ∷ stands 2 3 ∷ [])
    ∷ done (stands 1 1 ∷ stands 5 3 ∷ []) ∷ done (stands 1 1 ∷ stands 5 3 ∷ [])
    ∷ done (stands 1 1 ∷ stands 6 1 ∷ []) ∷ done (stands 1 1 ∷ stands 6 1 ∷ [])
    ∷ done (stands 1 1 ∷ stands 2 1 ∷ []) ∷ done (stands 1 1 ∷ stands 2 1 ∷ [])
    ∷ short (stands 1 1 ∷ stands 2 1 ∷ []) ∷ short (stands 1 1 ∷ stands 2 1 ∷ [])
    ∷ done (stands 1 1 ∷ in_view 1 9 0 ∷ []) ∷ done (stands 1 1 ∷ in_view 1 9 0 ∷ [])
    ∷ []

-- ---- the other messages
abbrev pub version_edges : List Edge
version_edges =
    -- GET_VERSION reports the revision, and the rest of its reply is as it was
    afresh (revised 2 odd) (send_as 0x04030201 1 [] ∷ [])
    (told (handled 32 Quiet) (1 ∷ 0 ∷ 24 ∷ 0 ∷ 1 ∷ 2 ∷ 3 ∷ 4 ∷ c0 ++ c0 ++ (2 ∷ 0 ∷ 0 ∷ 0 ∷ 0 ∷ 0 ∷ 0 ∷ 0 ∷ 0xF1 ∷ 0xF2 ∷ 0xF3 ∷ 0xF4 ∷ 0xF5 ∷ 0 ∷ 0 ∷ 0 ∷ [])) (vm_of 3 ++ idle 0 ++ idle 1 ++ idle 2 ++ en 4) (beside On 0 (none ∷ none ∷ none ∷ [])))
    -- the other messages are as in revision 1, and so is message 13 where there is room
    ∷ map (under second) (map replying (drop 1 asked ++ acted))
    -- with replies off it closes, as do the others that have data
    ++ map (under second) (map (closes_unreplied 1) asked)

-- ---- beginnings
abbrev pub begin_edges : List Edge
begin_edges =
    -- a revision other than 1 or 2 is answer 7, fresh and from an image, also where the image is of bad form or forbidden
    map (λ n. begun (revised n two) anew (nothing (plain 7))) (0 ∷ 3 ∷ 4 ∷ 0x100 ∷ 0x10001 ∷ 0x10002 ∷ 0xFFFFFFFF ∷ [])
    ++ map (λ n. begun (revised n two) (from_bytes fresh_image) (nothing (plain 7))) (0 ∷ 3 ∷ 0x102 ∷ 0xFFFFFFFF ∷ [])
    ++ (begun (revised 0 two) (from_bytes []) (nothing (plain 7))
    ∷ begun (revised 3 (lacking two)) (from_bytes (states 4)) (nothing (plain 7))
    ∷ begun (revised 3 (sized 0 9)) anew (nothing (plain 7))
    -- in revision 2 counts are in their ranges or not as in revision 1
    ∷ begun (revised 2 (sized 17 1)) anew (nothing (plain 7))
    ∷ begun (revised 2 (sized 2 9)) anew (nothing (plain 7))
    ∷ afresh second [] (gave (handled 0 Quiet) [] [] fresh_image quiet)
    -- an image has no revision: what is written in one is loaded in the other, and written again as the same bytes
    ∷ loads second fresh_image
    ∷ loads (revised 2 wide) rich
    ∷ started second (from_bytes (states 4)) (write_image (lent 50) ∷ []) (gave (handled 48 Quiet) (states 4) (lent 50) (states 4) quiet)
    ∷ [])

abbrev pub of_revisions : List Edge
of_revisions = order_edges ++ version_edges ++ begin_edges
