-- The image reader as code performs it: an accepted image on cleared words, record by record; a refused one leaves every word as it was.
use Rattle.std.specs.Prelude.{ℕ, suc, ◌+◌, ◌*◌, ◌^◌, ◌≡◌, List, [], ◌∷◌, true, cond, length, set}
use Rattle.kvmi.specs.declared.Settings.{Settings}
use Rattle.kvmi.specs.declared.Signal.TheVariants.{Quiet}
use Rattle.kvmi.specs.Answer.{Paper, handled, plain, plain_at}
use Rattle.kvmi.specs.Bits.{bit}
use Rattle.kvmi.specs.Settings.{in_range}
use Rattle.kvmi.specs.Tables.{Vcpu, Msr, Page, Tables}
use Rattle.kvmi.specs.Image.{Loaded, loaded, bad_form, forbidden, load_image}
use Rattle.store.specs.Words.{set_field, set_msr_bit, cleared, SINGLESTEP, CRS, EVENTS, PAUSES}
use Rattle.session.specs.declared.Session.{Session}
use Rattle.session.specs.State.{State, state, fresh_session, closed_session, with_tool, with_tool_events, with_tool_pages, with_ready_bits}
use Rattle.session.specs.Calls.{Told}
use Rattle.image_test.specs.Test.{ready_loaded}

-- ---- the words that tables are loaded as
-- a vCPU's plain fields
unfoldable pub vcpu_loaded : List ℕ → ℕ → Vcpu → List ℕ
vcpu_loaded w i v = set_field (set_field (set_field (set_field w i SINGLESTEP (bit v.singlestep)) i CRS v.crs) i EVENTS v.events) i PAUSES v.pauses

-- the vCPUs from i on
unfoldable pub vcpus_loaded : List ℕ → ℕ → List Vcpu → List ℕ
vcpus_loaded w i [] = w
vcpus_loaded w i (v ∷ vs) = vcpus_loaded (vcpu_loaded w i v) (suc i) vs

-- the MSR switches that are on
unfoldable pub msrs_loaded : List ℕ → List Msr → List ℕ
msrs_loaded w [] = w
msrs_loaded w (m ∷ ms) = msrs_loaded (set_msr_bit w m.vcpu m.msr true) ms

-- a page's word
unfoldable pub page_word : Page → ℕ
page_word p = p.view * 2 ^ 55 + p.page * 8 + p.access

-- the pages from place i on
unfoldable pub pages_loaded : List ℕ → ℕ → List Page → List ℕ
pages_loaded ws i [] = ws
pages_loaded ws i (p ∷ ps) = pages_loaded (set ws i (page_word p)) (suc i) ps

-- words, at first as given and then as they are, that hold what an accepted image states
abbrev pub HoldStated : List ℕ → List ℕ → List ℕ → List ℕ → List ℕ → Type 0
HoldStated l vcpus pages vcpus' pages' =
    (s : Settings) (u : Tables) → load_image s l ≡ loaded u
    → (vcpus' ≡ msrs_loaded (vcpus_loaded vcpus 0 u.vcpus) u.msrs) × (pages' ≡ pages_loaded pages 0 u.pages)

-- open, with VM event switches, a number of pages and ready marks
abbrev pub opened_session : Settings → ℕ → ℕ → ℕ → Session
opened_session s events pages ready = with_ready_bits (with_tool (fresh_session s) (with_tool_pages (with_tool_events (fresh_session s).tool events) pages)) ready

-- "Loaded sessions have replies on, seq 0."
abbrev pub loaded_session : Settings → Tables → Session
loaded_session s t = opened_session s t.events (length t.pages) (ready_loaded 0 0 t.vcpus)

-- on words that are cleared first
unfoldable pub loaded_state : Settings → Tables → List ℕ → List ℕ → State
loaded_state s t vcpus pages =
    state (loaded_session s t) (msrs_loaded (vcpus_loaded (cleared vcpus) 0 t.vcpus) t.msrs) (pages_loaded (cleared pages) 0 t.pages)

-- ---- the call
-- refused: no word changes, and the session is a closed one
abbrev pub told_refused : Paper → Settings → List ℕ → List ℕ → Told
told_refused p s vcpus pages = record { answer = p; state = state (closed_session s) vcpus pages; out = []; guest = [] }

-- by what the image loads as
unfoldable pub told_loaded : Settings → List ℕ → List ℕ → Loaded → Told
told_loaded s vcpus pages (loaded t) = record { answer = handled 0 Quiet; state = loaded_state s t vcpus pages; out = []; guest = [] }
told_loaded s vcpus pages (bad_form off) = told_refused (plain_at 8 off) s vcpus pages
told_loaded s vcpus pages (forbidden off) = told_refused (plain_at 9 off) s vcpus pages

-- "image reader 7, then 8 or 9"
unfoldable pub read_of : Settings → List ℕ → List ℕ → List ℕ → Told
read_of s l vcpus pages = cond (in_range s) (told_loaded s vcpus pages (load_image s l)) (told_refused (plain 7) s vcpus pages)
