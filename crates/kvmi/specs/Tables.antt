-- The tables (document 01's standing): what the table image states.
use Rattle.std.specs.Prelude.{ℕ, ◌+◌, ◌*◌, ◌^◌, ◌≡◌, List, [], ◌∷◌, Bool, false, cond, ◌&&◌, ◌||◌, get_or, set, replicate, eqb}
use Rattle.msrs.specs.Place.{is_msr}
use Rattle.kvmi.specs.Bits.{is_on, among}

-- CR switches are bits 0, 1, 2 for CR0, CR3, CR4; event switches bit e for event e
pub record Vcpu : Type 0 where
  pub ready : Bool
  pub singlestep : Bool
  pub crs : ℕ
  pub events : ℕ
  pub pauses : ℕ

-- an MSR switch that is on
pub record Msr : Type 0 where
  pub vcpu : ℕ
  pub msr : ℕ

-- a page below rwx
pub record Page : Type 0 where
  pub view : ℕ
  pub page : ℕ
  pub access : ℕ

-- "by vCPU then MSR", and "by view then page": numbers in that order, since an MSR has 32 bits and a page number 52
abbrev pub msr_key : Msr → ℕ
msr_key m = m.vcpu * 2 ^ 64 + m.msr

abbrev pub page_key : Page → ℕ
page_key p = p.view * 2 ^ 64 + p.page

-- "Standing: VM event switches; for each vCPU its ready mark, event switches, CR0/CR3/CR4 switches, MSR switches, singlestep and queued pauses (0..8);
-- for each view and page number an access."
pub record Tables : Type 0 where
  -- VM event switches
  pub events : ℕ
  pub vcpus : List Vcpu
  -- the MSR switches that are on, in rising order of their keys
  pub msrs : List Msr
  -- the pages below rwx, in rising order of their keys
  pub pages : List Page

-- every switch off, not ready, no pauses
abbrev pub resting : Vcpu
resting = record { ready = false; singlestep = false; crs = 0; events = 0; pauses = 0 }

-- "every switch off, no vCPU ready, no pauses, every page at rwx"
abbrev pub empty_tables : ℕ → Tables
empty_tables n = record { events = 0; vcpus = replicate n resting; msrs = []; pages = [] }

-- ---- setters
abbrev pub with_ready : Vcpu → Bool → Vcpu
with_ready v x = record { ready = x; singlestep = v.singlestep; crs = v.crs; events = v.events; pauses = v.pauses }

abbrev pub with_singlestep : Vcpu → Bool → Vcpu
with_singlestep v x = record { ready = v.ready; singlestep = x; crs = v.crs; events = v.events; pauses = v.pauses }

abbrev pub with_crs : Vcpu → ℕ → Vcpu
with_crs v x = record { ready = v.ready; singlestep = v.singlestep; crs = x; events = v.events; pauses = v.pauses }

abbrev pub with_events : Vcpu → ℕ → Vcpu
with_events v x = record { ready = v.ready; singlestep = v.singlestep; crs = v.crs; events = x; pauses = v.pauses }

abbrev pub with_pauses : Vcpu → ℕ → Vcpu
with_pauses v x = record { ready = v.ready; singlestep = v.singlestep; crs = v.crs; events = v.events; pauses = x }

abbrev pub with_vm_events : Tables → ℕ → Tables
with_vm_events t x = record { events = x; vcpus = t.vcpus; msrs = t.msrs; pages = t.pages }

abbrev pub with_vcpus : Tables → List Vcpu → Tables
with_vcpus t x = record { events = t.events; vcpus = x; msrs = t.msrs; pages = t.pages }

abbrev pub with_msrs : Tables → List Msr → Tables
with_msrs t x = record { events = t.events; vcpus = t.vcpus; msrs = x; pages = t.pages }

abbrev pub with_pages : Tables → List Page → Tables
with_pages t x = record { events = t.events; vcpus = t.vcpus; msrs = t.msrs; pages = x }

-- the record of a vCPU; past the count, a resting one
abbrev pub vcpu_at : Tables → ℕ → Vcpu
vcpu_at t i = get_or t.vcpus i resting

abbrev pub set_vcpu : Tables → ℕ → Vcpu → Tables
set_vcpu t i v = with_vcpus t (set t.vcpus i v)

-- ---- how a reader reads the tables
-- "CR other than 0, 3, 4"
unfoldable pub is_cr : ℕ → Bool
is_cr cr = among cr (0 ∷ 3 ∷ 4 ∷ [])

-- which bit a CR's switch is: 0, 1, 2, whose bits are "1, 2, 4 for CR0, CR3, CR4"
unfoldable pub cr_bit : ℕ → ℕ
cr_bit cr = cond (eqb cr 0) 0 (cond (eqb cr 3) 1 2)

-- ---- lookups, by which a reader reads the tables: whether a switch is on
-- "VM event switches"
unfoldable pub vm_event_on : Tables → ℕ → Bool
vm_event_on t event = is_on t.events event

-- of a vCPU, its "event switches"; past the count there are none
unfoldable pub event_on : Tables → ℕ → ℕ → Bool
event_on t vcpu event = is_on (vcpu_at t vcpu).events event

-- "CR0/CR3/CR4 switches"
unfoldable pub cr_on : Tables → ℕ → ℕ → Bool
cr_on t vcpu cr = is_cr cr && is_on (vcpu_at t vcpu).crs (cr_bit cr)

-- "MSR switches": those that are on have a record
unfoldable pub msr_in : List Msr → ℕ → ℕ → Bool
msr_in [] vcpu msr = false
msr_in (m ∷ ms) vcpu msr = eqb m.vcpu vcpu && eqb m.msr msr || msr_in ms vcpu msr

-- an MSR of no place (one outside message 12's ranges) has no switch
unfoldable pub msr_on : Tables → ℕ → ℕ → Bool
msr_on t vcpu msr = is_msr msr && msr_in t.msrs vcpu msr

-- "for each view and page number an access": "R 1, W 2, X 4"; a page with no record stands at rwx
unfoldable pub access_in : List Page → ℕ → ℕ → ℕ
access_in [] view page = 7
access_in (p ∷ ps) view page = cond (eqb p.view view && eqb p.page page) p.access (access_in ps view page)

unfoldable pub access : Tables → ℕ → ℕ → ℕ
access t view page = access_in t.pages view page

-- the tables are equal, said by lookup: every ready mark, every switch, every queue, the access of every view and page.
-- It is said of tables under equal settings: how many vCPUs there are is not compared.
pub record SameTables (t u : Tables) : Type 0 where
  pub vm_events : (event : ℕ) → vm_event_on t event ≡ vm_event_on u event
  pub ready : (vcpu : ℕ) → (vcpu_at t vcpu).ready ≡ (vcpu_at u vcpu).ready
  pub events : (vcpu event : ℕ) → event_on t vcpu event ≡ event_on u vcpu event
  pub crs : (vcpu cr : ℕ) → cr_on t vcpu cr ≡ cr_on u vcpu cr
  pub msrs : (vcpu msr : ℕ) → msr_on t vcpu msr ≡ msr_on u vcpu msr
  pub singlestep : (vcpu : ℕ) → (vcpu_at t vcpu).singlestep ≡ (vcpu_at u vcpu).singlestep
  pub pauses : (vcpu : ℕ) → (vcpu_at t vcpu).pauses ≡ (vcpu_at u vcpu).pauses
  pub pages : (view page : ℕ) → access t view page ≡ access u view page
