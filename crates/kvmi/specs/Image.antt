-- "The table image": the bytes of tables, and what an image loads as.
use Rattle.std.specs.Prelude.{ℕ, suc, ◌+◌, ◌*◌, ◌/◌, ◌%◌, ◌^◌, List, [], ◌∷◌, ◌++◌, Bool, true, false, ◌&&◌, ◌||◌, not, length, get_or, eqb, leb, ltb}
use Rattle.msrs.specs.Place.{is_msr}
use Rattle.kvmi.specs.declared.Settings.{Settings}
use Rattle.kvmi.specs.Limits.{page_limit, pause_limit}
use Rattle.kvmi.specs.Bits.{bit, bits_have, among}
use Rattle.kvmi.specs.Settings.{allows_event, can_singlestep, uncatchable, held_by_host}
use Rattle.kvmi.specs.Row.{Row}
use Rattle.kvmi.specs.Record.{Kind, VM, VC, MS, PA, EN, widths, size, vm_version, vm_count, vm_events, vc_vcpu, vc_flags, vc_crs, vc_events, vc_pauses, vc_zero, ms_vcpu, ms_msr, pa_view, pa_access, pa_zero, pa_page, en_count, Rec, whole, cut, order_of, write_all, parse}
use Rattle.kvmi.specs.Tables.{Vcpu, Msr, Page, Tables, resting, empty_tables, with_vm_events, with_vcpus, with_msrs, with_pages}
use Rattle.kvmi.specs.Message.{is_vm_event, is_vcpu_event}
use Rattle.kvmi.specs.Verdict.{takes_access}

-- ---- tables as records
abbrev pub vm_record : ℕ → ℕ → Rec
vm_record n events = whole VM (1, (n, (events, tt)))

-- "flags u8 (1 ready, 2 singlestep)"
abbrev pub vc_row : ℕ → Vcpu → Row (widths VC)
vc_row i v = (i, (bit v.ready + 2 * bit v.singlestep, (v.crs, (v.events, (v.pauses, (0, tt))))))

abbrev pub ms_row : Msr → Row (widths MS)
ms_row m = (m.vcpu, (m.msr, tt))

abbrev pub pa_row : Page → Row (widths PA)
pa_row p = (p.view, (p.access, (0, (p.page, tt))))

abbrev pub vc_record : ℕ → Vcpu → Rec
vc_record i v = whole VC (vc_row i v)

abbrev pub ms_record : Msr → Rec
ms_record m = whole MS (ms_row m)

abbrev pub pa_record : Page → Rec
pa_record p = whole PA (pa_row p)

abbrev pub en_record : ℕ → Rec
en_record n = whole EN (n, tt)

-- the records of a list, and then the rest
abbrev pub onto {ℓ} : {A : Type ℓ} → (A → Rec) → List A → List Rec → List Rec
onto f [] rest = rest
onto f (x ∷ xs) rest = f x ∷ onto f xs rest

-- those of the vCPUs from i on
abbrev pub vc_records : ℕ → List Vcpu → List Rec → List Rec
vc_records i [] rest = rest
vc_records i (v ∷ vs) rest = vc_record i v ∷ vc_records (suc i) vs rest

-- how many records come before EN
abbrev pub record_count : Tables → ℕ
record_count t = 1 + length t.vcpus + length t.msrs + length t.pages

-- the records of tables, with n as the vCPU count that VM states, and then the rest: "Order: one VM; one VC for every vCPU, ascending; MS by vCPU then MSR; PA by view then page [..]; EN, then nothing."
abbrev pub records_before : ℕ → Tables → List Rec → List Rec
records_before n t rest = vm_record n t.events ∷ vc_records 0 t.vcpus (onto ms_record t.msrs (onto pa_record t.pages rest))

-- all of them: "EN: u32 count of the records before it"
abbrev pub records : Tables → List Rec
records t = records_before (length t.vcpus) t (en_record (record_count t) ∷ [])

-- the table image of tables
unfoldable pub image : Tables → List ℕ
image t = write_all (records t)

-- ---- what a record states
abbrev pub vcpu_of_row : Row (widths VC) → Vcpu
vcpu_of_row f = record { ready = eqb (vc_flags f % 2) 1; singlestep = eqb (vc_flags f / 2) 1; crs = vc_crs f; events = vc_events f; pauses = vc_pauses f }

abbrev pub msr_of_row : Row (widths MS) → Msr
msr_of_row f = record { vcpu = ms_vcpu f; msr = ms_msr f }

abbrev pub page_of_row : Row (widths PA) → Page
page_of_row f = record { view = pa_view f; page = pa_page f; access = pa_access f }

-- the tables with what a record behind VM states
abbrev pub with_record : (k : Kind) → Tables → Row (widths k) → Tables
with_record VM t f = t
with_record VC t f = with_vcpus t (t.vcpus ++ (vcpu_of_row f ∷ []))
with_record MS t f = with_msrs t (t.msrs ++ (msr_of_row f ∷ []))
with_record PA t f = with_pages t (t.pages ++ (page_of_row f ∷ []))
with_record EN t f = t

-- ---- form (answer 8)
-- "a vCPU count outside 1..16", "an event bit that message 5 (VM) [..] doesn't take"
unfoldable pub vm_form : ℕ → ℕ → Bool
vm_form n events = leb 1 n && leb n 16 && bits_have is_vm_event 0 16 events

-- "An unready vCPU has only zeros"
unfoldable pub is_idle : Vcpu → Bool
is_idle v = not v.singlestep && eqb v.crs 0 && eqb v.events 0 && eqb v.pauses 0

-- "pauses above 8", a "CR bit not named", "an event bit that message [..] 10 (VC) doesn't take", "An unready vCPU has only zeros".
-- (A flag that is not named is found in `form_of`: a vCPU's record has no room for one.)
unfoldable pub vc_form : Vcpu → Bool
vc_form v = leb v.crs 7 && bits_have is_vcpu_event 0 16 v.events && leb v.pauses pause_limit && (v.ready || is_idle v)

-- "an MSR outside message 12's ranges"; "An unready vCPU has [..] no MS"
unfoldable pub ms_form : List Vcpu → Msr → Bool
ms_form vs m = ltb m.vcpu (length vs) && is_msr m.msr && (get_or vs m.vcpu resting).ready

-- "a view above 7", "an access other than 0, 1, 3, 4, 5", "Page is below 2^52"
unfoldable pub pa_form : Page → Bool
pa_form p = leb p.view 7 && among p.access (0 ∷ 1 ∷ 3 ∷ 4 ∷ 5 ∷ []) && ltb p.page (2 ^ 52)

-- the form of a record behind VM, in an image of n vCPUs that has stated t before it: "zero bytes must be zero", "a vCPU not below it",
-- "a flag [..] not named" (above 3), "at most 1,024", and the count in EN
abbrev pub form_of : (k : Kind) → ℕ → Tables → Row (widths k) → Bool
form_of VM n t f = false
form_of VC n t f = ltb (vc_vcpu f) n && leb (vc_flags f) 3 && eqb (vc_zero f) 0 && vc_form (vcpu_of_row f)
form_of MS n t f = ms_form t.vcpus (msr_of_row f)
form_of PA n t f = eqb (pa_zero f) 0 && pa_form (page_of_row f) && ltb (length t.pages) page_limit
form_of EN n t f = eqb (en_count f) (record_count t)

-- "one VC for every vCPU": the next VC is that of the next vCPU, and none is missing before any other kind
abbrev pub is_next : (k : Kind) → ℕ → Tables → Row (widths k) → Bool
is_next VM n t f = false
is_next VC n t f = eqb (vc_vcpu f) (length t.vcpus)
is_next MS n t f = eqb (length t.vcpus) n
is_next PA n t f = eqb (length t.vcpus) n
is_next EN n t f = eqb (length t.vcpus) n

-- ---- permission (answer 9)
-- "vCPU count unlike the settings' [..] event not allowed"
unfoldable pub vm_may : Settings → ℕ → ℕ → Bool
vm_may s n events = eqb n s.vcpus && bits_have (allows_event s) 0 16 events

-- an event that the settings let be on
unfoldable pub may_enable : Settings → ℕ → Bool
may_enable s event = allows_event s event && not (held_by_host s event) && not (uncatchable s event)

-- "event not allowed, pauses without event 2 allowed, event 4 held by the host, event 8 or singlestep not supported"
unfoldable pub vc_may : Settings → Vcpu → Bool
vc_may s v = bits_have (may_enable s) 0 16 v.events && (eqb v.pauses 0 || allows_event s 2) && (not v.singlestep || can_singlestep s)

-- "view not below theirs"; W2: "access 4 without the flag is [..] answer 9 in a PA record". (What is no access at all has failed by form.)
unfoldable pub pa_may : Settings → Page → Bool
pa_may s p = ltb p.view s.views && takes_access s p.access

-- the permission of a record behind VM, whose own is above; MS and EN ask nothing of the settings
abbrev pub may_of : (k : Kind) → Settings → Row (widths k) → Bool
may_of VM s f = true
may_of VC s f = vc_may s (vcpu_of_row f)
may_of MS s f = true
may_of PA s f = pa_may s (page_of_row f)
may_of EN s f = true

-- ---- loading
pub data Loaded : Type 0 where
  -- the tables that the image states
  loaded : Tables → Loaded
  -- answers 8 and 9, with the offset
  bad_form forbidden : ℕ → Loaded

-- "A record is tested for form, then for answer 9 at its start"
abbrev pub judge : Bool → Bool → ℕ → Loaded → Loaded
judge true true off next = next
judge true false off next = forbidden off
judge false may off next = bad_form off

-- behind EN: "the byte after EN, if any follow"
abbrev pub ending : Tables → ℕ → List Rec → Loaded
ending t off [] = loaded t
ending t off (r ∷ rs) = bad_form off

-- a record's whole form: its place in the order, not before lo, and its own
abbrev pub fits_in : (k : Kind) → ℕ → ℕ → Tables → Row (widths k) → Bool
fits_in k n lo t f = leb lo (order_of k f) && is_next k n t f && form_of k n t f

-- the records behind VM in an image of n vCPUs: off bytes and the tables t come before them, lo is the least place that may follow.
-- "Form fails at the start of the first record that breaks a rule or is cut (the length, if EN is missing [..])."
abbrev pub load_rest : Settings → ℕ → ℕ → ℕ → Tables → List Rec → Loaded
load_rest s n off lo t [] = bad_form off
load_rest s n off lo t (cut l ∷ rs) = bad_form off
load_rest s n off lo t (whole VM f ∷ rs) = bad_form off
load_rest s n off lo t (whole VC f ∷ rs) =
    judge (fits_in VC n lo t f) (may_of VC s f) off (load_rest s n (off + size VC) (suc (order_of VC f)) (with_record VC t f) rs)
load_rest s n off lo t (whole MS f ∷ rs) =
    judge (fits_in MS n lo t f) (may_of MS s f) off (load_rest s n (off + size MS) (suc (order_of MS f)) (with_record MS t f) rs)
load_rest s n off lo t (whole PA f ∷ rs) =
    judge (fits_in PA n lo t f) (may_of PA s f) off (load_rest s n (off + size PA) (suc (order_of PA f)) (with_record PA t f) rs)
load_rest s n off lo t (whole EN f ∷ rs) = judge (fits_in EN n lo t f) (may_of EN s f) off (ending t (off + size EN) rs)

-- what VM alone states
abbrev pub stated : ℕ → Tables
stated events = with_vm_events (empty_tables 0) events

-- "one VM" comes first; "version u16 = 1"
abbrev pub load_records : Settings → List Rec → Loaded
load_records s [] = bad_form 0
load_records s (cut l ∷ rs) = bad_form 0
load_records s (whole VM f ∷ rs) =
    judge (eqb (vm_version f) 1 && vm_form (vm_count f) (vm_events f)) (vm_may s (vm_count f) (vm_events f)) 0
    (load_rest s (vm_count f) (size VM) (suc (order_of VM f)) (stated (vm_events f)) rs)
load_records s (whole VC f ∷ rs) = bad_form 0
load_records s (whole MS f ∷ rs) = bad_form 0
load_records s (whole PA f ∷ rs) = bad_form 0
load_records s (whole EN f ∷ rs) = bad_form 0

-- what the bytes of an image load as under settings
unfoldable pub load_image : Settings → List ℕ → Loaded
load_image s l = load_records s (parse (length l) l)
