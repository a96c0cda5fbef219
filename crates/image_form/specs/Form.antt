-- One record of an image by itself, as code tests it: its kind, its numbers, and its form.
use Rattle.std.specs.Prelude.{◌≡◌, ℕ, ◌+◌, ◌<◌, List, Bool, cond, ◌&&◌, get_or, drop, eqb, leb, ltb, Some, None}
use Rattle.std.specs.Prelude as std
use Rattle.std.proofs.Math.Option.{Option, none, some}
use Rattle.wire.specs.Bytes.{load}
use Rattle.msrs.specs.Place.{is_msr}
use Rattle.kvmi.specs.declared.Settings.{Settings}
use Rattle.kvmi.specs.Bits.{is_on}
use Rattle.kvmi.specs.Limits.{page_limit}
use Rattle.kvmi.specs.Row.{Row}
use Rattle.kvmi.specs.Record.{Kind, VM, VC, MS, PA, EN, kind_in, kinds, widths, size, vc_vcpu, vc_flags, vc_zero, ms_vcpu, ms_msr, pa_zero, kind_at}
use Rattle.kvmi.specs.Image.{vcpu_of_row, page_of_row, vc_form, pa_form}
use Rattle.image_form.specs.declared.Kind as code
use Rattle.image_form.specs.declared.Kind.TheVariants.{Vm, Vc, Ms, Pa, En}
use Rattle.image_form.specs.declared.VmRecord.{VmRecord}
use Rattle.image_form.specs.declared.VcRecord.{VcRecord}
use Rattle.image_form.specs.declared.MsRecord.{MsRecord}
use Rattle.image_form.specs.declared.PaRecord.{PaRecord}

-- ---- the kind of a record
-- a kind by the code's name
abbrev pub named : Kind → code.Kind
named VM = Vm
named VC = Vc
named MS = Ms
named PA = Pa
named EN = En

-- a record's bytes, by the code's name of its kind
abbrev pub size_of : code.Kind → ℕ
size_of Vm = size VM
size_of Vc = size VC
size_of Ms = size MS
size_of Pa = size PA
size_of En = size EN

-- bytes that begin no whole record have no kind
abbrev pub mark_of : Option Kind → std.Option code.Kind
mark_of none = None
mark_of (some k) = Some (named k)

-- of a mark with n bytes from its first on
abbrev pub held_in : ℕ → Option Kind → std.Option code.Kind
held_in n none = None
held_in n (some k) = cond (leb (size k) n) (Some (named k)) None

-- of a mark and the number of bytes
unfoldable pub mark_in : ℕ → ℕ → std.Option code.Kind
mark_in m n = held_in n (kind_in kinds m)

-- of the bytes from a place on
unfoldable pub mark_at : List ℕ → ℕ → std.Option code.Kind
mark_at l at = mark_of (kind_at (drop at l))

-- ---- the numbers of a record at a place
abbrev pub row_at : (k : Kind) → List ℕ → ℕ → Row (widths k)
row_at VM l at = (load 2 l (at + 2), (load 2 l (at + 4), (load 2 l (at + 6), tt)))
row_at VC l at =
    (load 2 l (at + 2), (get_or l (at + 4) 0, (get_or l (at + 5) 0, (load 2 l (at + 6), (get_or l (at + 8) 0, (get_or l (at + 9) 0, tt))))))
row_at MS l at = (load 2 l (at + 2), (load 4 l (at + 4), tt))
row_at PA l at = (load 2 l (at + 2), (get_or l (at + 4) 0, (get_or l (at + 5) 0, (load 8 l (at + 6), tt))))
row_at EN l at = (load 4 l (at + 2), tt)

-- the numbers that the code reads
abbrev pub vm_numbers : VmRecord → Row (widths VM)
vm_numbers r = (r.version, (r.vcpus, (r.events, tt)))

abbrev pub vc_numbers : VcRecord → Row (widths VC)
vc_numbers r = (r.vcpu, (r.flags, (r.crs, (r.events, (r.pauses, (r.zero, tt))))))

abbrev pub ms_numbers : MsRecord → Row (widths MS)
ms_numbers r = (r.vcpu, (r.msr, tt))

abbrev pub pa_numbers : PaRecord → Row (widths PA)
pa_numbers r = (r.view, (r.access, (r.zero, (r.page, tt))))

-- a test in code, by what its calls answer, tests a bit's number as f does
abbrev pub Answers : (ℕ → Bool → Type 0) → (ℕ → Bool) → Type 0
Answers post f = (i : ℕ) (r : Bool) → i < 16 → post i r → r ≡ f i

-- ---- its form
-- a VC record's, in an image of as many vCPUs as the settings say
unfoldable pub vc_fits : Settings → Row (widths VC) → Bool
vc_fits s f = ltb (vc_vcpu f) s.vcpus && leb (vc_flags f) 3 && eqb (vc_zero f) 0 && vc_form (vcpu_of_row f)

-- an MS record's, behind the VC records of so many vCPUs, with their ready marks
unfoldable pub ms_fits : ℕ → ℕ → Row (widths MS) → Bool
ms_fits count ready f = ltb (ms_vcpu f) count && is_msr (ms_msr f) && is_on ready (ms_vcpu f)

-- a PA record's, behind so many pages
unfoldable pub pa_fits : ℕ → Row (widths PA) → Bool
pa_fits pages f = eqb (pa_zero f) 0 && pa_form (page_of_row f) && ltb pages page_limit
