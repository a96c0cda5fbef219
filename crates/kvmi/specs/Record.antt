-- The records of the table image as rows of numbers behind a mark, and a list of bytes cut into them.
use Rattle.std.specs.Prelude.{ℕ, zero, suc, ◌+◌, ◌*◌, ◌^◌, List, [], ◌∷◌, ◌++◌, cond, length, drop, eqb, leb}
use Rattle.std.proofs.Math.Option.{Option, none, some}
use Rattle.wire.specs.Bytes.{num}
use Rattle.kvmi.specs.Row.{Row, write_row, read_row, width}

-- the five kinds of records
pub data Kind : Type 0 where
  VM VC MS PA EN : Kind

-- "Each record begins with two mark bytes, ASCII", here read as a number
abbrev pub mark : Kind → ℕ
mark VM = 0x4D56
mark VC = 0x4356
mark MS = 0x534D
mark PA = 0x4150
mark EN = 0x4E45

-- the kind with a mark
abbrev pub kind_in : List Kind → ℕ → Option Kind
kind_in [] m = none
kind_in (k ∷ ks) m = cond (eqb m (mark k)) (some k) (kind_in ks m)

abbrev pub kinds : List Kind
kinds = VM ∷ VC ∷ MS ∷ PA ∷ EN ∷ []

-- the widths of the numbers behind the mark
abbrev pub widths : Kind → List ℕ
-- version, vCPU count, VM event bits
widths VM = 2 ∷ 2 ∷ 2 ∷ []
-- vCPU, flags, CR bits, event bits, pauses, zero
widths VC = 2 ∷ 1 ∷ 1 ∷ 2 ∷ 1 ∷ 1 ∷ []
-- vCPU, MSR
widths MS = 2 ∷ 4 ∷ []
-- view, access, zero, page
widths PA = 2 ∷ 1 ∷ 1 ∷ 8 ∷ []
-- count of the records before it
widths EN = 4 ∷ []

-- a record's bytes, its mark among them
abbrev pub size : Kind → ℕ
size k = width (2 ∷ widths k)

-- ---- the numbers of a row by name, where a reader asks for them
abbrev pub vm_version : Row (widths VM) → ℕ
vm_version f = f.0

abbrev pub vm_count : Row (widths VM) → ℕ
vm_count f = f.1.0

abbrev pub vm_events : Row (widths VM) → ℕ
vm_events f = f.1.1.0

abbrev pub vc_vcpu : Row (widths VC) → ℕ
vc_vcpu f = f.0

abbrev pub vc_flags : Row (widths VC) → ℕ
vc_flags f = f.1.0

abbrev pub vc_crs : Row (widths VC) → ℕ
vc_crs f = f.1.1.0

abbrev pub vc_events : Row (widths VC) → ℕ
vc_events f = f.1.1.1.0

abbrev pub vc_pauses : Row (widths VC) → ℕ
vc_pauses f = f.1.1.1.1.0

abbrev pub vc_zero : Row (widths VC) → ℕ
vc_zero f = f.1.1.1.1.1.0

abbrev pub ms_vcpu : Row (widths MS) → ℕ
ms_vcpu f = f.0

abbrev pub ms_msr : Row (widths MS) → ℕ
ms_msr f = f.1.0

abbrev pub pa_view : Row (widths PA) → ℕ
pa_view f = f.0

abbrev pub pa_access : Row (widths PA) → ℕ
pa_access f = f.1.0

abbrev pub pa_zero : Row (widths PA) → ℕ
pa_zero f = f.1.1.0

abbrev pub pa_page : Row (widths PA) → ℕ
pa_page f = f.1.1.1.0

abbrev pub en_count : Row (widths EN) → ℕ
en_count f = f.0

-- a whole record, or bytes that begin none
pub data Rec : Type 0 where
  whole : (k : Kind) → Row (widths k) → Rec
  cut : List ℕ → Rec

-- the place of a record in the image's order: kind, then vCPU or view (a u16, below 2^16), then MSR or page (a u32 or a u64, below 2^64)
abbrev pub order_at : ℕ → ℕ → ℕ → ℕ
order_at kind major minor = kind * 2 ^ 80 + (major * 2 ^ 64 + minor)

-- a record's place
abbrev pub order_of : (k : Kind) → Row (widths k) → ℕ
order_of VM f = order_at 0 0 0
order_of VC f = order_at 1 (vc_vcpu f) 0
order_of MS f = order_at 2 (ms_vcpu f) (ms_msr f)
order_of PA f = order_at 3 (pa_view f) (pa_page f)
order_of EN f = order_at 4 0 0

-- a record's bytes
abbrev pub write : Rec → List ℕ
write (whole k f) = write_row (2 ∷ widths k) (mark k, f)
write (cut l) = l

abbrev pub write_all : List Rec → List ℕ
write_all [] = []
write_all (r ∷ rs) = write r ++ write_all rs

-- the kind of the record with which the bytes begin, where all of it is there
abbrev pub held : List ℕ → Option Kind → Option Kind
held l none = none
held l (some k) = cond (leb (size k) (length l)) (some k) none

unfoldable pub kind_at : List ℕ → Option Kind
kind_at l = held l (kind_in kinds (num 2 l))

abbrev pub from : (List ℕ → List Rec) → List ℕ → Option Kind → List Rec
from parse l none = cut l ∷ []
from parse l (some k) = whole k (read_row (2 ∷ widths k) l).1 ∷ parse (drop (size k) l)

-- n bounds the number of records: the number of bytes will do
abbrev pub parse : ℕ → List ℕ → List Rec
parse zero [] = []
parse zero (b ∷ l) = cut (b ∷ l) ∷ []
parse (suc n) [] = []
parse (suc n) (b ∷ l) = from (λ r. parse n r) (b ∷ l) (kind_at (b ∷ l))
