-- The bytes of each record, as they are stored. Assumes nothing.
use mathlib.Core.Path.{◌≡◌, sym, ◌∙◌}
use mathlib.Core.List.{List, ◌++◌, append_assoc, append-nil}
use mathlib.Core.Bool.{Bool, not}
use Prim.Native.Nat.{ℕ, ◌+◌, ◌*◌, ◌/◌, ◌%◌, ◌^◌, ◌<◌}
use native.Mathlib.Nat.{add-zero}
use native.Mathlib.Omega.{arith}
use lib.Dec.{eqb}
use lib.ListN.{length}
use Rattle.wire.specs.Bytes.{le, store}
use Rattle.wire.proofs.Laws.{le_join, store-past}
use Rattle.kvmi.specs.Bits.{bit, is_on}
use Rattle.kvmi.specs.Record.{Kind, widths, size, whole, write}
use Rattle.kvmi.specs.Row.{Row, write_row}
use Rattle.laws.proofs.Record.{length-write}
use Rattle.kvmi.specs.Image.{vm_record, vc_record, ms_record, pa_record, en_record}
use Rattle.store.specs.Words.{field, SINGLESTEP, CRS, EVENTS, PAUSES}
use Rattle.store.specs.Meaning.{vcpu_of_words}
use Rattle.page_words.specs.Meaning.{page_of_word}

-- ---- numbers: the low bytes are those of the remainder
pub le_low : (k n : ℕ) → le k (n % 256 ^ k) ≡ le k n
unfolding le
le_low k n = sym (append-nil (le k (n % 256 ^ k))) ∙ le_join k 0 n ∙ rw add-zero

-- a number of one byte, and a zero byte behind it
pub le-padded : (n : ℕ) → n < 256 → le 2 n ≡ le 1 n ++ le 1 0
unfolding le
le-padded n h = let high : n / 256 ≡ 0 = omega arith in rw high

-- ---- the bytes of one record
pub vm-bytes : (n events : ℕ) → le 2 0x4D56 ++ le 2 1 ++ le 2 n ++ le 2 (events % 65536) ≡ write (vm_record n events)
unfolding write_row
vm-bytes n events = rw (le_low 2 events) (simp (append_assoc, append-nil))

pub vc-bytes : (i ready : ℕ) (w : List ℕ) (on : Bool) (flags step crs events pauses : ℕ)
    → on ≡ is_on ready i → step ≡ field w i SINGLESTEP → crs ≡ field w i CRS → events ≡ field w i EVENTS → pauses ≡ field w i PAUSES
    → flags ≡ bit on + 2 * bit (not (eqb step 0))
    → le 2 0x4356 ++ le 2 i ++ le 1 flags ++ le 1 (crs % 256) ++ le 2 (events % 65536) ++ le 1 (pauses % 256) ++ le 1 0 ≡ write (vc_record i (vcpu_of_words ready w i))
unfolding write_row vcpu_of_words
vc-bytes i ready w on flags step crs events pauses a b c d e f =
    rw (le_low 1 crs, le_low 2 events, le_low 1 pauses, f, a, b, c, d, e) (simp (append_assoc, append-nil))

pub ms-bytes : (vcpu msr : ℕ) → le 2 0x534D ++ le 2 vcpu ++ le 4 msr ≡ write (ms_record (record { vcpu = vcpu; msr = msr }))
unfolding write_row
ms-bytes vcpu msr = simp (append_assoc, append-nil)

pub pa-bytes : (w : ℕ) → le 2 0x4150 ++ le 2 (w / 2 ^ 55) ++ le 2 (w % 8) ++ le 8 (w / 8 % 2 ^ 52) ≡ write (pa_record (page_of_word w))
unfolding write_row page_of_word
pa-bytes w = rw (le-padded (w % 8) (omega arith)) (simp (append_assoc, append-nil))

pub en-bytes : (n : ℕ) → le 2 0x4E45 ++ le 4 (n % 4294967296) ≡ write (en_record n)
unfolding write_row
en-bytes n = rw (le_low 4 n, append-nil)

-- ---- a part that is too short for its record
pub too_short : (s : List ℕ) (k : Kind) (f : Row (widths k)) → length s < size k → s ≡ store s 0 (write (whole k f))
too_short s k f h = sym (store-past s 0 _ (omega (arith, length-write k f)))
