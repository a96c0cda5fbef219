-- The MSR switches of all vCPUs as one row, 16,384 for each vCPU in the order of their places, and the bytes of their records.
use Rattle.std.specs.Prelude.{◌≡◌, ℕ, zero, suc, ◌+◌, ◌-◌, ◌*◌, ◌/◌, ◌%◌, ◌<◌, List, [], ◌∷◌, ◌++◌, Bool, cond, eqb, length, get_or, Option, Some, None}
use Rattle.wire.specs.Bytes.{store}
use Rattle.msrs.specs.Place.{msr_at}
use Rattle.kvmi.specs.Record.{write_all}
use Rattle.kvmi.specs.Tables.{Msr}
use Rattle.kvmi.specs.Image.{onto, ms_record}
use Rattle.store.specs.Words.{switch_on}
use Rattle.image_msrs.specs.declared.Four.{Four}

-- ---- the bytes of their records
unfoldable pub ms_bytes : List Msr → List ℕ
ms_bytes ms = write_all (onto ms_record ms [])

-- ---- switch g of the row: vCPU g / 16,384 has it, in the place g mod 16,384
unfoldable pub switch_at : List ℕ → ℕ → Bool
switch_at w g = switch_on w (g / 16384) (g % 16384)

unfoldable pub msr_of_switch : ℕ → Msr
msr_of_switch g = record { vcpu = g / 16384; msr = msr_at (g % 16384) }

-- those that are on among n, from switch g on
unfoldable pub switches_from : List ℕ → ℕ → ℕ → List Msr
switches_from w g zero = []
switches_from w g (suc n) = cond (switch_at w g) (msr_of_switch g ∷ switches_from w (suc g) n) (switches_from w (suc g) n)

-- ---- bits of a number
-- what stands at those that are on among the n lowest, of which the lowest is switch g
unfoldable pub bits_from : (ℕ → List Msr) → ℕ → ℕ → ℕ → List Msr
bits_from f x g zero = []
bits_from f x g (suc n) = cond (eqb (x % 2) 1) (f g ++ bits_from f (x / 2) (suc g) n) (bits_from f (x / 2) (suc g) n)

-- in a word, a switch
abbrev pub one_at : ℕ → List Msr
one_at g = msr_of_switch g ∷ []

-- the next of the bits that are on, from number `at` up to `end`, and what is left of them
abbrev pub NextOn : ℕ → ℕ → ℕ → Option ℕ → ℕ → ℕ → ℕ → Type 0
NextOn left at end None left' at' end' = left ≡ 0
NextOn left at end (Some bit) left' at' end' =
    (bit < end) × (end' ≡ end) × ((f : ℕ → List Msr) → bits_from f left at (end - at) ≡ f bit ++ bits_from f left' at' (end - at'))

-- ---- four words side by side
-- those from one on; a word past the end is 0
abbrev pub four_at : List ℕ → ℕ → Four
four_at w at = record { a = get_or w at 0; b = get_or w (at + 1) 0; c = get_or w (at + 2) 0; d = get_or w (at + 3) 0 }

-- the switches that are on in them, where the first is switch g
unfoldable pub four_bits : Four → ℕ → List Msr
four_bits f g = bits_from one_at f.a g 64 ++ (bits_from one_at f.b (g + 64) 64 ++ (bits_from one_at f.c (g + 128) 64 ++ bits_from one_at f.d (g + 192) 64))

-- the switches that are on in four j of a vCPU's 64
unfoldable pub four_of : List ℕ → ℕ → ℕ → List Msr
four_of w v j = switches_from w (v * 16384 + 256 * j) 256

-- ---- marked fours
-- a vCPU has so many switches that are on, and the fours that are marked have all of them
pub record Marked (w : List ℕ) (v on fours : ℕ) : Type 0 where
  pub count : on ≡ length (switches_from w (v * 16384) 16384)
  pub all : bits_from (four_of w v) fours 0 64 ≡ switches_from w (v * 16384) 16384

-- the marks of each of n vCPUs
pub record Marks (w : List ℕ) (n : ℕ) (marks : List ℕ) : Type 0 where
  pub all : (v : ℕ) → v < n → bits_from (four_of w v) (get_or marks v 0) 0 64 ≡ switches_from w (v * 16384) 16384

-- ---- records written
-- what was s has the MS records at an offset, and r is the offset behind them
pub record SwitchesPut (s : List ℕ) (at : ℕ) (ms : List Msr) (out : List ℕ) (r : ℕ) : Type 0 where
  pub there : out ≡ store s at (ms_bytes ms)
  pub next : r ≡ at + 8 * length ms
