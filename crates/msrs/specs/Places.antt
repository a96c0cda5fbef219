-- What document 02 asks to be shown of the places: "that it takes message 12's 16,384 MSRs, in ascending order, to 0..16,383, and every other number to
-- none". The numbers are all numbers, not those of 32 bits alone.
use Rattle.std.specs.Prelude.{◌≡◌, ℕ, zero, suc, ◌-◌, ◌<◌, List, [], ◌∷◌, ◌++◌, map, Bool, false, ◌&&◌, ◌||◌, leb, Some, None}
use Rattle.msrs.specs.Place.{msr_place, is_msr, msr_at}

-- message 12's ranges, in document 01's numbers: "0..0x1FFF and 0xC0000000..0xC0001FFF"
unfoldable pub in_ranges : ℕ → Bool
in_ranges msr = leb msr 0x1FFF || leb 0xC0000000 msr && leb msr 0xC0001FFF

-- n numbers in ascending order, the first of them given; and those of a range, as "0..0x1FFF"
unfoldable pub up_from : ℕ → ℕ → List ℕ
up_from first zero = []
up_from first (suc n) = first ∷ up_from (suc first) n

abbrev pub range : ℕ → ℕ → List ℕ
range first last = up_from first (suc last - first)

pub record Places : Type 0 where
  -- "takes message 12's 16,384 MSRs, in ascending order, to 0..16,383"
  pub in_order : map msr_place (range 0 0x1FFF ++ range 0xC0000000 0xC0001FFF) ≡ map Some (range 0 16383)
  -- "and every other number to none"
  pub others : (msr : ℕ) → in_ranges msr ≡ false → msr_place msr ≡ None
  -- number by number: an MSR has a place exactly where it is in the ranges, and it is one of 0..16,383
  pub exactly : (msr : ℕ) → is_msr msr ≡ in_ranges msr
  pub below : (msr place : ℕ) → msr_place msr ≡ Some place → place < 16384
  -- ascending, there and back
  pub rising : (msr next place behind : ℕ) → msr_place msr ≡ Some place → msr_place next ≡ Some behind → msr < next → place < behind
  pub back : (place behind : ℕ) → place < behind → msr_at place < msr_at behind
  -- one to one: the place says which MSR it is
  pub one : (msr place : ℕ) → msr_place msr ≡ Some place → msr_at place ≡ msr
  -- onto: each of 0..16,383 is the place of an MSR
  pub onto : (place : ℕ) → place < 16384 → msr_place (msr_at place) ≡ Some place
