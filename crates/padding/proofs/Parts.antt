-- Laws of the entries of message 13, one after the other, as loops over their number go. Assumes nothing.
use mathlib.Core.Path.{◌≡◌, sym, ◌∙◌}
use mathlib.Core.List.{List}
use mathlib.Core.Bool.{Bool, true, false, cond, ◌&&◌}
use Prim.Native.Nat.{ℕ, suc, ◌+◌, ◌*◌, ◌-◌, ◌≤◌, ◌<◌}
use native.Mathlib.Omega.{arith}
use lib.Dec.{eqb}
use lib.ListN.{length, take, drop}
use lib.Seq.{drop-drop}
use borrow.Author.Tests.{eq-eqb, ne_eqb, eqb-true}
use Rattle.wire.specs.Bytes.{load}
use Rattle.kvmi.specs.Message.{count_of, count_fits, entry_of, entries_of, first_non_zero, entry_padding, first_of_runs}
use Rattle.kvmi.specs.declared.Settings.{Settings}
use Rattle.kvmi.specs.Verdict.{takes_access}
use Rattle.padding.specs.Entries.{accesses_fit}
use Rattle.padding.proofs.Runs.{run-part}

-- a count that fits
pub counted : (d : List ℕ) (n : ℕ) → count_fits d ≡ true → n ≡ load 2 d 0 → 8 + 16 * n ≤ length d
unfolding count_fits count_of
counted d n fits e = let size = eqb-true (length d) (8 + 16 * load 2 d 0) fits in omega arith

-- entry i, as a part of the data
abbrev pub entry_at : List ℕ → ℕ → List ℕ
entry_at d i = take (8 + 16 * i + 16 - (8 + 16 * i)) (drop (8 + 16 * i) d)

-- what the entries from i on say
abbrev pub accesses_from : Settings → List ℕ → ℕ → ℕ → Bool
accesses_from s d count i = accesses_fit s (count - i) (drop (8 + 16 * i) d)

abbrev pub padding_from : List ℕ → ℕ → ℕ → ℕ
padding_from d count i = first_of_runs d (entry_padding (17 + 16 * i) (count - i))

pub accesses-start : (s : Settings) (d : List ℕ) (count : ℕ) → accesses_from s d count 0 ≡ accesses_fit s count (drop 8 d)
accesses-start s d count = let all : count - 0 ≡ count = omega arith in rw all

pub padding-start : (d : List ℕ) (count : ℕ) → padding_from d count 0 ≡ first_of_runs d (entry_padding 17 count)
padding-start d count = let all : count - 0 ≡ count = omega arith in rw all

module _ (d : List ℕ) (count i : ℕ) where
  part-is : entry_at d i ≡ take 16 (drop (8 + 16 * i) d)
  part-is = let e : 8 + 16 * i + 16 - (8 + 16 * i) ≡ 16 = omega arith in rw e

  pub accesses-end : (s : Settings) → count ≤ i → accesses_from s d count i ≡ true
  unfolding entries_of
  accesses-end s h = let none_left : count - i ≡ 0 = omega arith in rw none_left

  pub padding-end : count ≤ i → padding_from d count i ≡ 0
  unfolding entry_padding first_of_runs
  padding-end h = let none_left : count - i ≡ 0 = omega arith in rw none_left

  module _ (more : i < count) where
    left_is : count - i ≡ suc (count - (i + 1))
    left_is = omega arith

    accesses-next : (s : Settings) → accesses_from s d count i ≡ (takes_access s (entry_of (entry_at d i)).access && accesses_from s d count (i + 1))
    unfolding entries_of
    accesses-next s =
        let next : 8 + 16 * i + 16 ≡ 8 + 16 * (i + 1) = omega arith in
        rw (left_is, part-is, drop-drop 16 (8 + 16 * i) d, next)

    pub access-fits : (s : Settings) → takes_access s (entry_of (entry_at d i)).access ≡ true → accesses_from s d count (i + 1) ≡ accesses_from s d count i
    access-fits s e = sym (accesses-next s ∙ rw e)

    pub access-unfit : (s : Settings) → takes_access s (entry_of (entry_at d i)).access ≡ false → accesses_from s d count i ≡ false
    access-unfit s e = accesses-next s ∙ rw e

    padding-next : (r : ℕ) → r ≡ first_non_zero (entry_at d i) 9 7 0
        → padding_from d count i ≡ cond (eqb r 0) (padding_from d count (i + 1)) (8 + 16 * i + r)
    unfolding entry_padding first_of_runs
    padding-next r e =
        let here : 17 + 16 * i ≡ 8 + 16 * i + 9 = omega arith in
        let next : 17 + 16 * i + 16 ≡ 17 + 16 * (i + 1) = omega arith in
        rw (left_is, next, here, run-part d (8 + 16 * i) 16 9 7 (padding_from d count (i + 1)) (omega arith), ← part-is, ← e)

    pub padding-clean : (r : ℕ) → r ≡ first_non_zero (entry_at d i) 9 7 0 → r ≡ 0 → padding_from d count (i + 1) ≡ padding_from d count i
    padding-clean r e z = sym (padding-next r e ∙ rw (eq-eqb r 0 z))

    pub padding-found : (r : ℕ) → r ≡ first_non_zero (entry_at d i) 9 7 0 → (r ≡ 0 → ⊥) → padding_from d count i ≡ 8 + 16 * i + r
    padding-found r e z = padding-next r e ∙ rw (ne_eqb r 0 z)
