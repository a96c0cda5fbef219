-- The accesses of a page as the bits of a number, bit a for access a. Assumes nothing.
use mathlib.Core.Path.{◌≡◌, refl}
use mathlib.Core.List.{List, [], ◌∷◌}
use mathlib.Core.Bool.{Bool, true, false, cond, not, ◌&&◌, ◌||◌, So}
use Prim.Native.Nat.{ℕ, zero, suc, ◌/◌, ◌%◌, ◌^◌, ◌≤◌, ◌<◌}
use native.Mathlib.Omega.{arith}
use lib.Dec.{eqb}
use borrow.Author.Tests.{eqb-true, ne_eqb}
use Rattle.kvmi.specs.declared.Settings.{Settings}
use Rattle.kvmi.specs.Bits.{bit, among, every}
use Rattle.kvmi.specs.Settings.{has_execute_only}
use Rattle.kvmi.specs.Verdict.{is_access, takes_access}
use Rattle.laws.proofs.Bool.{among-every}
use Rattle.laws.proofs.Bits.{bit-eqb}

-- the numbers below 8
abbrev eight : List ℕ
eight = 0 ∷ 1 ∷ 2 ∷ 3 ∷ 4 ∷ 5 ∷ 6 ∷ 7 ∷ []

among-eight : (a : ℕ) → a ≤ 7 → So (among a eight)
among-eight zero h = refl
among-eight (suc zero) h = refl
among-eight (suc (suc zero)) h = refl
among-eight (suc (suc (suc zero))) h = refl
among-eight (suc (suc (suc (suc zero)))) h = refl
among-eight (suc (suc (suc (suc (suc zero))))) h = refl
among-eight (suc (suc (suc (suc (suc (suc zero)))))) h = refl
among-eight (suc (suc (suc (suc (suc (suc (suc zero))))))) h = refl
among-eight (suc (suc (suc (suc (suc (suc (suc (suc a)))))))) h = absurd (omega arith)

-- an access that a page can have, with execute-only pages or without
abbrev is_taken : Bool → ℕ → Bool
is_taken on a = is_access a && (not (eqb a 4) || on)

-- below 8 the bits of a number are these
abbrev pub bits_are : Bool → ℕ → Bool
bits_are on w = every (λ a. eqb (w / 2 ^ a % 2) (bit (is_taken on a))) eight

bit_is : (on : Bool) (w : ℕ) → So (bits_are on w) → (a : ℕ) → a ≤ 7 → eqb (w / 2 ^ a % 2) 1 ≡ is_taken on a
bit_is on w h a low =
    let own = among-every (λ k. eqb (w / 2 ^ k % 2) (bit (is_taken on k))) a eight h (among-eight a low) in
    rw (eqb-true (w / 2 ^ a % 2) (bit (is_taken on a)) own) (bit-eqb (is_taken on a))

chosen_is : (on : Bool) (w v : ℕ) → So (bits_are true w) → So (bits_are false v) → (a : ℕ) → a ≤ 7 → eqb (cond on w v / 2 ^ a % 2) 1 ≡ is_taken on a
chosen_is true w v h g a low = bit_is true w h a low
chosen_is false w v h g a low = bit_is false v g a low

pub access-bit : (s : Settings) (w v a : ℕ) → So (bits_are true w) → So (bits_are false v) → a ≤ 7 → eqb (cond (has_execute_only s) w v / 2 ^ a % 2) 1 ≡ takes_access s a
unfolding takes_access
access-bit s w v a h g low = chosen_is (has_execute_only s) w v h g a low

pub access-past : (s : Settings) (a : ℕ) → 7 < a → takes_access s a ≡ false
unfolding takes_access is_access
access-past s a h =
    rw (ne_eqb a 0 (λ e. omega arith), ne_eqb a 1 (λ e. omega arith), ne_eqb a 3 (λ e. omega arith), ne_eqb a 4 (λ e. omega arith), ne_eqb a 5 (λ e. omega arith), ne_eqb a 7 (λ e. omega arith))
