-- Sets of small numbers as the bits of a number: bit k for number k.
use Rattle.std.specs.Prelude.{ℕ, zero, suc, ◌+◌, ◌-◌, ◌*◌, ◌/◌, ◌%◌, ◌^◌, List, [], ◌∷◌, Bool, true, false, ◌&&◌, ◌||◌, eqb}

-- a switch as a bit
abbrev pub bit : Bool → ℕ
bit true = 1
bit false = 0

-- bit k of w
unfoldable pub bit_of : ℕ → ℕ → ℕ
bit_of w k = w / 2 ^ k % 2

-- k is in the set w
unfoldable pub is_on : ℕ → ℕ → Bool
is_on w k = eqb (bit_of w k) 1

-- w with bit k as given
unfoldable pub put_bit : ℕ → ℕ → Bool → ℕ
put_bit w k on = w - bit_of w k * 2 ^ k + bit on * 2 ^ k

-- w is below 2 ^ n, and each of its bits that is set has f; its lowest bit is number k
unfoldable pub bits_have : (ℕ → Bool) → ℕ → ℕ → ℕ → Bool
bits_have f k zero w = eqb w 0
bits_have f k (suc n) w = (eqb (w % 2) 0 || f k) && bits_have f (suc k) n (w / 2)

-- a number stands in a list
abbrev pub among : ℕ → List ℕ → Bool
among x [] = false
among x (y ∷ ys) = eqb x y || among x ys

-- each of a list has f
abbrev pub every {ℓ} : {A : Type ℓ} → (A → Bool) → List A → Bool
every f [] = true
every f (x ∷ xs) = f x && every f xs
