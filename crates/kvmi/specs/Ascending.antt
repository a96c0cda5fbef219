-- A list in strictly rising order of a key.
use Prim.Native.Nat.{Ordering}
use Prim.Native.Nat.{ℕ, suc, compare}
use Rattle.std.specs.Prelude.{List, [], ◌∷◌, Bool, true, false, ◌&&◌, leb}

module _ {A : Type 0} (key : A → ℕ) where
  -- each key is at least lo, and above the one before it
  abbrev pub rising : ℕ → List A → Bool
  rising lo [] = true
  rising lo (x ∷ xs) = leb lo (key x) && rising (suc (key x)) xs

  -- a key has an entry
  abbrev pub has : ℕ → List A → Bool
  has k [] = false
  has k (x ∷ xs) = elim (compare k (key x)) [ Ordering.lt ↦ false | Ordering.eq ↦ true | Ordering.gt ↦ has k xs ]

  -- with an entry, in its place and instead of the one with its key
  abbrev pub put : A → List A → List A
  put a [] = a ∷ []
  put a (x ∷ xs) = elim (compare (key a) (key x)) [ Ordering.lt ↦ a ∷ x ∷ xs | Ordering.eq ↦ a ∷ xs | Ordering.gt ↦ x ∷ put a xs ]

  -- without the entry of a key
  abbrev pub forget : ℕ → List A → List A
  forget k [] = []
  forget k (x ∷ xs) = elim (compare k (key x)) [ Ordering.lt ↦ x ∷ xs | Ordering.eq ↦ xs | Ordering.gt ↦ x ∷ forget k xs ]
