-- Numbers as bytes, lowest byte first ("All numbers are little-endian"), and their places in a list of bytes.
use Rattle.std.specs.Prelude.{ℕ, zero, suc, ◌+◌, ◌*◌, ◌/◌, ◌%◌, List, [], ◌∷◌, ◌++◌, cond, length, take, drop, leb, replicate}

-- the k lowest bytes of n
unfoldable pub le : ℕ → ℕ → List ℕ
le zero n = []
le (suc k) n = n % 256 ∷ le k (n / 256)

-- the number in the first k bytes of a list; bytes that are not there count as 0
unfoldable pub num : ℕ → List ℕ → ℕ
num zero s = 0
num (suc k) [] = 0
num (suc k) (b ∷ s) = b + 256 * num k s

-- the number in the k bytes at a place; 0 where they do not all lie inside
unfoldable pub load : ℕ → List ℕ → ℕ → ℕ
load k s at = cond (leb (at + k) (length s)) (num k (drop at s)) 0

-- the list with the bytes v at a place; unchanged where they do not all lie inside
unfoldable pub store : List ℕ → ℕ → List ℕ → List ℕ
store s at v = cond (leb (at + length v) (length s)) (take at s ++ v ++ drop (at + length v) s) s

-- the k bytes at a place; zeros where they do not all lie inside
unfoldable pub bytes_at : ℕ → List ℕ → ℕ → List ℕ
bytes_at k s at = cond (leb (at + k) (length s)) (take k (drop at s)) (replicate k 0)
