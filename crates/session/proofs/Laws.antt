-- Laws of parts of a list. Assumes nothing.
use mathlib.Core.Path.{◌≡◌}
use mathlib.Core.List.{List, []}
use Prim.Native.Nat.{ℕ, ◌-◌, ◌<◌}
use native.Mathlib.Omega.{arith}
use lib.ListN.{length, take, drop, length-drop, drop_of_length-le}
use lib.Seq.{take_all}

-- what `&s[a..]` reads
pub rest_part : (s : List ℕ) (a : ℕ) → take (length s - a) (drop a s) ≡ drop a s
rest_part s a = take_all (length s - a) (drop a s) (simp length-drop (omega arith))

pub drop-short : (a : ℕ) (s : List ℕ) → length s < a → drop a s ≡ []
drop-short a s h = drop_of_length-le s {i = a} (omega arith)
