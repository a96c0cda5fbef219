-- What is known of a message that a stream's next bytes begin. Assumes nothing.
use mathlib.Core.Path.{◌≡◌, refl}
use mathlib.Core.List.{List}
use mathlib.Core.Bool.{Bool, true, false, cond}
use Prim.Native.Nat.{ℕ, ◌≤◌}
use native.Mathlib.Omega.{arith}
use lib.ListN.{length}
use lib.Dec.{ltb, eqb}
use borrow.Author.Tests.{ltb-false}
use Rattle.stream.specs.declared.Cut.{Cut}
use Rattle.stream.specs.declared.Cut.TheVariants.{End, Tail, Long, Message}
use Rattle.stream.specs.Cut.{cut_of, total_of, extent_by, extent_of}

last : (a b d : Bool) (t u : ℕ) → cond a End (cond b Tail (cond d Long (Message u))) ≡ Message t → (t ≡ u) × (d ≡ false)
last true b d t u e = let z : ◌≡◌ {A = ℕ} 0 1 = cc in absurd (omega arith)
last false true d t u e = let z : ◌≡◌ {A = ℕ} 0 1 = cc in absurd (omega arith)
last false false true t u e = let z : ◌≡◌ {A = ℕ} 0 1 = cc in absurd (omega arith)
last false false false t u e = (cc, refl)

-- it has its header, and no more than 65,536 bytes
pub message-total : (head : List ℕ) (t : ℕ) → cut_of head ≡ Message t → (8 ≤ t) × (t ≤ 65536)
unfolding cut_of total_of
message-total head t e =
    let f = last (eqb (length head) 0) (ltb (length head) 8) (ltb 65536 (total_of head)) t (total_of head) e in
    let g = ltb-false 65536 (total_of head) f.1 in
    (omega (arith, f.0), omega (arith, f.0, g))

-- at most 8 bytes of a message are no more than all of it, which is no more than 65,536 bytes
extent-bounds : (head : List ℕ) → length head ≤ 8 → (length head ≤ extent_of head) × (extent_of head ≤ 65536)
unfolding extent_of
extent-bounds head h = go (cut_of head) (message-total head)
  where
    go : (k : Cut) → ((t : ℕ) → k ≡ Message t → (8 ≤ t) × (t ≤ 65536)) → (length head ≤ extent_by k (length head)) × (extent_by k (length head) ≤ 65536)
    go End f = (omega arith, omega arith)
    go Tail f = (omega arith, omega arith)
    go Long f = (omega arith, omega arith)
    go (Message t) f = let b = f t refl in (omega (arith, b.0), b.1)

-- as a reader finds them, which has n bytes and is told r
pub extent-within : {r n : ℕ} (head : List ℕ) → r ≡ extent_of head → n ≡ length head → n ≤ 8 → (n ≤ r) × (r ≤ 65536)
extent-within head e h g = let b = extent-bounds head (omega arith) in (omega (arith, b.0), omega (arith, b.1))
