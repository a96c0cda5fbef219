-- Rows of numbers: what is written is read, and what is read is written. Assumes nothing.
use mathlib.Core.Path.{◌≡◌, refl}
use Prim.Native.Nat.{ℕ, ◌^◌, ◌≤◌}
use native.Mathlib.Omega.{arith}
use mathlib.Core.List.{List, [], ◌∷◌, ◌++◌, append_assoc}
use mathlib.Core.Bool.{So}
use lib.ListN.{length, drop, length-append, length-drop}
use lib.Seq.{drop_at, drop-drop}
use lib.Dec.{ltb}
use lib.Pow.{are_bytes}
use borrow.Author.Tests.{ltb-true, lt-ltb}
use Rattle.wire.specs.Bytes.{le, num}
use Rattle.kvmi.specs.Row.{Row, write_row, read_row, width, fits}
use Rattle.laws.proofs.Bool.{and_l, and_r, and_i}
use Rattle.wire.proofs.Laws.{length-le, bytes_le, num-le, num-bound, le-num, bytes_drop, bytes-append}

pub length-write_row : (ws : List ℕ) (f : Row ws) → length (write_row ws f) ≡ width ws
unfolding write_row
length-write_row [] f = refl
length-write_row (w ∷ ws) f = rw (length-append, length-le, length-write_row ws f.1)

pub bytes-write_row : (ws : List ℕ) (f : Row ws) → So (are_bytes (write_row ws f))
unfolding write_row
bytes-write_row [] f = refl
bytes-write_row (w ∷ ws) f = bytes-append (le w f.0) (write_row ws f.1) (bytes_le w f.0) (bytes-write_row ws f.1)

pub read-write : (ws : List ℕ) (f : Row ws) (t : List ℕ) → So (fits ws f) → read_row ws (write_row ws f ++ t) ≡ f
unfolding read_row write_row
read-write [] f t h = refl
read-write (w ∷ ws) f t h =
    rw (
      append_assoc,
      num-le w f.0 (write_row ws f.1 ++ t) (ltb-true f.0 (256 ^ w) (and_l _ (fits ws f.1) h)),
      drop_at (le w f.0) (write_row ws f.1 ++ t) w (length-le w f.0),
      read-write ws f.1 t (and_r (ltb f.0 (256 ^ w)) _ h),
    )

pub write_read : (ws l : List ℕ) → So (are_bytes l) → width ws ≤ length l → write_row ws (read_row ws l) ++ drop (width ws) l ≡ l
unfolding read_row write_row
write_read [] l h g = refl
write_read (w ∷ ws) l h g =
    let step : width ws ≤ length (drop w l) = rw length-drop (omega arith) in
    rw (append_assoc, ← drop-drop, write_read ws (drop w l) (bytes_drop w l h) step) (le-num w l h (omega arith))

-- what is read of bytes fits
pub read_fits : (ws l : List ℕ) → So (are_bytes l) → So (fits ws (read_row ws l))
unfolding read_row
read_fits [] l h = refl
read_fits (w ∷ ws) l h =
    and_i (ltb (num w l) (256 ^ w)) (fits ws (read_row ws (drop w l))) (lt-ltb (num w l) (256 ^ w) (num-bound w l h)) (read_fits ws (drop w l) (bytes_drop w l h))
