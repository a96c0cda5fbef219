-- Reading a code from its bits, and that it undoes two's complement, both ways. Assumes nothing.
use mathlib.Core.Path.{◌≡◌, refl, ap, ◌∙◌}
use mathlib.Core.Bool.{Bool, true, false, cond}
use Prim.Native.Nat.{ℕ}
use native.Mathlib.Omega.{arith}
use lib.Dec.{ltb}
use lib.IntN.{ℤ, pos, negsuc}
use mir.Facts.{to_z-of_z, of_z-to_z, sfits_to_z}
use mir.Syntax.{w32}
use mir.Val.{Fits, SFits, of_z, to_z, sel}
use Rattle.wire.specs.Code.{twos}
use Rattle.wire.proofs.Codes.{twos-bits}
use Rattle.stream.specs.Signed.{signed_of}

chosen : (b : Bool) (x : ℤ) {y z : ℤ} → y ≡ z → cond b x y ≡ sel b x z
chosen true x e = refl
chosen false x e = e

-- it is how a machine reads the bits of an i32
pub signed-bits : (n : ℕ) → signed_of n ≡ to_z w32 n
unfolding signed_of
signed-bits n = chosen (ltb n 2147483648) (pos n) (ap negsuc (omega arith))

-- every i32 is read back from its two's complement
pub signed-twos : (e : ℤ) → SFits w32 e → signed_of (twos e) ≡ e
signed-twos e f = ap signed_of (twos-bits e) ∙ signed-bits (of_z w32 e) ∙ to_z-of_z f

-- and every number of 32 bits is the two's complement of what is read
pub twos-signed : (n : ℕ) → Fits w32 n → twos (signed_of n) ≡ n
twos-signed n f = twos-bits (signed_of n) ∙ ap (of_z w32) (signed-bits n) ∙ of_z-to_z f

pub signed-fits : (n : ℕ) → Fits w32 n → SFits w32 (signed_of n)
signed-fits n f = rw signed-bits (sfits_to_z f)
