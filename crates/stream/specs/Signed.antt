-- "a signed 32-bit number", read back from its bits.
use Rattle.std.specs.Prelude.{ℕ, ◌-◌, cond, ℤ, pos, negsuc, ltb}

-- the number whose two's complement at 32 bits is n; negsuc k is -(k + 1)
unfoldable pub signed_of : ℕ → ℤ
signed_of n = cond (ltb n 2147483648) (pos n) (negsuc (4294967295 - n))
