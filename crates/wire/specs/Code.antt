-- Error codes: "a signed 32-bit number, zero or below".
use Rattle.std.specs.Prelude.{ℕ, zero, suc, ◌-◌, List, ℤ, pos, negsuc}
use Rattle.wire.specs.Bytes.{le}

-- the number of the error: a code's negation
unfoldable pub negated : ℤ → ℤ
negated (pos zero) = pos 0
negated (pos (suc n)) = negsuc n
negated (negsuc n) = pos (suc n)

-- the two's complement of a signed number at 32 bits
unfoldable pub twos : ℤ → ℕ
twos (pos n) = n
twos (negsuc n) = 4294967296 - suc n

-- its four bytes
unfoldable pub code_bytes : ℤ → List ℕ
unfolding twos
code_bytes e = le 4 (twos e)
