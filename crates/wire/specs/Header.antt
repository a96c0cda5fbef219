-- The message header: "A header is id u16, size u16, seq u32; then `size` bytes of data."
use Rattle.std.specs.Prelude.{ℕ, ◌+◌, List, Bool, ◌&&◌, cond, Option, Some, None, length, leb, eqb}
use Rattle.wire.specs.Bytes.{load}
use Rattle.wire.specs.declared.Header.{Header}

-- 8 bytes are there, and as many follow them as the size says
unfoldable pub is_whole : List ℕ → Bool
is_whole s = leb 8 (length s) && eqb (length s) (8 + load 2 s 2)

-- what is read at the start of a message: its header, or none
abbrev pub HeaderRead : Type 0
HeaderRead = Option Header

-- a header of these numbers
abbrev pub whole : ℕ → ℕ → ℕ → HeaderRead
whole id size seq = Some (record { id = id; size = size; seq = seq })

unfoldable pub header_of : List ℕ → HeaderRead
header_of s = cond (is_whole s) (whole (load 2 s 0) (load 2 s 2) (load 4 s 4)) None
