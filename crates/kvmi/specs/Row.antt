-- Rows of numbers, each in as many bytes as its width says, lowest byte first.
use Rattle.std.specs.Prelude.{ℕ, ◌+◌, ◌^◌, List, [], ◌∷◌, ◌++◌, Bool, true, ◌&&◌, drop, ltb}
use Rattle.wire.specs.Bytes.{le, num}

-- a number for each width
abbrev pub Row : List ℕ → Type 0
Row [] = Unit {0}
Row (w ∷ ws) = ℕ × Row ws

-- its bytes
unfoldable pub write_row : (ws : List ℕ) → Row ws → List ℕ
write_row [] f = []
write_row (w ∷ ws) f = le w f.0 ++ write_row ws f.1

-- read from the front of bytes
unfoldable pub read_row : (ws : List ℕ) → List ℕ → Row ws
read_row [] l = tt
read_row (w ∷ ws) l = (num w l, read_row ws (drop w l))

-- how many bytes it has
abbrev pub width : List ℕ → ℕ
width [] = 0
width (w ∷ ws) = w + width ws

-- each number fits its bytes
abbrev pub fits : (ws : List ℕ) → Row ws → Bool
fits [] f = true
fits (w ∷ ws) f = ltb f.0 (256 ^ w) && fits ws f.1
