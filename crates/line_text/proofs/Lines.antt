-- The definition of a line's text at lines that are known: document 01's own, and the ends of each field. Each is computed.
use mathlib.Core.Path.{◌≡◌, refl}
use mathlib.Core.List.{List, [], ◌∷◌, map}
use Prim.Native.Nat.{ℕ}
use Prim.Native.String.{String}
use lib.IntN.{ℤ, pos, negsuc}
use Rattle.std.specs.Prelude.{Option, Some, None}
use Rattle.stream.specs.declared.Line.{Line}
use Rattle.stream.specs.declared.End.TheVariants.{Open, Closed, Long}
use Rattle.line_text.specs.Text.{ascii, digits, decimal, signed_text, number_text, code_text, line_text, end_text}

record LineCase : Type 0 where
  index : ℕ
  line : Line
  text : String

abbrev line_case : ℕ → Option ℕ → Option ℕ → ℕ → ℕ → Option ℤ → String → LineCase
line_case index id seq answer count error text =
    record { index = index; line = record { id = id; seq = seq; answer = answer; count = count; error = error }; text = text }

abbrev rows : List LineCase
rows =
    line_case 0 (Some 1) (Some 7) 0 32 (Some (pos 0)) "0 1 7 0 32 0\n"
    ∷ line_case 1 (Some 9) (Some 8) 0 16 (Some (negsuc 21)) "1 9 8 0 16 -22\n"
    -- a cut tail closes: of its 1 byte neither id nor seq is whole, of its 7 bytes the id is
    ∷ line_case 9 None None 1 0 None "9 - - 1 0 -\n"
    ∷ line_case 10 (Some 65535) None 1 0 None "10 65535 - 1 0 -\n"
    ∷ line_case 99 (Some 100) (Some 101) 14 4112 (Some (negsuc 999)) "99 100 101 14 4112 -1000\n"
    -- the largest and the smallest of each field
    ∷ line_case 18446744073709551615 (Some 4294967295) (Some 4294967295) 255 18446744073709551615 (Some (pos 2147483647))
    "18446744073709551615 4294967295 4294967295 255 18446744073709551615 2147483647\n"
    ∷ line_case 10000000000000000000 (Some 0) (Some 0) 0 0 (Some (negsuc 2147483647)) "10000000000000000000 0 0 0 0 -2147483648\n"
    ∷ line_case 9999999999999999999 (Some 10) (Some 19) 9 568 (Some (negsuc 0)) "9999999999999999999 10 19 9 568 -1\n"
    ∷ []

pub rows_right : map (λ r. line_text r.index r.line) rows ≡ map (λ r. ascii r.text) rows
unfolding digits decimal signed_text number_text code_text line_text
rows_right = refl

-- the last lines, and what `ascii` is
pub ends-right : map end_text (Open ∷ Closed ∷ Long ∷ [])
    ≡ (101 ∷ 110 ∷ 100 ∷ 32 ∷ 111 ∷ 112 ∷ 101 ∷ 110 ∷ 10 ∷ [])
    ∷ (101 ∷ 110 ∷ 100 ∷ 32 ∷ 99 ∷ 108 ∷ 111 ∷ 115 ∷ 101 ∷ 100 ∷ 10 ∷ [])
    ∷ (101 ∷ 110 ∷ 100 ∷ 32 ∷ 108 ∷ 111 ∷ 110 ∷ 103 ∷ 10 ∷ [])
    ∷ []
unfolding end_text
ends-right = refl
