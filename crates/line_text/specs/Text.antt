-- The text of a line, byte for byte: "Fields: index, id, seq, host answer, bytes written, error in them".
use Rattle.std.specs.Prelude.{Option, Some, None, ℕ, zero, suc, ◌+◌, ◌/◌, ◌%◌, ◌≤◌, ◌≡◌, List, [], ◌∷◌, ◌++◌, cond, length, take, ltb, ℤ, pos, negsuc}
use Prim.Native.Char.{code}
use Prim.Native.String.{String, [] as none, ◌∷◌ as ◌then◌}
use Rattle.stream.specs.declared.Line.{Line}
use Rattle.stream.specs.declared.End.{End}
use Rattle.stream.specs.declared.End.TheVariants.{Open, Closed, Long}

-- the bytes of a quoted text in ASCII
abbrev pub ascii : String → List ℕ
ascii none = []
ascii (c then s) = code c ∷ ascii s

-- ---- numbers, in decimal

-- the digits of n, the highest first and no zero in front; k is how many there can be
unfoldable pub digits : ℕ → ℕ → List ℕ
digits zero n = []
digits (suc k) n = cond (ltb n 10) ((48 + n) ∷ []) (digits k (n / 10) ++ (48 + n % 10) ∷ [])

-- of a number of 64 bits, which has at most 20
unfoldable pub decimal : ℕ → List ℕ
decimal n = digits 20 n

-- a minus sign before a negative number; negsuc k is -(k + 1)
unfoldable pub signed_text : ℤ → List ℕ
signed_text (pos n) = decimal n
signed_text (negsuc k) = ascii "-" ++ decimal (suc k)

-- ---- fields

-- "`-` stands for an id or seq that is not whole"
unfoldable pub number_text : Option ℕ → List ℕ
number_text None = ascii "-"
number_text (Some n) = decimal n

-- "and for the error where 0 bytes are written"
unfoldable pub code_text : Option ℤ → List ℕ
code_text None = ascii "-"
code_text (Some e) = signed_text e

-- ---- lines

-- the fields with single spaces between them
unfoldable pub line_text : ℕ → Line → List ℕ
line_text index l =
    decimal index
    ++ ascii " " ++ number_text l.id
    ++ ascii " " ++ number_text l.seq
    ++ ascii " " ++ decimal l.answer
    ++ ascii " " ++ decimal l.count
    ++ ascii " " ++ code_text l.error
    ++ ascii "\n"

-- the last line: "After closing it prints `end closed` and stops", "it prints `end long` and stops"; else `end open`
unfoldable pub end_text : End → List ℕ
end_text Open = ascii "end open\n"
end_text Closed = ascii "end closed\n"
end_text Long = ascii "end long\n"

-- so many bytes stand at the front of a text; the second part follows from the first, and serves callers that lend them on
abbrev pub Counts : ℕ → List ℕ → Type 0
Counts n text = (n ≤ length text) × (n ≡ length (take n text))
