-- Messages that stand end to end: what the first bytes of the next one say of it.
use Rattle.std.specs.Prelude.{ℕ, ◌+◌, List, cond, length, ltb, eqb}
use Rattle.wire.specs.Bytes.{load}
use Rattle.stream.specs.declared.Cut.{Cut}
use Rattle.stream.specs.declared.Cut.TheVariants.{End, Tail, Long, Message}

-- "A header is id u16, size u16, seq u32; then `size` bytes of data."
unfoldable pub total_of : List ℕ → ℕ
total_of head = 8 + load 2 head 2

-- Of the bytes that were read towards a header. None: the input is over. Fewer than 8: "A cut tail is passed on as it is."
-- "at a header whose message would pass 65,536 bytes, header included, it prints `end long` and stops"
unfoldable pub cut_of : List ℕ → Cut
cut_of head =
    cond (eqb (length head) 0) End
    (cond (ltb (length head) 8) Tail
    (cond (ltb 65536 (total_of head)) Long
    (Message (total_of head))))

-- how many bytes there are to be read of the message, where these are its first ones
abbrev pub extent_by : Cut → ℕ → ℕ
extent_by (Message total) n = total
extent_by End n = n
extent_by Tail n = n
extent_by Long n = n

unfoldable pub extent_of : List ℕ → ℕ
extent_of head = extent_by (cut_of head) (length head)
