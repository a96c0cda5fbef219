-- "the bytes come from the reply's data or from the guest page": the bytes themselves, out of the two lent buffers.
use Rattle.std.specs.Prelude.{ℕ, ◌+◌, ◌-◌, ◌%◌, List, cond, take, drop}
use Rattle.wire.specs.Bytes.{load}
use Rattle.kvmi.specs.Feed.{in_context}

-- so many bytes from a place on; what lies past the end is not there
abbrev pub part_of : List ℕ → ℕ → ℕ → List ℕ
part_of l at n = take n (drop at l)

-- the context that a reply's message names: its address at byte 24, its size at byte 32, and the supplied data from byte 40 on
abbrev pub address_in : List ℕ → ℕ
address_in msg = load 8 msg 24

abbrev pub size_in : List ℕ → ℕ
size_in msg = load 4 msg 32

-- "they are the supplied data from gva to its end; else the page's bytes from gpa to the page end"
unfoldable pub fed_bytes : List ℕ → List ℕ → ℕ → ℕ → List ℕ
fed_bytes msg guest gva gpa =
    cond (in_context gva (address_in msg) (size_in msg)) (part_of msg (40 + (gva - address_in msg)) (size_in msg - (gva - address_in msg)))
    (part_of guest gpa (4096 - gpa % 4096))
