-- The facts of a line: "Fields: index, id, seq, host answer, bytes written, error in them (a CMD_ERROR's own err)." The index is the reader's own.
use Rattle.std.specs.Prelude.{ℕ, List, Bool, Option, Some, None, ◌&&◌, cond, length, leb, eqb, ℤ}
use Rattle.wire.specs.Bytes.{load}
use Rattle.kvmi.specs.Answer.{Paper}
use Rattle.stream.specs.Signed.{signed_of}
use Rattle.stream.specs.declared.Line.{Line}

-- "`-` stands for an id or seq that is not whole": the id has bytes 0 and 1 of a header, the seq bytes 4 to 7
unfoldable pub line_id : List ℕ → Option ℕ
line_id msg = cond (leb 2 (length msg)) (Some (load 2 msg 0)) None

unfoldable pub seq_of : List ℕ → Option ℕ
seq_of msg = cond (leb 8 (length msg)) (Some (load 4 msg 4)) None

-- A CMD_ERROR among what a message can have written: the id of outgoing events, 17, and 568 bytes, where the reply to an unknown message with this id has 16.
-- (BREAKPOINT and CPUID have 568 bytes, too; only entries write them.)
unfoldable pub is_command_error : List ℕ → ℕ → Bool
is_command_error out count = eqb count 568 && eqb (load 2 out 0) 17

-- where the error stands: in a reply behind the header, in a CMD_ERROR behind the header and the 544 bytes common to events
unfoldable pub error_at : List ℕ → ℕ → ℕ
error_at out count = cond (is_command_error out count) 552 8

-- "`-` stands [..] for the error where 0 bytes are written"
unfoldable pub error_of : List ℕ → ℕ → Option ℤ
error_of out count = cond (eqb count 0) None (Some (signed_of (load 4 out (error_at out count))))

-- of a message, the output after it, and its answer
unfoldable pub line_of : List ℕ → List ℕ → Paper → Line
line_of msg out a =
    record {
      id = line_id msg;
      seq = seq_of msg;
      answer = a.number;
      count = a.count;
      error = error_of out a.count;
    }
