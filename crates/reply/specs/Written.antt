-- What a function that writes bytes at the front of its output has done.
use Rattle.std.specs.Prelude.{ℕ, ◌≡◌, List, Bool, length}
use Rattle.wire.specs.Bytes.{store}
use Rattle.reply.specs.declared.Answered.{Answered}

-- the output before and after, the count that is returned, and the bytes; where they do not fit the output stays as it was
pub record Written (before after : List ℕ) (r : ℕ) (bytes : List ℕ) : Type 0 where
  pub count : r ≡ length bytes
  pub there : after ≡ store before 0 bytes

-- what answers a message is written, and whether it is an event, which takes a seq
pub record AnswerWritten (before after : List ℕ) (r : Answered) (bytes : List ℕ) (told : Bool) : Type 0 where
  pub written : Written before after r.count bytes
  pub took : r.took_seq ≡ told
