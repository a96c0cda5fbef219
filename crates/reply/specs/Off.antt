-- An answer by the number of the reply mode, as code takes it: while replies are off, and whether an event tells the code.
use Rattle.std.specs.Prelude.{ℕ, List, [], Bool, false, cond, not, ◌&&◌, ℤ, eqb}
use Rattle.kvmi.specs.declared.ReplyMode.{ReplyMode}
use Rattle.kvmi.specs.declared.ReplyMode.TheVariants.{On, Off, ErrorsOnly}
use Rattle.kvmi.specs.declared.ReplyKind.{ReplyKind}
use Rattle.kvmi.specs.declared.ReplyKind.TheVariants.{CodeOnly, WithData, Silent}
use Rattle.kvmi.specs.Codes.{is_error}
use Rattle.kvmi.specs.Reply.{command_error_event, answer_of}
use Rattle.reply.specs.declared.Answered.{Answered}
use Rattle.reply.specs.Written.{AnswerWritten}

-- while replies are off: whether an event tells this code
unfoldable pub is_told : ℕ → ℤ → Bool
is_told mode code = not (eqb mode 1) && is_error code

unfoldable pub off_bytes : ℕ → ℕ → ℕ → ℕ → ℤ → List ℕ
off_bytes mode next id seq code = cond (is_told mode code) (command_error_event next code seq id) []

-- whether an event tells a code, by the mode
unfoldable pub tells : ReplyMode → ℤ → Bool
tells On code = false
tells Off code = false
tells ErrorsOnly code = is_error code

-- by the kind of the reply: EVENT_REPLY is not answered
unfoldable pub kind_tells : ReplyKind → ReplyMode → ℤ → Bool
kind_tells CodeOnly mode code = tells mode code
kind_tells WithData mode code = tells mode code
kind_tells Silent mode code = false

-- the data that a kind of reply has
abbrev pub kind_data : ReplyKind → List ℕ → List ℕ
kind_data CodeOnly d = []
kind_data WithData d = d
kind_data Silent d = []

-- an answer of a kind is written, with the output before and after and what is returned
abbrev pub KindWritten : ReplyKind → ReplyMode → ℕ → ℕ → ℕ → ℤ → List ℕ → List ℕ → List ℕ → Answered → Type 0
KindWritten kind mode next id seq code d before after r =
    AnswerWritten before after r (answer_of kind mode next id seq code (kind_data kind d)) (kind_tells kind mode code)
