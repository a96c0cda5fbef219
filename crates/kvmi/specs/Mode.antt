-- The reply mode as a number: how a session keeps it.
use Rattle.std.specs.Prelude.{ℕ, cond, eqb}
use Rattle.kvmi.specs.declared.ReplyMode.{ReplyMode}
use Rattle.kvmi.specs.declared.ReplyMode.TheVariants.{On, Off, ErrorsOnly}

-- 0: replies on; 1: off; any other: off, and errors told
unfoldable pub mode_of_number : ℕ → ReplyMode
mode_of_number n = cond (eqb n 0) On (cond (eqb n 1) Off ErrorsOnly)

abbrev pub number_of_mode : ReplyMode → ℕ
number_of_mode On = 0
number_of_mode Off = 1
number_of_mode ErrorsOnly = 2
