-- An answer by the number of the reply mode is the answer by the mode. Assumes nothing.
use mathlib.Core.Path.{◌≡◌, refl}
use mathlib.Core.List.{List, []}
use mathlib.Core.Bool.{Bool, true, false, cond, not, ◌&&◌}
use Prim.Native.Nat.{ℕ}
use lib.IntN.{ℤ}
use lib.Dec.{eqb}
use mir.Syntax.{w32}
use mir.Val.{SFits, to_z, of_z}
use mir.Facts.{to_z-of_z}
use borrow.Author.Tests.{eq-eqb, ne_eqb}
use Rattle.kvmi.specs.declared.ReplyMode.{ReplyMode}
use Rattle.kvmi.specs.declared.ReplyMode.TheVariants.{Off, ErrorsOnly}
use Rattle.kvmi.specs.Mode.{mode_of_number}
use Rattle.kvmi.specs.Codes.{is_error}
use Rattle.kvmi.specs.Reply.{command_error_event, reply_bytes, answer_bytes}
use Rattle.reply.specs.declared.Answered.{Answered}
use Rattle.reply.specs.Written.{Written, AnswerWritten}
use Rattle.reply.specs.Off.{is_told, off_bytes, tells}

-- the test of both, with the code as it is passed on
pub told-as : (mode : ℕ) {code : ℤ} {b t : Bool} → SFits w32 code → b ≡ is_error (to_z w32 (of_z w32 code)) → (not (eqb mode 1) && b) ≡ t → is_told mode code ≡ t
unfolding is_told
told-as mode f e h = rw (e, to_z-of_z f) at h

module _ (mode next id seq : ℕ) (code : ℤ) (d : List ℕ) where
  -- off, or off with errors told
  abbrev quietly : Bool → ReplyMode
  quietly b = cond b Off ErrorsOnly

  off-by : (b : Bool) → cond (not b && is_error code) (command_error_event next code seq id) [] ≡ answer_bytes (quietly b) next id seq code d
  unfolding answer_bytes
  off-by true = refl
  off-by false = refl

  tells-by : (b : Bool) → (not b && is_error code) ≡ tells (quietly b) code
  unfolding tells
  tells-by true = refl
  tells-by false = refl

  pub off-bytes : (mode ≡ 0 → ⊥) → off_bytes mode next id seq code ≡ answer_bytes (mode_of_number mode) next id seq code d
  unfolding off_bytes is_told mode_of_number
  off-bytes h = rw (ne_eqb mode 0 h) (off-by (eqb mode 1))

  pub off-tells : (mode ≡ 0 → ⊥) → is_told mode code ≡ tells (mode_of_number mode) code
  unfolding is_told mode_of_number
  off-tells h = rw (ne_eqb mode 0 h) (tells-by (eqb mode 1))

  pub on-bytes : mode ≡ 0 → reply_bytes id seq code d ≡ answer_bytes (mode_of_number mode) next id seq code d
  unfolding answer_bytes mode_of_number
  on-bytes h = rw (eq-eqb mode 0 h)

  pub on-tells : mode ≡ 0 → false ≡ tells (mode_of_number mode) code
  unfolding tells mode_of_number
  on-tells h = rw (eq-eqb mode 0 h)

  module _ {out after : List ℕ} {r : Answered} where
    pub off-as : (mode ≡ 0 → ⊥) → AnswerWritten out after r (off_bytes mode next id seq code) (is_told mode code)
        → AnswerWritten out after r (answer_bytes (mode_of_number mode) next id seq code d) (tells (mode_of_number mode) code)
    off-as h a = rw (off-bytes h, off-tells h) at a

    pub on-as : mode ≡ 0 → Written out after r.count (reply_bytes id seq code d) → r.took_seq ≡ false
        → AnswerWritten out after r (answer_bytes (mode_of_number mode) next id seq code d) (tells (mode_of_number mode) code)
    on-as h w e = rw (← on-bytes h, ← on-tells h) (record { written = w; took = e })
