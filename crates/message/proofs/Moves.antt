-- The session after what a message moved. Assumes nothing.
use mathlib.Core.Path.{◌≡◌, refl}
use mathlib.Core.Bool.{Bool, true, false}
use Rattle.session.specs.declared.Session.{Session}
use Rattle.session.specs.declared.Tool.{Tool}
use Rattle.session.specs.State.{with_settings, with_tool}
use Rattle.change.specs.declared.Moved.{Moved}
use Rattle.change.specs.declared.Moved.TheVariants.{Nothing, Events, Pages, Mode}
use Rattle.change.specs.Effect.{tool_after}
use Rattle.message.specs.declared.After.{After}
use Rattle.message.specs.declared.After.TheVariants.{Same, Closed, Changed}
use Rattle.message.specs.Moves.{and_seq, seq_taken, session_after}

-- where nothing moved the session stays
pub stays : (s : Session) → session_after s Same ≡ s
unfolding session_after
stays s = refl

-- nor does it change where it is said to have moved, and no seq was taken and no number moved
pub stays-changed : (s : Session) → session_after s (Changed false Nothing) ≡ s
unfolding session_after tool_after
stays-changed s = refl

-- one of the tool's numbers, and a seq where an event took it
pub moved_as : (s : Session) (moved : Moved) (took : Bool) → session_after s (and_seq moved took) ≡ with_tool s (seq_taken took (tool_after s.tool moved))
unfolding session_after tool_after
moved_as s moved true = refl
moved_as s Nothing false = refl
moved_as s (Events events) false = refl
moved_as s (Pages pages) false = refl
moved_as s (Mode number) false = refl

-- the next event's seq is none of the numbers that a change moves
pub seq-stays : (t : Tool) (moved : Moved) → (tool_after t moved).seq ≡ t.seq
unfolding tool_after
seq-stays t Nothing = refl
seq-stays t (Events events) = refl
seq-stays t (Pages pages) = refl
seq-stays t (Mode number) = refl

-- nor are the settings moved
pub settings-stay : (s : Session) (after : After) → session_after s after ≡ with_settings (session_after s after) s.settings
unfolding session_after
settings-stay s Same = refl
settings-stay s Closed = refl
settings-stay s (Changed took moved) = refl
