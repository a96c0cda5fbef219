-- Where something moved, all but the settings is stored, and they stay; where nothing did, the session stays. Assumes nothing.
use mathlib.Core.Path.{◌≡◌, sym, ap, ◌∙◌}
use mathlib.Core.Bool.{false≢true}
use Rattle.session.specs.declared.Session.{Session}
use Rattle.session.specs.State.{with_settings}
use Rattle.message.specs.declared.After.{After}
use Rattle.message.specs.declared.After.TheVariants.{Same}
use Rattle.message.specs.Moves.{session_after}
use Rattle.message.proofs.Moves.{stays, settings-stay}
use Rattle.host.proofs.semblurick_raw_message.Goals as goal
use Rattle.host.proofs.semblurick_raw_message.Goals.{in-Same, in_default}

pub returns-then-not-matches : goal.returns-then-not-matches
returns-then-not-matches c =
    let e = c.message-d.ensures in (
      e.0,
      ap (λ (s : Session). with_settings s c.args.s.now.settings) c.session_after-after.ensures
          ∙ sym (settings-stay c.args.s.now c.message-d.result.after)
          ∙ e.1,
      e.2,
      e.3,
      e.4,
      e.5,
      e.6,
    )

pub returns-else-not-matches : goal.returns-else-not-matches
returns-else-not-matches c =
    let e = c.message-d.ensures in
    let same : c.message-d.result.after ≡ Same = elim c.match-matches.branch [
      | in-Same w ↦ w.in-Same.is
      | in_default w ↦ absurd (false≢true (sym w.matches-is ∙ c.if-not-matches.false))
    ] in (
      e.0,
      sym (stays c.args.s.now) ∙ ap (λ (a : After). session_after c.args.s.now a) (sym same) ∙ e.1,
      e.2,
      e.3,
      e.4,
      e.5,
      e.6,
    )
