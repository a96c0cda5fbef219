-- Of the session all but the settings is stored, and they stay. Assumes nothing.
use mathlib.Core.Path.{sym, ap, ◌∙◌}
use Rattle.session.specs.State.{state, with_settings}
use Rattle.batch.proofs.Kept.{batch-moves}
use Rattle.calls.specs.declared.Returned.{Returned}
use Rattle.batch_given.specs.Given.{batch_given}
use Rattle.host_batch.proofs.semblurick_raw_batch.Goals as goal

pub returns : goal.returns
unfolding batch_given
returns c =
    let e = c.take-d.ensures in
    let a = c.args in (
      ap (λ (d : Returned). d.code) e.0,
      ap (λ (d : Returned). with_settings d.session a.s.now.settings) e.0
          ∙ sym (batch-moves (state a.s.now a.vcpus.now a.pages.now) a.input.now a.out.now a.signals.now a.guest.now),
      e.1,
      e.2,
      e.3,
      e.4,
      e.5,
      e.6,
    )
