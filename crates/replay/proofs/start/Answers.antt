-- Each call's state is the next one's. Assumes nothing.
use mathlib.Core.Path.{ap, ◌∙◌}
use Rattle.kvmi.specs.declared.Settings.{Settings}
use Rattle.session.specs.State.{State}
use Rattle.session.specs.Calls.{Told, fresh_of, ready_of}
use Rattle.replay.specs.Runner.{start_of}
use Rattle.replay.proofs.start.Goals as goal

pub returns : goal.returns
unfolding start_of
returns c =
    let begun = ap (λ (t : Told). t.state) c.fresh-begun.ensures ∙ ap (λ (s : Settings). (fresh_of s c.args.vcpus.now c.args.pages.now).state) c.settings.ensures in
    let first = ap (λ (t : Told). t.state) (c.ready.ensures _ _) ∙ ap (λ (st : State). (ready_of st 0).state) begun in
    ap (λ (t : Told). t.state) (c.ready-2.ensures _ _) ∙ ap (λ (st : State). (ready_of st 1).state) first
