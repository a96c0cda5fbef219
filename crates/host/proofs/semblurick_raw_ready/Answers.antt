-- Of the session only what the tools share can have moved, and that is stored. Assumes nothing.
use mathlib.Core.Path.{sym, ap, ◌∙◌}
use mathlib.Core.List.{[]}
use Prim.Native.Nat.{min}
use Rattle.session.specs.State.{state, with_shared}
use Rattle.session.proofs.Kept.{ready-moves}
use Rattle.calls.specs.declared.Returned.{Returned}
use Rattle.calls.specs.Given.{ready_given}
use Rattle.host.proofs.semblurick_raw_ready.Goals as goal

pub returns : goal.returns
unfolding ready_given
returns c = (
  ap (λ (d : Returned). d.code) c.ready-d.ensures.0,
  ap (λ (d : Returned). with_shared c.args.s.now d.session.shared) c.ready-d.ensures.0
      ∙ sym (ready-moves (state c.args.s.now [] []) (min c.args.vcpu 65535)).session,
  c.ready-d.ensures.1,
)
