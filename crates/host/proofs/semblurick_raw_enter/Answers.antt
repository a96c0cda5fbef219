-- Of the session only the next event's seq can have moved, and that is stored. Assumes nothing.
use mathlib.Core.Path.{sym, ap, ◌∙◌}
use Prim.Native.Nat.{min}
use Rattle.session.specs.State.{state, with_tool, with_tool_seq}
use Rattle.entry.proofs.Kept.{enter-moves}
use Rattle.calls.specs.declared.Returned.{Returned}
use Rattle.calls.specs.Given.{enter_given}
use Rattle.host.proofs.semblurick_raw_enter.Goals as goal

pub returns : goal.returns
unfolding enter_given
returns c = (
  ap (λ (d : Returned). d.code) c.enter-d.ensures.0,
  ap (λ (d : Returned). with_tool c.args.s.now (with_tool_seq c.args.s.now.tool d.session.tool.seq)) c.enter-d.ensures.0
      ∙ sym (enter-moves (state c.args.s.now c.args.vcpus.now c.args.pages.now) (min c.args.vcpu 65535) c.args.block.now c.args.event c.args.own.now c.args.out.now).session,
  c.enter-d.ensures.1,
  c.enter-d.ensures.2,
  c.enter-d.ensures.3,
)
