-- What is said of a message, as a host has it. Assumes nothing.
use mathlib.Core.Path.{◌∙◌, ap}
use Rattle.session.specs.Calls.{Told}
use Rattle.calls.specs.Given.{given, message_given}
use Rattle.calls.proofs.message.Goals as goal

pub returns : goal.returns
unfolding message_given
returns c =
    let t = c.receive-r.ensures.guest_after in (
      c.put_result-code.ensures.0 ∙ ap (λ (x : Told). (given x).done.code) t,
      ap (λ (x : Told). x.state.session) t,
      ap (λ (x : Told). x.state.vcpus) t,
      ap (λ (x : Told). x.state.pages) t,
      ap (λ (x : Told). x.out) t,
      ap (λ (x : Told). x.guest) t,
      c.put_result-code.ensures.1 ∙ ap (λ (x : Told). (given x).result) t,
      c.receive-r.ensures.result_value,
    )
