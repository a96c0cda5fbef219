-- What the session tells of an entry, as a host has it. Assumes nothing.
use mathlib.Core.Path.{◌∙◌, ap}
use Prim.Native.Nat.{ℕ}
use Rattle.session.specs.State.{state}
use Rattle.session.specs.Calls.{Told}
use Rattle.entry.specs.Entry.{enter_of}
use Rattle.calls.specs.Given.{given, enter_given}
use Rattle.calls.proofs.enter.Goals as goal

pub returns : goal.returns
unfolding enter_given
returns c =
    let a = c.args in
    let e =
    c.enter-done.ensures
    ∙ ap (λ (n : ℕ). enter_of (state a.s a.vcpus.now a.pages.now) n a.block.now a.event a.own.now a.out.now) c.vcpu_number.ensures in
    (c.finish.ensures.0 ∙ ap (λ (t : Told). (given t).done) e, ap (λ (t : Told). t.state.vcpus) e, ap (λ (t : Told). t.out) e, c.finish.ensures.1 ∙ ap (λ (t : Told). (given t).result) e)
