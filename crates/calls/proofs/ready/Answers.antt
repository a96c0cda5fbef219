-- What the session tells of a ready mark, as a host has it. Assumes nothing.
use mathlib.Core.Path.{◌∙◌, ap}
use Prim.Native.Nat.{ℕ}
use mathlib.Core.List.{[]}
use Rattle.session.specs.State.{state}
use Rattle.session.specs.Calls.{Told, ready_of}
use Rattle.calls.specs.Given.{given, ready_given}
use Rattle.calls.proofs.ready.Goals as goal

pub returns : goal.returns
unfolding ready_given
returns c = let e = c.ready-done.ensures [] [] ∙ ap (λ (n : ℕ). ready_of (state c.args.s [] []) n) c.vcpu_number.ensures in
    (c.finish.ensures.0 ∙ ap (λ (t : Told). (given t).done) e, c.finish.ensures.1 ∙ ap (λ (t : Told). (given t).result) e)
