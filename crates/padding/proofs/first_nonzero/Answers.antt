-- The loop's invariant: the bytes that are left say what all of them do. Assumes nothing.
use mathlib.Core.Path.{◌≡◌, sym, ap, ◌∙◌}
use mathlib.Core.Logic.{⊎_elim}
use Prim.Native.Nat.{ℕ, ◌+◌, ◌-◌}
use native.Mathlib.Omega.{arith}
use lib.ListN.{length}
use Rattle.wire.proofs.Laws.{le-or-lt}
use Rattle.kvmi.specs.Message.{first_non_zero}
use Rattle.padding.proofs.Runs.{run_past, run-found, run_step, run_none}
use Rattle.padding.proofs.first_nonzero.Goals as goal

pub returns-then-d-i-ne0 : goal.returns-then-d-i-ne0
returns-then-d-i-ne0 c =
    let a = c.args in
    sym (run-found a.d.now c.loop-i.i (a.at + a.n - c.loop-i.i) 0 (omega arith) c.if-d-i-ne0.true) ∙ c.loop-i.invariant

pub loop-i-preserved : goal.loop-i-preserved
loop-i-preserved c =
    let a = c.args in
    let i = c.loop-i.i in
    let one_less : a.at + a.n - (i + 1) ≡ a.at + a.n - i - 1 = omega arith in
    ap (λ (m : ℕ). first_non_zero a.d.now (i + 1) m 0) one_less ∙ run_step a.d.now i (a.at + a.n - i) 0 (omega arith) c.if-d-i-ne0.false ∙ c.loop-i.invariant

-- the loop ends past the data, or past the last of the n bytes
pub returns : goal.returns
returns c =
    let a = c.args in
    let i = c.loop-i.i in
    ⊎_elim
    (λ past. sym (run_past a.d.now i (a.at + a.n - i) 0 past) ∙ c.loop-i.invariant)
    (λ more.
    let none_left : 0 ≡ a.at + a.n - i = omega arith in
    sym (run_none a.d.now i 0) ∙ ap (λ (m : ℕ). first_non_zero a.d.now i m 0) none_left ∙ c.loop-i.invariant)
    (le-or-lt (length a.d.now) i)
