-- What `batch` tells, as a host has it. Assumes nothing.
use mathlib.Core.Path.{◌∙◌, ap}
use Rattle.kvmi.specs.Batch.{Batch}
use Rattle.session.specs.State.{State}
use Rattle.batch_given.specs.Given.{given_batch, batch_given}
use Rattle.host_batch.proofs.take.Goals as goal

pub returns : goal.returns
unfolding batch_given
returns c =
    let e = c.take-b.ensures in
    (ap (λ (b : Batch State). (given_batch b).done) e, ap (λ (b : Batch State). b.state.vcpus) e, ap (λ (b : Batch State). b.state.pages) e, ap (λ (b : Batch State). b.out) e, ap (λ (b : Batch State). b.signals) e, ap (λ (b : Batch State). b.guest) e, c.put_batch.ensures ∙ ap (λ (b : Batch State). (given_batch b).result) e)
