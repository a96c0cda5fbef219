-- Each field from what its callee gives. Assumes nothing.
use Rattle.kvmi.specs.Message.{vcpu_of}
use Rattle.verdict.proofs.facts_of.Goals as goal

pub returns : goal.returns
unfolding vcpu_of
returns c = simp (c.read_pending.ensures, c.is_on.ensures, c.load-vcpu.ensures)
