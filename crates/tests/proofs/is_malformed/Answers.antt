-- The tests are the definitions'. Assumes nothing.
use Rattle.tests.proofs.is_malformed.Goals as goal

pub returns : goal.returns
returns c = rw c.is_switch.ensures
