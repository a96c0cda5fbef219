-- The runs of this layout. Assumes nothing.
use Rattle.kvmi.specs.Message.{first_padding, padding_runs, first_of_runs}
use Rattle.padding.proofs.of_switch.Goals as goal

pub returns : goal.returns
unfolding first_padding padding_runs first_of_runs
returns c = c.in_word.ensures
