-- All of the part is written. Assumes nothing.
use mathlib.Core.Path.{◌∙◌}
use Rattle.kvmi.specs.Record.{MS}
use Rattle.laws.proofs.Record.{length-write}
use Rattle.image_msrs.specs.Switches.{msr_of_switch}
use Rattle.image_msrs.proofs.Stores.{part-written}
use Rattle.image_msrs.proofs.put_ms.Goals as goal

pub returns : goal.returns
unfolding msr_of_switch
returns c = part-written _ _ 8 _ _ (c.ms.ensures ∙ rw c.msr_at-msr.ensures) (length-write MS _) c.requires.0
