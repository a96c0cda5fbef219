-- Assumes nothing.
use Rattle.image_msrs.proofs.Switches.{counted}
use Rattle.image_msrs.proofs.count.Goals as goal

pub returns : goal.returns
returns c = counted _ _ c.min.ensures c.find_all.ensures.0
