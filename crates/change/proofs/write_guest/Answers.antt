-- Where there are no such bytes, none. Assumes nothing.
use mathlib.Core.Path.{sym}
use Rattle.session.proofs.Laws.{drop-short}
use Rattle.wire.proofs.Laws.{store-none}
use Rattle.change.proofs.write_guest.Goals as goal

pub returns-else-d-ge16 : goal.returns-else-d-ge16
returns-else-d-ge16 c = rw (drop-short 16 c.args.d.now c.if-d-ge16.false) (sym (store-none _ _))
