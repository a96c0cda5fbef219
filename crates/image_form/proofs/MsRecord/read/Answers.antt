-- A number of what is left from an offset on is the number that much further on. Assumes nothing.
use Rattle.wire.proofs.Laws.{load-drop}
use Rattle.image_form.proofs.MsRecord.read.Goals as goal

pub returns : goal.returns
returns c =
    let a = c.args in
    rw (c.load.ensures, c.load-2.ensures, c.behind-record.ensures, load-drop 2 a.at a.l.now 2, load-drop 4 a.at a.l.now 4)
