-- A number of what is left from an offset on is the number that much further on. Assumes nothing.
use Rattle.std.proofs.Common.{get_or-drop}
use Rattle.wire.proofs.Laws.{load-drop}
use Rattle.image_form.proofs.VcRecord.read.Goals as goal

pub returns : goal.returns
returns c =
    let a = c.args in
    rw (c.load.ensures, c.byte.ensures, c.byte-2.ensures, c.load-2.ensures, c.byte-3.ensures, c.byte-4.ensures, c.behind-record.ensures, load-drop 2 a.at a.l.now 2, get_or-drop a.at a.l.now 4 0, get_or-drop a.at a.l.now 5 0, load-drop 2 a.at a.l.now 6, get_or-drop a.at a.l.now 8 0, get_or-drop a.at a.l.now 9 0)
