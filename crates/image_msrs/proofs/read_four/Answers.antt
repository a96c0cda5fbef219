-- Each word by itself. Assumes nothing.
use Rattle.image_msrs.proofs.read_four.Goals as goal

pub returns : goal.returns
returns c = rw (c.word.ensures, c.word-2.ensures, c.word-3.ensures, c.word-4.ensures)
