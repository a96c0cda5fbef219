-- The tests are the definitions'. Assumes nothing.
use Rattle.vm_commands.proofs.physical.Goals as goal

pub returns : goal.returns
returns c = rw (c.new.ensures, c.in_one_page.ensures, c.page_exists.ensures)
