-- A record with a kind is all there. Assumes nothing.
use Rattle.kvmi.specs.Record.{VM}
use Rattle.image_form.proofs.Forms.{mark-room}
use Rattle.image_step.proofs.first_step.Goals as goal

pub step_vm-requires : goal.step_vm-requires
step_vm-requires c = mark-room c.args.l.now 0 VM cc
