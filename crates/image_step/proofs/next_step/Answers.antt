-- A record with a kind is all there. Assumes nothing.
use Rattle.kvmi.specs.Record.{VC, MS, PA, EN}
use Rattle.image_form.proofs.Forms.{mark-room}
use Rattle.image_step.proofs.next_step.Goals as goal

pub step_vc-requires : goal.step_vc-requires
step_vc-requires c = mark-room c.args.l.now c.args.p.at VC cc

pub step_ms-requires : goal.step_ms-requires
step_ms-requires c = mark-room c.args.l.now c.args.p.at MS cc

pub step_pa-requires : goal.step_pa-requires
step_pa-requires c = mark-room c.args.l.now c.args.p.at PA cc

pub step_en-requires : goal.step_en-requires
step_en-requires c = mark-room c.args.l.now c.args.p.at EN cc
