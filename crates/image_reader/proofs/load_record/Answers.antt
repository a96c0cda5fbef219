-- A record with a kind is all there. Assumes nothing.
use Rattle.std.proofs.Common.{Some, ap, ◌∙◌}
use Rattle.kvmi.specs.Record.{VC, MS, PA}
use Rattle.image_form.proofs.Forms.{mark-room}
use Rattle.image_reader.proofs.load_record.Goals as goal

pub load_vc-requires : goal.load_vc-requires
load_vc-requires c = mark-room c.args.l.now c.args.at VC (c.requires ∙ ap Some c.in-Vc.is)

pub load_ms-requires : goal.load_ms-requires
load_ms-requires c = mark-room c.args.l.now c.args.at MS (c.requires ∙ ap Some c.in-Ms.is)

pub load_pa-requires : goal.load_pa-requires
load_pa-requires c = mark-room c.args.l.now c.args.at PA (c.requires ∙ ap Some c.in-Pa.is)
