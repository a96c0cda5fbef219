-- In each arm the handler is known, and with it the message's number and the size of its data. Assumes nothing.
use mathlib.Core.Path.{refl, sym, ap, ◌∙◌}
use Rattle.kvmi.specs.declared.Handler.TheVariants.{GetVersion, VmCheckCommand, VmCheckEvent, VmGetInfo, VmControlEvents, VmReadPhysical, VmWritePhysical, VcpuGetInfo, VcpuPause, VcpuControlEvents, VcpuControlCr, VcpuControlMsr, VmSetPageAccess, VcpuControlSinglestep, VmControlCmdResponse, EventReply}
use Rattle.kvmi.specs.Message.{layout_of, first_padding, padding_runs}
use Rattle.kvmi.specs.Verdict.{judgement}
use Rattle.verdict.specs.Handlers.{row_judgement}
use Rattle.verdict.proofs.Rows.{asks_nothing, unpadded, judged-by, part, taken, taken-part, left, unlisted}
use Rattle.verdict.proofs.judge.Goals as goal
use Rattle.verdict.proofs.judge.Goals.{in-GetVersion+else-passes, in-VmCheckCommand+else-passes-2, in-VmCheckEvent+else-passes-3, in-VmGetInfo+else-passes-4, in-VmControlEvents+else-passes-5, in-VmReadPhysical+else-passes-6, in-VmWritePhysical+else-passes-7, in-VcpuGetInfo+else-passes-8, in-VcpuPause+else-passes-9, in-VcpuControlEvents+else-passes-10, in-VcpuControlCr+else-passes-11, in-VcpuControlMsr+else-passes-12, in-VmSetPageAccess+else-passes-13, in-VcpuControlSinglestep+else-passes-14, in-VmControlCmdResponse+else-passes-15, in-EventReply+else-passes-16}

pub returns-in_default : goal.returns-in_default
returns-in_default c = c.unreported.ensures ∙ ap (λ v. judgement v 0) c.refuse.ensures ∙ unlisted _ _ _ _ _ c.in_default.is c.layout.ensures

pub returns-then-passes : goal.returns-then-passes
unfolding row_judgement
returns-then-passes c = c.unreported-then-passes.ensures ∙ sym (asks_nothing _ _ _).0 ∙ taken _ _ _ _ c.in-Some.is c.layout.ensures c.passes.ensures _ _ refl GetVersion c.in-GetVersion.is c.if-passes.true

pub slice_bounds-of_number-end : goal.slice_bounds-of_number-end
unfolding layout_of
slice_bounds-of_number-end c = (part _ _ _ _ c.in-Some.is c.layout.ensures c.passes-in-VmCheckCommand.ensures VmCheckCommand 8 refl c.in-VmCheckCommand.is c.if-passes-2.true).0

pub slice_bounds-check_command-end : goal.slice_bounds-check_command-end
unfolding layout_of
slice_bounds-check_command-end c = (part _ _ _ _ c.in-Some.is c.layout.ensures c.passes-in-VmCheckCommand.ensures VmCheckCommand 8 refl c.in-VmCheckCommand.is c.if-passes-2.true).0

pub returns-then-passes-2 : goal.returns-then-passes-2
unfolding row_judgement layout_of
returns-then-passes-2 c = judged-by _ _ _ _ c.check_command-verdict.ensures c.of_number-padding.ensures ∙ taken-part _ _ _ _ c.in-Some.is c.layout.ensures c.passes-in-VmCheckCommand.ensures _ _ c.facts_of-facts.ensures VmCheckCommand 8 refl c.in-VmCheckCommand.is c.if-passes-2.true

pub slice_bounds-of_number-end-then-passes-3 : goal.slice_bounds-of_number-end-then-passes-3
unfolding layout_of
slice_bounds-of_number-end-then-passes-3 c = (part _ _ _ _ c.in-Some.is c.layout.ensures c.passes-in-VmCheckEvent.ensures VmCheckEvent 8 refl c.in-VmCheckEvent.is c.if-passes-3.true).0

pub slice_bounds-check_event-end : goal.slice_bounds-check_event-end
unfolding layout_of
slice_bounds-check_event-end c = (part _ _ _ _ c.in-Some.is c.layout.ensures c.passes-in-VmCheckEvent.ensures VmCheckEvent 8 refl c.in-VmCheckEvent.is c.if-passes-3.true).0

pub returns-then-passes-3 : goal.returns-then-passes-3
unfolding row_judgement layout_of first_padding padding_runs
returns-then-passes-3 c = judged-by _ _ _ _ c.check_event-verdict.ensures c.of_number-padding-then-passes-3.ensures ∙ taken-part _ _ _ _ c.in-Some.is c.layout.ensures c.passes-in-VmCheckEvent.ensures _ _ c.facts_of-facts-then-passes-3.ensures VmCheckEvent 8 refl c.in-VmCheckEvent.is c.if-passes-3.true

pub returns-then-passes-4 : goal.returns-then-passes-4
unfolding row_judgement
returns-then-passes-4 c = c.unreported-then-passes-4.ensures ∙ sym (asks_nothing _ _ _).1 ∙ taken _ _ _ _ c.in-Some.is c.layout.ensures c.passes-in-VmGetInfo.ensures _ _ refl VmGetInfo c.in-VmGetInfo.is c.if-passes-4.true

pub slice_bounds-of_switch-end : goal.slice_bounds-of_switch-end
unfolding layout_of
slice_bounds-of_switch-end c = (part _ _ _ _ c.in-Some.is c.layout.ensures c.passes-in-VmControlEvents.ensures VmControlEvents 8 refl c.in-VmControlEvents.is c.if-passes-5.true).0

pub slice_bounds-control_vm_events-end : goal.slice_bounds-control_vm_events-end
unfolding layout_of
slice_bounds-control_vm_events-end c = (part _ _ _ _ c.in-Some.is c.layout.ensures c.passes-in-VmControlEvents.ensures VmControlEvents 8 refl c.in-VmControlEvents.is c.if-passes-5.true).0

pub returns-then-passes-5 : goal.returns-then-passes-5
unfolding row_judgement layout_of
returns-then-passes-5 c = judged-by _ _ _ _ c.control_vm_events-verdict.ensures c.of_switch-padding.ensures ∙ taken-part _ _ _ _ c.in-Some.is c.layout.ensures c.passes-in-VmControlEvents.ensures _ _ c.facts_of-facts-then-passes-5.ensures VmControlEvents 8 refl c.in-VmControlEvents.is c.if-passes-5.true

pub slice_bounds-read_physical-end : goal.slice_bounds-read_physical-end
unfolding layout_of
slice_bounds-read_physical-end c = (part _ _ _ _ c.in-Some.is c.layout.ensures c.passes-in-VmReadPhysical.ensures VmReadPhysical 16 refl c.in-VmReadPhysical.is c.if-passes-6.true).0

pub returns-then-passes-6 : goal.returns-then-passes-6
unfolding row_judgement layout_of
returns-then-passes-6 c = c.unreported-then-passes-6.ensures ∙ ap (λ v. judgement v 0) c.read_physical.ensures ∙ sym (unpadded _ _ _).0 ∙ taken-part _ _ _ _ c.in-Some.is c.layout.ensures c.passes-in-VmReadPhysical.ensures _ _ c.facts_of.ensures VmReadPhysical 16 refl c.in-VmReadPhysical.is c.if-passes-6.true

pub returns-then-passes-7 : goal.returns-then-passes-7
unfolding row_judgement
returns-then-passes-7 c = c.unreported-then-passes-7.ensures ∙ ap (λ v. judgement v 0) c.write_physical.ensures ∙ sym (unpadded _ _ _).1 ∙ taken _ _ _ _ c.in-Some.is c.layout.ensures c.passes-in-VmWritePhysical.ensures _ _ c.facts_of-then-passes-7.ensures VmWritePhysical c.in-VmWritePhysical.is c.if-passes-7.true

pub slice_bounds-of_number-end-then-passes-8 : goal.slice_bounds-of_number-end-then-passes-8
unfolding layout_of
slice_bounds-of_number-end-then-passes-8 c = (part _ _ _ _ c.in-Some.is c.layout.ensures c.passes-in-VcpuGetInfo.ensures VcpuGetInfo 8 refl c.in-VcpuGetInfo.is c.if-passes-8.true).0

pub slice_bounds-get_vcpu_info-end : goal.slice_bounds-get_vcpu_info-end
unfolding layout_of
slice_bounds-get_vcpu_info-end c = (part _ _ _ _ c.in-Some.is c.layout.ensures c.passes-in-VcpuGetInfo.ensures VcpuGetInfo 8 refl c.in-VcpuGetInfo.is c.if-passes-8.true).0

pub returns-then-passes-8 : goal.returns-then-passes-8
unfolding row_judgement layout_of first_padding padding_runs
returns-then-passes-8 c = judged-by _ _ _ _ c.get_vcpu_info-verdict.ensures c.of_number-padding-then-passes-8.ensures ∙ taken-part _ _ _ _ c.in-Some.is c.layout.ensures c.passes-in-VcpuGetInfo.ensures _ _ c.facts_of-facts-then-passes-8.ensures VcpuGetInfo 8 refl c.in-VcpuGetInfo.is c.if-passes-8.true

pub slice_bounds-pause-end : goal.slice_bounds-pause-end
unfolding layout_of
slice_bounds-pause-end c = (part _ _ _ _ c.in-Some.is c.layout.ensures c.passes-in-VcpuPause.ensures VcpuPause 16 refl c.in-VcpuPause.is c.if-passes-9.true).0

pub returns-then-passes-9 : goal.returns-then-passes-9
unfolding row_judgement layout_of
returns-then-passes-9 c = c.pause.ensures ∙ taken-part _ _ _ _ c.in-Some.is c.layout.ensures c.passes-in-VcpuPause.ensures _ _ c.facts_of-then-passes-9.ensures VcpuPause 16 refl c.in-VcpuPause.is c.if-passes-9.true

pub slice_bounds-of_vcpu_event-end : goal.slice_bounds-of_vcpu_event-end
unfolding layout_of
slice_bounds-of_vcpu_event-end c = (part _ _ _ _ c.in-Some.is c.layout.ensures c.passes-in-VcpuControlEvents.ensures VcpuControlEvents 16 refl c.in-VcpuControlEvents.is c.if-passes-10.true).0

pub slice_bounds-control_vcpu_events-end : goal.slice_bounds-control_vcpu_events-end
unfolding layout_of
slice_bounds-control_vcpu_events-end c = (part _ _ _ _ c.in-Some.is c.layout.ensures c.passes-in-VcpuControlEvents.ensures VcpuControlEvents 16 refl c.in-VcpuControlEvents.is c.if-passes-10.true).0

pub returns-then-passes-10 : goal.returns-then-passes-10
unfolding row_judgement layout_of
returns-then-passes-10 c = judged-by _ _ _ _ c.control_vcpu_events-verdict.ensures c.of_vcpu_event-padding.ensures ∙ taken-part _ _ _ _ c.in-Some.is c.layout.ensures c.passes-in-VcpuControlEvents.ensures _ _ c.facts_of-facts-then-passes-10.ensures VcpuControlEvents 16 refl c.in-VcpuControlEvents.is c.if-passes-10.true

pub slice_bounds-of_register-end : goal.slice_bounds-of_register-end
unfolding layout_of
slice_bounds-of_register-end c = (part _ _ _ _ c.in-Some.is c.layout.ensures c.passes-in-VcpuControlCr.ensures VcpuControlCr 16 refl c.in-VcpuControlCr.is c.if-passes-11.true).0

pub slice_bounds-control_cr-end : goal.slice_bounds-control_cr-end
unfolding layout_of
slice_bounds-control_cr-end c = (part _ _ _ _ c.in-Some.is c.layout.ensures c.passes-in-VcpuControlCr.ensures VcpuControlCr 16 refl c.in-VcpuControlCr.is c.if-passes-11.true).0

pub returns-then-passes-11 : goal.returns-then-passes-11
unfolding row_judgement layout_of
returns-then-passes-11 c = judged-by _ _ _ _ c.control_cr-verdict.ensures c.of_register-padding.ensures ∙ taken-part _ _ _ _ c.in-Some.is c.layout.ensures c.passes-in-VcpuControlCr.ensures _ _ c.facts_of-facts-then-passes-11.ensures VcpuControlCr 16 refl c.in-VcpuControlCr.is c.if-passes-11.true

pub slice_bounds-of_register-end-then-passes-12 : goal.slice_bounds-of_register-end-then-passes-12
unfolding layout_of
slice_bounds-of_register-end-then-passes-12 c = (part _ _ _ _ c.in-Some.is c.layout.ensures c.passes-in-VcpuControlMsr.ensures VcpuControlMsr 16 refl c.in-VcpuControlMsr.is c.if-passes-12.true).0

pub slice_bounds-control_msr-end : goal.slice_bounds-control_msr-end
unfolding layout_of
slice_bounds-control_msr-end c = (part _ _ _ _ c.in-Some.is c.layout.ensures c.passes-in-VcpuControlMsr.ensures VcpuControlMsr 16 refl c.in-VcpuControlMsr.is c.if-passes-12.true).0

pub returns-then-passes-12 : goal.returns-then-passes-12
unfolding row_judgement layout_of first_padding padding_runs
returns-then-passes-12 c = judged-by _ _ _ _ c.control_msr-verdict.ensures c.of_register-padding-then-passes-12.ensures ∙ taken-part _ _ _ _ c.in-Some.is c.layout.ensures c.passes-in-VcpuControlMsr.ensures _ _ c.facts_of-facts-then-passes-12.ensures VcpuControlMsr 16 refl c.in-VcpuControlMsr.is c.if-passes-12.true

pub returns-then-passes-13 : goal.returns-then-passes-13
unfolding row_judgement
returns-then-passes-13 c = judged-by _ _ _ _ c.set_page_access-verdict.ensures c.of_pages-padding.ensures ∙ taken _ _ _ _ c.in-Some.is c.layout.ensures c.passes-in-VmSetPageAccess.ensures _ _ c.facts_of-facts-then-passes-13.ensures VmSetPageAccess c.in-VmSetPageAccess.is c.if-passes-13.true

pub slice_bounds-of_vcpu_switch-end : goal.slice_bounds-of_vcpu_switch-end
unfolding layout_of
slice_bounds-of_vcpu_switch-end c = (part _ _ _ _ c.in-Some.is c.layout.ensures c.passes-in-VcpuControlSinglestep.ensures VcpuControlSinglestep 16 refl c.in-VcpuControlSinglestep.is c.if-passes-14.true).0

pub slice_bounds-control_singlestep-end : goal.slice_bounds-control_singlestep-end
unfolding layout_of
slice_bounds-control_singlestep-end c = (part _ _ _ _ c.in-Some.is c.layout.ensures c.passes-in-VcpuControlSinglestep.ensures VcpuControlSinglestep 16 refl c.in-VcpuControlSinglestep.is c.if-passes-14.true).0

pub returns-then-passes-14 : goal.returns-then-passes-14
unfolding row_judgement layout_of first_padding padding_runs
returns-then-passes-14 c = judged-by _ _ _ _ c.control_singlestep-verdict.ensures c.of_vcpu_switch-padding.ensures ∙ taken-part _ _ _ _ c.in-Some.is c.layout.ensures c.passes-in-VcpuControlSinglestep.ensures _ _ c.facts_of-facts-then-passes-14.ensures VcpuControlSinglestep 16 refl c.in-VcpuControlSinglestep.is c.if-passes-14.true

pub slice_bounds-of_switch-end-then-passes-15 : goal.slice_bounds-of_switch-end-then-passes-15
unfolding layout_of
slice_bounds-of_switch-end-then-passes-15 c = (part _ _ _ _ c.in-Some.is c.layout.ensures c.passes-in-VmControlCmdResponse.ensures VmControlCmdResponse 8 refl c.in-VmControlCmdResponse.is c.if-passes-15.true).0

pub slice_bounds-control_replies-end : goal.slice_bounds-control_replies-end
unfolding layout_of
slice_bounds-control_replies-end c = (part _ _ _ _ c.in-Some.is c.layout.ensures c.passes-in-VmControlCmdResponse.ensures VmControlCmdResponse 8 refl c.in-VmControlCmdResponse.is c.if-passes-15.true).0

pub returns-then-passes-15 : goal.returns-then-passes-15
unfolding row_judgement layout_of first_padding padding_runs
returns-then-passes-15 c = judged-by _ _ _ _ c.control_replies-verdict.ensures c.of_switch-padding-then-passes-15.ensures ∙ taken-part _ _ _ _ c.in-Some.is c.layout.ensures c.passes-in-VmControlCmdResponse.ensures _ _ c.facts_of-facts-then-passes-15.ensures VmControlCmdResponse 8 refl c.in-VmControlCmdResponse.is c.if-passes-15.true

pub returns-then-passes-16 : goal.returns-then-passes-16
unfolding row_judgement
returns-then-passes-16 c = c.unreported-then-passes-16.ensures ∙ ap (λ v. judgement v 0) c.judge_reply.ensures ∙ taken _ _ _ _ c.in-Some.is c.layout.ensures c.passes-in-EventReply.ensures _ _ c.facts_of-then-passes-16.ensures EventReply c.in-EventReply.is c.if-passes-16.true

pub returns : goal.returns
returns c =
    c.unreported-2.ensures
    ∙ ap (λ v. judgement v 0) c.refused.ensures
    ∙ elim c.match-row.branch [
      | in-GetVersion+else-passes w ↦ left _ _ _ _ c.in-Some.is c.layout.ensures w.passes.ensures _ _ w.if-passes.false
      | in-VmCheckCommand+else-passes-2 w ↦ left _ _ _ _ c.in-Some.is c.layout.ensures w.passes-in-VmCheckCommand.ensures _ _ w.if-passes-2.false
      | in-VmCheckEvent+else-passes-3 w ↦ left _ _ _ _ c.in-Some.is c.layout.ensures w.passes-in-VmCheckEvent.ensures _ _ w.if-passes-3.false
      | in-VmGetInfo+else-passes-4 w ↦ left _ _ _ _ c.in-Some.is c.layout.ensures w.passes-in-VmGetInfo.ensures _ _ w.if-passes-4.false
      | in-VmControlEvents+else-passes-5 w ↦ left _ _ _ _ c.in-Some.is c.layout.ensures w.passes-in-VmControlEvents.ensures _ _ w.if-passes-5.false
      | in-VmReadPhysical+else-passes-6 w ↦ left _ _ _ _ c.in-Some.is c.layout.ensures w.passes-in-VmReadPhysical.ensures _ _ w.if-passes-6.false
      | in-VmWritePhysical+else-passes-7 w ↦ left _ _ _ _ c.in-Some.is c.layout.ensures w.passes-in-VmWritePhysical.ensures _ _ w.if-passes-7.false
      | in-VcpuGetInfo+else-passes-8 w ↦ left _ _ _ _ c.in-Some.is c.layout.ensures w.passes-in-VcpuGetInfo.ensures _ _ w.if-passes-8.false
      | in-VcpuPause+else-passes-9 w ↦ left _ _ _ _ c.in-Some.is c.layout.ensures w.passes-in-VcpuPause.ensures _ _ w.if-passes-9.false
      | in-VcpuControlEvents+else-passes-10 w ↦ left _ _ _ _ c.in-Some.is c.layout.ensures w.passes-in-VcpuControlEvents.ensures _ _ w.if-passes-10.false
      | in-VcpuControlCr+else-passes-11 w ↦ left _ _ _ _ c.in-Some.is c.layout.ensures w.passes-in-VcpuControlCr.ensures _ _ w.if-passes-11.false
      | in-VcpuControlMsr+else-passes-12 w ↦ left _ _ _ _ c.in-Some.is c.layout.ensures w.passes-in-VcpuControlMsr.ensures _ _ w.if-passes-12.false
      | in-VmSetPageAccess+else-passes-13 w ↦ left _ _ _ _ c.in-Some.is c.layout.ensures w.passes-in-VmSetPageAccess.ensures _ _ w.if-passes-13.false
      | in-VcpuControlSinglestep+else-passes-14 w ↦ left _ _ _ _ c.in-Some.is c.layout.ensures w.passes-in-VcpuControlSinglestep.ensures _ _ w.if-passes-14.false
      | in-VmControlCmdResponse+else-passes-15 w ↦ left _ _ _ _ c.in-Some.is c.layout.ensures w.passes-in-VmControlCmdResponse.ensures _ _ w.if-passes-15.false
      | in-EventReply+else-passes-16 w ↦ left _ _ _ _ c.in-Some.is c.layout.ensures w.passes-in-EventReply.ensures _ _ w.if-passes-16.false
    ]
