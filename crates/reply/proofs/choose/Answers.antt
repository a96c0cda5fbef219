-- Where the code is no error the handler's place tells the message's number. Assumes nothing.
use mathlib.Core.Path.{refl, sym, ◌∙◌}
use native.Mathlib.Omega.{arith}
use Rattle.kvmi.specs.Reply.{reply_data}
use Rattle.reply.proofs.Laws.{tested}
use Rattle.reply.proofs.Data.{chosen, chosen_none, chosen_of_none, chosen-error}
use Rattle.reply.specs.Contents.{contents_bytes, contents_end}
use Rattle.reply.proofs.choose.Goals as goal

pub returns-then-is_error : goal.returns-then-is_error
returns-then-is_error c = chosen-error _ _ _ _ (tested c.ranges.code c.is_error.ensures c.if-is_error.true)

pub returns-in-GetVersion : goal.returns-in-GetVersion
unfolding contents_bytes contents_end reply_data
returns-in-GetVersion c = chosen _ _ _ _ (tested c.ranges.code c.is_error.ensures c.if-is_error.false) (sym c.in-Some.is ∙ c.layout.ensures) _ _ c.in-GetVersion.is (λ s. refl) (omega arith)

pub returns-in-VmGetInfo : goal.returns-in-VmGetInfo
unfolding contents_bytes contents_end reply_data
returns-in-VmGetInfo c = chosen _ _ _ _ (tested c.ranges.code c.is_error.ensures c.if-is_error.false) (sym c.in-Some.is ∙ c.layout.ensures) _ _ c.in-VmGetInfo.is (λ s. refl) (omega arith)

pub returns-in-VmReadPhysical : goal.returns-in-VmReadPhysical
unfolding reply_data
returns-in-VmReadPhysical c = chosen _ _ _ _ (tested c.ranges.code c.is_error.ensures c.if-is_error.false) (sym c.in-Some.is ∙ c.layout.ensures) _ _ c.in-VmReadPhysical.is c.memory.ensures.bytes c.memory.ensures.inside

pub returns-in-VcpuGetInfo : goal.returns-in-VcpuGetInfo
unfolding contents_bytes contents_end reply_data
returns-in-VcpuGetInfo c = chosen _ _ _ _ (tested c.ranges.code c.is_error.ensures c.if-is_error.false) (sym c.in-Some.is ∙ c.layout.ensures) _ _ c.in-VcpuGetInfo.is (λ s. refl) (omega arith)

pub returns-in_default : goal.returns-in_default
returns-in_default c = chosen_of_none _ _ _ _ (tested c.ranges.code c.is_error.ensures c.if-is_error.false) (sym c.in_default.is ∙ c.layout.ensures)

pub returns-in_default-handler : goal.returns-in_default-handler
returns-in_default-handler c = chosen_none _ _ _ _ (tested c.ranges.code c.is_error.ensures c.if-is_error.false) (sym c.in-Some.is ∙ c.layout.ensures) c.in_default-handler.not-GetVersion c.in_default-handler.not-VmGetInfo c.in_default-handler.not-VmReadPhysical c.in_default-handler.not-VcpuGetInfo
