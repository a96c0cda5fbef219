-- At this message's number the definitions leave its own causes and change, on what the callees say. Assumes nothing.
use mathlib.Core.Path.{◌∙◌}
use mathlib.Core.Bool.{or-false}
use Rattle.kvmi.specs.Message.{names_vcpu, switches_at}
use Rattle.kvmi.specs.Settings.{allows_command}
use Rattle.kvmi.specs.Verdict.{invalid_by, is_unready, is_denied, is_unsupported, is_busy, is_absent, loses_errors, change_of, command_verdict_by}
use Rattle.causes.specs.Causes.{decided}
use Rattle.vm_commands.proofs.check_command.Goals as goal

pub returns : goal.returns
unfolding command_verdict_by invalid_by is_unready is_denied is_unsupported is_busy is_absent loses_errors change_of decided names_vcpu switches_at allows_command
returns c =
    c.decide.ensures ∙ rw (c.new.ensures, ← c.load-id.ensures, ← c.allows_command.ensures, ← c.is_command.ensures) (simp or-false)
