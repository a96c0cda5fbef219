-- At this message's number the definitions leave its own causes and change, on what the callees say. Assumes nothing.
use mathlib.Core.Path.{◌∙◌}
use Rattle.kvmi.specs.Message.{names_vcpu, switches_at, gpa_of, size_of, first_padding, padding_runs, first_of_runs}
use Rattle.kvmi.specs.Verdict.{invalid_by, is_unready, is_denied, is_unsupported, is_busy, is_absent, loses_errors, change_of, command_verdict_by, command_verdict}
use Rattle.causes.specs.Causes.{decided}
use Rattle.vm_commands.proofs.write_physical.Goals as goal

pub returns : goal.returns
unfolding command_verdict command_verdict_by invalid_by is_unready is_denied is_unsupported is_busy is_absent loses_errors change_of decided names_vcpu switches_at gpa_of size_of first_padding padding_runs first_of_runs
returns c =
    c.decide.ensures ∙ rw (c.physical-c.ensures, ← c.load-gpa.ensures, ← c.load.ensures)
