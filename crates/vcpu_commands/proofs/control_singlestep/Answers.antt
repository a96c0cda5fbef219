-- At this message's number the definitions leave its own causes and change, on what the callees say. Assumes nothing.
use mathlib.Core.Path.{◌∙◌}
use mathlib.Core.Bool.{or-false, and-true}
use Rattle.kvmi.specs.Message.{names_vcpu, switches_at, vcpu_of, enables, enable_at, first_padding, padding_runs}
use Rattle.kvmi.specs.Settings.{can_singlestep}
use Rattle.kvmi.specs.Verdict.{invalid_by, is_unready, is_denied, is_unsupported, is_busy, is_absent, loses_errors, change_of, command_verdict_by}
use Rattle.causes.specs.Causes.{decided}
use Rattle.vcpu_commands.proofs.control_singlestep.Goals as goal

pub returns : goal.returns
unfolding command_verdict_by invalid_by is_unready is_denied is_unsupported is_busy is_absent loses_errors change_of decided names_vcpu switches_at vcpu_of enables enable_at first_padding padding_runs can_singlestep
returns c =
    c.decide.ensures ∙ rw (c.new.ensures, ← c.byte-enable.ensures, ← c.load-vcpu.ensures, and-true, ← c.is_malformed-malformed.ensures, ← c.is_set.ensures) (simp or-false)
