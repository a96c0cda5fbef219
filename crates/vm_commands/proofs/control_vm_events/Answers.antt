-- At this message's number the definitions leave its own causes and change, on what the callees say. Assumes nothing.
use mathlib.Core.Path.{◌∙◌}
use mathlib.Core.Bool.{or-false, and-true}
use Rattle.kvmi.specs.Message.{names_vcpu, switches_at, event_of, takes_event, enables, enable_at}
use Rattle.kvmi.specs.Settings.{allows_event}
use Rattle.kvmi.specs.Verdict.{invalid_by, is_unready, is_denied, is_unsupported, is_busy, is_absent, loses_errors, change_of, command_verdict_by}
use Rattle.causes.specs.Causes.{decided}
use Rattle.vm_commands.proofs.control_vm_events.Goals as goal

pub returns : goal.returns
unfolding command_verdict_by invalid_by is_unready is_denied is_unsupported is_busy is_absent loses_errors change_of decided names_vcpu switches_at event_of takes_event enables enable_at allows_event
returns c =
    c.decide.ensures ∙ rw (c.new.ensures, ← c.load-event.ensures, ← c.byte-enable.ensures, ← c.is_switch.ensures, ← c.is_vm_event.ensures, ← c.allows_event.ensures) (simp (or-false, and-true))
