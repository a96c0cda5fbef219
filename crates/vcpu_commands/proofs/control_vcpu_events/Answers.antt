-- At this message's number the definitions leave its own causes and change, on what the callees say; each cause by itself. Assumes nothing.
use mathlib.Core.Path.{◌∙◌}
use mathlib.Core.Bool.{or-false, and-true}
use Rattle.kvmi.specs.Message.{names_vcpu, switches_at, vcpu_of, event_of, takes_event, enables, enable_at}
use Rattle.kvmi.specs.Settings.{allows_event, uncatchable, held_by_host}
use Rattle.kvmi.specs.Verdict.{invalid_by, is_unready, is_denied, is_unsupported, is_busy, is_absent, loses_errors, change_of, command_verdict_by}
use Rattle.vcpu_commands.proofs.control_vcpu_events.Goals as goal

pub returns-then-not-facts : goal.returns-then-not-facts
unfolding command_verdict_by invalid_by is_unready is_denied is_unsupported is_busy is_absent loses_errors change_of names_vcpu switches_at vcpu_of enables enable_at event_of takes_event allows_event uncatchable held_by_host
returns-then-not-facts c = c.unready.ensures ∙ rw (← c.load-vcpu.ensures, ← c.load-event.ensures, ← c.byte-enable.ensures, and-true, ← c.is_malformed-malformed.ensures, ← c.is_vcpu_event.ensures) (simp (or-false, c.if-not-facts.true))

pub returns-then-invalid : goal.returns-then-invalid
unfolding command_verdict_by invalid_by is_unready is_denied is_unsupported is_busy is_absent loses_errors change_of names_vcpu switches_at vcpu_of enables enable_at event_of takes_event allows_event uncatchable held_by_host
returns-then-invalid c = rw (← c.load-vcpu.ensures, ← c.load-event.ensures, ← c.byte-enable.ensures, and-true, ← c.is_malformed-malformed.ensures, ← c.is_vcpu_event.ensures) (simp (or-false, c.if-invalid.true))

pub returns-then-not-allows_event : goal.returns-then-not-allows_event
unfolding command_verdict_by invalid_by is_unready is_denied is_unsupported is_busy is_absent loses_errors change_of names_vcpu switches_at vcpu_of enables enable_at event_of takes_event allows_event uncatchable held_by_host
returns-then-not-allows_event c = rw (← c.load-vcpu.ensures, ← c.load-event.ensures, ← c.byte-enable.ensures, and-true, ← c.is_malformed-malformed.ensures, ← c.is_vcpu_event.ensures, ← c.allows_event.ensures) (simp (or-false, c.if-invalid.false, c.if-not-facts.false, c.if-not-allows_event.true))

pub returns-then-on-event : goal.returns-then-on-event
unfolding command_verdict_by invalid_by is_unready is_denied is_unsupported is_busy is_absent loses_errors change_of names_vcpu switches_at vcpu_of enables enable_at event_of takes_event allows_event uncatchable held_by_host
returns-then-on-event c = rw (← c.load-vcpu.ensures, ← c.load-event.ensures, ← c.byte-enable.ensures, and-true, ← c.is_malformed-malformed.ensures, ← c.is_vcpu_event.ensures, ← c.allows_event.ensures, ← c.is_set.ensures) (simp (or-false, c.if-invalid.false, c.if-not-facts.false, c.if-not-allows_event.false, c.if-on-event.true))

pub returns-then-on-event-2 : goal.returns-then-on-event-2
unfolding command_verdict_by invalid_by is_unready is_denied is_unsupported is_busy is_absent loses_errors change_of names_vcpu switches_at vcpu_of enables enable_at event_of takes_event allows_event uncatchable held_by_host
returns-then-on-event-2 c = rw (← c.load-vcpu.ensures, ← c.load-event.ensures, ← c.byte-enable.ensures, and-true, ← c.is_malformed-malformed.ensures, ← c.is_vcpu_event.ensures, ← c.allows_event.ensures, ← c.is_set.ensures, ← c.is_set-2.ensures) (simp (c.if-invalid.false, c.if-not-facts.false, c.if-not-allows_event.false, c.if-on-event.false, c.if-on-event-2.true))

pub returns : goal.returns
unfolding command_verdict_by invalid_by is_unready is_denied is_unsupported is_busy is_absent loses_errors change_of names_vcpu switches_at vcpu_of enables enable_at event_of takes_event allows_event uncatchable held_by_host
returns c = rw (← c.load-vcpu.ensures, ← c.load-event.ensures, ← c.byte-enable.ensures, and-true, ← c.is_malformed-malformed.ensures, ← c.is_vcpu_event.ensures, ← c.allows_event.ensures, ← c.is_set.ensures, ← c.is_set-2.ensures) (simp (c.if-invalid.false, c.if-not-facts.false, c.if-not-allows_event.false, c.if-on-event.false, c.if-on-event-2.false))
