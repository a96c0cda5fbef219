-- At this message's number the definitions leave its own causes and change, on what the callees say; each cause by itself. Assumes nothing.
use mathlib.Core.Path.{◌∙◌}
use mathlib.Core.Bool.{or-false, and-true}
use Rattle.kvmi.specs.Message.{names_vcpu, switches_at, vcpu_of, register_of, enables, enable_at}
use Rattle.kvmi.specs.Verdict.{invalid_by, is_unready, is_denied, is_unsupported, is_busy, is_absent, loses_errors, change_of, command_verdict_by}
use Rattle.vcpu_commands.proofs.control_cr.Goals as goal

pub returns-then-not-facts : goal.returns-then-not-facts
unfolding command_verdict_by invalid_by is_unready is_denied is_unsupported is_busy is_absent loses_errors change_of names_vcpu switches_at vcpu_of enables enable_at register_of
returns-then-not-facts c = c.unready.ensures ∙ rw (← c.load-vcpu.ensures, ← c.byte-enable.ensures, ← c.load-cr.ensures, and-true, ← c.is_malformed-malformed.ensures, ← c.is_cr.ensures) (simp (or-false, c.if-not-facts.true))

pub returns-then-invalid : goal.returns-then-invalid
unfolding command_verdict_by invalid_by is_unready is_denied is_unsupported is_busy is_absent loses_errors change_of names_vcpu switches_at vcpu_of enables enable_at register_of
returns-then-invalid c = rw (← c.load-vcpu.ensures, ← c.byte-enable.ensures, ← c.load-cr.ensures, and-true, ← c.is_malformed-malformed.ensures, ← c.is_cr.ensures) (simp (or-false, c.if-invalid.true))

pub returns : goal.returns
unfolding command_verdict_by invalid_by is_unready is_denied is_unsupported is_busy is_absent loses_errors change_of names_vcpu switches_at vcpu_of enables enable_at register_of
returns c = rw (← c.load-vcpu.ensures, ← c.byte-enable.ensures, ← c.load-cr.ensures, and-true, ← c.is_malformed-malformed.ensures, ← c.is_cr.ensures) (simp (or-false, c.if-invalid.false, c.if-not-facts.false))
