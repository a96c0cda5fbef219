-- At this message's number the definitions leave its own causes and change, on what the callees say; each cause by itself. Assumes nothing.
use mathlib.Core.Path.{◌∙◌}
use mathlib.Core.Bool.{or-false, and-true}
use Rattle.kvmi.specs.Message.{names_vcpu, switches_at, vcpu_of, enables, enable_at}
use Rattle.kvmi.specs.Verdict.{invalid_by, is_unready, is_denied, is_unsupported, is_busy, is_absent, loses_errors, change_of, command_verdict_by}
use Rattle.vcpu_commands.proofs.pause_vcpu.Goals as goal

pub returns-then-not-facts : goal.returns-then-not-facts
unfolding command_verdict_by invalid_by is_unready is_denied is_unsupported is_busy is_absent loses_errors change_of names_vcpu switches_at vcpu_of enables enable_at
returns-then-not-facts c = c.unready.ensures ∙ rw (← c.byte-wait.ensures, ← c.load-vcpu.ensures, and-true, ← c.is_malformed-malformed.ensures) (simp (or-false, c.if-not-facts.true))

pub returns-then-malformed : goal.returns-then-malformed
unfolding command_verdict_by invalid_by is_unready is_denied is_unsupported is_busy is_absent loses_errors change_of names_vcpu switches_at vcpu_of enables enable_at
returns-then-malformed c = rw (← c.byte-wait.ensures, ← c.load-vcpu.ensures, and-true, ← c.is_malformed-malformed.ensures) (simp c.if-malformed.true)

pub returns-then-is_full : goal.returns-then-is_full
unfolding command_verdict_by invalid_by is_unready is_denied is_unsupported is_busy is_absent loses_errors change_of names_vcpu switches_at vcpu_of enables enable_at
returns-then-is_full c = rw (← c.byte-wait.ensures, ← c.load-vcpu.ensures, and-true, ← c.is_malformed-malformed.ensures, ← c.is_full.ensures) (simp (c.if-malformed.false, c.if-not-facts.false, c.if-is_full.true))

pub returns : goal.returns
unfolding command_verdict_by invalid_by is_unready is_denied is_unsupported is_busy is_absent loses_errors change_of names_vcpu switches_at vcpu_of enables enable_at
returns c = rw (← c.byte-wait.ensures, ← c.load-vcpu.ensures, and-true, ← c.is_malformed-malformed.ensures, ← c.is_full.ensures) (simp (c.if-malformed.false, c.if-not-facts.false, c.if-is_full.false))
