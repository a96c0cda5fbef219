-- At this message's number the definitions leave its own causes and change, on what the callees say. Assumes nothing.
use mathlib.Core.Path.{◌∙◌}
use mathlib.Core.Bool.{or-false}
use Rattle.kvmi.specs.Message.{names_vcpu, switches_at, view_of, count_of}
use Rattle.kvmi.specs.Verdict.{invalid_by, is_unready, is_denied, is_unsupported, is_busy, is_absent, loses_errors, change_of, command_verdict_by}
use Rattle.causes.specs.Causes.{decided}
use Rattle.vm_commands.proofs.set_page_access.Goals as goal

pub returns : goal.returns
unfolding command_verdict_by invalid_by is_unready is_denied is_unsupported is_busy is_absent loses_errors change_of decided names_vcpu switches_at view_of count_of
returns c =
    c.decide.ensures ∙ rw (c.new-c.ensures, ← c.entries_fit.ensures, ← c.load-count.ensures, ← c.load-view.ensures) (simp or-false)
