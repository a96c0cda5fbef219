-- The test in front of VCPU_PAUSE's own. Assumes nothing.
use Rattle.kvmi.specs.Settings.{allows_event}
use Rattle.kvmi.specs.Verdict.{command_verdict, command_judgement}
use Rattle.vcpu_commands.proofs.pause.Goals as goal

pub returns-then-allows_event : goal.returns-then-allows_event
unfolding allows_event command_judgement command_verdict
returns-then-allows_event c =
    let verdict = c.pause_vcpu-verdict.ensures in
    let padding = c.of_vcpu_switch-padding.ensures in
    rw (← c.allows_event.ensures, c.if-allows_event.true, verdict, padding)

pub returns : goal.returns
unfolding allows_event
returns c = rw (← c.allows_event.ensures, c.if-allows_event.false)
