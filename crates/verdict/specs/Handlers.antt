-- The parts of `verdict` as `judge` takes them: the message of a row's handler, tests 2 to 4 by the table's row, what is refused there, the facts, and the tests
-- after these.
use Rattle.std.specs.Prelude.{ℕ, List, Bool, cond, not, ◌&&◌, eqb}
use Rattle.kvmi.specs.declared.Settings.{Settings}
use Rattle.kvmi.specs.declared.Facts.{Facts}
use Rattle.kvmi.specs.declared.Handler.{Handler}
use Rattle.kvmi.specs.declared.Handler.TheVariants.{GetVersion, VmCheckCommand, VmCheckEvent, VmGetInfo, VmControlEvents, VmReadPhysical, VmWritePhysical, VcpuGetInfo, VcpuPause, VcpuControlEvents, VcpuControlCr, VcpuControlMsr, VmSetPageAccess, VcpuControlSinglestep, VmControlCmdResponse, EventReply}
use Rattle.kvmi.specs.declared.Layout.{Layout}
use Rattle.kvmi.specs.declared.Verdict.{Verdict}
use Rattle.kvmi.specs.declared.Judgement.{Judgement}
use Rattle.kvmi.specs.declared.Verdict.TheVariants.{Closes}
use Rattle.kvmi.specs.Bits.{is_on}
use Rattle.kvmi.specs.Codes.{EPERM}
use Rattle.kvmi.specs.Settings.{allows_command, allows_event}
use Rattle.kvmi.specs.Message.{size_fits, carries_data, vcpu_of}
use Rattle.kvmi.specs.Verdict.{replies_on, refuse, judgement, command_judgement, event_reply_verdict}
use Rattle.store.specs.Words.{pending}
use Rattle.verdict.specs.declared.Asked.{Asked}

-- the message of a handler
abbrev pub id_of : Handler → ℕ
id_of GetVersion = 1
id_of VmCheckCommand = 2
id_of VmCheckEvent = 3
id_of VmGetInfo = 4
id_of VmControlEvents = 5
id_of VmReadPhysical = 6
id_of VmWritePhysical = 7
id_of VcpuGetInfo = 8
id_of VcpuPause = 9
id_of VcpuControlEvents = 10
id_of VcpuControlCr = 11
id_of VcpuControlMsr = 12
id_of VmSetPageAccess = 13
id_of VcpuControlSinglestep = 14
id_of VmControlCmdResponse = 15
id_of EventReply = 16

-- what `verdict` tests once the data's size is the table's, and which padding byte is reported
unfoldable pub row_judgement : Settings → Facts → ℕ → ℕ → List ℕ → Judgement
row_judgement s f id seq d =
    cond (eqb id 16) (judgement (event_reply_verdict f seq d) 0)
    (cond (eqb id 9 && not (allows_event s 2)) (judgement Closes 0)
    (command_judgement s f id d))

-- what the tests ask, for the vCPU that a message names
abbrev pub facts_for : Asked → List ℕ → List ℕ → Facts
facts_for a vcpus d =
    record {
      mode = a.mode;
      guest = a.guest;
      ready = is_on a.ready (vcpu_of d);
      pending = pending vcpus (vcpu_of d);
    }

-- tests 2 to 4 of a message that has a row, by it
unfoldable pub passes_row : Asked → Layout → ℕ → List ℕ → Bool
passes_row a row id d = allows_command a.settings id && (not (not (replies_on a.mode) && carries_data row.reply) && size_fits row.size d)

-- what it gets if it does not pass them
unfoldable pub refusal : Asked → ℕ → Verdict
refusal a id = cond (not (allows_command a.settings id)) (refuse a.mode EPERM) Closes
