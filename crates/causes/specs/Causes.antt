-- Test 6 on causes that are given: the first that applies counts.
use Rattle.std.specs.Prelude.{Bool, false, cond}
use Rattle.kvmi.specs.declared.Change.{Change}
use Rattle.kvmi.specs.declared.Verdict.{Verdict}
use Rattle.kvmi.specs.declared.Verdict.TheVariants.{Closes, Fails, Does}
use Rattle.kvmi.specs.Codes.{EPERM, ENOENT, EAGAIN, EBUSY, EINVAL, EOPNOTSUPP}
use Rattle.causes.specs.declared.Causes.{Causes}

-- of a command that can be invalid or name a vCPU that is not ready, and no more
abbrev pub first_causes : Bool → Bool → Causes
first_causes invalid unready =
    record { invalid = invalid; unready = unready; denied = false; unsupported = false; busy = false; absent = false; closing = false }

-- "errors, the first that applies"
unfoldable pub decided : Causes → Change → Verdict
decided c change =
    cond c.invalid (Fails EINVAL)
    (cond c.unready (Fails EAGAIN)
    (cond c.denied (Fails EPERM)
    (cond c.unsupported (Fails EOPNOTSUPP)
    (cond c.busy (Fails EBUSY)
    (cond c.absent (Fails ENOENT)
    (cond c.closing Closes (Does change)))))))

-- of a command whose vCPU is not ready: EINVAL counts before EAGAIN
abbrev pub refused_unready : Bool → Verdict
refused_unready invalid = cond invalid (Fails EINVAL) (Fails EAGAIN)
