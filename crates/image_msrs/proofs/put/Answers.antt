-- Where there is room, all of them are written, and else nothing. Assumes nothing.
use Prim.Native.Nat.{◌*◌}
use native.Mathlib.Omega.{arith}
use Rattle.image_msrs.proofs.Switches.{from-bound, counted, stored, no_room}
use Rattle.image_msrs.proofs.put.Goals as goal

pub overflow_mul-on : goal.overflow_mul-on
overflow_mul-on c =
    let b = from-bound c.args.words.now 0 (c.min-held.result * 16384) in
    record { fits = omega arith }

pub returns-then-on-out : goal.returns-then-on-out
returns-then-on-out c =
    let held = c.min-held.ensures in
    record { value = counted _ _ held c.find_all-on.ensures.0; out_after = stored _ _ _ _ held c.put_switches.ensures }

pub returns-else-at-out : goal.returns-else-at-out
returns-else-at-out c =
    let on = counted _ _ c.min-held.ensures c.find_all-on.ensures.0 in
    record { value = on; out_after = no_room _ _ _ _ on (omega arith) }
