-- What stands before the state block of an event.
use Rattle.std.specs.Prelude.{ℕ, List, ◌++◌, replicate}
use Rattle.wire.specs.Bytes.{le}

-- the header, whose size is given, common size, vCPU and event
unfoldable pub event_front : ℕ → ℕ → ℕ → ℕ → List ℕ
event_front size seq vcpu event = le 2 17 ++ le 2 size ++ le 4 seq ++ le 2 544 ++ le 2 vcpu ++ le 1 event ++ replicate 3 0
