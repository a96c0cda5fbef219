-- Document 01's fixed numbers, and W1's.
use Rattle.std.specs.Prelude.{ℕ}

-- "1,024 pages (all views together)"
abbrev pub page_limit : ℕ
page_limit = 1024

-- "queued pauses (0..8)"
abbrev pub pause_limit : ℕ
pause_limit = 8

-- "output below 4,112 (message)"
abbrev pub least_out : ℕ
least_out = 4112

-- W1: "entry output below 576 is answer 3": the bytes of a CR or an MSR event
abbrev pub event_out : ℕ
event_out = 576

-- "536 copied state bytes"
abbrev pub state_bytes : ℕ
state_bytes = 536
