-- Which MSRs can be switched, and where each switch stands. Document 02: "work a switch's place out by one formula over the two ranges".
use Rattle.std.specs.Prelude.{ℕ, ◌+◌, ◌-◌, ◌*◌, ◌/◌, ◌%◌, Bool, cond, ◌&&◌, ltb, Option, Some, None, is_some}

-- the place of an MSR's switch among the 16,384 of a vCPU, or none: the two ranges are 8,192 MSRs each, from 0 and from 0xC0000000 on. (A number of 32 bits
-- is below twice 0xC0000000, so that the code need not ask.)
unfoldable pub msr_place : ℕ → Option ℕ
msr_place msr = cond (ltb (msr / 0xC0000000) 2 && ltb (msr % 0xC0000000) 8192) (Some (8192 * (msr / 0xC0000000) + msr % 0xC0000000)) None

-- an MSR that can be switched: document 01's "MSR outside 0..0x1FFF and 0xC0000000..0xC0001FFF" is one that cannot (Places: `exactly`)
unfoldable pub is_msr : ℕ → Bool
is_msr msr = is_some (msr_place msr)

-- the way back, the MSR of a place: those of the first range, and behind them those of the second
unfoldable pub msr_at : ℕ → ℕ
msr_at place = cond (ltb place 8192) place (place - 8192 + 0xC0000000)
