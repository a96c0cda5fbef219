-- "Host answers": document 01's number and values of each case of an answer, W5's 12, which is a message's that was taken, and W6's padding byte.
use Rattle.std.specs.Prelude.{ℕ, Bool, true, false, cond}
use Rattle.kvmi.specs.declared.Answer.{Answer}
use Rattle.kvmi.specs.declared.Answer.TheVariants.{Handled, Closing, Closed, ShortOut, BadVcpu, BadState, Waiting, BadSettings, BadForm, Forbidden, Busy, NotApplicable}
use Rattle.kvmi.specs.declared.Signal.{Signal}
use Rattle.kvmi.specs.declared.Signal.TheVariants.{Quiet, Kick, Crash, Resume}
use Rattle.kvmi.specs.declared.Feed.{Feed}
use Rattle.kvmi.specs.declared.Resumption.{Resumption}
use Rattle.kvmi.specs.declared.Source.{Source}
use Rattle.kvmi.specs.declared.Source.TheVariants.{Unfed, Message, Guest, Missing}

-- a resume(vCPU, action, value), with W5's bytes
abbrev pub resumption : ℕ → ℕ → ℕ → Feed → Resumption
resumption vcpu action value feed = record { vcpu = vcpu; action = action; value = value; feed = feed }

abbrev pub resume : ℕ → ℕ → ℕ → Feed → Signal
resume vcpu action value feed = Resume (resumption vcpu action value feed)

-- number, count of bytes written, signal (none, kick(vCPU, wait), crash(vCPU), and W1's resume(vCPU, action, value), with W5's bytes), offset, and W6's message offset of
-- a padding byte; what an answer has none of is 0 or none
pub record Paper : Type 0 where
  pub number : ℕ
  pub count : ℕ
  pub signal : Signal
  pub offset : ℕ
  pub padding : ℕ

abbrev pub is_missing : Source → Bool
is_missing Unfed = false
is_missing Message = false
is_missing Guest = false
is_missing Missing = true

-- W5: "a continue that needs the guest page where none exists"
abbrev pub lacks_page : Signal → Bool
lacks_page Quiet = false
lacks_page (Kick wait vcpu) = false
lacks_page (Crash vcpu) = false
lacks_page (Resume r) = is_missing r.feed.source

-- answer 0; W5: such a continue "is answer 12 and hands back no bytes, all else as under answer 0"
abbrev pub handled : ℕ → Signal → Paper
handled n g = record { number = cond (lacks_page g) 12 0; count = n; signal = g; offset = 0; padding = 0 }

-- the answers with no values
abbrev pub plain : ℕ → Paper
plain k = record { number = k; count = 0; signal = Quiet; offset = 0; padding = 0 }

-- answers 8 and 9
abbrev pub plain_at : ℕ → ℕ → Paper
plain_at k off = record { number = k; count = 0; signal = Quiet; offset = off; padding = 0 }

-- W6: "The padding test should report the message offset of the first non-zero padding byte, in every command's host answer"
abbrev pub with_padding : ℕ → Paper → Paper
with_padding padding p = record { number = p.number; count = p.count; signal = p.signal; offset = p.offset; padding = padding }

-- the table's row of each case
abbrev pub paper : Answer → Paper
paper (Handled v) = with_padding v.padding (handled v.count v.signal)
paper Closing = plain 1
paper Closed = plain 2
paper ShortOut = plain 3
paper BadVcpu = plain 4
paper BadState = plain 5
paper Waiting = plain 6
paper BadSettings = plain 7
paper (BadForm off) = plain_at 8 off
paper (Forbidden off) = plain_at 9 off
paper Busy = plain 10
paper NotApplicable = plain 14
