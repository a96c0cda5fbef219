-- A batch as code performs it: answer, counts, session, and every lent word and byte after it, for any bits in the session.
use Rattle.std.specs.Prelude.{ℕ, List, cond}
use Rattle.kvmi.specs.declared.Feed.{Feed}
use Rattle.kvmi.specs.declared.Signal.{Signal}
use Rattle.kvmi.specs.declared.Signal.TheVariants.{Quiet, Kick, Crash, Resume}
use Rattle.kvmi.specs.Feed.{is_message}
use Rattle.kvmi.specs.Batch.{Taken, Takes, Batch, batch_by, used_by}
use Rattle.kvmi.specs.Call.{Call}
use Rattle.session.specs.State.{State, state, is_closed}
use Rattle.session.specs.Calls.{Told}
use Rattle.message.specs.Message.{message_of}
use Rattle.batch.specs.declared.Batched.{Batched}

-- a message, as `message` promises it
abbrev pub told_taken : Told → Taken State
told_taken r = record { answer = r.answer; state = r.state; out = r.out; guest = r.guest }

abbrev pub message_takes : Takes State
message_takes st msg out guest = told_taken (message_of st msg out guest)

unfoldable pub batch_of : State → List ℕ → List ℕ → List ℕ → List ℕ → Batch State
batch_of st input out signals guest = batch_by message_takes (is_closed st) st input out signals guest

-- the messages that it uses
unfoldable pub used_of : State → List ℕ → List ℕ → List ℕ → List ℕ → List Call
used_of st input out signals guest = used_by message_takes (is_closed st) st input out signals guest

-- of a result, and the lent words and bytes at exit
abbrev pub batched : Batched → List ℕ → List ℕ → List ℕ → List ℕ → List ℕ → Batch State
batched r vcpus pages out signals guest =
    record {
      number = r.number;
      used = r.used;
      count = r.count;
      listed = r.listed;
      resume = r.resume;
      state = state r.session vcpus pages;
      out = out;
      signals = signals;
      guest = guest;
    }

-- at which byte of its message the bytes begin that feed a resumed vCPU: 0 where the message does not supply them
abbrev pub supplied_at : Feed → ℕ
supplied_at f = cond (is_message f.source) f.at 0

abbrev pub fed_at : Signal → ℕ
fed_at Quiet = 0
fed_at (Kick wait vcpu) = 0
fed_at (Crash vcpu) = 0
fed_at (Resume r) = supplied_at r.feed
