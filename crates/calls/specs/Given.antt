-- What an exported call gives: document 01's number of its answer, the session after it, every lent word and byte, and the answer's values as words.
use Rattle.std.specs.Prelude.{ℕ, min, List, [], ◌∷◌, ◌++◌, cond, length, set}
use Rattle.kvmi.specs.declared.Feed.{Feed}
use Rattle.kvmi.specs.declared.Resumption.{Resumption}
use Rattle.kvmi.specs.declared.Source.{Source}
use Rattle.kvmi.specs.declared.Source.TheVariants.{Unfed, Message, Guest, Missing}
use Rattle.kvmi.specs.declared.Signal.{Signal}
use Rattle.kvmi.specs.declared.Signal.TheVariants.{Quiet, Kick, Crash, Resume}
use Rattle.kvmi.specs.Answer.{Paper, is_missing}
use Rattle.kvmi.specs.Feed.{unfed}
use Rattle.kvmi.specs.Bits.{bit}
use Rattle.kvmi.specs.Image.{image}
use Rattle.session.specs.declared.Session.{Session}
use Rattle.session.specs.State.{state}
use Rattle.session.specs.Calls.{Told, fresh_of, ready_of}
use Rattle.message.specs.Message.{message_of}
use Rattle.entry.specs.Entry.{enter_of}
use Rattle.image_writer.specs.Write.{stated_tables, image_of}
use Rattle.image_reader.specs.Read.{read_of}
use Rattle.vcpu_list.specs.List.{One}
use Rattle.calls.specs.declared.Returned.{Returned}
use Rattle.calls.specs.declared.ListReturned.{ListReturned}

-- "signal: none, kick(vCPU, wait), crash(vCPU)", and W1's "resume(vCPU, action, new value or 0)"
abbrev pub signal_number : Signal → ℕ
signal_number Quiet = 0
signal_number (Kick wait vcpu) = 1
signal_number (Crash vcpu) = 2
signal_number (Resume r) = 3

abbrev pub signal_vcpu : Signal → ℕ
signal_vcpu Quiet = 0
signal_vcpu (Kick wait vcpu) = vcpu
signal_vcpu (Crash vcpu) = vcpu
signal_vcpu (Resume r) = r.vcpu

abbrev pub signal_waits : Signal → ℕ
signal_waits Quiet = 0
signal_waits (Kick wait vcpu) = bit wait
signal_waits (Crash vcpu) = 0
signal_waits (Resume r) = 0

abbrev pub signal_action : Signal → ℕ
signal_action Quiet = 0
signal_action (Kick wait vcpu) = 0
signal_action (Crash vcpu) = 0
signal_action (Resume r) = r.action

abbrev pub signal_value : Signal → ℕ
signal_value Quiet = 0
signal_value (Kick wait vcpu) = 0
signal_value (Crash vcpu) = 0
signal_value (Resume r) = r.value

-- W5: of a resume from a page fault, the bytes that feed the instruction: none where there is no such guest page
abbrev pub shown_feed : Feed → Feed
shown_feed f = cond (is_missing f.source) unfed f

-- where the bytes are, as a number
abbrev pub source_number : Source → ℕ
source_number Unfed = 0
source_number Message = 1
source_number Guest = 2
source_number Missing = 3

abbrev pub feed_words : Feed → List ℕ
feed_words f = source_number f.source ∷ f.at ∷ f.length ∷ []

abbrev pub signal_feed : Signal → Feed
signal_feed Quiet = unfed
signal_feed (Kick wait vcpu) = unfed
signal_feed (Crash vcpu) = unfed
signal_feed (Resume r) = shown_feed r.feed

-- words with what a resume has at 5 to 9; no bytes are named of a page that is missing
abbrev pub resumed : List ℕ → Resumption → List ℕ
resumed words r =
    let going = set (set words 5 r.action) 6 r.value in
    cond (is_missing r.feed.source) going (set (set (set going 7 (source_number r.feed.source)) 8 r.feed.at) 9 r.feed.length)

-- how many words are lent for an answer's values
abbrev pub result_word_count : ℕ
result_word_count = 12

-- an answer's values, as struct semblurick_result has them; W6's padding byte is the last but one, and the last word is not used and 0
abbrev pub result_words : Paper → List ℕ
result_words p =
    p.count ∷ p.offset ∷ signal_number p.signal ∷ signal_vcpu p.signal ∷ signal_waits p.signal ∷ signal_action p.signal ∷ signal_value p.signal
    ∷ feed_words (signal_feed p.signal) ++ (p.padding ∷ 0 ∷ [])

pub record Given : Type 0 where
  pub done : Returned
  pub vcpus : List ℕ
  pub pages : List ℕ
  pub out : List ℕ
  pub guest : List ℕ
  pub result : List ℕ

abbrev pub given : Told → Given
given t =
    record {
      done = record { code = t.answer.number; session = t.state.session };
      vcpus = t.state.vcpus;
      pages = t.state.pages;
      out = t.out;
      guest = t.guest;
      result = result_words t.answer;
    }

-- ---- the calls, by what `session`, `message`, `entry`, `image_writer` and `image_reader` promise
-- the settings are those in the session; the rest of it may be anything
unfoldable pub fresh_given : Session → List ℕ → List ℕ → Given
fresh_given s vcpus pages = given (fresh_of s.settings vcpus pages)

-- a vCPU number past u16 is taken as 65,535
unfoldable pub ready_given : Session → ℕ → Given
ready_given s vcpu = given (ready_of (state s [] []) (min vcpu 65535))

unfoldable pub message_given : Session → List ℕ → List ℕ → List ℕ → List ℕ → List ℕ → Given
message_given s vcpus pages msg out guest = given (message_of (state s vcpus pages) msg out guest)

unfoldable pub enter_given : Session → List ℕ → List ℕ → ℕ → List ℕ → ℕ → List ℕ → List ℕ → Given
enter_given s vcpus pages vcpu block event own out = given (enter_of (state s vcpus pages) (min vcpu 65535) block event own out)

unfoldable pub size_given : Session → List ℕ → List ℕ → ℕ
size_given s vcpus pages = length (image (stated_tables (state s vcpus pages)))

unfoldable pub write_given : Session → List ℕ → List ℕ → List ℕ → Given
write_given s vcpus pages out = given (image_of (state s vcpus pages) out)

unfoldable pub read_given : Session → List ℕ → List ℕ → List ℕ → Given
read_given s vcpus pages bytes = given (read_of s.settings bytes vcpus pages)

-- ---- the calls on a list of vCPU records, on one record: document 01's number of the answer, and the record after it
abbrev pub one_given : One → ListReturned
one_given o = record { vcpu = o.vcpu; code = o.answer.number }
