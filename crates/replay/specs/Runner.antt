-- Document 01's runner: the session it starts with, what becomes of one message, and what is printed.
use Rattle.std.specs.Prelude.{ℕ, zero, suc, ◌+◌, List, [], ◌++◌, Bool, Option, Some, None, length, take, drop, replicate, eqb}
use Rattle.std.specs.Bool.{then_some}
use Rattle.kvmi.specs.declared.Settings.{Settings}
use Rattle.session.specs.State.{State, state}
use Rattle.session.specs.Calls.{Told, fresh_of, ready_of}
use Rattle.message.specs.Message.{message_of}
use Rattle.wire.specs.Bytes.{store}
use Rattle.store.specs.Words.{vcpu_word_count}
use Rattle.page_words.specs.PageWords.{page_word_count}
use Rattle.stream.specs.declared.Line.{Line}
use Rattle.stream.specs.declared.End.{End}
use Rattle.stream.specs.declared.End.TheVariants.{Open, Closed, Long}
use Rattle.stream.specs.declared.Cut.{Cut}
use Rattle.stream.specs.declared.Cut.TheVariants.{End as cut-end, Tail, Long as cut-long, Message}
use Rattle.stream.specs.Cut.{cut_of, extent_of}
use Rattle.stream.specs.Line.{line_of}
use Rattle.line_text.specs.Text.{line_text, end_text}
use Rattle.replay.specs.declared.Passed.{Passed}
use Rattle.replay.specs.declared.Turned.{Turned}

-- ---- the start

-- "2 ready vCPUs, all allowed, all five features 1, TSC speed 0, descriptor events catchable, breakpoints free, 1 view"; W2: "a settings flag, set in the runner"
abbrev pub runner_settings : Settings
runner_settings =
    record {
      vcpus = 2;
      views = 1;
      commands = 0xFFFFFFFF;
      events = 0xFFFFFFFF;
      tsc = 0;
      singlestep = 1;
      vmfunc = 1;
      eptp = 1;
      ve = 1;
      spp = 1;
      descriptors = 1;
      breakpoints = 0;
      execute_only = 1;
      revision = 1;
    }

-- begun fresh on whatever words are lent, and then each of the two vCPUs made ready
unfoldable pub start_of : List ℕ → List ℕ → State
start_of vcpus pages = (ready_of (ready_of (fresh_of runner_settings vcpus pages).state 0).state 1).state

-- ---- one message

-- what a message leaves: session and words, output, guest memory, the facts of its line, and whether it closed
pub record Left : Type 0 where
  pub state : State
  pub out : List ℕ
  pub guest : List ℕ
  pub line : Line
  pub closes : Bool

-- of a result, and the lent words and bytes at exit
abbrev pub left : Passed → List ℕ → List ℕ → List ℕ → List ℕ → Left
left r vcpus pages out guest =
    record { state = state r.session vcpus pages; out = out; guest = guest; line = r.line; closes = r.closes }

-- of a message, and what the call gave and left; at answer 1 the "session closes"
abbrev pub left_by : List ℕ → Told → Left
left_by msg t =
    record {
      state = t.state;
      out = t.out;
      guest = t.guest;
      line = line_of msg t.out t.answer;
      closes = eqb t.answer.number 1;
    }

unfoldable pub passed_of : State → List ℕ → List ℕ → List ℕ → Left
passed_of st msg out guest = left_by msg (message_of st msg out guest)

-- ---- one turn: the bytes of the next message, as far as the input has them, are looked at, passed on and told of

-- what a turn leaves: session and words, output, guest memory, the text that is printed with its count, and the end, where the run is over
pub record After : Type 0 where
  pub state : State
  pub out : List ℕ
  pub guest : List ℕ
  pub text : List ℕ
  pub count : ℕ
  pub end : Option End

-- of a result, and the lent words and bytes at exit
abbrev pub turn_left : Turned → List ℕ → List ℕ → List ℕ → List ℕ → List ℕ → After
turn_left r vcpus pages out guest text =
    record { state = state r.session vcpus pages; out = out; guest = guest; text = text; count = r.count; end = r.end }

-- a message that is passed on has its line, at the front of the text; "After closing it prints `end closed` and stops"
abbrev pub tell_by : ℕ → List ℕ → Left → After
tell_by index text l =
    record {
      state = l.state;
      out = l.out;
      guest = l.guest;
      text = store text 0 (line_text index l.line);
      count = length (line_text index l.line);
      end = then_some l.closes Closed;
    }

unfoldable pub told_of : ℕ → State → List ℕ → List ℕ → List ℕ → List ℕ → After
told_of index st msg out guest text = tell_by index text (passed_of st msg out guest)

-- nothing more is passed on
abbrev pub over_at : End → State → List ℕ → List ℕ → List ℕ → After
over_at end st out guest text = record { state = st; out = out; guest = guest; text = text; count = 0; end = Some end }

unfoldable pub turn_by : Cut → ℕ → State → List ℕ → List ℕ → List ℕ → List ℕ → After
turn_by cut-end index st msg out guest text = over_at Open st out guest text
turn_by Tail index st msg out guest text = told_of index st msg out guest text
turn_by cut-long index st msg out guest text = over_at Long st out guest text
turn_by (Message total) index st msg out guest text = told_of index st msg out guest text

unfoldable pub turn_of : ℕ → State → List ℕ → List ℕ → List ℕ → List ℕ → After
turn_of index st msg out guest text = turn_by (cut_of msg) index st msg out guest text

-- ---- a run: what turn after turn prints, at most k of them. The programs print it as they read, and no promise can say so.

-- what follows what a turn prints
abbrev pub followed : Option End → List ℕ → List ℕ
followed None rest = rest
followed (Some end) rest = end_text end

unfoldable pub run_of : ℕ → ℕ → State → List ℕ → List ℕ → List ℕ → List ℕ
run_of zero index st out guest input = []
run_of (suc k) index st out guest input =
    let n = extent_of (take 8 input) in
    let a = turn_of index st (take n input) out guest (replicate 128 0) in
    take a.count a.text ++ followed a.end (run_of k (index + 1) a.state a.out a.guest (drop n input))

-- of a whole input, of which each turn but the last takes a byte at least; the output has room for every answer, and there are "4 zero pages"
unfoldable pub printed_of : List ℕ → List ℕ
printed_of input =
    run_of (length input + 1) 0 (start_of (replicate vcpu_word_count 0) (replicate page_word_count 0)) (replicate 4112 0) (replicate 16384 0) input
