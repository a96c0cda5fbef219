-- What code says of a change: the number of the tool that it moves, its code, and how it is answered.
use Rattle.std.specs.Prelude.{ℕ, ◌%◌, ◌^◌, List, Bool, cond, drop, eqb}
use Rattle.kvmi.specs.declared.Change.{Change}
use Rattle.kvmi.specs.declared.Change.TheVariants.{Nothing, SetVmEvent, WritePhysical, QueuePause, SetVcpuEvent, SetCr, SetMsr, SetPages, SetSinglestep, SetReplies, EndWait}
use Rattle.kvmi.specs.declared.ReplyKind.{ReplyKind}
use Rattle.kvmi.specs.declared.ReplyKind.TheVariants.{CodeOnly, WithData, Silent}
use Rattle.kvmi.specs.declared.ReplyMode.{ReplyMode}
use Rattle.kvmi.specs.declared.Signal.{Signal}
use Rattle.kvmi.specs.declared.Signal.TheVariants.{Quiet}
use Rattle.kvmi.specs.Codes.{OK, ENOMEM}
use Rattle.kvmi.specs.Mode.{mode_of_number}
use Rattle.kvmi.specs.Message.{entries_of}
use Rattle.kvmi.specs.Limits.{page_limit}
use Rattle.kvmi.specs.Change.{signal_of, mode_for}
use Rattle.page_words.specs.PageWords.{PageTable, run_entries}
use Rattle.session.specs.declared.Session.{Session}
use Rattle.session.specs.declared.Tool.{Tool}
use Rattle.session.specs.State.{State, state, with_tool, with_tool_events, with_tool_pages, with_tool_mode}
use Rattle.change.specs.declared.Effect.{Effect}
use Rattle.change.specs.declared.Moved.{Moved}
use Rattle.change.specs.declared.Moved.TheVariants.{Nothing as Unmoved, Events, Pages, Mode}
use Rattle.change.specs.Change.{StateChanged, change}

-- the kind of reply by which a change is answered: the end of a wait by none, and a command that changes nothing by one that may have data
abbrev pub kind_of : Change → ReplyKind
kind_of Nothing = WithData
kind_of (SetVmEvent on event) = CodeOnly
kind_of (WritePhysical gpa) = CodeOnly
kind_of (QueuePause wait vcpu) = CodeOnly
kind_of (SetVcpuEvent on vcpu event) = CodeOnly
kind_of (SetCr on vcpu cr) = CodeOnly
kind_of (SetMsr on vcpu msr) = CodeOnly
kind_of (SetPages view count) = CodeOnly
kind_of (SetSinglestep on vcpu) = CodeOnly
kind_of (SetReplies now mode) = CodeOnly
kind_of (EndWait resumes vcpu action value feed) = Silent

-- which number of the tool a change moves, if any: its VM event switches, how many page words are in use, or its reply mode; and what it is in the
-- tool after it
abbrev pub moved_by : Change → Tool → Moved
moved_by Nothing t = Unmoved
moved_by (SetVmEvent on event) t = Events t.events
moved_by (WritePhysical gpa) t = Unmoved
moved_by (QueuePause wait vcpu) t = Unmoved
moved_by (SetVcpuEvent on vcpu event) t = Unmoved
moved_by (SetCr on vcpu cr) t = Unmoved
moved_by (SetMsr on vcpu msr) t = Unmoved
moved_by (SetPages view count) t = Pages t.pages
moved_by (SetSinglestep on vcpu) t = Unmoved
moved_by (SetReplies now mode) t = Mode t.mode
moved_by (EndWait resumes vcpu action value feed) t = Unmoved

-- a change, the number that it moves, and how it is answered
pub record Enacted : Type 0 where
  pub changed : StateChanged
  pub moved : Moved
  pub kind : ReplyKind
  pub mode : ReplyMode
  pub signal : Signal

abbrev pub enacted_of : State → List ℕ → List ℕ → Change → Enacted
enacted_of st guest d c =
    record {
      changed = change st guest d c;
      moved = moved_by c (change st guest d c).state.session.tool;
      kind = kind_of c;
      mode = mode_for (mode_of_number st.session.tool.mode) c;
      signal = signal_of c;
    }

-- what a tool owns after one of its numbers moved
unfoldable pub tool_after : Tool → Moved → Tool
tool_after t Unmoved = t
tool_after t (Events events) = with_tool_events t events
tool_after t (Pages pages) = with_tool_pages t pages
tool_after t (Mode number) = with_tool_mode t (number % 2 ^ 32)

-- an effect on a session, with the lent words and bytes at exit
abbrev pub effect : Session → Effect → List ℕ → List ℕ → List ℕ → Enacted
effect s e vcpus pages guest =
    record {
      changed =
          record {
            state = state (with_tool s (tool_after s.tool e.moved)) vcpus pages;
            guest = guest;
            code = e.code;
          };
      moved = e.moved;
      kind = e.kind;
      mode = mode_of_number e.by;
      signal = e.signal;
    }

-- no number moves, and no error; `mode` is the tool's
abbrev pub plain_effect : ReplyKind → ℕ → Signal → Effect
plain_effect kind mode signal = record { kind = kind; moved = Unmoved; code = OK; by = mode; signal = signal }

-- ---- message 13
pub record PagesChanged : Type 0 where
  pub effect : Effect
  pub pages : List ℕ

abbrev pub pages_effect : Effect → List ℕ → PagesChanged
pages_effect e pages = record { effect = e; pages = pages }

abbrev pub pages_taken : Tool → PageTable → PagesChanged
pages_taken t p =
    record {
      effect = record { kind = CodeOnly; moved = Pages p.count; code = cond p.skipped ENOMEM OK; by = t.mode; signal = Quiet };
      pages = p.words;
    }

unfoldable pub pages_set : Tool → List ℕ → ℕ → ℕ → List ℕ → PagesChanged
pages_set t pages view count d = pages_taken t (run_entries page_limit view (entries_of count (drop 8 d)) pages t.pages)

-- whether an entry of it would be skipped
abbrev pub skips_one : List ℕ → ℕ → ℕ → ℕ → List ℕ → Bool
skips_one pages used view count d = (run_entries page_limit view (entries_of count (drop 8 d)) pages used).skipped

-- nothing of it is applied
abbrev pub held_back : Tool → Effect
held_back t = record { kind = CodeOnly; moved = Pages t.pages; code = ENOMEM; by = t.mode; signal = Quiet }
