-- What each change does to a session: its numbers, the lent words, guest memory, and the code of it.
use Rattle.std.specs.Prelude.{ℕ, ◌+◌, ◌%◌, ◌^◌, List, true, cond, ◌&&◌, ℤ, drop}
use Rattle.wire.specs.Bytes.{store}
use Rattle.kvmi.specs.declared.Settings.{Settings}
use Rattle.kvmi.specs.declared.Change.{Change}
use Rattle.kvmi.specs.declared.Change.TheVariants.{Nothing, SetVmEvent, WritePhysical, QueuePause, SetVcpuEvent, SetCr, SetMsr, SetPages, SetSinglestep, SetReplies, EndWait}
use Rattle.kvmi.specs.Bits.{bit, put_bit}
use Rattle.kvmi.specs.Codes.{OK, ENOMEM}
use Rattle.kvmi.specs.Mode.{number_of_mode}
use Rattle.kvmi.specs.Tables.{cr_bit}
use Rattle.kvmi.specs.Message.{entries_of}
use Rattle.kvmi.specs.Limits.{page_limit}
use Rattle.kvmi.specs.Settings.{all_or_nothing}
use Rattle.store.specs.Words.{field, set_msr_bit, put_bit64, SINGLESTEP, CRS, EVENTS, PAUSES, ended_wait}
use Rattle.page_words.specs.PageWords.{PageTable, page_table, run_entries}
use Rattle.session.specs.State.{State, state, with_tool, with_tool_events, with_tool_mode, with_tool_pages, with_vcpu_words, with_field}

pub record StateChanged : Type 0 where
  pub state : State
  pub guest : List ℕ
  pub code : ℤ

abbrev pub changed : State → List ℕ → StateChanged
changed st guest = record { state = st; guest = guest; code = OK }

abbrev pub changed_pages : State → List ℕ → PageTable → StateChanged
changed_pages st guest t =
    record {
      state = state (with_tool st.session (with_tool_pages st.session.tool t.count)) st.vcpus t.words;
      guest = guest;
      code = cond t.skipped ENOMEM OK;
    }

-- W7: "revision 2 applies no entry of a page-access message if any would be skipped, else acts as revision 1": of a run over the words as they
-- stand, with so many in use, what the settings let stand
unfoldable pub pages_by : Settings → List ℕ → ℕ → PageTable → PageTable
pages_by s before used t = cond (all_or_nothing s && t.skipped) (page_table before used true) t

unfoldable pub change : State → List ℕ → List ℕ → Change → StateChanged
change st guest d Nothing = changed st guest
change st guest d (SetVmEvent on event) =
    changed (state (with_tool st.session (with_tool_events st.session.tool (put_bit64 st.session.tool.events event on))) st.vcpus st.pages) guest
change st guest d (WritePhysical gpa) = changed st (store guest gpa (drop 16 d))
change st guest d (QueuePause wait vcpu) = changed (with_field st vcpu PAUSES ((field st.vcpus vcpu PAUSES + 1) % 2 ^ 64)) guest
change st guest d (SetVcpuEvent on vcpu event) = changed (with_field st vcpu EVENTS (put_bit64 (field st.vcpus vcpu EVENTS) event on)) guest
change st guest d (SetCr on vcpu cr) = changed (with_field st vcpu CRS (put_bit (field st.vcpus vcpu CRS) (cr_bit cr) on)) guest
change st guest d (SetMsr on vcpu msr) = changed (with_vcpu_words st (set_msr_bit st.vcpus vcpu msr on)) guest
change st guest d (SetPages view count) =
    changed_pages st guest
    (pages_by st.session.settings st.pages st.session.tool.pages
    (run_entries page_limit view (entries_of count (drop 8 d)) st.pages st.session.tool.pages))
change st guest d (SetSinglestep on vcpu) = changed (with_field st vcpu SINGLESTEP (bit on)) guest
change st guest d (SetReplies now mode) =
    changed (state (with_tool st.session (with_tool_mode st.session.tool (number_of_mode mode))) st.vcpus st.pages) guest
change st guest d (EndWait resumes vcpu action value feed) = changed (with_vcpu_words st (ended_wait st.vcpus vcpu)) guest
