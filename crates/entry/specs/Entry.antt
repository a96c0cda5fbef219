-- The entry of a vCPU as code performs it: answer, session, and every lent word and byte after it, for any bits in the session.
use Rattle.std.specs.Prelude.{ℕ, ◌-◌, ◌≡◌, List, [], Bool, false, cond, not, ◌&&◌, length, leb, ltb, eqb}
use Rattle.std.specs.Option.{option_map_or}
use Rattle.kvmi.specs.declared.Signal.TheVariants.{Quiet}
use Rattle.kvmi.specs.declared.EventSwitch.{EventSwitch}
use Rattle.kvmi.specs.declared.EventSwitch.TheVariants.{NoEvent, OfVm, OfVcpu, OfCr, OfMsr, OfPage}
use Rattle.kvmi.specs.Limits.{event_out, state_bytes}
use Rattle.kvmi.specs.Bits.{is_on}
use Rattle.kvmi.specs.Tables.{is_cr, cr_bit}
use Rattle.kvmi.specs.Model.{next_seq}
use Rattle.kvmi.specs.Event.{event_row_of, offer_fits, cr_named, msr_named}
use Rattle.kvmi.specs.Feed.{PF, kept_of, view_named, page_named}
use Rattle.kvmi.specs.Reply.{event_bytes, pause_event}
use Rattle.store.specs.Words.{field, set_field, set_fault, msr_bit_on, CRS, EVENTS, PAUSES, AWAITED, AWAITED_SEQ}
use Rattle.page_words.specs.PageWords.{key_of, word_access}
use Rattle.entry.specs.declared.HandedOut.{HandedOut}
use Rattle.reply.specs.Written.{Written}
use Rattle.session.specs.declared.Tool.{Tool}
use Rattle.session.specs.State.{State, with_vcpu_words, with_seq_of, is_closed}
use Rattle.session.specs.Calls.{Told, told_same, told_written}

-- ---- the switches that an offered event asks for, in the VM event switches, the vCPU words and the page words
-- whether a vCPU's switch for a control register is on; one other than CR0, CR3 and CR4 has none
unfoldable pub cr_bit_on : List ℕ → ℕ → ℕ → Bool
cr_bit_on w vcpu cr = is_cr cr && is_on (field w vcpu CRS) (cr_bit cr)

-- whether the page that a fault's bytes name stands below rwx, in the page words; no view from 8 on has any
unfoldable pub is_guarded : List ℕ → ℕ → List ℕ → Bool
is_guarded pages used own = ltb (view_named own) 8 && ltb (word_access pages used (key_of (view_named own) (page_named own))) 7

unfoldable pub asked_for_by : Tool → List ℕ → List ℕ → ℕ → ℕ → List ℕ → EventSwitch → Bool
asked_for_by t w pages vcpu event own NoEvent = false
asked_for_by t w pages vcpu event own OfVm = is_on t.events event
asked_for_by t w pages vcpu event own OfVcpu = is_on (field w vcpu EVENTS) event
asked_for_by t w pages vcpu event own OfCr = is_on (field w vcpu EVENTS) event && cr_bit_on w vcpu (cr_named own)
asked_for_by t w pages vcpu event own OfMsr = is_on (field w vcpu EVENTS) event && msr_bit_on w vcpu (msr_named own)
asked_for_by t w pages vcpu event own OfPage = is_on (field w vcpu EVENTS) event && is_guarded pages t.pages own

unfoldable pub is_asked_for_of : Tool → List ℕ → List ℕ → ℕ → ℕ → List ℕ → Bool
is_asked_for_of t w pages vcpu event own = option_map_or (asked_for_by t w pages vcpu event own) (event_row_of event).switch false

-- ---- what goes out: bytes, the vCPU words after it, and the next event's seq
pub record Sent : Type 0 where
  pub bytes : List ℕ
  pub vcpus : List ℕ
  pub next : ℕ

-- the reply to an event is awaited
unfoldable pub awaiting_words : List ℕ → ℕ → ℕ → ℕ → List ℕ
awaiting_words w vcpu event seq = set_field (set_field w vcpu AWAITED event) vcpu AWAITED_SEQ seq

-- of a page fault its addresses and access are kept
unfoldable pub fault_words : List ℕ → ℕ → ℕ → List ℕ → List ℕ
fault_words w vcpu event own = cond (eqb event PF) (set_fault w vcpu (kept_of event own)) w

-- the offered event
unfoldable pub sending_of : List ℕ → ℕ → ℕ → List ℕ → ℕ → List ℕ → Sent
sending_of w vcpu seq block event own =
    record {
      bytes = event_bytes seq vcpu event block own;
      vcpus = fault_words (awaiting_words w vcpu event seq) vcpu event own;
      next = next_seq seq;
    }

-- a pause from the queue
unfoldable pub pausing_of : List ℕ → ℕ → ℕ → List ℕ → Sent
pausing_of w vcpu seq block =
    record {
      bytes = pause_event seq vcpu block;
      vcpus = awaiting_words (set_field w vcpu PAUSES (field w vcpu PAUSES - 1)) vcpu 2 seq;
      next = next_seq seq;
    }

-- nothing
abbrev pub nothing_sent : List ℕ → ℕ → Sent
nothing_sent w seq = record { bytes = []; vcpus = w; next = seq }

-- a queued pause, or nothing
unfoldable pub dequeuing_of : List ℕ → ℕ → ℕ → List ℕ → Sent
dequeuing_of w vcpu seq block = cond (leb 1 (field w vcpu PAUSES)) (pausing_of w vcpu seq block) (nothing_sent w seq)

-- what a function that writes it has done: the words after it, the output before and after, and what is returned
pub record Went (vcpus before after : List ℕ) (r : HandedOut) (x : Sent) : Type 0 where
  pub written : Written before after r.count x.bytes
  pub next : r.next ≡ x.next
  pub words : vcpus ≡ x.vcpus

-- offered event, then pause
unfoldable pub sent_of : State → ℕ → List ℕ → ℕ → List ℕ → Sent
sent_of st vcpu block event own =
    cond (is_asked_for_of st.session.tool st.vcpus st.pages vcpu event own)
    (sending_of st.vcpus vcpu st.session.tool.seq block event own)
    (dequeuing_of st.vcpus vcpu st.session.tool.seq block)

-- ---- the call
abbrev pub told_sent : State → Sent → List ℕ → Told
told_sent st x out = told_written x.bytes Quiet (with_seq_of (with_vcpu_words st x.vcpus) x.next) out []

-- the part behind the tests of the arguments
unfoldable pub entered_of : State → ℕ → List ℕ → ℕ → List ℕ → List ℕ → Told
entered_of st vcpu block event own out =
    cond (not (eqb (field st.vcpus vcpu AWAITED) 0)) (told_same 6 st out [])
    (told_sent st (sent_of st vcpu block event own) out)

unfoldable pub enter_of : State → ℕ → List ℕ → ℕ → List ℕ → List ℕ → Told
enter_of st vcpu block event own out =
    cond (is_closed st) (told_same 2 st out [])
    (cond (leb st.session.settings.vcpus vcpu) (told_same 4 st out [])
    (cond (not (eqb (length block) state_bytes && offer_fits event own)) (told_same 5 st out [])
    (cond (ltb (length out) event_out) (told_same 3 st out [])
    (entered_of st vcpu block event own out))))
