-- What goes out of an entry. Assumes nothing.
use mathlib.Core.Path.{◌≡◌, refl, sym, ap, ◌∙◌}
use mathlib.Core.List.{List, []}
use Prim.Native.Nat.{ℕ, ◌+◌, ◌-◌, ◌*◌, ◌/◌, ◌%◌, ◌^◌, ◌<◌}
use native.Mathlib.Omega.{arith}
use lib.ListN.{length}
use borrow.Author.Tests.{lt-leb, le-leb, eq-eqb}
use Rattle.wire.specs.Bytes.{le, store}
use Rattle.wire.proofs.Laws.{store-none}
use Rattle.kvmi.specs.declared.Answer.{Answer}
use Rattle.kvmi.specs.declared.Signal.TheVariants.{Quiet}
use Rattle.kvmi.specs.Answer.{paper, handled}
use Rattle.kvmi.specs.Model.{next_seq}
use Rattle.kvmi.specs.Reply.{event_bytes, pause_event}
use Rattle.store.specs.Words.{field, set_field, PAUSES, AWAITED}
use Rattle.page_words.specs.PageWords.{key_of}
use Rattle.entry.specs.declared.HandedOut.{HandedOut}
use Rattle.reply.specs.Written.{Written}
use Rattle.reply.proofs.Lengths.{length-event}
use Rattle.session.specs.declared.Session.{Session}
use Rattle.session.specs.State.{state, with_tool, with_tool_seq}
use Rattle.session.specs.Calls.{told}
use Rattle.entry.specs.Entry.{awaiting_words, fault_words, sending_of, pausing_of, dequeuing_of, Went, sent_of, entered_of}

-- an event's number goes out as one byte
number-byte : (event : ℕ) → le 1 (event % 256) ≡ le 1 event
unfolding le
number-byte event = let e : event % 256 % 256 ≡ event % 256 = omega arith in rw e

low-event : (seq vcpu event : ℕ) (block own : List ℕ) → event_bytes seq vcpu (event % 256) block own ≡ event_bytes seq vcpu event block own
unfolding event_bytes
low-event seq vcpu event block own = rw (number-byte event)

-- the key of the page at an address, in a view below 8
pub key-of : (view gpa : ℕ) → view < 8 → gpa < 18446744073709551616 → key_of view (gpa % 2 ^ 64 / 4096) ≡ view * 4503599627370496 + gpa / 4096
unfolding key_of
key-of view gpa v g = omega arith

module _ (w after out wrote block : List ℕ) (vcpu seq next count : ℕ) where
  pub sent-as : (own : List ℕ) (event : ℕ) (awaits : List ℕ) → wrote ≡ store out 0 (event_bytes seq vcpu (event % 256) block own)
      → awaits ≡ awaiting_words w vcpu event seq → after ≡ fault_words awaits vcpu event own → count ≡ length block + length own + 16 → next ≡ next_seq seq
      → Went after out wrote (record { count = count; next = next }) (sending_of w vcpu seq block event own)
  unfolding sending_of
  sent-as own event awaits o a f n e =
      record {
        written =
            record {
              count = n ∙ omega (arith, length-event seq vcpu event block own);
              there = o ∙ ap (store out 0) (low-event seq vcpu event block own);
            };
        next = e;
        words = f ∙ ap (λ (l : List ℕ). fault_words l vcpu event own) a;
      }

  pub paused-as : (queued : ℕ) (fewer : List ℕ) → queued ≡ field w vcpu PAUSES → (queued ≡ 0 → ⊥) → Written out wrote count (pause_event seq vcpu block)
      → fewer ≡ set_field w vcpu PAUSES (queued - 1) → after ≡ awaiting_words fewer vcpu 2 seq → next ≡ next_seq seq
      → Went after out wrote (record { count = count; next = next }) (dequeuing_of w vcpu seq block)
  unfolding dequeuing_of pausing_of
  paused-as queued fewer q some o f a e =
      rw (← q, le-leb 1 queued (omega (arith, some))) (record { written = o; next = e; words = a ∙ ap (λ (l : List ℕ). awaiting_words l vcpu 2 seq) f })

pub nothing-queued : (w out block : List ℕ) (vcpu seq queued : ℕ) → queued ≡ field w vcpu PAUSES → queued ≡ 0
    → Went w out out (record { count = 0; next = seq }) (dequeuing_of w vcpu seq block)
unfolding dequeuing_of
nothing-queued w out block vcpu seq queued q none =
    rw (← q, lt-leb 1 queued (omega arith))
    (record { written = record { count = refl; there = sym (store-none out 0) }; next = refl; words = refl })

-- the call, when what goes out is written
module _ (s t : Session) (a : Answer) (r : HandedOut) (w p after block own out wrote : List ℕ) (vcpu event awaited : ℕ) where
  pub went-as : awaited ≡ field w vcpu AWAITED → awaited ≡ 0 → Went after out wrote r (sent_of (state s w p) vcpu block event own)
      → paper a ≡ handled r.count Quiet → t ≡ with_tool s (with_tool_seq s.tool r.next)
      → told (record { answer = a; session = t }) after p wrote [] ≡ entered_of (state s w p) vcpu block event own out
  unfolding entered_of
  went-as q none h g e =
      simp (← q, eq-eqb awaited 0 none, e, g, h.written.count, h.written.there, h.words, h.next)
