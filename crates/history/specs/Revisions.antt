-- "W7. Revision 2: page access all or nothing": what the revision decides, and that all else is the same in both. Said of any session, whatever bits it holds.
use Rattle.std.specs.Prelude.{◌≡◌, ℕ, ◌⊎◌, List, [], ◌∷◌, ◌++◌, Bool, true, false, length, drop}
use Rattle.std.proofs.Math.Bool.{So}
use Rattle.wire.specs.Bytes.{le, store}
use Rattle.kvmi.specs.declared.Settings.{Settings}
use Rattle.kvmi.specs.Codes.{is_error}
use Rattle.kvmi.specs.Settings.{in_range, all_or_nothing}
use Rattle.kvmi.specs.Message.{count_of, view_of}
use Rattle.kvmi.specs.Call.{Call, message}
use Rattle.session.specs.State.{State, state, with_settings}
use Rattle.session.specs.Calls.{Told, fresh_of}
use Rattle.image_reader.specs.Read.{read_of}
use Rattle.change.specs.Effect.{skips_one}
use Rattle.message.specs.Message.{message_of}
use Rattle.refine.specs.Errors.{HasId, code_of, Spared}
use Rattle.history.specs.History.{step_of, after_of}

-- ---- settings that differ in the revision alone, and sessions and what calls leave under them
abbrev pub with_revision : ℕ → Settings → Settings
with_revision revision s =
    record {
      vcpus = s.vcpus;
      views = s.views;
      commands = s.commands;
      events = s.events;
      tsc = s.tsc;
      singlestep = s.singlestep;
      vmfunc = s.vmfunc;
      eptp = s.eptp;
      ve = s.ve;
      spp = s.spp;
      descriptors = s.descriptors;
      breakpoints = s.breakpoints;
      execute_only = s.execute_only;
      revision = revision;
    }

abbrev pub revised_state : ℕ → State → State
revised_state revision st = state (with_settings st.session (with_revision revision st.session.settings)) st.vcpus st.pages

-- the same answer, output, guest memory, session and words, but for the revision in the session's settings
abbrev pub revised_told : ℕ → Told → Told
revised_told revision r = record { answer = r.answer; state = revised_state revision r.state; out = r.out; guest = r.guest }

-- "if any would be skipped": by revision 1's run of the entries, in order, on the pages as they stand
abbrev pub skips : State → List ℕ → Bool
skips st msg = skips_one st.pages st.session.tool.pages (view_of (drop 8 msg)) (count_of (drop 8 msg)) (drop 8 msg)

-- neither message 1 nor message 13
abbrev pub IsAnother : List ℕ → Type 0
IsAnother msg = (HasId msg 1 → ⊥) × (HasId msg 13 → ⊥)

-- a call that is neither
abbrev pub Untouched : Call → Type 0
Untouched c = (msg out guest : List ℕ) → c ≡ message msg out guest → IsAnother msg

-- calls of which none is message 13
pub data WithoutPages : List Call → Type 0 where
  done : WithoutPages []
  next : (c : Call) (cs : List Call) → ((msg out guest : List ℕ) → c ≡ message msg out guest → HasId msg 13 → ⊥) → WithoutPages cs → WithoutPages (c ∷ cs)

-- the same answer, output and guest memory
pub record SameBytes (r q : Told) : Type 0 where
  pub answer : r.answer ≡ q.answer
  pub out : r.out ≡ q.out
  pub guest : r.guest ≡ q.guest

-- one output, written under a revision and under another: the same, or the same but for the four bytes behind the first 16, which are the revision
abbrev pub VersionBytes : ℕ → ℕ → List ℕ → List ℕ → List ℕ → Type 0
VersionBytes revision before out r q =
    (r ≡ q) ⊎ ((front : List ℕ) × (back : List ℕ) × (length front ≡ 16) × (r ≡ store out 0 (front ++ le 4 revision ++ back)) × (q ≡ store out 0 (front ++ le 4 before ++ back)))

pub record Revisions : Type 0 where
  -- "Prove all but message 13 and the version number once over both": two sessions that differ in the revision alone answer every other message alike, and are
  -- left alike
  pub others : (st : State) (revision : ℕ) (msg out guest : List ℕ) → IsAnother msg
      → message_of (revised_state revision st) msg out guest ≡ revised_told revision (message_of st msg out guest)
  -- a message 13 of which no entry is skipped, too: "else acts as revision 1"
  pub unskipped : (st : State) (revision : ℕ) (msg out guest : List ℕ) → HasId msg 13 → skips st msg ≡ false
      → message_of (revised_state revision st) msg out guest ≡ revised_told revision (message_of st msg out guest)
  -- with one that is skipped the answer and the bytes are the same all the same: what differs are the pages
  pub bytes : (st : State) (revision : ℕ) (msg out guest : List ℕ) → HasId msg 13
      → SameBytes (message_of (revised_state revision st) msg out guest) (message_of st msg out guest)
  -- and every message has the same code in both
  pub codes : (st : State) (revision : ℕ) (msg out guest : List ℕ) → code_of (revised_state revision st) msg out guest ≡ code_of st msg out guest
  -- "revision 2 applies no entry of a page-access message if any would be skipped", "In revision 2, message 13 loses its exception": whatever the error and the
  -- message, session, words and guest memory are as they were, but for the next event's seq
  pub spared : (st : State) (msg out guest : List ℕ) → all_or_nothing st.session.settings ≡ true → is_error (code_of st msg out guest) ≡ true
      → Spared st guest (message_of st msg out guest)
  -- GET_VERSION: all but the version number is alike
  pub version : (st : State) (revision : ℕ) (msg out guest : List ℕ) → HasId msg 1
      → ((message_of (revised_state revision st) msg out guest).answer ≡ (message_of st msg out guest).answer)
      × ((message_of (revised_state revision st) msg out guest).state ≡ revised_state revision (message_of st msg out guest).state)
      × ((message_of (revised_state revision st) msg out guest).guest ≡ (message_of st msg out guest).guest)
      × VersionBytes revision st.session.settings.revision out (message_of (revised_state revision st) msg out guest).out (message_of st msg out guest).out
  -- the other calls
  pub calls : (st : State) (revision : ℕ) (c : Call) → Untouched c → step_of (revised_state revision st) c ≡ revised_told revision (step_of st c)
  -- a list of calls without message 13 leaves such sessions alike
  pub lists : (st : State) (revision : ℕ) (cs : List Call) → WithoutPages cs → after_of (revised_state revision st) cs ≡ revised_state revision (after_of st cs)
  -- and they begin alike, fresh and from an image, which states no revision
  pub fresh : (s : Settings) (revision : ℕ) (vcpus pages : List ℕ) → So (in_range s) → So (in_range (with_revision revision s))
      → fresh_of (with_revision revision s) vcpus pages ≡ revised_told revision (fresh_of s vcpus pages)
  pub loaded : (s : Settings) (revision : ℕ) (l vcpus pages : List ℕ) → So (in_range s) → So (in_range (with_revision revision s))
      → read_of (with_revision revision s) l vcpus pages ≡ revised_told revision (read_of s l vcpus pages)
