-- The error of a message, and what it leaves as it was.
use Rattle.std.specs.Prelude.{◌≡◌, ◌⊎◌, ℕ, List, false, cond, not, ℤ, length, drop, ltb, eqb, Some, None}
use Rattle.wire.specs.Header.{whole, HeaderRead, header_of}
use Rattle.kvmi.specs.declared.Verdict.{Verdict}
use Rattle.kvmi.specs.declared.Verdict.TheVariants.{Closes, Fails, Does}
use Rattle.kvmi.specs.Limits.{least_out}
use Rattle.kvmi.specs.Settings.{all_or_nothing}
use Rattle.kvmi.specs.Codes.{OK, ENOMEM}
use Rattle.kvmi.specs.Message.{vcpu_of}
use Rattle.kvmi.specs.Verdict.{verdict}
use Rattle.session.specs.State.{State, state, with_tool, with_tool_pages, with_seq_of, is_closed}
use Rattle.session.specs.Calls.{Told}
use Rattle.change.specs.Change.{change}
use Rattle.message.specs.Message.{facts_in, code_by}

-- a whole message with an id
abbrev pub HasId : List ℕ → ℕ → Type 0
HasId msg id = (size : ℕ) × (seq : ℕ) × (header_of msg ≡ whole id size seq)

-- ---- the code with which a message is answered, where it is: that of its verdict, or of its change
abbrev pub code_headed : State → List ℕ → List ℕ → HeaderRead → ℤ
code_headed st guest d None = OK
code_headed st guest d (Some h) = code_by st guest d (verdict st.session.settings (facts_in st (length guest) (vcpu_of d)) h.id h.seq d)

-- of a message; one that is refused is not answered
abbrev pub code_of : State → List ℕ → List ℕ → List ℕ → ℤ
code_of st msg out guest =
    cond (is_closed st) OK (cond (ltb (length out) least_out) OK (code_headed st guest (drop 8 msg) (header_of msg)))

-- ---- what an error leaves
-- guest memory, session and every lent word, and so every lookup of the tables, are as they were, but for the next event's seq
abbrev pub Spared : State → List ℕ → Told → Type 0
Spared st guest r = (r.guest ≡ guest) × (r.state ≡ with_seq_of st r.state.session.tool.seq)

-- with other pages: how many, and their words
abbrev pub with_pages_of : State → ℕ → List ℕ → State
with_pages_of st count words = state (with_tool st.session (with_tool_pages st.session.tool count)) st.vcpus words

-- the same but for the pages
abbrev pub SparedButPages : State → List ℕ → Told → Type 0
SparedButPages st guest r =
    (r.guest ≡ guest) × (r.state ≡ with_pages_of (with_seq_of st r.state.session.tool.seq) r.state.session.tool.pages r.state.pages)

-- "An error changes no standing or guest memory, message 13 with -12 excepted."; W7: "In revision 2, message 13 loses its exception"
abbrev pub ErrorSpares : State → List ℕ → List ℕ → ℤ → Told → Type 0
ErrorSpares st msg guest code r =
    Spared st guest r ⊎ (HasId msg 13 × (code ≡ ENOMEM) × (all_or_nothing st.session.settings ≡ false) × SparedButPages st guest r)
