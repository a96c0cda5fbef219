-- A session as code keeps it: a small struct, the vCPU words and the page words.
use Rattle.std.specs.Prelude.{ℕ, List, Bool, eqb}
use Rattle.kvmi.specs.declared.Settings.{Settings}
use Rattle.store.specs.Words.{set_field, cleared}
use Rattle.session.specs.declared.Tool.{Tool}
use Rattle.session.specs.declared.Session.{Session}
use Rattle.session.specs.declared.Shared.{Shared}

pub record State : Type 0 where
  pub session : Session
  pub vcpus : List ℕ
  pub pages : List ℕ

abbrev pub state : Session → List ℕ → List ℕ → State
state s vcpus pages = record { session = s; vcpus = vcpus; pages = pages }

-- a session is closed unless it is marked open
abbrev pub is_closed : State → Bool
is_closed st = eqb st.session.tool.opened 0

-- ---- fresh and closed
-- every switch off, replies on, next event seq 0; open or not
abbrev pub blank_tool : ℕ → Tool
blank_tool opened = record { events = 0; opened = opened; mode = 0; seq = 0; pages = 0 }

-- no vCPU ready
abbrev pub blank_shared : Shared
blank_shared = record { ready = 0 }

abbrev pub blank_session : Settings → ℕ → Session
blank_session s opened = record { settings = s; tool = blank_tool opened; shared = blank_shared }

abbrev pub fresh_session : Settings → Session
fresh_session s = blank_session s 1

abbrev pub closed_session : Settings → Session
closed_session s = blank_session s 0

-- all words 0
abbrev pub cleared_state : Session → List ℕ → List ℕ → State
cleared_state s vcpus pages = state s (cleared vcpus) (cleared pages)

-- ---- setters
abbrev pub with_settings : Session → Settings → Session
with_settings s x = record { settings = x; tool = s.tool; shared = s.shared }

abbrev pub with_tool : Session → Tool → Session
with_tool s t = record { settings = s.settings; tool = t; shared = s.shared }

abbrev pub with_shared : Session → Shared → Session
with_shared s x = record { settings = s.settings; tool = s.tool; shared = x }

abbrev pub with_shared_ready : Shared → ℕ → Shared
with_shared_ready h x = record { ready = x }

abbrev pub with_ready_bits : Session → ℕ → Session
with_ready_bits s x = with_shared s (with_shared_ready s.shared x)

abbrev pub with_tool_events : Tool → ℕ → Tool
with_tool_events t x = record { events = x; opened = t.opened; mode = t.mode; seq = t.seq; pages = t.pages }

abbrev pub with_tool_mode : Tool → ℕ → Tool
with_tool_mode t x = record { events = t.events; opened = t.opened; mode = x; seq = t.seq; pages = t.pages }

abbrev pub with_tool_seq : Tool → ℕ → Tool
with_tool_seq t x = record { events = t.events; opened = t.opened; mode = t.mode; seq = x; pages = t.pages }

abbrev pub with_tool_pages : Tool → ℕ → Tool
with_tool_pages t x = record { events = t.events; opened = t.opened; mode = t.mode; seq = t.seq; pages = x }

abbrev pub with_seq_of : State → ℕ → State
with_seq_of st x = state (with_tool st.session (with_tool_seq st.session.tool x)) st.vcpus st.pages

abbrev pub with_vcpu_words : State → List ℕ → State
with_vcpu_words st w = state st.session w st.pages

-- one plain field of one vCPU
abbrev pub with_field : State → ℕ → ℕ → ℕ → State
with_field st vcpu k x = with_vcpu_words st (set_field st.vcpus vcpu k x)
