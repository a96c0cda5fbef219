-- What a session stands for: the model, and the sessions that stand for one.
use Rattle.std.specs.Prelude.{◌≡◌, ℕ, zero, suc, ◌*◌, ◌^◌, ◌≤◌, ◌<◌, List, [], ◌∷◌, Bool, cond, not, length, get_or, eqb}
use Rattle.std.proofs.Math.Bool.{So}
use Rattle.std.proofs.Math.Option.{Option, none, some}
use Rattle.kvmi.specs.Settings.{in_range}
use Rattle.kvmi.specs.Mode.{mode_of_number}
use Rattle.kvmi.specs.Tables.{Tables}
use Rattle.kvmi.specs.declared.Awaited.{Awaited}
use Rattle.kvmi.specs.Model.{awaiting, Model}
use Rattle.kvmi.specs.Valid.{Valid}
use Rattle.store.specs.Words.{field, fault_in, SINGLESTEP, AWAITED, AWAITED_SEQ, vcpu_word_count}
use Rattle.store.specs.Meaning.{msrs_of, vcpus_of}
use Rattle.page_words.specs.Meaning.{pages_of, PagesGood}
use Rattle.page_words.specs.PageWords.{page_word_count}
use Rattle.session.specs.State.{State, is_closed}

-- the event that a vCPU awaits a reply to; 0 stands for none
unfoldable pub awaited_in : List ℕ → ℕ → Option Awaited
awaited_in w i = cond (eqb (field w i AWAITED) 0) none (some (awaiting (field w i AWAITED) (field w i AWAITED_SEQ) (fault_in w i)))

-- those of n vCPUs, from one on
unfoldable pub awaited_of : List ℕ → ℕ → ℕ → List (Option Awaited)
awaited_of w i zero = []
awaited_of w i (suc n) = awaited_in w i ∷ awaited_of w (suc i) n

abbrev pub tables_of : State → Tables
tables_of st =
    record {
      events = st.session.tool.events;
      vcpus = vcpus_of st.session.shared.ready st.vcpus 0 st.session.settings.vcpus;
      msrs = msrs_of st.vcpus 0 st.session.settings.vcpus;
      pages = pages_of st.pages st.session.tool.pages;
    }

abbrev pub model_of : State → Model
model_of st =
    record {
      tables = tables_of st;
      mode = mode_of_number st.session.tool.mode;
      seq = st.session.tool.seq;
      awaited = awaited_of st.vcpus 0 st.session.settings.vcpus;
      closed = is_closed st;
    }

-- words that are determined by the model that they stand for
pub record WordsGood (st : State) : Type 0 where
  pub vcpu_words : length st.vcpus ≡ vcpu_word_count
  pub page_words : length st.pages ≡ page_word_count
  pub opened : st.session.tool.opened ≤ 1
  pub mode : st.session.tool.mode ≤ 2
  pub ready : st.session.shared.ready < 2 ^ st.session.settings.vcpus
  pub pages : PagesGood st.pages st.session.tool.pages
  -- singlestep is 0 or 1, no seq and nothing of a page fault stands without an event, and spare fields and the blocks of vCPUs that there are none of are 0
  pub flag : (i : ℕ) → field st.vcpus i SINGLESTEP ≤ 1
  pub waits : (i k : ℕ) → 4 ≤ k → k < 9 → field st.vcpus i AWAITED ≡ 0 → field st.vcpus i k ≡ 0
  pub spare : (i k : ℕ) → 9 ≤ k → k < 16 → field st.vcpus i k ≡ 0
  pub past : (j : ℕ) → st.session.settings.vcpus * 272 ≤ j → get_or st.vcpus j 0 ≡ 0

-- a session that stands for a model with valid tables
pub record WellFormed (st : State) : Type 0 where
  pub settings : So (in_range st.session.settings)
  pub words : WordsGood st
  pub tables : Valid st.session.settings (tables_of st)
