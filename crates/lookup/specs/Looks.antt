-- What a session's lookups give is what a model has: document 01's standing and what is beside it, read by lookup.
use Rattle.std.specs.Prelude.{◌≡◌, ℕ, not, length, get_or}
use Rattle.kvmi.specs.Bits.{bit}
use Rattle.kvmi.specs.Tables.{vcpu_at, vm_event_on, event_on, cr_on, msr_on, access}
use Rattle.kvmi.specs.Model.{Model, awaited_by}
use Rattle.kvmi.specs.Verdict.{awaited_event}
use Rattle.session.specs.State.{State}
use Rattle.lookup.specs.Lookup.{look_open, look_ready, look_vm_event, look_event, look_cr, look_msr, look_singlestep, look_pauses, look_awaited, look_count, look_access, no_page, look_page}

-- "Standing: VM event switches; for each vCPU its ready mark, event switches, CR0/CR3/CR4 switches, MSR switches, singlestep and queued pauses (0..8);
-- for each view and page number an access. Beside the standing: [..] each vCPU's awaited event, and whether closed."
pub record Looks (st : State) (m : Model) : Type 0 where
  pub opened : look_open st.session ≡ bit (not m.closed)
  pub ready : (vcpu : ℕ) → look_ready st.session vcpu ≡ bit (vcpu_at m.tables vcpu).ready
  pub vm_events : (event : ℕ) → look_vm_event st.session event ≡ bit (vm_event_on m.tables event)
  pub events : (vcpu event : ℕ) → look_event st.session st.vcpus vcpu event ≡ bit (event_on m.tables vcpu event)
  pub crs : (vcpu cr : ℕ) → look_cr st.session st.vcpus vcpu cr ≡ bit (cr_on m.tables vcpu cr)
  pub msrs : (vcpu msr : ℕ) → look_msr st.session st.vcpus vcpu msr ≡ bit (msr_on m.tables vcpu msr)
  pub singlestep : (vcpu : ℕ) → look_singlestep st.session st.vcpus vcpu ≡ bit (vcpu_at m.tables vcpu).singlestep
  pub pauses : (vcpu : ℕ) → look_pauses st.session st.vcpus vcpu ≡ (vcpu_at m.tables vcpu).pauses
  pub awaited : (vcpu : ℕ) → look_awaited st.session st.vcpus vcpu ≡ awaited_event (awaited_by m vcpu)
  -- the pages below rwx, in the image's order, and each page's access
  pub count : look_count st.session ≡ length m.tables.pages
  pub pages : (i : ℕ) → look_page st.session st.pages i ≡ get_or m.tables.pages i no_page
  pub accesses : (view page : ℕ) → look_access st.session st.pages view page ≡ access m.tables view page
