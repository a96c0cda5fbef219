-- Valid tables: what the settings allow and an image can state.
use Rattle.std.specs.Prelude.{◌≤◌, Bool, ◌&&◌, length}
use Rattle.std.proofs.Math.Bool.{So}
use Rattle.kvmi.specs.declared.Settings.{Settings}
use Rattle.kvmi.specs.Limits.{page_limit}
use Rattle.kvmi.specs.Bits.{every}
use Rattle.kvmi.specs.Ascending.{rising}
use Rattle.kvmi.specs.Tables.{Vcpu, Page, Tables, msr_key, page_key}
use Rattle.kvmi.specs.Image.{vm_form, vc_form, ms_form, pa_form, vm_may, vc_may, pa_may}

-- a vCPU's record that has the form and is permitted, and a page's
abbrev pub vc_good : Settings → Vcpu → Bool
vc_good s v = vc_form v && vc_may s v

abbrev pub pa_good : Settings → Page → Bool
pa_good s p = pa_form p && pa_may s p

-- what every list of calls leaves, and every image that loads states
pub record Valid (s : Settings) (t : Tables) : Type 0 where
  -- as many vCPUs as the settings say, VM event switches that message 5 sets and the settings allow
  pub vm : So (vm_form (length t.vcpus) t.events)
  pub may : So (vm_may s (length t.vcpus) t.events)
  -- each vCPU's record
  pub vcs : So (every (vc_good s) t.vcpus)
  -- MSR switches of ready vCPUs, ascending
  pub mss : So (every (ms_form t.vcpus) t.msrs)
  pub ms_up : So (rising msr_key 0 t.msrs)
  -- pages below rwx that the settings permit (without execute-only pages none at access 4), ascending, at most 1,024
  pub pas : So (every (pa_good s) t.pages)
  pub pa_up : So (rising page_key 0 t.pages)
  pub pa_few : length t.pages ≤ page_limit
