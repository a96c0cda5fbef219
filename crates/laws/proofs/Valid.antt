-- What valid tables say of their numbers, and what must be shown again when one list of them is another. Assumes nothing.
use mathlib.Core.Path.{◌≡◌, refl, sym, ap, ◌∙◌}
use Prim.Native.Nat.{ℕ, zero, suc, ◌+◌, ◌*◌, ◌^◌, ◌≤◌, ◌<◌, zero-le}
use native.Mathlib.Omega.{arith}
use mathlib.Core.List.{List, [], ◌∷◌}
use mathlib.Core.Bool.{So}
use lib.ListN.{length}
use lib.Dec.{leb, eqb, ltb}
use borrow.Author.Tests.{leb-true, ltb-true}
use Rattle.std.specs.Prelude.{Some}
use Rattle.msrs.specs.Place.{msr_place, is_msr}
use Rattle.msrs.proofs.Ranges.{number_of, at_place, in-places, rising-places, small}
use Rattle.kvmi.specs.declared.Settings.{Settings}
use Rattle.kvmi.specs.Bits.{every, bits_have, among}
use Rattle.kvmi.specs.Ascending.{rising}
use Rattle.kvmi.specs.Tables.{Vcpu, Msr, Page, Tables, msr_key, page_key, with_vm_events, with_vcpus, with_msrs, with_pages}
use Rattle.kvmi.specs.Message.{is_vm_event, is_vcpu_event}
use Rattle.kvmi.specs.Image.{vm_form, vc_form, ms_form, pa_form, vm_may, vc_may, pa_may, record_count}
use Rattle.kvmi.specs.Limits.{page_limit}
use Rattle.kvmi.specs.Valid.{Valid, vc_good, pa_good}
use Rattle.laws.proofs.Bool.{and_l, and_r, every-head, every-tail, among-every}
use Rattle.laws.proofs.Bits.{bits_small}
use Rattle.laws.proofs.Ascending.{Side, below, level, over, side, rising-low, rising-rest}

-- ---- the numbers of a record that has its form
pub vm-few : (n e : ℕ) → So (vm_form n e) → n ≤ 16
unfolding vm_form
vm-few n e h = leb-true n 16 (search (and_l, and_r))

pub vm-bits : (n e : ℕ) → So (vm_form n e) → e < 2 ^ 16
unfolding vm_form
vm-bits n e h = bits_small is_vm_event 0 16 e (search (and_l, and_r))

-- an MSR switch's is one that has a place
pub ms-msr : (vs : List Vcpu) (m : Msr) → So (ms_form vs m) → So (is_msr m.msr)
unfolding ms_form
ms-msr vs m h = search (and_l, and_r)

pub ms-numbers : (vs : List Vcpu) (m : Msr) → So (ms_form vs m) → (m.vcpu < length vs) × (m.msr < 2 ^ 32)
unfolding ms_form
ms-numbers vs m h =
    (ltb-true m.vcpu (length vs) (search (and_l, and_r)), small m.msr (ms-msr vs m h))

among-small : (a : ℕ) → So (among a (0 ∷ 1 ∷ 3 ∷ 4 ∷ 5 ∷ [])) → a ≤ 5
among-small a h = leb-true a 5 (among-every (λ y. leb y 5) a (0 ∷ 1 ∷ 3 ∷ 4 ∷ 5 ∷ []) refl h)

pub pa-numbers : (p : Page) → So (pa_form p) → (p.view ≤ 7) × (p.access ≤ 5) × (p.page < 2 ^ 52)
unfolding pa_form
pa-numbers p h =
    (leb-true p.view 7 (search (and_l, and_r)), among-small p.access (search (and_l, and_r)), ltb-true p.page (2 ^ 52) (search (and_l, and_r)))

pub vc-numbers : (v : Vcpu) → So (vc_form v) → (v.crs ≤ 7) × (v.events < 2 ^ 16) × (v.pauses ≤ 8)
unfolding vc_form
vc-numbers v h =
    (leb-true v.crs 7 (search (and_l, and_r)), bits_small is_vcpu_event 0 16 v.events (search (and_l, and_r)), leb-true v.pauses 8 (search (and_l, and_r)))

-- ---- the number of MSR switches: each has a place of its own among 16 times 16,384
abbrev rank : Msr → ℕ
rank m = m.vcpu * 16384 + number_of (msr_place m.msr)

ms-place : (vs : List Vcpu) (m : Msr) → So (ms_form vs m) → msr_place m.msr ≡ Some (number_of (msr_place m.msr))
ms-place vs m h = at_place m.msr (ms-msr vs m h)

rank_up : (vs : List Vcpu) (m k : Msr) → So (ms_form vs m) → So (ms_form vs k) → msr_key m < msr_key k → rank m < rank k
rank_up vs m k g h l = step (side m.vcpu k.vcpu)
  where
    step : Side m.vcpu k.vcpu → rank m < rank k
    step (below p e) = omega (arith, in-places m.msr _ (ms-place vs m g))
    step (level p e) = let u = rising-places m.msr k.msr _ _ (ms-place vs m g) (ms-place vs k h) (omega arith) in omega arith
    step (over p e) = let u = (ms-numbers vs m g).1 in let w = (ms-numbers vs k h).1 in absurd (omega arith)

rank-small : (vs : List Vcpu) (m : Msr) → length vs ≤ 16 → So (ms_form vs m) → rank m < 262144
rank-small vs m w g = let v = (ms-numbers vs m g).0 in let u = in-places m.msr _ (ms-place vs m g) in omega arith

few-msrs : (vs : List Vcpu) (lo r : ℕ) (ms : List Msr) → length vs ≤ 16 → ((m : Msr) → So (ms_form vs m) → lo ≤ msr_key m → r ≤ rank m) → r ≤ 262144
    → So (every (ms_form vs) ms) → So (rising msr_key lo ms) → r + length ms ≤ 262144
few-msrs vs lo r [] w q z h g = omega arith
few-msrs vs lo r (m ∷ ms) w q z h g =
    let own = every-head (ms_form vs) m ms h in
    let here : r ≤ rank m = q m own (rising-low msr_key lo m ms g) in
    let ih = few-msrs vs (suc (msr_key m)) (suc (rank m)) ms w (λ k gk lk. rank_up vs m k own gk lk) (rank-small vs m w own) (every-tail (ms_form vs) m ms h)
    (rising-rest msr_key lo m ms g) in
    omega arith

-- the count in EN fits its four bytes
pub count_small : (s : Settings) (t : Tables) → Valid s t → record_count t < 256 ^ 4
count_small s t a =
    let n = vm-few (length t.vcpus) t.events a.vm in
    let few = few-msrs t.vcpus 0 0 t.msrs n (λ m g l. zero-le) zero-le a.mss a.ms_up in
    let w = a.pa_few in
    omega arith

-- ---- valid tables with other VM event switches, vCPUs, MSR switches or pages: the rest is as it was
module _ (s : Settings) (t : Tables) (a : Valid s t) where
  pub valid-events : (e : ℕ) → So (vm_form (length t.vcpus) e) → So (vm_may s (length t.vcpus) e) → Valid s (with_vm_events t e)
  valid-events e vm may =
      record { vm = vm; may = may; vcs = a.vcs; mss = a.mss; ms_up = a.ms_up; pas = a.pas; pa_up = a.pa_up; pa_few = a.pa_few }

  pub valid-vcpus : (vs : List Vcpu) → length vs ≡ length t.vcpus → So (every (vc_good s) vs) → So (every (ms_form vs) t.msrs) → Valid s (with_vcpus t vs)
  valid-vcpus vs e vcs mss =
      record { vm = rw e a.vm; may = rw e a.may; vcs = vcs; mss = mss; ms_up = a.ms_up; pas = a.pas; pa_up = a.pa_up; pa_few = a.pa_few }

  pub valid-msrs : (ms : List Msr) → So (every (ms_form t.vcpus) ms) → So (rising msr_key 0 ms) → Valid s (with_msrs t ms)
  valid-msrs ms mss up =
      record { vm = a.vm; may = a.may; vcs = a.vcs; mss = mss; ms_up = up; pas = a.pas; pa_up = a.pa_up; pa_few = a.pa_few }

  pub valid-pages : (ps : List Page) → So (every (pa_good s) ps) → So (rising page_key 0 ps) → length ps ≤ page_limit → Valid s (with_pages t ps)
  valid-pages ps pas up few =
      record { vm = a.vm; may = a.may; vcs = a.vcs; mss = a.mss; ms_up = a.ms_up; pas = pas; pa_up = up; pa_few = few }
