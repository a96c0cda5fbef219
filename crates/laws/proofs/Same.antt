-- Valid tables with equal lookups are equal. Assumes nothing.
use mathlib.Core.Path.{◌≡◌, refl, sym, ap, ◌∙◌}
use Prim.Native.Nat.{ℕ, zero, suc, ◌+◌, ◌/◌, ◌^◌, ◌≤◌, ◌<◌}
use native.Mathlib.Nat.{pow-suc}
use native.Mathlib.Omega.{arith}
use mathlib.Core.List.{List, [], ◌∷◌}
use mathlib.Core.Bool.{Bool, true, false, not, ◌&&◌, So, and-false}
use lib.ListN.{length}
use lib.Seq.{ext_get_or}
use lib.Dec.{eqb, ltb}
use borrow.Author.Tests.{eqb-true, lt-ltb, ne_eqb}
use Rattle.msrs.specs.Place.{is_msr}
use Rattle.kvmi.specs.declared.Settings.{Settings}
use Rattle.kvmi.specs.Bits.{is_on, every}
use Rattle.kvmi.specs.Tables.{Vcpu, Msr, Page, Tables, resting, vcpu_at, is_cr, cr_bit, vm_event_on, event_on, cr_on, msr_in, msr_on, access, SameTables}
use Rattle.kvmi.specs.Image.{vm_may, ms_form, pa_form, pa_may, vc_form, vc_may}
use Rattle.laws.proofs.Bool.{and_l, and_r, test, clash, every-head, every-tail, every-imp}
use Rattle.laws.proofs.Bits.{on_none, on-suc, bits-ext}
use Rattle.laws.proofs.Lookup.{paged, lowered, numbered, access-ext, msr-ext}
use Rattle.kvmi.specs.Valid.{Valid, vc_good, pa_good}
use Rattle.laws.proofs.Valid.{vm-bits, vm-few, vc-numbers, ms-msr, ms-numbers, pa-numbers}
use Rattle.laws.proofs.Kept.{vcpu-good}

-- a set of numbers below n has none above
pub on-high : (n w k : ℕ) → w < 2 ^ n → n ≤ k → is_on w k ≡ false
on-high zero w k h g = let z : w ≡ 0 = omega arith in rw z (on_none k)
on-high (suc n) w zero h g = absurd (omega arith)
on-high (suc n) w (suc k) h g = let p = pow-suc 2 n in on-suc w k ∙ on-high n (w / 2) k (omega arith) (omega arith)

pub count-is : (s : Settings) (t : Tables) → Valid s t → length t.vcpus ≡ s.vcpus
unfolding vm_may
count-is s t a = let h = a.may in eqb-true (length t.vcpus) s.vcpus (search (and_l, and_r))

-- a vCPU's record, and tables, are what their fields are
pub vcpu-ext : (v w : Vcpu) → v.ready ≡ w.ready → v.singlestep ≡ w.singlestep → v.crs ≡ w.crs → v.events ≡ w.events → v.pauses ≡ w.pauses → v ≡ w
vcpu-ext v w ready singlestep crs events pauses =
    λ j. record { ready = ready j; singlestep = singlestep j; crs = crs j; events = events j; pauses = pauses j }

pub tables-ext : (t u : Tables) → t.events ≡ u.events → t.vcpus ≡ u.vcpus → t.msrs ≡ u.msrs → t.pages ≡ u.pages → t ≡ u
tables-ext t u events vcpus msrs pages = λ j. record { events = events j; vcpus = vcpus j; msrs = msrs j; pages = pages j }

-- CR switches are those of CR0, CR3 and CR4
crs-same : (v w : ℕ) → v < 8 → w < 8 → is_on v 0 ≡ is_on w 0 → is_on v 1 ≡ is_on w 1 → is_on v 2 ≡ is_on w 2 → v ≡ w
crs-same v w h g a b c = bits-ext 3 v w h g at
  where
    at : (k : ℕ) → is_on v k ≡ is_on w k
    at zero = a
    at (suc zero) = b
    at (suc (suc zero)) = c
    at (suc (suc (suc k))) = on-high 3 v (suc (suc (suc k))) h (omega arith) ∙ sym (on-high 3 w (suc (suc (suc k))) g (omega arith))

module _ (s : Settings) (t u : Tables) (a : Valid s t) (b : Valid s u) (e : SameTables t u) where
  vcpu-same : (i : ℕ) → vcpu_at t i ≡ vcpu_at u i
  unfolding event_on cr_on is_cr cr_bit
  vcpu-same i =
      let v = vc-numbers (vcpu_at t i) (and_l _ (vc_may s (vcpu_at t i)) (vcpu-good s t i a)) in
      let w = vc-numbers (vcpu_at u i) (and_l _ (vc_may s (vcpu_at u i)) (vcpu-good s u i b)) in
      let crs = crs-same (vcpu_at t i).crs (vcpu_at u i).crs (omega arith) (omega arith) (e.crs i 0) (e.crs i 3) (e.crs i 4) in
      let events = bits-ext 16 (vcpu_at t i).events (vcpu_at u i).events v.1 w.1 (λ k. e.events i k) in
      vcpu-ext (vcpu_at t i) (vcpu_at u i) (e.ready i) (e.singlestep i) crs events (e.pauses i)

  vcpus-same : t.vcpus ≡ u.vcpus
  vcpus-same = ext_get_or resting t.vcpus u.vcpus (count-is s t a ∙ sym (count-is s u b)) (λ i _. vcpu-same i)

  vm-events-same : t.events ≡ u.events
  unfolding vm_event_on
  vm-events-same = bits-ext 16 t.events u.events (vm-bits _ t.events a.vm) (vm-bits _ u.events b.vm) (λ k. e.vm_events k)

pub numbered-all : (s : Settings) (t : Tables) → Valid s t → So (every numbered t.msrs)
numbered-all s t a =
    every-imp (ms_form t.vcpus) numbered (λ m h. let w = ms-numbers t.vcpus m h in lt-ltb m.msr (2 ^ 64) (omega arith)) t.msrs a.mss

pub paged-all : (s : Settings) (t : Tables) → Valid s t → So (every paged t.pages)
paged-all s t a =
    every-imp (pa_good s) paged (λ p h. let w = pa-numbers p (and_l (pa_form p) (pa_may s p) h) in lt-ltb p.page (2 ^ 64) (omega arith)) t.pages a.pas

pub lowered-all : (s : Settings) (t : Tables) → Valid s t → So (every lowered t.pages)
lowered-all s t a =
    every-imp (pa_good s) lowered (λ p h. let w = pa-numbers p (and_l (pa_form p) (pa_may s p) h) in ap not (ne_eqb p.access 7 (λ q. omega arith))) t.pages a.pas

-- what has no place has no record
msr-none : (vs : List Vcpu) (ms : List Msr) (v n : ℕ) → So (every (ms_form vs) ms) → is_msr n ≡ false → msr_in ms v n ≡ false
unfolding msr_in
msr-none vs [] v n h e = refl
msr-none vs (m ∷ ms) v n h e =
    let other = ne_eqb m.msr n (λ p. clash (ms-msr vs m (every-head (ms_form vs) m ms h)) (rw p e)) in
    rw (other, and-false, msr-none vs ms v n (every-tail (ms_form vs) m ms h) e)

pub msr-on : (s : Settings) (t : Tables) (v n : ℕ) → Valid s t → msr_on t v n ≡ msr_in t.msrs v n
unfolding msr_on
msr-on s t v n a = test (is_msr n) (λ h. rw h) (λ h. rw h (sym (msr-none t.vcpus t.msrs v n a.mss h)))

pub same-equal : (s : Settings) (t u : Tables) → Valid s t → Valid s u → SameTables t u → t ≡ u
unfolding access
same-equal s t u a b e =
    let events = vm-events-same s t u a b e in
    let vcpus = vcpus-same s t u a b e in
    let msrs = msr-ext t.msrs u.msrs a.ms_up (numbered-all s t a) b.ms_up (numbered-all s u b) (λ v n. sym (msr-on s t v n a) ∙ e.msrs v n ∙ msr-on s u v n b) in
    let pages = access-ext t.pages u.pages a.pa_up (paged-all s t a) (lowered-all s t a) b.pa_up (paged-all s u b) (lowered-all s u b) (λ v n. e.pages v n) in
    tables-ext t u events vcpus msrs pages

pub equal-same : (t u : Tables) → t ≡ u → SameTables t u
equal-same t u e =
    record {
      vm_events = λ k. ap (λ (x : Tables). vm_event_on x k) e;
      ready = λ v. ap (λ (x : Tables). (vcpu_at x v).ready) e;
      events = λ v k. ap (λ (x : Tables). event_on x v k) e;
      crs = λ v k. ap (λ (x : Tables). cr_on x v k) e;
      msrs = λ v k. ap (λ (x : Tables). msr_on x v k) e;
      singlestep = λ v. ap (λ (x : Tables). (vcpu_at x v).singlestep) e;
      pauses = λ v. ap (λ (x : Tables). (vcpu_at x v).pauses) e;
      pages = λ v n. ap (λ (x : Tables). access x v n) e;
    }
