-- Every call leaves tables that an image can state. Assumes nothing.
use mathlib.Core.Path.{◌≡◌, refl, sym, ap, ◌∙◌}
use Prim.Native.Nat.{ℕ, zero, suc, ◌+◌, ◌*◌, ◌-◌, ◌/◌, ◌^◌, ◌≤◌, ◌<◌, zero-le}
use native.Mathlib.Omega.{arith}
use mathlib.Core.List.{List, [], ◌∷◌, ◌++◌}
use mathlib.Core.Logic.{◌≢◌}
use mathlib.Core.Bool.{Bool, true, false, cond, not, ◌&&◌, ◌||◌, So}
use lib.ListN.{length, get_or, set, replicate, length-set, length-replicate}
use lib.Seq.{get_or-set_same, get_or-set_other, set_out}
use lib.Dec.{leb, eqb, ltb, lit<}
use native.Mathlib.Nat.{zero-add}
use borrow.Author.Tests.{leb-true, leb-false, ltb-true, eqb-true, eqb-false, le-leb, lt-ltb, eq-eqb, ne_eqb}
use Rattle.kvmi.specs.declared.Settings.{Settings}
use Rattle.kvmi.specs.Bits.{every, among, put_bit, bits_have}
use Rattle.kvmi.specs.Settings.{in_range, allows_event, can_singlestep}
use Rattle.kvmi.specs.Tables.{Vcpu, Msr, Page, Tables, resting, empty_tables, vcpu_at, set_vcpu, with_ready, with_singlestep, with_crs, with_events, with_pauses, cr_bit}
use Rattle.kvmi.specs.Message.{is_vm_event, is_vcpu_event}
use Rattle.kvmi.specs.Image.{vm_form, is_idle, vc_form, ms_form, vm_may, may_enable, vc_may}
use Rattle.laws.proofs.Bool.{and_l, and_r, and_i, or_l, or_r, either, test, clash, every-head, every-tail, every-imp, every-get_d, every_set, every-replicate, small-among}
use Rattle.laws.proofs.Bits.{bits-zero, bits_put, put-below}
use Rattle.kvmi.specs.Valid.{Valid, vc_good}
use Rattle.laws.proofs.Valid.{valid-vcpus}

resting-good : (s : Settings) → So (vc_good s resting)
unfolding vc_form is_idle vc_may
resting-good s =
    and_i (vc_form resting) (vc_may s resting)
    (and_i _ _ (and_i _ _ (and_i (leb 0 7) _ refl (bits-zero is_vcpu_event 0 16)) refl) refl)
    (and_i _ _ (and_i _ _ (bits-zero (may_enable s) 0 16) refl) refl)

-- "A fresh session": and so is a closed one
pub empty-valid : (s : Settings) → So (in_range s) → Valid s (empty_tables s.vcpus)
unfolding in_range vm_form vm_may
empty-valid s ok =
    record {
      vm = rw (length-replicate s.vcpus resting) (and_i (leb 1 s.vcpus && leb s.vcpus 16) _ (search (and_l, and_r)) (bits-zero is_vm_event 0 16));
      may = rw (length-replicate s.vcpus resting) (and_i _ _ (eq-eqb s.vcpus s.vcpus refl) (bits-zero (allows_event s) 0 16));
      vcs = every-replicate (vc_good s) s.vcpus resting (resting-good s);
      mss = refl;
      ms_up = refl;
      pas = refl;
      pa_up = refl;
      pa_few = zero-le;
    }

pub vcpu-good : (s : Settings) (t : Tables) (i : ℕ) → Valid s t → So (vc_good s (vcpu_at t i))
vcpu-good s t i a = every-get_d (vc_good s) t.vcpus i resting (resting-good s) a.vcs

-- an MSR switch of a vCPU stays in place where no vCPU that was ready ceases to be
ms-form-set : (vs : List Vcpu) (i : ℕ) (v : Vcpu) → ((get_or vs i resting).ready ≡ true → v.ready ≡ true) → (m : Msr) → So (ms_form vs m) → So (ms_form (set vs i v) m)
unfolding ms_form
ms-form-set vs i v keep m h =
    let here : ltb m.vcpu (length vs) ≡ true = search (and_l, and_r) in
    let was : (get_or vs m.vcpu resting).ready ≡ true = search (and_l, and_r) in
    let now : (get_or (set vs i v) m.vcpu resting).ready ≡ true = test (eqb m.vcpu i)
    (λ e. let same = eqb-true m.vcpu i e in
    let w : i < length vs = rw same at (ltb-true m.vcpu (length vs) here) in
    rw (same, get_or-set_same vs i v resting w) (keep (rw same at was)))
    (λ e. rw (get_or-set_other vs i m.vcpu v resting (eqb-false m.vcpu i e)) was) in
    rw length-set (and_i _ _ (and_i _ _ here (search (and_l, and_r))) now)

pub vcpu-valid : (s : Settings) (t : Tables) (i : ℕ) (v : Vcpu) → So (vc_good s v) → ((vcpu_at t i).ready ≡ true → v.ready ≡ true) → Valid s t → Valid s (set_vcpu t i v)
vcpu-valid s t i v good keep a =
    valid-vcpus s t a (set t.vcpus i v) (length-set t.vcpus i v) (every_set (vc_good s) t.vcpus i v good a.vcs)
    (every-imp (ms_form t.vcpus) (ms_form (set t.vcpus i v)) (λ m h. ms-form-set t.vcpus i v keep m h) t.msrs a.mss)

-- ---- small numbers
pub vm-event-small : (e : ℕ) → So (is_vm_event e) → e < 16
unfolding is_vm_event
vm-event-small e h = small-among 16 e (1 ∷ 12 ∷ []) refl h

pub vcpu-event-small : (e : ℕ) → So (is_vcpu_event e) → e < 16
unfolding is_vcpu_event
vcpu-event-small e h = small-among 16 e (3 ∷ 4 ∷ 5 ∷ 7 ∷ 8 ∷ 9 ∷ 10 ∷ 11 ∷ 14 ∷ []) refl h

pub cr-bit-small : (cr : ℕ) → cr_bit cr < 3
unfolding cr_bit
cr-bit-small cr = step (eqb cr 0) (eqb cr 3)
  where
    step : (a b : Bool) → cond a 0 (cond b 1 2) < 3
    step true b = lit< tt
    step false true = lit< tt
    step false false = lit< tt

-- ---- one vCPU's record
module _ (s : Settings) (v : Vcpu) (good : So (vc_good s v)) where
  -- its tests, taken apart
  form : So (vc_form v)
  form = and_l (vc_form v) (vc_may s v) good

  may : So (vc_may s v)
  may = and_r (vc_form v) (vc_may s v) good

  form_crs : So (leb v.crs 7)
  unfolding vc_form
  form_crs = let h = form in search (and_l, and_r)

  form_events : So (bits_have is_vcpu_event 0 16 v.events)
  unfolding vc_form
  form_events = let h = form in search (and_l, and_r)

  form_pauses : So (leb v.pauses 8)
  unfolding vc_form
  form_pauses = let h = form in search (and_l, and_r)

  form_ready : So (v.ready || is_idle v)
  unfolding vc_form
  form_ready = let h = form in search (and_l, and_r)

  may_events : So (bits_have (may_enable s) 0 16 v.events)
  unfolding vc_may
  may_events = let h = may in search (and_l, and_r)

  may_pauses : So (eqb v.pauses 0 || allows_event s 2)
  unfolding vc_may
  may_pauses = let h = may in search (and_l, and_r)

  may_step : So (not v.singlestep || can_singlestep s)
  unfolding vc_may
  may_step = let h = may in search (and_l, and_r)

-- put together again, of a vCPU that is ready
good_of : (s : Settings) (v : Vcpu) → v.ready ≡ true → So (leb v.crs 7) → So (bits_have is_vcpu_event 0 16 v.events) → So (leb v.pauses 8)
    → So (bits_have (may_enable s) 0 16 v.events) → So (eqb v.pauses 0 || allows_event s 2) → So (not v.singlestep || can_singlestep s) → So (vc_good s v)
unfolding vc_form vc_may
good_of s v r a b c d e f =
    and_i (vc_form v) (vc_may s v) (and_i _ _ (and_i _ _ (and_i (leb v.crs 7) _ a b) c) (or_l v.ready (is_idle v) r)) (and_i _ _ (and_i (bits_have (may_enable s) 0 16 v.events) _ d e) f)

pub ready-good : (s : Settings) (v : Vcpu) → So (vc_good s v) → So (vc_good s (with_ready v true))
ready-good s v g = good_of s (with_ready v true) refl (form_crs s v g) (form_events s v g) (form_pauses s v g) (may_events s v g) (may_pauses s v g) (may_step s v g)

-- one pause less
pub unpaused-good : (s : Settings) (v : Vcpu) → 1 ≤ v.pauses → So (vc_good s v) → (So (vc_good s (with_pauses v (v.pauses - 1)))) × (v.ready ≡ true)
unfolding is_idle
unpaused-good s v h g =
    let some : eqb v.pauses 0 ≡ false = ne_eqb v.pauses 0 (λ e. omega arith) in
    let is_ready : v.ready ≡ true = either v.ready (is_idle v) (form_ready s v g) (λ p. p) (λ p. let z : So (eqb v.pauses 0) = search (and_l, and_r) in clash z some) in
    let allowed : So (allows_event s 2) = either (eqb v.pauses 0) (allows_event s 2) (may_pauses s v g) (λ p. clash p some) (λ p. p) in
    let few = leb-true v.pauses 8 (form_pauses s v g) in (
      good_of s (with_pauses v (v.pauses - 1)) is_ready (form_crs s v g) (form_events s v g) (le-leb (v.pauses - 1) 8 (omega arith)) (may_events s v g)
          (or_r (eqb (v.pauses - 1) 0) (allows_event s 2) allowed) (may_step s v g),
      is_ready,
    )

-- one pause more
pub paused-good : (s : Settings) (v : Vcpu) → v.ready ≡ true → v.pauses < 8 → So (allows_event s 2) → So (vc_good s v) → So (vc_good s (with_pauses v (v.pauses + 1)))
paused-good s v r h m g =
    good_of s (with_pauses v (v.pauses + 1)) r (form_crs s v g) (form_events s v g) (le-leb (v.pauses + 1) 8 (omega arith)) (may_events s v g)
    (or_r (eqb (v.pauses + 1) 0) (allows_event s 2) m) (may_step s v g)

pub event-good : (s : Settings) (v : Vcpu) (event : ℕ) (on : Bool) → v.ready ≡ true → So (is_vcpu_event event) → (on ≡ true → So (may_enable s event)) → So (vc_good s v)
    → So (vc_good s (with_events v (put_bit v.events event on)))
event-good s v event on r h m g =
    let small = vcpu-event-small event h in
    good_of s (with_events v (put_bit v.events event on)) r (form_crs s v g) (bits_put is_vcpu_event 0 16 v.events event on (form_events s v g) small (λ e. rw zero-add h)) (form_pauses s v g)
    (bits_put (may_enable s) 0 16 v.events event on (may_events s v g) small (λ e. rw zero-add (m e))) (may_pauses s v g) (may_step s v g)

pub cr-good : (s : Settings) (v : Vcpu) (cr : ℕ) (on : Bool) → v.ready ≡ true → So (vc_good s v) → So (vc_good s (with_crs v (put_bit v.crs (cr_bit cr) on)))
cr-good s v cr on r g =
    let was = leb-true v.crs 7 (form_crs s v g) in
    let now = put-below 3 v.crs (cr_bit cr) on (omega arith) (cr-bit-small cr) in
    good_of s (with_crs v (put_bit v.crs (cr_bit cr) on)) r (le-leb (put_bit v.crs (cr_bit cr) on) 7 (omega arith)) (form_events s v g) (form_pauses s v g) (may_events s v g) (may_pauses s v g) (may_step s v g)

pub singlestep-good : (s : Settings) (v : Vcpu) (on : Bool) → v.ready ≡ true → So (can_singlestep s) → So (vc_good s v) → So (vc_good s (with_singlestep v on))
singlestep-good s v on r m g =
    good_of s (with_singlestep v on) r (form_crs s v g) (form_events s v g) (form_pauses s v g) (may_events s v g) (may_pauses s v g) (or_r (not on) (can_singlestep s) m)
