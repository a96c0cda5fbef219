-- Demand 2, proved. Assumes nothing.
use mathlib.Core.Path.{◌≡◌, refl, sym, ap, ◌∙◌, subst}
use mathlib.Core.Logic.{◌≢◌}
use Prim.Native.Nat.{ℕ, ◌+◌, ◌*◌, ◌/◌, ◌<◌}
use native.Mathlib.Omega.{arith}
use mathlib.Core.List.{List}
use mathlib.Core.Bool.{Bool, ◌&&◌, So}
use mathlib.Core.Option.{none}
use lib.IntN.{ℤ}
use lib.ListN.{get_or, drop, get_or-eq_default}
use lib.Seq.{get_or-take, get_or-drop}
use lib.Dec.{ltb}
use borrow.Author.Tests.{ltb-true, ltb-false}
use Rattle.std.specs.Prelude.{Option, Some, None}
use Rattle.msrs.specs.Place.{msr_place, is_msr}
use Rattle.msrs.proofs.Ranges.{in-places}
use Rattle.kvmi.specs.declared.Settings.{Settings}
use Rattle.kvmi.specs.Bits.{is_on}
use Rattle.kvmi.specs.Codes.{is_error}
use Rattle.kvmi.specs.Tables.{Vcpu, resting, vcpu_at, is_cr, cr_bit, event_on, cr_on, msr_in, msr_on}
use Rattle.kvmi.specs.Model.{Model}
use Rattle.kvmi.specs.Call.{Call, step, after}
use Rattle.store.specs.Words.{field, switch_on, read_switch, msr_bit_on, AWAITED, AWAITED_SEQ}
use Rattle.store.specs.Meaning.{msrs_of, vcpus_of}
use Rattle.session.specs.declared.Session.{Session}
use Rattle.session.specs.State.{State}
use Rattle.session.specs.Meaning.{awaited_of, tables_of, model_of}
use Rattle.message.specs.Message.{message_of}
use Rattle.message.proofs.Kept.{message-moves}
use Rattle.std.specs.Prelude.{Some, None as no_error}
use Rattle.stream.specs.Line.{error_of}
use Rattle.refine.specs.Errors.{code_of, ErrorSpares}
use Rattle.history.specs.History.{step_of, after_of}
use Rattle.history.specs.Demand2.{SameStep, WritesError, Names, SameVcpu, Demand2}
use Rattle.laws.proofs.Bool.{test}
use Rattle.laws.proofs.Same.{equal-same}
use Rattle.refine.proofs.Msrs.{msrs-look}
use Rattle.refine.proofs.Vcpus.{vcpus-length, vcpus-at, fields-same}
use Rattle.refine.proofs.Awaited.{awaited-length, awaited-at, awaited-fields}
use Rattle.refine.proofs.Theorems.{block, message-apart, error-spares}
use Rattle.history.proofs.Lists.{Stands, step-stands, after-stands, step_same, began-stands}
use Rattle.history.proofs.Errors.{code-written}

-- ---- each call is the model's
stands-acted : (s : Settings) (st : State) (m : Model) (c : Call) → Stands s st m → SameStep (step_of st c) (step s m c)
stands-acted s st m c f =
    let same = step_same s st m c f in
    let model = (step-stands s st m c f).model in
    record {
      answer = same.0;
      out = same.1;
      guest = same.2;
      tables = equal-same (tables_of (step_of st c).state) (step s m c).model.tables (ap (λ (k : Model). k.tables) model);
      model = model;
    }

-- ---- an error in the bytes written
error-written : (st : State) (msg out guest : List ℕ) (code : ℤ) → So (is_error code) → WritesError (message_of st msg out guest) code
    → ErrorSpares st msg guest code (message_of st msg out guest)
unfolding error_of
error-written st msg out guest code e w =
    let r = message_of st msg out guest in
    let told = code-written st msg out guest (some_bytes r.out r.answer.count w) in
    let same : code_of st msg out guest ≡ code = written_same (sym told ∙ w) in
    subst (λ (x : ℤ). ErrorSpares st msg guest x r) same (error-spares st msg out guest (rw same e))
  where
    some_bytes : (o : List ℕ) (count : ℕ) → error_of o count ≡ Some code → count ≡ 0 → ⊥
    some_bytes o count h z = let h' : no_error ≡ Some code = rw z at h in let n : ◌≡◌ {A = ℕ} 0 1 = cc in omega arith

    written_same : {x y : ℤ} → Some x ≡ Some y → x ≡ y
    written_same q = cc

-- ---- another vCPU
-- words of a block, and with them what they mean of its vCPU
module _ (w x : List ℕ) (i : ℕ) (e : block x i ≡ block w i) where
  word_same : (k : ℕ) → k < 272 → get_or x (i * 272 + k) 0 ≡ get_or w (i * 272 + k) 0
  word_same k h =
      sym (get_or-drop (i * 272) x k 0) ∙ sym (get_or-take 272 (drop (i * 272) x) k 0 h)
      ∙ ap (λ (l : List ℕ). get_or l k 0) e
      ∙ get_or-take 272 (drop (i * 272) w) k 0 h ∙ get_or-drop (i * 272) w k 0

  field-same : (k : ℕ) → k < 272 → field x i k ≡ field w i k
  unfolding field
  field-same k h = word_same k h

  bit-same : (m : ℕ) → msr_bit_on x i m ≡ msr_bit_on w i m
  unfolding msr_bit_on switch_on
  bit-same m = step (msr_place m) refl
    where
      step : (p : Option ℕ) → msr_place m ≡ p → read_switch x i p ≡ read_switch w i p
      step (Some place) e = rw (field-same (16 + place / 64) (omega (arith, in-places m place e)))
      step None e = refl

  msr-same : (n m : ℕ) → msr_in (msrs_of x 0 n) i m ≡ msr_in (msrs_of w 0 n) i m
  msr-same n m = msrs-look x n i m ∙ rw (bit-same m) (sym (msrs-look w n i m))

  -- past the count there is none
  vcpu-same : (r n : ℕ) → get_or (vcpus_of r x 0 n) i resting ≡ get_or (vcpus_of r w 0 n) i resting
  vcpu-same r n =
      test (ltb i n)
      (λ h. let l = ltb-true i n h in
      vcpus-at r x n i l ∙ fields-same r r w x i refl (λ k b. field-same k (omega arith)) ∙ sym (vcpus-at r w n i l))
      (λ h. let l = ltb-false i n h in
      get_or-eq_default (vcpus_of r x 0 n) resting {n = i} (rw (vcpus-length r x 0 n) l)
      ∙ sym (get_or-eq_default (vcpus_of r w 0 n) resting {n = i} (rw (vcpus-length r w 0 n) l)))

  awaited-same : (n : ℕ) → get_or (awaited_of x 0 n) i none ≡ get_or (awaited_of w 0 n) i none
  awaited-same n =
      test (ltb i n)
      (λ h. let l = ltb-true i n h in
      awaited-at x n i l ∙ awaited-fields w x i (λ k a b. field-same k (omega arith)) ∙ sym (awaited-at w n i l))
      (λ h. let l = ltb-false i n h in
      get_or-eq_default (awaited_of x 0 n) none {n = i} (rw (awaited-length x 0 n) l)
      ∙ sym (get_or-eq_default (awaited_of w 0 n) none {n = i} (rw (awaited-length w 0 n) l)))

-- sessions with the same settings and ready marks, and the same words of a vCPU
block-says : (st st' : State) (i : ℕ) → st'.session.settings ≡ st.session.settings → st'.session.shared.ready ≡ st.session.shared.ready
    → block st'.vcpus i ≡ block st.vcpus i → SameVcpu i (model_of st') (model_of st)
unfolding event_on cr_on msr_on
block-says st st' i s r e =
    let n = st'.session.settings.vcpus in
    let count : n ≡ st.session.settings.vcpus = ap (λ (x : Settings). x.vcpus) s in
    let v : vcpu_at (tables_of st') i ≡ vcpu_at (tables_of st) i
    = vcpu-same st.vcpus st'.vcpus i e st'.session.shared.ready n ∙ (λ j. get_or (vcpus_of (r j) st.vcpus 0 (count j)) i resting) in
    record {
      ready = ap (λ (x : Vcpu). x.ready) v;
      events = λ event. ap (λ (x : Vcpu). is_on x.events event) v;
      crs = λ cr. ap (λ (x : Vcpu). is_cr cr && is_on x.crs (cr_bit cr)) v;
      msrs = λ msr. ap (λ (b : Bool). is_msr msr && b) (msr-same st.vcpus st'.vcpus i e n msr ∙ ap (λ (k : ℕ). msr_in (msrs_of st.vcpus 0 k) i msr) count);
      singlestep = ap (λ (x : Vcpu). x.singlestep) v;
      pauses = ap (λ (x : Vcpu). x.pauses) v;
      awaited = awaited-same st.vcpus st'.vcpus i e n ∙ ap (λ (k : ℕ). get_or (awaited_of st.vcpus 0 k) i none) count;
    }

message-spares : (st : State) (msg out guest : List ℕ) (named other : ℕ) → Names msg named → other ≢ named → (message_of st msg out guest).answer.number ≢ 1
    → SameVcpu other (model_of (message_of st msg out guest).state) (model_of st)
message-spares st msg out guest named other n d h =
    let a = message-apart st msg out guest other (λ e. d (e ∙ n.3)) h in
    block-says st (message_of st msg out guest).state other (ap (λ (x : Session). x.settings) (message-moves st msg out guest).session) a.1 a.0

-- ---- demand 2
pub demand-2 : Demand2
demand-2 =
    record {
      acted = λ s st m b cs c. stands-acted s (after_of st cs) (after s m cs) c (after-stands s st m cs (began-stands s st m b));
      errors = error-written;
      silent_errors = error-spares;
      codes = code-written;
      apart = message-spares;
    }
