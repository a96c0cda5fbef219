-- An MSR of no place has no switch, at every level; what had one has it. Assumes nothing.
use mathlib.Core.Path.{◌≡◌, refl, ap, ◌∙◌}
use Prim.Native.Nat.{ℕ, ◌+◌, ◌*◌, ◌/◌, ◌%◌, ◌<◌}
use native.Mathlib.Omega.{arith}
use mathlib.Core.List.{List}
use mathlib.Core.Bool.{Bool, true, false, cond, not, ◌&&◌, So, and-false, or-false}
use lib.ListN.{length, get_or, set, drop}
use lib.Dec.{eqb}
use borrow.Author.Tests.{lt-ltb, le-ltb, not-false}
use Rattle.std.specs.Prelude.{Option, Some, None, is_some}
use Rattle.msrs.specs.Place.{msr_place, is_msr, msr_at}
use Rattle.msrs.specs.Places.{in_ranges}
use Rattle.msrs.proofs.Ranges.{onto, place-was, places}
use Rattle.kvmi.specs.declared.Settings.{Settings}
use Rattle.kvmi.specs.declared.Facts.{Facts}
use Rattle.kvmi.specs.declared.Verdict.TheVariants.{Fails}
use Rattle.kvmi.specs.Bits.{bit, is_on, put_bit}
use Rattle.kvmi.specs.Limits.{least_out}
use Rattle.kvmi.specs.Codes.{EINVAL}
use Rattle.kvmi.specs.Settings.{allows_command}
use Rattle.kvmi.specs.Tables.{Msr, msr_on}
use Rattle.kvmi.specs.Message.{layout_of, size_fits, names_vcpu, vcpu_of, register_of}
use Rattle.kvmi.specs.Event.{msr_named, event_row_of, offer_fits}
use Rattle.kvmi.specs.Verdict.{replies_on, invalid_by, is_invalid, command_verdict_by, command_verdict, verdict}
use Rattle.kvmi.specs.Change.{set_msr}
use Rattle.kvmi.specs.Image.{ms_form}
use Rattle.kvmi.specs.Call.{message, after}
use Rattle.store.specs.Words.{field, set_field, put_bit64, switched_field, switch_on, read_switch, set_switch, msr_bit_on, set_msr_bit, EVENTS}
use Rattle.session.specs.State.{State}
use Rattle.message.specs.Message.{facts_in}
use Rattle.entry.specs.Entry.{asked_for_by, is_asked_for_of, sent_of, entered_of, enter_of}
use Rattle.lookup.specs.Lookup.{look_msr}
use Rattle.refine.specs.Errors.{code_of, Spared}
use Rattle.refine.proofs.Msrs.{msrs-every}
use Rattle.laws.proofs.Bool.{test, clash}
use Rattle.laws.proofs.Same.{msr-on}
use Rattle.laws.proofs.Verdicts.{sound-of}
use Rattle.history.specs.History.{step_of, after_of}
use Rattle.history.specs.Demand1.{Open}
use Rattle.history.specs.Msrs.{NamesNone, slot_before, Msrs}
use Rattle.history.proofs.Lists.{after-stands, began-stands, stands-valid}
use Rattle.history.proofs.Errors.{invalid-spares}

no-msr : (msr : ℕ) → msr_place msr ≡ None → is_msr msr ≡ false
unfolding is_msr
no-msr msr e = rw e

word-off : (w : List ℕ) (vcpu msr : ℕ) → msr_place msr ≡ None → msr_bit_on w vcpu msr ≡ false
unfolding msr_bit_on
word-off w vcpu msr e = rw e

-- the words state switches of places alone
at-msr : (place : ℕ) → place < 16384 → So (is_msr (msr_at place))
unfolding is_msr
at-msr place h = rw (onto place h)

-- ---- the bits of the words
states : (w : List ℕ) (vcpu place : ℕ) → switch_on w vcpu place ≡ is_on (get_or w (vcpu * 272 + 16 + place / 64) 0) (place % 64)
unfolding switch_on field
states w vcpu place = let at : vcpu * 272 + (16 + place / 64) ≡ vcpu * 272 + 16 + place / 64 = omega arith in rw at

reads : (w : List ℕ) (vcpu msr : ℕ) → msr_bit_on w vcpu msr ≡ (in_ranges msr && is_on (get_or w (vcpu * 272 + 16 + slot_before msr / 64) 0) (slot_before msr % 64))
unfolding msr_bit_on is_msr
reads w vcpu msr = rw (← places.exactly msr) (step (msr_place msr) refl)
  where
    step : (p : Option ℕ) → msr_place msr ≡ p → read_switch w vcpu p ≡ (is_some p && is_on (get_or w (vcpu * 272 + 16 + slot_before msr / 64) 0) (slot_before msr % 64))
    step (Some place) e = rw (← place-was msr place e) (states w vcpu place)
    step None e = refl

sets : (w : List ℕ) (vcpu msr : ℕ) (on : Bool)
    → set_msr_bit w vcpu msr on
    ≡ cond (in_ranges msr)
    (set w (vcpu * 272 + 16 + slot_before msr / 64) (put_bit (get_or w (vcpu * 272 + 16 + slot_before msr / 64) 0) (slot_before msr % 64) on)) w
unfolding set_msr_bit is_msr switched_field set_field put_bit64 field
sets w vcpu msr on = rw (← places.exactly msr) (step (msr_place msr) refl)
  where
    step : (p : Option ℕ) → msr_place msr ≡ p
        → set_switch w vcpu p on
        ≡ cond (is_some p) (set w (vcpu * 272 + 16 + slot_before msr / 64) (put_bit (get_or w (vcpu * 272 + 16 + slot_before msr / 64) 0) (slot_before msr % 64) on)) w
    step (Some place) e =
        let at : vcpu * 272 + (16 + place / 64) ≡ vcpu * 272 + 16 + place / 64 = omega arith in
        rw (← place-was msr place e, at, lt-ltb (place % 64) 64 (omega arith))
    step None e = refl

-- ---- message 12
invalid : (s : Settings) (d : List ℕ) → msr_place (register_of d) ≡ None → is_invalid s 12 d ≡ true
invalid s d e = test (is_invalid s 12 d) (λ h. h) (λ h. clash (not-false (is_msr (register_of d)) (sound-of s 12 d h).msr) (no-msr (register_of d) e))

fails : (s : Settings) (f : Facts) (seq : ℕ) (d : List ℕ) → So (allows_command s 12) → length d ≡ 16 → is_invalid s 12 d ≡ true → verdict s f 12 seq d ≡ Fails EINVAL
unfolding verdict command_verdict command_verdict_by is_invalid layout_of size_fits
fails s f seq d allowed long bad = rw (allowed, and-false (not (replies_on f.mode)), long, bad)

refused : (st : State) (msg out guest : List ℕ) → Open st → NamesNone st.session.settings msg out
    → (code_of st msg out guest ≡ EINVAL) × Spared st guest (step_of st (message msg out guest))
unfolding step_of
refused st msg out guest opened names =
    let (size, seq, read) = names.header in
    let s = st.session.settings in
    let bad = fails s (facts_in st (length guest) (vcpu_of (drop 8 msg))) seq (drop 8 msg) names.allowed names.long (invalid s (drop 8 msg) names.none) in
    let code : code_of st msg out guest ≡ EINVAL = rw (opened, le-ltb (length out) least_out names.room, read, bad) in
    (code, invalid-spares st msg out guest code)

pub msrs-placed : Msrs
unfolding msr_on set_msr set_msr_bit look_msr ms_form invalid_by is_invalid names_vcpu step_of enter_of entered_of sent_of is_asked_for_of asked_for_by event_row_of offer_fits
msrs-placed =
    record {
      off = λ t vcpu msr e. rw (no-msr msr e);
      kept = λ m on ms e. rw (no-msr m.msr e);
      word_off = word-off;
      word_kept = λ w vcpu msr on e. rw e;
      stated = λ w vcpu n. msrs-every w (λ (m : Msr). is_msr m.msr) (λ _ place h. at-msr place h) vcpu n;
      looked = λ s w vcpu msr e. rw (word-off w _ msr e) (ap bit (and-false (not (eqb s.tool.opened 0))));
      refused = refused;
      passed_over = λ st vcpu block own out l e. rw (l, word-off st.vcpus vcpu (msr_named own) e, and-false (is_on (field st.vcpus vcpu EVENTS) 9));
      malformed = λ s n at lo t f rs e. rw (no-msr _ e, and-false, and-false);
      tested = λ s d. rw (places.exactly (register_of d), or-false, or-false, or-false, or-false, or-false, or-false);
      formed = λ vs m. rw (places.exactly m.msr);
      recorded =
          λ s st m began cs vcpu msr. msr-on s (after s m cs).tables vcpu msr (stands-valid s (after_of st cs) (after s m cs) (after-stands s st m cs (began-stands s st m began)));
      acted = λ s d h m e on ms. rw (ap is_msr e ∙ not-false (is_msr (register_of d)) (sound-of s 12 d h).msr);
      reads = reads;
      sets = sets;
      states = states;
    }
