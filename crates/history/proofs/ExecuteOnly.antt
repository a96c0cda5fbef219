-- Execute-only pages: what a session without them holds and refuses. Assumes nothing.
use mathlib.Core.Path.{◌≡◌, refl, sym, ap, ◌∙◌, subst}
use mathlib.Core.Logic.{◌≢◌}
use Prim.Native.Nat.{ℕ, zero, suc, ◌+◌, ◌*◌, ◌≤◌, ◌<◌}
use native.Mathlib.Omega.{arith}
use mathlib.Core.List.{List, [], ◌∷◌}
use mathlib.Core.Bool.{Bool, true, false, cond, not, ◌&&◌, ◌||◌, So, and-true, and-false, or-true, true≢false}
use lib.ListN.{length, get_or, take, drop}
use lib.Seq.{get_or-take, get_or-drop}
use lib.Dec.{leb, ltb, eqb}
use borrow.Author.Tests.{eq-eqb, ne_eqb, le-leb, le-ltb, not-false}
use Rattle.wire.specs.Header.{header_of}
use Rattle.kvmi.specs.declared.Settings.{Settings}
use Rattle.kvmi.specs.declared.Facts.{Facts}
use Rattle.kvmi.specs.declared.Verdict.TheVariants.{Fails}
use Rattle.kvmi.specs.Bits.{every}
use Rattle.kvmi.specs.Limits.{least_out}
use Rattle.kvmi.specs.Codes.{EINVAL}
use Rattle.kvmi.specs.Settings.{allows_command, has_execute_only}
use Rattle.kvmi.specs.Tables.{Page, Tables, access, access_in}
use Rattle.kvmi.specs.Model.{Model}
use Rattle.kvmi.specs.Message.{layout_of, size_fits, vcpu_of, count_of, count_fits, Entry, entry_of, entries_of}
use Rattle.kvmi.specs.Verdict.{replies_on, is_access, takes_access, is_invalid, command_verdict_by, command_verdict, verdict}
use Rattle.kvmi.specs.Image.{pa_form, pa_may, page_of_row, fits_in, load_rest, forbidden as forbiddenAt}
use Rattle.kvmi.specs.Row.{Row}
use Rattle.kvmi.specs.Record.{PA, widths, pa_access, Rec, whole}
use Rattle.kvmi.specs.Valid.{pa_good}
use Rattle.kvmi.specs.Call.{Call, message, after}
use Rattle.session.specs.State.{State}
use Rattle.message.specs.Message.{facts_in}
use Rattle.lookup.specs.Lookup.{look_access, look_page, no_page}
use Rattle.refine.specs.Errors.{code_of, Spared}
use Rattle.laws.proofs.Bool.{and_r, test, every-head, every-tail, every-imp, every-get_d, clash}
use Rattle.laws.proofs.Verdicts.{sound-of}
use Rattle.history.specs.History.{step_of, after_of, BeganOn}
use Rattle.history.specs.Demand1.{Open}
use Rattle.history.specs.ExecuteOnly.{AsksFour, ExecuteOnly}
use Rattle.history.proofs.Lists.{after-stands, began-stands, stands-valid}
use Rattle.history.proofs.Errors.{invalid-spares}
use Rattle.history.proofs.Lookups.{lookups}

-- ---- what the flag decides
four-refused : (s : Settings) (a : ℕ) → has_execute_only s ≡ false → a ≡ 4 → takes_access s a ≡ false
unfolding takes_access is_access
four-refused s a off e = rw (e, off)

others-taken : (s : Settings) (a : ℕ) → a ≢ 4 → takes_access s a ≡ is_access a
unfolding takes_access
others-taken s a n = rw (ne_eqb a 4 n) (and-true (is_access a))

flag-taken : (s : Settings) (a : ℕ) → has_execute_only s ≡ true → takes_access s a ≡ is_access a
unfolding takes_access
flag-taken s a on = rw (on, or-true (not (eqb a 4))) (and-true (is_access a))

page-forbidden : (s : Settings) (p : Page) → has_execute_only s ≡ false → p.access ≡ 4 → pa_may s p ≡ false
unfolding pa_may
page-forbidden s p off e = rw (four-refused s p.access off e) (and-false (ltb p.view s.views))

-- ---- no page stands at it
none-at : (s : Settings) (ps : List Page) (view page : ℕ) → has_execute_only s ≡ false → So (every (pa_good s) ps) → access_in ps view page ≢ 4
unfolding access_in
none-at s [] view page off h = λ e. omega arith
none-at s (p ∷ ps) view page off h = by (eqb p.view view && eqb p.page page) (none-at s ps view page off (every-tail (pa_good s) p ps h))
  where
    by : (b : Bool) → access_in ps view page ≢ 4 → cond b p.access (access_in ps view page) ≢ 4
    by true rest e = clash (and_r (pa_form p) (pa_may s p) (every-head (pa_good s) p ps h)) (page-forbidden s p off e)
    by false rest e = rest e

never-stands : (s : Settings) (st : State) (m : Model) → BeganOn s st m → has_execute_only s ≡ false → (cs : List Call) (view page : ℕ)
    → look_access (after_of st cs).session (after_of st cs).pages view page ≢ 4
unfolding access
never-stands s st m began off cs view page e =
    let valid = stands-valid s (after_of st cs) (after s m cs) (after-stands s st m cs (began-stands s st m began)) in
    none-at s (after s m cs).tables.pages view page off valid.pas (sym ((lookups s st m began cs).accesses view page) ∙ e)

-- at another access than 4
abbrev is_other : Page → Bool
is_other p = not (eqb p.access 4)

not-four : (s : Settings) → has_execute_only s ≡ false → (p : Page) → So (pa_good s p) → So (is_other p)
not-four s off p h = ap not (ne_eqb p.access 4 (λ e. clash (and_r (pa_form p) (pa_may s p) h) (page-forbidden s p off e)))

never_walked : (s : Settings) (st : State) (m : Model) → BeganOn s st m → has_execute_only s ≡ false → (cs : List Call) (i : ℕ)
    → (look_page (after_of st cs).session (after_of st cs).pages i).access ≢ 4
never_walked s st m began off cs i e =
    let valid = stands-valid s (after_of st cs) (after s m cs) (after-stands s st m cs (began-stands s st m began)) in
    let ps = (after s m cs).tables.pages in
    let own = every-get_d is_other ps i no_page refl (every-imp (pa_good s) is_other (not-four s off) ps valid.pas) in
    clash own (ap not (eq-eqb (get_or ps i no_page).access 4 (sym (ap (λ (p : Page). p.access) ((lookups s st m began cs).pages i)) ∙ e)))

-- ---- no image states it
record-forbidden : (s : Settings) (n off lo : ℕ) (t : Tables) (f : Row (widths PA)) (rs : List Rec) → has_execute_only s ≡ false → pa_access f ≡ 4
    → So (fits_in PA n lo t f) → load_rest s n off lo t (whole PA f ∷ rs) ≡ forbiddenAt off
record-forbidden s n off lo t f rs lacks four fits = rw (fits, page-forbidden s (page_of_row f) lacks four)

-- ---- no message sets it
abbrev all_taken : Settings → List Entry → Bool
all_taken s es = every (λ (e : Entry). takes_access s e.access) es

entry-refused : (s : Settings) (n : ℕ) (l : List ℕ) (i : ℕ) → has_execute_only s ≡ false → i < n → get_or l (16 * i + 8) 0 ≡ 4
    → all_taken s (entries_of n l) ≡ false
unfolding entries_of entry_of
entry-refused s zero l i off h e = absurd (omega arith)
entry-refused s (suc n) l zero off h e =
    let head : takes_access s (get_or (take 16 l) 8 0) ≡ false = four-refused s _ off (get_or-take 16 l 8 0 (omega arith) ∙ e) in
    rw head
entry-refused s (suc n) l (suc i) off h e =
    let at : 16 + (16 * i + 8) ≡ 16 * suc i + 8 = omega arith in
    let rest = entry-refused s n (drop 16 l) i off (omega arith) (get_or-drop 16 l (16 * i + 8) 0 ∙ ap (λ k. get_or l k 0) at ∙ e) in
    rw rest (and-false (takes_access s (get_or (take 16 l) 8 0)))

four-invalid : (s : Settings) (d : List ℕ) (i : ℕ) → has_execute_only s ≡ false → i < count_of d → get_or d (8 + 16 * i + 8) 0 ≡ 4 → is_invalid s 13 d ≡ true
four-invalid s d i off h e =
    let at : 8 + (16 * i + 8) ≡ 8 + 16 * i + 8 = omega arith in
    let some = entry-refused s (count_of d) (drop 8 d) i off h (get_or-drop 8 d (16 * i + 8) 0 ∙ ap (λ k. get_or d k 0) at ∙ e) in
    test (is_invalid s 13 d) (λ w. w) (λ valid. clash (and_r (count_fits d) (all_taken s (entries_of (count_of d) (drop 8 d))) (not-false _ (sound-of s 13 d valid).entries)) some)

four-fails : (s : Settings) (f : Facts) (seq : ℕ) (d : List ℕ) → So (allows_command s 13) → 8 ≤ length d → is_invalid s 13 d ≡ true → verdict s f 13 seq d ≡ Fails EINVAL
unfolding verdict command_verdict command_verdict_by is_invalid layout_of size_fits
four-fails s f seq d allowed long bad = rw (allowed, and-false (not (replies_on f.mode)), le-leb 8 (length d) long, bad)

module _ (st : State) (off : has_execute_only st.session.settings ≡ false) (msg out guest : List ℕ) (opened : Open st) (asks : AsksFour st.session.settings msg out) where
  code_is : code_of st msg out guest ≡ EINVAL
  code_is =
      let (size, seq, read) = asks.header in
      let (i, counted, four) = asks.entry in
      let fails = four-fails st.session.settings (facts_in st (length guest) (vcpu_of (drop 8 msg))) seq (drop 8 msg) asks.allowed asks.long (four-invalid st.session.settings (drop 8 msg) i off counted four) in
      rw (opened, le-ltb (length out) least_out asks.room, read, fails)

four-spares : (s : Settings) (st : State) (m : Model) → BeganOn s st m → has_execute_only s ≡ false → (cs : List Call) (msg out guest : List ℕ)
    → Open (after_of st cs) → AsksFour s msg out
    → (code_of (after_of st cs) msg out guest ≡ EINVAL) × Spared (after_of st cs) guest (step_of (after_of st cs) (message msg out guest))
unfolding step_of
four-spares s st m began off cs msg out guest opened asks =
    let same = sym (after-stands s st m cs (began-stands s st m began)).settings in
    let lacks = subst (λ (x : Settings). has_execute_only x ≡ false) same off in
    let own = subst (λ (x : Settings). AsksFour x msg out) same asks in
    let code = code_is (after_of st cs) lacks msg out guest opened own in
    (code, invalid-spares (after_of st cs) msg out guest code)

pub execute-only : ExecuteOnly
execute-only =
    record {
      never = never-stands;
      walked = never_walked;
      refused = four-spares;
      forbidden = record-forbidden;
      others = others-taken;
      taken = flag-taken;
    }
