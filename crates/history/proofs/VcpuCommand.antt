-- A command that names a vCPU, with replies on: it reads and writes its vCPU's block alone, and whether it closes is a fact of message and settings. Assumes
-- nothing.
use mathlib.Core.Path.{◌≡◌, refl, sym, ap, ◌∙◌}
use mathlib.Core.Logic.{◌≢◌}
use Prim.Native.Nat.{ℕ, ◌+◌, ◌*◌, ◌/◌, ◌%◌, ◌^◌, ◌≤◌, ◌<◌}
use native.Mathlib.Omega.{arith}
use mathlib.Core.List.{List, [], ◌∷◌}
use mathlib.Core.Bool.{Bool, true, false, cond, not, ◌&&◌, false≢true}
use lib.IntN.{ℤ}
use lib.ListN.{length, drop, get_or-eq_default}
use lib.Dec.{ltb, leb, eqb}
use borrow.Author.Tests.{eqb-true, eqb-false, ltb-true, ltb-false}
use Rattle.std.specs.Prelude.{Option, Some, None}
use Rattle.msrs.specs.Place.{msr_place}
use Rattle.msrs.proofs.Ranges.{in-places}
use Rattle.kvmi.specs.declared.Settings.{Settings}
use Rattle.kvmi.specs.declared.Facts.{Facts}
use Rattle.kvmi.specs.declared.ReplyMode.{ReplyMode}
use Rattle.kvmi.specs.declared.ReplyMode.TheVariants.{On, Off, ErrorsOnly}
use Rattle.kvmi.specs.declared.Change.{Change}
use Rattle.kvmi.specs.declared.Change.TheVariants.{Nothing, SetMsr}
use Rattle.kvmi.specs.declared.Verdict.{Verdict}
use Rattle.kvmi.specs.declared.Verdict.TheVariants.{Closes, Fails, Does}
use Rattle.kvmi.specs.Bits.{bit, put_bit, among}
use Rattle.kvmi.specs.Codes.{OK}
use Rattle.kvmi.specs.Limits.{least_out}
use Rattle.kvmi.specs.Mode.{mode_of_number}
use Rattle.kvmi.specs.Settings.{allows_command, allows_event}
use Rattle.kvmi.specs.Tables.{cr_bit}
use Rattle.kvmi.specs.Answer.{lacks_page}
use Rattle.kvmi.specs.Message.{layout_of, reply_kind, data_fits, carries_data, vcpu_of, enables, event_of, register_of}
use Rattle.kvmi.specs.Reply.{answer_seq}
use Rattle.kvmi.specs.Change.{signal_of, mode_for}
use Rattle.kvmi.specs.Verdict.{replies_on, change_of, is_invalid, is_unready, is_denied, is_unsupported, is_busy, is_absent, loses_errors, command_verdict, command_verdict_by, verdict}
use Rattle.store.specs.Words.{field, set_field, switched_field, set_msr_bit, put_bit64, SINGLESTEP, CRS, EVENTS, PAUSES, AWAITED, AWAITED_SEQ, FAULT_GVA, FAULT_GPA, FAULT_ACCESS}
use Rattle.session.specs.State.{State, with_vcpu_words, is_closed}
use Rattle.session.specs.Calls.{Told}
use Rattle.change.specs.Change.{change}
use Rattle.message.specs.Message.{facts_in, answering_of, judged_of, headed_of, message_of}
use Rattle.laws.proofs.Bool.{test, and_l}
use Rattle.laws.proofs.Verdicts.{pick, verdict-cases}
use Rattle.refine.proofs.Msrs.{field-set, field-set-other, field-length}
use Rattle.history.specs.Order.{Lent, vcpu_commands, IsVcpuCommand, vcpu_in, taken, SameBlock}

-- ---- the facts that the tests ask of a vCPU are of its block
facts-same : (st : State) (w : List ℕ) (guest v : ℕ) → SameBlock v w st.vcpus → facts_in (with_vcpu_words st w) guest v ≡ facts_in st guest v
facts-same st w guest v same =
    rw (same PAUSES (omega arith), same AWAITED (omega arith), same AWAITED_SEQ (omega arith), same FAULT_GVA (omega arith), same FAULT_GPA (omega arith), same FAULT_ACCESS (omega arith))

-- another id is none of them
no_other : {A : Type 0} (id k : ℕ) → among id vcpu_commands ≡ true → id ≡ k → among k vcpu_commands ≡ false → A
no_other id k named h n = absurd (false≢true (sym n ∙ ap (λ (i : ℕ). among i vcpu_commands) (sym h) ∙ named))

-- ---- what a command does to the words: nothing, or one field of its vCPU's block is made of what stood there
pub data Edit : Type 0 where
  keep : Edit
  at : (k : ℕ) → k < 272 → (ℕ → ℕ) → Edit

abbrev pub perform : List ℕ → ℕ → Edit → List ℕ
perform w v keep = w
perform w v (at k small f) = set_field w v k (f (field w v k))

pub perform-length : (w : List ℕ) (v : ℕ) (e : Edit) → length (perform w v e) ≡ length w
perform-length w v keep = refl
perform-length w v (at k small f) = field-length w v k (f (field w v k))

-- it leaves the blocks of other vCPUs
pub perform-other : (w : List ℕ) (v u : ℕ) (e : Edit) → u ≢ v → SameBlock u (perform w v e) w
perform-other w v u keep d k h = refl
perform-other w v u (at j small f) d k h = field-set-other w v j (f (field w v j)) u k small h (λ p _. d p)

-- and does the same to a block that is the same, in as many words
field_past : (w : List ℕ) (v k : ℕ) → length w ≤ v * 272 + k → field w v k ≡ 0
unfolding field
field_past w v k h = get_or-eq_default w 0 h

pub perform-own : (w x : List ℕ) (v : ℕ) (e : Edit) → length x ≡ length w → SameBlock v x w → SameBlock v (perform x v e) (perform w v e)
perform-own w x v keep l same k h = same k h
perform-own w x v (at j small f) l same k h =
    test (eqb k j)
    (λ e. let here = eqb-true k j e in
    rw here
    (test (ltb (v * 272 + j) (length w))
    (λ b. let inside = ltb-true (v * 272 + j) (length w) b in
    field-set x v j (f (field x v j)) (omega arith) ∙ ap f (same j small) ∙ sym (field-set w v j (f (field w v j)) inside))
    (λ b. let past = ltb-false (v * 272 + j) (length w) b in
    field_past _ v j (omega (arith, field-length x v j (f (field x v j)))) ∙ sym (field_past _ v j (omega (arith, field-length w v j (f (field w v j))))))))
    (λ e. let apart = eqb-false k j e in
    field-set-other x v j (f (field x v j)) v k small h (λ _ q. apart q) ∙ same k h ∙ sym (field-set-other w v j (f (field w v j)) v k small h (λ _ q. apart q)))

-- ---- a command of a vCPU, on whatever words
-- what it gives is the same, and what it does to them an edit
abbrev On-words : (State → Told) → State → ℕ → List ℕ → Edit → List ℕ → Type 0
On-words call st v guest e w =
    call (with_vcpu_words st w)
    ≡ record { answer = (call st).answer; state = with_vcpu_words st (perform w v e); out = (call st).out; guest = guest }

-- without an error no event takes a seq
no-seq : (mode : ReplyMode) (seq : ℕ) → answer_seq mode seq OK ≡ seq
unfolding answer_seq
no-seq On seq = refl
no-seq Off seq = refl
no-seq ErrorsOnly seq = refl

module _ (st : State) (on : mode_of_number st.session.tool.mode ≡ On) (id seq : ℕ) (d out guest : List ℕ) (named : among id vcpu_commands ≡ true) where
  abbrev Edits : Verdict → Type 0
  Edits v = (e : Edit) × ((w : List ℕ) → On-words (λ x. judged_of x id seq d out guest v) st (vcpu_of d) guest e w)

  fails : (code : ℤ) → Edits (Fails code)
  unfolding judged_of answering_of answer_seq
  fails code = (keep, λ w. rw on)

  does-one : (c : Change) → (e : Edit) → ((w : List ℕ) → change (with_vcpu_words st w) guest d c ≡ record { state = with_vcpu_words st (perform w (vcpu_of d) e); guest = guest; code = OK }) → Edits (Does c)
  unfolding judged_of answering_of
  does-one c e h = (
    e,
    λ w. let here : change st guest d c ≡ record { state = with_vcpu_words st (perform st.vcpus (vcpu_of d) e); guest = guest; code = OK } = h st.vcpus in
        rw (h w, here, no-seq (mode_for (mode_of_number st.session.tool.mode) c) st.session.tool.seq),
  )

  abbrev Does-edit : Change → Type 0
  Does-edit c = Edits (Does c)

  -- message 12: a place's word, or none
  msr-edit : (enable : Bool) (msr : ℕ) → Does-edit (SetMsr enable (vcpu_of d) msr)
  unfolding change set_msr_bit switched_field
  msr-edit enable msr = by (msr_place msr) refl
    where
      by : (p : Option ℕ) → msr_place msr ≡ p → Does-edit (SetMsr enable (vcpu_of d) msr)
      by (Some place) e =
          does-one (SetMsr enable (vcpu_of d) msr) (at (16 + place / 64) (omega (arith, in-places msr place e)) (λ x. put_bit64 x (place % 64) enable)) (λ w. rw e)
      by None e = does-one (SetMsr enable (vcpu_of d) msr) keep (λ w. rw e)

  does : Does-edit (change_of id d)
  unfolding change_of change
  does =
      pick Does-edit (eqb id 5) _ _ (λ h. no_other id 5 named (eqb-true id 5 h) refl)
      (λ _. pick Does-edit (eqb id 7) _ _ (λ h. no_other id 7 named (eqb-true id 7 h) refl)
      (λ _. pick Does-edit (eqb id 9) _ _ (λ _. does-one _ (at PAUSES (omega arith) (λ x. (x + 1) % 2 ^ 64)) (λ w. refl))
      (λ _. pick Does-edit (eqb id 10) _ _ (λ _. does-one _ (at EVENTS (omega arith) (λ x. put_bit64 x (event_of id d) (enables id d))) (λ w. refl))
      (λ _. pick Does-edit (eqb id 11) _ _ (λ _. does-one _ (at CRS (omega arith) (λ x. put_bit x (cr_bit (register_of d)) (enables id d))) (λ w. refl))
      (λ _. pick Does-edit (eqb id 12) _ _ (λ _. msr-edit (enables id d) (register_of d))
      (λ _. pick Does-edit (eqb id 13) _ _ (λ h. no_other id 13 named (eqb-true id 13 h) refl)
      (λ _. pick Does-edit (eqb id 14) _ _ (λ _. does-one _ (at SINGLESTEP (omega arith) (λ x. bit (enables id d))) (λ w. refl))
      (λ _. pick Does-edit (eqb id 15) _ _ (λ h. no_other id 15 named (eqb-true id 15 h) refl) (λ _. does-one Nothing keep (λ w. refl))))))))))

  -- by the verdict of a command that doesn't close
  judged-edits : (f : Facts) → ((judged_of st id seq d out guest (verdict st.session.settings f id seq d)).answer.number ≡ 1 → ⊥) → Edits (verdict st.session.settings f id seq d)
  unfolding judged_of
  judged-edits f =
      verdict-cases (λ v. ((judged_of st id seq d out guest v).answer.number ≡ 1 → ⊥) → Edits v) st.session.settings f id seq d (λ h. absurd (h refl)) (λ code _ _. fails code)
      (λ _ _. does) (λ a p _. no_other id 16 named p.reply refl)

-- ---- whether it closes
abbrev closes : Verdict → Bool
closes Closes = true
closes (Fails code) = false
closes (Does c) = false

-- tests 2, 4 and 5, by which alone such a command can close
closes_by : Settings → ℕ → List ℕ → Bool
closes_by s id d =
    cond (not (leb 1 id && leb id 16)) false
    (cond (not (allows_command s id)) false (cond (not (data_fits (layout_of id) d)) true (eqb id 9 && not (allows_event s 2))))

-- test 5's second sentence is message 15's
response : (s : Settings) (id : ℕ) (d : List ℕ) → loses_errors s id d ≡ true → id ≡ 15
unfolding loses_errors
response s id d h = eqb-true id 15 (search (and_l))

verdict-closes : (s : Settings) (f : Facts) (id seq : ℕ) (d : List ℕ) → replies_on f.mode ≡ true → among id vcpu_commands ≡ true → closes (verdict s f id seq d) ≡ closes_by s id d
unfolding verdict command_verdict command_verdict_by is_invalid closes_by
verdict-closes s f id seq d on named =
    pick P (not (leb 1 id && leb id 16)) _ _ (λ known. rw (known, on))
    (λ known. pick P (not (allows_command s id)) _ _ (λ allowed. rw (known, allowed, on))
    (λ allowed. pick P (not (replies_on f.mode) && carries_data (reply_kind (layout_of id))) _ _ (λ h. absurd (false≢true (rw on at h)))
    (λ _. pick P (not (data_fits (layout_of id) d)) _ _ (λ size. rw (known, allowed, size))
    (λ size. pick P (eqb id 16) _ _ (λ h. no_other id 16 named (eqb-true id 16 h) refl)
    (λ _. pick P (eqb id 9 && not (allows_event s 2)) _ _ (λ pauses. rw (known, allowed, size, pauses))
    (λ pauses. let stays : false ≡ closes_by s id d = rw (known, allowed, size, pauses) in
    pick P (is_invalid s id d) _ _ (λ _. stays)
    (λ _. pick P (is_unready f id) _ _ (λ _. stays)
    (λ _. pick P (is_denied s id d) _ _ (λ _. stays)
    (λ _. pick P (is_unsupported s id d) _ _ (λ _. stays)
    (λ _. pick P (is_busy s f id d) _ _ (λ _. stays)
    (λ _. pick P (is_absent f id d) _ _ (λ _. stays)
    (λ _. pick P (loses_errors s id d) _ _ (λ h. no_other id 15 named (response s id d h) refl) (λ _. stays)))))))))))))
  where
    P : Verdict → Type 0
    P v = closes v ≡ closes_by s id d

module _ (st : State) (id seq : ℕ) (d out guest : List ℕ) where
  number-closes : (v : Verdict) → (judged_of st id seq d out guest v).answer.number ≡ 1 → closes v ≡ true
  unfolding judged_of answering_of
  number-closes Closes h = refl
  number-closes (Fails code) h = absurd (omega arith)
  number-closes (Does c) h = test (lacks_page (signal_of c)) (λ e. absurd (omega (arith, rw e at h))) (λ e. absurd (omega (arith, rw e at h)))

  closes-number : (v : Verdict) → closes v ≡ true → (judged_of st id seq d out guest v).answer.number ≡ 1
  unfolding judged_of
  closes-number Closes h = refl
  closes-number (Fails code) h = absurd (false≢true h)
  closes-number (Does c) h = absurd (false≢true h)

pub closing : (st st' : State) (c : Lent) → st.session.settings ≡ st'.session.settings → is_closed st ≡ false → is_closed st' ≡ false
    → replies_on (mode_of_number st.session.tool.mode) ≡ true → replies_on (mode_of_number st'.session.tool.mode) ≡ true → IsVcpuCommand c
    → (taken st c).answer.number ≡ 1 → (taken st' c).answer.number ≡ 1
unfolding message_of headed_of
closing st st' c same o o' on on' (id, (size, seq, w), named) = by (ltb (length c.out) least_out) refl
  where
    d : List ℕ
    d = drop 8 c.msg

    f : State → Facts
    f x = facts_in x (length c.guest) (vcpu_of d)

    same-closing : closes (verdict st.session.settings (f st) id seq d) ≡ true → closes (verdict st'.session.settings (f st') id seq d) ≡ true
    same-closing h =
        verdict-closes st'.session.settings (f st') id seq d on' named ∙ ap (λ (s : Settings). closes_by s id d) (sym same)
        ∙ sym (verdict-closes st.session.settings (f st) id seq d on named) ∙ h

    by : (short : Bool) → ltb (length c.out) least_out ≡ short → (taken st c).answer.number ≡ 1 → (taken st' c).answer.number ≡ 1
    by true e h = let three : ◌≡◌ {A = ℕ} 3 1 = rw (o, e) at h in absurd (omega arith)
    by false e h =
        rw (o', e, w)
        (closes-number st' id seq d c.out c.guest _ (same-closing (number-closes st id seq d c.out c.guest _ (rw (o, e, w) at h))))

-- ---- a whole message
-- what it does to the words, whatever words of other vCPUs stand there
abbrev pub Local : State → Lent → Type 0
Local st c = (e : Edit) × ((w : List ℕ) → SameBlock (vcpu_in c) w st.vcpus → On-words (λ x. taken x c) st (vcpu_in c) c.guest e w)

on_of : (mode : ReplyMode) → replies_on mode ≡ true → mode ≡ On
on_of On h = refl
on_of Off h = absurd (false≢true h)
on_of ErrorsOnly h = absurd (false≢true h)

pub local : (st : State) (c : Lent) → is_closed st ≡ false → replies_on (mode_of_number st.session.tool.mode) ≡ true → IsVcpuCommand c
    → (taken st c).answer.number ≢ 1 → Local st c
unfolding message_of headed_of
local st c opened replies (id, (size, seq, w), named) = by (ltb (length c.out) least_out) refl
  where
    d : List ℕ
    d = drop 8 c.msg

    f : Facts
    f = facts_in st (length c.guest) (vcpu_of d)

    on : mode_of_number st.session.tool.mode ≡ On
    on = on_of _ replies

    whole : ltb (length c.out) least_out ≡ false → Edits st on id seq d c.out c.guest named (verdict st.session.settings f id seq d) → Local st c
    whole e (edit, moves) = (edit, λ x same. rw (opened, e, w, facts-same st x (length c.guest) (vcpu_of d) same, moves x))

    by : (short : Bool) → ltb (length c.out) least_out ≡ short → ((taken st c).answer.number ≡ 1 → ⊥) → Local st c
    by true e h = (keep, λ x same. rw (opened, e))
    by false e h = whole e (judged-edits st on id seq d c.out c.guest named f (rw (opened, e, w) at h))
