-- W6: what is reported beside each verdict. Assumes nothing.
use mathlib.Core.Path.{◌≡◌, refl, sym, ap, ◌∙◌}
use mathlib.Core.Logic.{◌⊎◌, inl, inr, ⊎_elim}
use Prim.Native.Nat.{ℕ, ◌≤◌, ◌<◌}
use native.Mathlib.Omega.{arith}
use mathlib.Core.List.{List}
use mathlib.Core.Bool.{Bool, true, false, cond, not, ◌&&◌, ◌||◌}
use lib.IntN.{ℤ}
use lib.Dec.{leb, eqb}
use borrow.Author.Tests.{le-leb, lt-leb, eq-eqb, ne_eqb, eqb-true, not-true, not-false}
use Rattle.wire.proofs.Laws.{le-or-lt}
use Rattle.kvmi.specs.declared.Settings.{Settings}
use Rattle.kvmi.specs.declared.Facts.{Facts}
use Rattle.kvmi.specs.declared.ReplyMode.{ReplyMode}
use Rattle.kvmi.specs.declared.Change.{Change}
use Rattle.kvmi.specs.declared.Verdict.{Verdict}
use Rattle.kvmi.specs.declared.Verdict.TheVariants.{Closes, Fails, Does}
use Rattle.kvmi.specs.Codes.{EPERM, ENOENT, EAGAIN, EBUSY, EINVAL, EOPNOTSUPP, ENOSYS}
use Rattle.kvmi.specs.Settings.{allows_command, allows_event}
use Rattle.kvmi.specs.Message.{layout_of, reply_kind, data_fits, carries_data, first_padding}
use Rattle.kvmi.specs.Verdict.{replies_on, is_invalid, is_unready, is_denied, is_unsupported, is_busy, is_absent, change_of, loses_errors, command_verdict_by, command_verdict, event_reply_verdict, refuse, verdict, reaches_test6, reported_padding}
use Rattle.laws.proofs.Bool.{test}
use Rattle.laws.proofs.Verdicts.{pick, reply-cases, sound-of}

-- "for ids 1 to 15": the known ones but for EVENT_REPLY
pub command-ids : (id : ℕ) → (leb 1 id && leb id 15) ≡ ((leb 1 id && leb id 16) && not (eqb id 16))
command-ids id =
    ⊎_elim
    (λ (h : 17 ≤ id). rw (lt-leb id 15 (omega arith), lt-leb id 16 (omega arith), le-leb 1 id (omega arith)))
    (λ (h : id < 17). ⊎_elim
    (λ (g : 16 ≤ id). let e : id ≡ 16 = omega arith in rw (lt-leb id 15 (omega arith), eq-eqb id 16 e) (test (leb 1 id && leb id 16) (λ p. rw p (test (leb 1 id) (λ q. rw q) (λ q. rw q))) (λ p. rw p (test (leb 1 id) (λ q. rw q) (λ q. rw q)))))
    (λ (g : id < 16). rw (le-leb id 15 (omega arith), le-leb id 16 (omega arith), ne_eqb id 16 (λ z. omega (arith, z))) (test (leb 1 id) (λ q. rw q) (λ q. rw q)))
    (le-or-lt 16 id))
    (le-or-lt 17 id)

falls-l : (a b : Bool) → a ≡ false → (a && b) ≡ false
falls-l a b h = rw h

falls-r : (a b : Bool) → b ≡ false → (a && b) ≡ false
falls-r true b h = h
falls-r false b h = refl

-- beside a close and a change nothing is reported, and a byte of padding only beside -22
abbrev pub Reports : ℕ → Verdict → Type 0
Reports p Closes = p ≡ 0
Reports p (Fails code) = (p ≡ 0) ⊎ (code ≡ EINVAL)
Reports p (Does c) = p ≡ 0

module _ (s : Settings) (f : Facts) (id : ℕ) (d : List ℕ) where
  told : ℕ
  told = reported_padding s f.mode id d

  -- test 6 is not reached where one of these fails
  unreached : reaches_test6 s f.mode id d ≡ false → told ≡ 0
  unfolding told reported_padding
  unreached h = rw h

  unknown : (leb 1 id && leb id 15) ≡ false → told ≡ 0
  unfolding reaches_test6
  unknown h = unreached (falls-l _ _ (falls-l _ _ (falls-l _ _ (falls-l _ _ h))))

  disallowed : allows_command s id ≡ false → told ≡ 0
  unfolding reaches_test6
  disallowed h = unreached (falls-l _ _ (falls-l _ _ (falls-l _ _ (falls-r (leb 1 id && leb id 15) _ h))))

  unanswerable : (not (replies_on f.mode) && carries_data (reply_kind (layout_of id))) ≡ true → told ≡ 0
  unfolding reaches_test6
  unanswerable h = unreached (falls-l _ _ (falls-l _ _ (falls-r ((leb 1 id && leb id 15) && allows_command s id) _ (ap not h))))

  ill-sized : data_fits (layout_of id) d ≡ false → told ≡ 0
  unfolding reaches_test6
  ill-sized h =
      unreached (falls-l _ _ (falls-r (((leb 1 id && leb id 15) && allows_command s id) && not (not (replies_on f.mode) && carries_data (reply_kind (layout_of id)))) _ h))

  unpaused : (eqb id 9 && not (allows_event s 2)) ≡ true → told ≡ 0
  unfolding reaches_test6
  unpaused h =
      unreached
      (falls-r ((((leb 1 id && leb id 15) && allows_command s id) && not (not (replies_on f.mode) && carries_data (reply_kind (layout_of id)))) && data_fits (layout_of id) d) _ (ap not h))

  -- and where it finds no fault there is nothing to report
  clean : is_invalid s id d ≡ false → told ≡ 0
  unfolding told reported_padding
  clean h =
      let zero : first_padding id d ≡ 0 = eqb-true (first_padding id d) 0 (not-false _ (sound-of s id d h).padding) in
      test (reaches_test6 s f.mode id d) (λ e. rw e zero) (λ e. rw e)

  pub reported : (seq : ℕ) → Reports (reported_padding s f.mode id d) (verdict s f id seq d)
  unfolding verdict command_verdict command_verdict_by is_invalid event_reply_verdict told
  reported seq =
      let P : Verdict → Type 0 = Reports told in
      let refused : (code : ℤ) → told ≡ 0 → P (refuse f.mode code) = λ code e. pick P (replies_on f.mode) (Fails code) Closes (λ _. inl e) (λ _. e) in
      pick P (not (leb 1 id && leb id 16)) _ _ (λ h. refused ENOSYS (unknown (command-ids id ∙ falls-l (leb 1 id && leb id 16) (not (eqb id 16)) (not-true (leb 1 id && leb id 16) h))))
      (λ _. pick P (not (allows_command s id)) _ _ (λ h. refused EPERM (disallowed (not-true (allows_command s id) h)))
      (λ _. pick P (not (replies_on f.mode) && carries_data (reply_kind (layout_of id))) _ _ (λ h. unanswerable h)
      (λ _. pick P (not (data_fits (layout_of id) d)) _ _ (λ h. ill-sized (not-true (data_fits (layout_of id) d) h))
      (λ _. pick P (eqb id 16) _ _
      (λ e. let none : told ≡ 0 = unknown (command-ids id ∙ falls-r (leb 1 id && leb id 16) _ (ap not e)) in
      reply-cases P f.pending.awaited f.guest seq d none (λ a w h. none))
      (λ _. pick P (eqb id 9 && not (allows_event s 2)) _ _ (λ h. unpaused h)
      (λ _. pick P (is_invalid s id d) _ _ (λ _. inr refl)
      (λ h. let none : told ≡ 0 = clean h in
      pick P (is_unready f id) _ _ (λ _. inl none)
      (λ _. pick P (is_denied s id d) _ _ (λ _. inl none)
      (λ _. pick P (is_unsupported s id d) _ _ (λ _. inl none)
      (λ _. pick P (is_busy s f id d) _ _ (λ _. inl none)
      (λ _. pick P (is_absent f id d) _ _ (λ _. inl none)
      (λ _. pick P (loses_errors s id d) _ _ (λ _. none) (λ _. none)))))))))))))
