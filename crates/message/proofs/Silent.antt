-- An EVENT_REPLY, which nothing answers, closes or meets no error. Assumes nothing.
use mathlib.Core.Path.{◌≡◌, refl, sym, ap, ◌∙◌}
use mathlib.Core.Logic.{⊎_elim}
use mathlib.Core.List.{List, [], ◌∷◌}
use mathlib.Core.Bool.{Bool, true, false, not, ◌&&◌, ◌||◌, false≢true}
use Prim.Native.Nat.{ℕ, ◌≤◌, ◌<◌}
use native.Mathlib.Omega.{arith}
use lib.IntN.{ℤ}
use lib.ListN.{length, get_or-eq_default}
use lib.Dec.{eqb}
use borrow.Author.Tests.{eqb-true}
use Rattle.std.specs.Prelude.{None}
use Rattle.wire.proofs.Laws.{le-or-lt}
use Rattle.kvmi.specs.declared.Facts.{Facts}
use Rattle.kvmi.specs.declared.ReplyKind.{ReplyKind}
use Rattle.kvmi.specs.declared.ReplyKind.TheVariants.{CodeOnly, WithData, Silent}
use Rattle.kvmi.specs.declared.Settings.{Settings}
use Rattle.kvmi.specs.declared.Verdict.{Verdict}
use Rattle.kvmi.specs.declared.Verdict.TheVariants.{Closes, Fails, Does}
use Rattle.kvmi.specs.Codes.{OK}
use Rattle.kvmi.specs.Settings.{allows_command}
use Rattle.kvmi.specs.Message.{messages, layout_of, reply_kind, data_fits, carries_data}
use Rattle.kvmi.specs.Verdict.{verdict, replies_on, event_reply_verdict}
use Rattle.laws.proofs.Verdicts.{pick, reply-cases}
use Rattle.reply.proofs.Data.{below}
use Rattle.session.specs.State.{State}
use Rattle.message.specs.Message.{code_by}
use Rattle.change.specs.Change.{change}

abbrev is_silent : ReplyKind → Bool
is_silent CodeOnly = false
is_silent WithData = false
is_silent Silent = true

-- of all messages only 16
silent-16 : (id : ℕ) → is_silent (reply_kind (layout_of id)) ≡ true → id ≡ 16
unfolding layout_of
silent-16 id h = ⊎_elim
    (λ far. absurd (false≢true (sym (ap (λ o. is_silent (reply_kind o)) (get_or-eq_default messages None {n = id} far)) ∙ h)))
    (λ near. eqb-true id 16 (rw (h) at (below (λ k. not (is_silent (reply_kind (layout_of k))) || eqb k 16) 17 id refl near)))
    (le-or-lt 17 id)

module _ (st : State) (guest : List ℕ) (s : Settings) (f : Facts) where
  of-reply : (seq : ℕ) (d : List ℕ) → code_by st guest d (verdict s f 16 seq d) ≡ OK
  unfolding verdict allows_command event_reply_verdict change
  of-reply seq d =
      let P : Verdict → Type 0 = λ v. code_by st guest d v ≡ OK in
      pick P (not (replies_on f.mode) && carries_data (reply_kind (layout_of 16))) _ _ (λ _. refl)
      (λ _. pick P (not (data_fits (layout_of 16) d)) _ _ (λ _. refl)
      (λ _. reply-cases P f.pending.awaited f.guest seq d refl (λ a w h. refl)))

  pub reply-code : (id seq : ℕ) (d : List ℕ) → reply_kind (layout_of id) ≡ Silent → code_by st guest d (verdict s f id seq d) ≡ OK
  reply-code id seq d k = rw (silent-16 id (ap is_silent k)) (of-reply seq d)
