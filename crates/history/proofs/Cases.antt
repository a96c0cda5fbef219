-- What a call does to a model, by its tests. Assumes nothing.
use mathlib.Core.Path.{◌≡◌, refl}
use Prim.Native.Nat.{ℕ, ◌≤◌, ◌<◌}
use native.Mathlib.Omega.{arith}
use mathlib.Core.List.{List, []}
use mathlib.Core.Bool.{true, false, not, ◌&&◌}
use lib.ListN.{length, drop}
use lib.Dec.{leb, ltb, eqb}
use borrow.Author.Tests.{leb-true, leb-false, not-false}
use Rattle.wire.specs.Header.{header_of}
use Rattle.kvmi.specs.declared.Settings.{Settings}
use Rattle.kvmi.specs.declared.Signal.TheVariants.{Quiet}
use Rattle.kvmi.specs.Limits.{least_out, event_out, state_bytes}
use Rattle.kvmi.specs.Tables.{vcpu_at, with_ready}
use Rattle.kvmi.specs.Model.{Model, on_vcpu, awaited_by, is_some}
use Rattle.kvmi.specs.Event.{offer_fits, is_asked_for}
use Rattle.kvmi.specs.Image.{image}
use Rattle.kvmi.specs.Call.{Step, Call, message, ready, enter, write_image, unchanged, writing, headed, message_step, ready_step, sending, pausing, dequeuing, entering, enter_step, awaits_any, image_step, step}
use Rattle.laws.proofs.Bool.{and_r}
use Rattle.laws.proofs.Verdicts.{pick}

-- ---- what an entry does, by its tests
module _ (P : Step → Type 0) (m : Model) (vcpu : ℕ) (block : List ℕ) (event : ℕ) (own out : List ℕ) where
  -- the offered event, a pause or nothing
  pub entering-cases : (is_asked_for m.tables vcpu event own ≡ true → P (sending m vcpu block event own out))
      → (is_asked_for m.tables vcpu event own ≡ false → 1 ≤ (vcpu_at m.tables vcpu).pauses → P (pausing m vcpu block out))
      → (is_asked_for m.tables vcpu event own ≡ false → P (writing [] Quiet out [] m)) → P (entering m vcpu block event own out)
  unfolding entering dequeuing
  entering-cases sends pauses rests =
      pick P (is_asked_for m.tables vcpu event own) _ _ sends
      (λ a. pick P (leb 1 (vcpu_at m.tables vcpu).pauses) _ _ (λ h. pauses a (leb-true 1 (vcpu_at m.tables vcpu).pauses h)) (λ _. rests a))

  -- refused, or one of these
  pub enter-cases : (s : Settings) → ((k : ℕ) → 2 ≤ k → P (unchanged k m out []))
      → (m.closed ≡ false → vcpu < s.vcpus → offer_fits event own ≡ true → is_some (awaited_by m vcpu) ≡ false → P (entering m vcpu block event own out))
      → P (enter_step s m vcpu block event own out)
  unfolding enter_step
  enter-cases s refused enters =
      pick P m.closed _ _ (λ _. refused 2 (omega arith))
      (λ o. pick P (leb s.vcpus vcpu) _ _ (λ _. refused 4 (omega arith))
      (λ h. pick P (not (eqb (length block) state_bytes && offer_fits event own)) _ _ (λ _. refused 5 (omega arith))
      (λ w. pick P (ltb (length out) event_out) _ _ (λ _. refused 3 (omega arith))
      (λ _. pick P (is_some (awaited_by m vcpu)) _ _ (λ _. refused 6 (omega arith))
      (λ idle. enters o (leb-false s.vcpus vcpu h) (and_r (eqb (length block) state_bytes) (offer_fits event own) (not-false _ w)) idle)))))

-- ---- what a call does, by its tests: refused, or what it does when it is not
module _ (P : Step → Type 0) (s : Settings) (m : Model) where
  pub step-cases : (c : Call) → ((k : ℕ) (out guest : List ℕ) → P (unchanged k m out guest))
      → (m.closed ≡ false → (msg out guest : List ℕ) → c ≡ message msg out guest → P (headed s m (drop 8 msg) out guest (header_of msg)))
      → (m.closed ≡ false → (vcpu : ℕ) → P (writing [] Quiet [] [] (on_vcpu m vcpu (λ v. with_ready v true))))
      → (m.closed ≡ false → (vcpu : ℕ) (block : List ℕ) (event : ℕ) (own out : List ℕ) → offer_fits event own ≡ true → is_some (awaited_by m vcpu) ≡ false
      → P (entering m vcpu block event own out))
      → ((out : List ℕ) → P (writing (image m.tables) Quiet out [] m)) → P (step s m c)
  unfolding step message_step ready_step image_step
  step-cases (message msg out guest) refused heads readies enters images =
      pick P m.closed _ _ (λ _. refused 2 out guest) (λ o. pick P (ltb (length out) least_out) _ _ (λ _. refused 3 out guest) (λ _. heads o msg out guest refl))
  step-cases (ready vcpu) refused heads readies enters images =
      pick P m.closed _ _ (λ _. refused 2 [] []) (λ o. pick P (leb s.vcpus vcpu) _ _ (λ _. refused 4 [] []) (λ _. readies o vcpu))
  step-cases (enter vcpu block event own out) refused heads readies enters images =
      enter-cases P m vcpu block event own out s (λ k _. refused k out []) (λ o _ fits idle. enters o vcpu block event own out fits idle)
  step-cases (write_image out) refused heads readies enters images =
      pick P m.closed _ _ (λ _. refused 2 out [])
      (λ _. pick P (awaits_any m.awaited) _ _ (λ _. refused 10 out [])
      (λ _. pick P (ltb (length out) (length (image m.tables))) _ _ (λ _. refused 3 out []) (λ _. images out)))
