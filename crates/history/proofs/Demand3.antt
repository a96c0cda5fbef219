-- Demand 3, proved. Assumes nothing.
use mathlib.Core.Path.{◌≡◌, refl, sym, ap, ◌∙◌, subst}
use mathlib.Core.Logic.{◌↔◌}
use Prim.Native.Nat.{ℕ, zero, suc, ◌≤◌, ◌<◌}
use native.Mathlib.Omega.{arith}
use mathlib.Core.List.{List, [], ◌∷◌, ◌++◌}
use mathlib.Core.Bool.{Bool, true, false, cond, So, true≢false, false≢true}
use lib.ListN.{length, take, drop, replicate}
use mathlib.Core.Option.{Option, none, some}
use lib.Seq.{take_at}
use lib.Pow.{are_bytes}
use lib.Dec.{ltb}
use borrow.Author.Tests.{le-ltb, ltb-true, ltb-false}
use Rattle.kvmi.specs.declared.Settings.{Settings}
use Rattle.kvmi.specs.declared.Signal.TheVariants.{Quiet}
use Rattle.kvmi.specs.Answer.{Paper, handled}
use Rattle.kvmi.specs.Settings.{in_range}
use Rattle.kvmi.specs.Tables.{Tables, SameTables}
use Rattle.kvmi.specs.declared.Awaited.{Awaited}
use Rattle.kvmi.specs.Model.{Model, begun}
use Rattle.kvmi.specs.Image.{image, Loaded, loaded, bad_form, forbidden, load_image}
use Rattle.kvmi.specs.Valid.{Valid}
use Rattle.kvmi.specs.Call.{Call, awaits_any, image_step, after, Step}
use Rattle.session.specs.State.{State}
use Rattle.session.specs.Meaning.{model_of, WellFormed}
use Rattle.image_writer.specs.Write.{image_of}
use Rattle.image_reader.specs.Read.{told_loaded, read_of}
use Rattle.history.specs.History.{after_of, BeganOn, anew, from_image}
use Rattle.history.specs.Demand3.{Writable, Writes, Demand3}
use Rattle.laws.proofs.Bool.{test, clash}
use Rattle.laws.proofs.Verdicts.{pick}
use Rattle.laws.proofs.Load.{load-write}
use Rattle.laws.proofs.Write.{image_injective}
use Rattle.laws.proofs.Same.{same-equal, equal-same}
use Rattle.history.proofs.Images.{image-simulates}
use Rattle.history.proofs.Lists.{Stands, stands-valid, after-stands, began-stands}

-- ---- the model's image writing
-- what an answer's number says of the model
record ImageTold (m : Model) (r : Step) : Type 0 where
  closed : (r.answer.number ≡ 2) ↔ (m.closed ≡ true)
  busy : (r.answer.number ≡ 10) ↔ ((m.closed ≡ false) × (awaits_any m.awaited ≡ true))

step-told : (m : Model) (out : List ℕ) → ImageTold m (image_step m out)
unfolding image_step
step-told m out =
    pick (ImageTold m) m.closed _ _ (λ e. record { closed = (λ _. e, λ _. refl); busy = (λ h. absurd (omega arith), λ q. clash e q.0) })
    (λ e. pick (ImageTold m) (awaits_any m.awaited) _ _
    (λ w. record { closed = (λ h. absurd (omega arith), λ q. clash q e); busy = (λ _. (e, w), λ _. refl) })
    (λ w. pick (ImageTold m) (ltb (length out) (length (image m.tables))) _ _
    (λ _. record { closed = (λ h. absurd (omega arith), λ q. clash q e); busy = (λ h. absurd (omega arith), λ q. clash q.1 w) })
    (λ _. record { closed = (λ h. absurd (omega arith), λ q. clash q e); busy = (λ h. absurd (omega arith), λ q. clash q.1 w) })))

step-writes : (m : Model) (out : List ℕ) → m.closed ≡ false → awaits_any m.awaited ≡ false → length (image m.tables) ≤ length out
    → ((image_step m out).answer ≡ handled (length (image m.tables)) Quiet) × ((image_step m out).out ≡ image m.tables ++ drop (length (image m.tables)) out)
unfolding image_step
step-writes m out e w h = let r = le-ltb (length out) (length (image m.tables)) h in (rw (e, w, r), rw (e, w, r))

-- without room nothing is written
step-short : (m : Model) (out : List ℕ) → m.closed ≡ false → awaits_any m.awaited ≡ false → (image_step m out).answer.number ≡ 0 → length (image m.tables) ≤ length out
unfolding image_step
step-short m out e w h =
    test (ltb (length out) (length (image m.tables))) (λ r. let z : ◌≡◌ {A = ℕ} 3 0 = rw (e, w, r) at h in absurd (omega arith))
    (λ r. ltb-false (length out) (length (image m.tables)) r)

-- ---- the session's
module _ (s : Settings) (st : State) (m : Model) (f : Stands s st m) (out : List ℕ) where
  same_answer : (image_of st out).answer ≡ (image_step m out).answer
  same_answer = (image-simulates st f.formed out).answer ∙ ap (λ (x : Model). (image_step x out).answer) f.model

  same_out : (image_of st out).out ≡ (image_step m out).out
  same_out = (image-simulates st f.formed out).out ∙ ap (λ (x : Model). (image_step x out).out) f.model

  same_number : (image_of st out).answer.number ≡ (image_step m out).answer.number
  same_number = ap (λ (p : Paper). p.number) same_answer

  says-closed : ((image_of st out).answer.number ≡ 2) ↔ (m.closed ≡ true)
  says-closed = let t = (step-told m out).closed in (λ h. t.0 (sym same_number ∙ h), λ h. same_number ∙ t.1 h)

  says-busy : ((image_of st out).answer.number ≡ 10) ↔ ((m.closed ≡ false) × (awaits_any m.awaited ≡ true))
  says-busy = let t = (step-told m out).busy in (λ h. t.0 (sym same_number ∙ h), λ h. same_number ∙ t.1 h)

  says-image : m.closed ≡ false → awaits_any m.awaited ≡ false → length (image m.tables) ≤ length out → Writes st out (image m.tables)
  says-image e w h = let r = step-writes m out e w h in (same_answer ∙ r.0, same_out ∙ r.1)

  -- what is written is the image
  is-image : (bytes : List ℕ) → m.closed ≡ false → awaits_any m.awaited ≡ false → Writes st out bytes → bytes ≡ image m.tables
  is-image bytes e w h =
      let zero_number : (image_step m out).answer.number ≡ 0 = sym same_number ∙ ap (λ (p : Paper). p.number) h.0 in
      let r = says-image e w (step-short m out e w zero_number) in
      let n : length bytes ≡ length (image m.tables) = ap (λ (p : Paper). p.count) (sym h.0 ∙ r.0) in
      sym (take_at bytes (drop (length bytes) out) (length (image m.tables)) n)
      ∙ ap (take (length (image m.tables))) (sym h.1 ∙ r.1)
      ∙ take_at (image m.tables) (drop (length (image m.tables)) out) (length (image m.tables)) refl

-- an image that the rules accept is answered 0
read-accepted : (s : Settings) (l vcpus pages : List ℕ) (t : Tables) → So (in_range s) → load_image s l ≡ loaded t → (read_of s l vcpus pages).answer.number ≡ 0
unfolding read_of told_loaded
read-accepted s l vcpus pages t ok e = rw (ok, e)

no-waits : (n : ℕ) → awaits_any (replicate {A = Option Awaited} n none) ≡ false
no-waits zero = refl
no-waits (suc n) = no-waits n

-- ---- demand 3
pub demand-3 : Demand3
demand-3 =
    record {
      closed = λ s st m b cs out. says-closed s (after_of st cs) (after s m cs) (after-stands s st m cs (began-stands s st m b)) out;
      busy = λ s st m b cs out. says-busy s (after_of st cs) (after s m cs) (after-stands s st m cs (began-stands s st m b)) out;
      writes = λ s st m b cs out o h. says-image s (after_of st cs) (after s m cs) (after-stands s st m cs (began-stands s st m b)) out o.0 o.1 h;
      alike = λ s st st' m k b c cs ds out out' bytes bytes' o p w v.
          let f = after-stands s st m cs (began-stands s st m b) in
          let g = after-stands s st' k ds (began-stands s st' k c) in
          let e = is-image s (after_of st cs) (after s m cs) f out bytes o.0 o.1 w in
          let d = is-image s (after_of st' ds) (after s k ds) g out' bytes' p.0 p.1 v in
          let t = (after s m cs).tables in
          let u = (after s k ds).tables in
          let vt = stands-valid s (after_of st cs) (after s m cs) f in
          let vu = stands-valid s (after_of st' ds) (after s k ds) g in
          (λ q. equal-same t u (image_injective s t u vt vu (sym e ∙ q ∙ d)), λ q. e ∙ ap image (same-equal s t u vt vu q) ∙ sym d);
      again = λ s vcpus pages v p l t bytes ok e.
          let f = began-stands s (read_of s l vcpus pages).state (begun t) (from_image vcpus pages v p l t ok e) in
          let same = load-write s l t bytes e in (
            read-accepted s l vcpus pages t ok e,
            λ out room.
                subst (λ (x : List ℕ). Writes (read_of s l vcpus pages).state out x) same
                (says-image s (read_of s l vcpus pages).state (begun t) f out refl (no-waits (length t.vcpus)) (subst (λ (x : List ℕ). length x ≤ length out) (sym same) room)),
          );
    }
