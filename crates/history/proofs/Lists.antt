-- A list of calls on a session is the same list on its model. Assumes nothing.
use mathlib.Core.Path.{◌≡◌, refl, sym, ap, ◌∙◌, subst}
use Prim.Native.Nat.{ℕ, zero, suc, ◌≤◌}
use native.Mathlib.Omega.{arith}
use mathlib.Core.List.{List, [], ◌∷◌}
use mathlib.Core.Bool.{Bool, true, false, cond, So}
use lib.ListN.{length}
use Rattle.kvmi.specs.declared.Settings.{Settings}
use Rattle.kvmi.specs.Settings.{in_range}
use Rattle.kvmi.specs.Tables.{Tables}
use Rattle.kvmi.specs.Model.{Model, fresh, begun}
use Rattle.kvmi.specs.Image.{Loaded, loaded, bad_form, forbidden, load_image}
use Rattle.kvmi.specs.Valid.{Valid}
use Rattle.kvmi.specs.Call.{Call, message, ready, enter, write_image, Step, step, move, after}
use Rattle.session.specs.State.{State, fresh_session, cleared_state}
use Rattle.session.specs.Calls.{Told}
use Rattle.session.specs.Meaning.{model_of, WellFormed}
use Rattle.image_reader.specs.Read.{loaded_state, told_loaded, read_of}
use Rattle.history.specs.History.{step_of, after_of, BeganOn, anew, from_image}
use Rattle.laws.proofs.Bool.{test}
use Rattle.laws.proofs.Steps.{step_kept}
use Rattle.laws.proofs.Load.{load-valid}
use Rattle.refine.proofs.Simulate.{Simulates, message-simulates, ready-simulates, enter-simulates}
use Rattle.refine.proofs.Theorems.{formed, fresh-model, fresh-formed, begin-fresh}
use Rattle.history.proofs.Images.{image-simulates, loaded-model, loaded-formed}

pub step-simulates : (st : State) → WellFormed st → (c : Call) → Simulates st (step_of st c) (step st.session.settings (model_of st) c)
unfolding step_of step
step-simulates st f (message msg out guest) = message-simulates st f out guest msg
step-simulates st f (ready vcpu) = ready-simulates st f vcpu
step-simulates st f (enter vcpu block event own out) = enter-simulates st f vcpu block event own out
step-simulates st f (write_image out) = image-simulates st f out

pub step-formed : (st : State) → WellFormed st → (c : Call) → WellFormed (step_of st c).state
step-formed st f c = formed st _ _ f (step-simulates st f c) (step_kept st.session.settings f.settings (model_of st) c f.tables)

-- a session that stands for a model under given settings
pub record Stands (s : Settings) (st : State) (m : Model) : Type 0 where
  pub formed : WellFormed st
  pub settings : st.session.settings ≡ s
  pub model : model_of st ≡ m

pub stands-range : (s : Settings) (st : State) (m : Model) → Stands s st m → So (in_range s)
stands-range s st m f = subst (λ (x : Settings). So (in_range x)) f.settings f.formed.settings

pub stands-valid : (s : Settings) (st : State) (m : Model) → Stands s st m → Valid s m.tables
stands-valid s st m f = subst (λ (x : Settings). Valid x m.tables) f.settings (subst (λ (k : Model). Valid st.session.settings k.tables) f.model f.formed.tables)

pub step-stands : (s : Settings) (st : State) (m : Model) (c : Call) → Stands s st m → Stands s (step_of st c).state (step s m c).model
step-stands s st m c f =
    let one = step-simulates st f.formed c in
    record {
      formed = step-formed st f.formed c;
      settings = one.settings ∙ f.settings;
      model = one.model ∙ ap (λ (x : Settings). (step x (model_of st) c).model) f.settings ∙ ap (λ (x : Model). (step s x c).model) f.model;
    }

pub after-stands : (s : Settings) (st : State) (m : Model) (cs : List Call) → Stands s st m → Stands s (after_of st cs) (after s m cs)
unfolding after_of after move
after-stands s st m [] f = f
after-stands s st m (c ∷ cs) f = after-stands s (step_of st c).state (step s m c).model cs (step-stands s st m c f)

-- each call's answer, output and guest memory are the model's
pub step_same : (s : Settings) (st : State) (m : Model) (c : Call) → Stands s st m
    → ((step_of st c).answer ≡ (step s m c).answer) × ((step_of st c).out ≡ (step s m c).out) × ((step_of st c).guest ≡ (step s m c).guest)
step_same s st m c f =
    let one = step-simulates st f.formed c in
    let move-to : step st.session.settings (model_of st) c ≡ step s m c = ap (λ (x : Settings). step x (model_of st) c) f.settings ∙ ap (λ (x : Model). step s x c) f.model in
    (one.answer ∙ ap (λ (r : Step). r.answer) move-to, one.out ∙ ap (λ (r : Step). r.out) move-to, one.guest ∙ ap (λ (r : Step). r.guest) move-to)

-- ---- how it began
accepted : (s : Settings) (vcpus pages : List ℕ) (x : Loaded) (t : Tables) → x ≡ loaded t → (told_loaded s vcpus pages x).state ≡ loaded_state s t vcpus pages
unfolding told_loaded
accepted s vcpus pages x t e = rw e

pub read-state : (s : Settings) (l vcpus pages : List ℕ) (t : Tables) → So (in_range s) → load_image s l ≡ loaded t → (read_of s l vcpus pages).state ≡ loaded_state s t vcpus pages
unfolding read_of
read-state s l vcpus pages t ok e = rw ok (accepted s vcpus pages (load_image s l) t e)

pub began-stands : (s : Settings) (st : State) (m : Model) → BeganOn s st m → Stands s st m
began-stands s st m (anew vcpus pages v p ok) =
    let same = (begin-fresh s vcpus pages ok).1 in
    subst (λ (x : State). Stands s x (fresh s)) (sym same)
    (record { formed = fresh-formed s vcpus pages v p ok; settings = refl; model = fresh-model s vcpus pages })
began-stands s st m (from_image vcpus pages v p l t ok e) =
    let a = load-valid s l t e in
    subst (λ (x : State). Stands s x (begun t)) (sym (read-state s l vcpus pages t ok e))
    (record { formed = loaded-formed s t ok a vcpus pages v p; settings = kept; model = loaded-model s t ok a vcpus pages v p })
  where
    kept : (loaded_state s t vcpus pages).session.settings ≡ s
    kept = unfold loaded_state in refl
