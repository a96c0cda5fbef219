-- The sum of pauses over every list of calls on a session. Assumes nothing.
use mathlib.Core.Path.{◌≡◌, refl, sym, ap, ◌∙◌}
use Prim.Native.Nat.{ℕ, ◌+◌, ◌<◌}
use native.Mathlib.Omega.{arith}
use mathlib.Core.List.{List, [], ◌∷◌}
use mathlib.Core.Bool.{false, not}
use lib.Dec.{eqb}
use Rattle.kvmi.specs.declared.Settings.{Settings}
use Rattle.kvmi.specs.Answer.{Paper}
use Rattle.kvmi.specs.Tables.{Vcpu}
use Rattle.kvmi.specs.Model.{Model}
use Rattle.kvmi.specs.Call.{Call, step, after}
use Rattle.kvmi.specs.Pauses.{accepted, sent, queued, accepted_in, sent_in}
use Rattle.store.specs.Meaning.{vcpu_of_words}
use Rattle.session.specs.State.{State, is_closed}
use Rattle.session.specs.Meaning.{model_of}
use Rattle.history.specs.History.{step_of, after_of, BeganOn}
use Rattle.history.specs.Pauses.{queued_of, sent_over, accepted_over}
use Rattle.laws.proofs.Pauses.{pauses-balanced}
use Rattle.refine.proofs.Vcpus.{vcpus-at}
use Rattle.history.proofs.Lists.{Stands, stands-range, stands-valid, step-stands, after-stands, step_same, began-stands}

same-accepted : (s : Settings) (st : State) (m : Model) (vcpu : ℕ) (cs : List Call) → Stands s st m → accepted_over vcpu st cs ≡ accepted_in vcpu s m cs
unfolding accepted_over accepted_in
same-accepted s st m vcpu [] f = refl
same-accepted s st m vcpu (c ∷ cs) f =
    let one = ap (λ (a : Paper). accepted vcpu a) (step_same s st m c f).0 in
    let rest = same-accepted s (step_of st c).state (step s m c).model vcpu cs (step-stands s st m c f) in
    omega arith

same_sent : (s : Settings) (st : State) (m : Model) (vcpu : ℕ) (cs : List Call) → Stands s st m → sent_over vcpu st cs ≡ sent_in vcpu s m cs
unfolding sent_over sent_in
same_sent s st m vcpu [] f = refl
same_sent s st m vcpu (c ∷ cs) f =
    let one = ap (λ (a : Paper). sent vcpu c a (step_of st c).out) (step_same s st m c f).0 ∙ ap (λ (l : List ℕ). sent vcpu c (step s m c).answer l) (step_same s st m c f).1 in
    let rest = same_sent s (step_of st c).state (step s m c).model vcpu cs (step-stands s st m c f) in
    omega arith

same-queued : (s : Settings) (st : State) (m : Model) (vcpu : ℕ) → Stands s st m → vcpu < s.vcpus → queued_of vcpu st ≡ queued vcpu m
unfolding queued_of queued vcpu_of_words
same-queued s st m vcpu f h =
    let inside : vcpu < st.session.settings.vcpus = rw f.settings h in
    sym (ap (λ (v : Vcpu). v.pauses) (vcpus-at st.session.shared.ready st.vcpus st.session.settings.vcpus vcpu inside))
    ∙ ap (λ (k : Model). queued vcpu k) f.model

-- for each vCPU, from any call on, over every list of calls after which the session is open
pub pauses-sum : (s : Settings) (st : State) (m : Model) → BeganOn s st m → (vcpu : ℕ) → vcpu < s.vcpus → (earlier cs : List Call)
    → is_closed (after_of (after_of st earlier) cs) ≡ false
    → queued_of vcpu (after_of st earlier) + accepted_over vcpu (after_of st earlier) cs ≡ sent_over vcpu (after_of st earlier) cs + queued_of vcpu (after_of (after_of st earlier) cs)
pauses-sum s st m b vcpu h earlier cs o =
    let start = after_of st earlier in
    let k = after s m earlier in
    let f = after-stands s st m earlier (began-stands s st m b) in
    let g = after-stands s start k cs f in
    let opened : (after s k cs).closed ≡ false = sym (ap (λ (x : Model). x.closed) g.model) ∙ o in
    let whole = pauses-balanced s (stands-range s start k f) vcpu k cs (stands-valid s start k f) opened in
    let first = same-queued s start k vcpu f h in
    let last = same-queued s (after_of start cs) (after s k cs) vcpu g h in
    let in_List = same-accepted s start k vcpu cs f in
    let out-list = same_sent s start k vcpu cs f in
    omega arith
