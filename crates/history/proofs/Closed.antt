-- "Closing makes all this fresh, drops awaited events and stays closed": over every list of calls, a model that is closed is the closed one. Assumes nothing.
use mathlib.Core.Path.{◌≡◌, refl, ◌∙◌}
use Prim.Native.Nat.{ℕ}
use mathlib.Core.List.{List, [], ◌∷◌}
use mathlib.Core.Bool.{Bool, true, false}
use lib.ListN.{length, drop}
use Rattle.std.specs.Prelude.{Some, None}
use Rattle.wire.specs.Header.{HeaderRead, header_of}
use Rattle.kvmi.specs.declared.Settings.{Settings}
use Rattle.kvmi.specs.declared.Change.{Change}
use Rattle.kvmi.specs.declared.Change.TheVariants.{Nothing, SetVmEvent, WritePhysical, QueuePause, SetVcpuEvent, SetCr, SetMsr, SetPages, SetSinglestep, SetReplies, EndWait}
use Rattle.kvmi.specs.declared.Verdict.{Verdict}
use Rattle.kvmi.specs.declared.Verdict.TheVariants.{Closes, Fails, Does}
use Rattle.kvmi.specs.Model.{Model, closed_model}
use Rattle.kvmi.specs.Message.{vcpu_of}
use Rattle.kvmi.specs.Verdict.{facts_of, verdict}
use Rattle.kvmi.specs.Change.{apply}
use Rattle.kvmi.specs.Call.{Step, Call, answering, judged, headed, sending, pausing, entering, step, move, after}
use Rattle.laws.proofs.Bool.{clash}
use Rattle.history.proofs.Cases.{entering-cases, step-cases}

-- a model that is closed is the closed one
abbrev pub Rests : Settings → Model → Type 0
Rests s m = m.closed ≡ true → m ≡ closed_model s

-- no change closes
apply-lives : (s : Settings) (m : Model) (guest d : List ℕ) (c : Change) → (apply s m guest d c).model.closed ≡ m.closed
unfolding apply
apply-lives s m guest d Nothing = refl
apply-lives s m guest d (SetVmEvent on event) = refl
apply-lives s m guest d (WritePhysical gpa) = refl
apply-lives s m guest d (QueuePause wait vcpu) = refl
apply-lives s m guest d (SetVcpuEvent on vcpu event) = refl
apply-lives s m guest d (SetCr on vcpu cr) = refl
apply-lives s m guest d (SetMsr on vcpu msr) = refl
apply-lives s m guest d (SetPages view count) = refl
apply-lives s m guest d (SetSinglestep on vcpu) = refl
apply-lives s m guest d (SetReplies now mode) = refl
apply-lives s m guest d (EndWait resumes vcpu action value feed) = refl

module _ (s : Settings) (m : Model) (rests : Rests s m) where
  abbrev R : Step → Type 0
  R r = Rests s r.model

  -- an open model that is open still
  still-lives : {C : Type 0} → m.closed ≡ false → (b : Bool) → b ≡ m.closed → b ≡ true → C
  still-lives lives b same h = clash h (same ∙ lives)

  judged-rests : (id seq : ℕ) (d out guest : List ℕ) → m.closed ≡ false → (v : Verdict) → R (judged s m id seq d out guest v)
  unfolding judged answering
  judged-rests id seq d out guest lives Closes = λ _. refl
  judged-rests id seq d out guest lives (Fails code) = still-lives lives _ refl
  judged-rests id seq d out guest lives (Does c) = still-lives lives _ (apply-lives s m guest d c)

  headed-rests : (d out guest : List ℕ) → m.closed ≡ false → (h : HeaderRead) → R (headed s m d out guest h)
  unfolding headed
  headed-rests d out guest lives None = λ _. refl
  headed-rests d out guest lives (Some h) = judged-rests h.id h.seq d out guest lives (verdict s (facts_of m (length guest) (vcpu_of d)) h.id h.seq d)

  entering-rests : (vcpu : ℕ) (block : List ℕ) (event : ℕ) (own out : List ℕ) → m.closed ≡ false → R (entering m vcpu block event own out)
  unfolding sending pausing
  entering-rests vcpu block event own out lives =
      entering-cases R m vcpu block event own out (λ _. still-lives lives _ refl) (λ _ _. still-lives lives _ refl) (λ _. rests)

  pub step-rests : (c : Call) → R (step s m c)
  step-rests c =
      step-cases R s m c (λ _ _ _. rests) (λ lives msg out guest _. headed-rests (drop 8 msg) out guest lives (header_of msg)) (λ lives _. still-lives lives _ refl)
      (λ lives vcpu block event own out _ _. entering-rests vcpu block event own out lives) (λ _. rests)

pub after-rests : (s : Settings) (m : Model) (cs : List Call) → Rests s m → Rests s (after s m cs)
unfolding after move
after-rests s m [] r = r
after-rests s m (c ∷ cs) r = after-rests s (step s m c).model cs (step-rests s m r c)
