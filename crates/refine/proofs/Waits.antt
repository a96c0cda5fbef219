-- The five words of a wait together: the awaited event, its seq, and what is kept of a page fault. Assumes nothing.
use mathlib.Core.Path.{◌≡◌, refl, sym, ap, ◌∙◌}
use Prim.Native.Nat.{ℕ, ◌+◌, ◌*◌, ◌≤◌, ◌<◌}
use native.Mathlib.Omega.{arith}
use mathlib.Core.List.{List}
use mathlib.Core.Bool.{Bool, true, false, cond}
use lib.ListN.{length, get_or, set}
use lib.Seq.{set-get_or}
use lib.Dec.{eqb}
use Rattle.kvmi.specs.declared.Fault.{Fault}
use Rattle.kvmi.specs.Feed.{PF, no_fault, kept_of}
use Rattle.store.specs.Words.{field, fault_in, set_field, set_fault, ended_wait, AWAITED, AWAITED_SEQ, FAULT_GVA, FAULT_GPA, FAULT_ACCESS}
use Rattle.entry.specs.Entry.{awaiting_words, fault_words}
use Rattle.laws.proofs.Bool.{test}
use Rattle.refine.proofs.Msrs.{field-set, field-set-other, field-length}

unfoldable pub wait_words : List ℕ → ℕ → ℕ → ℕ → Fault → List ℕ
wait_words w v event seq f = set_fault (set_field (set_field w v AWAITED event) v AWAITED_SEQ seq) v f

-- the end of a wait
pub ended-as : (w : List ℕ) (v : ℕ) → ended_wait w v ≡ wait_words w v 0 0 no_fault
unfolding ended_wait wait_words
ended-as w v = refl

module _ (w : List ℕ) (v event seq : ℕ) (f : Fault) where
  abbrev one : List ℕ
  one = set_field w v AWAITED event

  abbrev two : List ℕ
  two = set_field one v AWAITED_SEQ seq

  abbrev three : List ℕ
  three = set_field two v FAULT_GVA f.gva

  abbrev four : List ℕ
  four = set_field three v FAULT_GPA f.gpa

  pub wait-length : length (wait_words w v event seq f) ≡ length w
  unfolding wait_words set_fault
  wait-length =
      field-length four v FAULT_ACCESS f.access ∙ field-length three v FAULT_GPA f.gpa ∙ field-length two v FAULT_GVA f.gva
      ∙ field-length one v AWAITED_SEQ seq ∙ field-length w v AWAITED event

  -- every other field is as it was
  pub wait-other : (i j : ℕ) → j < 272 → (i ≡ v → 4 ≤ j → j < 9 → ⊥) → field (wait_words w v event seq f) i j ≡ field w i j
  unfolding wait_words set_fault
  wait-other i j b d =
      field-set-other four v FAULT_ACCESS f.access i j (omega arith) b (λ p q. d p (omega arith) (omega arith))
      ∙ field-set-other three v FAULT_GPA f.gpa i j (omega arith) b (λ p q. d p (omega arith) (omega arith))
      ∙ field-set-other two v FAULT_GVA f.gva i j (omega arith) b (λ p q. d p (omega arith) (omega arith))
      ∙ field-set-other one v AWAITED_SEQ seq i j (omega arith) b (λ p q. d p (omega arith) (omega arith))
      ∙ field-set-other w v AWAITED event i j (omega arith) b (λ p q. d p (omega arith) (omega arith))

  module _ (inside : v * 272 + 9 ≤ length w) where
    l1 : length one ≡ length w
    l1 = field-length w v AWAITED event

    l2 : length two ≡ length w
    l2 = field-length one v AWAITED_SEQ seq ∙ l1

    l3 : length three ≡ length w
    l3 = field-length two v FAULT_GVA f.gva ∙ l2

    l4 : length four ≡ length w
    l4 = field-length three v FAULT_GPA f.gpa ∙ l3

    pub wait-access : field (wait_words w v event seq f) v FAULT_ACCESS ≡ f.access
    unfolding wait_words set_fault
    wait-access = field-set four v FAULT_ACCESS f.access (rw l4 (omega arith))

    pub wait-gpa : field (wait_words w v event seq f) v FAULT_GPA ≡ f.gpa
    unfolding wait_words set_fault
    wait-gpa =
        field-set-other four v FAULT_ACCESS f.access v FAULT_GPA (omega arith) (omega arith) (λ p q. omega arith)
        ∙ field-set three v FAULT_GPA f.gpa (rw l3 (omega arith))

    pub wait-gva : field (wait_words w v event seq f) v FAULT_GVA ≡ f.gva
    unfolding wait_words set_fault
    wait-gva =
        field-set-other four v FAULT_ACCESS f.access v FAULT_GVA (omega arith) (omega arith) (λ p q. omega arith)
        ∙ field-set-other three v FAULT_GPA f.gpa v FAULT_GVA (omega arith) (omega arith) (λ p q. omega arith)
        ∙ field-set two v FAULT_GVA f.gva (rw l2 (omega arith))

    pub wait-seq : field (wait_words w v event seq f) v AWAITED_SEQ ≡ seq
    unfolding wait_words set_fault
    wait-seq =
        field-set-other four v FAULT_ACCESS f.access v AWAITED_SEQ (omega arith) (omega arith) (λ p q. omega arith)
        ∙ field-set-other three v FAULT_GPA f.gpa v AWAITED_SEQ (omega arith) (omega arith) (λ p q. omega arith)
        ∙ field-set-other two v FAULT_GVA f.gva v AWAITED_SEQ (omega arith) (omega arith) (λ p q. omega arith)
        ∙ field-set one v AWAITED_SEQ seq (rw l1 (omega arith))

    pub wait-event : field (wait_words w v event seq f) v AWAITED ≡ event
    unfolding wait_words set_fault
    wait-event =
        field-set-other four v FAULT_ACCESS f.access v AWAITED (omega arith) (omega arith) (λ p q. omega arith)
        ∙ field-set-other three v FAULT_GPA f.gpa v AWAITED (omega arith) (omega arith) (λ p q. omega arith)
        ∙ field-set-other two v FAULT_GVA f.gva v AWAITED (omega arith) (omega arith) (λ p q. omega arith)
        ∙ field-set-other one v AWAITED_SEQ seq v AWAITED (omega arith) (omega arith) (λ p q. omega arith)
        ∙ field-set w v AWAITED event (omega arith)

    pub wait-fault : fault_in (wait_words w v event seq f) v ≡ f
    wait-fault = λ j. record { gva = wait-gva j; gpa = wait-gpa j; access = wait-access j }

-- ---- where nothing is kept, nothing has to be written
-- a field that is 0 already
pub zero-field-again : (w : List ℕ) (v k : ℕ) → field w v k ≡ 0 → set_field w v k 0 ≡ w
unfolding set_field field
zero-field-again w v k e = ap (λ (x : ℕ). set w (v * 272 + k) x) (sym e) ∙ set-get_or w (v * 272 + k) 0

no-fault-again : (w : List ℕ) (v : ℕ) → ((k : ℕ) → 6 ≤ k → k < 9 → field w v k ≡ 0) → set_fault w v no_fault ≡ w
unfolding set_fault
no-fault-again w v z =
    ap (λ (u : List ℕ). set_field (set_field u v FAULT_GPA 0) v FAULT_ACCESS 0) (zero-field-again w v FAULT_GVA (z FAULT_GVA (omega arith) (omega arith)))
    ∙ ap (λ (u : List ℕ). set_field u v FAULT_ACCESS 0) (zero-field-again w v FAULT_GPA (z FAULT_GPA (omega arith) (omega arith)))
    ∙ zero-field-again w v FAULT_ACCESS (z FAULT_ACCESS (omega arith) (omega arith))

pub awaiting-as : (w : List ℕ) (v event seq : ℕ) → ((k : ℕ) → 6 ≤ k → k < 9 → field w v k ≡ 0) → awaiting_words w v event seq ≡ wait_words w v event seq no_fault
unfolding awaiting_words wait_words
awaiting-as w v event seq z =
    let u = set_field w v AWAITED event in
    sym
    (no-fault-again (set_field u v AWAITED_SEQ seq) v
    (λ k a b. field-set-other u v AWAITED_SEQ seq v k (omega arith) (omega arith) (λ p q. omega arith)
    ∙ field-set-other w v AWAITED event v k (omega arith) (omega arith) (λ p q. omega arith) ∙ z k a b))

-- an offered event: of a page fault its own bytes' are kept, of any other nothing
pub sent-words : (w : List ℕ) (v event seq : ℕ) (own : List ℕ) → ((k : ℕ) → 6 ≤ k → k < 9 → field w v k ≡ 0)
    → fault_words (awaiting_words w v event seq) v event own ≡ wait_words w v event seq (kept_of event own)
unfolding fault_words kept_of
sent-words w v event seq own z =
    test (eqb event PF) (λ e. rw e (unfold awaiting_words in unfold wait_words in refl)) (λ e. rw e (awaiting-as w v event seq z))
