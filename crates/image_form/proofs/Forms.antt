-- Bits tested one by one, and the marks of records. Assumes nothing.
use mathlib.Core.Path.{◌≡◌, refl, sym, ap, ◌∙◌}
use Prim.Native.Nat.{ℕ, suc, ◌+◌, ◌-◌, ◌/◌, ◌%◌, ◌≤◌, ◌<◌}
use native.Mathlib.Numerals.{add-one}
use native.Mathlib.Omega.{arith}
use mathlib.Core.List.{List}
use mathlib.Core.Logic.{⊎_elim}
use mathlib.Core.Bool.{Bool, true, false, cond, ◌||◌}
use Rattle.laws.proofs.Record.{kind-found}
use mathlib.Core.Option.{Option, none, some}
use lib.ListN.{length, drop, length-drop}
use lib.Dec.{eqb, leb}
use borrow.Author.Tests.{lt-leb}
use Rattle.wire.specs.Bytes.{num, load}
use Rattle.wire.proofs.Laws.{le-or-lt, load-whole}
use Rattle.kvmi.specs.Bits.{bits_have}
use Rattle.kvmi.specs.Record.{Kind, VM, VC, MS, PA, EN, kind_in, kinds, size, held, kind_at}
use Rattle.std.specs.Prelude.{Some, None}
use Rattle.std.specs.Prelude as std
use Rattle.image_form.specs.declared.Kind as code
use Rattle.image_form.specs.declared.Kind.TheVariants.{Vm, Vc, Ms, Pa, En}
use Rattle.image_form.specs.Form.{named, mark_of, held_in, mark_in, mark_at}

-- ---- bits
module _ (f : ℕ → Bool) (i x : ℕ) where
  pub bits-step : i < 16 → (eqb (x % 2) 0 || f i) ≡ true → bits_have f i (16 - i) x ≡ bits_have f (i + 1) (16 - (i + 1)) (x / 2)
  unfolding bits_have
  bits-step h e = let n : 16 - i ≡ suc (16 - (i + 1)) = omega arith in rw (n, e, add-one)

  pub bits-stop : i < 16 → (eqb (x % 2) 0 || f i) ≡ false → bits_have f i (16 - i) x ≡ false
  unfolding bits_have
  bits-stop h e = let n : 16 - i ≡ suc (16 - (i + 1)) = omega arith in rw (n, e)

  pub bits-end : 16 ≤ i → bits_have f i (16 - i) x ≡ eqb x 0
  unfolding bits_have
  bits-end h = let n : 16 - i ≡ 0 = omega arith in rw n

-- ---- marks
held-mark : (l : List ℕ) (o : Option Kind) → mark_of (held l o) ≡ held_in (length l) o
held-mark l none = refl
held-mark l (some k) = step (leb (size k) (length l))
  where
    step : (t : Bool) → mark_of (cond t (some k) none) ≡ cond t (Some (named k)) None
    step true = refl
    step false = refl

pub size-least : (k : Kind) → 6 ≤ size k
size-least VM = omega arith
size-least VC = omega arith
size-least MS = omega arith
size-least PA = omega arith
size-least EN = omega arith

held-short : (n : ℕ) (o : Option Kind) → n < 6 → held_in n o ≡ None
held-short n none h = refl
held-short n (some k) h = let w = size-least k in rw (lt-leb (size k) n (omega arith))

pub mark-there : (l : List ℕ) (at : ℕ) → mark_at l at ≡ mark_in (load 2 l at) (length l - at)
unfolding mark_at mark_in kind_at
mark-there l at =
    held-mark (drop at l) (kind_in kinds (num 2 (drop at l))) ∙ rw length-drop (⊎_elim inner outer (le-or-lt (at + 2) (length l)))
  where
    inner : at + 2 ≤ length l → held_in (length l - at) (kind_in kinds (num 2 (drop at l))) ≡ held_in (length l - at) (kind_in kinds (load 2 l at))
    inner h = rw (load-whole 2 l at h)

    outer : length l < at + 2 → held_in (length l - at) (kind_in kinds (num 2 (drop at l))) ≡ held_in (length l - at) (kind_in kinds (load 2 l at))
    outer h =
        held-short (length l - at) (kind_in kinds (num 2 (drop at l))) (omega arith)
        ∙ sym (held-short (length l - at) (kind_in kinds (load 2 l at)) (omega arith))

-- ---- the kind that a mark stands for
abbrev kind_of : std.Option code.Kind → Option Kind
kind_of None = none
kind_of (Some Vm) = some VM
kind_of (Some Vc) = some VC
kind_of (Some Ms) = some MS
kind_of (Some Pa) = some PA
kind_of (Some En) = some EN

kind-mark : (o : Option Kind) → kind_of (mark_of o) ≡ o
kind-mark none = refl
kind-mark (some VM) = refl
kind-mark (some VC) = refl
kind-mark (some MS) = refl
kind-mark (some PA) = refl
kind-mark (some EN) = refl

kind-named : (k : Kind) → kind_of (Some (named k)) ≡ some k
kind-named VM = refl
kind-named VC = refl
kind-named MS = refl
kind-named PA = refl
kind-named EN = refl

pub mark-kind : (l : List ℕ) (at : ℕ) (k : Kind) → mark_at l at ≡ Some (named k) → kind_at (drop at l) ≡ some k
unfolding mark_at
mark-kind l at k e = sym (kind-mark (kind_at (drop at l))) ∙ ap kind_of e ∙ kind-named k

pub mark-cut : (l : List ℕ) (at : ℕ) → mark_at l at ≡ None → kind_at (drop at l) ≡ none
unfolding mark_at
mark-cut l at e = sym (kind-mark (kind_at (drop at l))) ∙ ap kind_of e

pub mark-room : (l : List ℕ) (at : ℕ) (k : Kind) → mark_at l at ≡ Some (named k) → at + size k ≤ length l
mark-room l at k e =
    let h : size k ≤ length l - at = rw length-drop at (kind-found (drop at l) k (mark-kind l at k e)).1 in
    let w = size-least k in
    omega arith
