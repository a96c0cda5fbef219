-- The turns of a batch, of whatever takes its messages: what a turn finds, what it leaves, and where the turns end. Assumes nothing.
use mathlib.Core.Path.{◌≡◌, refl, sym, ap, ◌∙◌}
use Prim.Native.Nat.{ℕ, zero, suc, ◌+◌, ◌-◌, ◌≤◌, ◌<◌, min}
use native.Mathlib.Omega.{arith}
use mathlib.Core.List.{List}
use mathlib.Core.Bool.{Bool, true, false, cond, not, ◌&&◌}
use lib.ListN.{length, take, drop, length-drop}
use lib.Dec.{leb, ltb, eqb}
use borrow.Author.Tests.{leb-true, ltb-true, eqb-true, not-true, eq-eqb, lt-ltb, le-leb}
use Rattle.wire.specs.Bytes.{load}
use Rattle.kvmi.specs.Batch.{Takes, Batch, next_length, is_resume, goes_on, turn_of, turns_of}
use Rattle.laws.proofs.Bool.{and_l, and_r, test}
use Rattle.laws.proofs.Verdicts.{pick}

-- ---- the next message lies inside what is left, and is not empty
pub next-inside : (l : List ℕ) → next_length l ≤ length l
unfolding next_length
next-inside l = omega arith

pub next-some : (l : List ℕ) → 0 < length l → 0 < next_length l
unfolding next_length
next-some l h = omega arith

-- ---- what there is where a batch goes on
pub record Goes {A : Type 0} (input : List ℕ) (b : Batch A) : Type 0 where
  pub number : b.number ≡ 0
  pub resume : is_resume b.resume ≡ false
  pub more : b.used < length input
  pub room : 4112 ≤ length b.out - b.count
  pub place : b.listed < length b.signals

pub goes_of : {A : Type 0} (input : List ℕ) (b : Batch A) → goes_on input b ≡ true → Goes input b
unfolding goes_on
goes_of input b h =
    let handled = eqb b.number 0 in
    let on = not (is_resume b.resume) in
    let more = ltb b.used (length input) in
    let room = leb 4112 (length b.out - b.count) in
    let place = ltb b.listed (length b.signals) in
    let h4 = and_l (handled && on && more && room) place h in
    let h3 = and_l (handled && on && more) room h4 in
    let h2 = and_l (handled && on) more h3 in
    record {
      number = eqb-true _ _ (and_l handled on h2);
      resume = not-true (is_resume b.resume) (and_r handled on h2);
      more = ltb-true _ _ (and_r (handled && on) more h3);
      room = leb-true _ _ (and_r (handled && on && more) room h4);
      place = ltb-true _ _ (and_r (handled && on && more && room) place h);
    }

-- where all but the last is there, a place decides
pub by_place : {A : Type 0} (input : List ℕ) (b : Batch A) → b.number ≡ 0 → is_resume b.resume ≡ false → b.used < length input
    → 4112 ≤ length b.out - b.count → ltb b.listed (length b.signals) ≡ goes_on input b
unfolding goes_on
by_place input b n r m o = rw (eq-eqb b.number 0 n, r, lt-ltb b.used (length input) m, le-leb 4112 (length b.out - b.count) o) refl

-- and where there is all of that, it does
pub goes_by : {A : Type 0} (input : List ℕ) (b : Batch A) → b.number ≡ 0 → is_resume b.resume ≡ false → b.used < length input
    → 4112 ≤ length b.out - b.count → b.listed < length b.signals → goes_on input b ≡ true
goes_by input b n r m o p = sym (by_place input b n r m o) ∙ lt-ltb b.listed (length b.signals) p

-- the next message ends inside the input, behind where it starts
pub ends-inside : (input : List ℕ) (at : ℕ) → at ≤ length input → at + next_length (drop at input) ≤ length input
ends-inside input at h = let n = next-inside (drop at input) in let d = length-drop at input in omega arith

pub ends-behind : (input : List ℕ) (at : ℕ) → at < length input → at < at + next_length (drop at input)
ends-behind input at h = let d = length-drop at input in let n = next-some (drop at input) (omega arith) in omega arith

-- ---- where it does not go on the turns are over, and else one more is taken
pub turns-end : {A : Type 0} (takes : Takes A) (n : ℕ) (input : List ℕ) (b : Batch A) → goes_on input b ≡ false → turns_of takes n input b ≡ b
unfolding turns_of
turns-end takes zero input b e = refl
turns-end takes (suc n) input b e = rw e

pub turns_next : {A : Type 0} (takes : Takes A) (n : ℕ) (input : List ℕ) (b : Batch A) → goes_on input b ≡ true
    → turns_of takes (suc n) input b ≡ turns_of takes n input (turn_of takes input b)
unfolding turns_of
turns_next takes n input b e = rw e

-- with turns enough for what is left of the input, it does not go on behind them
pub turns-over : {A : Type 0} (takes : Takes A) (n : ℕ) (input : List ℕ) (b : Batch A) → length input ≤ n + b.used → goes_on input (turns_of takes n input b) ≡ false
unfolding turns_of turn_of
turns-over takes zero input b h = none_left
  where
    none_left : goes_on input b ≡ false
    none_left = test (goes_on input b) (λ g. let m = (goes_of input b g).more in absurd (omega arith)) (λ g. g)
turns-over takes (suc n) input b h =
    pick (λ (e : Batch _). goes_on input e ≡ false) (goes_on input b) _ _
    (λ g. let m = ends-behind input b.used (goes_of input b g).more in turns-over takes n input (turn_of takes input b) (omega arith)) (λ g. g)

-- ---- a batch from here on, with turns enough for what is left of the input, gives the end
pub record Rest {A : Type 0} (takes : Takes A) (input : List ℕ) (b end : Batch A) : Type 0 where
  pub turns : ℕ
  pub enough : length input ≤ turns + b.used
  pub inside : b.used ≤ length input
  pub written : b.count ≤ length b.out
  pub goes : turns_of takes turns input b ≡ end

-- the first turn has them all before it
pub rest-begins : {A : Type 0} (takes : Takes A) (input : List ℕ) (b : Batch A) → b.used ≡ 0 → b.count ≡ 0 → Rest takes input b (turns_of takes (length input) input b)
rest-begins takes input b u c = record { turns = length input; enough = omega arith; inside = omega arith; written = omega arith; goes = refl }

-- a turn leaves the same end
pub rest-next : {A : Type 0} (takes : Takes A) (input : List ℕ) (b end : Batch A) → Rest takes input b end → goes_on input b ≡ true
    → (turn_of takes input b).count ≤ length (turn_of takes input b).out → Rest takes input (turn_of takes input b) end
unfolding turn_of
rest-next takes input b end r g w =
    next r.turns r.enough r.goes
  where
    next : (n : ℕ) → length input ≤ n + b.used → turns_of takes n input b ≡ end → Rest takes input (turn_of takes input b) end
    next zero h e = let m = (goes_of input b g).more in absurd (omega arith)
    next (suc n) h e =
        let m = (goes_of input b g).more in
        let behind = ends-behind input b.used m in
        record { turns = n; enough = omega arith; inside = ends-inside input b.used (omega arith); written = w; goes = sym (turns_next takes n input b g) ∙ e }

-- and where there is no turn more, that is the end
pub rest-ends : {A : Type 0} (takes : Takes A) (input : List ℕ) (b end : Batch A) → Rest takes input b end → goes_on input b ≡ false → b ≡ end
rest-ends takes input b end r g = sym (turns-end takes r.turns input b g) ∙ r.goes
