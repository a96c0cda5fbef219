-- Records are stored one behind the other, each into the part that it fills. Assumes nothing.
use mathlib.Core.Path.{◌≡◌, refl, sym, ap, ◌∙◌}
use mathlib.Core.List.{List, [], ◌++◌, append_assoc, append-nil}
use Prim.Native.Nat.{ℕ, ◌+◌, ◌-◌, ◌≤◌}
use native.Mathlib.Omega.{arith}
use lib.ListN.{length, take, drop, length-append, length-take, length-drop}
use lib.Seq.{drop-drop, drop-length}
use Rattle.wire.specs.Bytes.{store}
use Rattle.wire.proofs.Laws.{length-store, store-join, store-none, store-start, store-whole}

-- `left` is still to be stored at p, and then what was s has b at `at`
pub record Going (s : List ℕ) (at : ℕ) (b out : List ℕ) (p : ℕ) (left : List ℕ) : Type 0 where
  pub kept : length out ≡ length s
  pub room : p + length left ≤ length s
  pub place : p + length left ≡ at + length b
  pub there : store out p left ≡ store s at b

pub going_start : (s : List ℕ) (at : ℕ) (b : List ℕ) → at + length b ≤ length s → Going s at b s at b
going_start s at b h = record { kept = refl; room = h; place = refl; there = refl }

module _ {s : List ℕ} {at : ℕ} {b out : List ℕ} {p : ℕ} {left : List ℕ} where
  pub going_step : (u v : List ℕ) {next : List ℕ} {q : ℕ} → Going s at b out p left → left ≡ u ++ v → next ≡ store out p u → q ≡ p + length u → Going s at b next q v
  going_step u v {next} {q} g e f h =
      let room : p + (length u + length v) ≤ length out = omega (arith, rw (e, length-append) at g.room, g.kept) in
      record {
        kept = rw (f, length-store) g.kept;
        room = omega arith;
        place = omega (arith, rw (e, length-append) at g.place);
        there = rw (f, h) (store-join out p u v room) ∙ ap (store out p) (sym e) ∙ g.there;
      }

  pub going-same : {v : List ℕ} {q : ℕ} → Going s at b out p left → left ≡ v → q ≡ p → Going s at b out q v
  going-same g e f = record { kept = g.kept; room = rw (f, ← e) g.room; place = rw (f, ← e) g.place; there = rw (f, ← e) g.there }

  pub going_end : Going s at b out p left → left ≡ [] → out ≡ store s at b
  going_end g e = sym (store-none out p) ∙ ap (store out p) (sym e) ∙ g.there

-- a part that was lent, with all of it written, is a store
pub part-written : (s : List ℕ) (at k : ℕ) (b m : List ℕ) → m ≡ store (take (at + k - at) (drop at s)) 0 b → length b ≡ k → at + k ≤ length s
    → take at s ++ (m ++ drop (at + k - at) (drop at s)) ≡ store s at b
part-written s at k b m e h g =
    let size : at + k - at ≡ length b = omega arith in
    let all : length (take (length b) (drop at s)) ≡ length b = rw (length-take, length-drop) (omega arith) in
    let none : drop (length b) (take (length b) (drop at s)) ≡ [] = ap (λ (n : ℕ). drop n (take (length b) (drop at s))) (sym all) ∙ drop-length (take (length b) (drop at s)) in
    rw (e, size, store-start (take (length b) (drop at s)) b (omega arith), none, append-nil, store-whole s at b (omega arith), drop-drop, append_assoc)
