-- Laws of the image writer's call: a vCPU that awaits a reply, and what is answered. Assumes nothing.
use mathlib.Core.Path.{◌≡◌, refl}
use Prim.Native.Nat.{ℕ, zero, suc, ◌+◌, ◌-◌, ◌≤◌, ◌<◌, min}
use native.Mathlib.Numerals.{add-one}
use native.Mathlib.Omega.{arith}
use mathlib.Core.List.{List, []}
use mathlib.Core.Bool.{Bool, true, false, cond, not, ◌||◌}
use mathlib.Core.Option.{none, some}
use Rattle.std.specs.List.{list_any, range_with_len}
use lib.Dec.{eqb}
use lib.ListN.{length}
use borrow.Author.Tests.{eq-eqb, ne_eqb, lt-ltb, le-ltb}
use Rattle.wire.specs.Bytes.{store}
use Rattle.wire.proofs.Laws.{length-store, store-past}
use Rattle.kvmi.specs.declared.Signal.TheVariants.{Quiet}
use Rattle.kvmi.specs.Image.{image}
use Rattle.kvmi.specs.Model.{awaiting, is_some}
use Rattle.kvmi.specs.Call.{awaits_any}
use Rattle.store.specs.Words.{field, fault_in, AWAITED, AWAITED_SEQ}
use Rattle.session.specs.State.{State, is_closed}
use Rattle.session.specs.Calls.{told_same, told_written}
use Rattle.session.specs.Meaning.{awaited_in, awaited_of}
use Rattle.image_bytes.specs.Parts.{stated_of}
use Rattle.image_writer.specs.Write.{stated_vcpus, stated_tables, image_of}

-- ---- a vCPU that awaits a reply
awaited-is : (w : List ℕ) (i : ℕ) → is_some (awaited_in w i) ≡ not (eqb (field w i AWAITED) 0)
unfolding awaited_in
awaited-is w i = go (eqb (field w i AWAITED) 0)
  where
    go : (t : Bool) → is_some (cond t none (some (awaiting (field w i AWAITED) (field w i AWAITED_SEQ) (fault_in w i)))) ≡ not t
    go true = refl
    go false = refl

pub awaits-list : (w : List ℕ) (i n : ℕ) → list_any (λ (k : ℕ). not (eqb (field w k AWAITED) 0)) (range_with_len i n) ≡ awaits_any (awaited_of w i n)
unfolding awaited_of
awaits-list w i zero = refl
awaits-list w i (suc n) = rw (awaited-is w i, add-one i, awaits-list w (suc i) n) refl

-- ---- what an image states
pub stated-same : (st : State)
    → stated_of st.session.tool.events st.session.shared.ready st.session.settings.vcpus st.session.tool.pages st.vcpus st.pages ≡ stated_tables st
unfolding stated_tables stated_vcpus
stated-same st = refl

-- ---- the call
module _ (st : State) (n : ℕ) (e : n ≡ min st.session.settings.vcpus 16) (live : is_closed st ≡ false) (out : List ℕ) where
  pub image-busy : awaits_any (awaited_of st.vcpus 0 n) ≡ true → told_same 10 st out [] ≡ image_of st out
  unfolding image_of stated_vcpus
  image-busy h = rw (live, ← e, h)

  module _ (h : awaits_any (awaited_of st.vcpus 0 n) ≡ false) where
    pub image-short : length out < length (image (stated_tables st)) → told_same 3 st out [] ≡ image_of st out
    unfolding image_of stated_vcpus
    image-short l = rw (live, ← e, h, lt-ltb (length out) (length (image (stated_tables st))) l)

    pub image-whole : length (image (stated_tables st)) ≤ length out → told_written (image (stated_tables st)) Quiet st out [] ≡ image_of st out
    unfolding image_of stated_vcpus
    image-whole l = rw (live, ← e, h, le-ltb (length out) (length (image (stated_tables st))) l)

    -- an output that is too short stays as it was
    pub image-past : (after : List ℕ) (size : ℕ) → after ≡ store out 0 (image (stated_tables st)) → size ≡ length (image (stated_tables st)) → length after < size
        → told_same 3 st after [] ≡ image_of st out
    image-past after size there e l =
        let kept : length after ≡ length out = rw (there, length-store) in
        let short : length out < length (image (stated_tables st)) = omega (arith, kept, e, l) in
        rw (there, store-past out 0 (image (stated_tables st)) (omega (arith, short))) (image-short short)
