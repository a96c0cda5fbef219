-- Laws of a reply's data: which it is, where it lies and how long it is. Assumes nothing.
use mathlib.Core.Path.{◌≡◌, refl, sym, ap, ◌∙◌}
use mathlib.Core.Logic.{⊎_elim}
use mathlib.Core.List.{List, []}
use mathlib.Core.Bool.{Bool, true, false, ◌&&◌, and-eq-true_iff, false≢true}
use Prim.Native.Nat.{ℕ, zero, suc, ◌+◌, ◌-◌, ◌≤◌, ◌<◌, min}
use native.Mathlib.Nat.{not-suc-le-zero}
use native.Mathlib.Omega.{arith}
use lib.IntN.{ℤ}
use lib.ListN.{length, take, drop, length-append, length-take, length-drop, drop_of_length-le, get_or-eq_default}
use lib.Seq.{take_all, take-length, drop-length}
use lib.Dec.{eqb}
use denote.Enum.Declared.{tag_of}
use borrow.Author.Tests.{ne_eqb, eqb-true}
use Rattle.std.specs.Prelude.{Option, Some, None}
use Rattle.wire.proofs.Laws.{le-or-lt, length-le}
use Rattle.kvmi.specs.declared.Settings.{Settings}
use Rattle.kvmi.specs.declared.Handler.{Handler}
use Rattle.kvmi.specs.declared.Handler.TheVariants.{GetVersion, VmCheckCommand, VmCheckEvent, VmGetInfo, VmControlEvents, VmReadPhysical, VmWritePhysical, VcpuGetInfo, VcpuPause, VcpuControlEvents, VcpuControlCr, VcpuControlMsr, VmSetPageAccess, VcpuControlSinglestep, VmControlCmdResponse, EventReply}
use Rattle.kvmi.specs.declared.Layout.{Layout}
use Rattle.kvmi.specs.contracts.Handler.{the_type}
use Rattle.kvmi.specs.Codes.{is_error}
use Rattle.kvmi.specs.declared.ReplyKind.TheVariants.{CodeOnly}
use Rattle.kvmi.specs.Message.{layout_of, reply_kind, messages, carries_data, gpa_of, size_of}
use Rattle.kvmi.specs.Reply.{reply_data}
use Rattle.reply.specs.Contents.{contents_bytes, contents_count, contents_end, Chosen, Picked}
use Rattle.reply.specs.declared.Contents.{Contents}
use Rattle.reply.specs.declared.Contents.TheVariants.{Nothing, Version, VmInfo, VcpuInfo, Memory}

-- ---- the data of a reply, by the handler's place among the handlers: messages 1 to 16 have them in order; 16 is the place of none

abbrev tag_in : Option Layout → ℕ
tag_in None = 16
tag_in (Some row) = tag_of the_type row.handler

abbrev handler_tag : ℕ → ℕ
handler_tag id = tag_in (layout_of id)

-- f holds of each number below n
abbrev pub all_below : (ℕ → Bool) → ℕ → Bool
all_below f zero = true
all_below f (suc n) = f n && all_below f n

pub below : (f : ℕ → Bool) (n i : ℕ) → all_below f n ≡ true → i < n → f i ≡ true
below f zero i h g = absurd (not-suc-le-zero g)
below f (suc n) i h g =
    let both = (and-eq-true_iff (f n) (all_below f n)).0 h in
    ⊎_elim
    (λ q. below f n i both.1 q)
    (λ q. let e : i ≡ n = omega arith in rw e both.0)
    (le-or-lt (suc i) n)

place_in : (n : ℕ) → n < 16 → n ≡ handler_tag (suc n)
unfolding layout_of
place_in n h = eqb-true n (handler_tag (suc n)) (below (λ k. eqb k (handler_tag (suc k))) 16 n refl h)

place-past : (n : ℕ) → 16 ≤ n → handler_tag (suc n) ≡ 16
unfolding layout_of
place-past n h = ap tag_in (get_or-eq_default messages None {n = suc n} (omega arith))

module _ (s : Settings) (guest d : List ℕ) where
  pub no-data : (n : ℕ) → (n ≡ 1 → ⊥) → (n ≡ 4 → ⊥) → (n ≡ 6 → ⊥) → (n ≡ 8 → ⊥) → reply_data s guest n d ≡ []
  unfolding reply_data
  no-data n a b c e = simp (ne_eqb n 1 a, ne_eqb n 4 b, ne_eqb n 6 c, ne_eqb n 8 e)

  pub by_place : (id : ℕ) → reply_data s guest id d ≡ reply_data s guest (suc (handler_tag id)) d
  unfolding reply_data layout_of
  by_place zero = refl
  by_place (suc n) = ⊎_elim
      (λ h.
      no-data (suc n) (λ e. omega arith) (λ e. omega arith) (λ e. omega arith) (λ e. omega arith)
      ∙ sym (ap (λ (k : ℕ). reply_data s guest (suc k) d) (place-past n h)))
      (λ h. ap (λ (k : ℕ). reply_data s guest (suc k) d) (place_in n h))
      (le-or-lt 16 n)

  -- a message that a code alone answers has none
  pub code-only : (id : ℕ) → reply_kind (layout_of id) ≡ CodeOnly → reply_data s guest id d ≡ []
  unfolding layout_of
  code-only id kind =
      let no_such : (n : ℕ) → carries_data (reply_kind (layout_of n)) ≡ true → id ≡ n → ⊥
      = λ n has e. false≢true (sym (ap carries_data kind) ∙ ap (λ (k : ℕ). carries_data (reply_kind (layout_of k))) e ∙ has) in
      no-data id (no_such 1 refl) (no_such 4 refl) (no_such 6 refl) (no_such 8 refl)

-- the handlers that answer with data are four
bare : (s : Settings) (guest d : List ℕ) (h : Handler) → (h ≡ GetVersion → ⊥) → (h ≡ VmGetInfo → ⊥) → (h ≡ VmReadPhysical → ⊥) → (h ≡ VcpuGetInfo → ⊥)
    → reply_data s guest (suc (tag_of the_type h)) d ≡ []
unfolding reply_data
bare s guest d GetVersion a b c e = absurd (a refl)
bare s guest d VmGetInfo a b c e = absurd (b refl)
bare s guest d VmReadPhysical a b c e = absurd (c refl)
bare s guest d VcpuGetInfo a b c e = absurd (e refl)
bare s guest d VmCheckCommand a b c e = refl
bare s guest d VmCheckEvent a b c e = refl
bare s guest d VmControlEvents a b c e = refl
bare s guest d VmWritePhysical a b c e = refl
bare s guest d VcpuPause a b c e = refl
bare s guest d VcpuControlEvents a b c e = refl
bare s guest d VcpuControlCr a b c e = refl
bare s guest d VcpuControlMsr a b c e = refl
bare s guest d VmSetPageAccess a b c e = refl
bare s guest d VcpuControlSinglestep a b c e = refl
bare s guest d VmControlCmdResponse a b c e = refl
bare s guest d EventReply a b c e = refl

module _ (guest : List ℕ) (id : ℕ) (code : ℤ) (d : List ℕ) (ok : is_error code ≡ false) where
  by_tag : (s : Settings) {o : Option Layout} → o ≡ layout_of id → reply_data s guest (suc (tag_in o)) d ≡ reply_data s guest id d
  by_tag s e = ap (λ o. reply_data s guest (suc (tag_in o)) d) e ∙ sym (by_place s guest d id)

  -- an id without a row has none
  pub chosen_of_none : None ≡ layout_of id → Chosen guest id code d Nothing
  unfolding contents_bytes contents_end reply_data
  chosen_of_none e = record { bytes = λ s. by_tag s e ∙ rw ok; inside = omega arith }

  -- a handler's contents are those of the message
  pub chosen : {row : Layout} → Some row ≡ layout_of id → (h : Handler) (r : Contents) → row.handler ≡ h
      → ((s : Settings) → contents_bytes s guest r ≡ reply_data s guest (suc (tag_of the_type h)) d)
      → contents_end r ≤ length guest → Chosen guest id code d r
  chosen e h r g same inside =
      record {
        bytes = λ s. same s ∙ ap (λ (x : Handler). reply_data s guest (suc (tag_of the_type x)) d) (sym g) ∙ by_tag s e ∙ rw ok;
        inside = inside;
      }

  pub chosen_none : {row : Layout} → Some row ≡ layout_of id → (row.handler ≡ GetVersion → ⊥) → (row.handler ≡ VmGetInfo → ⊥) → (row.handler ≡ VmReadPhysical → ⊥)
      → (row.handler ≡ VcpuGetInfo → ⊥) → Chosen guest id code d Nothing
  unfolding contents_bytes contents_end
  chosen_none {row} e p q r t = chosen e row.handler Nothing refl (λ s. sym (bare s guest d row.handler p q r t)) (omega arith)

-- a command that fails has none
pub chosen-error : (guest : List ℕ) (id : ℕ) (code : ℤ) (d : List ℕ) → is_error code ≡ true → Chosen guest id code d Nothing
unfolding contents_bytes contents_end
chosen-error guest id code d e = record { bytes = λ s. rw e; inside = omega arith }

-- ---- guest memory

take_min : (n : ℕ) (l : List ℕ) → take (min n (length l)) l ≡ take n l
take_min n l = ⊎_elim
    (λ h. let e : min n (length l) ≡ n = omega arith in rw e)
    (λ h. let e : min n (length l) ≡ length l = omega arith in rw (e, take-length, take_all n l (omega arith)))
    (le-or-lt n (length l))

drop_min : (n : ℕ) (l : List ℕ) → drop (min n (length l)) l ≡ drop n l
drop_min n l = ⊎_elim
    (λ h. let e : min n (length l) ≡ n = omega arith in rw e)
    (λ h. let e : min n (length l) ≡ length l = omega arith in rw (e, drop-length, drop_of_length-le l {i = n} (omega arith)))
    (le-or-lt n (length l))

-- the bytes that are there of size bytes from gpa
pub picked : (guest d : List ℕ) (from count : ℕ)
    → from ≡ min (gpa_of d) (length guest) → count ≡ min (size_of d) (length guest - from) → Picked guest d (Memory from count)
unfolding contents_bytes contents_end
picked guest d from count e h =
    record {
      bytes = λ s. rw (h, ← length-drop from guest) (take_min (size_of d) (drop from guest) ∙ rw (e, drop_min));
      inside = omega arith;
    }

pub length-contents : (s : Settings) (guest : List ℕ) (r : Contents) → contents_end r ≤ length guest → length (contents_bytes s guest r) ≡ contents_count r
unfolding contents_bytes contents_end contents_count reply_data
length-contents s guest Nothing h = refl
length-contents s guest Version h = simp (length-append, length-le)
length-contents s guest VmInfo h = simp (length-append, length-le)
length-contents s guest VcpuInfo h = length-le 8 s.tsc
length-contents s guest (Memory from count) h = simp (length-take, length-drop) (omega arith)

pub count-bound : (r : Contents) → contents_count r ≤ contents_end r + 16
unfolding contents_end contents_count
count-bound Nothing = omega arith
count-bound Version = omega arith
count-bound VmInfo = omega arith
count-bound VcpuInfo = omega arith
count-bound (Memory from count) = omega arith
