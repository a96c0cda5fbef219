-- Laws of the MSR switches: they are found along one row, and their records are stored one behind the other. Assumes nothing.
use mathlib.Core.Path.{◌≡◌, refl, sym, ap, ◌∙◌}
use mathlib.Core.Logic.{⊎_elim}
use mathlib.Core.List.{List, [], ◌∷◌, ◌++◌, append_assoc}
use mathlib.Core.Bool.{true, false}
use Prim.Native.Nat.{ℕ, zero, suc, ◌+◌, ◌-◌, ◌*◌, ◌/◌, ◌%◌, ◌^◌, ◌≤◌, ◌<◌, min}
use native.Mathlib.Nat.{add-zero, zero-add, add-suc, suc-add, pow-suc, pow-succ', div-one, div-div-eq-div-mul, not-suc-le-zero}
use native.Mathlib.Numerals.{add-one}
use native.Mathlib.Omega.{arith}
use lib.Dec.{eqb}
use lib.ListN.{length, get_or, set, length-append}
use lib.Seq.{get_or-set_same, get_or-set_other}
use lib.Bits.{bit_or, and_le_l, and_le_r, or_add_and}
use lib.Pow.{pow_mono}
use lib.Count.{ones, ones_in, ones_step, ones-le, count_trailing_zeros, under}
use borrow.Author.Tests.{eqb-true, eqb-false}
use Rattle.std.specs.Prelude.{Some}
use Rattle.wire.specs.Bytes.{store}
use Rattle.wire.proofs.Laws.{le-or-lt, store-past, store-join}
use Rattle.kvmi.specs.Bits.{bit_of, is_on}
use Rattle.kvmi.specs.Record.{MS, write}
use Rattle.kvmi.specs.Tables.{Msr}
use Rattle.kvmi.specs.Image.{ms_record}
use Rattle.laws.proofs.Bool.{test}
use Rattle.laws.proofs.Record.{length-write}
use Rattle.store.specs.Words.{field, switch_on}
use Rattle.store.specs.Meaning.{switches_on, msrs_of}
use Rattle.image_msrs.specs.Switches.{ms_bytes, switch_at, msr_of_switch, switches_from, bits_from, one_at, four_at, four_bits, four_of, NextOn, Marked, Marks, SwitchesPut}
use Rattle.image_msrs.specs.declared.Four.{Four}
use Rattle.image_msrs.proofs.Stores.{Going, going_end}

-- ---- switches along one row
module _ (w : List ℕ) where
  -- those of one vCPU
  from-vcpu : (v place m k : ℕ) → place + m ≤ 16384 → switches_on w v place m (switches_from w (v * 16384 + (place + m)) k) ≡ switches_from w (v * 16384 + place) (m + k)
  unfolding switches_on switches_from switch_at msr_of_switch
  from-vcpu v place zero k h = rw (add-zero, zero-add)
  from-vcpu v place (suc m) k h =
      let vcpu : (v * 16384 + place) / 16384 ≡ v = omega arith in
      let within : (v * 16384 + place) % 16384 ≡ place = omega arith in
      let next : place + suc m ≡ suc place + m = omega arith in
      rw (suc-add, vcpu, within, next, from-vcpu v (suc place) m k (omega arith), add-suc (v * 16384) place)

  from-nil : (g : ℕ) → switches_from w g 0 ≡ []
  unfolding switches_from
  from-nil g = refl

  pub msrs-from : (v n : ℕ) → msrs_of w v n ≡ switches_from w (v * 16384) (n * 16384)
  unfolding msrs_of
  msrs-from v zero = sym (from-nil (v * 16384))
  msrs-from v (suc n) =
      let next : suc v * 16384 ≡ v * 16384 + (0 + 16384) = omega arith in
      let all : suc n * 16384 ≡ 16384 + n * 16384 = omega arith in
      rw (msrs-from (suc v) n, next, from-vcpu v 0 16384 (n * 16384) (omega arith), add-zero, all)

  -- a row is its parts
  from-split : (g m n : ℕ) → switches_from w g (m + n) ≡ switches_from w g m ++ switches_from w (g + m) n
  unfolding switches_from
  from-split g zero n = rw (zero-add, add-zero)
  from-split g (suc m) n =
      let next : g + suc m ≡ suc g + m = omega arith in
      rw (suc-add, next) (test (switch_at w g) (λ e. rw (e, from-split (suc g) m n)) (λ e. rw (e, from-split (suc g) m n)))

  -- the switches of a word, from its bit k on
  from-word : (v j k m : ℕ) → j < 256 → k + m ≤ 64
      → switches_from w (v * 16384 + j * 64 + k) m ≡ bits_from one_at (get_or w (v * 272 + (16 + j)) 0 / 2 ^ k) (v * 16384 + j * 64 + k) m
  unfolding switches_from bits_from switch_at switch_on field is_on bit_of
  from-word v j k zero h g = refl
  from-word v j k (suc m) h g =
      let vcpu : (v * 16384 + j * 64 + k) / 16384 ≡ v = omega arith in
      let word : (v * 16384 + j * 64 + k) % 16384 / 64 ≡ j = omega arith in
      let place : (v * 16384 + j * 64 + k) % 16384 % 64 ≡ k = omega arith in
      let rest = from-word v j (suc k) m h (omega arith) in
      rw (vcpu, word, place, div-div-eq-div-mul, ← pow-suc, ← add-suc (v * 16384 + j * 64) k, rest)

  pub from-bound : (g n : ℕ) → length (switches_from w g n) ≤ n
  unfolding switches_from
  from-bound g zero = omega arith
  from-bound g (suc n) = let more = from-bound (suc g) n in test (switch_at w g) (λ e. rw e (omega arith)) (λ e. rw e (omega arith))

  -- the switches of a word
  word-bits : (v j g i : ℕ) → j < 256 → g ≡ v * 16384 + j * 64 → i ≡ v * 272 + 16 + j → switches_from w g 64 ≡ bits_from one_at (get_or w i 0) g 64
  word-bits v j g i h e f =
      let word : v * 272 + (16 + j) ≡ i = omega arith in
      rw e (rw (add-zero, word, div-one) at (from-word v j 0 64 h (omega arith)))

  -- of four words
  pub four-bits : (v j : ℕ) → j < 64 → four_bits (four_at w (v * 272 + 16 + 4 * j)) (v * 16384 + 256 * j) ≡ four_of w v j
  unfolding four_bits four_of
  four-bits v j h =
      let g = v * 16384 + 256 * j in
      let i = v * 272 + 16 + 4 * j in
      let third : g + 64 + 64 ≡ g + 128 = omega arith in
      let last : g + 128 + 64 ≡ g + 192 = omega arith in
      rw (
        from-split g 64 192,
        from-split (g + 64) 64 128,
        third,
        from-split (g + 128) 64 64,
        last,
        word-bits v (4 * j) g i (omega arith) (omega arith) (omega arith),
        word-bits v (4 * j + 1) (g + 64) (i + 1) (omega arith) (omega arith) (omega arith),
        word-bits v (4 * j + 2) (g + 128) (i + 2) (omega arith) (omega arith) (omega arith),
        word-bits v (4 * j + 3) (g + 192) (i + 3) (omega arith) (omega arith) (omega arith),
      )

-- ---- the fours of a vCPU
-- the switches that are on from four j on
unfoldable pub fours_from : List ℕ → ℕ → ℕ → List Msr
fours_from w v j = switches_from w (v * 16384 + 256 * j) ((64 - j) * 256)

pub fours_bound : (w : List ℕ) (v j : ℕ) → length (fours_from w v j) ≤ (64 - j) * 256
unfolding fours_from
fours_bound w v j = from-bound w (v * 16384 + 256 * j) ((64 - j) * 256)

-- the first of the vCPUs that are left, and then the others
pub vcpu-from : (w : List ℕ) (v n : ℕ) → v < n
    → switches_from w (v * 16384) ((n - v) * 16384) ≡ switches_from w (v * 16384) 16384 ++ switches_from w ((v + 1) * 16384) ((n - (v + 1)) * 16384)
vcpu-from w v n h =
    let many : (n - v) * 16384 ≡ 16384 + (n - (v + 1)) * 16384 = omega arith in
    let next : (v + 1) * 16384 ≡ v * 16384 + 16384 = omega arith in
    rw (many, next) (from-split w (v * 16384) 16384 ((n - (v + 1)) * 16384))

pub vcpus-none : (w : List ℕ) (v n : ℕ) → n ≤ v → switches_from w (v * 16384) ((n - v) * 16384) ≡ []
unfolding switches_from
vcpus-none w v n h = let e : (n - v) * 16384 ≡ 0 = omega arith in rw e

-- ---- the bits of a number
pub bits_none : (f : ℕ → List Msr) (g n : ℕ) → bits_from f 0 g n ≡ []
unfolding bits_from
bits_none f g zero = refl
bits_none f g (suc n) = bits_none f (suc g) n

-- one more below the others
bits-even : (f : ℕ → List Msr) (x g n : ℕ) → bits_from f (2 * x) g (suc n) ≡ bits_from f x (suc g) n
unfolding bits_from
bits-even f x g n =
    let low : 2 * x % 2 ≡ 0 = omega arith in
    let high : 2 * x / 2 ≡ x = omega arith in
    rw (low, high)

bits-odd : (f : ℕ → List Msr) (x g n : ℕ) → bits_from f (2 * x + 1) g (suc n) ≡ f g ++ bits_from f x (suc g) n
unfolding bits_from
bits-odd f x g n =
    let low : (2 * x + 1) % 2 ≡ 1 = omega arith in
    let high : (2 * x + 1) / 2 ≡ x = omega arith in
    rw (low, high)

-- ---- the marks of fours, made from the last four of a vCPU to its first
-- those from four i on are made
pub record Finding (w : List ℕ) (v i on fours : ℕ) : Type 0 where
  pub count : on ≡ length (fours_from w v i)
  pub small : fours < 2 ^ (64 - i)
  pub all : bits_from (four_of w v) fours i (64 - i) ≡ fours_from w v i

none_of : (ms : List Msr) → length ms ≡ 0 → ms ≡ []
none_of [] e = refl
none_of (m ∷ ms) e = absurd (omega arith)

module _ (w : List ℕ) (v : ℕ) where
  fours-next : (j : ℕ) → j < 64 → fours_from w v j ≡ four_of w v j ++ fours_from w v (suc j)
  unfolding fours_from four_of
  fours-next j h =
      let many : (64 - j) * 256 ≡ 256 + (64 - suc j) * 256 = omega arith in
      let next : v * 16384 + 256 * suc j ≡ v * 16384 + 256 * j + 256 = omega arith in
      rw (many, next) (from-split w (v * 16384 + 256 * j) 256 ((64 - suc j) * 256))

  pub finding-start : Finding w v 64 0 0
  unfolding fours_from switches_from
  finding-start = record { count = refl; small = omega arith; all = bits_none (four_of w v) 64 0 }

  pub finding-end : {on fours : ℕ} → Finding w v 0 on fours → Marked w v on fours
  unfolding fours_from
  finding-end g = record { count = rw add-zero at g.count; all = rw add-zero at g.all }

  -- one four more, read and counted
  module _ {i j on fours more : ℕ} {f : Four} (g : Finding w v i on fours) (r : f ≡ four_at w (v * 272 + 16 + 4 * j)) (n : (p : ℕ) → more ≡ length (four_bits f p)) (e : i ≡ suc j) (h : j < 64) where
    found : more ≡ length (four_of w v j)
    found = n (v * 16384 + 256 * j) ∙ ap (λ (x : Four). length (four_bits x (v * 16384 + 256 * j))) r ∙ ap length (four-bits w v j h)

    left : 64 - j ≡ suc (64 - i)
    left = omega arith

    next : fours_from w v j ≡ four_of w v j ++ fours_from w v i
    next = rw e (fours-next j h)

    count : on + more ≡ length (fours_from w v j)
    count = rw (next, length-append) (omega (arith, g.count, found))

    pub finding_few : (on + more ≤ 16384) × (2 * fours + 1 < 2 ^ 64)
    finding_few =
        let few = fours_bound w v j in
        (omega (arith, count), omega (arith, g.small, pow_mono {i = 64 - i} {j = 63} (omega arith)))

    rest : bits_from (four_of w v) fours (suc j) (64 - i) ≡ fours_from w v i
    rest = rw (← e) g.all

    pub finding-none : more ≡ 0 → Finding w v j (on + more) (2 * fours)
    finding-none z =
        record {
          count = count;
          small = rw (left, pow-suc) (omega (arith, g.small));
          all = rw (left, bits-even, next, none_of (four_of w v j) (omega (arith, found))) rest;
        }

    pub finding-some : Finding w v j (on + more) (2 * fours + 1)
    finding-some =
        record {
          count = count;
          small = rw (left, pow-suc) (omega (arith, g.small));
          all = rw (left, bits-odd, next) (ap (λ (ms : List Msr). four_of w v j ++ ms) rest);
        }

-- of one vCPU more
pub marks-none : (w marks : List ℕ) → Marks w 0 marks
marks-none w marks = record { all = λ v h. absurd (not-suc-le-zero h) }

pub marks-next : (w : List ℕ) {marks : List ℕ} {v on fours : ℕ} → Marks w v marks → Marked w v on fours → v < length marks → Marks w (v + 1) (set marks v fours)
marks-next w {marks} {v} {on} {fours} m f h =
    record {
      all = λ u g. ⊎_elim
          (λ (l : v ≤ u). let same : u ≡ v = omega arith in rw (same, get_or-set_same marks v fours 0 h) f.all)
          (λ (l : u < v). rw (get_or-set_other marks v u fours 0 (λ e. omega arith)) (m.all u l))
          (le-or-lt v u);
    }

-- ---- the bits of words
-- in a word they are as many as its ones
bits-count : (x g n : ℕ) → x < 2 ^ n → length (bits_from one_at x g n) ≡ ones x
unfolding bits_from ones ones_in
bits-count x g zero h = let e : x ≡ 0 = omega arith in rw e
bits-count x g (suc n) h =
    let less : x / 2 < 2 ^ n = omega (arith, rw pow-suc at h) in
    let rest = bits-count (x / 2) (suc g) n less in
    let all = ones_step x in
    test (eqb (x % 2) 1) (λ e. rw e (omega (arith, eqb-true (x % 2) 1 e))) (λ e. rw e (omega (arith, eqb-false (x % 2) 1 e)))

or-zero : (a b : ℕ) → bit_or a b ≡ 0 → (a ≡ 0) × (b ≡ 0)
or-zero a b h =
    (omega (arith, h, or_add_and a b, and_le_r a b), omega (arith, h, or_add_and a b, and_le_l a b))

module _ (f : Four) (g : ℕ) where
  pub four-length : length (four_bits f g) ≡ length (bits_from one_at f.a g 64) + (length (bits_from one_at f.b (g + 64) 64) + (length (bits_from one_at f.c (g + 128) 64) + length (bits_from one_at f.d (g + 192) 64)))
  unfolding four_bits
  four-length = simp length-append

  pub four-count : f.a < 2 ^ 64 → f.b < 2 ^ 64 → f.c < 2 ^ 64 → f.d < 2 ^ 64 → ones f.a + ones f.b + ones f.c + ones f.d ≡ length (four_bits f g)
  four-count p q r s =
      rw (four-length, bits-count f.a g 64 p, bits-count f.b (g + 64) 64 q, bits-count f.c (g + 128) 64 r, bits-count f.d (g + 192) 64 s) (omega arith)

  pub four_few : f.a < 2 ^ 64 → f.b < 2 ^ 64 → f.c < 2 ^ 64 → f.d < 2 ^ 64 → ones f.a + ones f.b + ones f.c + ones f.d ≤ 256
  four_few p q r s = omega (arith, ones-le 64 f.a p, ones-le 64 f.b q, ones-le 64 f.c r, ones-le 64 f.d s)

  pub four-none : bit_or (bit_or (bit_or f.a f.b) f.c) f.d ≡ 0 → 0 ≡ length (four_bits f g)
  four-none h =
      let p = or-zero _ f.d h in
      let q = or-zero _ f.c p.0 in
      let r = or-zero f.a f.b q.0 in
      rw four-length (simp (r.0, r.1, q.1, p.1, bits_none))

-- ---- the lowest bit that is on, and what is left above it
pub record Lowest (f : ℕ → List Msr) (x g n k : ℕ) : Type 0 where
  pub inside : k < n
  pub first : bits_from f x g n ≡ f (g + k) ++ bits_from f (x / 2 ^ k / 2) (g + (k + 1)) (n - (k + 1))
  pub less : x / 2 ^ k / 2 < 2 ^ (n - (k + 1))

pub lowest : (f : ℕ → List Msr) (x g n m : ℕ) → (x ≡ 0 → ⊥) → x < 2 ^ n → n ≤ m → Lowest f x g n (count_trailing_zeros m x)
unfolding bits_from count_trailing_zeros
lowest f x g zero m d h l = absurd (d (omega arith))
lowest f x g (suc n) zero d h l = absurd (omega arith)
lowest f x g (suc n) (suc m) d h l = test (eqb (x % 2) 1) odd (even (λ q. lowest f (x / 2) (suc g) n m q less (omega arith)))
  where
    less : x / 2 < 2 ^ n
    less = omega (arith, rw pow-suc at h)

    odd : eqb (x % 2) 1 ≡ true → Lowest f x g (suc n) (under (x % 2) (count_trailing_zeros m (x / 2)))
    odd e =
        let many : suc n - (0 + 1) ≡ n = omega arith in
        rw (eqb-true (x % 2) 1 e) record { inside = omega arith; first = rw (e, many, add-zero, div-one, add-one); less = rw (many, div-one) less }

    even : ((x / 2 ≡ 0 → ⊥) → Lowest f (x / 2) (suc g) n (count_trailing_zeros m (x / 2))) → eqb (x % 2) 1 ≡ false → Lowest f x g (suc n) (under (x % 2) (count_trailing_zeros m (x / 2)))
    even rest e =
        let zeroth : x % 2 ≡ 0 = omega (arith, eqb-false (x % 2) 1 e) in
        let k = count_trailing_zeros m (x / 2) in
        let r = rest (λ z. d (omega arith)) in
        let half : x / 2 ^ suc k ≡ x / 2 / 2 ^ k = rw (pow-succ', ← div-div-eq-div-mul) in
        let place : g + suc k ≡ suc g + k = omega arith in
        let next : g + (suc k + 1) ≡ suc g + (k + 1) = omega arith in
        let many : suc n - (suc k + 1) ≡ n - (k + 1) = omega arith in
        rw zeroth record { inside = omega (arith, r.inside); first = rw (e, half, place, next, many) r.first; less = rw (half, many) r.less }

-- one step along the bits that are on
module _ (left at end : ℕ) (d : left ≡ 0 → ⊥) (h : at ≤ end) (few : end ≤ at + 64) (g : left < 2 ^ (end - at)) where
  many-left : (k : ℕ) → end - at - (k + 1) ≡ end - (at + k + 1)
  many-left k = omega arith

  pub next-inside : at + count_trailing_zeros 64 left < end
  next-inside = let low = lowest one_at left at (end - at) 64 d g (omega arith) in omega (arith, low.inside)

  pub next-fits : left / 2 ^ count_trailing_zeros 64 left / 2 < 2 ^ (end - (at + count_trailing_zeros 64 left + 1))
  next-fits = rw many-left at (lowest one_at left at (end - at) 64 d g (omega arith)).less

  pub next-bit : NextOn left at end (Some (at + count_trailing_zeros 64 left)) (left / 2 ^ count_trailing_zeros 64 left / 2) (at + count_trailing_zeros 64 left + 1) end
  next-bit = (
    next-inside,
    refl,
    λ f.
        let k = count_trailing_zeros 64 left in
        let next : at + (k + 1) ≡ at + k + 1 = omega arith in
        rw (next, many-left k) at (lowest f left at (end - at) 64 d g (omega arith)).first,
  )

-- before the first step
pub bits-begin : (f : ℕ → List Msr) (x g : ℕ) {left at end : ℕ} → left ≡ x → at ≡ g → end ≡ g + 64 → bits_from f x g 64 ≡ bits_from f left at (end - at)
bits-begin f x g d e q = let all : g + 64 - g ≡ 64 = omega arith in rw (d, e, q, all)

-- ---- the bytes of MS records
pub length-ms : (ms : List Msr) → length (ms_bytes ms) ≡ 8 * length ms
unfolding ms_bytes
length-ms [] = refl
length-ms (m ∷ ms) = rw (length-append, length-write MS, length-ms ms) (omega arith)

pub ms-append : (a b : List Msr) → ms_bytes (a ++ b) ≡ ms_bytes a ++ ms_bytes b
unfolding ms_bytes
ms-append [] b = refl
ms-append (m ∷ a) b = rw (ms-append a b, append_assoc)

pub ms-nil : ms_bytes [] ≡ []
unfolding ms_bytes
ms-nil = refl

pub ms-first : (m : Msr) (ms : List Msr) → ms_bytes (m ∷ ms) ≡ write (ms_record m) ++ ms_bytes ms
unfolding ms_bytes
ms-first m ms = refl

-- records behind others
pub put-join : {s out next : List ℕ} {at p r : ℕ} {a b : List Msr} → SwitchesPut s at a out p → SwitchesPut out p b next r → r ≤ length s → SwitchesPut s at (a ++ b) next r
put-join {s} {out} {next} {at} {p} {r} {a} {b} f g h =
    let room : at + (length (ms_bytes a) + length (ms_bytes b)) ≤ length s = simp length-ms (omega (arith, f.next, g.next)) in
    let place : p ≡ at + length (ms_bytes a) = rw length-ms f.next in
    record {
      there = g.there ∙ rw (f.there, place, ms-append) (store-join s at (ms_bytes a) (ms_bytes b) room);
      next = rw length-append (omega (arith, f.next, g.next));
    }

pub going-put : {s : List ℕ} {at : ℕ} {ms : List Msr} {out : List ℕ} {p : ℕ} {left : List ℕ} → Going s at (ms_bytes ms) out p left → left ≡ [] → SwitchesPut s at ms out p
going-put {ms = ms} g e = record { there = going_end g e; next = omega (arith, rw e at g.place, length-ms ms) }

-- ---- of any number of vCPUs: no more are looked at than there are blocks of words
module _ (w : List ℕ) (n : ℕ) where
  pub counted : {k r : ℕ} → k ≡ min n 16 → r ≡ length (switches_from w 0 (k * 16384)) → r ≡ length (msrs_of w 0 (min n 16))
  counted e f = f ∙ ap (λ (m : ℕ). length (switches_from w 0 (m * 16384))) e ∙ ap length (sym (msrs-from w 0 (min n 16)))

  pub msrs-bound : length (msrs_of w 0 (min n 16)) ≤ 262144
  msrs-bound = let b = from-bound w 0 (min n 16 * 16384) in rw (msrs-from w 0 (min n 16)) (omega arith)

  module _ (s : List ℕ) (at : ℕ) where
    pub stored : {k : ℕ} {out : List ℕ} → k ≡ min n 16 → out ≡ store s at (ms_bytes (switches_from w 0 (k * 16384)))
        → out ≡ store s at (ms_bytes (msrs_of w 0 (min n 16)))
    stored e f = f ∙ ap (λ (m : ℕ). store s at (ms_bytes (switches_from w 0 (m * 16384)))) e ∙ ap (λ (ms : List Msr). store s at (ms_bytes ms)) (sym (msrs-from w 0 (min n 16)))

    pub no_room : {r : ℕ} → r ≡ length (msrs_of w 0 (min n 16)) → length s < at + 8 * r → s ≡ store s at (ms_bytes (msrs_of w 0 (min n 16)))
    no_room e h = sym (store-past s at (ms_bytes (msrs_of w 0 (min n 16))) (rw (length-ms, ← e) h))
