-- Laws of numbers as bytes, of their places in a list, and of the header, each once for every width. Assumes nothing.
use mathlib.Core.Path.{◌≡◌, refl, sym, ap, ◌∙◌}
use mathlib.Core.Logic.{◌⊎◌, inl, inr, ⊎_elim}
use mathlib.Core.List.{List, [], ◌∷◌, ◌++◌, append_assoc, append-nil}
use mathlib.Core.Bool.{Bool, true, false, So, and-eq-true_iff}
use Prim.Native.Nat.{ℕ, zero, suc, ◌+◌, ◌*◌, ◌/◌, ◌%◌, ◌^◌, ◌-◌, ◌≤◌, ◌<◌}
use native.Mathlib.Nat.{add-zero, zero-add, suc-add, add_assoc, mul_comm, pow-suc, pow-succ', le_of_suc-le-suc, not-suc-le-zero, div-one, div-lt_iff_lt-mul, div-div-eq-div-mul, zero-lt-suc, one-le-pow}
use native.Mathlib.Numerals.{add-one}
use native.Mathlib.Omega.{arith}
use lib.Arith.{digits_div, digits_mod, mod-mul}
use lib.Dec.{leb, ltb, eqb}
use lib.ListN.{length, get_or, set, take, drop, length-append, length-take, length-drop, take-append-drop, get_or-eq_default, length-set, length-replicate}
use lib.Pow.{are_bytes}
use lib.Seq.{drop_at, drop-cons, drop-drop, take_at, take-append_seam, take-add, drop-append-le, drop-append_seam, append_snoc, set_split, set_out, take-append-le, take-take, paste, paste-zero, paste-suc, take-length}
use borrow.Rule.Slice.PartMut.{put_mid}
use mir.Syntax.{Width, w8}
use mir.Val.{Fits}
use borrow.Author.Tests.{ltb-true, lt-ltb, le-leb, lt-leb, leb-true, leb-false, eqb-true, eq-eqb, ne_eqb}
use Rattle.std.specs.Int.{byte_at, byte_len, byte_worth, bytes_low_first, sum_through, to_le_bytes, from_le_bytes}
use Rattle.wire.specs.Bytes.{le, num, load, store, bytes_at}
use Rattle.wire.specs.Header.{is_whole, whole, header_of}
use Rattle.wire.specs.declared.Header.{Header}
use Rattle.std.specs.Prelude.{None, replicate, slice_index}

-- ---- tests

-- of two numbers one is at most the other, or above it
pub le-or-lt : (a b : ℕ) → (a ≤ b) ⊎ (b < a)
le-or-lt a b = go (leb a b) refl
  where
    go : (t : Bool) → leb a b ≡ t → (a ≤ b) ⊎ (b < a)
    go true e = inl (leb-true a b e)
    go false e = inr (leb-false a b e)

-- what a test that is carried as a bool says
pub test-passed : {b : Bool} {a n : ℕ} → b ≡ leb a n → b ≡ true → a ≤ n
test-passed {a = a} {n = n} e h = leb-true a n (sym e ∙ h)

pub test-failed : {b : Bool} {a n : ℕ} → b ≡ leb a n → b ≡ false → n < a
test-failed {a = a} {n = n} e h = leb-false a n (sym e ∙ h)

-- ---- numbers and bytes

pub length-le : (k n : ℕ) → length (le k n) ≡ k
unfolding le
length-le zero n = refl
length-le (suc k) n = ap suc (length-le k (n / 256))

pub bytes_le : (k n : ℕ) → So (are_bytes (le k n))
unfolding le
bytes_le zero n = refl
bytes_le (suc k) n = rw (lt-ltb (n % 256) 256 (omega arith)) (bytes_le k (n / 256))

pub num-le : (k n : ℕ) (t : List ℕ) → n < 256 ^ k → num k (le k n ++ t) ≡ n
unfolding le num
num-le zero n t h = omega arith
num-le (suc k) n t h =
    let e = num-le k (n / 256) t ((div-lt_iff_lt-mul (zero-lt-suc 255)).1 (rw pow-suc at h)) in
    rw e (omega arith)

-- a list of bytes taken apart
first_byte : (b : ℕ) (s : List ℕ) → So (are_bytes (b ∷ s)) → (b < 256) × So (are_bytes s)
first_byte b s h = let hs = (and-eq-true_iff (ltb b 256) (are_bytes s)).0 h in (ltb-true b 256 hs.0, hs.1)

pub num-bound : (k : ℕ) (s : List ℕ) → So (are_bytes s) → num k s < 256 ^ k
unfolding num
num-bound zero s h = omega arith
num-bound (suc k) [] h = one-le-pow (suc k) 256 (zero-lt-suc 255)
num-bound (suc k) (b ∷ s) h = rw pow-suc (omega (arith, num-bound k s (first_byte b s h).1, (first_byte b s h).0))

pub le-num : (k : ℕ) (s : List ℕ) → So (are_bytes s) → k ≤ length s → le k (num k s) ++ drop k s ≡ s
unfolding le num
le-num zero s h g = refl
le-num (suc k) [] h g = absurd (not-suc-le-zero g)
le-num (suc k) (b ∷ s) h g =
    let small = (first_byte b s h).0 in
    let low : (b + 256 * num k s) % 256 ≡ b = omega arith in
    let high : (b + 256 * num k s) / 256 ≡ num k s = omega arith in
    rw (low, high, le-num k s (first_byte b s h).1 (le_of_suc-le-suc g))

-- a slice's list, as the borrow checker knows it
pub bytes-known : (s : List ℕ) → ((i : ℕ) → Fits w8 (get_or s i 0)) → So (are_bytes s)
bytes-known [] f = refl
bytes-known (b ∷ s) f = rw (lt-ltb b 256 (f 0).fits) (bytes-known s (λ i. f (suc i)))

pub bytes_drop : (k : ℕ) (s : List ℕ) → So (are_bytes s) → So (are_bytes (drop k s))
bytes_drop zero s h = h
bytes_drop (suc k) [] h = h
bytes_drop (suc k) (b ∷ s) h = bytes_drop k s (first_byte b s h).1

pub bytes_take : (k : ℕ) (s : List ℕ) → So (are_bytes s) → So (are_bytes (take k s))
bytes_take zero s h = refl
bytes_take (suc k) [] h = refl
bytes_take (suc k) (b ∷ s) h = rw (lt-ltb b 256 (first_byte b s h).0) (bytes_take k s (first_byte b s h).1)

pub bytes-append : (s t : List ℕ) → So (are_bytes s) → So (are_bytes t) → So (are_bytes (s ++ t))
bytes-append [] t h g = g
bytes-append (b ∷ s) t h g = rw (lt-ltb b 256 (first_byte b s h).0) (bytes-append s t (first_byte b s h).1 g)

-- a number of j + k bytes is its low j bytes and, above them, its high k
num-nil : (k : ℕ) → num k [] ≡ 0
unfolding num
num-nil zero = refl
num-nil (suc k) = refl

pub num-join : (j k : ℕ) (s : List ℕ) → num (j + k) s ≡ num j s + 256 ^ j * num k (drop j s)
unfolding num
num-join zero k s = rw (zero-add k) (omega arith)
num-join (suc j) k [] = rw (num-nil (suc j + k), num-nil k) (omega arith)
num-join (suc j) k (b ∷ s) = rw (suc-add, num-join j k s, pow-suc) (omega arith)

low-digits : (j n : ℕ) → le j (n % 256 ^ j) ≡ le j n
unfolding le
low-digits zero n = refl
low-digits (suc j) n =
    let m = mod-mul n (one-le-pow j 256 (zero-lt-suc 255)) (zero-lt-suc 255) in
    let small : n % 256 < 256 = omega arith in
    rw (pow-suc, m, digits_mod (n / 256 % 256 ^ j) small, digits_div (n / 256 % 256 ^ j) small, low-digits j (n / 256))

le-append : (j k n : ℕ) → le j n ++ le k (n / 256 ^ j) ≡ le (j + k) n
unfolding le
le-append zero k n = rw (zero-add, div-one)
le-append (suc j) k n =
    rw (suc-add, pow-succ', ← div-div-eq-div-mul, le-append j k (n / 256))

pub le_join : (j k n : ℕ) → le j (n % 256 ^ j) ++ le k (n / 256 ^ j) ≡ le (j + k) n
le_join j k n = rw (low-digits, le-append)

-- the library's `to_le_bytes`
byte_at-digit : (i n : ℕ) → byte_at i n ≡ n / 256 ^ i % 256
byte_at-digit zero n = rw div-one
byte_at-digit (suc i) n = refl

bytes_low_first-le : (i k n : ℕ) → bytes_low_first i k n ≡ le k (n / 256 ^ i)
unfolding le
bytes_low_first-le i zero n = refl
bytes_low_first-le i (suc k) n = rw (byte_at-digit i n, bytes_low_first-le (suc i) k n, pow-suc, div-div-eq-div-mul)

pub to_le_bytes-le : (w : Width) (n : ℕ) → to_le_bytes w n ≡ le (byte_len w) n
to_le_bytes-le w n = rw (bytes_low_first-le 0 (byte_len w) n, div-one)

-- what stands behind the bytes of a number does not count
pub num-front : (k : ℕ) (s t : List ℕ) → k ≤ length s → num k (s ++ t) ≡ num k s
unfolding num
num-front zero s t h = refl
num-front (suc k) [] t h = absurd (not-suc-le-zero h)
num-front (suc k) (b ∷ s) t h = rw (num-front k s t (le_of_suc-le-suc h))

-- ---- the number at a place

pub load-whole : (k : ℕ) (s : List ℕ) (at : ℕ) → at + k ≤ length s → load k s at ≡ num k (drop at s)
unfolding load
load-whole k s at h = rw (le-leb (at + k) (length s) h)

pub load_past : (k : ℕ) (s : List ℕ) (at : ℕ) → length s < at + k → load k s at ≡ 0
unfolding load
load_past k s at h = rw (lt-leb (at + k) (length s) h)

pub load-none : (s : List ℕ) (at : ℕ) → load 0 s at ≡ 0
unfolding num
load-none s at = ⊎_elim (load-whole 0 s at) (load_past 0 s at) (le-or-lt (at + 0) (length s))

pub load_byte : (s : List ℕ) (at : ℕ) → load 1 s at ≡ get_or s at 0
unfolding num
load_byte s at = ⊎_elim one_in one-past (le-or-lt (at + 1) (length s))
  where
    one_in : at + 1 ≤ length s → load 1 s at ≡ get_or s at 0
    one_in h = let g : at < length s = omega arith in rw (load-whole 1 s at h, drop-cons s at 0 g) (omega arith)

    one-past : length s < at + 1 → load 1 s at ≡ get_or s at 0
    one-past h = rw (load_past 1 s at h, get_or-eq_default s 0 {n = at} (omega arith))

pub load-join : (j k : ℕ) (s : List ℕ) (at : ℕ) → at + (j + k) ≤ length s
    → load (j + k) s at ≡ load j s at + 256 ^ j * load k s (at + j)
load-join j k s at h =
    rw (
      load-whole (j + k) s at h,
      load-whole j s at (omega arith),
      load-whole k s (at + j) (omega arith),
      num-join,
      drop-drop,
    )

pub load-bound : (k : ℕ) (s : List ℕ) (at : ℕ) → So (are_bytes s) → load k s at < 256 ^ k
load-bound k s at b = ⊎_elim
    (λ h. rw (load-whole k s at h) (num-bound k (drop at s) (bytes_drop at s b)))
    (λ h. rw (load_past k s at h) (one-le-pow k 256 (zero-lt-suc 255)))
    (le-or-lt (at + k) (length s))

-- of a part of the list
pub load-drop : (k a : ℕ) (s : List ℕ) (at : ℕ) → load k (drop a s) at ≡ load k s (a + at)
load-drop zero a s at = simp load-none
load-drop (suc k) a s at = ⊎_elim inner outer (le-or-lt (a + at + suc k) (length s))
  where
    inner : a + at + suc k ≤ length s → load (suc k) (drop a s) at ≡ load (suc k) s (a + at)
    inner h = rw (load-whole (suc k) s (a + at) h, load-whole (suc k) (drop a s) at (rw length-drop (omega arith)), drop-drop)

    outer : length s < a + at + suc k → load (suc k) (drop a s) at ≡ load (suc k) s (a + at)
    outer h = rw (load_past (suc k) s (a + at) h, load_past (suc k) (drop a s) at (rw length-drop (omega arith)))

pub load-front : (k : ℕ) (s t : List ℕ) (at : ℕ) → at + k ≤ length s → load k (s ++ t) at ≡ load k s at
load-front k s t at h =
    rw (
      load-whole k s at h,
      load-whole k (s ++ t) at (rw length-append (omega arith)),
      drop-append-le at s t (omega arith),
      num-front k (drop at s) t (rw length-drop (omega arith)),
    )

pub load-take : (k n : ℕ) (s : List ℕ) (at : ℕ) → at + k ≤ n → n ≤ length s → load k (take n s) at ≡ load k s at
load-take k n s at h g =
    let fits : at + k ≤ length (take n s) = rw length-take (omega arith) in
    sym (load-front k (take n s) (drop n s) at fits) ∙ ap (λ (l : List ℕ). load k l at) (take-append-drop n s)

-- a slice of n bytes from a, as code lends it
pub load_part : (k a n : ℕ) (s : List ℕ) (at : ℕ) → at + k ≤ n → a + n ≤ length s → load k (take n (drop a s)) at ≡ load k s (a + at)
load_part k a n s at h g = load-take k n (drop a s) at h (rw length-drop (omega arith)) ∙ load-drop k a s at

-- behind other bytes
pub load-behind : (k : ℕ) (s t : List ℕ) (at : ℕ) → load k (s ++ t) (length s + at) ≡ load k t at
load-behind k s t at = sym (load-drop k (length s) (s ++ t) at) ∙ rw drop-append_seam

pub load-le : (k n : ℕ) (t : List ℕ) → n < 256 ^ k → load k (le k n ++ t) 0 ≡ n
load-le k n t h = load-whole k (le k n ++ t) 0 (rw (length-append, length-le) (omega arith)) ∙ num-le k n t h

-- ---- the number in bytes that were read

pub bytes-inside : (k : ℕ) (s : List ℕ) (at : ℕ) → at + k ≤ length s → bytes_at k s at ≡ take k (drop at s)
unfolding bytes_at
bytes-inside k s at h = rw (le-leb (at + k) (length s) h)

pub bytes-past : (k : ℕ) (s : List ℕ) (at : ℕ) → length s < at + k → bytes_at k s at ≡ replicate k 0
unfolding bytes_at
bytes-past k s at h = rw (lt-leb (at + k) (length s) h)

length-bytes : (k : ℕ) (s : List ℕ) (at : ℕ) → length (bytes_at k s at) ≡ k
length-bytes k s at = ⊎_elim
    (λ h. rw (bytes-inside k s at h, length-take, length-drop) (omega arith))
    (λ h. rw (bytes-past k s at h, length-replicate))
    (le-or-lt (at + k) (length s))

num-zeros : (k n : ℕ) → num k (replicate n 0) ≡ 0
unfolding num
num-zeros zero n = refl
num-zeros (suc k) zero = refl
num-zeros (suc k) (suc n) = rw (num-zeros k n)

load-zeros : (k n : ℕ) → load k (replicate n 0) 0 ≡ 0
load-zeros k n = ⊎_elim
    (λ h. load-whole k (replicate n 0) 0 h ∙ num-zeros k n)
    (load_past k (replicate n 0) 0)
    (le-or-lt (0 + k) (length (replicate n 0)))

load-bytes : (k : ℕ) (s : List ℕ) (at : ℕ) → load k (bytes_at k s at) 0 ≡ load k s at
load-bytes k s at = ⊎_elim
    (λ h. rw (bytes-inside k s at h) (load_part k at k s 0 (omega arith) h ∙ rw add-zero))
    (λ h. rw (bytes-past k s at h, load_past k s at h) (load-zeros k k))
    (le-or-lt (at + k) (length s))

-- the library's `from_le_bytes` adds up the bytes by their worths
worths-load : (k : ℕ) (s : List ℕ) → suc k ≤ length s → sum_through (λ i. byte_worth i (slice_index s i)) k ≡ load (suc k) s 0
worths-load zero s h = sym (load_byte s 0)
worths-load (suc k) s h =
    let e : slice_index s (suc k) * 256 ^ suc k ≡ 256 ^ suc k * load 1 s (0 + suc k) = rw (load_byte, zero-add) (mul_comm (slice_index s (suc k)) (256 ^ suc k)) in
    let joined : load (suc (suc k)) s 0 ≡ load (suc k) s 0 + 256 ^ suc k * load 1 s (0 + suc k) = rw add-one at (load-join (suc k) 1 s 0 (omega arith)) in
    let low = worths-load k s (omega arith) in
    rw (low, e) (sym joined)

pub from_bytes : (w : Width) (s : List ℕ) (at : ℕ) → from_le_bytes w (bytes_at (byte_len w) s at) ≡ load (byte_len w) s at
from_bytes w8 s at = worths-load 0 (bytes_at 1 s at) (omega (arith, length-bytes 1 s at)) ∙ load-bytes 1 s at
from_bytes w s at = worths-load (byte_len w - 1) (bytes_at (byte_len w) s at) (omega (arith, length-bytes (byte_len w) s at)) ∙ load-bytes (byte_len w) s at

-- ---- bytes at a place

pub store-whole : (s : List ℕ) (at : ℕ) (v : List ℕ) → at + length v ≤ length s
    → store s at v ≡ take at s ++ v ++ drop (at + length v) s
unfolding store
store-whole s at v h = rw (le-leb (at + length v) (length s) h)

pub store-past : (s : List ℕ) (at : ℕ) (v : List ℕ) → length s < at + length v → store s at v ≡ s
unfolding store
store-past s at v h = rw (lt-leb (at + length v) (length s) h)

-- what holds of the list with the bytes, where they are inside, and of the list itself holds of a store
store-ind : (P : List ℕ → Type 0) (s : List ℕ) (at : ℕ) (v : List ℕ)
    → (at + length v ≤ length s → P (take at s ++ v ++ drop (at + length v) s))
    → P s → P (store s at v)
store-ind P s at v in-case past = ⊎_elim
    (λ h. rw (store-whole s at v h) (in-case h))
    (λ h. rw (store-past s at v h) past)
    (le-or-lt (at + length v) (length s))

pub length-store : (s : List ℕ) (at : ℕ) (v : List ℕ) → length (store s at v) ≡ length s
length-store s at v =
    store-ind (λ l. length l ≡ length s) s at v (λ h. simp (length-append, length-take, length-drop) (omega arith)) refl

pub bytes-store : (s : List ℕ) (at : ℕ) (v : List ℕ) → So (are_bytes s) → So (are_bytes v) → So (are_bytes (store s at v))
bytes-store s at v b c =
    store-ind (λ l. So (are_bytes l)) s at v
    (λ h. bytes-append (take at s ++ v) (drop (at + length v) s) (bytes-append (take at s) v (bytes_take at s b) c) (bytes_drop (at + length v) s b))
    b

pub store-none : (s : List ℕ) (at : ℕ) → store s at [] ≡ s
store-none s at = store-ind (λ l. l ≡ s) s at [] (λ h. simp (append-nil, add-zero, take-append-drop)) refl

pub store_byte : (s : List ℕ) (at b : ℕ) → store s at (b ∷ []) ≡ set s at b
store_byte s at b = ⊎_elim one_in one-past (le-or-lt (at + 1) (length s))
  where
    one_in : at + 1 ≤ length s → store s at (b ∷ []) ≡ set s at b
    one_in h = rw (store-whole s at (b ∷ []) h, set_split s at b (omega arith), append_snoc, add-one)

    one-past : length s < at + 1 → store s at (b ∷ []) ≡ set s at b
    one-past h = rw (store-past s at (b ∷ []) h, set_out s at b (omega arith))

pub store-start : (s v : List ℕ) → length v ≤ length s → store s 0 v ≡ v ++ drop (length v) s
store-start s v h = store-whole s 0 v (omega arith) ∙ rw zero-add

head-length : (s : List ℕ) (at : ℕ) (v : List ℕ) → at + length v ≤ length s → length (take at s ++ v) ≡ at + length v
head-length s at v h = simp (length-append, length-take) (omega arith)

-- what a store leaves before it and behind it, and what stands there
pub take-store : (n : ℕ) (s : List ℕ) (at : ℕ) (v : List ℕ) → n ≤ at → take n (store s at v) ≡ take n s
take-store n s at v h =
    store-ind (λ l. take n l ≡ take n s) s at v
    (λ g. let e : n ≤ length (take at s) = rw length-take (omega arith) in
    rw (append_assoc, take-append-le n (take at s) (v ++ drop (at + length v) s) e, take-take n at s h))
    refl

pub drop-store : (n : ℕ) (s : List ℕ) (at : ℕ) (v : List ℕ) → at + length v ≤ n → drop n (store s at v) ≡ drop n s
drop-store n s at v h =
    let e : at + length v + (n - (at + length v)) ≡ n = omega arith in
    store-ind (λ l. drop n l ≡ drop n s) s at v
    (λ g.
    rw (
      ← e,
      ← drop-drop (n - (at + length v)) (at + length v) (take at s ++ v ++ drop (at + length v) s),
      drop_at (take at s ++ v) (drop (at + length v) s) (at + length v) (head-length s at v g),
      drop-drop,
    ))
    refl

module _ (s : List ℕ) (at : ℕ) (v : List ℕ) (inside : at + length v ≤ length s) where
  pub take-stored : take (at + length v) (store s at v) ≡ take at s ++ v
  take-stored =
      rw (store-whole s at v inside, take_at (take at s ++ v) (drop (at + length v) s) (at + length v) (head-length s at v inside))

  pub drop-stored : drop at (store s at v) ≡ v ++ drop (at + length v) s
  drop-stored =
      let e : length (take at s) ≡ at = rw length-take (omega arith) in
      rw (store-whole s at v inside, append_assoc, drop_at (take at s) (v ++ drop (at + length v) s) at e)

  -- the bytes are there again
  pub part-stored : take (length v) (drop at (store s at v)) ≡ v
  part-stored = rw (drop-stored, take-append_seam)

-- two stores side by side are one
pub store-join : (s : List ℕ) (at : ℕ) (u v : List ℕ) → at + (length u + length v) ≤ length s
    → store (store s at u) (at + length u) v ≡ store s at (u ++ v)
store-join s at u v h =
    rw (
      store-whole (store s at u) (at + length u) v (rw length-store (omega arith)),
      take-stored s at u (omega arith),
      drop-store (at + length u + length v) s at u (omega arith),
      store-whole s at (u ++ v) (rw length-append (omega arith)),
      length-append,
      add_assoc,
      append_assoc (take at s) u v,
    )

-- a store in the end of a list that was cut off
pub store-part : (a : ℕ) (s : List ℕ) (at : ℕ) (v : List ℕ) → a ≤ length s → take a s ++ store (drop a s) at v ≡ store s (a + at) v
store-part a s at v h = ⊎_elim part_in part-past (le-or-lt (a + at + length v) (length s))
  where
    part_in : a + at + length v ≤ length s → take a s ++ store (drop a s) at v ≡ store s (a + at) v
    part_in g =
        rw (
          store-whole (drop a s) at v (rw length-drop (omega arith)),
          store-whole s (a + at) v g,
          drop-drop,
          take-add,
        ) (simp (append_assoc, add_assoc))

    part-past : length s < a + at + length v → take a s ++ store (drop a s) at v ≡ store s (a + at) v
    part-past g = rw (store-past (drop a s) at v (rw length-drop (omega arith)), store-past s (a + at) v g, take-append-drop)

-- a number's bytes: its low j and then its high k, and one byte by itself
pub store-le-join : (j k n : ℕ) (s : List ℕ) (at : ℕ) → at + (j + k) ≤ length s
    → store (store s at (le j (n % 256 ^ j))) (at + j) (le k (n / 256 ^ j)) ≡ store s at (le (j + k) n)
store-le-join j k n s at h =
    let low = le j (n % 256 ^ j) in
    let high = le k (n / 256 ^ j) in
    let e : length low ≡ j = length-le j (n % 256 ^ j) in
    let g : at + (length low + length high) ≤ length s = simp length-le h in
    ap (λ (m : ℕ). store (store s at low) (at + m) high) (sym e) ∙ store-join s at low high g ∙ ap (store s at) (le_join j k n)

pub store-le-byte : (b : ℕ) (s : List ℕ) (at : ℕ) → b < 256 → store s at (le 1 b) ≡ set s at b
unfolding le
store-le-byte b s at h = let e : b % 256 ≡ b = omega arith in rw (e, store_byte)

pub store-le-past : (k n : ℕ) (s : List ℕ) (at : ℕ) → length s < at + k → store s at (le k n) ≡ s
store-le-past k n s at h = store-past s at (le k n) (rw length-le h)

-- a number that was stored is there, and a number beside it is what it was
pub load_store : (k n : ℕ) (s : List ℕ) (at : ℕ) → at + k ≤ length s → n < 256 ^ k → load k (store s at (le k n)) at ≡ n
load_store k n s at h g =
    let inside : at + length (le k n) ≤ length s = rw length-le h in
    rw (load-whole k (store s at (le k n)) at (rw length-store h), drop-stored s at (le k n) inside, num-le k n (drop (at + length (le k n)) s) g)

pub load-before : (k : ℕ) (s : List ℕ) (at : ℕ) (v : List ℕ) (place : ℕ) → place + k ≤ at → load k (store s at v) place ≡ load k s place
load-before k s at v place h =
    store-ind (λ l. load k l place ≡ load k s place) s at v
    (λ g.
    rw append_assoc (load-front k (take at s) (v ++ drop (at + length v) s) place (rw length-take (omega arith))
    ∙ load-take k at s place h (omega arith)))
    refl

pub load_after : (k : ℕ) (s : List ℕ) (at : ℕ) (v : List ℕ) (place : ℕ) → at + length v ≤ place → load k (store s at v) place ≡ load k s place
load_after k s at v place h =
    let e : at + length v + (place - (at + length v)) ≡ place = omega arith in
    rw (← e, ← load-drop k (at + length v) (store s at v) (place - (at + length v)), drop-store (at + length v) s at v (omega arith), load-drop)

-- what a part of a slice holds when it comes back is stored at its place
pub put_mid-store : (s v : List ℕ) (at k : ℕ) → at + length v ≤ length s → k ≡ length v → put_mid at k s v ≡ store s at v
put_mid-store s v at k h e = rw (e, store-whole s at v h, append_assoc, drop-drop)

-- the first i of the bytes v are at their place in what was s
pub record Copied (s : List ℕ) (at : ℕ) (v out : List ℕ) (i : ℕ) : Type 0 where
  pub inside : at + length v ≤ length s
  pub bound : i ≤ length v
  pub kept : length out ≡ length s
  pub there : out ≡ paste s at v i

pub copied_none : (s : List ℕ) (at : ℕ) (v : List ℕ) → at + length v ≤ length s → Copied s at v s 0
copied_none s at v h = record { inside = h; bound = omega arith; kept = refl; there = paste-zero s at v }

pub copied-one : (s : List ℕ) (at : ℕ) (v out : List ℕ) (i b : ℕ) → Copied s at v out i → i < length v → get_or v i 0 ≡ b
    → Copied s at v (set out (at + i) b) (i + 1)
copied-one s at v out i b c h e =
    record {
      inside = c.inside;
      bound = omega arith;
      kept = length-set out (at + i) b ∙ c.kept;
      there = rw (c.there, add-one, ← e) (paste-suc s at v i 0 (omega arith) h);
    }

pub copied_all : (s : List ℕ) (at : ℕ) (v out : List ℕ) (i : ℕ) → Copied s at v out i → length v ≤ i → out ≡ store s at v
copied_all s at v out i c h =
    let all : i ≡ length v = omega arith in
    c.there ∙ rw (all, take-length, store-whole s at v c.inside)

-- ---- the header

-- what a message has that begins with this header
pub record HasHeader (s : List ℕ) (id size seq : ℕ) : Type 0 where
  pub long : 8 ≤ length s
  pub whole : length s ≡ 8 + size
  pub id-there : id ≡ load 2 s 0
  pub size-there : size ≡ load 2 s 2
  pub seq-there : seq ≡ load 4 s 4

pub has-header : (s : List ℕ) (id size seq : ℕ) → header_of s ≡ whole id size seq → HasHeader s id size seq
unfolding header_of is_whole
has-header s id size seq h = go (is_whole s) refl
  where
    go : (t : Bool) → is_whole s ≡ t → HasHeader s id size seq
    go true p =
        let e : whole (load 2 s 0) (load 2 s 2) (load 4 s 4) ≡ whole id size seq = simp p at h in
        let same : ◌≡◌ {A = Header} (record { id = load 2 s 0; size = load 2 s 2; seq = load 4 s 4 }) (record { id = id; size = size; seq = seq }) = cc in
        let both = (and-eq-true_iff (leb 8 (length s)) (eqb (length s) (8 + load 2 s 2))).0 p in
        record {
          long = leb-true 8 (length s) both.0;
          whole = eqb-true (length s) (8 + load 2 s 2) both.1 ∙ ap (λ (h : Header). 8 + h.size) same;
          id-there = sym (ap (λ (h : Header). h.id) same);
          size-there = sym (ap (λ (h : Header). h.size) same);
          seq-there = sym (ap (λ (h : Header). h.seq) same);
        }
    go false p =
        let e : None ≡ whole id size seq = simp p at h in
        let z : ◌≡◌ {A = ℕ} 0 1 = cc in
        absurd (omega arith)

pub header-whole : (s : List ℕ) → 8 ≤ length s → length s ≡ 8 + load 2 s 2 → header_of s ≡ whole (load 2 s 0) (load 2 s 2) (load 4 s 4)
unfolding header_of is_whole
header-whole s h g = simp (le-leb 8 (length s) h, eq-eqb (length s) (8 + load 2 s 2) g)

pub header-broken : (s : List ℕ) → (8 ≤ length s → length s ≡ 8 + load 2 s 2 → ⊥) → header_of s ≡ None
unfolding header_of is_whole
header-broken s no_Header = ⊎_elim
    (λ h. simp (le-leb 8 (length s) h, ne_eqb (length s) (8 + load 2 s 2) (no_Header h)))
    (λ h. simp (lt-leb 8 (length s) h))
    (le-or-lt 8 (length s))
