-- The page words mean the model's pages. Assumes nothing.
use mathlib.Core.Path.{◌≡◌, refl, sym, ap, ap₂, ◌∙◌}
use mathlib.Core.Logic.{◌≢◌}
use Prim.Native.Nat.{ℕ, zero, suc, ◌+◌, ◌-◌, ◌*◌, ◌/◌, ◌%◌, ◌^◌, ◌≤◌, ◌<◌, zero-le, min, compare, Ordering}
use native.Mathlib.Nat.{sub-zero, zero-sub, suc-sub-suc, le_refl, add-zero, zero-add, not-suc-le-zero, le_of_suc-le-suc, zero-lt-suc}
use native.Mathlib.Numerals.{add-one}
use native.Mathlib.Omega.{arith}
use mathlib.Core.List.{List, [], ◌∷◌, ◌++◌, map, append_assoc}
use mathlib.Core.Bool.{Bool, true, false, cond, not, ◌&&◌, ◌||◌, So}
use lib.ListN.{length, get_or, set, take, drop, replicate, length-append, length-take, length-drop, length-set, length-replicate, length-map, take-append-drop}
use lib.Seq.{take-nil, take-take, take_at, drop_at, drop-drop, take-set-lt, drop-set-lt, get_or-take, length-take-le}
use lib.Dec.{leb, ltb, eqb, leb-suc-suc}
use borrow.Author.Tests.{ltb-true, ltb-false, leb-false, eqb-true, eqb-false, lt-ltb, le-ltb, le-leb, lt-leb, eq-eqb, ne_eqb}
use Rattle.kvmi.specs.Bits.{every, among}
use Rattle.kvmi.specs.Ascending.{rising, has, put, forget}
use Rattle.kvmi.specs.Tables.{Page, page_key}
use Rattle.kvmi.specs.Message.{Entry}
use Rattle.kvmi.specs.Verdict.{is_access}
use Rattle.kvmi.specs.Change.{Run, page_of, is_skipped, set_page, take_entry, take_entries}
use Rattle.page_words.specs.PageWords.{word_key, key_of, bisect, place_of, stands_at, insert_word, remove_word, PageTable, page_table, change_word, add_word, put_entry, near_place, put_near, hint_after, put_entries, run_entries}
use Rattle.page_words.specs.Meaning.{page_of_word, pages_of, good_word, PagesGood}
use Rattle.laws.proofs.Bool.{and_l, and_r, and_i, test, every-head, every-tail, small-among}
use Rattle.laws.proofs.Ascending.{has-past, Side, below, level, over, side, put-cases, forget-cases, has-cases, rising-low, rising-rest, rising-put, rising-forget, every-put, every-forget, forget-none}
use Rattle.laws.proofs.Steps.{access-below}

-- ---- bisection
module _ {A : Type 0} (key : A → ℕ) (d : A) where
  rising-least : (lo : ℕ) (xs : List A) → So (rising key lo xs) → (j : ℕ) → j < length xs → lo ≤ key (get_or xs j d)
  rising-least lo [] g j l = absurd (not-suc-le-zero l)
  rising-least lo (x ∷ xs) g zero l = rising-low key lo x xs g
  rising-least lo (x ∷ xs) g (suc j) l =
      let low = rising-low key lo x xs g in
      omega (arith, rising-least (suc (key x)) xs (rising-rest key lo x xs g) j (le_of_suc-le-suc l))

  pub rising-at : (lo : ℕ) (xs : List A) → So (rising key lo xs) → (i j : ℕ) → i < j → j < length xs → key (get_or xs i d) < key (get_or xs j d)
  rising-at lo [] g i j h l = absurd (not-suc-le-zero l)
  rising-at lo (x ∷ xs) g i zero h l = absurd (not-suc-le-zero h)
  rising-at lo (x ∷ xs) g zero (suc j) h l = rising-least (suc (key x)) xs (rising-rest key lo x xs g) j (le_of_suc-le-suc l)
  rising-at lo (x ∷ xs) g (suc i) (suc j) h l = rising-at (suc (key x)) xs (rising-rest key lo x xs g) i j (le_of_suc-le-suc h) (le_of_suc-le-suc l)

-- the keys from lo on are below key up to a place, and at least key from there on to hi
pub record Placed (ws : List ℕ) (key lo hi at : ℕ) : Type 0 where
  pub low : lo ≤ at
  pub high : at ≤ hi
  pub before : (i : ℕ) → lo ≤ i → i < at → word_key (get_or ws i 0) < key
  pub after : (i : ℕ) → at ≤ i → i < hi → key ≤ word_key (get_or ws i 0)

module _ (ws : List ℕ) (key count : ℕ) (up : (i j : ℕ) → i < j → j < count → word_key (get_or ws i 0) < word_key (get_or ws j 0)) where
  placed-right : (lo mid hi at : ℕ) → lo ≤ mid → hi ≤ count → mid < hi → word_key (get_or ws mid 0) < key → Placed ws key (mid + 1) hi at → Placed ws key lo hi at
  placed-right lo mid hi at l c h t p =
      record {
        low = omega arith;
        high = p.high;
        before = λ i a b. pick i a b (side i mid);
        after = p.after;
      }
    where
      pick : (i : ℕ) → lo ≤ i → i < at → Side i mid → word_key (get_or ws i 0) < key
      pick i a b (below q e) = omega (arith, up i mid q (omega arith))
      pick i a b (level q e) = rw q t
      pick i a b (over q e) = p.before i (omega arith) b

  placed-left : (lo mid hi at : ℕ) → hi ≤ count → mid < hi → key ≤ word_key (get_or ws mid 0) → Placed ws key lo mid at → Placed ws key lo hi at
  placed-left lo mid hi at c h t p =
      record {
        low = p.low;
        high = omega arith;
        before = p.before;
        after = λ i a b. pick i a b (side i mid);
      }
    where
      pick : (i : ℕ) → at ≤ i → i < hi → Side i mid → key ≤ word_key (get_or ws i 0)
      pick i a b (below q e) = p.after i a q
      pick i a b (level q e) = rw q t
      pick i a b (over q e) = omega (arith, up mid i q (omega arith))

  pub bisect-placed : (n lo len hi : ℕ) → len ≤ n → lo + len ≡ hi → hi ≤ count → Placed ws key lo hi (bisect n ws key lo len)
  unfolding bisect
  bisect-placed zero lo len hi h e c = record { low = le_refl lo; high = omega arith; before = λ i p q. absurd (omega arith); after = λ i p q. absurd (omega arith) }
  bisect-placed (suc n) lo len hi h e c =
      test (eqb len 0)
      (λ t. rw t (record { low = le_refl lo; high = omega arith; before = λ i p q. absurd (omega arith); after = λ i p q. absurd (omega (arith, eqb-true len 0 t)) }))
      (λ t. let some = eqb-false len 0 t in
      test (ltb (word_key (get_or ws (lo + len / 2) 0)) key)
      (λ u. rw (t, u) (placed-right lo (lo + len / 2) hi _ (omega arith) c (omega arith) (ltb-true _ key u) (bisect-placed n (lo + len / 2 + 1) (len - len / 2 - 1) hi (omega arith) (omega arith) c)))
      (λ u. rw (t, u) (placed-left lo (lo + len / 2) hi _ c (omega arith) (ltb-false _ key u) (bisect-placed n lo (len / 2) (lo + len / 2) (omega arith) refl (omega arith)))))

-- the place of a key among ascending words
pub place-placed : (ws : List ℕ) (count key : ℕ) → PagesGood ws count → Placed ws key 0 count (place_of ws count key)
unfolding place_of
place-placed ws count key g = bisect-placed ws key count up count 0 count count (le_refl count) (omega arith) (le_refl count)
  where
    up : (i j : ℕ) → i < j → j < count → word_key (get_or ws i 0) < word_key (get_or ws j 0)
    up i j h l =
        rw (get_or-take count ws i 0 (omega arith), get_or-take count ws j 0 l) at
        (rising-at word_key 0 0 (take count ws) g.up i j h (rw (length-take-le count ws g.inside) l))

-- where a key stands among them is its place
pub stands-once : (ws : List ℕ) (count key hint : ℕ) → PagesGood ws count → stands_at ws count key hint ≡ true → hint ≡ place_of ws count key
unfolding stands_at
stands-once ws count key hint g s = go (side hint (place_of ws count key))
  where
    p : Placed ws key 0 count (place_of ws count key)
    p = place-placed ws count key g

    inside : hint < count
    inside = ltb-true hint count (and_l (ltb hint count) _ s)

    here : word_key (get_or ws hint 0) ≡ key
    here = eqb-true _ key (and_r (ltb hint count) _ s)

    up : (i j : ℕ) → i < j → j < count → word_key (get_or ws i 0) < word_key (get_or ws j 0)
    up i j h l =
        rw (get_or-take count ws i 0 (omega arith), get_or-take count ws j 0 l) at
        (rising-at word_key 0 0 (take count ws) g.up i j h (rw (length-take-le count ws g.inside) l))

    go : Side hint (place_of ws count key) → hint ≡ place_of ws count key
    go (below h e) = let q = p.before hint zero-le h in absurd (omega (arith, here))
    go (level h e) = h
    go (over h e) =
        let q = up (place_of ws count key) hint h inside in
        let r = p.after (place_of ws count key) (le_refl _) (omega (arith, inside)) in
        absurd (omega (arith, here))

-- ---- a table changed at the place of a key
module _ {A : Type 0} (key : A → ℕ) (d : A) where
  -- the keys before a place are below k
  abbrev pub Before : ℕ → List A → ℕ → Type 0
  Before k xs at = (i : ℕ) → i < at → key (get_or xs i d) < k

  before-tail : (k : ℕ) (x : A) (xs : List A) (at : ℕ) → Before k (x ∷ xs) (suc at) → Before k xs at
  before-tail k x xs at b i h = b (suc i) (omega arith)

  -- the key at the place, if there is one, is k or more
  pub has-at : (k : ℕ) (xs : List A) (at : ℕ) → Before k xs at → (at < length xs → k ≤ key (get_or xs at d)) → has key k xs ≡ (ltb at (length xs) && eqb (key (get_or xs at d)) k)
  has-at k [] at b a = rw (le-ltb at 0 (omega arith))
  has-at k (x ∷ xs) zero b a =
      let l = a (zero-lt-suc (length xs)) in
      rw (lt-ltb 0 (suc (length xs)) (zero-lt-suc _))
      (has-cases key (λ t. t ≡ eqb (key x) k) k x xs (λ p. sym (ne_eqb (key x) k (omega arith))) (λ p. sym (eq-eqb (key x) k (sym p))) (λ p. absurd (omega arith)))
  has-at k (x ∷ xs) (suc at) b a =
      let l = b 0 (zero-lt-suc at) in
      has-past key k x xs l ∙ has-at k xs at (before-tail k x xs at b) (λ h. a (omega arith)) ∙ rw leb-suc-suc

  pub put-new : (a : A) (xs : List A) (at : ℕ) → at ≤ length xs → Before (key a) xs at → (at < length xs → key a < key (get_or xs at d)) → put key a xs ≡ take at xs ++ a ∷ drop at xs
  put-new a [] zero l b h = refl
  put-new a [] (suc at) l b h = absurd (omega arith)
  put-new a (x ∷ xs) zero l b h = let q = h (zero-lt-suc (length xs)) in put-cases key (λ r. r ≡ a ∷ x ∷ xs) a x xs (λ p. refl) (λ p. absurd (omega arith)) (λ p. absurd (omega arith))
  put-new a (x ∷ xs) (suc at) l b h =
      let q = b 0 (zero-lt-suc at) in
      put-cases key (λ r. r ≡ x ∷ (take at xs ++ a ∷ drop at xs)) a x xs (λ p. absurd (omega arith)) (λ p. absurd (omega arith))
      (λ p. rw (put-new a xs at (omega arith) (before-tail (key a) x xs at b) (λ q. h (omega arith))))

  pub put-found : (a : A) (xs : List A) (at : ℕ) → at < length xs → Before (key a) xs at → key (get_or xs at d) ≡ key a → put key a xs ≡ set xs at a
  put-found a [] at l b h = absurd (omega arith)
  put-found a (x ∷ xs) zero l b h = put-cases key (λ r. r ≡ a ∷ xs) a x xs (λ p. absurd (omega arith)) (λ p. refl) (λ p. absurd (omega arith))
  put-found a (x ∷ xs) (suc at) l b h =
      let q = b 0 (zero-lt-suc at) in
      put-cases key (λ r. r ≡ x ∷ set xs at a) a x xs (λ p. absurd (omega arith)) (λ p. absurd (omega arith))
      (λ p. rw (put-found a xs at (omega arith) (before-tail (key a) x xs at b) h))

  pub forget-found : (k : ℕ) (xs : List A) (at : ℕ) → at < length xs → Before k xs at → key (get_or xs at d) ≡ k → forget key k xs ≡ take at xs ++ drop (suc at) xs
  forget-found k [] at l b h = absurd (omega arith)
  forget-found k (x ∷ xs) zero l b h = forget-cases key (λ r. r ≡ xs) k x xs (λ p. absurd (omega arith)) (λ p. refl) (λ p. absurd (omega arith))
  forget-found k (x ∷ xs) (suc at) l b h =
      let q = b 0 (zero-lt-suc at) in
      forget-cases key (λ r. r ≡ x ∷ (take at xs ++ drop (suc at) xs)) k x xs (λ p. absurd (omega arith)) (λ p. absurd (omega arith))
      (λ p. rw (forget-found k xs at (omega arith) (before-tail k x xs at b) h))

-- ---- a table of other entries with keys in the same order
compare-map : {X Y : Type 0} (h : X → Y) (m n m' n' : ℕ) (a b c : X) (c' : Y) → compare m' n' ≡ compare m n → h c ≡ c'
    → h (elim (compare m n) [ Ordering.lt ↦ a | Ordering.eq ↦ b | Ordering.gt ↦ c ]) ≡ (elim (compare m' n') [ Ordering.lt ↦ h a | Ordering.eq ↦ h b | Ordering.gt ↦ c' ])
compare-map h m n m' n' a b c c' e q = rw e (go (compare m n))
  where
    go : (o : Ordering) → h (elim o [ Ordering.lt ↦ a | Ordering.eq ↦ b | Ordering.gt ↦ c ]) ≡ (elim o [ Ordering.lt ↦ h a | Ordering.eq ↦ h b | Ordering.gt ↦ c' ])
    go Ordering.lt = refl
    go Ordering.eq = refl
    go Ordering.gt = q

module _ {A B : Type 0} (f : A → B) (key : A → ℕ) (wide : B → ℕ) (far : ℕ → ℕ) (same : (m n : ℕ) → compare (far m) (far n) ≡ compare m n) (keys : (x : A) → wide (f x) ≡ far (key x)) where
  map-has : (k : ℕ) (xs : List A) → has key k xs ≡ has wide (far k) (map f xs)
  map-has k [] = refl
  map-has k (x ∷ xs) = compare-map (λ (b : Bool). b) k (key x) (far k) (wide (f x)) false true (has key k xs) _ (rw keys (same k (key x))) (map-has k xs)

  map-put : (a : A) (xs : List A) → map f (put key a xs) ≡ put wide (f a) (map f xs)
  map-put a [] = refl
  map-put a (x ∷ xs) =
      compare-map (map f) (key a) (key x) (wide (f a)) (wide (f x)) (a ∷ x ∷ xs) (a ∷ xs) (x ∷ put key a xs) _ (rw (keys a, keys x) (same (key a) (key x))) (rw (map-put a xs))

  map-forget : (k : ℕ) (xs : List A) → map f (forget key k xs) ≡ forget wide (far k) (map f xs)
  map-forget k [] = refl
  map-forget k (x ∷ xs) = compare-map (map f) k (key x) (far k) (wide (f x)) (x ∷ xs) xs (x ∷ forget key k xs) _ (rw keys (same k (key x))) (rw (map-forget k xs))

-- ---- pages of words
-- the model's key of a word's key
abbrev far : ℕ → ℕ
far k = k / 2 ^ 52 * 2 ^ 64 + k % 2 ^ 52

far-up : (m n : ℕ) → m < n → far m < far n
far-up m n h = omega arith

far-same : (m n : ℕ) → compare (far m) (far n) ≡ compare m n
far-same m n = go (side m n) (side (far m) (far n))
  where
    go : Side m n → Side (far m) (far n) → compare (far m) (far n) ≡ compare m n
    go (below p e) (below q f) = f ∙ sym e
    go (below p e) (level q f) = absurd (omega (arith, far-up m n p))
    go (below p e) (over q f) = absurd (omega (arith, far-up m n p))
    go (level p e) (below q f) = absurd (omega arith)
    go (level p e) (level q f) = f ∙ sym e
    go (level p e) (over q f) = absurd (omega arith)
    go (over p e) (below q f) = absurd (omega (arith, far-up n m p))
    go (over p e) (level q f) = absurd (omega (arith, far-up n m p))
    go (over p e) (over q f) = f ∙ sym e

word-far : (w : ℕ) → page_key (page_of_word w) ≡ far (word_key w)
unfolding page_of_word word_key
word-far w = omega arith

pub key-far : (view page : ℕ) → view < 8 → page < 2 ^ 52 → far (key_of view page) ≡ view * 2 ^ 64 + page
unfolding key_of
key-far view page v p = omega arith

pub page-of-word : (view page access : ℕ) → view < 8 → page < 2 ^ 52 → access < 8 → page_of_word (key_of view page * 8 + access) ≡ record { view = view; page = page; access = access }
unfolding page_of_word key_of
page-of-word view page access v p a =
    let e : (view % 8 * 2 ^ 52 + page) * 8 + access ≡ view * 2 ^ 55 + page * 8 + access = omega arith in
    let f : (view * 2 ^ 55 + page * 8 + access) / 2 ^ 55 ≡ view = omega arith in
    let g : (view * 2 ^ 55 + page * 8 + access) / 8 % 2 ^ 52 ≡ page = omega arith in
    let h : (view * 2 ^ 55 + page * 8 + access) % 8 ≡ access = omega arith in
    rw e (λ i. record { view = f i; page = g i; access = h i })

word-key : (key access : ℕ) → access < 8 → word_key (key * 8 + access) ≡ key
unfolding word_key
word-key key access a = omega arith

-- ---- words that are changed at a place
drop-take : {A : Type 0} (a n : ℕ) (l : List A) → drop a (take n l) ≡ take (n - a) (drop a l)
drop-take zero n l = rw sub-zero
drop-take (suc a) zero l = rw zero-sub
drop-take (suc a) (suc n) [] = sym (take-nil (suc n - suc a))
drop-take (suc a) (suc n) (x ∷ l) = rw suc-sub-suc (drop-take a n l)

-- the first `count` of n words are xs, and the others 0
record Filled (n : ℕ) (xs : List ℕ) (ws : List ℕ) (count : ℕ) : Type 0 where
  long : length ws ≡ n
  inside : count ≤ n
  used : take count ws ≡ xs
  rest : drop count ws ≡ replicate (n - count) 0

filled-good : {n : ℕ} {xs ws : List ℕ} {count : ℕ} → Filled n xs ws count → So (rising word_key 0 xs) → So (every good_word xs) → PagesGood ws count
filled-good f u g = record { inside = rw f.long f.inside; up = rw f.used u; good = rw f.used g; rest = rw f.long f.rest }

filled-pages : {n : ℕ} {xs ws : List ℕ} {count : ℕ} → Filled n xs ws count → pages_of ws count ≡ map page_of_word xs
unfolding pages_of
filled-pages f = ap (map page_of_word) f.used

-- the words behind those in use, one fewer and one more
rest-less : (ws : List ℕ) (count : ℕ) → PagesGood ws count → drop (count + 1) ws ≡ replicate (length ws - (count + 1)) 0
rest-less ws count g = sym (drop-drop 1 count ws) ∙ ap (drop 1) g.rest ∙ drop-one (length ws - count) (length ws - (count + 1)) (omega arith)
  where
    drop-one : (n m : ℕ) → n - 1 ≡ m → drop 1 (replicate {A = ℕ} n 0) ≡ replicate m 0
    drop-one zero m e = rw (← e)
    drop-one (suc n) m e = let same : n ≡ m = omega arith in rw same

rest_more : (ws : List ℕ) (count : ℕ) → 0 < count → PagesGood ws count → 0 ∷ drop count ws ≡ replicate (length ws - (count - 1)) 0
rest_more ws count h g =
    let e : length ws - (count - 1) ≡ suc (length ws - count) = omega arith in
    rw (e, g.rest)

-- of words in two parts
filled-parts : (n count : ℕ) (xs ys : List ℕ) → length xs ≡ count → count ≤ n → ys ≡ replicate (n - count) 0 → Filled n xs (xs ++ ys) count
filled-parts n count xs ys l h e =
    record {
      long = rw (length-append, l, e, length-replicate) (omega arith);
      inside = h;
      used = take_at xs ys count l;
      rest = drop_at xs ys count l ∙ e;
    }

module _ (ws : List ℕ) (count key at : ℕ) (g : PagesGood ws count) (p : Placed ws key 0 count at) where
  used-length : length (take count ws) ≡ count
  used-length = length-take-le count ws g.inside

  used-before : Before word_key 0 key (take count ws) at
  used-before i h = let high = p.high in rw (get_or-take count ws i 0 (omega arith)) (p.before i zero-le h)

  -- whether the key has a word
  pub stands-has : stands_at ws count key at ≡ has word_key key (take count ws)
  unfolding stands_at
  stands-has =
      test (ltb at count)
      (λ u. let l = ltb-true at count u in
      sym (rw (used-length, get_or-take count ws at 0 l) at (has-at word_key 0 key (take count ws) at used-before (λ h. rw (get_or-take count ws at 0 l) (p.after at (le_refl at) l)))))
      (λ u. let l = ltb-false at count u in
      rw u (sym (rw (used-length, u) at (has-at word_key 0 key (take count ws) at used-before (λ h. absurd (omega (arith, used-length)))))))

  here-inside : stands_at ws count key at ≡ true → at < count
  unfolding stands_at
  here-inside s = ltb-true at count (and_l (ltb at count) _ s)

  here-key : stands_at ws count key at ≡ true → word_key (get_or (take count ws) at 0) ≡ key
  unfolding stands_at
  here-key s = rw (get_or-take count ws at 0 (here-inside s)) (eqb-true _ key (and_r (ltb at count) _ s))

  gone-key : stands_at ws count key at ≡ false → at < length (take count ws) → key < word_key (get_or (take count ws) at 0)
  unfolding stands_at
  gone-key s h =
      let l : at < count = omega (arith, used-length) in
      let d = eqb-false (word_key (get_or ws at 0)) key (rw (lt-ltb at count l) at s) in
      rw (get_or-take count ws at 0 l) (omega (arith, p.after at (le_refl at) l))

  module _ (x : ℕ) (k : word_key x ≡ key) where
    insert-filled : stands_at ws count key at ≡ false → count < length ws → Filled (length ws) (put word_key x (take count ws)) (insert_word ws count at x) (count + 1)
    unfolding insert_word
    insert-filled s h =
        rw new
        (filled-parts (length ws) (count + 1) (take at ws ++ x ∷ take (count - at) (drop at ws)) (drop (count + 1) ws)
        (simp (length-append, length-take, length-drop) (omega arith)) (omega arith) (rest-less ws count g))
      where
        new : put word_key x (take count ws) ≡ take at ws ++ x ∷ take (count - at) (drop at ws)
        new =
            put-new word_key 0 x (take count ws) at (omega (arith, used-length)) (rw k used-before) (rw k (gone-key s))
            ∙ rw (take-take at count ws p.high, drop-take at count ws)

    set-filled : stands_at ws count key at ≡ true → Filled (length ws) (put word_key x (take count ws)) (set ws at x) count
    set-filled s =
        let l = here-inside s in
        record {
          long = length-set ws at x;
          inside = g.inside;
          used = take-set-lt count ws at x l ∙ sym (put-found word_key 0 x (take count ws) at (omega (arith, used-length)) (rw k used-before) (rw k (here-key s)));
          rest = drop-set-lt count ws at x l ∙ g.rest;
        }

  remove-filled : stands_at ws count key at ≡ true → Filled (length ws) (forget word_key key (take count ws)) (remove_word ws count at) (count - 1)
  unfolding remove_word
  remove-filled s =
      let l = here-inside s in
      rw (old l)
      (filled-parts (length ws) (count - 1) (take at ws ++ take (count - (at + 1)) (drop (at + 1) ws)) (0 ∷ drop count ws)
      (simp (length-append, length-take, length-drop) (omega arith)) (omega arith) (rest_more ws count (omega arith) g))
    where
      old : at < count → forget word_key key (take count ws) ≡ take at ws ++ take (count - (at + 1)) (drop (at + 1) ws)
      old l =
          forget-found word_key 0 key (take count ws) at (omega (arith, used-length)) used-before (here-key s)
          ∙ rw (take-take at count ws p.high, drop-take (suc at) count ws, add-one)

-- ---- what changed words mean
-- words as they should be, n of them, that mean pages
pub record Meant (n : ℕ) (ps : List Page) (ws : List ℕ) (count : ℕ) : Type 0 where
  pub good : PagesGood ws count
  pub long : length ws ≡ n
  pub pages : pages_of ws count ≡ ps

module _ (ws : List ℕ) (count : ℕ) (g : PagesGood ws count) {vs : List ℕ} {m : ℕ} where
  put-meant : (x : ℕ) → So (good_word x) → Filled (length ws) (put word_key x (take count ws)) vs m → Meant (length ws) (put page_key (page_of_word x) (pages_of ws count)) vs m
  unfolding pages_of
  put-meant x w f =
      record {
        good = filled-good f (rising-put word_key 0 x (take count ws) zero-le g.up) (every-put word_key good_word x (take count ws) w g.good);
        long = f.long;
        pages = filled-pages f ∙ map-put page_of_word word_key page_key far far-same word-far x (take count ws);
      }

  forget-meant : (key : ℕ) → Filled (length ws) (forget word_key key (take count ws)) vs m → Meant (length ws) (forget page_key (far key) (pages_of ws count)) vs m
  unfolding pages_of
  forget-meant key f =
      record {
        good = filled-good f (rising-forget word_key 0 key (take count ws) g.up) (every-forget word_key good_word key (take count ws) g.good);
        long = f.long;
        pages = filled-pages f ∙ map-forget page_of_word word_key page_key far far-same word-far key (take count ws);
      }

-- ---- accesses
pub access-small : (a : ℕ) → So (is_access a) → a < 8
unfolding is_access
access-small a h = small-among 8 a (0 ∷ 1 ∷ 3 ∷ 4 ∷ 5 ∷ 7 ∷ []) refl h

-- ---- a word for a page, and where it stands or belongs
abbrev pub page_word : ℕ → ℕ → ℕ → ℕ
page_word view page access = key_of view page * 8 + access

abbrev pub page_at : List ℕ → ℕ → ℕ → ℕ → ℕ
page_at ws count view page = place_of ws count (key_of view page)

abbrev pub page_stands : List ℕ → ℕ → ℕ → ℕ → Bool
page_stands ws count view page = stands_at ws count (key_of view page) (page_at ws count view page)

word_good : (view page access : ℕ) → page < 2 ^ 52 → So (is_access access) → eqb access 7 ≡ false → So (good_word (page_word view page access))
unfolding good_word key_of
word_good view page access q a n =
    let small = access-small access a in
    let low : ((view % 8 * 2 ^ 52 + page) * 8 + access) % 8 ≡ access = omega arith in
    let high : (view % 8 * 2 ^ 52 + page) * 8 + access < 2 ^ 58 = omega arith in
    let five : So (among (((view % 8 * 2 ^ 52 + page) * 8 + access) % 8) (0 ∷ 1 ∷ 3 ∷ 4 ∷ 5 ∷ [])) = rw low (access-below access a n) in
    and_i _ _ five (lt-ltb _ _ high)

module _ (ws : List ℕ) (count view page : ℕ) (g : PagesGood ws count) (v : view < 8) (q : page < 2 ^ 52) where
  placed : Placed ws (key_of view page) 0 count (page_at ws count view page)
  placed = place-placed ws count (key_of view page) g

  pub stands-page : page_stands ws count view page ≡ has page_key (view * 2 ^ 64 + page) (pages_of ws count)
  unfolding pages_of
  stands-page =
      rw (← key-far view page v q)
      (stands-has ws count (key_of view page) (page_at ws count view page) g placed ∙ map-has page_of_word word_key page_key far far-same word-far (key_of view page) (take count ws))

  pub remove-meant : page_stands ws count view page ≡ true
      → Meant (length ws) (forget page_key (view * 2 ^ 64 + page) (pages_of ws count)) (remove_word ws count (page_at ws count view page)) (count - 1)
  remove-meant s = rw (← key-far view page v q) (forget-meant ws count g (key_of view page) (remove-filled ws count _ _ g placed s))

  module _ (access : ℕ) (a : So (is_access access)) (n : eqb access 7 ≡ false) where
    word-put : {vs : List ℕ} {m : ℕ} → Filled (length ws) (put word_key (page_word view page access) (take count ws)) vs m
        → Meant (length ws) (put page_key (record { view = view; page = page; access = access }) (pages_of ws count)) vs m
    word-put f =
        rw (← page-of-word view page access v q (access-small access a)) (put-meant ws count g (page_word view page access) (word_good view page access q a n) f)

    own_key : word_key (page_word view page access) ≡ key_of view page
    own_key = word-key (key_of view page) access (access-small access a)

    pub insert-meant : page_stands ws count view page ≡ false → count < length ws
        → Meant (length ws) (put page_key (record { view = view; page = page; access = access }) (pages_of ws count)) (insert_word ws count (page_at ws count view page) (page_word view page access)) (count + 1)
    insert-meant s h = word-put (insert-filled ws count _ _ g placed (page_word view page access) own_key s h)

    pub set-meant : page_stands ws count view page ≡ true
        → Meant (length ws) (put page_key (record { view = view; page = page; access = access }) (pages_of ws count)) (set ws (page_at ws count view page) (page_word view page access)) count
    set-meant s = word-put (set-filled ws count _ _ g placed (page_word view page access) own_key s)

-- ---- how many pages
pub pages-count : (ws : List ℕ) (count : ℕ) → PagesGood ws count → length (pages_of ws count) ≡ count
unfolding pages_of
pages-count ws count g = length-map (take count ws) page_of_word ∙ length-take-le count ws g.inside

-- ---- entries of message 13
abbrev pub run_of : PageTable → Run
run_of t = record { pages = pages_of t.words t.count; skipped = t.skipped }

-- a table of n words as they should be that means a run
pub record Means (n : ℕ) (r : Run) (t : PageTable) : Type 0 where
  pub good : PagesGood t.words t.count
  pub long : length t.words ≡ n
  pub run : run_of t ≡ r

-- an entry that message 13 takes
abbrev pub entry_good : Entry → Bool
entry_good e = is_access e.access && ltb e.page (2 ^ 52)

meant-means : {n : ℕ} {ps : List Page} {ws : List ℕ} {count : ℕ} (b : Bool) → Meant n ps ws count → Means n (record { pages = ps; skipped = b }) (page_table ws count b)
meant-means b m = record { good = m.good; long = m.long; run = λ i. record { pages = m.pages i; skipped = b } }

module _ (limit view : ℕ) (e : Entry) (t : PageTable) (g : PagesGood t.words t.count) (v : view < 8) (h : So (entry_good e)) (l : limit ≤ length t.words) where
  asks : So (is_access e.access)
  asks = and_l (is_access e.access) (ltb e.page (2 ^ 52)) h

  small : e.page < 2 ^ 52
  small = ltb-true e.page (2 ^ 52) (and_r (is_access e.access) (ltb e.page (2 ^ 52)) h)

  found : has page_key (view * 2 ^ 64 + e.page) (pages_of t.words t.count) ≡ page_stands t.words t.count view e.page
  found = sym (stands-page t.words t.count view e.page g v small)

  change-means : page_stands t.words t.count view e.page ≡ true
      → Means (length t.words) (take_entry limit view e (run_of t)) (change_word t (page_at t.words t.count view e.page) (key_of view e.page) e.access)
  unfolding change_word take_entry is_skipped set_page
  change-means s =
      test (eqb e.access 7) (λ n. rw (found, s, n) (meant-means t.skipped (remove-meant t.words t.count view e.page g v small s)))
      (λ n. rw (found, s, n) (meant-means t.skipped (set-meant t.words t.count view e.page g v small e.access asks n s)))

  add-means : page_stands t.words t.count view e.page ≡ false
      → Means (length t.words) (take_entry limit view e (run_of t)) (add_word limit t (page_at t.words t.count view e.page) (key_of view e.page) e.access)
  unfolding add_word take_entry is_skipped set_page
  add-means s =
      let none = found ∙ s in
      let many = pages-count t.words t.count g in
      let room : min limit (length t.words) ≡ limit = omega arith in
      test (eqb e.access 7) (λ n. rw (none, n, forget-none page_key _ _ none) (record { good = g; long = refl; run = refl }))
      (λ n. test (leb limit t.count) (λ f. rw (none, n, many, room, f) (record { good = g; long = refl; run = refl }))
      (λ f. rw (none, n, many, room, f)
      (meant-means t.skipped (insert-meant t.words t.count view e.page g v small e.access asks n s (omega (arith, leb-false limit t.count f))))))

  -- a key that stands at the place that is tried first is where the bisection finds it, since the words ascend
  pub near_same : (hint : ℕ) → near_place t.words t.count (key_of view e.page) hint ≡ page_at t.words t.count view e.page
  unfolding near_place
  near_same hint =
      test (stands_at t.words t.count (key_of view e.page) hint) (λ s. rw s (stands-once t.words t.count (key_of view e.page) hint g s)) (λ s. rw s)

  pub put-entry : (hint : ℕ) → Means (length t.words) (take_entry limit view e (run_of t)) (put_near limit (key_of view e.page) e.access hint t)
  unfolding put_near put_entry
  put-entry hint = rw (near_same hint) (test (page_stands t.words t.count view e.page) (λ s. rw s (change-means s)) (λ s. rw s (add-means s)))

pub put_entries_lem : (limit view : ℕ) (es : List Entry) (hint : ℕ) (t : PageTable) → PagesGood t.words t.count → view < 8 → So (every entry_good es) → limit ≤ length t.words
    → Means (length t.words) (take_entries limit view es (run_of t)) (put_entries limit view es hint t)
unfolding put_entries take_entries
put_entries_lem limit view [] hint t g v h l = record { good = g; long = refl; run = refl }
put_entries_lem limit view (e ∷ es) hint t g v h l =
    let m = put-entry limit view e t g v (every-head entry_good e es h) l hint in
    rw (← m.run, ← m.long)
    (put_entries_lem limit view es (hint_after limit (key_of view e.page) e.access hint t) (put_near limit (key_of view e.page) e.access hint t) m.good v (every-tail entry_good e es h) (rw m.long l))

pub run-entries : (limit view : ℕ) (es : List Entry) (ws : List ℕ) (count : ℕ) → PagesGood ws count → view < 8 → So (every entry_good es) → limit ≤ length ws
    → Means (length ws) (take_entries limit view es (record { pages = pages_of ws count; skipped = false })) (run_entries limit view es ws count)
unfolding run_entries
run-entries limit view es ws count g v h l =
    let all : min count (length ws) ≡ count = omega arith in
    rw all (put_entries_lem limit view es 0 (page_table ws count false) g v h l)

-- ---- words are what they mean
word_of : Page → ℕ
word_of p = p.view * 2 ^ 55 + p.page * 8 + p.access

word_back : (w : ℕ) → word_of (page_of_word w) ≡ w
unfolding word_of page_of_word
word_back w = omega arith

words_back : (xs : List ℕ) → map word_of (map page_of_word xs) ≡ xs
words_back [] = refl
words_back (x ∷ xs) = rw (word_back x, words_back xs)

pub words_same : (ws vs : List ℕ) (m n : ℕ) → PagesGood ws m → PagesGood vs n → length ws ≡ length vs → pages_of ws m ≡ pages_of vs n → ws ≡ vs
unfolding pages_of
words_same ws vs m n g h l e =
    let used : take m ws ≡ take n vs = sym (words_back (take m ws)) ∙ ap (map word_of) e ∙ words_back (take n vs) in
    let many : length ws - m ≡ length vs - n = omega (arith, sym (pages-count ws m g) ∙ ap length e ∙ pages-count vs n h) in
    let rest : drop m ws ≡ drop n vs = g.rest ∙ ap (λ (k : ℕ). replicate k 0) many ∙ sym h.rest in
    sym (take-append-drop m ws) ∙ ap₂ (λ (a b : List ℕ). a ++ b) used rest ∙ take-append-drop n vs

-- words that are all 0 mean no page
pub none-good : (k : ℕ) → PagesGood (replicate k 0) 0
none-good k = record { inside = zero-le; up = refl; good = refl; rest = rw (length-replicate, sub-zero) }
