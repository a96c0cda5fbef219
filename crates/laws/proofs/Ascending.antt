-- An ascending list after an entry is put or forgotten. Assumes nothing.
use mathlib.Core.Path.{◌≡◌, refl, sym, ap, ◌∙◌}
use mathlib.Core.Logic.{◌≢◌}
use Prim.Native.Nat.{ℕ, suc, ◌≤◌, ◌<◌, compare, Ordering}
use native.Mathlib.Nat.{le_refl}
use native.Mathlib.Omega.{arith}
use mathlib.Core.List.{List, [], ◌∷◌, ◌++◌}
use mathlib.Core.Bool.{Bool, true, false, So}
use lib.ListN.{length}
use lib.Dec.{leb, is_le, compare_is_eq}
use borrow.Author.Tests.{leb-true, leb-false, eqb-true, eqb-false, le-leb}
use Rattle.kvmi.specs.Bits.{every}
use Rattle.kvmi.specs.Ascending.{rising, has, put, forget}
use Rattle.laws.proofs.Bool.{and_l, and_r, and_i, test, clash, every-head, every-tail, every-cons}

-- the three ways in which two numbers may stand, with what `compare` says
pub data Side (m n : ℕ) : Type 0 where
  below : m < n → compare m n ≡ Ordering.lt → Side m n
  level : m ≡ n → compare m n ≡ Ordering.eq → Side m n
  over : n < m → compare m n ≡ Ordering.gt → Side m n

side-of : (m n : ℕ) (o : Ordering) → compare m n ≡ o → Side m n
side-of m n Ordering.lt e = let h : m ≤ n = leb-true m n (ap is_le e) in let d : m ≢ n = eqb-false m n (ap compare_is_eq e) in below (omega arith) e
side-of m n Ordering.eq e = level (eqb-true m n (ap compare_is_eq e)) e
side-of m n Ordering.gt e = over (leb-false m n (ap is_le e)) e

pub side : (m n : ℕ) → Side m n
side m n = side-of m n (compare m n) refl

-- what a choice by `compare` may be
pub compare-cases : {B : Type 0} (P : B → Type 0) (m n : ℕ) (a b c : B) → (m < n → P a) → (m ≡ n → P b) → (n < m → P c)
    → P (elim (compare m n) [ Ordering.lt ↦ a | Ordering.eq ↦ b | Ordering.gt ↦ c ])
compare-cases P m n a b c f g h = go (side m n)
  where
    go : Side m n → P (elim (compare m n) [ Ordering.lt ↦ a | Ordering.eq ↦ b | Ordering.gt ↦ c ])
    go (below p e) = rw e (f p)
    go (level p e) = rw e (g p)
    go (over p e) = rw e (h p)

module _ {A : Type 0} (key : A → ℕ) where
  -- ---- a table taken apart by its first entry
  pub put-cases : (P : List A → Type 0) (a x : A) (xs : List A)
      → (key a < key x → P (a ∷ x ∷ xs)) → (key a ≡ key x → P (a ∷ xs)) → (key x < key a → P (x ∷ put key a xs)) → P (put key a (x ∷ xs))
  put-cases P a x xs = compare-cases P (key a) (key x) (a ∷ x ∷ xs) (a ∷ xs) (x ∷ put key a xs)

  pub forget-cases : (P : List A → Type 0) (k : ℕ) (x : A) (xs : List A)
      → (k < key x → P (x ∷ xs)) → (k ≡ key x → P xs) → (key x < k → P (x ∷ forget key k xs)) → P (forget key k (x ∷ xs))
  forget-cases P k x xs = compare-cases P k (key x) (x ∷ xs) xs (x ∷ forget key k xs)

  pub has-cases : (P : Bool → Type 0) (k : ℕ) (x : A) (xs : List A)
      → (k < key x → P false) → (k ≡ key x → P true) → (key x < k → P (has key k xs)) → P (has key k (x ∷ xs))
  has-cases P k x xs = compare-cases P k (key x) false true (has key k xs)

  -- ---- order
  pub rising-low : (lo : ℕ) (x : A) (xs : List A) → So (rising key lo (x ∷ xs)) → lo ≤ key x
  rising-low lo x xs g = leb-true lo (key x) (and_l (leb lo (key x)) (rising key (suc (key x)) xs) g)

  pub rising-rest : (lo : ℕ) (x : A) (xs : List A) → So (rising key lo (x ∷ xs)) → So (rising key (suc (key x)) xs)
  rising-rest lo x xs = and_r (leb lo (key x)) (rising key (suc (key x)) xs)

  pub rising-cons : (lo : ℕ) (x : A) (xs : List A) → lo ≤ key x → So (rising key (suc (key x)) xs) → So (rising key lo (x ∷ xs))
  rising-cons lo x xs h = and_i (leb lo (key x)) (rising key (suc (key x)) xs) (le-leb lo (key x) h)

  pub rising-weak : (lo hi : ℕ) (xs : List A) → lo ≤ hi → So (rising key hi xs) → So (rising key lo xs)
  rising-weak lo hi [] h g = refl
  rising-weak lo hi (x ∷ xs) h g = rising-cons lo x xs (omega (arith, rising-low hi x xs g)) (rising-rest hi x xs g)

  pub rising-put : (lo : ℕ) (a : A) (xs : List A) → lo ≤ key a → So (rising key lo xs) → So (rising key lo (put key a xs))
  rising-put lo a [] h g = rising-cons lo a [] h refl
  rising-put lo a (x ∷ xs) h g =
      let rest = rising-rest lo x xs g in
      put-cases (λ l. So (rising key lo l)) a x xs (λ p. rising-cons lo a (x ∷ xs) h (rising-cons (suc (key a)) x xs p rest))
      (λ p. rising-cons lo a xs h (rw p rest)) (λ p. rising-cons lo x (put key a xs) (rising-low lo x xs g) (rising-put (suc (key x)) a xs p rest))

  pub rising-forget : (lo k : ℕ) (xs : List A) → So (rising key lo xs) → So (rising key lo (forget key k xs))
  rising-forget lo k [] g = refl
  rising-forget lo k (x ∷ xs) g =
      let low = rising-low lo x xs g in
      let rest = rising-rest lo x xs g in
      forget-cases (λ l. So (rising key lo l)) k x xs (λ p. g) (λ p. rising-weak lo (suc (key x)) xs (omega arith) rest)
      (λ p. rising-cons lo x (forget key k xs) low (rising-forget (suc (key x)) k xs rest))

  -- the least key that may come behind a list: above its last key, or lo
  abbrev pub above : ℕ → List A → ℕ
  above lo [] = lo
  above lo (x ∷ xs) = above (suc (key x)) xs

  pub above-snoc : (lo : ℕ) (xs : List A) (x : A) → above lo (xs ++ (x ∷ [])) ≡ suc (key x)
  above-snoc lo [] x = refl
  above-snoc lo (y ∷ xs) x = above-snoc (suc (key y)) xs x

  pub rising_snoc : (lo : ℕ) (xs : List A) (x : A) → So (rising key lo xs) → above lo xs ≤ key x → So (rising key lo (xs ++ (x ∷ [])))
  rising_snoc lo [] x g h = rising-cons lo x [] h refl
  rising_snoc lo (y ∷ xs) x g h = rising-cons lo y (xs ++ (x ∷ [])) (rising-low lo y xs g) (rising_snoc (suc (key y)) xs x (rising-rest lo y xs g) h)

  -- ---- which keys have an entry
  pub has-before : (k : ℕ) (x : A) (xs : List A) → k < key x → has key k (x ∷ xs) ≡ false
  has-before k x xs h = has-cases (λ b. b ≡ false) k x xs (λ p. refl) (λ p. absurd (omega arith)) (λ p. absurd (omega arith))

  pub has_here : (x : A) (xs : List A) → has key (key x) (x ∷ xs) ≡ true
  has_here x xs = has-cases (λ b. b ≡ true) (key x) x xs (λ p. absurd (omega arith)) (λ p. refl) (λ p. absurd (omega arith))

  pub has-past : (k : ℕ) (x : A) (xs : List A) → key x < k → has key k (x ∷ xs) ≡ has key k xs
  has-past k x xs h = has-cases (λ b. b ≡ has key k xs) k x xs (λ p. absurd (omega arith)) (λ p. absurd (omega arith)) (λ p. refl)

  has-under : (k : ℕ) (x : A) (xs ys : List A) → has key k xs ≡ has key k ys → has key k (x ∷ xs) ≡ has key k (x ∷ ys)
  has-under k x xs ys e = ap {B = Bool} (λ (b : Bool). elim (compare k (key x)) [ Ordering.lt ↦ false | Ordering.eq ↦ true | Ordering.gt ↦ b ]) e

  -- nothing is found below the least key
  pub has-low : (lo k : ℕ) (xs : List A) → k < lo → So (rising key lo xs) → has key k xs ≡ false
  has-low lo k [] h g = refl
  has-low lo k (x ∷ xs) h g = has-before k x xs (omega (arith, rising-low lo x xs g))

  pub has-put : (a : A) (xs : List A) → has key (key a) (put key a xs) ≡ true
  has-put a [] = has_here a []
  has-put a (x ∷ xs) =
      put-cases (λ l. has key (key a) l ≡ true) a x xs (λ p. has_here a (x ∷ xs)) (λ p. has_here a xs) (λ p. has-past (key a) x (put key a xs) p ∙ has-put a xs)

  pub has-put-other : (k : ℕ) (a : A) (xs : List A) → k ≢ key a → has key k (put key a xs) ≡ has key k xs
  has-put-other k a [] d = has-cases (λ b. b ≡ false) k a [] (λ p. refl) (λ p. absurd (d p)) (λ p. refl)
  has-put-other k a (x ∷ xs) d =
      put-cases (λ l. has key k l ≡ has key k (x ∷ xs)) a x xs
      (λ p. has-cases (λ b. b ≡ has key k (x ∷ xs)) k a (x ∷ xs) (λ q. sym (has-before k x xs (omega arith))) (λ q. absurd (d q)) (λ q. refl))
      (λ p. has-cases (λ b. b ≡ has key k (x ∷ xs)) k a xs (λ q. sym (has-before k x xs (omega arith))) (λ q. absurd (d q)) (λ q. sym (has-past k x xs (omega arith))))
      (λ p. has-under k x (put key a xs) xs (has-put-other k a xs d))

  pub has-forget : (lo k : ℕ) (xs : List A) → So (rising key lo xs) → has key k (forget key k xs) ≡ false
  has-forget lo k [] g = refl
  has-forget lo k (x ∷ xs) g =
      let rest = rising-rest lo x xs g in
      forget-cases (λ l. has key k l ≡ false) k x xs (λ p. has-before k x xs p) (λ p. has-low (suc (key x)) k xs (omega arith) rest)
      (λ p. has-past k x (forget key k xs) p ∙ has-forget (suc (key x)) k xs rest)

  pub has-forget-other : (lo k j : ℕ) (xs : List A) → k ≢ j → So (rising key lo xs) → has key k (forget key j xs) ≡ has key k xs
  has-forget-other lo k j [] d g = refl
  has-forget-other lo k j (x ∷ xs) d g =
      let rest = rising-rest lo x xs g in
      forget-cases (λ l. has key k l ≡ has key k (x ∷ xs)) j x xs (λ p. refl)
      (λ p. has-cases (λ b. has key k xs ≡ b) k x xs (λ q. has-low (suc (key x)) k xs (omega arith) rest) (λ q. absurd (d (omega arith))) (λ q. refl))
      (λ p. has-under k x (forget key j xs) xs (has-forget-other (suc (key x)) k j xs d rest))

  -- forgetting a key that is not there
  pub forget-none : (k : ℕ) (xs : List A) → has key k xs ≡ false → forget key k xs ≡ xs
  forget-none k [] h = refl
  forget-none k (x ∷ xs) h =
      forget-cases (λ l. l ≡ x ∷ xs) k x xs (λ p. refl) (λ p. clash (has_here x xs) (rw p at h)) (λ p. rw (forget-none k xs (sym (has-past k x xs p) ∙ h)))

  -- ---- how many entries
  pub length-put-found : (a : A) (xs : List A) → has key (key a) xs ≡ true → length (put key a xs) ≡ length xs
  length-put-found a [] h = clash h refl
  length-put-found a (x ∷ xs) h =
      put-cases (λ l. length l ≡ length {A = A} (x ∷ xs)) a x xs (λ p. clash h (has-before (key a) x xs p)) (λ p. refl)
      (λ p. ap suc (length-put-found a xs (sym (has-past (key a) x xs p) ∙ h)))

  pub length-put-new : (a : A) (xs : List A) → has key (key a) xs ≡ false → length (put key a xs) ≡ suc (length xs)
  length-put-new a [] h = refl
  length-put-new a (x ∷ xs) h =
      put-cases (λ l. length l ≡ suc (length {A = A} (x ∷ xs))) a x xs (λ p. refl) (λ p. clash (has_here x xs) (rw p at h))
      (λ p. ap suc (length-put-new a xs (sym (has-past (key a) x xs p) ∙ h)))

  pub length-put : (a : A) (xs : List A) → length (put key a xs) ≤ suc (length xs)
  length-put a xs = test (has key (key a) xs) (λ h. omega (arith, length-put-found a xs h)) (λ h. omega (arith, length-put-new a xs h))

  pub length-forget-found : (k : ℕ) (xs : List A) → has key k xs ≡ true → suc (length (forget key k xs)) ≡ length xs
  length-forget-found k [] h = clash h refl
  length-forget-found k (x ∷ xs) h =
      forget-cases (λ l. suc (length l) ≡ length {A = A} (x ∷ xs)) k x xs (λ p. clash h (has-before k x xs p)) (λ p. refl)
      (λ p. ap suc (length-forget-found k xs (sym (has-past k x xs p) ∙ h)))

  pub length-forget : (k : ℕ) (xs : List A) → length (forget key k xs) ≤ length xs
  length-forget k xs = test (has key k xs) (λ h. omega (arith, length-forget-found k xs h)) (λ h. rw (forget-none k xs h) (le_refl (length xs)))

  -- ---- what holds of every entry
  module _ (f : A → Bool) where
    pub every-put : (a : A) (xs : List A) → So (f a) → So (every f xs) → So (every f (put key a xs))
    every-put a [] q h = every-cons f a [] q refl
    every-put a (x ∷ xs) q h =
        let rest = every-tail f x xs h in
        put-cases (λ l. So (every f l)) a x xs (λ p. every-cons f a (x ∷ xs) q h) (λ p. every-cons f a xs q rest)
        (λ p. every-cons f x (put key a xs) (every-head f x xs h) (every-put a xs q rest))

    pub every-forget : (k : ℕ) (xs : List A) → So (every f xs) → So (every f (forget key k xs))
    every-forget k [] h = refl
    every-forget k (x ∷ xs) h =
        let rest = every-tail f x xs h in
        forget-cases (λ l. So (every f l)) k x xs (λ p. h) (λ p. rest) (λ p. every-cons f x (forget key k xs) (every-head f x xs h) (every-forget k xs rest))
