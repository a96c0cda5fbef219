-- Tests, and what holds of every entry of a list. Assumes nothing.
use mathlib.Core.Path.{◌≡◌, refl, sym, ap, ◌∙◌}
use Prim.Native.Nat.{ℕ, zero, suc, ◌<◌}
use mathlib.Core.List.{List, [], ◌∷◌, ◌++◌}
use mathlib.Core.Bool.{Bool, true, false, cond, ◌&&◌, ◌||◌, So, and-eq-true_iff, false≢true, or-true}
use lib.ListN.{length, get_or, set, replicate}
use lib.Dec.{ltb, eqb}
use borrow.Author.Tests.{ltb-true, eqb-true}
use Rattle.kvmi.specs.Bits.{every, among}

pub and_l : (a b : Bool) → So (a && b) → So a
and_l a b h = ((and-eq-true_iff a b).0 h).0

pub and_r : (a b : Bool) → So (a && b) → So b
and_r a b h = ((and-eq-true_iff a b).0 h).1

pub and_i : (a b : Bool) → So a → So b → So (a && b)
and_i a b p q = (and-eq-true_iff a b).1 (p, q)

pub or_l : (a b : Bool) → So a → So (a || b)
or_l a b p = rw p

pub or_r : (a b : Bool) → So b → So (a || b)
or_r a b p = rw p (or-true a)

pub either : {C : Type 0} (a b : Bool) → So (a || b) → (So a → C) → (So b → C) → C
either true b h f g = f refl
either false b h f g = g h

-- a test passes or fails
pub test : {C : Type 0} (b : Bool) → (b ≡ true → C) → (b ≡ false → C) → C
test true f g = f refl
test false f g = g refl

-- a test does not do both
pub clash : {C : Type 0} {b : Bool} → b ≡ true → b ≡ false → C
clash p q = absurd (false≢true (sym q ∙ p))

-- two tests that pass together are equal
pub same_test : (a b : Bool) → (So a → So b) → (So b → So a) → a ≡ b
same_test true b f g = sym (f refl)
same_test false true f g = g refl
same_test false false f g = refl

pub cond-true : {A : Type 0} (b : Bool) (x y : A) → b ≡ true → cond b x y ≡ x
cond-true b x y e = rw e

pub cond-false : {A : Type 0} (b : Bool) (x y : A) → b ≡ false → cond b x y ≡ y
cond-false b x y e = rw e

module _ {A : Type 0} (f : A → Bool) where
  pub every-head : (x : A) (xs : List A) → So (every f (x ∷ xs)) → So (f x)
  every-head x xs = and_l (f x) (every f xs)

  pub every-tail : (x : A) (xs : List A) → So (every f (x ∷ xs)) → So (every f xs)
  every-tail x xs = and_r (f x) (every f xs)

  pub every-cons : (x : A) (xs : List A) → So (f x) → So (every f xs) → So (every f (x ∷ xs))
  every-cons x xs = and_i (f x) (every f xs)

  pub every-imp : (g : A → Bool) → ((x : A) → So (f x) → So (g x)) → (xs : List A) → So (every f xs) → So (every g xs)
  every-imp g q [] h = refl
  every-imp g q (x ∷ xs) h = and_i _ _ (q x (every-head x xs h)) (every-imp g q xs (every-tail x xs h))

  pub every-get_d : (xs : List A) (i : ℕ) (d : A) → So (f d) → So (every f xs) → So (f (get_or xs i d))
  every-get_d [] i d q h = q
  every-get_d (x ∷ xs) zero d q h = every-head x xs h
  every-get_d (x ∷ xs) (suc i) d q h = every-get_d xs i d q (every-tail x xs h)

  pub every_set : (xs : List A) (i : ℕ) (a : A) → So (f a) → So (every f xs) → So (every f (set xs i a))
  every_set [] i a q h = refl
  every_set (x ∷ xs) zero a q h = every-cons a xs q (every-tail x xs h)
  every_set (x ∷ xs) (suc i) a q h = every-cons x (set xs i a) (every-head x xs h) (every_set xs i a q (every-tail x xs h))

  pub every-replicate : (n : ℕ) (a : A) → So (f a) → So (every f (replicate n a))
  every-replicate zero a q = refl
  every-replicate (suc n) a q = every-cons a (replicate n a) q (every-replicate n a q)

  pub every_append : (xs ys : List A) → So (every f xs) → So (every f ys) → So (every f (xs ++ ys))
  every_append [] ys h g = g
  every_append (x ∷ xs) ys h g = every-cons x (xs ++ ys) (every-head x xs h) (every_append xs ys (every-tail x xs h) g)

  pub every-snoc : (xs : List A) (x : A) → So (every f xs) → So (f x) → So (every f (xs ++ (x ∷ [])))
  every-snoc xs x h q = every_append xs (x ∷ []) h (every-cons x [] q refl)

-- of two tests at once
pub every-and : {A : Type 0} (f g : A → Bool) (xs : List A) → So (every f xs) → So (every g xs) → So (every (λ x. f x && g x) xs)
every-and f g [] p q = refl
every-and f g (x ∷ xs) p q = and_i _ _ (and_i _ _ (every-head f x xs p) (every-head g x xs q)) (every-and f g xs (every-tail f x xs p) (every-tail g x xs q))

-- ---- a number that stands in a list
-- it has what each of them has
pub among-every : (f : ℕ → Bool) (x : ℕ) (ys : List ℕ) → So (every f ys) → So (among x ys) → So (f x)
among-every f x [] h g = clash g refl
among-every f x (y ∷ ys) h g =
    either (eqb x y) (among x ys) g (λ e. rw (eqb-true x y e) (every-head f y ys h)) (λ e. among-every f x ys (every-tail f y ys h) e)

pub small-among : (k x : ℕ) (ys : List ℕ) → So (every (λ y. ltb y k) ys) → So (among x ys) → x < k
small-among k x ys h g = ltb-true x k (among-every (λ y. ltb y k) x ys h g)

pub length-snoc : {A : Type 0} (xs : List A) (x : A) → length (xs ++ (x ∷ [])) ≡ suc (length xs)
length-snoc [] x = refl
length-snoc (y ∷ xs) x = ap suc (length-snoc xs x)
