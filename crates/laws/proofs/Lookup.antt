-- What is found in a table of pages or of MSR switches after an entry is put or forgotten. Assumes nothing.
use mathlib.Core.Path.{◌≡◌, refl, sym, ap, ap₂, ◌∙◌}
use Prim.Native.Nat.{ℕ, suc, ◌+◌, ◌*◌, ◌^◌, ◌<◌, zero-le}
use native.Mathlib.Nat.{le_refl}
use native.Mathlib.Omega.{arith}
use mathlib.Core.List.{List, [], ◌∷◌}
use mathlib.Core.Bool.{Bool, true, false, cond, not, ◌&&◌, ◌||◌, So}
use lib.Dec.{eqb, ltb}
use borrow.Author.Tests.{eqb-true, eq-eqb, ltb-true, lt-ltb}
use Rattle.msrs.specs.Place.{is_msr}
use Rattle.msrs.proofs.Ranges.{small as msr-small}
use Rattle.kvmi.specs.Bits.{every}
use Rattle.kvmi.specs.Ascending.{rising, has, put, forget}
use Rattle.kvmi.specs.Tables.{Msr, Page, msr_key, page_key, msr_in, access_in}
use Rattle.kvmi.specs.Change.{set_msr}
use Rattle.laws.proofs.Bool.{and_l, and_r, and_i, test, clash, every-head, every-tail}
use Rattle.laws.proofs.Ascending.{Side, below, level, over, side, put-cases, forget-cases, has-cases, rising-low, rising-rest, rising-cons, forget-none, rising-put, rising-forget, every-put, every-forget}

-- an entry's two numbers and its value; the value where there is no entry, and how it is told from the others
pub record Fields (A B : Type 0) : Type 0 where
  pub major : A → ℕ
  pub minor : A → ℕ
  pub value : A → B
  pub none : B
  pub there : B → Bool
  pub absent : there none ≡ false
  pub same : (x y : A) → major x ≡ major y → minor x ≡ minor y → value x ≡ value y → x ≡ y

module _ {A B : Type 0} (F : Fields A B) where
  abbrev pub key_of : A → ℕ
  key_of x = F.major x * 2 ^ 64 + F.minor x

  -- the minor number fits 64 bits: the key then says both numbers
  abbrev pub small : A → Bool
  small x = ltb (F.minor x) (2 ^ 64)

  abbrev pub is_there : A → Bool
  is_there x = F.there (F.value x)

  abbrev is_at : ℕ → ℕ → A → Bool
  is_at v n x = eqb (F.major x) v && eqb (F.minor x) n

  -- the value of the entry with two numbers
  abbrev pub look_in : List A → ℕ → ℕ → B
  look_in [] v n = F.none
  look_in (x ∷ xs) v n = cond (is_at v n x) (F.value x) (look_in xs v n)

  at : (v n : ℕ) (x : A) → F.major x ≡ v → F.minor x ≡ n → So (is_at v n x)
  at v n x p q = and_i (eqb (F.major x) v) (eqb (F.minor x) n) (eq-eqb (F.major x) v p) (eq-eqb (F.minor x) n q)

  numbers : (v n : ℕ) (x : A) → So (is_at v n x) → (F.major x ≡ v) × (F.minor x ≡ n)
  numbers v n x h = (eqb-true (F.major x) v (and_l _ (eqb (F.minor x) n) h), eqb-true (F.minor x) n (and_r (eqb (F.major x) v) _ h))

  pub look-here : (v n : ℕ) (x : A) (xs : List A) → F.major x ≡ v → F.minor x ≡ n → look_in (x ∷ xs) v n ≡ F.value x
  look-here v n x xs p q = rw (at v n x p q)

  off : (v n : ℕ) (x : A) → (F.major x ≡ v → F.minor x ≡ n → ⊥) → is_at v n x ≡ false
  off v n x d = test (is_at v n x) (λ h. let e = numbers v n x h in absurd (d e.0 e.1)) (λ h. h)

  -- another key, another entry
  off-key : (v n : ℕ) (x : A) → (key_of x ≡ v * 2 ^ 64 + n → ⊥) → is_at v n x ≡ false
  off-key v n x d = off v n x (λ p q. d (omega arith))

  -- two entries with the same key have the same numbers
  split : (v n : ℕ) (x : A) → So (small x) → n < 2 ^ 64 → v * 2 ^ 64 + n ≡ key_of x → (F.major x ≡ v) × (F.minor x ≡ n)
  split v n x s h e = let t = ltb-true (F.minor x) (2 ^ 64) s in (omega arith, omega arith)

  pub look-put : (a : A) (xs : List A) → look_in (put key_of a xs) (F.major a) (F.minor a) ≡ F.value a
  look-put a [] = look-here (F.major a) (F.minor a) a [] refl refl
  look-put a (x ∷ xs) =
      put-cases key_of (λ l. look_in l (F.major a) (F.minor a) ≡ F.value a) a x xs (λ p. look-here (F.major a) (F.minor a) a (x ∷ xs) refl refl)
      (λ p. look-here (F.major a) (F.minor a) a xs refl refl) (λ p. rw (off-key (F.major a) (F.minor a) x (omega arith)) (look-put a xs))

  -- an entry beside it is what it was
  pub look-put-other : (v n : ℕ) (a : A) (xs : List A) → (F.major a ≡ v → F.minor a ≡ n → ⊥) → So (small a) → So (every small xs)
      → look_in (put key_of a xs) v n ≡ look_in xs v n
  look-put-other v n a [] d s g = rw (off v n a d)
  look-put-other v n a (x ∷ xs) d s g =
      put-cases key_of (λ l. look_in l v n ≡ look_in (x ∷ xs) v n) a x xs (λ p. rw (off v n a d))
      (λ p. let e = split (F.major a) (F.minor a) x (every-head small x xs g) (ltb-true (F.minor a) (2 ^ 64) s) p in
      rw (off v n a d, off v n x (λ q r. d (sym e.0 ∙ q) (sym e.1 ∙ r))))
      (λ p. rw (look-put-other v n a xs d s (every-tail small x xs g)))

  -- nothing is found below the least key
  pub look-low : (lo v n : ℕ) (xs : List A) → v * 2 ^ 64 + n < lo → So (rising key_of lo xs) → look_in xs v n ≡ F.none
  look-low lo v n [] h g = refl
  look-low lo v n (x ∷ xs) h g =
      let low = rising-low key_of lo x xs g in
      rw (off-key v n x (omega arith)) (look-low (suc (key_of x)) v n xs (omega arith) (rising-rest key_of lo x xs g))

  pub look-forget : (lo v n : ℕ) (xs : List A) → So (rising key_of lo xs) → look_in (forget key_of (v * 2 ^ 64 + n) xs) v n ≡ F.none
  look-forget lo v n [] g = refl
  look-forget lo v n (x ∷ xs) g =
      let rest = rising-rest key_of lo x xs g in
      forget-cases key_of (λ l. look_in l v n ≡ F.none) (v * 2 ^ 64 + n) x xs
      (λ p. look-low (suc (v * 2 ^ 64 + n)) v n (x ∷ xs) (le_refl _) (rising-cons key_of (suc (v * 2 ^ 64 + n)) x xs p rest))
      (λ p. look-low (suc (key_of x)) v n xs (omega arith) rest) (λ p. rw (off-key v n x (omega arith)) (look-forget (suc (key_of x)) v n xs rest))

  pub look-forget-other : (v n u m : ℕ) (xs : List A) → (u ≡ v → m ≡ n → ⊥) → m < 2 ^ 64 → So (every small xs)
      → look_in (forget key_of (u * 2 ^ 64 + m) xs) v n ≡ look_in xs v n
  look-forget-other v n u m [] d h g = refl
  look-forget-other v n u m (x ∷ xs) d h g =
      forget-cases key_of (λ l. look_in l v n ≡ look_in (x ∷ xs) v n) (u * 2 ^ 64 + m) x xs (λ p. refl)
      (λ p. let e = split u m x (every-head small x xs g) h p in rw (off v n x (λ q r. d (sym e.0 ∙ q) (sym e.1 ∙ r))))
      (λ p. rw (look-forget-other v n u m xs d h (every-tail small x xs g)))

  -- ---- whether an entry is there
  pub look_none : (lo v n : ℕ) (xs : List A) → So (rising key_of lo xs) → has key_of (v * 2 ^ 64 + n) xs ≡ false → look_in xs v n ≡ F.none
  look_none lo v n xs g h = rw (forget-none key_of (v * 2 ^ 64 + n) xs h) at (look-forget lo v n xs g)

  look-found : (v n : ℕ) (xs : List A) → So (every small xs) → So (every is_there xs) → n < 2 ^ 64 → has key_of (v * 2 ^ 64 + n) xs ≡ true
      → So (F.there (look_in xs v n))
  look-found v n [] s t h e = clash e refl
  look-found v n (x ∷ xs) s t h f =
      has-cases key_of (λ b. b ≡ true → So (F.there (look_in (x ∷ xs) v n))) (v * 2 ^ 64 + n) x xs (λ p e. clash e refl)
      (λ p e. let q = split v n x (every-head small x xs s) h p in rw (at v n x q.0 q.1) (every-head is_there x xs t))
      (λ p e. rw (off-key v n x (omega arith)) (look-found v n xs (every-tail small x xs s) (every-tail is_there x xs t) h e)) f

  pub has-look : (lo v n : ℕ) (xs : List A) → So (rising key_of lo xs) → So (every small xs) → So (every is_there xs) → n < 2 ^ 64
      → has key_of (v * 2 ^ 64 + n) xs ≡ F.there (look_in xs v n)
  has-look lo v n xs g s t h =
      test (has key_of (v * 2 ^ 64 + n) xs) (λ e. e ∙ sym (look-found v n xs s t h e)) (λ e. e ∙ sym (ap F.there (look_none lo v n xs g e) ∙ F.absent))

  -- ---- a table is what is found in it
  never : {C : Type 0} (x : A) (xs ys : List A) → So (is_there x) → So (rising key_of (suc (key_of x)) ys)
      → look_in (x ∷ xs) (F.major x) (F.minor x) ≡ look_in ys (F.major x) (F.minor x) → C
  never x xs ys t g e =
      let v = F.major x in
      let n = F.minor x in
      clash t (ap F.there (sym (look-here v n x xs refl refl) ∙ e ∙ look-low (suc (key_of x)) v n ys (le_refl _) g) ∙ F.absent)

  pub look-ext : (lo : ℕ) (xs ys : List A) → So (rising key_of lo xs) → So (every small xs) → So (every is_there xs) → So (rising key_of lo ys) → So (every small ys)
      → So (every is_there ys) → ((v n : ℕ) → look_in xs v n ≡ look_in ys v n) → xs ≡ ys
  look-ext lo [] [] g s t h r u q = refl
  look-ext lo [] (y ∷ ys) g s t h r u q = never y ys [] (every-head is_there y ys u) refl (sym (q (F.major y) (F.minor y)))
  look-ext lo (x ∷ xs) [] g s t h r u q = never x xs [] (every-head is_there x xs t) refl (q (F.major x) (F.minor x))
  look-ext lo (x ∷ xs) (y ∷ ys) g s t h r u q =
      go (side (key_of x) (key_of y)) (λ k. look-ext (suc (key_of x)) xs ys gx (every-tail small x xs s) (every-tail is_there x xs t) k (every-tail small y ys r) (every-tail is_there y ys u))
    where
      gx : So (rising key_of (suc (key_of x)) xs)
      gx = rising-rest key_of lo x xs g

      gy : So (rising key_of (suc (key_of y)) ys)
      gy = rising-rest key_of lo y ys h

      tails : x ≡ y → So (rising key_of (suc (key_of x)) ys) → (v n : ℕ) → look_in xs v n ≡ look_in ys v n
      tails z k v n =
          test (is_at v n x)
          (λ a. let m = numbers v n x a in look-low (suc (key_of x)) v n xs (omega arith) gx ∙ sym (look-low (suc (key_of x)) v n ys (omega arith) k))
          (λ a. sym (rw a) ∙ q v n ∙ rw (← z, a))

      go : Side (key_of x) (key_of y) → (So (rising key_of (suc (key_of x)) ys) → ((v n : ℕ) → look_in xs v n ≡ look_in ys v n) → xs ≡ ys) → x ∷ xs ≡ y ∷ ys
      go (below p e) ih = never x xs (y ∷ ys) (every-head is_there x xs t) (rising-cons key_of (suc (key_of x)) y ys p gy) (q (F.major x) (F.minor x))
      go (over p e) ih = never y ys (x ∷ xs) (every-head is_there y ys u) (rising-cons key_of (suc (key_of y)) x xs p gx) (sym (q (F.major y) (F.minor y)))
      go (level p e) ih =
          let m = split (F.major x) (F.minor x) y (every-head small y ys r) (ltb-true (F.minor x) (2 ^ 64) (every-head small x xs s)) p in
          let w = sym (look-here _ _ x xs refl refl) ∙ q (F.major x) (F.minor x) ∙ look-here _ _ y ys m.0 m.1 in
          let z = F.same x y (sym m.0) (sym m.1) w in
          let k : So (rising key_of (suc (key_of x)) ys) = rw z gy in
          ap₂ (λ (a : A) (l : List A). a ∷ l) z (ih k (tails z k))

-- ---- pages
abbrev pub page_fields : Fields Page ℕ
page_fields =
    record {
      major = λ p. p.view;
      minor = λ p. p.page;
      value = λ p. p.access;
      none = 7;
      there = λ a. not (eqb a 7);
      absent = refl;
      same = λ p q u v w i. record { view = u i; page = v i; access = w i };
    }

-- the page number fits 64 bits
abbrev pub paged : Page → Bool
paged = small page_fields

-- the access is below rwx
abbrev pub lowered : Page → Bool
lowered = is_there page_fields

access-look : (ps : List Page) (v n : ℕ) → access_in ps v n ≡ look_in page_fields ps v n
unfolding access_in
access-look [] v n = refl
access-look (p ∷ ps) v n = rw (access-look ps v n)

pub access-put : (p : Page) (ps : List Page) → access_in (put page_key p ps) p.view p.page ≡ p.access
access-put p ps = access-look _ _ _ ∙ look-put page_fields p ps

pub access-put-other : (v n : ℕ) (p : Page) (ps : List Page) → (p.view ≡ v → p.page ≡ n → ⊥) → So (paged p) → So (every paged ps)
    → access_in (put page_key p ps) v n ≡ access_in ps v n
access-put-other v n p ps d s g = access-look _ _ _ ∙ look-put-other page_fields v n p ps d s g ∙ sym (access-look _ _ _)

pub access-forget : (v n : ℕ) (ps : List Page) → So (rising page_key 0 ps) → access_in (forget page_key (v * 2 ^ 64 + n) ps) v n ≡ 7
access-forget v n ps g = access-look _ _ _ ∙ look-forget page_fields 0 v n ps g

pub access-forget-other : (v n u m : ℕ) (ps : List Page) → (u ≡ v → m ≡ n → ⊥) → m < 2 ^ 64 → So (every paged ps)
    → access_in (forget page_key (u * 2 ^ 64 + m) ps) v n ≡ access_in ps v n
access-forget-other v n u m ps d h g = access-look _ _ _ ∙ look-forget-other page_fields v n u m ps d h g ∙ sym (access-look _ _ _)

pub access-none : (v n : ℕ) (ps : List Page) → So (rising page_key 0 ps) → has page_key (v * 2 ^ 64 + n) ps ≡ false → access_in ps v n ≡ 7
access-none v n ps g h = access-look _ _ _ ∙ look_none page_fields 0 v n ps g h

pub has_access : (v n : ℕ) (ps : List Page) → So (rising page_key 0 ps) → So (every paged ps) → So (every lowered ps) → n < 2 ^ 64
    → has page_key (v * 2 ^ 64 + n) ps ≡ not (eqb (access_in ps v n) 7)
has_access v n ps g s t h = rw access-look (has-look page_fields 0 v n ps g s t h)

pub access-ext : (ps qs : List Page) → So (rising page_key 0 ps) → So (every paged ps) → So (every lowered ps) → So (rising page_key 0 qs) → So (every paged qs)
    → So (every lowered qs) → ((v n : ℕ) → access_in ps v n ≡ access_in qs v n) → ps ≡ qs
access-ext ps qs g s t h r u q = look-ext page_fields 0 ps qs g s t h r u (λ v n. sym (access-look _ _ _) ∙ q v n ∙ access-look _ _ _)

-- ---- MSR switches
abbrev pub msr_fields : Fields Msr Bool
msr_fields =
    record {
      major = λ m. m.vcpu;
      minor = λ m. m.msr;
      value = λ m. true;
      none = false;
      there = λ b. b;
      absent = refl;
      same = λ m n u v w i. record { vcpu = u i; msr = v i };
    }

-- the MSR number fits 64 bits
abbrev pub numbered : Msr → Bool
numbered = small msr_fields

every-msr : (ms : List Msr) → So (every (is_there msr_fields) ms)
every-msr [] = refl
every-msr (m ∷ ms) = every-msr ms

or-cond : (a b : Bool) → (a || b) ≡ cond a true b
or-cond true b = refl
or-cond false b = refl

msr-look : (ms : List Msr) (v n : ℕ) → msr_in ms v n ≡ look_in msr_fields ms v n
unfolding msr_in
msr-look [] v n = refl
msr-look (m ∷ ms) v n = rw (msr-look ms v n) (or-cond (is_at msr_fields v n m) (look_in msr_fields ms v n))

pub msr-put : (m : Msr) (ms : List Msr) → msr_in (put msr_key m ms) m.vcpu m.msr ≡ true
msr-put m ms = msr-look _ _ _ ∙ look-put msr_fields m ms

pub msr-put-other : (v n : ℕ) (m : Msr) (ms : List Msr) → (m.vcpu ≡ v → m.msr ≡ n → ⊥) → So (numbered m) → So (every numbered ms)
    → msr_in (put msr_key m ms) v n ≡ msr_in ms v n
msr-put-other v n m ms d s g = msr-look _ _ _ ∙ look-put-other msr_fields v n m ms d s g ∙ sym (msr-look _ _ _)

pub msr-forget : (v n : ℕ) (ms : List Msr) → So (rising msr_key 0 ms) → msr_in (forget msr_key (v * 2 ^ 64 + n) ms) v n ≡ false
msr-forget v n ms g = msr-look _ _ _ ∙ look-forget msr_fields 0 v n ms g

pub msr-forget-other : (v n u m : ℕ) (ms : List Msr) → (u ≡ v → m ≡ n → ⊥) → m < 2 ^ 64 → So (every numbered ms)
    → msr_in (forget msr_key (u * 2 ^ 64 + m) ms) v n ≡ msr_in ms v n
msr-forget-other v n u m ms d h g = msr-look _ _ _ ∙ look-forget-other msr_fields v n u m ms d h g ∙ sym (msr-look _ _ _)

pub has-msr : (v n : ℕ) (ms : List Msr) → So (rising msr_key 0 ms) → So (every numbered ms) → n < 2 ^ 64 → has msr_key (v * 2 ^ 64 + n) ms ≡ msr_in ms v n
has-msr v n ms g s h = rw msr-look (has-look msr_fields 0 v n ms g s (every-msr ms) h)

pub msr-ext : (ms ns : List Msr) → So (rising msr_key 0 ms) → So (every numbered ms) → So (rising msr_key 0 ns) → So (every numbered ns)
    → ((v n : ℕ) → msr_in ms v n ≡ msr_in ns v n) → ms ≡ ns
msr-ext ms ns g s h r q = look-ext msr_fields 0 ms ns g s (every-msr ms) h r (every-msr ns) (λ v n. sym (msr-look _ _ _) ∙ q v n ∙ msr-look _ _ _)

-- what is found at a place and nowhere else
pub by_place : {B : Type 0} (u m v n : ℕ) (now was : ℕ → ℕ → B) (new : B) → now u m ≡ new → ((u ≡ v → m ≡ n → ⊥) → now v n ≡ was v n)
    → now v n ≡ cond (eqb u v && eqb m n) new (was v n)
by_place u m v n now was new here other =
    test (eqb u v && eqb m n)
    (λ q. rw (q, ← eqb-true u v (and_l (eqb u v) (eqb m n) q), ← eqb-true m n (and_r (eqb u v) (eqb m n) q)) here)
    (λ q. rw q (other (λ i j. clash (and_i (eqb u v) (eqb m n) (eq-eqb u v i) (eq-eqb m n j)) q)))

-- ---- an MSR's switch set
module _ (m : Msr) (ms : List Msr) where
  set_cases : (P : List Msr → Type 0) (on : Bool) → (So (is_msr m.msr) → P (cond on (put msr_key m ms) (forget msr_key (msr_key m) ms))) → (is_msr m.msr ≡ false → P ms)
      → P (set_msr m on ms)
  unfolding set_msr
  set_cases P on f g = test (is_msr m.msr) (λ h. rw h (f h)) (λ h. rw h (g h))

  pub set-rising : (on : Bool) → So (rising msr_key 0 ms) → So (rising msr_key 0 (set_msr m on ms))
  set-rising true g = set_cases (λ l. So (rising msr_key 0 l)) true (λ _. rising-put msr_key 0 m ms zero-le g) (λ _. g)
  set-rising false g = set_cases (λ l. So (rising msr_key 0 l)) false (λ _. rising-forget msr_key 0 (msr_key m) ms g) (λ _. g)

  pub set-every : (f : Msr → Bool) (on : Bool) → (So (is_msr m.msr) → So (f m)) → So (every f ms) → So (every f (set_msr m on ms))
  set-every f true q g = set_cases (λ l. So (every f l)) true (λ h. every-put msr_key f m ms (q h) g) (λ _. g)
  set-every f false q g = set_cases (λ l. So (every f l)) false (λ _. every-forget msr_key f (msr_key m) ms g) (λ _. g)

  pub set-looks : (on : Bool) → So (rising msr_key 0 ms) → So (every numbered ms) → (v n : ℕ)
      → msr_in (set_msr m on ms) v n ≡ cond (is_msr m.msr && (eqb m.vcpu v && eqb m.msr n)) on (msr_in ms v n)
  set-looks on up g v n =
      set_cases (λ l. msr_in l v n ≡ cond (is_msr m.msr && (eqb m.vcpu v && eqb m.msr n)) on (msr_in ms v n)) on
      (λ h. rw h (by_place m.vcpu m.msr v n (msr_in (cond on (put msr_key m ms) (forget msr_key (msr_key m) ms))) (msr_in ms) on (here on) (other on (omega (arith, msr-small m.msr h))))) (λ h. rw h)
    where
      here : (to : Bool) → msr_in (cond to (put msr_key m ms) (forget msr_key (msr_key m) ms)) m.vcpu m.msr ≡ to
      here true = msr-put m ms
      here false = msr-forget m.vcpu m.msr ms up

      other : (to : Bool) → m.msr < 2 ^ 64 → (m.vcpu ≡ v → m.msr ≡ n → ⊥) → msr_in (cond to (put msr_key m ms) (forget msr_key (msr_key m) ms)) v n ≡ msr_in ms v n
      other true h d = msr-put-other v n m ms d (lt-ltb m.msr (2 ^ 64) h) g
      other false h d = msr-forget-other v n m.vcpu m.msr ms d h g
