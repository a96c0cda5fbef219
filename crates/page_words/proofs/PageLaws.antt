-- Laws of the page words: bisection, one turn of each loop, and a run of entries. Assumes nothing.
use mathlib.Core.Path.{◌≡◌, refl, ap, ◌∙◌}
use mathlib.Core.Bool.{Bool, true, false, cond, ◌&&◌}
use mathlib.Core.Logic.{⊎_elim}
use mathlib.Core.List.{List, [], ◌∷◌, ◌++◌, append_assoc}
use Prim.Native.Nat.{ℕ, zero, suc, ◌+◌, ◌-◌, ◌*◌, ◌/◌, ◌%◌, ◌^◌, ◌≤◌, ◌<◌, min}
use native.Mathlib.Numerals.{add-one}
use native.Mathlib.Omega.{arith}
use lib.Dec.{leb, ltb, eqb}
use lib.ListN.{length, get_or, set, take, drop, length-append, length-take, length-drop, length-set, drop_of_length-le}
use lib.Seq.{paste, take_all, take-nil, take-length, drop-length, drop-cons, drop-drop}
use borrow.Author.Tests.{lt-ltb, le-ltb, ltb-true, ltb-false, leb-false, lt-leb, eq-eqb, ne_eqb, eqb-false}
use Rattle.std.proofs.lemmas.List.{set_at}
use Rattle.wire.proofs.Laws.{le-or-lt}
use Rattle.kvmi.specs.Bits.{bit}
use Rattle.kvmi.specs.Message.{Entry, entry_of, entries_of}
use Rattle.page_words.specs.PageWords.{word_key, key_of, bisect, place_of, stands_at, insert_word, remove_word, PageTable, page_table, change_word, add_word, put_entry, near_place, put_near, next_hint, hint_after, put_entries, run_entries}

-- ---- bisection

-- steps beyond the words that are left change nothing
pub bisect-steps : (n m : ℕ) (ws : List ℕ) (key base len : ℕ) → len ≤ n → len ≤ m → bisect n ws key base len ≡ bisect m ws key base len
unfolding bisect
bisect-steps zero zero ws key base len h g = refl
bisect-steps zero (suc m) ws key base len h g = rw (eq-eqb len 0 (omega arith))
bisect-steps (suc n) zero ws key base len h g = rw (eq-eqb len 0 (omega arith))
bisect-steps (suc n) (suc m) ws key base len h g =
    rw (
      bisect-steps n m ws key (base + len / 2 + 1) (len - len / 2 - 1) (omega arith) (omega arith),
      bisect-steps n m ws key base (len / 2) (omega arith) (omega arith),
    )

module _ (ws : List ℕ) (key base len : ℕ) (some : 0 < len) where
  turn-above : word_key (get_or ws (base + len / 2) 0) < key
      → bisect (suc len) ws key base len ≡ bisect len ws key (base + len / 2 + 1) (len - len / 2 - 1)
  unfolding bisect
  turn-above t = rw (ne_eqb len 0 (λ e. omega arith), lt-ltb _ _ t)

  turn_below : key ≤ word_key (get_or ws (base + len / 2) 0) → bisect (suc len) ws key base len ≡ bisect len ws key base (len / 2)
  unfolding bisect
  turn_below t = rw (ne_eqb len 0 (λ e. omega arith), le-ltb _ _ t)

  bisect-above : word_key (get_or ws (base + len / 2) 0) < key
      → bisect len ws key base len ≡ bisect (len - len / 2 - 1) ws key (base + len / 2 + 1) (len - len / 2 - 1)
  bisect-above t =
      bisect-steps len (suc len) ws key base len (omega arith) (omega arith)
      ∙ turn-above t
      ∙ bisect-steps len (len - len / 2 - 1) ws key (base + len / 2 + 1) (len - len / 2 - 1) (omega arith) (omega arith)

  bisect-below : key ≤ word_key (get_or ws (base + len / 2) 0)
      → bisect len ws key base len ≡ bisect (len / 2) ws key base (len / 2)
  bisect-below t =
      bisect-steps len (suc len) ws key base len (omega arith) (omega arith)
      ∙ turn_below t
      ∙ bisect-steps len (len / 2) ws key base (len / 2) (omega arith) (omega arith)

  -- a turn, its choice as a number
  pub bisect-turn : (u : ℕ) → u ≡ bit (ltb (word_key (get_or ws (base + len / 2) 0)) key)
      → bisect len ws key base len
      ≡ bisect (len / 2 - u * (1 - len % 2)) ws key (base + u * (len / 2 + 1)) (len / 2 - u * (1 - len % 2))
  bisect-turn u = go (ltb (word_key (get_or ws (base + len / 2) 0)) key) refl
    where
      go : (t : Bool) → ltb (word_key (get_or ws (base + len / 2) 0)) key ≡ t → u ≡ bit t
          → bisect len ws key base len
          ≡ bisect (len / 2 - u * (1 - len % 2)) ws key (base + u * (len / 2 + 1)) (len / 2 - u * (1 - len % 2))
      go true e one =
          let n : len / 2 - u * (1 - len % 2) ≡ len - len / 2 - 1 = rw one (omega arith) in
          let m : base + u * (len / 2 + 1) ≡ base + len / 2 + 1 = rw one (omega arith) in
          rw (n, m) (bisect-above (ltb-true _ _ e))
      go false e none =
          let n : len / 2 - u * (1 - len % 2) ≡ len / 2 = rw none (omega arith) in
          let m : base + u * (len / 2 + 1) ≡ base = rw none (omega arith) in
          rw (n, m) (bisect-below (ltb-false _ _ e))

  -- what a turn leaves lies in what there was
  pub turn_inside : (u : ℕ) → u ≡ bit (ltb (word_key (get_or ws (base + len / 2) 0)) key)
      → (u * (len / 2 + 1) ≤ len / 2 + 1)
      × (u * (1 - len % 2) ≤ len / 2)
      × (u * (len / 2 + 1) + (len / 2 - u * (1 - len % 2)) ≤ len)
  turn_inside u = go (ltb (word_key (get_or ws (base + len / 2) 0)) key)
    where
      go : (t : Bool) → u ≡ bit t
          → (u * (len / 2 + 1) ≤ len / 2 + 1)
          × (u * (1 - len % 2) ≤ len / 2)
          × (u * (len / 2 + 1) + (len / 2 - u * (1 - len % 2)) ≤ len)
      go true e = rw e (omega arith)
      go false e = rw e (omega arith)

-- a word's key against another, as the top bit of a difference
pub below_bit : (w key : ℕ) → w < 2 ^ 64 → key < 2 ^ 61 → 1 - (w / 8 + (2 ^ 63 - key)) / 2 ^ 63 ≡ bit (ltb (w / 8) key)
below_bit w key h g = go (ltb (w / 8) key) refl
  where
    go : (t : Bool) → ltb (w / 8) key ≡ t → 1 - (w / 8 + (2 ^ 63 - key)) / 2 ^ 63 ≡ bit t
    go true e = let l : w / 8 < key = ltb-true (w / 8) key e in omega arith
    go false e = let l : key ≤ w / 8 = ltb-false (w / 8) key e in omega arith

cond-le : (t : Bool) (a b n : ℕ) → a ≤ n → b ≤ n → cond t a b ≤ n
cond-le true a b n h g = h
cond-le false a b n h g = g

pub bisect-le : (n : ℕ) (ws : List ℕ) (key base len : ℕ) → bisect n ws key base len ≤ base + len
unfolding bisect
bisect-le zero ws key base len = omega arith
bisect-le (suc n) ws key base len = go (eqb len 0) refl (bisect-le n ws key (base + len / 2 + 1) (len - len / 2 - 1)) (bisect-le n ws key base (len / 2))
  where
    go : (t : Bool) → eqb len 0 ≡ t
        → bisect n ws key (base + len / 2 + 1) (len - len / 2 - 1) ≤ base + len / 2 + 1 + (len - len / 2 - 1)
        → bisect n ws key base (len / 2) ≤ base + len / 2
        → cond t base (cond (ltb (word_key (get_or ws (base + len / 2) 0)) key) (bisect n ws key (base + len / 2 + 1) (len - len / 2 - 1)) (bisect n ws key base (len / 2))) ≤ base + len
    go true e above below = omega arith
    go false e above below =
        let some : len ≡ 0 → ⊥ = eqb-false len 0 e in
        let high : bisect n ws key (base + len / 2 + 1) (len - len / 2 - 1) ≤ base + len = omega arith in
        let low : bisect n ws key base (len / 2) ≤ base + len = omega arith in
        cond-le (ltb (word_key (get_or ws (base + len / 2) 0)) key) _ _ _ high low

pub place-le : (ws : List ℕ) (count key : ℕ) → place_of ws count key ≤ count
unfolding place_of
place-le ws count key = omega (arith, bisect-le count ws key 0 count)

pub place_whole : (ws : List ℕ) (count key : ℕ) → count ≤ length ws → place_of ws (min count (length ws)) key ≡ place_of ws count key
place_whole ws count key h = let e : min count (length ws) ≡ count = omega arith in rw e

pub stands_lt : (ws : List ℕ) (count key at : ℕ) → stands_at ws count key at ≡ true → at < count
unfolding stands_at
stands_lt ws count key at h = go (ltb at count) refl h
  where
    go : (t : Bool) → ltb at count ≡ t → (t && eqb (word_key (get_or ws at 0)) key) ≡ true → at < count
    go true e f = ltb-true at count e
    go false e f = let z : ◌≡◌ {A = ℕ} 0 1 = cc in absurd (omega arith)

pub near_le : (ws : List ℕ) (count key hint : ℕ) → near_place ws count key hint ≤ count
unfolding near_place
near_le ws count key hint = go (stands_at ws count key hint) refl
  where
    go : (t : Bool) → stands_at ws count key hint ≡ t → cond t hint (place_of ws count key) ≤ count
    go true e = omega (arith, stands_lt ws count key hint e)
    go false e = place-le ws count key

pub near_bound : (ws : List ℕ) (count key hint : ℕ) {at : ℕ} → at ≡ near_place ws count key hint → at ≤ count
near_bound ws count key hint e = rw e (near_le ws count key hint)

-- ---- words that move by one, and what is stored in the place that they leave

set-front : (ws rest : List ℕ) (at x : ℕ) → at < length ws → set (take (suc at) ws ++ rest) at x ≡ take at ws ++ x ∷ rest
set-front [] rest at x h = absurd (omega arith)
set-front (w ∷ ws) rest zero x h = refl
set-front (w ∷ ws) rest (suc at) x h = ap (◌∷◌ w) (set-front ws rest at x (omega arith))

pub insert_moved : (ws : List ℕ) (count at x : ℕ) → at ≤ count → count < length ws → set (paste ws (at + 1) (drop at ws) (count - at)) at x ≡ insert_word ws count at x
unfolding insert_word
insert_moved ws count at x h l =
    let m : at + 1 + (count - at) ≡ count + 1 = omega arith in
    rw (m, add-one at) (simp append_assoc (set-front ws (take (count - at) (drop at ws) ++ drop (count + 1) ws) at x (omega arith)))

pub remove_moved : (ws : List ℕ) (count at : ℕ) → at < count → count ≤ length ws → set (paste ws at (drop (at + 1) ws) (count - (at + 1))) (count - 1) 0 ≡ remove_word ws count at
unfolding remove_word
remove_moved ws count at h l =
    let m : at + (count - (at + 1)) ≡ count - 1 = omega arith in
    let s : suc (count - 1) ≡ count = omega arith in
    let n : length (take at ws ++ take (count - (at + 1)) (drop (at + 1) ws)) ≡ count - 1 = simp (length-append, length-take, length-drop) (omega arith) in
    rw (m, drop-cons ws (count - 1) 0 (omega arith), s) (set_at _ _ (drop count ws) 0 (count - 1) n)

-- ---- what an entry keeps: how many words there are, and a bound on those in use that is no less than the room

pub length-insert : (ws : List ℕ) (count at x : ℕ) → at ≤ count → count < length ws → length (insert_word ws count at x) ≡ length ws
unfolding insert_word
length-insert ws count at x h l = simp (length-append, length-take, length-drop) (omega arith)

pub length-remove : (ws : List ℕ) (count at : ℕ) → at < count → count ≤ length ws → length (remove_word ws count at) ≡ length ws
unfolding remove_word
length-remove ws count at h l = simp (length-append, length-take, length-drop) (omega arith)

abbrev Kept : ℕ → PageTable → PageTable → Type 0
Kept most t t' = (length t'.words ≡ length t.words) × (t'.count ≤ most) × (t'.count ≤ length t.words)

module _ (limit most key access : ℕ) (t : PageTable) (room : min limit (length t.words) ≤ most) (few : t.count ≤ most) (dense : t.count ≤ length t.words) where
  change-kept : (at : ℕ) → at < t.count → Kept most t (change_word t at key access)
  unfolding change_word
  change-kept at h = go (eqb access 7)
    where
      go : (b : Bool) → Kept most t (cond b (page_table (remove_word t.words t.count at) (t.count - 1) t.skipped) (page_table (set t.words at (key * 8 + access)) t.count t.skipped))
      go true = (length-remove t.words t.count at h dense, omega arith, omega arith)
      go false = (length-set t.words at (key * 8 + access), few, dense)

  add_kept : (at : ℕ) → at ≤ t.count → Kept most t (add_word limit t at key access)
  unfolding add_word
  add_kept at h = go (eqb access 7) (leb (min limit (length t.words)) t.count) refl
    where
      go : (b c : Bool) → leb (min limit (length t.words)) t.count ≡ c → Kept most t (cond b t (cond c (page_table t.words t.count true) (page_table (insert_word t.words t.count at (key * 8 + access)) (t.count + 1) t.skipped)))
      go true c e = (refl, few, dense)
      go false true e = (refl, few, dense)
      go false false e =
          let free : t.count < min limit (length t.words) = leb-false (min limit (length t.words)) t.count e in
          (length-insert t.words t.count at (key * 8 + access) h (omega arith), omega arith, omega arith)

  pub put-kept : (at : ℕ) → at ≤ t.count → Kept most t (put_entry limit at key access t)
  unfolding put_entry
  put-kept at h = go (stands_at t.words t.count key at) refl
    where
      go : (b : Bool) → stands_at t.words t.count key at ≡ b → Kept most t (cond b (change_word t at key access) (add_word limit t at key access))
      go true e = change-kept at (stands_lt t.words t.count key at e)
      go false e = add_kept at h

  near-kept : (hint : ℕ) → Kept most t (put_near limit key access hint t)
  unfolding put_near
  near-kept hint = put-kept (near_place t.words t.count key hint) (near_le t.words t.count key hint)

pub put-bound : (limit at key access : ℕ) (t t' : PageTable) → at ≤ t.count → t.count ≤ length t.words → t' ≡ put_entry limit at key access t → t'.count ≤ length t.words
put-bound limit at key access t t' h dense e = rw e (put-kept limit (length t.words) key access t (omega arith) dense dense at h).1

pub entries-kept : (limit most view : ℕ) (es : List Entry) (hint : ℕ) (t : PageTable) → min limit (length t.words) ≤ most → t.count ≤ most → t.count ≤ length t.words
    → Kept most t (put_entries limit view es hint t)
unfolding put_entries
entries-kept limit most view [] hint t room few dense = (refl, few, dense)
entries-kept limit most view (e ∷ es) hint t room few dense =
    let t' = put_near limit (key_of view e.page) e.access hint t in
    let k = near-kept limit most (key_of view e.page) e.access t room few dense hint in
    let r = entries-kept limit most view es (hint_after limit (key_of view e.page) e.access hint t) t' (rw k.0 room) k.1 (rw k.0 k.2) in
    (r.0 ∙ k.0, r.1, omega arith)

-- a run of entries keeps the number of words, and of those in use within them
pub run-kept : (limit view : ℕ) (es : List Entry) (ws : List ℕ) (count : ℕ)
    → (length (run_entries limit view es ws count).words ≡ length ws) × ((run_entries limit view es ws count).count ≤ length ws)
unfolding run_entries
run-kept limit view es ws count =
    let k = entries-kept limit (length ws) view es 0 (page_table ws (min count (length ws)) false) (omega arith) (omega arith) (omega arith) in
    (k.0, k.1)

-- and within the limit, where they were
pub run-limit : (limit view : ℕ) (es : List Entry) (ws : List ℕ) (count : ℕ) → count ≤ limit → (run_entries limit view es ws count).count ≤ limit
unfolding run_entries
run-limit limit view es ws count h =
    (entries-kept limit limit view es 0 (page_table ws (min count (length ws)) false) (omega arith) (omega arith) (omega arith)).1

-- ---- entries that are skipped

-- where there is room for a word, an entry is not skipped, and adds one at most
abbrev Fits : PageTable → PageTable → Type 0
Fits t t' = (t'.skipped ≡ t.skipped) × (t'.count ≤ t.count + 1)

module _ (limit key access : ℕ) (t : PageTable) (room : t.count < min limit (length t.words)) where
  change-fits : (at : ℕ) → Fits t (change_word t at key access)
  unfolding change_word
  change-fits at = go (eqb access 7)
    where
      go : (b : Bool) → Fits t (cond b (page_table (remove_word t.words t.count at) (t.count - 1) t.skipped) (page_table (set t.words at (key * 8 + access)) t.count t.skipped))
      go true = (refl, omega arith)
      go false = (refl, omega arith)

  add-fits : (at : ℕ) → Fits t (add_word limit t at key access)
  unfolding add_word
  add-fits at = rw (lt-leb _ _ room) (go (eqb access 7))
    where
      go : (b : Bool) → Fits t (cond b t (page_table (insert_word t.words t.count at (key * 8 + access)) (t.count + 1) t.skipped))
      go true = (refl, omega arith)
      go false = (refl, omega arith)

  near_fits : (hint : ℕ) → Fits t (put_near limit key access hint t)
  unfolding put_near put_entry
  near_fits hint = go (near_place t.words t.count key hint) (stands_at t.words t.count key (near_place t.words t.count key hint))
    where
      go : (at : ℕ) (b : Bool) → Fits t (cond b (change_word t at key access) (add_word limit t at key access))
      go at true = change-fits at
      go at false = add-fits at

entries-room : (limit view : ℕ) (es : List Entry) (hint : ℕ) (t : PageTable) → limit ≤ length t.words → t.count + length es ≤ limit
    → (put_entries limit view es hint t).skipped ≡ t.skipped
unfolding put_entries
entries-room limit view [] hint t h room = refl
entries-room limit view (e ∷ es) hint t h room =
    let key = key_of view e.page in
    let t' = put_near limit key e.access hint t in
    let k = near-kept limit limit key e.access t (omega arith) (omega arith) (omega arith) hint in
    let f = near_fits limit key e.access t (omega arith) hint in
    entries-room limit view es (hint_after limit key e.access hint t) t' (omega arith) (omega arith) ∙ f.0

-- where there is room for all entries none is skipped
pub run_room : (limit view : ℕ) (es : List Entry) (ws : List ℕ) (count : ℕ) → limit ≤ length ws → count + length es ≤ limit → (run_entries limit view es ws count).skipped ≡ false
unfolding run_entries
run_room limit view es ws count h room = entries-room limit view es 0 (page_table ws (min count (length ws)) false) h (omega arith)

-- an entry that is skipped changes nothing else
abbrev Stays : PageTable → PageTable → Type 0
Stays t t' = t'.skipped ≡ true → (t'.words ≡ t.words) × (t'.count ≡ t.count)

module _ (limit key access : ℕ) (t : PageTable) (yet : t.skipped ≡ false) where
  not_yet : {A : Type 0} → t.skipped ≡ true → A
  not_yet h = let z : ◌≡◌ {A = ℕ} 0 1 = cc in absurd (omega arith)

  change-stays : (at : ℕ) → Stays t (change_word t at key access)
  unfolding change_word
  change-stays at = go (eqb access 7)
    where
      go : (b : Bool) → Stays t (cond b (page_table (remove_word t.words t.count at) (t.count - 1) t.skipped) (page_table (set t.words at (key * 8 + access)) t.count t.skipped))
      go true = not_yet
      go false = not_yet

  add-stays : (at : ℕ) → Stays t (add_word limit t at key access)
  unfolding add_word
  add-stays at = go (eqb access 7) (leb (min limit (length t.words)) t.count)
    where
      go : (b c : Bool) → Stays t (cond b t (cond c (page_table t.words t.count true) (page_table (insert_word t.words t.count at (key * 8 + access)) (t.count + 1) t.skipped)))
      go true c = not_yet
      go false true = λ _. (refl, refl)
      go false false = not_yet

  near-stays : (hint : ℕ) → Stays t (put_near limit key access hint t)
  unfolding put_near put_entry
  near-stays hint = go (near_place t.words t.count key hint) (stands_at t.words t.count key (near_place t.words t.count key hint))
    where
      go : (at : ℕ) (b : Bool) → Stays t (cond b (change_word t at key access) (add_word limit t at key access))
      go at true = change-stays at
      go at false = add-stays at

-- a single entry that is skipped leaves the words as they were
pub run-one : (limit view : ℕ) (es : List Entry) (ws : List ℕ) (count : ℕ) → length es ≤ 1 → count ≤ length ws → (run_entries limit view es ws count).skipped ≡ true
    → ((run_entries limit view es ws count).words ≡ ws) × ((run_entries limit view es ws count).count ≡ count)
unfolding run_entries put_entries
run-one limit view [] ws count one h skips = let z : ◌≡◌ {A = ℕ} 0 1 = cc in absurd (omega arith)
run-one limit view (e ∷ []) ws count one h skips =
    let k = near-stays limit (key_of view e.page) e.access (page_table ws (min count (length ws)) false) refl 0 skips in
    (k.0, omega arith)
run-one limit view (e ∷ f ∷ es) ws count one h skips = absurd (omega arith)

-- ---- a run of entries

pub length-entries : (n : ℕ) (l : List ℕ) → length (entries_of n l) ≡ n
unfolding entries_of
length-entries zero l = refl
length-entries (suc n) l = ap (λ (k : ℕ). suc k) (length-entries n (drop 16 l))

take_min : (n : ℕ) (l : List ℕ) → take (min n (length l)) l ≡ take n l
take_min n l = ⊎_elim
    (λ h. let e : min n (length l) ≡ n = omega arith in rw e)
    (λ h. let e : min n (length l) ≡ length l = omega arith in rw (e, take-length l, take_all n l (omega arith)))
    (le-or-lt n (length l))

-- 16 bytes from a place, or as many of them as there are, as code lends them
pub part-clamped : (d : List ℕ) (at a b : ℕ) → a ≡ min at (length d) → b ≡ min (a + 16) (length d) → take (b - a) (drop a d) ≡ take 16 (drop at d)
part-clamped d at a b e f = ⊎_elim inner outer (le-or-lt at (length d))
  where
    inner : at ≤ length d → take (b - a) (drop a d) ≡ take 16 (drop at d)
    inner h =
        let s : a ≡ at = omega arith in
        let n : b - at ≡ min 16 (length (drop at d)) = rw length-drop (omega arith) in
        rw (s, n, take_min)

    outer : length d < at → take (b - a) (drop a d) ≡ take 16 (drop at d)
    outer h =
        let s : a ≡ length d = omega arith in
        rw (s, drop_of_length-le d {i = at} (omega arith), drop-length d, take-nil (b - length d))

pub page_bound : {page : ℕ} (e : List ℕ) → page ≡ (entry_of e).page → page < 2 ^ 52
unfolding entry_of
page_bound e h = omega arith

-- what entry i of n does, and then those behind it
run_step : (n i limit view hint : ℕ) (d : List ℕ) (t : PageTable) → i < n
    → put_entries limit view (entries_of (n - i) (drop (i * 16) d)) hint t
    ≡ put_entries limit view (entries_of (n - (i + 1)) (drop ((i + 1) * 16) d))
    (hint_after limit (key_of view (entry_of (take 16 (drop (i * 16) d))).page) (entry_of (take 16 (drop (i * 16) d))).access hint t)
    (put_near limit (key_of view (entry_of (take 16 (drop (i * 16) d))).page) (entry_of (take 16 (drop (i * 16) d))).access hint t)
unfolding put_entries entries_of
run_step n i limit view hint d t h =
    let e : n - i ≡ suc (n - (i + 1)) = omega arith in
    let m : (i + 1) * 16 ≡ i * 16 + 16 = omega arith in
    rw (e, m, ← drop-drop 16 (i * 16) d)

-- an entry put at its place, and the place that is tried next
near-put : (limit at key access hint hint' : ℕ) (t t' : PageTable) → at ≡ near_place t.words t.count key hint → t' ≡ put_entry limit at key access t → hint' ≡ next_hint at t'.count
    → (t' ≡ put_near limit key access hint t) × (hint' ≡ hint_after limit key access hint t)
unfolding put_near hint_after
near-put limit at key access hint hint' t t' n k q = (k ∙ rw n, q ∙ rw (k, n))

pub run-entry : (n i limit view at hint hint' : ℕ) (d p : List ℕ) (page access : ℕ) (t t' : PageTable)
    → i < n
    → p ≡ take 16 (drop (i * 16) d)
    → page ≡ (entry_of p).page
    → access ≡ (entry_of p).access
    → at ≡ near_place t.words t.count (key_of view page) hint
    → t' ≡ put_entry limit at (key_of view page) access t
    → hint' ≡ next_hint at t'.count
    → put_entries limit view (entries_of (n - i) (drop (i * 16) d)) hint t ≡ put_entries limit view (entries_of (n - (i + 1)) (drop ((i + 1) * 16) d)) hint' t'
run-entry n i limit view at hint hint' d p page access t t' h e f g m k q =
    let both = near-put limit at (key_of view page) access hint hint' t t' m k q in
    rw (both.0, both.1, f, g, e) (run_step n i limit view hint d t h)

pub run_end : (n i limit view hint : ℕ) (d : List ℕ) (t : PageTable) → n ≤ i → put_entries limit view (entries_of (n - i) d) hint t ≡ t
unfolding put_entries entries_of
run_end n i limit view hint d t h = let e : n - i ≡ 0 = omega arith in rw e
