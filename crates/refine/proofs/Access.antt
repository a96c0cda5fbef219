-- The access of a page by bisection in the page words is the access that the model has. Assumes nothing.
use mathlib.Core.Path.{◌≡◌, refl, sym, ap, ◌∙◌}
use mathlib.Core.Logic.{◌≢◌}
use Prim.Native.Nat.{ℕ, ◌*◌, ◌+◌, ◌/◌, ◌%◌, ◌^◌, ◌≤◌, ◌<◌, min}
use native.Mathlib.Omega.{arith}
use mathlib.Core.List.{List, [], ◌∷◌, map}
use mathlib.Core.Bool.{Bool, true, false, cond, not, ◌&&◌, So, and-false}
use lib.ListN.{length, get_or, take, set}
use lib.Seq.{set-get_or, get_or-take}
use lib.Dec.{ltb, eqb}
use borrow.Author.Tests.{ltb-true, ltb-false, eqb-true, ne_eqb, not-true}
use Rattle.kvmi.specs.Bits.{every, among}
use Rattle.kvmi.specs.Ascending.{rising, put}
use Rattle.kvmi.specs.Tables.{Page, page_key, access_in}
use Rattle.kvmi.specs.Verdict.{is_access}
use Rattle.page_words.specs.PageWords.{key_of, word_key, stands_at, word_access_in, word_access}
use Rattle.page_words.specs.Meaning.{page_of_word, pages_of, good_word, PagesGood}
use Rattle.laws.proofs.Bool.{and_l, and_r, test, every-head, every-tail, every-get_d, among-every}
use Rattle.laws.proofs.Lookup.{access-put, access-none}
use Rattle.refine.proofs.Pages.{page_at, page_stands, stands-page, set-meant}

-- ---- accesses below rwx
access-good : (a : ℕ) → So (among a (0 ∷ 1 ∷ 3 ∷ 4 ∷ 5 ∷ [])) → So (is_access a)
unfolding is_access
access-good a h = among-every is_access a (0 ∷ 1 ∷ 3 ∷ 4 ∷ 5 ∷ []) refl h

access-lower : (a : ℕ) → So (among a (0 ∷ 1 ∷ 3 ∷ 4 ∷ 5 ∷ [])) → eqb a 7 ≡ false
access-lower a h = not-true (eqb a 7) (among-every (λ y. not (eqb y 7)) a (0 ∷ 1 ∷ 3 ∷ 4 ∷ 5 ∷ []) refl h)

-- ---- pages that no word stands for
-- no word means a page from 2^52 on
far-page : (ws : List ℕ) (view page : ℕ) → 2 ^ 52 ≤ page → access_in (map page_of_word ws) view page ≡ 7
unfolding access_in page_of_word
far-page [] view page h = refl
far-page (w ∷ ws) view page h =
    let l : w / 8 % 2 ^ 52 ≢ page = λ e. omega arith in
    rw (ne_eqb (w / 8 % 2 ^ 52) page l, and-false (eqb (w / 2 ^ 55) view)) (far-page ws view page h)

-- no good word means a view from 8 on
far-view : (ws : List ℕ) (view page : ℕ) → So (every good_word ws) → 8 ≤ view → access_in (map page_of_word ws) view page ≡ 7
unfolding access_in page_of_word good_word
far-view [] view page g h = refl
far-view (w ∷ ws) view page g h =
    let small = ltb-true w (2 ^ 58) (and_r (among (w % 8) (0 ∷ 1 ∷ 3 ∷ 4 ∷ 5 ∷ [])) _ (every-head good_word w ws g)) in
    let l : w / 2 ^ 55 ≢ view = λ e. omega arith in
    rw (ne_eqb (w / 2 ^ 55) view l) (far-view ws view page (every-tail good_word w ws g) h)

module _ (ws : List ℕ) (count : ℕ) (good : PagesGood ws count) where
  word_good : (i : ℕ) → i < count → So (good_word (get_or ws i 0))
  unfolding good_word
  word_good i l = rw (get_or-take count ws i 0 l) at (every-get_d good_word (take count ws) i 0 refl good.good)

  module _ (up : So (rising page_key 0 (pages_of ws count))) (view page : ℕ) (v : view < 8) (q : page < 2 ^ 52) where
    abbrev word : ℕ
    word = get_or ws (page_at ws count view page) 0

    -- the page's word, put in its own place, leaves all words as they are
    here : page_stands ws count view page ≡ true → word % 8 ≡ access_in (pages_of ws count) view page
    unfolding stands_at word_key good_word
    here s =
        let l = ltb-true (page_at ws count view page) count (and_l (ltb (page_at ws count view page) count) _ s) in
        let key : word / 8 ≡ key_of view page = eqb-true (word / 8) (key_of view page) (and_r (ltb (page_at ws count view page) count) _ s) in
        let low = and_l (among (word % 8) (0 ∷ 1 ∷ 3 ∷ 4 ∷ 5 ∷ [])) (ltb word (2 ^ 58)) (word_good (page_at ws count view page) l) in
        let whole : key_of view page * 8 + word % 8 ≡ word = omega arith in
        let stays : set ws (page_at ws count view page) (key_of view page * 8 + word % 8) ≡ ws = rw whole (set-get_or ws (page_at ws count view page) 0) in
        let same : pages_of ws count ≡ put page_key (record { view = view; page = page; access = word % 8 }) (pages_of ws count)
        = rw stays at (set-meant ws count view page good v q (word % 8) (access-good (word % 8) low) (access-lower (word % 8) low) s).pages in
        sym (ap (λ (ps : List Page). access_in ps view page) same ∙ access-put (record { view = view; page = page; access = word % 8 }) (pages_of ws count))

    gone : page_stands ws count view page ≡ false → access_in (pages_of ws count) view page ≡ 7
    gone s = access-none view page (pages_of ws count) up (sym (stands-page ws count view page good v q) ∙ s)

    near : word_access ws count (key_of view page) ≡ access_in (pages_of ws count) view page
    unfolding word_access word_access_in
    near =
        let l = good.inside in
        let e : min count (length ws) ≡ count = omega arith in
        rw e (test (page_stands ws count view page) (λ s. rw s (here s)) (λ s. rw s (sym (gone s))))

  -- of any view and page: no word stands for a view from 8 on, nor for a page from 2^52 on
  pub access-means : So (rising page_key 0 (pages_of ws count)) → (view page : ℕ)
      → cond (ltb view 8 && ltb page (2 ^ 52)) (word_access ws count (key_of view page)) 7 ≡ access_in (pages_of ws count) view page
  unfolding pages_of
  access-means up view page =
      test (ltb view 8)
      (λ a. test (ltb page (2 ^ 52))
      (λ b. rw (a, b) (near up view page (ltb-true view 8 a) (ltb-true page _ b)))
      (λ b. rw (a, b) (sym (far-page (take count ws) view page (ltb-false page _ b)))))
      (λ a. rw a (sym (far-view (take count ws) view page good.good (ltb-false view 8 a))))
