-- The page words: one for each page below rwx, `view * 2^55 + page * 8 + access`, ascending and dense from 0; 0 after them.
use Rattle.std.specs.Prelude.{ℕ, zero, suc, ◌+◌, ◌-◌, ◌*◌, ◌/◌, ◌%◌, ◌^◌, min, List, [], ◌∷◌, ◌++◌, Bool, true, false, cond, ◌&&◌, length, get_or, set, take, drop, leb, ltb, eqb}
use Rattle.kvmi.specs.Message.{Entry}

-- how many words are lent for the pages
abbrev pub page_word_count : ℕ
page_word_count = 1024

-- a word's view and page together
unfoldable pub word_key : ℕ → ℕ
word_key w = w / 8

-- of a view, which is below 8, and a page number
unfoldable pub key_of : ℕ → ℕ → ℕ
key_of view page = view % 8 * 2 ^ 52 + page

-- ---- where a key stands, or belongs: by bisection over `len` words from `base` on; n bounds the steps
unfoldable pub bisect : ℕ → List ℕ → ℕ → ℕ → ℕ → ℕ
bisect zero ws key base len = base
bisect (suc n) ws key base len =
    cond (eqb len 0) base
    (cond (ltb (word_key (get_or ws (base + len / 2) 0)) key)
    (bisect n ws key (base + len / 2 + 1) (len - len / 2 - 1))
    (bisect n ws key base (len / 2)))

-- among the first `count` words
unfoldable pub place_of : List ℕ → ℕ → ℕ → ℕ
place_of ws count key = bisect count ws key 0 count

unfoldable pub stands_at : List ℕ → ℕ → ℕ → ℕ → Bool
stands_at ws count key at = ltb at count && eqb (word_key (get_or ws at 0)) key

-- the access of the page with a key among the first `count` words, by bisection; one that has no word stands at rwx
unfoldable pub word_access_in : List ℕ → ℕ → ℕ → ℕ
word_access_in ws count key = cond (stands_at ws count key (place_of ws count key)) (get_or ws (place_of ws count key) 0 % 8) 7

unfoldable pub word_access : List ℕ → ℕ → ℕ → ℕ
word_access ws count key = word_access_in ws (min count (length ws)) key

-- ---- a word more, or less, at a place; what follows it moves by one
unfoldable pub insert_word : List ℕ → ℕ → ℕ → ℕ → List ℕ
insert_word ws count at x = take at ws ++ (x ∷ take (count - at) (drop at ws)) ++ drop (count + 1) ws

unfoldable pub remove_word : List ℕ → ℕ → ℕ → List ℕ
remove_word ws count at = take at ws ++ take (count - (at + 1)) (drop (at + 1) ws) ++ (0 ∷ drop count ws)

-- ---- entries of message 13
pub record PageTable : Type 0 where
  pub words : List ℕ
  pub count : ℕ
  pub skipped : Bool

abbrev pub page_table : List ℕ → ℕ → Bool → PageTable
page_table ws count skipped = record { words = ws; count = count; skipped = skipped }

-- an entry for a page that has a word at a place
unfoldable pub change_word : PageTable → ℕ → ℕ → ℕ → PageTable
change_word t at key access =
    cond (eqb access 7)
    (page_table (remove_word t.words t.count at) (t.count - 1) t.skipped)
    (page_table (set t.words at (key * 8 + access)) t.count t.skipped)

-- an entry for a page that stands at rwx, and whose word belongs at a place
unfoldable pub add_word : ℕ → PageTable → ℕ → ℕ → ℕ → PageTable
add_word limit t at key access =
    cond (eqb access 7) t
    (cond (leb (min limit (length t.words)) t.count)
    (page_table t.words t.count true)
    (page_table (insert_word t.words t.count at (key * 8 + access)) (t.count + 1) t.skipped))

-- an entry whose key stands, or belongs, at a place
unfoldable pub put_entry : ℕ → ℕ → ℕ → ℕ → PageTable → PageTable
put_entry limit at key access t =
    cond (stands_at t.words t.count key at) (change_word t at key access) (add_word limit t at key access)

-- that place: one that is tried first, where the key stands there, or else by bisection
unfoldable pub near_place : List ℕ → ℕ → ℕ → ℕ → ℕ
near_place ws count key hint = cond (stands_at ws count key hint) hint (place_of ws count key)

unfoldable pub put_near : ℕ → ℕ → ℕ → ℕ → PageTable → PageTable
put_near limit key access hint t = put_entry limit (near_place t.words t.count key hint) key access t

-- the place to be tried for the next entry: behind that of this one
unfoldable pub next_hint : ℕ → ℕ → ℕ
next_hint at count = cond (ltb at count) (at + 1) at

unfoldable pub hint_after : ℕ → ℕ → ℕ → ℕ → PageTable → ℕ
hint_after limit key access hint t = next_hint (near_place t.words t.count key hint) (put_near limit key access hint t).count

unfoldable pub put_entries : ℕ → ℕ → List Entry → ℕ → PageTable → PageTable
put_entries limit view [] hint t = t
put_entries limit view (e ∷ es) hint t =
    put_entries limit view es (hint_after limit (key_of view e.page) e.access hint t) (put_near limit (key_of view e.page) e.access hint t)

-- a run of entries on words of which no more than there are can be in use
unfoldable pub run_entries : ℕ → ℕ → List Entry → List ℕ → ℕ → PageTable
run_entries limit view es ws count = put_entries limit view es 0 (page_table ws (min count (length ws)) false)
