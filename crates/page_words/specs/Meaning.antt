-- What the page words mean: the model's list of pages.
use Rattle.std.specs.Prelude.{◌≡◌, ℕ, ◌-◌, ◌/◌, ◌%◌, ◌^◌, ◌≤◌, List, [], ◌∷◌, map, Bool, ◌&&◌, length, take, drop, replicate, ltb}
use Rattle.std.proofs.Math.Bool.{So}
use Rattle.kvmi.specs.Bits.{among, every}
use Rattle.kvmi.specs.Ascending.{rising}
use Rattle.kvmi.specs.Tables.{Page}
use Rattle.page_words.specs.PageWords.{word_key}

unfoldable pub page_of_word : ℕ → Page
page_of_word w = record { view = w / 2 ^ 55; page = w / 8 % 2 ^ 52; access = w % 8 }

unfoldable pub pages_of : List ℕ → ℕ → List Page
pages_of ws count = map page_of_word (take count ws)

-- ---- words that mean pages
-- the access is below rwx, and the view below 8
unfoldable pub good_word : ℕ → Bool
good_word w = among (w % 8) (0 ∷ 1 ∷ 3 ∷ 4 ∷ 5 ∷ []) && ltb w (2 ^ 58)

-- the first `count` words are pages, ascending, and the others 0
pub record PagesGood (ws : List ℕ) (count : ℕ) : Type 0 where
  pub inside : count ≤ length ws
  pub up : So (rising word_key 0 (take count ws))
  pub good : So (every good_word (take count ws))
  pub rest : drop count ws ≡ replicate (length ws - count) 0
