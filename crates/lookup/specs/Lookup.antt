-- What the lookups give, for any bits in the session and in the lent words. `Looks` says that they are a model's lookups.
use Rattle.std.specs.Prelude.{ℕ, ◌^◌, min, List, [], ◌∷◌, cond, not, ◌&&◌, get_or, ltb, eqb}
use Rattle.kvmi.specs.Bits.{bit, is_on}
use Rattle.kvmi.specs.Settings.{is_set}
use Rattle.kvmi.specs.Tables.{Page, is_cr, cr_bit}
use Rattle.store.specs.Words.{field, msr_bit_on, SINGLESTEP, CRS, EVENTS, PAUSES, AWAITED}
use Rattle.page_words.specs.PageWords.{page_word_count, key_of, word_access}
use Rattle.page_words.specs.Meaning.{page_of_word}
use Rattle.session.specs.declared.Session.{Session}

-- ---- the session
-- 1 where it is open, else 0
unfoldable pub look_open : Session → ℕ
look_open s = bit (not (eqb s.tool.opened 0))

-- 1 where a vCPU is ready, else 0; likewise a switch is 1 where it is on
unfoldable pub look_ready : Session → ℕ → ℕ
look_ready s vcpu = bit (is_on s.shared.ready vcpu)

unfoldable pub look_vm_event : Session → ℕ → ℕ
look_vm_event s event = bit (is_on s.tool.events event)

-- ---- a vCPU, by the session and the vCPU words; a number past u16 is taken as 65,535, which no session has
-- field k: 0 in a closed session, whose words may be those of the one that was there before (a refused beginning leaves them)
unfoldable pub look_field : Session → List ℕ → ℕ → ℕ → ℕ
look_field s w vcpu k = cond (eqb s.tool.opened 0) 0 (field w (min vcpu 65535) k)

unfoldable pub look_event : Session → List ℕ → ℕ → ℕ → ℕ
look_event s w vcpu event = bit (is_on (look_field s w vcpu EVENTS) event)

unfoldable pub look_cr : Session → List ℕ → ℕ → ℕ → ℕ
look_cr s w vcpu cr = bit (is_cr cr && is_on (look_field s w vcpu CRS) (cr_bit cr))

unfoldable pub look_msr : Session → List ℕ → ℕ → ℕ → ℕ
look_msr s w vcpu msr = bit (not (eqb s.tool.opened 0) && msr_bit_on w (min vcpu 65535) msr)

unfoldable pub look_singlestep : Session → List ℕ → ℕ → ℕ
look_singlestep s w vcpu = bit (is_set (look_field s w vcpu SINGLESTEP))

unfoldable pub look_pauses : Session → List ℕ → ℕ → ℕ
look_pauses s w vcpu = look_field s w vcpu PAUSES

-- 0 where none is awaited
unfoldable pub look_awaited : Session → List ℕ → ℕ → ℕ
look_awaited s w vcpu = look_field s w vcpu AWAITED

-- ---- the pages
-- how many stand below rwx: no more than there are words for
unfoldable pub look_count : Session → ℕ
look_count s = min s.tool.pages page_word_count

-- no view from 8 on, and no page from 2^52 on, has a word
unfoldable pub look_access : Session → List ℕ → ℕ → ℕ → ℕ
look_access s ws view page = cond (ltb view 8 && ltb page (2 ^ 52)) (word_access ws s.tool.pages (key_of view page)) 7

-- how many words are lent for a page's numbers
abbrev pub page_number_count : ℕ
page_number_count = 3

-- view, number and access of a page
abbrev pub numbers_of : Page → List ℕ
numbers_of p = p.view ∷ p.page ∷ p.access ∷ []

-- page 0 of view 0 at rwx
abbrev pub no_page : Page
no_page = record { view = 0; page = 0; access = 7 }

-- page i, in the image's order; from their count on, none that stands below rwx
unfoldable pub look_page : Session → List ℕ → ℕ → Page
look_page s ws i = cond (ltb i (look_count s)) (page_of_word (get_or ws i 0)) no_page
