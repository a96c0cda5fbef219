-- The theorems on the definitions. Of a session they ask how it began; those on one entry or one switch ask for valid tables, which every
-- list of calls leaves (`reached-valid`). Assumes nothing.
use mathlib.Core.Path.{◌≡◌, refl, sym, ap, ◌∙◌}
use mathlib.Core.Logic.{◌↔◌}
use Prim.Native.Nat.{ℕ, ◌^◌, ◌<◌}
use mathlib.Core.List.{List}
use mathlib.Core.Bool.{Bool, true, false, cond, not, ◌&&◌, So}
use lib.ListN.{length}
use lib.Dec.{leb, eqb}
use lib.Pow.{are_bytes}
use borrow.Author.Tests.{eqb-true, lt-ltb}
use Rattle.msrs.specs.Place.{is_msr}
use Rattle.kvmi.specs.declared.Settings.{Settings}
use Rattle.kvmi.specs.Settings.{in_range}
use Rattle.kvmi.specs.Ascending.{put, forget}
use Rattle.kvmi.specs.Tables.{Msr, Page, Tables, page_key, msr_in, access_in, SameTables}
use Rattle.kvmi.specs.Model.{Model}
use Rattle.kvmi.specs.Message.{Entry}
use Rattle.kvmi.specs.Change.{Run, page_of, is_skipped, set_page, take_entry, set_msr}
use Rattle.kvmi.specs.Image.{image, loaded, load_image}
use Rattle.kvmi.specs.Call.{Began, anew, from_image, Call, after}
use Rattle.laws.proofs.Lookup.{access-put, access-put-other, access-forget, access-forget-other, has_access, by_place, set-looks}
use Rattle.kvmi.specs.Valid.{Valid}
use Rattle.laws.proofs.Load.{load-write, load-valid}
use Rattle.laws.proofs.Write.{write-load, image_injective}
use Rattle.laws.proofs.Verdicts.{pick}
use Rattle.laws.proofs.Kept.{empty-valid}
use Rattle.laws.proofs.Steps.{after_kept}
use Rattle.laws.proofs.Same.{same-equal, equal-same, paged-all, lowered-all, numbered-all}

-- ---- images
pub began-valid : (s : Settings) (m : Model) → Began s m → Valid s m.tables
began-valid s m (anew ok) = empty-valid s ok
began-valid s m (from_image l t ok e) = load-valid s l t e

pub began-range : (s : Settings) (m : Model) → Began s m → So (in_range s)
began-range s m (anew ok) = ok
began-range s m (from_image l t ok e) = ok

-- the tables that calls reach can be stated by an image
pub reached-valid : (s : Settings) (m : Model) → Began s m → (cs : List Call) → Valid s (after s m cs).tables
reached-valid s m b cs = after_kept s (began-range s m b) m cs (began-valid s m b)

-- what is written loads as the same tables, whatever calls came before
pub written-loads : (s : Settings) (m : Model) → Began s m → (cs : List Call) → load_image s (image (after s m cs).tables) ≡ loaded (after s m cs).tables
written-loads s m b cs = write-load s (after s m cs).tables (reached-valid s m b cs)

-- two sessions under equal settings, each after calls of its own, have equal images exactly when every lookup, mark, switch and queue is equal
pub images-alike : (s : Settings) (m k : Model) → Began s m → Began s k → (cs ds : List Call)
    → (image (after s m cs).tables ≡ image (after s k ds).tables) ↔ SameTables (after s m cs).tables (after s k ds).tables
images-alike s m k b c cs ds =
    let t = (after s m cs).tables in
    let u = (after s k ds).tables in
    let a = reached-valid s m b cs in
    let d = reached-valid s k c ds in
    (λ e. equal-same t u (image_injective s t u a d e), λ e. ap image (same-equal s t u a d e))

-- an image that loads, written again, gives the same bytes
pub loaded-again : (s : Settings) (l : List ℕ) (t : Tables) → So (are_bytes l) → load_image s l ≡ loaded t → image t ≡ l
loaded-again s l t h e = load-write s l t h e

-- ---- pages, by lookup
-- "An entry is skipped exactly if its page stands at rwx, it asks for less, and 1,024 pages [..] stand below rwx then."
pub skipped-by-access : (s : Settings) (t : Tables) (limit view : ℕ) (e : Entry) → Valid s t → e.page < 2 ^ 64
    → is_skipped limit (page_of view e) t.pages
    ≡ (eqb (access_in t.pages view e.page) 7 && not (eqb e.access 7) && leb limit (length t.pages))
unfolding is_skipped
skipped-by-access s t limit view e a h =
    ap (λ (b : Bool). not b && not (eqb e.access 7) && leb limit (length t.pages))
    (has_access view e.page t.pages a.pa_up (paged-all s t a) (lowered-all s t a) h)
    ∙ ap (λ (b : Bool). b && not (eqb e.access 7) && leb limit (length t.pages)) (twice (eqb (access_in t.pages view e.page) 7))
  where
    twice : (b : Bool) → not (not b) ≡ b
    twice true = refl
    twice false = refl

-- an applied entry sets that page and no other
pub entry-sets : (s : Settings) (t : Tables) (limit view : ℕ) (e : Entry) (skips : Bool) (v n : ℕ) → Valid s t → e.page < 2 ^ 64
    → is_skipped limit (page_of view e) t.pages ≡ false
    → access_in (take_entry limit view e (record { pages = t.pages; skipped = skips })).pages v n
    ≡ cond (eqb view v && eqb e.page n) e.access (access_in t.pages v n)
unfolding take_entry set_page
entry-sets s t limit view e skips v n a h k =
    let p = page_of view e in
    let ps = t.pages in
    rw k
    (pick (λ (qs : List Page). access_in qs v n ≡ cond (eqb view v && eqb e.page n) e.access (access_in ps v n)) (eqb e.access 7)
    (forget page_key (page_key p) ps) (put page_key p ps)
    (λ seven. by_place view e.page v n (access_in (forget page_key (page_key p) ps)) (access_in ps) e.access
    (access-forget view e.page ps a.pa_up ∙ sym (eqb-true e.access 7 seven))
    (λ d. access-forget-other v n view e.page ps d h (paged-all s t a)))
    (λ _. by_place view e.page v n (access_in (put page_key p ps)) (access_in ps) e.access (access-put p ps)
    (λ d. access-put-other v n p ps d (lt-ltb e.page (2 ^ 64) h) (paged-all s t a))))

-- message 12 sets that MSR's switch of that vCPU and no other; an MSR of no place has none
pub msr-sets : (s : Settings) (t : Tables) (m : Msr) (on : Bool) (v n : ℕ) → Valid s t
    → msr_in (set_msr m on t.msrs) v n ≡ cond (is_msr m.msr && (eqb m.vcpu v && eqb m.msr n)) on (msr_in t.msrs v n)
msr-sets s t m on v n a = set-looks m t.msrs on a.ms_up (numbered-all s t a) v n
