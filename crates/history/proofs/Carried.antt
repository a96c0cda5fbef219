-- Document 01's cases through the calls' definitions: on whatever words were lent, a row gives what it gives on the model. Assumes nothing.
use mathlib.Core.Path.{◌≡◌, refl, sym, ap, ◌∙◌, subst}
use Prim.Native.Nat.{ℕ}
use mathlib.Core.List.{List, [], ◌∷◌, map}
use mathlib.Core.Bool.{Bool, true, false, cond, ◌&&◌, So}
use mathlib.Core.Option.{some}
use lib.ListN.{length, take}
use lib.Dec.{eqb}
use Rattle.kvmi.specs.declared.Settings.{Settings}
use Rattle.kvmi.specs.declared.Signal.TheVariants.{Quiet}
use Rattle.kvmi.specs.Answer.{Paper, handled, plain, plain_at}
use Rattle.kvmi.specs.Settings.{in_range}
use Rattle.kvmi.specs.Tables.{Tables}
use Rattle.kvmi.specs.Model.{Model, fresh, begun}
use Rattle.kvmi.specs.Image.{image, Loaded, loaded, bad_form, forbidden, load_image}
use Rattle.kvmi.specs.Call.{Call, Step, Begin, beginning, no_session, begin_fresh, begin_from, begin_loaded, step}
use Rattle.kvmi.specs.Case.{Start, anew, from_bytes, standing, Seen, Case, ended, last_step, end_from, end_of, seen_at, seen, cases}
use Rattle.kvmi.proofs.Cases.{cases-right}
use Rattle.store.specs.Words.{vcpu_word_count}
use Rattle.page_words.specs.PageWords.{page_word_count}
use Rattle.session.specs.Calls.{Told, fresh_of}
use Rattle.image_writer.specs.Write.{stated_tables}
use Rattle.image_reader.specs.Read.{told_loaded, read_of}
use Rattle.history.specs.History.{step_of, BeganOn, anew as freshly, from_image}
use Rattle.history.specs.Carried.{is_begun, begun_on, last_of, seen_in, seen_from, seen_on}
use Rattle.laws.proofs.Bool.{and_l, and_r, clash}
use Rattle.history.proofs.Images.{stated-same}
use Rattle.history.proofs.Lists.{Stands, step-stands, step_same, began-stands}

-- what a call gave on a session and on the model that the session stands for
record Alike (s : Settings) (r : Told) (q : Step) : Type 0 where
  answer : r.answer ≡ q.answer
  out : r.out ≡ q.out
  stands : Stands s r.state q.model

alike-seen : (s : Settings) (r : Told) (q : Step) → Alike s r q → seen_in r ≡ seen_at (ended q)
alike-seen s r q a =
    let t : stated_tables r.state ≡ q.model.tables = stated-same r.state a.stands.formed ∙ ap (λ (m : Model). m.tables) a.stands.model in
    λ j. record { answer = a.answer j; bytes = take (a.answer j).count (a.out j); image = image (t j) }

last-seen : (s : Settings) (r : Told) (q : Step) (cs : List Call) → Alike s r q → seen_in (last_of r cs) ≡ seen_at (ended (last_step s q cs))
last-seen s r q [] a = alike-seen s r q a
last-seen s r q (c ∷ cs) a =
    let one = step_same s r.state q.model c a.stands in
    last-seen s (step_of r.state c) (step s q.model c) cs (record { answer = one.0; out = one.1; stands = step-stands s r.state q.model c a.stands })

-- ---- a session that began, and one that did not
begun-seen : (s : Settings) (r : Told) (m : Model) (cs : List Call) → r.answer ≡ handled 0 Quiet → r.out ≡ [] → Stands s r.state m
    → seen_from r cs ≡ seen_at (end_from s (handled 0 Quiet) (some m) cs)
begun-seen s r m cs a o f =
    ap (λ (p : Paper). cond (eqb p.number 0) (seen_in (last_of r cs)) (record { answer = r.answer; bytes = []; image = [] })) a
    ∙ last-seen s r (record { answer = handled 0 Quiet; out = []; guest = []; model = m }) cs (record { answer = a; out = o; stands = f })

refused-seen : (r : Told) (p : Paper) (cs : List Call) → r.answer ≡ p → eqb p.number 0 ≡ false → seen_from r cs ≡ record { answer = p; bytes = []; image = [] }
refused-seen r p cs a z =
    ap (λ (q : Paper). cond (eqb q.number 0) (seen_in (last_of r cs)) (record { answer = q; bytes = []; image = [] })) a
    ∙ ap (λ (b : Bool). cond b (seen_in (last_of r cs)) (record { answer = p; bytes = []; image = [] })) z

abbrev FreshSeen : Settings → List ℕ → List ℕ → List Call → Type 0
FreshSeen s vcpus pages cs = seen_from (fresh_of s vcpus pages) cs ≡ seen_at (end_from s (begin_fresh s).answer (begin_fresh s).model cs)

fresh-seen : (s : Settings) (vcpus pages : List ℕ) → length vcpus ≡ vcpu_word_count → length pages ≡ page_word_count → (cs : List Call) → FreshSeen s vcpus pages cs
unfolding fresh_of begin_fresh
fresh-seen s vcpus pages v p cs = by (in_range s) refl
  where
    model : (b : Begin) → begin_fresh s ≡ b → seen_at (end_from s (begin_fresh s).answer (begin_fresh s).model cs) ≡ seen_at (end_from s b.answer b.model cs)
    model b e = ap (λ (x : Begin). seen_at (end_from s x.answer x.model cs)) e

    by : (b : Bool) → in_range s ≡ b → FreshSeen s vcpus pages cs
    by true e =
        begun-seen s (fresh_of s vcpus pages) (fresh s) cs (rw e) (rw e) (began-stands s (fresh_of s vcpus pages).state (fresh s) (freshly vcpus pages v p e))
        ∙ sym (model (beginning (fresh s)) (rw e))
    by false e = refused-seen (fresh_of s vcpus pages) (plain 7) cs (rw e) refl ∙ sym (model (no_session (plain 7)) (rw e))

abbrev ReadSeen : Settings → List ℕ → List ℕ → List ℕ → List Call → Type 0
ReadSeen s l vcpus pages cs = seen_from (read_of s l vcpus pages) cs ≡ seen_at (end_from s (begin_from s l).answer (begin_from s l).model cs)

read-seen : (s : Settings) (l vcpus pages : List ℕ) → length vcpus ≡ vcpu_word_count → length pages ≡ page_word_count → (cs : List Call) → ReadSeen s l vcpus pages cs
unfolding read_of begin_from told_loaded
read-seen s l vcpus pages v p cs = by (in_range s) (load_image s l) refl refl
  where
    model : (b : Begin) → begin_from s l ≡ b → seen_at (end_from s (begin_from s l).answer (begin_from s l).model cs) ≡ seen_at (end_from s b.answer b.model cs)
    model b e = ap (λ (x : Begin). seen_at (end_from s x.answer x.model cs)) e

    by : (b : Bool) (x : Loaded) → in_range s ≡ b → load_image s l ≡ x → ReadSeen s l vcpus pages cs
    by false x e h = refused-seen (read_of s l vcpus pages) (plain 7) cs (rw e) refl ∙ sym (model (no_session (plain 7)) (rw e))
    by true (bad_form off) e h = refused-seen (read_of s l vcpus pages) (plain_at 8 off) cs (rw (e, h)) refl ∙ sym (model (no_session (plain_at 8 off)) (rw (e, h)))
    by true (forbidden off) e h = refused-seen (read_of s l vcpus pages) (plain_at 9 off) cs (rw (e, h)) refl ∙ sym (model (no_session (plain_at 9 off)) (rw (e, h)))
    by true (loaded t) e h =
        begun-seen s (read_of s l vcpus pages) (begun t) cs (rw (e, h)) (rw (e, h)) (began-stands s (read_of s l vcpus pages).state (begun t) (from_image vcpus pages v p l t e h))
        ∙ sym (model (beginning (begun t)) (rw (e, h)))

-- ---- rows, and lists of them
start_seen : (s : Settings) (b : Start) → So (is_begun b) → (vcpus pages : List ℕ) → length vcpus ≡ vcpu_word_count → length pages ≡ page_word_count → (cs : List Call)
    → seen_from (begun_on s b vcpus pages) cs ≡ seen_at (end_of s b cs)
start_seen s anew ok vcpus pages v p cs = fresh-seen s vcpus pages v p cs
start_seen s (from_bytes l) ok vcpus pages v p cs = read-seen s l vcpus pages v p cs
start_seen s (standing m) ok vcpus pages v p cs = clash {b = false} ok refl

pub row_carried : (c : Case) → So (is_begun c.start) → (vcpus pages : List ℕ) → length vcpus ≡ vcpu_word_count → length pages ≡ page_word_count → seen_on vcpus pages c ≡ seen c
unfolding seen_on seen
row_carried c ok vcpus pages v p = start_seen c.settings c.start ok vcpus pages v p c.calls

abbrev begins : List Case → Bool
begins [] = true
begins (c ∷ cs) = is_begun c.start && begins cs

pub rows-carried : (cs : List Case) → So (begins cs) → (vcpus pages : List ℕ) → length vcpus ≡ vcpu_word_count → length pages ≡ page_word_count → map (seen_on vcpus pages) cs ≡ map seen cs
rows-carried [] ok vcpus pages v p = refl
rows-carried (c ∷ cs) ok vcpus pages v p =
    λ j. row_carried c (and_l (is_begun c.start) (begins cs) ok) vcpus pages v p j ∷ rows-carried cs (and_r (is_begun c.start) (begins cs) ok) vcpus pages v p j

-- P1 to P12, on whatever words were lent
pub cases-carried : (vcpus pages : List ℕ) → length vcpus ≡ vcpu_word_count → length pages ≡ page_word_count → map (seen_on vcpus pages) cases ≡ map (λ (c : Case). c.expected) cases
cases-carried vcpus pages v p = rows-carried cases refl vcpus pages v p ∙ cases-right
