-- The image calls on well-formed sessions are the model's, and an accepted image makes a well-formed session. Assumes nothing.
use mathlib.Core.Path.{◌≡◌, refl, sym, ap, ◌∙◌, subst}
use Prim.Native.Nat.{ℕ, zero, suc, ◌+◌, ◌-◌, ◌*◌, ◌^◌, ◌≤◌, ◌<◌, zero-le, min}
use native.Mathlib.Nat.{zero-add}
use native.Mathlib.Omega.{arith}
use mathlib.Core.List.{List, [], ◌∷◌, ◌++◌}
use mathlib.Core.Bool.{Bool, true, false, cond, not, ◌&&◌, So}
use mathlib.Core.Option.{Option, none, some}
use lib.ListN.{length, get_or, replicate, length-replicate, get_or-replicate}
use lib.Seq.{ext_get_or}
use lib.Pow.{pow_pos}
use lib.Dec.{ltb, leb, eqb}
use borrow.Author.Tests.{ltb-true, ltb-false, leb-true}
use Rattle.wire.proofs.Laws.{store-start}
use Rattle.kvmi.specs.declared.Settings.{Settings}
use Rattle.kvmi.specs.declared.Signal.TheVariants.{Quiet}
use Rattle.kvmi.specs.Bits.{bit, is_on}
use Rattle.kvmi.specs.Settings.{in_range}
use Rattle.kvmi.specs.Tables.{Vcpu, Tables, resting, with_vcpus, with_msrs, with_pages}
use Rattle.kvmi.specs.Model.{Model, begun, with_tables, with_awaited}
use Rattle.kvmi.specs.Image.{image, Loaded, loaded, load_image}
use Rattle.kvmi.specs.Valid.{Valid}
use Rattle.kvmi.specs.Call as model
use Rattle.store.specs.Words.{field, cleared, SINGLESTEP, CRS, EVENTS, PAUSES, AWAITED, AWAITED_SEQ, vcpu_word_count}
use Rattle.store.specs.Meaning.{msrs_of, vcpu_of_words, vcpus_of}
use Rattle.page_words.specs.Meaning.{pages_of}
use Rattle.kvmi.specs.Mode.{mode_of_number}
use Rattle.page_words.specs.PageWords.{page_word_count}
use Rattle.session.specs.State.{State, fresh_session, with_tool_events, is_closed}
use Rattle.session.specs.Calls.{Told}
use Rattle.session.specs.Meaning.{awaited_of, tables_of, model_of, WordsGood, WellFormed}
use Rattle.image_writer.specs.Write.{stated_vcpus, stated_tables, image_of}
use Rattle.image_test.specs.Test.{ready_loaded}
use Rattle.image_reader.specs.Read.{vcpus_loaded, msrs_loaded, pages_loaded, loaded_session, loaded_state}
use Rattle.laws.proofs.Bool.{test}
use Rattle.laws.proofs.Valid.{vm-few}
use Rattle.laws.proofs.Same.{count-is, vcpu-ext}
use Rattle.refine.proofs.Msrs.{zeros-field, zeros-msrs, msrs-same}
use Rattle.refine.proofs.Vcpus.{vcpus-length, vcpus-at}
use Rattle.refine.proofs.Awaited.{awaited-same, awaited-none, awaited-at, awaited-length, zeros-awaited}
use Rattle.refine.proofs.Words.{few-vcpus, tool-kept, pages-kept, shared_kept, vcpus-kept}
use Rattle.refine.proofs.Simulate.{Simulates, both, same-simulates, zero-words}
use Rattle.history.proofs.Loading.{AllIn, all_in, Holds, vcpus-loaded-length, vcpus-loaded-other, vcpus-loaded-past, vcpus-loaded-at, ready-loaded-at, ready-loaded-below, msrs-loaded-length, msrs-loaded-field, msrs-loaded-past, msrs-loaded, pages-mean, pages-length, pages-good}

-- ---- the writer
stated-count : (st : State) → WellFormed st → stated_vcpus st ≡ st.session.settings.vcpus
unfolding stated_vcpus
stated-count st f = let few = few-vcpus st.session.settings f.settings in omega arith

pub stated-same : (st : State) → WellFormed st → stated_tables st ≡ tables_of st
unfolding stated_tables
stated-same st f =
    let n = stated-count st f in
    let i = f.words.pages.inside in
    let k : min st.session.tool.pages (length st.pages) ≡ st.session.tool.pages = omega arith in
    λ j. with_pages (with_msrs (with_vcpus (tables_of st) (vcpus_of st.session.shared.ready st.vcpus 0 (n j))) (msrs_of st.vcpus 0 (n j)))
    (pages_of st.pages (k j))

pub image-simulates : (st : State) → WellFormed st → (out : List ℕ) → Simulates st (image_of st out) (model.image_step (model_of st) out)
unfolding image_of model.image_step
image-simulates st f out =
    rw (stated-same st f, stated-count st f)
    (both (Simulates st) (is_closed st) _ _ _ _ (λ _. same-simulates 2 st out [] f.words)
    (λ _. both (Simulates st) (model.awaits_any (awaited_of st.vcpus 0 st.session.settings.vcpus)) _ _ _ _ (λ _. same-simulates 10 st out [] f.words)
    (λ _. both (Simulates st) (ltb (length out) (length (image (tables_of st)))) _ _ _ _ (λ _. same-simulates 3 st out [] f.words)
    (λ h. record {
      answer = refl;
      out = store-start out (image (tables_of st)) (ltb-false (length out) (length (image (tables_of st))) h);
      guest = refl;
      model = refl;
      settings = refl;
      words = f.words;
    }))))

-- ---- the reader
bit-on : (b : Bool) → not (eqb (bit b) 0) ≡ b
bit-on true = refl
bit-on false = refl

bit-small : (b : Bool) → bit b ≤ 1
bit-small true = omega arith
bit-small false = omega arith

module _ (s : Settings) (t : Tables) (ok : So (in_range s)) (a : Valid s t) (vcpus pages : List ℕ) (vlong : length vcpus ≡ vcpu_word_count) (plong : length pages ≡ page_word_count) where
  abbrev st : State
  st = loaded_state s t vcpus pages

  abbrev fields : List ℕ
  fields = vcpus_loaded (cleared vcpus) 0 t.vcpus

  abbrev words : List ℕ
  words = msrs_loaded fields t.msrs

  abbrev ready : ℕ
  ready = ready_loaded 0 0 t.vcpus

  count : length t.vcpus ≡ s.vcpus
  count = count-is s t a

  few : s.vcpus ≤ 16
  few = few-vcpus s ok

  all : AllIn s.vcpus t.msrs
  all = subst (λ (n : ℕ). AllIn n t.msrs) count (all_in t.vcpus t.msrs a.mss)

  cleared-length : length (cleared vcpus) ≡ vcpu_word_count
  unfolding cleared
  cleared-length = length-replicate {A = ℕ} (length vcpus) 0 ∙ vlong

  fields-length : length fields ≡ vcpu_word_count
  fields-length = vcpus-loaded-length (cleared vcpus) 0 t.vcpus ∙ cleared-length

  words-length : length words ≡ vcpu_word_count
  words-length = msrs-loaded-length s.vcpus fields t.msrs ∙ fields-length

  zero_field : (i k : ℕ) → field (cleared vcpus) i k ≡ 0
  unfolding cleared
  zero_field i k = zeros-field (length vcpus) i k

  -- a field of 16, MSR switches apart
  plain : (i k : ℕ) → k < 16 → field words i k ≡ field fields i k
  plain i k h = msrs-loaded-field s.vcpus fields t.msrs i k h

  spare : (i k : ℕ) → 4 ≤ k → k < 16 → field words i k ≡ 0
  spare i k g h = plain i k h ∙ vcpus-loaded-other (cleared vcpus) 0 t.vcpus i k (omega arith) (λ p q. omega arith) ∙ zero_field i k

  held : (i : ℕ) → i < length t.vcpus → Holds fields i (get_or t.vcpus i resting)
  held i h =
      let c = count in
      let l = cleared-length in
      let f = few in
      rw zero-add at (vcpus-loaded-at (cleared vcpus) 0 t.vcpus (omega arith) i h)

  vcpu-held : (i : ℕ) → i < length t.vcpus → vcpu_of_words ready words i ≡ get_or t.vcpus i resting
  unfolding vcpu_of_words
  vcpu-held i h =
      let v = held i h in
      let r : is_on ready i ≡ (get_or t.vcpus i resting).ready = rw zero-add at (ready-loaded-at 0 0 t.vcpus i h) in
      let step : not (eqb (field words i SINGLESTEP) 0) ≡ (get_or t.vcpus i resting).singlestep
      = ap (λ (x : ℕ). not (eqb x 0)) (plain i SINGLESTEP (omega arith) ∙ v.step) ∙ bit-on (get_or t.vcpus i resting).singlestep in
      let crs = plain i CRS (omega arith) ∙ v.crs in
      let events = plain i EVENTS (omega arith) ∙ v.events in
      let pauses = plain i PAUSES (omega arith) ∙ v.pauses in
      vcpu-ext (vcpu_of_words ready words i) (get_or t.vcpus i resting) r step crs events pauses

  vcpus-mean : vcpus_of ready words 0 s.vcpus ≡ t.vcpus
  vcpus-mean =
      ext_get_or resting (vcpus_of ready words 0 s.vcpus) t.vcpus (vcpus-length ready words 0 s.vcpus ∙ sym count)
      (λ i h. let l : i < s.vcpus = rw (vcpus-length ready words 0 s.vcpus) at h in
      vcpus-at ready words s.vcpus i l ∙ vcpu-held i (rw count l))

  no-msrs : msrs_of fields 0 s.vcpus ≡ []
  unfolding cleared
  no-msrs =
      -- a word of MSR switches is no plain field
      msrs-same (cleared vcpus) fields 0 s.vcpus (λ i k a b. vcpus-loaded-other (cleared vcpus) 0 t.vcpus i k b (λ p q. omega arith))
      ∙ zeros-msrs (length vcpus) s.vcpus

  cleared-zero : (j : ℕ) → get_or (cleared vcpus) j 0 ≡ 0
  unfolding field
  cleared-zero j = let e : 0 * 272 + j ≡ j = omega arith in rw e at (zero_field 0 j)

  fields-past : (j : ℕ) → s.vcpus * 272 ≤ j → get_or fields j 0 ≡ 0
  fields-past j h = let c = count in vcpus-loaded-past (cleared vcpus) 0 t.vcpus j (omega arith) ∙ cleared-zero j

  flag_small : (i : ℕ) → field words i SINGLESTEP ≤ 1
  unfolding field
  flag_small i =
      test (ltb i (length t.vcpus))
      (λ h. let v = held i (ltb-true i (length t.vcpus) h) in
      rw (plain i SINGLESTEP (omega arith), v.step) (bit-small (get_or t.vcpus i resting).singlestep))
      (λ h. let far = ltb-false i (length t.vcpus) h in let c = count in
      rw (plain i SINGLESTEP (omega arith), fields-past (i * 272 + SINGLESTEP) (omega arith)) zero-le)

  msrs-mean : msrs_of words 0 s.vcpus ≡ t.msrs
  msrs-mean = let l = fields-length in let f = few in msrs-loaded s.vcpus fields t.msrs [] (omega arith) all no-msrs refl a.ms_up

  awaits-none : awaited_of words 0 s.vcpus ≡ replicate (length t.vcpus) none
  awaits-none =
      ext_get_or none (awaited_of words 0 s.vcpus) (replicate (length t.vcpus) none) (awaited-length words 0 s.vcpus ∙ sym (length-replicate (length t.vcpus) none ∙ count))
      (λ i h. let l : i < s.vcpus = rw (awaited-length words 0 s.vcpus) at h in
      awaited-at words s.vcpus i l ∙ awaited-none words i (spare i AWAITED (omega arith) (omega arith)) ∙ sym (get_or-replicate (length t.vcpus) i none none (rw count l)))

  pub loaded-model : model_of st ≡ begun t
  unfolding loaded_state mode_of_number
  loaded-model =
      λ j. with_awaited (with_tables (begun t) (with_pages (with_msrs (with_vcpus t (vcpus-mean j)) (msrs-mean j)) (pages-mean s t a pages plong j))) (awaits-none j)

  pub loaded-words : WordsGood st
  unfolding loaded_state
  loaded-words =
      let c = count in
      let none-set = zero-words s (fresh_session s) vcpus pages vlong plong (omega arith) zero-le refl refl in
      let switches = vcpus-kept _ none-set words words-length flag_small (λ i k a b _. spare i k (omega arith) (omega arith)) (λ i k g h. spare i k (omega arith) h)
      (λ j h. msrs-loaded-past s.vcpus fields t.msrs all j h ∙ fields-past j h) in
      let marks = shared_kept _ switches ready (ready-loaded-below s.vcpus 0 0 t.vcpus (pow_pos s.vcpus) (omega arith)) in
      let own = tool-kept _ marks (with_tool_events (fresh_session s).tool t.events) refl (omega arith) zero-le in
      pages-kept _ own (length t.pages) _ (pages-length s t a pages plong) (pages-good s t a pages plong)

  pub loaded-formed : WellFormed st
  unfolding loaded_state
  loaded-formed =
      record { settings = ok; words = loaded-words; tables = subst (λ (m : Model). Valid s m.tables) (sym loaded-model) a }
