-- Laws of changes. Assumes nothing.
use mathlib.Core.Path.{◌≡◌, refl, sym, ◌∙◌}
use mathlib.Core.List.{List}
use mathlib.Core.Bool.{Bool, true, false, cond, ◌&&◌, ◌||◌, false≢true}
use Prim.Native.Nat.{ℕ, ◌+◌, ◌-◌, ◌%◌, ◌^◌, ◌≤◌}
use native.Mathlib.Omega.{arith}
use lib.Dec.{leb, ltb, eqb}
use lib.ListN.{length, drop}
use borrow.Author.Tests.{leb-true, leb-false, ltb-false, le-leb, lt-leb}
use Rattle.kvmi.specs.declared.Settings.{Settings}
use Rattle.kvmi.specs.declared.ReplyMode.{ReplyMode}
use Rattle.kvmi.specs.declared.ReplyMode.TheVariants.{On, Off, ErrorsOnly}
use Rattle.kvmi.specs.declared.Change.{Change}
use Rattle.kvmi.specs.declared.Change.TheVariants.{Nothing, SetVmEvent, WritePhysical, QueuePause, SetVcpuEvent, SetCr, SetMsr, SetPages, SetSinglestep, SetReplies, EndWait}
use Rattle.kvmi.specs.Mode.{mode_of_number, number_of_mode}
use Rattle.kvmi.specs.Limits.{page_limit}
use Rattle.kvmi.specs.Settings.{all_or_nothing}
use Rattle.kvmi.specs.Message.{entries_of}
use Rattle.page_words.specs.PageWords.{PageTable, page_table, run_entries}
use Rattle.page_words.proofs.PageLaws.{length-entries, run_room, run-one}
use Rattle.session.specs.declared.Session.{Session}
use Rattle.session.specs.State.{State}
use Rattle.change.specs.Change.{pages_by, change}
use Rattle.change.specs.Effect.{Enacted, PagesChanged, effect}

-- a mode's number stands for it
pub mode-number : (m : ReplyMode) → mode_of_number (number_of_mode m) ≡ m
unfolding mode_of_number
mode-number On = refl
mode-number Off = refl
mode-number ErrorsOnly = refl

-- and has 32 bits
pub mode-fits : (m : ReplyMode) → number_of_mode m % 2 ^ 32 ≡ number_of_mode m
mode-fits On = refl
mode-fits Off = refl
mode-fits ErrorsOnly = refl

-- the change of a run of entries
abbrev pub paged : Session → List ℕ → List ℕ → PagesChanged → Enacted
paged s v guest x = effect s x.effect v x.pages guest

-- ---- a change keeps the settings
pub change-keeps : (st : State) (guest d : List ℕ) (c : Change) → (change st guest d c).state.session.settings ≡ st.session.settings
unfolding change
change-keeps st guest d Nothing = refl
change-keeps st guest d (SetVmEvent on event) = refl
change-keeps st guest d (WritePhysical gpa) = refl
change-keeps st guest d (QueuePause wait vcpu) = refl
change-keeps st guest d (SetVcpuEvent on vcpu event) = refl
change-keeps st guest d (SetCr on vcpu cr) = refl
change-keeps st guest d (SetMsr on vcpu msr) = refl
change-keeps st guest d (SetPages view count) = refl
change-keeps st guest d (SetSinglestep on vcpu) = refl
change-keeps st guest d (SetReplies now mode) = refl
change-keeps st guest d (EndWait resumes vcpu action value feed) = refl

-- ---- room for entries
neither : (a b : Bool) → (a || b) ≡ false → (a ≡ false) × (b ≡ false)
neither true b e = absurd (false≢true (sym e))
neither false b e = (refl, e)

-- ---- what the revision lets stand of a run of entries
-- the run, where it is the pages as they were or no entry was skipped
stands : (s : Settings) (pages : List ℕ) (used : ℕ) (t : PageTable) → (t.skipped ≡ true → page_table pages used true ≡ t) → pages_by s pages used t ≡ t
unfolding pages_by
stands s pages used t f = go (all_or_nothing s) t.skipped refl
  where
    go : (whole skipped : Bool) → t.skipped ≡ skipped → cond (whole && skipped) (page_table pages used true) t ≡ t
    go true true e = f e
    go true false e = refl
    go false skipped e = refl

module _ (s : Settings) (pages : List ℕ) (used view n : ℕ) (d : List ℕ) where
  abbrev pub run : PageTable
  run = run_entries page_limit view (entries_of n (drop 8 d)) pages used

  -- all or nothing, and an entry was skipped
  pub run-back : eqb s.revision 2 ≡ true → run.skipped ≡ true → pages_by s pages used run ≡ page_table pages used true
  unfolding pages_by all_or_nothing
  run-back w k = rw (w, k)

  pub run-first : eqb s.revision 2 ≡ false → pages_by s pages used run ≡ run
  unfolding pages_by all_or_nothing
  run-first w = rw w

  pub run-whole : run.skipped ≡ false → pages_by s pages used run ≡ run
  run-whole k = stands s pages used run (λ e. absurd (false≢true (sym k ∙ e)))

  -- there was room for all entries
  pub run-roomy : page_limit ≤ length pages → leb (used + n) page_limit ≡ true → pages_by s pages used run ≡ run
  run-roomy long room =
      let l = length-entries n (drop 8 d) in
      let r = leb-true (used + n) page_limit room in
      run-whole (run_room page_limit view (entries_of n (drop 8 d)) pages used long (omega arith))

  -- there was one entry, or none
  pub run-single : page_limit ≤ length pages → (ltb page_limit used || ltb 1 n) ≡ false → pages_by s pages used run ≡ run
  run-single long one =
      let l = length-entries n (drop 8 d) in
      let both = neither (ltb page_limit used) (ltb 1 n) one in
      let few = ltb-false page_limit used both.0 in
      let single = ltb-false 1 n both.1 in
      stands s pages used run (λ k. let e = run-one page_limit view (entries_of n (drop 8 d)) pages used (omega arith) (omega arith) k in
      sym (λ j. page_table (e.0 j) (e.1 j) (k j)))
