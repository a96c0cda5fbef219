-- Laws of the table's rows. Assumes nothing.
use mathlib.Core.Path.{◌≡◌, refl, ap, sym, ◌∙◌}
use mathlib.Core.Logic.{⊎_elim}
use mathlib.Core.List.{List}
use mathlib.Core.Bool.{Bool, true, false, So, cond, not, ◌&&◌}
use Prim.Native.Nat.{ℕ, zero, suc, ◌≤◌, ◌<◌}
use native.Mathlib.Omega.{arith}
use lib.Dec.{leb, eqb}
use lib.ListN.{length, take, get_or-eq_default}
use lib.Seq.{take_all}
use borrow.Author.Tests.{le-leb, lt-leb, eqb-true, not-true}
use Rattle.std.specs.Prelude.{Option, Some, None}
use Rattle.wire.proofs.Laws.{le-or-lt}
use Rattle.kvmi.specs.declared.Settings.{Settings}
use Rattle.kvmi.specs.declared.Facts.{Facts}
use Rattle.kvmi.specs.declared.Handler.{Handler}
use Rattle.kvmi.specs.declared.Layout.{Layout}
use Rattle.kvmi.specs.declared.ReplyKind.{ReplyKind}
use Rattle.kvmi.specs.declared.SizeRule.TheVariants.{Exactly}
use Rattle.kvmi.specs.declared.Change.TheVariants.{Nothing}
use Rattle.kvmi.specs.declared.Verdict.{Verdict}
use Rattle.kvmi.specs.declared.Judgement.{Judgement}
use Rattle.kvmi.specs.declared.Verdict.TheVariants.{Does}
use Rattle.kvmi.specs.Codes.{ENOSYS}
use Rattle.kvmi.specs.Settings.{allows_command, allows_event}
use Rattle.kvmi.specs.Message.{row as message_row, size_fits, data_fits, carries_data, layout_of, messages, names_vcpu, switches_at, first_padding, padding_runs, first_of_runs}
use Rattle.kvmi.specs.Verdict.{replies_on, refuse, verdict, command_verdict_by, command_verdict, judgement, command_judgement, reaches_test6, reported_padding, invalid_by, is_unready, is_denied, is_unsupported, is_busy, is_absent, loses_errors, change_of}
use Rattle.laws.proofs.Bool.{test, and_l, and_r}
use Rattle.laws.proofs.Paddings.{command-ids}
use Rattle.verdict.specs.Handlers.{id_of, row_judgement, facts_for, passes_row, refusal}
use Rattle.verdict.specs.declared.Asked.{Asked}

-- what a test says of each number below a bound
abbrev all_below : (ℕ → Bool) → ℕ → Bool
all_below f zero = true
all_below f (suc n) = f n && all_below f n

below : (f : ℕ → Bool) (n i : ℕ) → So (all_below f n) → i < n → So (f i)
below f zero i h g = absurd (omega arith)
below f (suc n) i h g =
    ⊎_elim
    (λ (p : n ≤ i). let e : n ≡ i = omega arith in rw e at (and_l (f n) (all_below f n) h))
    (λ p. below f n i (and_r (f n) (all_below f n) h) p)
    (le-or-lt n i)

-- a row is of the message of its handler, and the messages that have one are 1 to 16
abbrev is_right : ℕ → Option Layout → Bool
is_right id None = not (leb 1 id && leb id 16)
is_right id (Some row) = (leb 1 id && leb id 16) && eqb (id_of row.handler) id

right-rows : all_below (λ id. is_right id (layout_of id)) 17 ≡ true
unfolding layout_of
right-rows = refl

past : (id : ℕ) → 17 ≤ id → layout_of id ≡ None
unfolding layout_of
past id h = get_or-eq_default messages None {n = id} h

right : (id : ℕ) (o : Option Layout) → o ≡ layout_of id → is_right id o ≡ true
right id o e =
    ⊎_elim
    (λ h. rw (e, past id h, lt-leb id 16 h, le-leb 1 id (omega arith)))
    (λ h. rw e (below (λ k. is_right k (layout_of k)) 17 id right-rows h))
    (le-or-lt 17 id)

-- what `judge` promises, by the table's row: so the row tells all that the number does
unfoldable by_row : Asked → List ℕ → Option Layout → ℕ → ℕ → List ℕ → Judgement
by_row a v None id seq d = judgement (refuse a.mode ENOSYS) 0
by_row a v (Some row) id seq d =
    cond (passes_row a row id d) (row_judgement a.settings (facts_for a v d) (id_of row.handler) seq d) (judgement (refusal a id) 0)

abbrev pub by_tests : Asked → List ℕ → ℕ → ℕ → List ℕ → Judgement
by_tests a v id seq d = judgement (verdict a.settings (facts_for a v d) id seq d) (reported_padding a.settings a.mode id d)

by_row_lem : (a : Asked) (v : List ℕ) (o : Option Layout) (id seq : ℕ) (d : List ℕ) → o ≡ layout_of id → by_row a v o id seq d ≡ by_tests a v id seq d
unfolding by_row verdict row_judgement command_judgement passes_row refusal reported_padding reaches_test6
by_row_lem a v None id seq d e = rw (command-ids id, not-true (leb 1 id && leb id 16) (right id None e))
by_row_lem a v (Some row) id seq d e =
    let z = right id (Some row) e in
    let known : (leb 1 id && leb id 16) ≡ true = and_l (leb 1 id && leb id 16) (eqb (id_of row.handler) id) z in
    let own : id_of row.handler ≡ id = eqb-true _ _ (and_r (leb 1 id && leb id 16) (eqb (id_of row.handler) id) z) in
    rw (command-ids id, known, own, ← e)
    (test (eqb id 16)
    (λ k. rw k
    (test (allows_command a.settings id)
    (λ p. rw p (test (not (replies_on a.mode) && carries_data row.reply) (λ q. rw q) (λ q. rw q (test (size_fits row.size d) (λ z. rw z) (λ z. rw z)))))
    (λ p. rw p)))
    (λ k. rw k
    (test (allows_command a.settings id)
    (λ p. rw p
    (test (not (replies_on a.mode) && carries_data row.reply) (λ q. rw q)
    (λ q. rw q
    (test (size_fits row.size d) (λ z. rw z (test (eqb id 9 && not (allows_event a.settings 2)) (λ w. rw w) (λ w. rw w))) (λ z. rw z)))))
    (λ p. rw p))))

-- messages 1 and 4 ask nothing, change nothing and have no padding; 6 and 7 have none
pub asks_nothing : (s : Settings) (f : Facts) (d : List ℕ) → (command_judgement s f 1 d ≡ judgement (Does Nothing) 0) × (command_judgement s f 4 d ≡ judgement (Does Nothing) 0)
unfolding command_judgement command_verdict command_verdict_by invalid_by is_unready is_denied is_unsupported is_busy is_absent loses_errors change_of names_vcpu switches_at first_padding padding_runs first_of_runs
asks_nothing s f d = (refl, refl)

pub unpadded : (s : Settings) (f : Facts) (d : List ℕ) → (command_judgement s f 6 d ≡ judgement (command_verdict s f 6 d) 0) × (command_judgement s f 7 d ≡ judgement (command_verdict s f 7 d) 0)
unfolding command_judgement first_padding padding_runs first_of_runs
unpadded s f d = (refl, refl)

-- a command is handed what the padding test found
pub judged-by : (s : Settings) (f : Facts) (id : ℕ) (d : List ℕ) {v : Verdict} {p : ℕ} → v ≡ command_verdict_by p s f id d → p ≡ first_padding id d
    → judgement v p ≡ command_judgement s f id d
unfolding command_judgement command_verdict
judged-by s f id d e h = rw (e, h)

-- ---- an id without a row, and the arms of a `match` on the handler of a message's row
pub unlisted : (a : Asked) (v : List ℕ) (id seq : ℕ) (d : List ℕ) {o : Option Layout} → o ≡ None → o ≡ layout_of id
    → judgement (refuse a.mode ENOSYS) 0 ≡ by_tests a v id seq d
unfolding by_row
unlisted a v id seq d is e = by_row_lem a v None id seq d (sym is ∙ e)

module _ (a : Asked) (id : ℕ) (row : Layout) (d : List ℕ) {o : Option Layout} {b : Bool} (is : o ≡ Some row) (e : o ≡ layout_of id) (p : b ≡ passes_row a row id d) where
  its : Some row ≡ layout_of id
  its = sym is ∙ e

  -- data of the fixed size that a message's row says is its own part of that length
  pub part : (h : Handler) (n : ℕ) {k : ReplyKind} {g : Handler} → layout_of (id_of h) ≡ message_row (Exactly n) k g → row.handler ≡ h → b ≡ true
      → (n ≡ length (take n d)) × (take n d ≡ d)
  unfolding size_fits passes_row
  part h n fixed g z =
      let own : id_of h ≡ id = ap id_of (sym g) ∙ eqb-true _ _ (and_r (leb 1 id && leb id 16) (eqb (id_of row.handler) id) (right id (Some row) its)) in
      let fits : size_fits row.size d ≡ true = and_r (not (not (replies_on a.mode) && carries_data row.reply)) _ (and_r (allows_command a.settings id) _ (sym p ∙ z)) in
      let size : length d ≡ n = eqb-true (length d) n (ap (λ o. data_fits o d) (sym fixed ∙ ap layout_of own ∙ sym its) ∙ fits) in
      let whole : take n d ≡ d = take_all n d (omega arith) in
      (sym (ap length whole ∙ size), whole)

  module _ (v : List ℕ) (seq : ℕ) where
    -- a message that passes gets what its own tests say
    pub taken : {f : Facts} → f ≡ facts_for a v d → (h : Handler) → row.handler ≡ h → b ≡ true
        → row_judgement a.settings f (id_of h) seq d ≡ by_tests a v id seq d
    unfolding by_row
    taken k h g z = ap (λ x. row_judgement a.settings x (id_of h) seq d) k ∙ rw (← by_row_lem a v (Some row) id seq d its, ← p, z, g)

    pub taken-part : {f : Facts} → f ≡ facts_for a v d → (h : Handler) (n : ℕ) {k : ReplyKind} {g : Handler} → layout_of (id_of h) ≡ message_row (Exactly n) k g
        → row.handler ≡ h → b ≡ true → row_judgement a.settings f (id_of h) seq (take n d) ≡ by_tests a v id seq d
    taken-part {f} k h n fixed g z = ap (λ x. row_judgement a.settings f (id_of h) seq x) (part h n fixed g z).1 ∙ taken k h g z

    -- one that does not pass is refused
    pub left : b ≡ false → judgement (refusal a id) 0 ≡ by_tests a v id seq d
    unfolding by_row
    left z = rw (← by_row_lem a v (Some row) id seq d its, ← p, z)
