-- W6: the padding byte that an answer reports is the first that test 6 sees; and what stays. Assumes nothing.
use mathlib.Core.Path.{◌≡◌, refl, sym, ap, ◌∙◌, subst}
use mathlib.Core.Logic.{◌↔◌, ◌⊎◌, inl, inr, ⊎_elim, ◌≢◌}
use Prim.Native.Nat.{ℕ, zero, suc, ◌+◌, ◌*◌, ◌-◌, ◌≤◌, ◌<◌}
use native.Mathlib.Omega.{arith}
use mathlib.Core.List.{List, [], ◌∷◌}
use mathlib.Core.Bool.{Bool, true, false, cond, not, ◌&&◌, So, false≢true, ◌||◌}
use lib.IntN.{ℤ, pos, negsuc}
use lib.ListN.{length, get_or, drop}
use lib.Seq.{get_or-drop}
use lib.Dec.{leb, ltb, eqb}
use borrow.Author.Tests.{eq-eqb, eqb-true, le-leb, leb-true, le-ltb, ltb-false, not-true, not-false}
use Rattle.std.specs.Prelude.{Some, None}
use Rattle.wire.specs.Header.{whole, HeaderRead, header_of}
use Rattle.msrs.specs.Place.{is_msr}
use Rattle.wire.proofs.Laws.{le-or-lt}
use Rattle.kvmi.specs.declared.Facts.{Facts}
use Rattle.kvmi.specs.declared.Change.{Change}
use Rattle.kvmi.specs.declared.Change.TheVariants.{Nothing, SetVmEvent, WritePhysical, QueuePause, SetVcpuEvent, SetCr, SetMsr, SetPages, SetSinglestep, SetReplies, EndWait}
use Rattle.kvmi.specs.declared.ReplyMode.{ReplyMode}
use Rattle.kvmi.specs.declared.ReplyMode.TheVariants.{On, Off, ErrorsOnly}
use Rattle.kvmi.specs.declared.Settings.{Settings}
use Rattle.kvmi.specs.declared.Verdict.{Verdict}
use Rattle.kvmi.specs.declared.Verdict.TheVariants.{Closes, Fails, Does}
use Rattle.kvmi.specs.Bits.{among, every}
use Rattle.kvmi.specs.Limits.{least_out, event_out, state_bytes, page_limit}
use Rattle.kvmi.specs.Codes.{EPERM, ENOENT, EAGAIN, EBUSY, EINVAL, EOPNOTSUPP, ENOSYS, ENOMEM, OK}
use Rattle.kvmi.specs.Settings.{in_range, allows_command, allows_event}
use Rattle.kvmi.specs.Model.{Model}
use Rattle.kvmi.specs.Tables.{is_cr}
use Rattle.kvmi.specs.Message.{layout_of, reply_kind, data_fits, carries_data, vcpu_of, count_of, count_fits, entry_padding, padding_runs, first_padding, names_vcpu, command_of, switches_at, event_of, register_of, gpa_of, size_of, view_of, Entry, entries_of, takes_event}
use Rattle.kvmi.specs.Verdict.{replies_on, is_invalid, is_unready, is_denied, is_unsupported, is_busy, is_absent, loses_errors, change_of, command_verdict_by, command_verdict, verdict, reaches_test6, reported_padding, refuse, takes_access, in_one_page, invalid_by, event_reply_verdict}
use Rattle.kvmi.specs.Batch.{Takes, Batch, next_length, next_of, out_left, goes_on, counted, turn_of, turns_of, batch_by}
use Rattle.kvmi.specs.Event.{offer_fits}
use Rattle.kvmi.specs.Image.{Loaded, loaded, bad_form, forbidden, image, load_image}
use Rattle.kvmi.specs.Call.{awaits_any, Call, message, ready, enter, write_image, after}
use Rattle.store.specs.Words.{field, AWAITED}
use Rattle.session.specs.State.{State, is_closed}
use Rattle.session.specs.Calls.{Told, fresh_of, ready_of}
use Rattle.session.specs.Meaning.{awaited_of, model_of}
use Rattle.message.specs.Message.{facts_in, code_by, answering_of, reporting_of, judged_of, headed_of, message_of}
use Rattle.entry.specs.Entry.{enter_of, entered_of}
use Rattle.page_words.specs.PageWords.{run_entries}
use Rattle.change.specs.Change.{pages_by, change}
use Rattle.image_writer.specs.Write.{stated_vcpus, stated_tables, image_of}
use Rattle.image_reader.specs.Read.{told_loaded, read_of}
use Rattle.batch.specs.Batch.{told_taken, message_takes, batch_of}
use Rattle.stream.specs.Line.{line_of}
use Rattle.replay.specs.Runner.{left_by, passed_of}
use Rattle.laws.proofs.Bool.{test, and_l, and_r, and_i, clash}
use Rattle.laws.proofs.Verdicts.{pick, reply-cases}
use Rattle.laws.proofs.Paddings.{Reports, reported, command-ids}
use Rattle.reply.proofs.Data.{below}
use Rattle.refine.specs.Errors.{HasId, code_headed, code_of, Spared}
use Rattle.history.specs.History.{step_of, after_of, BeganOn}
use Rattle.history.specs.Padding.{Within, PaddingByte, behind_number, behind_switch, behind_vcpu_switch, behind_vcpu_event, before_register, behind_view, in_entry, Reaches, Dirty, ReportsFirst, headed_unreported, message_unreported, IsOther, Padding}
use Rattle.history.proofs.Lists.{after-stands, began-stands}
use Rattle.history.proofs.Errors.{invalid-spares}
use Rattle.history.proofs.Runs.{InRun, InRuns, Rising, AllClean, FirstFound, runs-first}

-- ---- numbers among a few
abbrev Each : (ℕ → Type 0) → List ℕ → Type 0
Each P [] = Unit
Each P (x ∷ xs) = P x × Each P xs

one_of : (P : ℕ → Type 0) (id : ℕ) (l : List ℕ) → So (among id l) → Each P l → P id
one_of P id [] h each = absurd (false≢true h)
one_of P id (x ∷ xs) h each =
    test (eqb id x) (λ e. subst P (sym (eqb-true id x e)) each.0) (λ e. one_of P id xs (rw e at h) each.1)

-- ---- the runs that the test walks are the padding of the layouts
-- entry i of message 13
entry_in : (a n i k : ℕ) → i < n → a + 16 * i ≤ k → k < a + 16 * i + 7 → InRuns (entry_padding a n) k
unfolding entry_padding
entry_in a zero i k h low high = absurd (omega arith)
entry_in a (suc n) zero k h low high = inl (omega arith, omega arith)
entry_in a (suc n) (suc i) k h low high = inr (entry_in (a + 16) n i k (omega arith) (omega arith) (omega arith))

-- which entry it is
pub record Entered (a n k : ℕ) : Type 0 where
  pub entry : ℕ
  pub counted : entry < n
  pub from : a + 16 * entry ≤ k
  pub to : k < a + 16 * entry + 7

entry_of : (a n k : ℕ) → InRuns (entry_padding a n) k → Entered a n k
unfolding entry_padding
entry_of a zero k i = absurd i
entry_of a (suc n) k (inl i) = record { entry = 0; counted = omega arith; from = omega (arith, i.0); to = omega (arith, i.1) }
entry_of a (suc n) k (inr i) =
    let e = entry_of (a + 16) n k i in
    record { entry = suc e.entry; counted = omega (arith, e.counted); from = omega (arith, e.from); to = omega (arith, e.to) }

entries-rise : (lo a n : ℕ) → lo ≤ a → Rising lo (entry_padding a n)
unfolding entry_padding
entries-rise lo a zero h = tt
entries-rise lo a (suc n) h = (h, entries-rise (a + 7) (a + 16) n (omega arith))

runs-rise : (id : ℕ) (d : List ℕ) → Rising 0 (padding_runs id d)
unfolding padding_runs
runs-rise id d =
    let P : List (ℕ × ℕ) → Type 0 = Rising 0 in
    pick P (among id (2 ∷ 3 ∷ 8 ∷ [])) _ _ (λ _. (omega arith, tt))
    (λ _. pick P (among id (5 ∷ 15 ∷ [])) _ _ (λ _. (omega arith, tt))
    (λ _. pick P (among id (9 ∷ 14 ∷ [])) _ _ (λ _. (omega arith, (omega arith, tt)))
    (λ _. pick P (eqb id 10) _ _ (λ _. (omega arith, (omega arith, tt)))
    (λ _. pick P (among id (11 ∷ 12 ∷ [])) _ _ (λ _. (omega arith, (omega arith, tt)))
    (λ _. pick P (eqb id 13) _ _ (λ _. (omega arith, entries-rise 8 17 _ (omega arith)))
    (λ _. pick P (eqb id 16) _ _ (λ _. (omega arith, (omega arith, tt))) (λ _. tt)))))))

-- a padding byte lies in a run
pub record InSome (id : ℕ) (d : List ℕ) (at : ℕ) : Type 0 where
  pub place : ℕ
  pub offset : at ≡ 8 + place
  pub inside : InRuns (padding_runs id d) place

to-runs : (id : ℕ) (d : List ℕ) (at : ℕ) → PaddingByte id d at → InSome id d at
unfolding padding_runs count_fits
to-runs id d at (behind_number h w) =
    let r : InRun (2, 6) (at - 8) = (omega (arith, w.0), omega (arith, w.0, w.1)) in
    record {
      place = at - 8;
      offset = omega (arith, w.0);
      inside = one_of (λ j. InRuns (padding_runs j d) (at - 8)) id (2 ∷ 3 ∷ 8 ∷ 9 ∷ 10 ∷ 11 ∷ 12 ∷ 14 ∷ []) h (inl r, (inl r, (inl r, (inl r, (inl r, (inl r, (inl r, (inl r, tt))))))));
    }
to-runs id d at (behind_switch h w) =
    let r : InRun (3, 5) (at - 8) = (omega (arith, w.0), omega (arith, w.0, w.1)) in
    record { place = at - 8; offset = omega (arith, w.0); inside = one_of (λ j. InRuns (padding_runs j d) (at - 8)) id (5 ∷ 15 ∷ []) h (inl r, (inl r, tt)) }
to-runs id d at (behind_vcpu_switch h w) =
    let r : InRun (9, 7) (at - 8) = (omega (arith, w.0), omega (arith, w.0, w.1)) in
    record { place = at - 8; offset = omega (arith, w.0); inside = one_of (λ j. InRuns (padding_runs j d) (at - 8)) id (9 ∷ 14 ∷ []) h (inr (inl r), (inr (inl r), tt)) }
to-runs id d at (behind_vcpu_event e w) =
    let r : InRun (11, 5) (at - 8) = (omega (arith, w.0), omega (arith, w.0, w.1)) in
    record { place = at - 8; offset = omega (arith, w.0); inside = subst (λ j. InRuns (padding_runs j d) (at - 8)) (sym e) (inr (inl r)) }
to-runs id d at (before_register h w) =
    let r : InRun (9, 3) (at - 8) = (omega (arith, w.0), omega (arith, w.0, w.1)) in
    record { place = at - 8; offset = omega (arith, w.0); inside = one_of (λ j. InRuns (padding_runs j d) (at - 8)) id (11 ∷ 12 ∷ []) h (inr (inl r), (inr (inl r), tt)) }
to-runs id d at (behind_view e w) =
    let r : InRun (4, 4) (at - 8) = (omega (arith, w.0), omega (arith, w.0, w.1)) in
    record { place = at - 8; offset = omega (arith, w.0); inside = subst (λ j. InRuns (padding_runs j d) (at - 8)) (sym e) (inl r) }
to-runs id d at (in_entry e fits i more w) =
    let there : InRuns (entry_padding 17 (count_of d)) (at - 8) = entry_in 17 (count_of d) i (at - 8) more (omega (arith, w.0)) (omega (arith, w.0, w.1)) in
    record {
      place = at - 8;
      offset = omega (arith, w.0);
      inside = subst (λ j. InRuns (padding_runs j d) (at - 8)) (sym e) (inr (rw (count_fits_lem d fits) there));
    }
  where
    count_fits_lem : (d : List ℕ) → length d ≡ 8 + 16 * count_of d → count_fits d ≡ true
    count_fits_lem d h = eq-eqb (length d) (8 + 16 * count_of d) h

-- and what lies in a run is a padding byte, of a command
of-runs : (id : ℕ) (d : List ℕ) (k : ℕ) → id ≤ 15 → InRuns (padding_runs id d) k → PaddingByte id d (8 + k)
unfolding padding_runs count_fits entry_padding
of-runs id d k few =
    let P : List (ℕ × ℕ) → Type 0 = λ rs. InRuns rs k → PaddingByte id d (8 + k) in
    let numbers : List ℕ = 2 ∷ 3 ∷ 8 ∷ 9 ∷ 10 ∷ 11 ∷ 12 ∷ 14 ∷ [] in
    let on : (l : List ℕ) → So (among id l) → Each (λ j. So (among j numbers)) l → So (among id numbers) = λ l e each. one_of (λ j. So (among j numbers)) id l e each in
    pick P (among id (2 ∷ 3 ∷ 8 ∷ [])) _ _
    (λ e. alone 2 6 (λ i. behind_number (on (2 ∷ 3 ∷ 8 ∷ []) e (refl, (refl, (refl, tt)))) (omega (arith, i.0), omega (arith, i.1))))
    (λ _. pick P (among id (5 ∷ 15 ∷ [])) _ _ (λ e. alone 3 5 (λ i. behind_switch e (omega (arith, i.0), omega (arith, i.1))))
    (λ _. pick P (among id (9 ∷ 14 ∷ [])) _ _
    (λ e. both 9 7 (on (9 ∷ 14 ∷ []) e (refl, (refl, tt))) (λ i. behind_vcpu_switch e (omega (arith, i.0), omega (arith, i.1))))
    (λ _. pick P (eqb id 10) _ _
    (λ e. let ten = eqb-true id 10 e in both 11 5 (subst (λ j. So (among j numbers)) (sym ten) refl) (λ i. behind_vcpu_event ten (omega (arith, i.0), omega (arith, i.1))))
    (λ _. pick P (among id (11 ∷ 12 ∷ [])) _ _
    (λ e. both 9 3 (on (11 ∷ 12 ∷ []) e (refl, (refl, tt))) (λ i. before_register e (omega (arith, i.0), omega (arith, i.1))))
    (λ _. pick P (eqb id 13) _ _ (λ e. of-pages (eqb-true id 13 e))
    (λ _. pick P (eqb id 16) _ _ (λ e _. let sixteen = eqb-true id 16 e in absurd (omega (arith, few, sixteen))) (λ _ i. absurd i)))))))
  where
    alone : (a n : ℕ) → (InRun (a, n) k → PaddingByte id d (8 + k)) → InRuns ((a, n) ∷ []) k → PaddingByte id d (8 + k)
    alone a n f (inl i) = f i
    alone a n f (inr i) = absurd i

    both : (b m : ℕ) → So (among id (2 ∷ 3 ∷ 8 ∷ 9 ∷ 10 ∷ 11 ∷ 12 ∷ 14 ∷ [])) → (InRun (b, m) k → PaddingByte id d (8 + k)) → InRuns ((2, 6) ∷ (b, m) ∷ []) k
        → PaddingByte id d (8 + k)
    both b m e g (inl i) = behind_number e (omega (arith, i.0), omega (arith, i.1))
    both b m e g (inr (inl i)) = g i
    both b m e g (inr (inr i)) = absurd i

    size-of : count_fits d ≡ true → length d ≡ 8 + 16 * count_of d
    size-of h = eqb-true (length d) (8 + 16 * count_of d) h

    entries : (b : Bool) → count_fits d ≡ b → id ≡ 13 → InRuns (entry_padding 17 (cond b (count_of d) 0)) k → PaddingByte id d (8 + k)
    entries true fits e i = let x = entry_of 17 (count_of d) k i in in_entry e (size-of fits) x.entry x.counted (omega (arith, x.from), omega (arith, x.to))
    entries false fits e i = absurd i

    of-pages : id ≡ 13 → InRuns ((4, 4) ∷ entry_padding 17 (cond (count_fits d) (count_of d) 0)) k → PaddingByte id d (8 + k)
    of-pages e (inl i) = behind_view e (omega (arith, i.0), omega (arith, i.1))
    of-pages e (inr i) = entries (count_fits d) refl e i

-- ---- test 6 is reached
abbrev agree : Bool → Bool → Bool
agree a b = cond a b (not b)

agree-eq : (a b : Bool) → agree a b ≡ true → a ≡ b
agree-eq true true h = refl
agree-eq true false h = absurd (false≢true h)
agree-eq false true h = absurd (false≢true h)
agree-eq false false h = refl

-- "id 1, 4, 6 or 8" are the commands whose replies carry data
data-kind : (id : ℕ) → id ≤ 15 → carries_data (reply_kind (layout_of id)) ≡ among id (1 ∷ 4 ∷ 6 ∷ 8 ∷ [])
unfolding layout_of
data-kind id h = agree-eq _ _ (below (λ k. agree (carries_data (reply_kind (layout_of k))) (among k (1 ∷ 4 ∷ 6 ∷ 8 ∷ []))) 16 id refl (omega arith))

answers : (mode : ReplyMode) (b : Bool) → (mode ≡ On) ⊎ (b ≡ false) → not (not (replies_on mode) && b) ≡ true
answers On b h = refl
answers Off b (inl e) = absurd (false≢true (ap replies_on e))
answers Off b (inr e) = ap not e
answers ErrorsOnly b (inl e) = absurd (false≢true (ap replies_on e))
answers ErrorsOnly b (inr e) = ap not e

answered : (mode : ReplyMode) (b : Bool) → not (not (replies_on mode) && b) ≡ true → (mode ≡ On) ⊎ (b ≡ false)
answered On b h = inl refl
answered Off b h = inr (not-true b h)
answered ErrorsOnly b h = inr (not-true b h)

pausing : (id : ℕ) (b : Bool) → (id ≡ 9 → So b) → not (eqb id 9 && not b) ≡ true
pausing id b h = test (eqb id 9) (λ e. let on = h (eqb-true id 9 e) in rw (e, on)) (λ e. rw e)

paused : (id : ℕ) (b : Bool) → not (eqb id 9 && not b) ≡ true → id ≡ 9 → So b
paused id true h e = refl
paused id false h e = absurd (false≢true (rw (eq-eqb id 9 e) at h))

module _ (s : Settings) (m : Model) (id : ℕ) (msg out : List ℕ) where
  reaches-test : Reaches s m id msg out → reaches_test6 s m.mode id (drop 8 msg) ≡ true
  unfolding reaches_test6
  reaches-test r =
      and_i _ _
      (and_i _ _
      (and_i _ _ (and_i _ _ (and_i _ _ (le-leb 1 id r.command.0) (le-leb id 15 r.command.1)) r.allowed)
      (answers m.mode _ (⊎_elim (λ e. inl e) (λ e. inr (data-kind id r.command.1 ∙ e)) r.answerable)))
      r.size)
      (pausing id (allows_event s 2) r.pauses)

  test-reaches : m.closed ≡ false → least_out ≤ length out → HasId msg id → reaches_test6 s m.mode id (drop 8 msg) ≡ true → Reaches s m id msg out
  unfolding reaches_test6
  test-reaches opened room header h =
      let ids = leb 1 id && leb id 15 in
      let replies = not (not (replies_on m.mode) && carries_data (reply_kind (layout_of id))) in
      let sizes = data_fits (layout_of id) (drop 8 msg) in
      let four = and_l (((ids && allows_command s id) && replies) && sizes) _ h in
      let three = and_l ((ids && allows_command s id) && replies) sizes four in
      let two = and_l (ids && allows_command s id) replies three in
      let known = and_l ids (allows_command s id) two in
      let few = leb-true id 15 (and_r (leb 1 id) (leb id 15) known) in
      record {
        opened = opened;
        room = room;
        header = header;
        command = (leb-true 1 id (and_l (leb 1 id) (leb id 15) known), few);
        allowed = and_r ids (allows_command s id) two;
        answerable = ⊎_elim (λ e. inl e) (λ e. inr (sym (data-kind id few) ∙ e)) (answered m.mode _ (and_r (ids && allows_command s id) replies three));
        size = and_r ((ids && allows_command s id) && replies) sizes four;
        pauses = paused id (allows_event s 2) (and_r (((ids && allows_command s id) && replies) && sizes) _ h);
      }

-- ---- what is reported is the first
abbrev id_of_header : HeaderRead → ℕ
id_of_header (Some h) = h.id
id_of_header None = 0

abbrev is_whole_header : HeaderRead → Bool
is_whole_header (Some h) = true
is_whole_header None = false

module _ (s : Settings) (m : Model) (msg out : List ℕ) where
  none_first : (p : ℕ) → p ≡ 0 → ((at : ℕ) → Dirty s m msg out at → ⊥) → ReportsFirst s m msg out p
  none_first p e never =
      record {
        exactly = (λ n. absurd (n e), λ x _. never x.0 x.1);
        itself = λ n. absurd (n e);
        first = λ at x. absurd (never at x);
      }

  one-first : (p : ℕ) → p ≢ 0 → Dirty s m msg out p → ((at : ℕ) → Dirty s m msg out at → p ≤ at) → ReportsFirst s m msg out p
  one-first p n x least = record { exactly = (λ _. (p, x), λ _. n); itself = λ _. x; first = least }

  -- test 6 looks at the padding of the message that came
  same_id : (id size seq at : ℕ) → header_of msg ≡ whole id size seq → (x : Dirty s m msg out at) → x.0 ≡ id
  same_id id size seq at w (i, r, b, n) = ap id_of_header (sym r.header.2 ∙ w)

  headed-first : m.closed ≡ false → least_out ≤ length out → (id size seq : ℕ) → header_of msg ≡ whole id size seq
      → ReportsFirst s m msg out (reported_padding s m.mode id (drop 8 msg))
  unfolding reported_padding first_padding
  headed-first opened room id size seq w =
      let d = drop 8 msg in
      test (reaches_test6 s m.mode id d)
      (λ e. rw e
      (let reach = test-reaches s m id msg out opened room (size, seq, w) e in
      let byte : (k : ℕ) → get_or d k 0 ≡ get_or msg (8 + k) 0 = λ k. get_or-drop 8 msg k 0 in
      let in-runs : (at : ℕ) → Dirty s m msg out at → InSome id d at × (get_or msg at 0 ≢ 0) = λ at x. (
        subst (λ (i : ℕ). InSome i d at) (same_id id size seq at w x) (to-runs x.0 d at x.2),
        x.3,
      ) in
      ⊎_elim
      (λ (a : AllClean d (padding_runs id d)). none_first _ a.gives
      (λ at x. let (i, n) = in-runs at x in n (ap (λ (k : ℕ). get_or msg k 0) i.offset ∙ sym (byte i.place) ∙ a.zeros i.place i.inside)))
      (λ (f : FirstFound d (padding_runs id d)).
      let there : Dirty s m msg out (8 + f.place) = (id, reach, of-runs id d f.place reach.command.1 f.inside, λ z. f.other (byte f.place ∙ z)) in
      rw f.gives
      (one-first (8 + f.place) (λ z. omega (arith, z)) there
      (λ at x.
      let (i, n) = in-runs at x in
      ⊎_elim (λ g. let at-is = i.offset in omega (arith, g, at-is))
      (λ g. absurd (n (ap (λ (k : ℕ). get_or msg k 0) i.offset ∙ sym (byte i.place) ∙ f.zeros i.place i.inside g)))
      (le-or-lt f.place i.place))))
      (runs-first d 0 (padding_runs id d) (runs-rise id d))))
      (λ e. rw e
      (none_first 0 refl
      (λ at x.
      let reach = subst (λ (i : ℕ). Reaches s m i msg out) (same_id id size seq at w x) x.1 in
      clash (reaches-test s m id msg out reach) e)))

-- of any session
module _ (st : State) (msg out guest : List ℕ) where
  abbrev cfg : Settings
  cfg = st.session.settings

  abbrev First : Told → Type 0
  First r = ReportsFirst cfg (model_of st) msg out r.answer.padding

  message-first : First (message_of st msg out guest)
  unfolding message_of headed_of
  message-first =
      pick First (is_closed st) _ _ (λ c. none_first cfg (model_of st) msg out 0 refl (λ at x. clash c x.1.opened))
      (λ o. pick First (ltb (length out) least_out) _ _ (λ h. none_first cfg (model_of st) msg out 0 refl (λ at x. clash h (le-ltb (length out) least_out x.1.room)))
      (λ h. by (header_of msg) refl o (ltb-false (length out) least_out h)))
    where
      by : (h : HeaderRead) → header_of msg ≡ h → is_closed st ≡ false → least_out ≤ length out → First (headed_of st (drop 8 msg) out guest h)
      by None w o l = none_first cfg (model_of st) msg out 0 refl (λ at x. clash (ap is_whole_header x.1.header.2) (ap is_whole_header w))
      by (Some h) w o l = headed-first cfg (model_of st) msg out o l h.id h.size h.seq w

  -- a byte is reported with -22 alone
  abbrev Told-with : Told → ℤ → Type 0
  Told-with r code = r.answer.padding ≢ 0 → (code ≡ EINVAL) × (r.answer.number ≡ 0)

  on_both : (b : Bool) (x y : Told) (c e : ℤ) → Told-with x c → Told-with y e → Told-with (cond b x y) (cond b c e)
  on_both true x y c e f g = f
  on_both false x y c e f g = g

  judged-with : (id seq : ℕ) (d : List ℕ) (p : ℕ) (v : Verdict) → Reports p v → Told-with (reporting_of p (judged_of st id seq d out guest v)) (code_by st guest d v)
  unfolding judged_of answering_of
  judged-with id seq d p Closes r n = absurd (n r)
  judged-with id seq d p (Fails code) r n = ⊎_elim (λ e. absurd (n e)) (λ e. (e, refl)) r
  judged-with id seq d p (Does c) r n = absurd (n r)

  headed-with : (h : HeaderRead) → Told-with (headed_of st (drop 8 msg) out guest h) (code_headed st guest (drop 8 msg) h)
  unfolding headed_of
  headed-with None = λ n. absurd (n refl)
  headed-with (Some h) =
      let d = drop 8 msg in
      let f = facts_in st (length guest) (vcpu_of d) in
      judged-with h.id h.seq d _ (verdict cfg f h.id h.seq d) (reported cfg f h.id d h.seq)

  message-with : Told-with (message_of st msg out guest) (code_of st msg out guest)
  unfolding message_of
  message-with =
      on_both (is_closed st) _ _ _ _ (λ n. absurd (n refl))
      (on_both (ltb (length out) least_out) _ _ _ _ (λ n. absurd (n refl)) (headed-with (header_of msg)))

  invalid-told : (message_of st msg out guest).answer.padding ≢ 0
      → (code_of st msg out guest ≡ EINVAL) × ((message_of st msg out guest).answer.number ≡ 0) × Spared st guest (message_of st msg out guest)
  invalid-told n = let (code, number) = message-with n in (code, number, invalid-spares st msg out guest code)

-- ---- of every -22 it is told
-- a code as the number that is negated
abbrev negated_of : ℤ → ℕ
negated_of (pos n) = 0
negated_of (negsuc n) = suc n

abbrev failed_with : Verdict → ℕ
failed_with Closes = 0
failed_with (Fails code) = negated_of code
failed_with (Does c) = 0

-- -22 is test 6's alone
invalid-reaches : (s : Settings) (f : Facts) (id seq : ℕ) (d : List ℕ) → verdict s f id seq d ≡ Fails EINVAL → reaches_test6 s f.mode id d ≡ true
unfolding verdict event_reply_verdict reaches_test6
invalid-reaches s f id seq d =
    let P : Verdict → Type 0 = λ v. v ≡ Fails EINVAL → reaches_test6 s f.mode id d ≡ true in
    let other : (v : Verdict) → failed_with v ≢ 22 → P v = λ v n e. absurd (n (ap failed_with e)) in
    let closes : P Closes = other Closes (λ z. omega (arith, z)) in
    let refused : (code : ℤ) → negated_of code ≢ 22 → P (refuse f.mode code) = λ code n. pick P (replies_on f.mode) (Fails code) Closes (λ _. other (Fails code) n) (λ _. closes) in
    pick P (not (leb 1 id && leb id 16)) _ _ (λ _. refused ENOSYS (λ z. omega (arith, z)))
    (λ known. pick P (not (allows_command s id)) _ _ (λ _. refused EPERM (λ z. omega (arith, z)))
    (λ permitted. pick P (not (replies_on f.mode) && carries_data (reply_kind (layout_of id))) _ _ (λ _. closes)
    (λ answerable. pick P (not (data_fits (layout_of id) d)) _ _ (λ _. closes)
    (λ size. pick P (eqb id 16) _ _
    (λ _. reply-cases P f.pending.awaited f.guest seq d closes (λ a w h. other _ (λ z. omega (arith, z))))
    (λ command. pick P (eqb id 9 && not (allows_event s 2)) _ _ (λ _. closes)
    (λ pauses _.
    let ids : (leb 1 id && leb id 15) ≡ true = command-ids id ∙ rw (not-false (leb 1 id && leb id 16) known, command) in
    and_i _ _ (and_i _ _ (and_i _ _ (and_i _ _ ids (not-false _ permitted)) (ap not answerable)) (not-false (data_fits (layout_of id) d) size)) (ap not pauses)))))))

module _ (st : State) (msg out guest : List ℕ) where
  changed-with : (c : Change) → negated_of (change st guest (drop 8 msg) c).code ≢ 22
  unfolding change
  changed-with Nothing e = absurd (omega (arith, e))
  changed-with (SetVmEvent on event) e = absurd (omega (arith, e))
  changed-with (WritePhysical gpa) e = absurd (omega (arith, e))
  changed-with (QueuePause wait vcpu) e = absurd (omega (arith, e))
  changed-with (SetVcpuEvent on vcpu event) e = absurd (omega (arith, e))
  changed-with (SetCr on vcpu cr) e = absurd (omega (arith, e))
  changed-with (SetMsr on vcpu msr) e = absurd (omega (arith, e))
  changed-with (SetPages view count) e = by (pages_by st.session.settings st.pages st.session.tool.pages (run_entries page_limit view (entries_of count (drop 8 (drop 8 msg))) st.pages st.session.tool.pages)).skipped e
    where
      by : (b : Bool) → negated_of (cond b ENOMEM OK) ≢ 22
      by true e = absurd (omega (arith, e))
      by false e = absurd (omega (arith, e))
  changed-with (SetSinglestep on vcpu) e = absurd (omega (arith, e))
  changed-with (SetReplies now mode) e = absurd (omega (arith, e))
  changed-with (EndWait resumes vcpu action value feed) e = absurd (omega (arith, e))

  judged-reaches : (id seq : ℕ) (v : Verdict) → verdict st.session.settings (facts_in st (length guest) (vcpu_of (drop 8 msg))) id seq (drop 8 msg) ≡ v
      → code_by st guest (drop 8 msg) v ≡ EINVAL → reaches_test6 st.session.settings (model_of st).mode id (drop 8 msg) ≡ true
  judged-reaches id seq Closes e h = let no = ap negated_of h in absurd (omega (arith, no))
  judged-reaches id seq (Fails code) e h = invalid-reaches st.session.settings (facts_in st (length guest) (vcpu_of (drop 8 msg))) id seq (drop 8 msg) (e ∙ ap Fails h)
  judged-reaches id seq (Does c) e h = absurd (changed-with c (ap negated_of h))

  message-told : code_of st msg out guest ≡ EINVAL → (id at : ℕ) → HasId msg id → PaddingByte id (drop 8 msg) at → get_or msg at 0 ≢ 0
      → (message_of st msg out guest).answer.padding ≢ 0
  message-told code id at (size, seq, w) byte other =
      test (is_closed st) (λ c. let no = ap negated_of (rw c at code) in absurd (omega (arith, no)))
      (λ o. test (ltb (length out) least_out) (λ l. let no = ap negated_of (rw (o, l) at code) in absurd (omega (arith, no)))
      (λ l.
      let judged = rw (o, l, w) at code in
      let reaches = test-reaches st.session.settings (model_of st) id msg out o (ltb-false (length out) least_out l) (size, seq, w) (judged-reaches id seq _ refl judged) in
      (message-first st msg out guest).exactly.1 (at, (id, reaches, byte, other))))

-- ---- what stays
abbrev Stays : Told → Told → Type 0
Stays r q = r ≡ reporting_of r.answer.padding q

either_stays : (b : Bool) (x y v w : Told) → Stays x v → Stays y w → Stays (cond b x y) (cond b v w)
either_stays true x y v w f g = f
either_stays false x y v w f g = g

message-stays : (st : State) (msg out guest : List ℕ) → Stays (message_of st msg out guest) (message_unreported st msg out guest)
unfolding message_of headed_of
message-stays st msg out guest =
    either_stays (is_closed st) _ _ _ _ refl (either_stays (ltb (length out) least_out) _ _ _ _ refl (by (header_of msg)))
  where
    by : (h : HeaderRead) → Stays (headed_of st (drop 8 msg) out guest h) (headed_unreported st (drop 8 msg) out guest h)
    by None = refl
    by (Some h) = refl

tests-stay : (s : Settings) (f : Facts) (id : ℕ) (d : List ℕ)
    → command_verdict s f id d
    ≡ cond (is_invalid s id d) (Fails EINVAL)
    (cond (is_unready f id) (Fails EAGAIN)
    (cond (is_denied s id d) (Fails EPERM)
    (cond (is_unsupported s id d) (Fails EOPNOTSUPP)
    (cond (is_busy s f id d) (Fails EBUSY)
    (cond (is_absent f id d) (Fails ENOENT)
    (cond (loses_errors s id d) Closes (Does (change_of id d))))))))
unfolding command_verdict command_verdict_by is_invalid
tests-stay s f id d = refl

causes-stay : (s : Settings) (id : ℕ) (d : List ℕ)
    → is_invalid s id d
    ≡ (not (eqb (first_padding id d) 0)
    || names_vcpu id && leb s.vcpus (vcpu_of d)
    || not (every (λ at. leb (get_or d at 0) 1) (switches_at id))
    || among id (3 ∷ 5 ∷ 10 ∷ []) && not (takes_event id (event_of id d))
    || eqb id 2 && not (leb 1 (command_of d) && leb (command_of d) 15)
    || eqb id 11 && not (is_cr (register_of d))
    || eqb id 12 && not (is_msr (register_of d))
    || eqb id 13 && leb s.views (view_of d)
    || eqb id 13 && not (count_fits d && every (λ (e : Entry). takes_access s e.access) (entries_of (count_of d) (drop 8 d)))
    || among id (6 ∷ 7 ∷ []) && not (in_one_page (gpa_of d) (size_of d)))
unfolding is_invalid invalid_by
causes-stay s id d = refl

-- a batch reads nothing that is reported
abbrev plain_takes : Takes State
plain_takes st msg out guest = told_taken (message_unreported st msg out guest)

turn-stays : (input : List ℕ) (b : Batch State) → turn_of message_takes input b ≡ turn_of plain_takes input b
unfolding turn_of
turn-stays input b =
    ap (λ (r : Told). counted b (next_length (drop b.used input)) (told_taken r)) (message-stays b.state (next_of input b) (out_left b) b.guest)

turns-stay : (n : ℕ) (input : List ℕ) (b : Batch State) → turns_of message_takes n input b ≡ turns_of plain_takes n input b
unfolding turns_of
turns-stay zero input b = refl
turns-stay (suc n) input b =
    ap (λ (x : Batch State). cond (goes_on input b) x b)
    (turns-stay n input (turn_of message_takes input b) ∙ ap (turns_of plain_takes n input) (turn-stays input b))

batch-stays : (st : State) (input out signals guest : List ℕ)
    → batch_of st input out signals guest ≡ batch_by (λ s msg o g. told_taken (message_unreported s msg o g)) (is_closed st) st input out signals guest
unfolding batch_of batch_by
batch-stays st input out signals guest = turns-stay (length input) input _

-- ---- the other calls report nothing
pub record Silent (r : Told) : Type 0 where
  pub silent : r.answer.padding ≡ 0

silently : {r : Told} → r.answer.padding ≡ 0 → Silent r
silently e = record { silent = e }

others-silent : (st : State) (c : Call) → IsOther c → Silent (step_of st c)
unfolding step_of ready_of enter_of entered_of image_of
others-silent st (message msg out guest) h = absurd (h msg out guest refl)
others-silent st (ready vcpu) h =
    pick Silent (is_closed st) _ _ (λ _. silently refl) (λ _. pick Silent (leb st.session.settings.vcpus vcpu) _ _ (λ _. silently refl) (λ _. silently refl))
others-silent st (enter vcpu block event own out) h =
    pick Silent (is_closed st) _ _ (λ _. silently refl)
    (λ _. pick Silent (leb st.session.settings.vcpus vcpu) _ _ (λ _. silently refl)
    (λ _. pick Silent (not (eqb (length block) state_bytes && offer_fits event own)) _ _ (λ _. silently refl)
    (λ _. pick Silent (ltb (length out) event_out) _ _ (λ _. silently refl)
    (λ _. pick Silent (not (eqb (field st.vcpus vcpu AWAITED) 0)) _ _ (λ _. silently refl) (λ _. silently refl)))))
others-silent st (write_image out) h =
    pick Silent (is_closed st) _ _ (λ _. silently refl)
    (λ _. pick Silent (awaits_any (awaited_of st.vcpus 0 (stated_vcpus st))) _ _ (λ _. silently refl)
    (λ _. pick Silent (ltb (length out) (length (image (stated_tables st)))) _ _ (λ _. silently refl) (λ _. silently refl)))

fresh-silent : (s : Settings) (vcpus pages : List ℕ) → Silent (fresh_of s vcpus pages)
unfolding fresh_of
fresh-silent s vcpus pages = pick Silent (in_range s) _ _ (λ _. silently refl) (λ _. silently refl)

loaded-silent : (s : Settings) (l vcpus pages : List ℕ) → Silent (read_of s l vcpus pages)
unfolding read_of told_loaded
loaded-silent s l vcpus pages = pick Silent (in_range s) _ _ (λ _. by (load_image s l)) (λ _. silently refl)
  where
    by : (x : Loaded) → Silent (told_loaded s vcpus pages x)
    by (loaded t) = silently refl
    by (bad_form off) = silently refl
    by (forbidden off) = silently refl

passed-stay : (st : State) (msg out guest : List ℕ) → passed_of st msg out guest ≡ left_by msg (message_unreported st msg out guest)
unfolding passed_of line_of
passed-stay st msg out guest = ap (left_by msg) (message-stays st msg out guest)

-- ---- and of the book, after every list of calls
book-first : (s : Settings) (st : State) (m : Model) → BeganOn s st m → (cs : List Call) (msg out guest : List ℕ)
    → ReportsFirst s (after s m cs) msg out (step_of (after_of st cs) (message msg out guest)).answer.padding
unfolding step_of
book-first s st m began cs msg out guest =
    let stands = after-stands s st m cs (began-stands s st m began) in
    let p = (message_of (after_of st cs) msg out guest).answer.padding in
    subst (λ (x : Settings). ReportsFirst x (after s m cs) msg out p) stands.settings
    (subst (λ (x : Model). ReportsFirst (after_of st cs).session.settings x msg out p) stands.model (message-first (after_of st cs) msg out guest))

pub padding-told : Padding
padding-told =
    record {
      reported = message-first;
      booked = book-first;
      invalid = invalid-told;
      told = message-told;
      others = λ st c h. (others-silent st c h).silent;
      fresh = λ s vcpus pages. (fresh-silent s vcpus pages).silent;
      loaded = λ s l vcpus pages. (loaded-silent s l vcpus pages).silent;
      stays = message-stays;
      tested = tests-stay;
      causes = causes-stay;
      batched = batch-stays;
      passed = passed-stay;
    }
