-- What the revision decides, and what it does not. Assumes nothing.
use mathlib.Core.Path.{◌≡◌, refl, sym, ap, ◌∙◌, subst}
use mathlib.Core.Logic.{inl, inr}
use Prim.Native.Nat.{ℕ, zero, suc, ◌+◌}
use mathlib.Core.List.{List, [], ◌∷◌, ◌++◌}
use mathlib.Core.Bool.{Bool, true, false, cond, not, ◌&&◌, So, false≢true}
use lib.IntN.{ℤ}
use lib.ListN.{length, drop}
use lib.Dec.{ltb, leb, eqb}
use native.Mathlib.Omega.{arith}
use borrow.Author.Tests.{eqb-true, eqb-false, ne_eqb}
use Rattle.std.specs.Prelude.{Some, None}
use Rattle.wire.specs.Bytes.{le, store}
use Rattle.wire.specs.Code.{twos, code_bytes}
use Rattle.wire.specs.Header.{whole as whole_header, HeaderRead, header_of}
use Rattle.kvmi.specs.declared.Awaited.{Awaited}
use Rattle.kvmi.specs.declared.Settings.{Settings}
use Rattle.kvmi.specs.declared.Facts.{Facts}
use Rattle.kvmi.specs.declared.ReplyMode.{ReplyMode}
use Rattle.kvmi.specs.declared.ReplyMode.TheVariants.{On, Off, ErrorsOnly}
use Rattle.kvmi.specs.declared.Signal.{Signal}
use Rattle.kvmi.specs.declared.Signal.TheVariants.{Quiet}
use Rattle.kvmi.specs.declared.Change.{Change}
use Rattle.kvmi.specs.declared.Change.TheVariants.{Nothing, SetVmEvent, WritePhysical, QueuePause, SetVcpuEvent, SetCr, SetMsr, SetPages, SetSinglestep, SetReplies, EndWait}
use Rattle.kvmi.specs.declared.Verdict.{Verdict}
use Rattle.kvmi.specs.declared.Verdict.TheVariants.{Closes, Fails, Does}
use Rattle.kvmi.specs.Limits.{page_limit, least_out, event_out, state_bytes}
use Rattle.kvmi.specs.Codes.{OK, ENOMEM, is_error}
use Rattle.kvmi.specs.Settings.{in_range, allows_command, allows_event, can_singlestep, uncatchable, held_by_host, has_execute_only, all_or_nothing}
use Rattle.kvmi.specs.Tables.{Tables}
use Rattle.kvmi.specs.Mode.{mode_of_number}
use Rattle.kvmi.specs.Message.{layout_of, vcpu_of, count_of, view_of, entries_of}
use Rattle.kvmi.specs.Change.{signal_of, mode_for}
use Rattle.kvmi.specs.Answer.{with_padding}
use Rattle.kvmi.specs.Event.{offer_fits}
use Rattle.kvmi.specs.Reply.{message_bytes, reply_bytes, reply_data, answer_bytes, answer_of, answer_seq}
use Rattle.kvmi.specs.Verdict.{takes_access, invalid_by, is_invalid, is_denied, is_unsupported, is_busy, loses_errors, change_of, command_verdict_by, command_verdict, event_reply_verdict, verdict, reaches_test6, reported_padding}
use Rattle.kvmi.specs.Record.{VM, VC, MS, PA, EN, vm_version, vm_count, vm_events, Rec, cut, whole, size, order_of, parse}
use Rattle.kvmi.specs.Image.{Loaded, loaded, bad_form, forbidden, vm_form, vm_may, may_enable, vc_may, pa_may, may_of, judge, fits_in, with_record, image, stated, load_rest, load_records, load_image}
use Rattle.kvmi.specs.Call.{Call, message, ready, enter, write_image, awaits_any}
use Rattle.page_words.specs.PageWords.{PageTable, page_table, run_entries}
use Rattle.store.specs.Words.{field, AWAITED}
use Rattle.session.specs.State.{State, state, with_seq_of, is_closed}
use Rattle.session.specs.Meaning.{awaited_of}
use Rattle.session.specs.Calls.{Told, told_same, told_written, fresh_of, ready_of}
use Rattle.change.specs.Change.{StateChanged, changed_pages, pages_by, change}
use Rattle.message.specs.Message.{facts_in, code_by, answering_of, judged_of, reported_of, reporting_of, headed_of, message_of}
use Rattle.entry.specs.Entry.{Sent, sent_of, told_sent, entered_of, enter_of}
use Rattle.image_reader.specs.Read.{loaded_state, told_loaded, read_of}
use Rattle.image_writer.specs.Write.{stated_vcpus, stated_tables, image_of}
use Rattle.refine.specs.Errors.{HasId, code_headed, code_of, Spared, ErrorSpares}
use Rattle.refine.proofs.Theorems.{error-spares}
use Rattle.laws.proofs.Bool.{test}
use Rattle.laws.proofs.Verdicts.{pick, ending, verdict-cases}
use Rattle.change.proofs.Laws.{run-whole}
use Rattle.history.specs.History.{step_of, after_of}
use Rattle.history.specs.Revisions.{with_revision, revised_state, revised_told, skips, IsAnother, Untouched, WithoutPages, done, next, SameBytes, VersionBytes, Revisions}

-- ---- the tests ask nothing of the revision
verdict-alike : (revision : ℕ) (s : Settings) (f : Facts) (id seq : ℕ) (d : List ℕ) → verdict (with_revision revision s) f id seq d ≡ verdict s f id seq d
unfolding allows_command allows_event can_singlestep uncatchable held_by_host has_execute_only takes_access invalid_by is_invalid is_denied is_unsupported is_busy loses_errors command_verdict_by command_verdict verdict
verdict-alike revision s f id seq d = refl

reported-alike : (revision : ℕ) (s : Settings) (mode : ReplyMode) (id : ℕ) (d : List ℕ) → reported_padding (with_revision revision s) mode id d ≡ reported_padding s mode id d
unfolding allows_command allows_event reaches_test6 reported_padding
reported-alike revision s mode id d = refl

-- the id of a header, 0 where there is none
abbrev id_of : HeaderRead → ℕ
id_of None = 0
id_of (Some h) = h.id

abbrev is_broken : HeaderRead → Bool
is_broken None = true
is_broken (Some h) = false

broken-whole : {id size seq : ℕ} → None ≡ whole_header id size seq → ⊥
broken-whole e = false≢true (sym (ap is_broken e))

-- a test with the same outcome on both sides
both : (Q : Told → Told → Type 0) (b : Bool) {x y z w : Told} → Q x z → Q y w → Q (cond b x y) (cond b z w)
both Q true h g = h
both Q false h g = g

by-skip : (s : Settings) (pages : List ℕ) (used : ℕ) (t : PageTable) → (pages_by s pages used t).skipped ≡ t.skipped
unfolding pages_by
by-skip s pages used t = go (all_or_nothing s) t.skipped refl
  where
    go : (whole skipped : Bool) → t.skipped ≡ skipped → (cond (whole && skipped) (page_table pages used true) t).skipped ≡ t.skipped
    go true true e = sym e
    go true false e = refl
    go false skipped e = refl

module _ (revision : ℕ) (st : State) where
  abbrev other : State
  other = revised_state revision st

  abbrev s : Settings
  s = st.session.settings

  -- what a call gives and leaves is the same but for the revision
  abbrev Same : Told → Told → Type 0
  Same r q = r ≡ revised_told revision q

  -- ---- changes
  abbrev alike : StateChanged → StateChanged
  alike r = record { state = revised_state revision r.state; guest = r.guest; code = r.code }

  module _ (guest d : List ℕ) where
    abbrev used : ℕ
    used = st.session.tool.pages

    abbrev run : ℕ → ℕ → PageTable
    run view n = run_entries page_limit view (entries_of n (drop 8 d)) st.pages used

    abbrev Alike : Change → Type 0
    Alike c = change other guest d c ≡ alike (change st guest d c)

    pages-alike : (view n : ℕ) → (run view n).skipped ≡ false → Alike (SetPages view n)
    unfolding change
    pages-alike view n k =
        ap (changed_pages other guest) (run-whole (with_revision revision s) st.pages used view n d k)
        ∙ sym (ap (λ (t : PageTable). alike (changed_pages st guest t)) (run-whole s st.pages used view n d k))

    change-alike : (id : ℕ) → (id ≡ 13 → ⊥) → Alike (change_of id d)
    unfolding change_of change
    change-alike id another =
        pick Alike (eqb id 5) _ _ (λ _. refl)
        (λ _. pick Alike (eqb id 7) _ _ (λ _. refl)
        (λ _. pick Alike (eqb id 9) _ _ (λ _. refl)
        (λ _. pick Alike (eqb id 10) _ _ (λ _. refl)
        (λ _. pick Alike (eqb id 11) _ _ (λ _. refl)
        (λ _. pick Alike (eqb id 12) _ _ (λ _. refl)
        (λ _. pick Alike (eqb id 13) _ _ (λ e. absurd (another (eqb-true id 13 e)))
        (λ _. pick Alike (eqb id 14) _ _ (λ _. refl)
        (λ _. pick Alike (eqb id 15) _ _ (λ _. refl) (λ _. refl)))))))))

    -- an entry is skipped in both or in neither, and so the code is the same
    pages-code : (view n : ℕ) → (change other guest d (SetPages view n)).code ≡ (change st guest d (SetPages view n)).code
    unfolding change
    pages-code view n =
        ap (λ (k : Bool). cond k ENOMEM OK) (by-skip (with_revision revision s) st.pages used (run view n) ∙ sym (by-skip s st.pages used (run view n)))

    code_alike : (id : ℕ) → (change other guest d (change_of id d)).code ≡ (change st guest d (change_of id d)).code
    unfolding change_of
    code_alike id =
        test (eqb id 13)
        (λ e. subst (λ (n : ℕ). (change other guest d (change_of n d)).code ≡ (change st guest d (change_of n d)).code) (sym (eqb-true id 13 e)) thirteen)
        (λ e. ap (λ (r : StateChanged). r.code) (change-alike id (eqb-false id 13 e)))
      where
        thirteen : (change other guest d (change_of 13 d)).code ≡ (change st guest d (change_of 13 d)).code
        thirteen = pages-code (view_of d) (count_of d)

    end-alike : (a : Awaited) (n : ℕ) → Alike (ending a n d)
    unfolding change
    end-alike a n = refl

  -- ---- answers
  answering-alike : (x : State) (mode : ReplyMode) (id seq : ℕ) (code : ℤ) (d : List ℕ) (g : Signal) (out guest : List ℕ) → eqb id 1 ≡ false
      → Same (answering_of mode id seq code d g out guest (revised_state revision x)) (answering_of mode id seq code d g out guest x)
  unfolding answering_of reply_data
  answering-alike x mode id seq code d g out guest e = rw e

  does-alike : (id seq : ℕ) (d out guest : List ℕ) (c : Change) → eqb id 1 ≡ false → Alike guest d c
      → Same (judged_of other id seq d out guest (Does c)) (judged_of st id seq d out guest (Does c))
  unfolding judged_of
  does-alike id seq d out guest c one p =
      let mode = mode_for (mode_of_number st.session.tool.mode) c in
      ap (λ (r : StateChanged). answering_of mode id seq r.code d (signal_of c) out r.guest r.state) p
      ∙ answering-alike (change st guest d c).state mode id seq (change st guest d c).code d (signal_of c) out (change st guest d c).guest one

  fails-alike : (id seq : ℕ) (d out guest : List ℕ) (code : ℤ) → eqb id 1 ≡ false
      → Same (judged_of other id seq d out guest (Fails code)) (judged_of st id seq d out guest (Fails code))
  unfolding judged_of
  fails-alike id seq d out guest code one = answering-alike st (mode_of_number st.session.tool.mode) id seq code d Quiet out guest one

  closes-alike : (id seq : ℕ) (d out guest : List ℕ) → Same (judged_of other id seq d out guest Closes) (judged_of st id seq d out guest Closes)
  unfolding judged_of
  closes-alike id seq d out guest = refl

  -- of message 13 the bytes, by its code
  pages-bytes : (seq : ℕ) (d out guest : List ℕ) (view n : ℕ) → SameBytes (judged_of other 13 seq d out guest (Does (SetPages view n))) (judged_of st 13 seq d out guest (Does (SetPages view n)))
  unfolding judged_of answering_of change reply_data
  pages-bytes seq d out guest view n =
      let p = pages-code guest d view n in
      let mode = mode_of_number st.session.tool.mode in
      record {
        answer = ap (λ (code : ℤ). (answering_of mode 13 seq code d Quiet out guest st).answer) p;
        out = ap (λ (code : ℤ). (answering_of mode 13 seq code d Quiet out guest st).out) p;
        guest = refl;
      }

  -- ---- a message
  -- by its tests, which say the same of both
  module _ (Q : Told → Told → Type 0) (out guest : List ℕ) where
    abbrev Said : ℕ → ℕ → List ℕ → Verdict → Type 0
    Said id seq d v = Q (reporting_of (reported_of st id d) (judged_of other id seq d out guest v)) (reporting_of (reported_of st id d) (judged_of st id seq d out guest v))

    headed-by : (id size seq : ℕ) (d : List ℕ) → Said id seq d (verdict s (facts_in st (length guest) (vcpu_of d)) id seq d)
        → Q (headed_of other d out guest (whole_header id size seq)) (headed_of st d out guest (whole_header id size seq))
    unfolding headed_of
    headed-by id size seq d h =
        let f = facts_in st (length guest) (vcpu_of d) in
        let after = reporting_of (reported_of st id d) (judged_of st id seq d out guest (verdict s f id seq d)) in
        subst (λ (n : ℕ). Q (reporting_of n (judged_of other id seq d out guest (verdict (with_revision revision s) f id seq d))) after) (sym (reported-alike revision s (mode_of_number st.session.tool.mode) id d))
        (subst (λ (v : Verdict). Q (reporting_of (reported_of st id d) (judged_of other id seq d out guest v)) after) (sym (verdict-alike revision s f id seq d)) h)

    message-by : (msg : List ℕ) → Q (told_same 2 other out guest) (told_same 2 st out guest) → Q (told_same 3 other out guest) (told_same 3 st out guest)
        → Q (headed_of other (drop 8 msg) out guest (header_of msg)) (headed_of st (drop 8 msg) out guest (header_of msg))
        → Q (message_of other msg out guest) (message_of st msg out guest)
    unfolding message_of
    message-by msg two three rest = both Q (is_closed st) two (both Q (ltb (length out) least_out) three rest)

  -- neither message 1 nor message 13
  another-said : (out guest : List ℕ) (id seq : ℕ) (d : List ℕ) → (id ≡ 1 → ⊥) → (id ≡ 13 → ⊥)
      → Said Same out guest id seq d (verdict s (facts_in st (length guest) (vcpu_of d)) id seq d)
  another-said out guest id seq d one thirteen =
      let f = facts_in st (length guest) (vcpu_of d) in
      let n = reported_of st id d in
      let e = ne_eqb id 1 one in
      verdict-cases (Said Same out guest id seq d) s f id seq d
      (ap (reporting_of n) (closes-alike id seq d out guest))
      (λ code _. ap (reporting_of n) (fails-alike id seq d out guest code e))
      (λ _. ap (reporting_of n) (does-alike id seq d out guest (change_of id d) e (change-alike guest d id thirteen)))
      (λ a _. ap (reporting_of n) (does-alike id seq d out guest (ending a f.guest d) e (end-alike guest d a f.guest)))

  pub others : (msg out guest : List ℕ) → IsAnother msg → Same (message_of other msg out guest) (message_of st msg out guest)
  unfolding headed_of
  others msg out guest u = message-by Same out guest msg refl refl (by-header (header_of msg) refl)
    where
      by-header : (h : HeaderRead) → header_of msg ≡ h → Same (headed_of other (drop 8 msg) out guest h) (headed_of st (drop 8 msg) out guest h)
      by-header None w = refl
      by-header (Some h) w =
          headed-by Same out guest h.id h.size h.seq (drop 8 msg)
          (another-said out guest h.id h.seq (drop 8 msg) (λ e. u.0 (h.size, h.seq, w ∙ ap (λ (n : ℕ). whole_header n h.size h.seq) e)) (λ e. u.1 (h.size, h.seq, w ∙ ap (λ (n : ℕ). whole_header n h.size h.seq) e)))

  -- message 13, none of whose entries is skipped
  pub unskipped : (msg out guest : List ℕ) → HasId msg 13 → skips st msg ≡ false → Same (message_of other msg out guest) (message_of st msg out guest)
  unfolding change_of
  unskipped msg out guest (size, seq, w) k =
      message-by Same out guest msg refl refl
      (subst (λ (h : HeaderRead). Same (headed_of other d out guest h) (headed_of st d out guest h)) (sym w) (headed-by Same out guest 13 size seq d said))
    where
      d : List ℕ
      d = drop 8 msg

      thirteen : Alike guest d (change_of 13 d)
      thirteen = pages-alike guest d (view_of d) (count_of d) k

      said : Said Same out guest 13 seq d (verdict s (facts_in st (length guest) (vcpu_of d)) 13 seq d)
      said =
          let f = facts_in st (length guest) (vcpu_of d) in
          let n = reported_of st 13 d in
          verdict-cases (Said Same out guest 13 seq d) s f 13 seq d
          (ap (reporting_of n) (closes-alike 13 seq d out guest))
          (λ code _. ap (reporting_of n) (fails-alike 13 seq d out guest code refl))
          (λ _. ap (reporting_of n) (does-alike 13 seq d out guest (change_of 13 d) refl thirteen))
          (λ a _. ap (reporting_of n) (does-alike 13 seq d out guest (ending a f.guest d) refl (end-alike guest d a f.guest)))

  same_bytes : {r q : Told} → Same r q → SameBytes r q
  same_bytes p = record { answer = ap (λ (x : Told). x.answer) p; out = ap (λ (x : Told). x.out) p; guest = ap (λ (x : Told). x.guest) p }

  -- its bytes, whatever is skipped
  pub bytes : (msg out guest : List ℕ) → HasId msg 13 → SameBytes (message_of other msg out guest) (message_of st msg out guest)
  unfolding change_of
  bytes msg out guest (size, seq, w) =
      message-by SameBytes out guest msg (same_bytes refl) (same_bytes refl)
      (subst (λ (h : HeaderRead). SameBytes (headed_of other d out guest h) (headed_of st d out guest h)) (sym w) (headed-by SameBytes out guest 13 size seq d said))
    where
      d : List ℕ
      d = drop 8 msg

      reports : (n : ℕ) {r q : Told} → SameBytes r q → SameBytes (reporting_of n r) (reporting_of n q)
      reports n b = record { answer = ap (with_padding n) b.answer; out = b.out; guest = b.guest }

      thirteen : SameBytes (judged_of other 13 seq d out guest (Does (change_of 13 d))) (judged_of st 13 seq d out guest (Does (change_of 13 d)))
      thirteen = pages-bytes seq d out guest (view_of d) (count_of d)

      said : Said SameBytes out guest 13 seq d (verdict s (facts_in st (length guest) (vcpu_of d)) 13 seq d)
      said =
          let f = facts_in st (length guest) (vcpu_of d) in
          let n = reported_of st 13 d in
          verdict-cases (Said SameBytes out guest 13 seq d) s f 13 seq d
          (reports n (same_bytes (closes-alike 13 seq d out guest)))
          (λ code _. reports n (same_bytes (fails-alike 13 seq d out guest code refl)))
          (λ _. reports n thirteen)
          (λ a _. reports n (same_bytes (does-alike 13 seq d out guest (ending a f.guest d) refl (end-alike guest d a f.guest))))

  -- ---- the code of a message
  pub codes : (msg out guest : List ℕ) → code_of other msg out guest ≡ code_of st msg out guest
  codes msg out guest = ap (λ (x : ℤ). cond (is_closed st) OK (cond (ltb (length out) least_out) OK x)) (by-header (header_of msg))
    where
      d : List ℕ
      d = drop 8 msg

      by-header : (h : HeaderRead) → code_headed other guest d h ≡ code_headed st guest d h
      by-header None = refl
      by-header (Some h) =
          let f = facts_in st (length guest) (vcpu_of d) in
          ap (code_by other guest d) (verdict-alike revision s f h.id h.seq d)
          ∙ verdict-cases (λ (v : Verdict). code_by other guest d v ≡ code_by st guest d v) s f h.id h.seq d refl (λ code _. refl)
          (λ _. code_alike guest d h.id) (λ a _. ap (λ (r : StateChanged). r.code) (end-alike guest d a f.guest))

  -- ---- GET_VERSION
  -- what is told of it: all but the version number
  abbrev Versioned : List ℕ → Told → Told → Type 0
  Versioned out r q =
      (r.answer ≡ q.answer) × (r.state ≡ revised_state revision q.state) × (r.guest ≡ q.guest) × VersionBytes revision s.revision out r.out q.out

  same-versioned : (out : List ℕ) (r q : Told) → Same r q → Versioned out r q
  same-versioned out r q p = (ap (λ (x : Told). x.answer) p, ap (λ (x : Told). x.state) p, ap (λ (x : Told). x.guest) p, inl (ap (λ (x : Told). x.out) p))

  -- without an error: the version stands behind header and code
  version-done : (mode : ReplyMode) (x : State) (seq : ℕ) (d : List ℕ) (g : Signal) (out guest : List ℕ) → x.session.settings ≡ s
      → Versioned out (answering_of mode 1 seq OK d g out guest (revised_state revision x)) (answering_of mode 1 seq OK d g out guest x)
  unfolding answering_of layout_of answer_of answer_bytes reply_bytes message_bytes reply_data code_bytes twos le answer_seq
  version-done On x seq d g out guest e = (
    refl,
    refl,
    refl,
    inr (
      le 2 1 ++ le 2 24 ++ le 4 seq ++ le 4 0 ++ le 4 0,
      le 4 0 ++ (x.session.settings.singlestep ∷ x.session.settings.vmfunc ∷ x.session.settings.eptp ∷ x.session.settings.ve ∷ x.session.settings.spp ∷ 0 ∷ 0 ∷ 0 ∷ []),
      refl,
      refl,
      ap (λ (y : Settings). store out 0 (le 2 1 ++ le 2 24 ++ le 4 seq ++ le 4 0 ++ le 4 0 ++ le 4 y.revision ++ le 4 0 ++ (x.session.settings.singlestep ∷ x.session.settings.vmfunc ∷ x.session.settings.eptp ∷ x.session.settings.ve ∷ x.session.settings.spp ∷ 0 ∷ 0 ∷ 0 ∷ []))) e,
    ),
  )
  version-done Off x seq d g out guest e = (refl, refl, refl, inl refl)
  version-done ErrorsOnly x seq d g out guest e = (refl, refl, refl, inl refl)

  -- with an error there is no version
  version-fails : (mode : ReplyMode) (seq : ℕ) (code : ℤ) (d out guest : List ℕ) → is_error code ≡ true
      → Same (answering_of mode 1 seq code d Quiet out guest other) (answering_of mode 1 seq code d Quiet out guest st)
  unfolding answering_of layout_of answer_of answer_bytes reply_bytes
  version-fails On seq code d out guest e = rw e
  version-fails Off seq code d out guest e = refl
  version-fails ErrorsOnly seq code d out guest e = refl

  pub version : (msg out guest : List ℕ) → HasId msg 1 → Versioned out (message_of other msg out guest) (message_of st msg out guest)
  unfolding judged_of change_of change
  version msg out guest (size, seq, w) =
      message-by (Versioned out) out guest msg (refl, refl, refl, inl refl) (refl, refl, refl, inl refl)
      (subst (λ (h : HeaderRead). Versioned out (headed_of other d out guest h) (headed_of st d out guest h)) (sym w) (headed-by (Versioned out) out guest 1 size seq d said))
    where
      d : List ℕ
      d = drop 8 msg

      reported : (n : ℕ) (v : Verdict) → Versioned out (judged_of other 1 seq d out guest v) (judged_of st 1 seq d out guest v)
          → Versioned out (reporting_of n (judged_of other 1 seq d out guest v)) (reporting_of n (judged_of st 1 seq d out guest v))
      reported n v (a, left, guest', bytes') = (ap (with_padding n) a, left, guest', bytes')

      said : Said (Versioned out) out guest 1 seq d (verdict s (facts_in st (length guest) (vcpu_of d)) 1 seq d)
      said =
          let f = facts_in st (length guest) (vcpu_of d) in
          let n = reported_of st 1 d in
          let mode = mode_of_number st.session.tool.mode in
          verdict-cases (Said (Versioned out) out guest 1 seq d) s f 1 seq d
          (reported n Closes (same-versioned out (judged_of other 1 seq d out guest Closes) (judged_of st 1 seq d out guest Closes) (closes-alike 1 seq d out guest)))
          (λ code e. reported n (Fails code) (same-versioned out (judged_of other 1 seq d out guest (Fails code)) (judged_of st 1 seq d out guest (Fails code)) (version-fails mode seq code d out guest e)))
          (λ _. reported n (Does (change_of 1 d)) (version-done mode st seq d Quiet out guest refl))
          (λ a _. reported n (Does (ending a f.guest d)) (version-done mode (change st guest d (ending a f.guest d)).state seq d (signal_of (ending a f.guest d)) out guest refl))

  -- ---- the other calls
  ready-alike : (vcpu : ℕ) → Same (ready_of other vcpu) (ready_of st vcpu)
  unfolding ready_of
  ready-alike vcpu = both Same (is_closed st) refl (both Same (leb s.vcpus vcpu) refl refl)

  sent-alike : (vcpu : ℕ) (block : List ℕ) (event : ℕ) (own : List ℕ) → sent_of other vcpu block event own ≡ sent_of st vcpu block event own
  unfolding sent_of
  sent-alike vcpu block event own = refl

  entered-alike : (vcpu : ℕ) (block : List ℕ) (event : ℕ) (own out : List ℕ) → Same (entered_of other vcpu block event own out) (entered_of st vcpu block event own out)
  unfolding entered_of
  entered-alike vcpu block event own out =
      both Same (not (eqb (field st.vcpus vcpu AWAITED) 0)) refl (ap (λ (x : Sent). told_sent other x out) (sent-alike vcpu block event own))

  refused-alike : (closed bad unfit short : Bool) (out : List ℕ) (r q : Told) → Same r q
      → Same (cond closed (told_same 2 other out []) (cond bad (told_same 4 other out []) (cond unfit (told_same 5 other out []) (cond short (told_same 3 other out []) r))))
      (cond closed (told_same 2 st out []) (cond bad (told_same 4 st out []) (cond unfit (told_same 5 st out []) (cond short (told_same 3 st out []) q))))
  refused-alike true bad unfit short out r q h = refl
  refused-alike false true unfit short out r q h = refl
  refused-alike false false true short out r q h = refl
  refused-alike false false false true out r q h = refl
  refused-alike false false false false out r q h = h

  enter-alike : (vcpu : ℕ) (block : List ℕ) (event : ℕ) (own out : List ℕ) → Same (enter_of other vcpu block event own out) (enter_of st vcpu block event own out)
  unfolding enter_of
  enter-alike vcpu block event own out =
      refused-alike (is_closed st) (leb s.vcpus vcpu) (not (eqb (length block) state_bytes && offer_fits event own)) (ltb (length out) event_out) out
      (entered_of other vcpu block event own out) (entered_of st vcpu block event own out) (entered-alike vcpu block event own out)

  -- an image, by the vCPUs and the tables that it states
  abbrev image_by : State → ℕ → Tables → List ℕ → Told
  image_by x n t out =
      cond (is_closed x) (told_same 2 x out [])
      (cond (awaits_any (awaited_of x.vcpus 0 n)) (told_same 10 x out [])
      (cond (ltb (length out) (length (image t))) (told_same 3 x out []) (told_written (image t) Quiet x out [])))

  vcpus-alike : stated_vcpus other ≡ stated_vcpus st
  unfolding stated_vcpus
  vcpus-alike = refl

  tables-alike : stated_tables other ≡ stated_tables st
  unfolding stated_tables stated_vcpus
  tables-alike = refl

  image-by : (n : ℕ) (t : Tables) (out : List ℕ) → Same (image_by other n t out) (image_by st n t out)
  image-by n t out =
      both Same (is_closed st) refl (both Same (awaits_any (awaited_of st.vcpus 0 n)) refl (both Same (ltb (length out) (length (image t))) refl refl))

  image-alike : (out : List ℕ) → Same (image_of other out) (image_of st out)
  unfolding image_of
  image-alike out =
      ap (λ (n : ℕ). image_by other n (stated_tables other) out) vcpus-alike ∙ ap (λ (t : Tables). image_by other (stated_vcpus st) t out) tables-alike
      ∙ image-by (stated_vcpus st) (stated_tables st) out

  pub calls : (c : Call) → Untouched c → Same (step_of other c) (step_of st c)
  unfolding step_of
  calls (message msg out guest) u = others msg out guest (u msg out guest refl)
  calls (ready vcpu) u = ready-alike vcpu
  calls (enter vcpu block event own out) u = enter-alike vcpu block event own out
  calls (write_image out) u = image-alike out

-- ---- lists of calls
-- message 1 leaves such sessions alike, as do all calls but message 13
left-alike : (revision : ℕ) (st : State) (c : Call) → ((msg out guest : List ℕ) → c ≡ message msg out guest → HasId msg 13 → ⊥)
    → (step_of (revised_state revision st) c).state ≡ revised_state revision (step_of st c).state
unfolding step_of
left-alike revision st (message msg out guest) u = by (header_of msg) refl
  where
    same : (HasId msg 1 → ⊥) → (message_of (revised_state revision st) msg out guest).state ≡ revised_state revision (message_of st msg out guest).state
    same one = ap (λ (r : Told). r.state) (others revision st msg out guest (one, u msg out guest refl))

    by : (h : HeaderRead) → header_of msg ≡ h → (message_of (revised_state revision st) msg out guest).state ≡ revised_state revision (message_of st msg out guest).state
    by None w = same (λ (size, seq, v). broken-whole (sym w ∙ v))
    by (Some h) w =
        test (eqb h.id 1) (λ e. (version revision st msg out guest (h.size, h.seq, w ∙ ap (λ (n : ℕ). whole_header n h.size h.seq) (eqb-true h.id 1 e))).1)
        (λ e. same (λ (size', seq', v). eqb-false h.id 1 e (ap id_of (sym w ∙ v))))
left-alike revision st (ready vcpu) u = ap (λ (r : Told). r.state) (ready-alike revision st vcpu)
left-alike revision st (enter vcpu block event own out) u = ap (λ (r : Told). r.state) (enter-alike revision st vcpu block event own out)
left-alike revision st (write_image out) u = ap (λ (r : Told). r.state) (image-alike revision st out)

lists : (revision : ℕ) (st : State) (cs : List Call) → WithoutPages cs → after_of (revised_state revision st) cs ≡ revised_state revision (after_of st cs)
unfolding after_of
lists revision st [] u = refl
lists revision st (c ∷ cs) (next _ _ u us) =
    ap (λ (x : State). after_of x cs) (left-alike revision st c u) ∙ lists revision (step_of st c).state cs us

-- ---- in revision 2 an error leaves everything but the next event's seq
spared : (st : State) (msg out guest : List ℕ) → all_or_nothing st.session.settings ≡ true → is_error (code_of st msg out guest) ≡ true
    → Spared st guest (message_of st msg out guest)
spared st msg out guest second e = by (error-spares st msg out guest e)
  where
    by : ErrorSpares st msg guest (code_of st msg out guest) (message_of st msg out guest) → Spared st guest (message_of st msg out guest)
    by (inl w) = w
    by (inr (_, _, first, _)) = absurd (false≢true (sym first ∙ second))

-- ---- images
rest-alike : (revision : ℕ) (s : Settings) (n off lo : ℕ) (t : Tables) (rs : List Rec) → load_rest (with_revision revision s) n off lo t rs ≡ load_rest s n off lo t rs
unfolding allows_event can_singlestep uncatchable held_by_host has_execute_only takes_access may_enable vc_may pa_may
rest-alike revision s n off lo t [] = refl
rest-alike revision s n off lo t (cut l ∷ rs) = refl
rest-alike revision s n off lo t (whole VM f ∷ rs) = refl
rest-alike revision s n off lo t (whole VC f ∷ rs) = ap (judge (fits_in VC n lo t f) (may_of VC s f) off) (rest-alike revision s n (off + size VC) (suc (order_of VC f)) (with_record VC t f) rs)
rest-alike revision s n off lo t (whole MS f ∷ rs) = ap (judge (fits_in MS n lo t f) (may_of MS s f) off) (rest-alike revision s n (off + size MS) (suc (order_of MS f)) (with_record MS t f) rs)
rest-alike revision s n off lo t (whole PA f ∷ rs) = ap (judge (fits_in PA n lo t f) (may_of PA s f) off) (rest-alike revision s n (off + size PA) (suc (order_of PA f)) (with_record PA t f) rs)
rest-alike revision s n off lo t (whole EN f ∷ rs) = refl

records-alike : (revision : ℕ) (s : Settings) (rs : List Rec) → load_records (with_revision revision s) rs ≡ load_records s rs
unfolding allows_event vm_may
records-alike revision s [] = refl
records-alike revision s (cut l ∷ rs) = refl
records-alike revision s (whole VM f ∷ rs) =
    ap (judge (eqb (vm_version f) 1 && vm_form (vm_count f) (vm_events f)) (vm_may s (vm_count f) (vm_events f)) 0)
    (rest-alike revision s (vm_count f) (size VM) (suc (order_of VM f)) (stated (vm_events f)) rs)
records-alike revision s (whole VC f ∷ rs) = refl
records-alike revision s (whole MS f ∷ rs) = refl
records-alike revision s (whole PA f ∷ rs) = refl
records-alike revision s (whole EN f ∷ rs) = refl

loads : (s : Settings) (revision : ℕ) (l : List ℕ) → load_image (with_revision revision s) l ≡ load_image s l
unfolding load_image
loads s revision l = records-alike revision s (parse (length l) l)

-- ---- beginnings
fresh : (s : Settings) (revision : ℕ) (vcpus pages : List ℕ) → So (in_range s) → So (in_range (with_revision revision s))
    → fresh_of (with_revision revision s) vcpus pages ≡ revised_told revision (fresh_of s vcpus pages)
unfolding fresh_of
fresh s revision vcpus pages a b = rw (a, b)

told-alike : (s : Settings) (revision : ℕ) (vcpus pages : List ℕ) (x : Loaded) → told_loaded (with_revision revision s) vcpus pages x ≡ revised_told revision (told_loaded s vcpus pages x)
unfolding told_loaded loaded_state
told-alike s revision vcpus pages (loaded t) = refl
told-alike s revision vcpus pages (bad_form off) = refl
told-alike s revision vcpus pages (forbidden off) = refl

loaded-alike : (s : Settings) (revision : ℕ) (l vcpus pages : List ℕ) → So (in_range s) → So (in_range (with_revision revision s))
    → read_of (with_revision revision s) l vcpus pages ≡ revised_told revision (read_of s l vcpus pages)
unfolding read_of
loaded-alike s revision l vcpus pages a b =
    rw (a, b) (ap (told_loaded (with_revision revision s) vcpus pages) (loads s revision l) ∙ told-alike s revision vcpus pages (load_image s l))

pub revisions : Revisions
revisions =
    record {
      others = λ st revision. others revision st;
      unskipped = λ st revision. unskipped revision st;
      bytes = λ st revision. bytes revision st;
      codes = λ st revision. codes revision st;
      spared = spared;
      version = λ st revision. version revision st;
      calls = λ st revision. calls revision st;
      lists = λ st revision. lists revision st;
      fresh = fresh;
      loaded = loaded-alike;
    }
