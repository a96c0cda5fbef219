-- Where a list holds what a session's vCPUs read as, the list's form of a call leaves what the session's form leaves, read the same way. Assumes nothing.
use mathlib.Core.Path.{◌≡◌, refl, sym, ap, ◌∙◌}
use Prim.Native.Nat.{ℕ, ◌^◌, ◌≤◌, ◌<◌}
use native.Mathlib.Omega.{arith}
use mathlib.Core.List.{List, []}
use mathlib.Core.Bool.{Bool, true, false, cond, not, ◌&&◌, ◌||◌, So}
use lib.ListN.{length, get_or, set, drop}
use lib.Seq.{set-get_or}
use lib.Dec.{ltb, leb, eqb}
use borrow.Author.Tests.{ltb-true, ltb-false, lt-ltb, le-ltb, le-leb, lt-leb}
use Rattle.wire.specs.Bytes.{le, num, load}
use Rattle.wire.specs.Header.{whole as whole_header, is_whole, header_of}
use Rattle.wire.proofs.Laws.{num-le}
use Rattle.kvmi.specs.declared.Settings.{Settings}
use Rattle.kvmi.specs.declared.Facts.{Facts}
use Rattle.kvmi.specs.declared.Change.TheVariants.{SetCr}
use Rattle.kvmi.specs.declared.ReplyMode.{ReplyMode}
use Rattle.kvmi.specs.declared.Verdict.{Verdict}
use Rattle.kvmi.specs.declared.Verdict.TheVariants.{Closes, Fails, Does}
use Rattle.kvmi.specs.Bits.{bit, is_on, put_bit, every}
use Rattle.kvmi.specs.Codes.{EAGAIN, EINVAL}
use Rattle.kvmi.specs.Settings.{in_range, allows_command}
use Rattle.kvmi.specs.Tables.{is_cr, cr_bit}
use Rattle.kvmi.specs.Message.{layout_of, data_fits, size_fits, names_vcpu, vcpu_of, enable_at, enables, switches_at, register_of, padding_runs, first_non_zero, first_of_runs, first_padding}
use Rattle.kvmi.specs.Mode.{mode_of_number}
use Rattle.kvmi.specs.Verdict.{invalid_by, is_unready, is_denied, is_unsupported, is_busy, is_absent, change_of, loses_errors, command_verdict_by, command_verdict, verdict, reaches_test6, reported_padding}
use Rattle.kvmi.specs.Reply.{message_bytes}
use Rattle.kvmi.specs.Case.{register_data}
use Rattle.store.specs.Words.{field, set_field, put_bit64, CRS, vcpu_word_count}
use Rattle.session.specs.State.{State, is_closed}
use Rattle.session.specs.Calls.{Told, ready_of}
use Rattle.change.specs.Change.{change}
use Rattle.message.specs.Message.{facts_in, answering_of, reporting_of, judged_of, headed_of, message_of}
use Rattle.laws.proofs.Bool.{test}
use Rattle.laws.proofs.Bits.{bit-eqb}
use Rattle.refine.proofs.Words.{few-vcpus}
use Rattle.vcpu_list.specs.declared.Vcpu.{Vcpu}
use Rattle.vcpu_list.specs.List.{Listed, blank, with_crs, one_ready, one_cr, on_record, marked_ready, cr_set}
use Rattle.list_laws.specs.Records.{record_of, each_of, records_of, records_told, cr_message, cr_verdict, CrAgrees}
use Rattle.list_laws.proofs.Records.{each-length, each_at, records-ready, records-crs}

-- ---- the ready mark, of an open session with settings in range: the answers agree too
module _ (st : State) (ok : So (in_range st.session.settings)) (lives : is_closed st ≡ false) (vcpu : ℕ) where
  abbrev n : ℕ
  n = st.session.settings.vcpus

  abbrev w : List ℕ
  w = st.vcpus

  abbrev ready : ℕ
  ready = st.session.shared.ready

  abbrev one : ℕ → Vcpu
  one = record_of ready w

  few : n ≤ 16
  few = few-vcpus st.session.settings ok

  inside : vcpu < n → records_told (ready_of st vcpu) ≡ marked_ready (records_of st) vcpu
  unfolding ready_of records_of marked_ready on_record one_ready put_bit64
  inside h =
      let m = few in
      rw (lives, lt-leb n vcpu h, lt-ltb vcpu 64 (omega arith), each-length one 0 n, lt-ltb vcpu n h, each_at one blank n vcpu h, records-ready ready w n vcpu)

  outside : n ≤ vcpu → records_told (ready_of st vcpu) ≡ marked_ready (records_of st) vcpu
  unfolding ready_of records_of marked_ready on_record
  outside h = rw (lives, le-leb n vcpu h, each-length one 0 n, le-ltb vcpu n h)

  pub ready-agrees : records_told (ready_of st vcpu) ≡ marked_ready (records_of st) vcpu
  ready-agrees = test (ltb vcpu n) (λ t. inside (ltb-true vcpu n t)) (λ t. outside (ltb-false vcpu n t))

-- ---- message 11
-- what its tests say, of n vCPUs and one vCPU's ready mark
abbrev judged_by : ℕ → ℕ → ℕ → Bool → Bool → Verdict
judged_by n vcpu cr on ready = cond (leb n vcpu || not (is_cr cr)) (Fails EINVAL) (cond ready (Does (SetCr on vcpu cr)) (Fails EAGAIN))

and_no : (b : Bool) → (b && false) ≡ false
and_no true = refl
and_no false = refl

module _ (vcpu cr : ℕ) (on : Bool) (v : vcpu < 2 ^ 16) (c : cr < 2 ^ 32) where
  abbrev d : List ℕ
  d = register_data vcpu cr (bit on)

  vcpu-there : vcpu_of d ≡ vcpu
  unfolding vcpu_of load le num
  vcpu-there = num-le 2 vcpu [] v

  cr-there : register_of d ≡ cr
  unfolding register_of load le
  cr-there = num-le 4 cr [] c

  on-there : enables 11 d ≡ on
  unfolding enables enable_at le
  on-there = bit-eqb on

  clean : first_padding 11 d ≡ 0
  unfolding first_padding padding_runs first_of_runs first_non_zero le
  clean = refl

  flags : every (λ at. leb (get_or d at 0) 1) (switches_at 11) ≡ true
  unfolding switches_at enable_at le
  flags = small on
    where
      small : (b : Bool) → (leb (bit b) 1 && true) ≡ true
      small true = refl
      small false = refl

  whole : data_fits (layout_of 11) d ≡ true
  unfolding size_fits layout_of le
  whole = refl

  cr-verdict : (s : Settings) (f : Facts) (seq : ℕ) → allows_command s 11 ≡ true → verdict s f 11 seq d ≡ judged_by s.vcpus vcpu cr on f.ready
  unfolding verdict layout_of command_verdict command_verdict_by invalid_by is_unready is_denied is_unsupported is_busy is_absent loses_errors change_of names_vcpu
  cr-verdict s f seq a = rw (a, and_no, whole, clean, flags, vcpu-there, cr-there, on-there) (settled (leb s.vcpus vcpu) (not (is_cr cr)) f.ready)
    where
      settled : (a b r : Bool)
          → cond (a || false || false || false || b || false || false || false || false) (Fails EINVAL) (cond (not r) (Fails EAGAIN) (Does (SetCr on vcpu cr)))
          ≡ cond (a || b) (Fails EINVAL) (cond r (Does (SetCr on vcpu cr)) (Fails EAGAIN))
      settled true b r = refl
      settled false true r = refl
      settled false false true = refl
      settled false false false = refl

  -- its padding is fine, so that none is reported
  none-reported : (s : Settings) (mode : ReplyMode) → reported_padding s mode 11 d ≡ 0
  unfolding reported_padding
  none-reported s mode = rw clean (test (reaches_test6 s mode 11 d) (λ e. rw e) (λ e. rw e))

  cr-header : (seq : ℕ) → seq < 2 ^ 32 → header_of (cr_message seq vcpu cr on) ≡ whole_header 11 16 seq
  unfolding header_of is_whole cr_message message_bytes load le num
  cr-header seq h = ap (λ (x : ℕ). whole_header 11 16 x) (num-le 4 seq [] h)

  cr-data : (seq : ℕ) → drop 8 (cr_message seq vcpu cr on) ≡ d
  unfolding cr_message message_bytes le
  cr-data seq = refl

-- ---- the CR switch: its change, or its error, is what the list's form answers and leaves
module _ (st : State) (ok : So (in_range st.session.settings)) (words : length st.vcpus ≡ vcpu_word_count) (vcpu cr : ℕ) (on : Bool) where
  abbrev list_form : Listed
  list_form = cr_set (records_of st) vcpu cr on

  abbrev size : ℕ
  size = st.session.settings.vcpus

  abbrev is_ready : Bool
  is_ready = is_on st.session.shared.ready vcpu

  abbrev at_one : ℕ → Vcpu
  at_one = record_of st.session.shared.ready st.vcpus

  abbrev Agreed : List ℕ → List ℕ → List ℕ → ℕ → Verdict → Type 0
  Agreed d out guest seq x = (x ≡ cr_verdict vcpu cr on list_form.answer) × (records_of (judged_of st 11 seq d out guest x).state ≡ list_form.vcpus)

  -- a record's ready field is the bit
  marked : not (eqb (at_one vcpu).ready 0) ≡ is_ready
  unfolding record_of
  marked = read is_ready
    where
      read : (b : Bool) → not (eqb (bit b) 0) ≡ b
      read true = refl
      read false = refl

  -- a record that is stored as it is
  again : vcpu < size → records_of st ≡ set (records_of st) vcpu (at_one vcpu)
  unfolding records_of
  again h = sym (set-get_or (records_of st) vcpu blank) ∙ ap (λ (x : Vcpu). set (records_of st) vcpu x) (each_at at_one blank size vcpu h)

  switched : vcpu < size
      → each_of (record_of st.session.shared.ready (set_field st.vcpus vcpu CRS (put_bit (field st.vcpus vcpu CRS) (cr_bit cr) on))) 0 size
      ≡ set (records_of st) vcpu (with_crs (at_one vcpu) (put_bit (at_one vcpu).crs (cr_bit cr) on))
  unfolding records_of record_of
  switched h =
      let few = few-vcpus st.session.settings ok in
      records-crs st.session.shared.ready st.vcpus size vcpu (put_bit (field st.vcpus vcpu CRS) (cr_bit cr) on) (omega arith) h

  module _ (d out guest : List ℕ) (seq : ℕ) where
    past : size ≤ vcpu → Agreed d out guest seq (judged_by size vcpu cr on is_ready)
    unfolding records_of cr_set on_record cr_verdict judged_of answering_of
    past h = rw (le-leb size vcpu h, each-length at_one 0 size, le-ltb vcpu size h) (refl, refl)

    there : vcpu < size → (i r : Bool) → is_cr cr ≡ i → is_ready ≡ r → Agreed d out guest seq (judged_by size vcpu cr on is_ready)
    unfolding records_of cr_set on_record one_cr cr_verdict judged_of answering_of change
    there h false r e f = rw (lt-leb size vcpu h, each-length at_one 0 size, lt-ltb vcpu size h, each_at at_one blank size vcpu h, e) (refl, again h)
    there h true false e f = rw (lt-leb size vcpu h, each-length at_one 0 size, lt-ltb vcpu size h, each_at at_one blank size vcpu h, e, marked, f) (refl, again h)
    there h true true e f = rw (lt-leb size vcpu h, each-length at_one 0 size, lt-ltb vcpu size h, each_at at_one blank size vcpu h, e, marked, f) (refl, switched h)

    agreed : Agreed d out guest seq (judged_by size vcpu cr on is_ready)
    agreed = test (ltb vcpu size) (λ t. there (ltb-true vcpu size t) (is_cr cr) is_ready refl refl) (λ t. past (ltb-false vcpu size t))

-- where none is reported, a message is told as it is judged
unreported : (st : State) (id seq : ℕ) (d out guest : List ℕ) (v : Verdict) → reporting_of 0 (judged_of st id seq d out guest v) ≡ judged_of st id seq d out guest v
unfolding judged_of answering_of
unreported st id seq d out guest Closes = refl
unreported st id seq d out guest (Fails code) = refl
unreported st id seq d out guest (Does c) = refl

-- an open session with settings in range, that allows command 11, and an output that a message can have
module _ (st : State) (ok : So (in_range st.session.settings)) (words : length st.vcpus ≡ vcpu_word_count) (lives : is_closed st ≡ false)
    (allowed : allows_command st.session.settings 11 ≡ true) (seq vcpu cr : ℕ) (on : Bool) (s : seq < 2 ^ 32) (v : vcpu < 2 ^ 16) (c : cr < 2 ^ 32)
    (out guest : List ℕ) (long : 4112 ≤ length out) where
  as-judged : message_of st (cr_message seq vcpu cr on) out guest
      ≡ judged_of st 11 seq (register_data vcpu cr (bit on)) out guest (judged_by st.session.settings.vcpus vcpu cr on (is_on st.session.shared.ready vcpu))
  unfolding message_of headed_of
  as-judged =
      rw (
        lives,
        le-ltb (length out) 4112 long,
        cr-header vcpu cr on v c seq s,
        cr-data vcpu cr on v c seq,
        vcpu-there vcpu cr on v c,
        cr-verdict vcpu cr on v c st.session.settings (facts_in st (length guest) vcpu) seq allowed,
        none-reported vcpu cr on v c st.session.settings (mode_of_number st.session.tool.mode),
      )
      (unreported st 11 seq (register_data vcpu cr (bit on)) out guest _)

  pub cr-agrees : CrAgrees st seq vcpu cr on out guest
  cr-agrees =
      let d = register_data vcpu cr (bit on) in
      let both = agreed st ok words vcpu cr on d out guest seq in
      record { judged = as-judged ∙ ap (judged_of st 11 seq d out guest) both.0; records = ap (λ (r : Told). records_of r.state) as-judged ∙ both.1 }
