-- Two commands of different vCPUs, in either order. Assumes nothing.
use mathlib.Core.Path.{◌≡◌, refl, sym, ap, ◌∙◌}
use mathlib.Core.Logic.{◌≢◌}
use Prim.Native.Nat.{ℕ}
use native.Mathlib.Omega.{arith}
use mathlib.Core.List.{List, [], ◌∷◌, ◌++◌}
use mathlib.Core.Bool.{Bool}
use lib.ListN.{get_or}
use borrow.Author.Tests.{eq-eqb, ne_eqb}
use Rattle.wire.specs.Bytes.{le, num, load, store}
use Rattle.wire.specs.Header.{is_whole, header_of}
use Rattle.wire.specs.Code.{twos, code_bytes}
use Rattle.kvmi.specs.declared.Settings.{Settings}
use Rattle.kvmi.specs.declared.ReplyMode.{ReplyMode}
use Rattle.kvmi.specs.Bits.{bit_of, is_on}
use Rattle.kvmi.specs.Settings.{is_set, allows_command, allows_event}
use Rattle.kvmi.specs.Mode.{mode_of_number}
use Rattle.kvmi.specs.Model.{Model}
use Rattle.kvmi.specs.Message.{layout_of, size_fits, names_vcpu, vcpu_of, enable_at, enables, switches_at, event_of, register_of, gpa_of, size_of, count_of, view_of, padding_runs, first_non_zero, first_of_runs, first_padding}
use Rattle.kvmi.specs.Verdict.{invalid_by, is_invalid, is_unready, is_denied, is_unsupported, is_busy, is_absent, change_of, loses_errors, command_verdict_by, command_verdict, verdict, reaches_test6, reported_padding}
use Rattle.kvmi.specs.Reply.{message_bytes, reply_bytes, reply_data, answer_bytes, answer_seq, answer_of}
use Rattle.kvmi.specs.Call.{Call, Began, after}
use Rattle.store.specs.Words.{field, set_field}
use Rattle.session.specs.State.{State, with_vcpu_words}
use Rattle.session.specs.Calls.{Told}
use Rattle.change.specs.Change.{change}
use Rattle.message.specs.Message.{message_of, headed_of, judged_of, answering_of}
use Rattle.history.specs.History.{step_of, after_of}
use Rattle.history.specs.Order.{Lent, call_of, vcpu_in, Answered, on_words, on_model, by_host, Pair, PairOn, PairBy, EitherOrder, SameBlock, seven_queued, pause_of, one_pause, other_pause, Order}
use Rattle.history.specs.Workers.{gets, leaves, of_vcpu, gets_of, Commands, Apart}
use Rattle.history.specs.Workers as lists
use Rattle.history.proofs.VcpuCommand.{Local, local}
use Rattle.history.proofs.Workers.{by-vcpu, on-words, by-host, on-model}

-- ---- a pair is a list of two, for two workers
module _ {closed : Bool} {mode : ReplyMode} {number : Lent → ℕ} (a b : Lent) (p : Pair closed mode number a b) where
  forth : Commands closed mode number (a ∷ b ∷ [])
  forth =
      record {
        opened = p.opened;
        replies = p.replies;
        each = lists.next a _ (p.first, p.first_stays) (lists.next b _ (p.second, p.second_stays) lists.none);
      }

  back : Commands closed mode number (b ∷ a ∷ [])
  back =
      record {
        opened = p.opened;
        replies = p.replies;
        each = lists.next b _ (p.second, p.second_stays) (lists.next a _ (p.first, p.first_stays) lists.none);
      }

-- the first of a list
head : {A : Type 0} → A → List A → A
head x [] = x
head x (y ∷ ys) = y

module _ {S G : Type 0} (take : S → Lent → G × S) (s : S) where
  -- the later of two gives what it gives alone
  later : (a b : Lent) → vcpu_in a ≢ vcpu_in b → Apart take s (a ∷ b ∷ []) → (take (take s a).1 b).0 ≡ (take s b).0
  unfolding gets_of gets of_vcpu head
  later a b d h =
      let got = h.answers (vcpu_in b) in
      ap (head (take s b).0) (rw (ne_eqb (vcpu_in a) (vcpu_in b) d, eq-eqb (vcpu_in b) (vcpu_in b) refl) at got)

  -- both orders have the same commands for each vCPU
  same_lists : (a b : Lent) → vcpu_in a ≢ vcpu_in b → (v : ℕ) → of_vcpu v (a ∷ b ∷ []) ≡ of_vcpu v (b ∷ a ∷ [])
  unfolding of_vcpu
  same_lists a b d v =
      by-vcpu v a
      (λ e. let other : vcpu_in b ≢ v = λ q. d (e ∙ sym q) in rw (eq-eqb (vcpu_in a) v e, ne_eqb (vcpu_in b) v other))
      (λ n. rw (ne_eqb (vcpu_in a) v n))

  either : (a b : Lent) → vcpu_in a ≢ vcpu_in b → Apart take s (a ∷ b ∷ []) → Apart take s (b ∷ a ∷ []) → EitherOrder take s a b
  unfolding leaves
  either a b d h k = record { first = later b a (λ e. d (sym e)) k; second = later a b d h; session = k.session (a ∷ b ∷ []) (same_lists a b d) }

-- ---- of any session, as a host gets it, and of the model
words : (st : State) (a b : Lent) → PairOn st a b → EitherOrder on_words st a b
words st a b p = either on_words st a b p.different (on-words st _ (forth a b p)) (on-words st _ (back a b p))

hosts : (st : State) (a b : Lent) → PairOn st a b → EitherOrder by_host st a b
hosts st a b p = either by_host st a b p.different (by-host st _ (forth a b p)) (by-host st _ (back a b p))

models : (s : Settings) (m : Model) → Began s m → (cs : List Call) (a b : Lent) → PairBy s (after s m cs) a b → EitherOrder (on_model s) (after s m cs) a b
models s m began cs a b p =
    either (on_model s) (after s m cs) a b p.different (on-model s m began cs _ (forth a b p)) (on-model s m began cs _ (back a b p))

-- ---- inside a list of calls
after_both : (st : State) (before rest : List Call) → after_of st (before ++ rest) ≡ after_of (after_of st before) rest
unfolding after_of
after_both st [] rest = refl
after_both st (c ∷ cs) rest = after_both (step_of st c).state cs rest

in-lists : (st : State) (before : List Call) (a b : Lent) → PairOn (after_of st before) a b → (behind : List Call)
    → after_of st (before ++ call_of a ∷ call_of b ∷ behind) ≡ after_of st (before ++ call_of b ∷ call_of a ∷ behind)
unfolding after_of step_of
in-lists st before a b p behind =
    after_both st before (call_of a ∷ call_of b ∷ behind) ∙ ap (λ (x : State). after_of x behind) (words (after_of st before) a b p).session
    ∙ sym (after_both st before (call_of b ∷ call_of a ∷ behind))

-- ---- what a command reads, and guest memory
module _ (st : State) (a b : Lent) (p : PairOn st a b) where
  first-local : Local st a
  first-local = local st a p.opened p.replies p.first p.first_stays

  second-local : Local st b
  second-local = local st b p.opened p.replies p.second p.second_stays

  memory : ((on_words st a).0.guest ≡ a.guest) × ((on_words st b).0.guest ≡ b.guest)
  memory = (ap (λ (r : Told). r.guest) (first-local.1 st.vcpus (λ k _. refl)), ap (λ (r : Told). r.guest) (second-local.1 st.vcpus (λ k _. refl)))

  own : (w : List ℕ) → SameBlock (vcpu_in a) w st.vcpus → (on_words (with_vcpu_words st w) a).0 ≡ (on_words st a).0
  own w same =
      let answered : Told → Answered = λ r. record { answer = r.answer; out = r.out; guest = r.guest } in
      ap answered (first-local.1 w same) ∙ sym (ap answered (first-local.1 st.vcpus (λ k _. refl)))

-- ---- the example, computed; of two pauses of one vCPU the later one has the error -16, whose first byte is 240
example : EitherOrder on_words seven_queued one_pause other_pause × PairOn seven_queued one_pause other_pause × (EitherOrder on_words seven_queued one_pause (pause_of 0 2) → ⊥)
unfolding le num load store is_whole header_of twos code_bytes bit_of is_on is_set allows_command allows_event mode_of_number layout_of size_fits names_vcpu vcpu_of enable_at enables switches_at event_of register_of gpa_of size_of count_of view_of padding_runs first_non_zero first_of_runs first_padding invalid_by is_invalid is_unready is_denied is_unsupported is_busy is_absent change_of loses_errors command_verdict_by command_verdict verdict reaches_test6 reported_padding message_bytes reply_bytes reply_data answer_bytes answer_seq answer_of field set_field change message_of headed_of judged_of answering_of
example = (
  record { first = refl; second = refl; session = refl },
  record {
    opened = refl;
    replies = refl;
    first = (9, (16, 1, refl), refl);
    second = (9, (16, 2, refl), refl);
    different = λ e. absurd (omega arith);
    first_stays = λ e. absurd (omega arith);
    second_stays = λ e. absurd (omega arith);
  },
  λ h. let byte : ◌≡◌ {A = ℕ} 240 0 = ap (λ (r : Answered). get_or r.out 8 0) h.first in absurd (omega arith),
)

pub order : Order
order = record { words = words; hosts = hosts; models = models; lists = in-lists; memory = memory; own = own; conditions = example.1; pauses = example.0; on_one_vcpu = example.2 }
