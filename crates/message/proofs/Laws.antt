-- A message by its verdict: closed, or answered by what was done. Assumes nothing.
use mathlib.Core.Path.{◌≡◌, sym, ap, subst, ◌∙◌}
use mathlib.Core.List.{List, []}
use mathlib.Core.Bool.{true, false≢true}
use Prim.Native.Nat.{ℕ}
use lib.IntN.{ℤ}
use lib.ListN.{length}
use Rattle.kvmi.specs.declared.Change.{Change}
use Rattle.kvmi.specs.declared.ReplyKind.TheVariants.{Silent}
use Rattle.kvmi.specs.declared.ReplyMode.{ReplyMode}
use Rattle.kvmi.specs.declared.Signal.TheVariants.{Quiet}
use Rattle.kvmi.specs.declared.Judgement.{Judgement}
use Rattle.kvmi.specs.declared.Verdict.{Verdict}
use Rattle.kvmi.specs.declared.Verdict.TheVariants.{Closes, Fails, Does}
use Rattle.kvmi.specs.Answer.{paper, handled, with_padding}
use Rattle.kvmi.specs.Codes.{OK}
use Rattle.kvmi.specs.Mode.{mode_of_number}
use Rattle.kvmi.specs.Message.{layout_of, reply_kind, vcpu_of}
use Rattle.kvmi.specs.Verdict.{verdict, judgement, reported_padding}
use Rattle.kvmi.specs.Reply.{answer_bytes, reply_data}
use Rattle.verdict.specs.Handlers.{facts_for}
use Rattle.reply.specs.declared.Answered.{Answered}
use Rattle.reply.specs.Written.{AnswerWritten}
use Rattle.reply.specs.Off.{tells, kind_tells, KindWritten}
use Rattle.laws.proofs.Paddings.{Reports, reported}
use Rattle.reply.proofs.Data.{code-only}
use Rattle.session.specs.declared.Session.{Session}
use Rattle.session.specs.State.{State, state, with_tool}
use Rattle.session.specs.Calls.{Told, told, told_closing}
use Rattle.change.specs.declared.Effect.{Effect}
use Rattle.change.specs.declared.Moved.TheVariants.{Nothing}
use Rattle.change.specs.Effect.{Enacted, enacted_of, tool_after}
use Rattle.message.specs.Message.{code_by, facts_in, asked_of, reported_of, reporting_of, answering_of, judged_of, failed_of, handled_of}
use Rattle.message.specs.declared.Received.{Received}
use Rattle.message.specs.declared.After.TheVariants.{Closed}
use Rattle.message.specs.Moves.{and_seq, judged_move, handled_move, done_by}
use Rattle.message.proofs.Silent.{reply-code}
use Rattle.message.proofs.Served.{serves, same_answer, error-answer, tells-seq, kind-seq, served, verdict-served}
use Rattle.message.proofs.Moves.{moved_as, seq-stays}

-- ---- an answer written, and what it moved
-- a command that fails: an event may take a seq
module _ (s : Session) (a : Answered) (v p out written guest : List ℕ) (id seq : ℕ) (code : ℤ) (padding : ℕ) (r : Received) where
  pub failed-as : AnswerWritten out written a (answer_bytes (mode_of_number s.tool.mode) s.tool.seq id seq code []) (tells (mode_of_number s.tool.mode) code)
      → r.after ≡ and_seq Nothing a.took_seq → paper r.answer ≡ with_padding padding (handled a.count Quiet)
      → told (done_by s r) v p written guest ≡ failed_of (state s v p) id seq code padding out guest
  unfolding tool_after
  failed-as w m y = rw (m, moved_as s Nothing a.took_seq, y, w.took, tells-seq (mode_of_number s.tool.mode) s.tool.seq code) (simp (w.written.count, w.written.there))

-- one that did its change
module _ (s : Session) (e : Effect) (a : Answered) (v p d out written guest : List ℕ) (id seq : ℕ) (r : Received) where
  pub answered-as : KindWritten e.kind (mode_of_number e.by) s.tool.seq id seq e.code (reply_data s.settings guest id d) out written a
      → serves (reply_kind (layout_of id)) e.kind ≡ true → (reply_kind (layout_of id) ≡ Silent → e.code ≡ OK)
      → r.after ≡ and_seq e.moved a.took_seq → paper r.answer ≡ handled a.count e.signal
      → told (done_by s r) v p written guest
      ≡ answering_of (mode_of_number e.by) id seq e.code d e.signal out guest (state (with_tool s (tool_after s.tool e.moved)) v p)
  unfolding answering_of
  answered-as w k ok m y =
      let b = same_answer (mode_of_number e.by) s.tool.seq id seq e.code (reply_data s.settings guest id d) (reply_kind (layout_of id)) e.kind k (code-only s.settings guest d id) in
      let n = kind-seq (reply_kind (layout_of id)) e.kind (mode_of_number e.by) s.tool.seq e.code k ok in
      rw (m, moved_as s e.moved a.took_seq, y, w.took, seq-stays s.tool e.moved, n, ← b) (simp (w.written.count, w.written.there))

-- ---- a message by its verdict

module _ (st : State) (id seq : ℕ) (d out guest : List ℕ) (m : ReplyMode) (q : Judgement) (j : m ≡ mode_of_number st.session.tool.mode)
    (h : q ≡ judgement (verdict st.session.settings (facts_for (asked_of st.session m (length guest)) st.vcpus d) id seq d) (reported_padding st.session.settings m id d))
  where
    verdict-is : q.verdict ≡ verdict st.session.settings (facts_in st (length guest) (vcpu_of d)) id seq d
    verdict-is =
        ap (λ (x : Judgement). x.verdict) h
        ∙ ap (λ (x : ReplyMode). verdict st.session.settings (facts_for (asked_of st.session x (length guest)) st.vcpus d) id seq d) j

    padding-is : q.padding ≡ reported_of st id d
    padding-is = ap (λ (x : Judgement). x.padding) h ∙ ap (λ (x : ReplyMode). reported_padding st.session.settings x id d) j

    -- what is reported beside the verdict
    reports-as : Reports q.padding q.verdict
    reports-as =
        subst (λ (x : Judgement). Reports x.padding x.verdict) (sym h)
        (reported st.session.settings (facts_for (asked_of st.session m (length guest)) st.vcpus d) id d seq)

    judged-as : reporting_of q.padding (judged_of st id seq d out guest q.verdict) ≡ handled_of st id seq d out guest
    unfolding handled_of
    judged-as =
        ap (λ (x : ℕ). reporting_of x (judged_of st id seq d out guest q.verdict)) padding-is
        ∙ ap (λ (x : Verdict). reporting_of (reported_of st id d) (judged_of st id seq d out guest x)) verdict-is

    move-as : judged_move st d guest q.verdict ≡ handled_move st id seq d guest
    unfolding handled_move
    move-as = ap (λ (x : Verdict). judged_move st d guest x) verdict-is

    pub closes-move : q.verdict ≡ Closes → Closed ≡ handled_move st id seq d guest
    unfolding judged_move
    closes-move i = ap (λ (x : Verdict). judged_move st d guest x) (sym i) ∙ move-as

    pub fails-move : (code : ℤ) → q.verdict ≡ Fails code → and_seq Nothing (tells (mode_of_number st.session.tool.mode) code) ≡ handled_move st id seq d guest
    unfolding judged_move
    fails-move code i = ap (λ (x : Verdict). judged_move st d guest x) (sym i) ∙ move-as

    pub does_move : (c : Change) (x : Enacted) → q.verdict ≡ Does c → x ≡ enacted_of st guest d c
        → and_seq x.moved (kind_tells x.kind x.mode x.changed.code) ≡ handled_move st id seq d guest
    unfolding judged_move
    does_move c x i k =
        ap (λ (y : Enacted). and_seq y.moved (kind_tells y.kind y.mode y.changed.code)) k
        ∙ ap (λ (y : Verdict). judged_move st d guest y) (sym i)
        ∙ move-as

    pub closes_as : q.verdict ≡ Closes → told_closing st out guest ≡ handled_of st id seq d out guest
    unfolding judged_of
    closes_as i =
        let none : q.padding ≡ 0 = rw i at reports-as in
        ap (λ (n : ℕ). reporting_of n (told_closing st out guest)) (sym none)
        ∙ ap (λ (x : Verdict). reporting_of q.padding (judged_of st id seq d out guest x)) (sym i)
        ∙ judged-as

    served-as : served (reply_kind (layout_of id)) q.verdict ≡ true
    served-as = rw verdict-is (verdict-served _ _ id seq d)

    -- a message that nothing answers does not fail
    code-as : reply_kind (layout_of id) ≡ Silent → code_by st guest d q.verdict ≡ OK
    code-as k = ap (λ (y : Verdict). code_by st guest d y) verdict-is ∙ reply-code st guest _ _ id seq d k

    pub fails-as : (code : ℤ) → q.verdict ≡ Fails code → failed_of st id seq code q.padding out guest ≡ handled_of st id seq d out guest
    unfolding judged_of answering_of
    fails-as code i =
        let wrong = rw i at served-as in
        let silent : reply_kind (layout_of id) ≡ Silent → ⊥ = λ k. let ok = rw i at (code-as k) in false≢true (rw ok at wrong) in
        let m = mode_of_number st.session.tool.mode in
        let b = error-answer m st.session.tool.seq id seq code (reply_data st.session.settings guest id d) (reply_kind (layout_of id)) wrong silent in
        rw b (ap (λ (x : Verdict). reporting_of q.padding (judged_of st id seq d out guest x)) (sym i) ∙ judged-as)

    -- the answer to what was done
    abbrev pub answered-by : Enacted → Told
    answered-by x = answering_of x.mode id seq x.changed.code d x.signal out x.changed.guest x.changed.state

    -- a change is answered by a kind that serves its message, meets no error where nothing answers, and its answer is the message's
    abbrev pub Follows : Enacted → Type 0
    Follows x =
        (serves (reply_kind (layout_of id)) x.kind ≡ true)
        × (reply_kind (layout_of id) ≡ Silent → x.changed.code ≡ OK)
        × (answered-by x ≡ handled_of st id seq d out guest)

    pub does-as : (c : Change) (x : Enacted) → q.verdict ≡ Does c → x ≡ enacted_of st guest d c → Follows x
    unfolding judged_of answering_of
    does-as c x i k = let none : q.padding ≡ 0 = rw i at reports-as in (
      ap (λ (y : Enacted). serves (reply_kind (layout_of id)) y.kind) k ∙ (rw i at served-as),
      λ q. ap (λ (y : Enacted). y.changed.code) k ∙ (rw i at (code-as q)),
      ap answered-by k
          ∙ ap (λ (n : ℕ). reporting_of n (answered-by (enacted_of st guest d c))) (sym none)
          ∙ ap (λ (y : Verdict). reporting_of q.padding (judged_of st id seq d out guest y)) (sym i)
          ∙ judged-as,
    )
