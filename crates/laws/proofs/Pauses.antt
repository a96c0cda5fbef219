-- Pauses queued at the start plus pauses accepted equals pause events sent plus pauses queued, for each vCPU. Assumes nothing.
use mathlib.Core.Path.{◌≡◌, refl, sym, ap, ◌∙◌}
use Prim.Native.Nat.{ℕ, zero, suc, ◌+◌, ◌-◌, ◌%◌, ◌≤◌, ◌<◌}
use native.Mathlib.Nat.{add-zero, zero-add}
use native.Mathlib.Omega.{arith}
use mathlib.Core.List.{List, [], ◌∷◌, ◌++◌}
use mathlib.Core.Bool.{Bool, true, false, cond, not, ◌&&◌, So, true≢false}
use mathlib.Core.Option.{Option, none, some}
use lib.IntN.{ℤ}
use lib.ListN.{length, get_or, set, drop}
use lib.Seq.{get_or-set_same, get_or-set_other, set_out}
use lib.Dec.{leb, eqb, ltb}
use borrow.Author.Tests.{leb-true, leb-false, ltb-true, ltb-false, eqb-true, eqb-false, eq-eqb, ne_eqb}
use Rattle.std.specs.Prelude.{Some, None}
use Rattle.wire.specs.Header.{HeaderRead, header_of}
use Rattle.kvmi.specs.declared.Settings.{Settings}
use Rattle.kvmi.specs.declared.Feed.{Feed}
use Rattle.kvmi.specs.declared.Signal.{Signal}
use Rattle.kvmi.specs.declared.Signal.TheVariants.{Quiet, Crash}
use Rattle.kvmi.specs.declared.Change.{Change}
use Rattle.kvmi.specs.declared.Change.TheVariants.{Nothing, SetVmEvent, WritePhysical, QueuePause, SetVcpuEvent, SetCr, SetMsr, SetPages, SetSinglestep, SetReplies, EndWait}
use Rattle.kvmi.specs.declared.Verdict.{Verdict}
use Rattle.kvmi.specs.declared.Verdict.TheVariants.{Closes, Fails, Does}
use Rattle.kvmi.specs.Bits.{bit}
use Rattle.kvmi.specs.Tables.{Vcpu, Tables, resting, vcpu_at, set_vcpu, with_ready, with_pauses}
use Rattle.kvmi.specs.Model.{Model, on_vcpu, awaited_by, is_some}
use Rattle.kvmi.specs.Message.{names_vcpu, vcpu_of, enables}
use Rattle.kvmi.specs.Verdict.{facts_of, change_of, verdict}
use Rattle.kvmi.specs.Change.{Applied, apply, signal_of, reply_signal}
use Rattle.kvmi.specs.Settings.{in_range}
use Rattle.kvmi.specs.Event.{offer_fits, is_asked_for}
use Rattle.kvmi.specs.Reply.{event_bytes, pause_event}
use Rattle.kvmi.specs.Valid.{Valid}
use Rattle.kvmi.specs.Image.{image}
use Rattle.kvmi.specs.Call.{Call, message, ready, enter, write_image, Step, answering, judged, headed, unchanged, message_step, ready_step, sending, pausing, dequeuing, entering, enter_step, awaits_any, image_step, step, move, after}
use Rattle.kvmi.specs.Answer.{plain, resume}
use Rattle.kvmi.specs.Pauses.{kicks, accepted, sent, queued, accepted_in, sent_in}
use Rattle.laws.proofs.Bool.{test, clash}
use Rattle.laws.proofs.Verdicts.{pick, Passed, ending, verdict-cases, sound-of}
use Rattle.laws.proofs.Events.{asked-small, asked-no-pause, event-number, event-long}
use Rattle.laws.proofs.Same.{count-is}
use Rattle.laws.proofs.Steps.{step_kept}

-- the sum over one call that leaves the session open
abbrev Balanced : ℕ → Model → Call → Step → Type 0
Balanced vcpu m c r = r.model.closed ≡ false → queued vcpu m + accepted vcpu r.answer ≡ sent vcpu c r.answer r.out + queued vcpu r.model

-- one vCPU's record changed: the others' queues stay
queue-of : (t : Tables) (i v : ℕ) (x : Vcpu) → i < length t.vcpus → (vcpu_at (set_vcpu t i x) v).pauses ≡ cond (eqb i v) x.pauses (vcpu_at t v).pauses
queue-of t i v x h =
    test (eqb i v)
    (λ e. rw (e, ← eqb-true i v e, get_or-set_same t.vcpus i x resting h))
    (λ e. rw (e, get_or-set_other t.vcpus i v x resting (λ q. eqb-false i v e (sym q))))

-- a change that keeps the queue of the vCPU that it names, inside or not
queue-kept : (t : Tables) (i v : ℕ) (x : Vcpu) → x.pauses ≡ (vcpu_at t i).pauses → (vcpu_at (set_vcpu t i x) v).pauses ≡ (vcpu_at t v).pauses
queue-kept t i v x e =
    test (ltb i (length t.vcpus))
    (λ h. queue-of t i v x (ltb-true i (length t.vcpus) h) ∙ same (eqb i v) refl)
    (λ h. rw (set_out t.vcpus i x (ltb-false i (length t.vcpus) h)))
  where
    same : (b : Bool) → eqb i v ≡ b → cond b x.pauses (vcpu_at t v).pauses ≡ (vcpu_at t v).pauses
    same true q = e ∙ ap (λ (k : ℕ). (vcpu_at t k).pauses) (eqb-true i v q)
    same false q = refl

none-sent : (t : Bool) → bit (t && false) ≡ 0
none-sent true = refl
none-sent false = refl

module _ (s : Settings) (vcpu : ℕ) where
  -- a change and its signal
  abbrev Even : Model → List ℕ → List ℕ → Change → Type 0
  Even m guest d c = queued vcpu m + kicks vcpu (signal_of c) ≡ queued vcpu (apply s m guest d c).model

  pause-even : (m : Model) (guest d : List ℕ) → Valid s m.tables → Passed s (facts_of m (length guest) (vcpu_of d)) 9 d → Even m guest d (QueuePause (enables 9 d) (vcpu_of d))
  unfolding apply queued names_vcpu
  pause-even m guest d a p =
      let i = vcpu_of d in
      let t = m.tables in
      let inside : i < length t.vcpus = let w = leb-false s.vcpus i (sound-of s 9 d p.valid).vcpu in let c = count-is s t a in omega arith in
      test (eqb i vcpu)
      (λ e. let q = queue-of t i vcpu (with_pauses (vcpu_at t i) ((vcpu_at t i).pauses + 1)) inside in
      let same : (vcpu_at t i).pauses ≡ (vcpu_at t vcpu).pauses = ap (λ (k : ℕ). (vcpu_at t k).pauses) (eqb-true i vcpu e) in
      rw e (rw q (rw e (ap (λ (k : ℕ). k + 1) (sym same)))))
      (λ e. let q = queue-of t i vcpu (with_pauses (vcpu_at t i) ((vcpu_at t i).pauses + 1)) inside in rw e (rw q (rw e (add-zero _))))

  change-even : (m : Model) (guest d : List ℕ) → Valid s m.tables → (id : ℕ) → Passed s (facts_of m (length guest) (vcpu_of d)) id d → Even m guest d (change_of id d)
  unfolding change_of apply queued
  change-even m guest d a id p =
      let keep : (x : Vcpu) → x.pauses ≡ (vcpu_at m.tables (vcpu_of d)).pauses → queued vcpu m + 0 ≡ (vcpu_at (set_vcpu m.tables (vcpu_of d) x) vcpu).pauses
      = λ x e. add-zero _ ∙ sym (queue-kept m.tables (vcpu_of d) vcpu x e) in
      pick (Even m guest d) (eqb id 5) _ _ (λ _. add-zero _)
      (λ _. pick (Even m guest d) (eqb id 7) _ _ (λ _. add-zero _)
      (λ _. pick (Even m guest d) (eqb id 9) _ _ (λ e. pause-even m guest d a (rw (eqb-true id 9 e) at p))
      (λ _. pick (Even m guest d) (eqb id 10) _ _ (λ _. keep _ refl)
      (λ _. pick (Even m guest d) (eqb id 11) _ _ (λ _. keep _ refl)
      (λ _. pick (Even m guest d) (eqb id 12) _ _ (λ _. add-zero _)
      (λ _. pick (Even m guest d) (eqb id 13) _ _ (λ _. add-zero _)
      (λ _. pick (Even m guest d) (eqb id 14) _ _ (λ _. keep _ refl)
      (λ _. pick (Even m guest d) (eqb id 15) _ _ (λ _. add-zero _) (λ _. add-zero _)))))))))

  -- the reply to an event kicks no vCPU
  no-kick : (resumes : Bool) (v action value : ℕ) (feed : Feed) → kicks vcpu (reply_signal resumes v action value feed) ≡ 0
  no-kick resumes v action value feed =
      pick (λ (g : Signal). kicks vcpu g ≡ 0) (eqb action 2) _ _ (λ _. refl)
      (λ _. pick (λ (g : Signal). kicks vcpu g ≡ 0) resumes (resume v action value feed) Quiet (λ _. refl) (λ _. refl))

  end-even : (m : Model) (guest d : List ℕ) (resumes : Bool) (v action value : ℕ) (feed : Feed) → Even m guest d (EndWait resumes v action value feed)
  unfolding apply queued
  end-even m guest d resumes v action value feed = ap (λ (k : ℕ). queued vcpu m + k) (no-kick resumes v action value feed) ∙ add-zero _

  -- each call
  still : (m : Model) (c : Call) (k : ℕ) (out guest : List ℕ) → sent vcpu c (plain k) out ≡ 0 → Balanced vcpu m c (unchanged k m out guest)
  unfolding accepted
  still m c k out guest z _ = rw z (add-zero _ ∙ sym (zero-add _))

  message-balanced : (m : Model) (msg out guest : List ℕ) → Valid s m.tables → Balanced vcpu m (message msg out guest) (message_step s m msg out guest)
  unfolding message_step headed judged answering accepted sent queued
  message-balanced m msg out guest a =
      pick B m.closed _ _ (λ _. still m c 2 out guest refl)
      (λ _. pick B (ltb (length out) 4112) _ _ (λ _. still m c 3 out guest refl)
      (λ _. by-header (header_of msg)))
    where
      c : Call
      c = message msg out guest

      B : Step → Type 0
      B = Balanced vcpu m (message msg out guest)

      by-header : (h : HeaderRead) → Balanced vcpu m (message msg out guest) (headed s m (drop 8 msg) out guest h)
      by-header None = λ q. absurd (true≢false q)
      by-header (Some h) =
          let d = drop 8 msg in
          verdict-cases (λ v. Balanced vcpu m (message msg out guest) (judged s m h.id h.seq d out guest v)) s (facts_of m (length guest) (vcpu_of d)) h.id h.seq d
          (λ q. absurd (true≢false q)) (λ code _ _. add-zero _ ∙ sym (zero-add _)) (λ p _. change-even m guest d a h.id p ∙ sym (zero-add _))
          (λ _ _ _. end-even m guest d _ (vcpu_of d) _ _ _ ∙ sym (zero-add _))

  ready-balanced : (m : Model) (v : ℕ) → Balanced vcpu m (ready v) (ready_step s m v)
  unfolding ready_step accepted sent queued
  ready-balanced m v =
      pick (Balanced vcpu m (ready v)) m.closed _ _ (λ _. still m (ready v) 2 [] [] refl)
      (λ _. pick (Balanced vcpu m (ready v)) (leb s.vcpus v) _ _ (λ _. still m (ready v) 4 [] [] refl)
      (λ _ _. add-zero _ ∙ sym (queue-kept m.tables v vcpu (with_ready (vcpu_at m.tables v) true) refl) ∙ sym (zero-add _)))

  image-balanced : (m : Model) (out : List ℕ) → Balanced vcpu m (write_image out) (image_step m out)
  unfolding image_step accepted sent queued
  image-balanced m out =
      let b : (k : ℕ) → Balanced vcpu m (write_image out) (unchanged k m out []) = λ k. still m (write_image out) k out [] refl in
      pick (Balanced vcpu m (write_image out)) m.closed _ _ (λ _. b 2)
      (λ _. pick (Balanced vcpu m (write_image out)) (awaits_any m.awaited) _ _ (λ _. b 10)
      (λ _. pick (Balanced vcpu m (write_image out)) (ltb (length out) (length (image m.tables))) _ _ (λ _. b 3) (λ _ _. add-zero _ ∙ sym (zero-add _))))

  enter-balanced : (m : Model) (v : ℕ) (block : List ℕ) (event : ℕ) (own out : List ℕ) → Valid s m.tables
      → Balanced vcpu m (enter v block event own out) (enter_step s m v block event own out)
  unfolding enter_step entering sending dequeuing pausing pause_event accepted sent queued
  enter-balanced m v block event own out a =
      pick B m.closed _ _ (λ _. b 2)
      (λ _. pick B (leb s.vcpus v) _ _ (λ _. b 4)
      (λ few. pick B (not (eqb (length block) 536 && offer_fits event own)) _ _ (λ _. b 5)
      (λ _. pick B (ltb (length out) 576) _ _ (λ _. b 3)
      (λ _. pick B (is_some (awaited_by m v)) _ _ (λ _. b 6)
      (λ _. pick B (is_asked_for m.tables v event own) _ _ (λ asked _. offered asked)
      (λ _. pick B (leb 1 (vcpu_at m.tables v).pauses) _ _ (λ one _. pauses few one) (λ _ _. rest)))))))
    where
      B : Step → Type 0
      B = Balanced vcpu m (enter v block event own out)

      b : (k : ℕ) → Balanced vcpu m (enter v block event own out) (unchanged k m out [])
      b k = still m (enter v block event own out) k out [] (none-sent (eqb v vcpu))

      rest : (vcpu_at m.tables vcpu).pauses + 0 ≡ bit (eqb v vcpu && false) + (vcpu_at m.tables vcpu).pauses
      rest = rw (none-sent (eqb v vcpu)) (add-zero _ ∙ sym (zero-add _))

      -- the pause events among what is written, in terms of its bytes
      wrote : List ℕ → ℕ
      wrote l = bit (eqb v vcpu && (not (eqb (length l) 0) && eqb (get_or (l ++ drop (length l) out) 12 0) 2))

      -- an offered event is not event 2
      offered : is_asked_for m.tables v event own ≡ true → (vcpu_at m.tables vcpu).pauses + 0 ≡ wrote (event_bytes m.seq v event block own) + (vcpu_at m.tables vcpu).pauses
      offered asked =
          let small = asked-small m.tables v event own asked in
          let l = event_bytes m.seq v event block own in
          let same : event % 256 ≡ event = omega arith in
          let other : eqb (get_or (l ++ drop (length l) out) 12 0) 2 ≡ false = rw (event-number m.seq v event block own (drop (length l) out), same) (asked-no-pause m.tables v event own asked) in
          rw (event-long m.seq v event block own, other) rest

      pauses : leb s.vcpus v ≡ false → leb 1 (vcpu_at m.tables v).pauses ≡ true
          → (vcpu_at m.tables vcpu).pauses + 0 ≡ wrote (pause_event m.seq v block)
          + (vcpu_at (set_vcpu m.tables v (with_pauses (vcpu_at m.tables v) ((vcpu_at m.tables v).pauses - 1))) vcpu).pauses
      pauses few one =
          let t = m.tables in
          let p = (vcpu_at t v).pauses in
          let inside : v < length t.vcpus = let w = leb-false s.vcpus v few in let c = count-is s t a in omega arith in
          let q = queue-of t v vcpu (with_pauses (vcpu_at t v) (p - 1)) inside in
          let some-queued = leb-true 1 p one in
          test (eqb v vcpu)
          (λ e. let same : p ≡ (vcpu_at t vcpu).pauses = ap (λ (k : ℕ). (vcpu_at t k).pauses) (eqb-true v vcpu e) in
          rw (q, e, event-long m.seq v 2 block [], event-number m.seq v 2 block [] (drop (length (pause_event m.seq v block)) out)) (omega arith))
          (λ e. rw (q, e) (add-zero _ ∙ sym (zero-add _)))

  pub step-balanced : (m : Model) (c : Call) → Valid s m.tables → Balanced vcpu m c (step s m c)
  unfolding step
  step-balanced m (message msg out guest) a = message-balanced m msg out guest a
  step-balanced m (ready v) a = ready-balanced m v
  step-balanced m (enter v block event own out) a = enter-balanced m v block event own out a
  step-balanced m (write_image out) a = image-balanced m out

-- ---- a closed session stays closed
pub closed-stays : (s : Settings) (m : Model) (cs : List Call) → m.closed ≡ true → (after s m cs).closed ≡ true
unfolding after move step message_step ready_step enter_step image_step
closed-stays s m [] h = h
closed-stays s m (c ∷ cs) h = closed-stays s (step s m c).model cs (one c)
  where
    one : (c : Call) → (step s m c).model.closed ≡ true
    one (message msg out guest) = rw h
    one (ready v) = rw h
    one (enter v block event own out) = rw h
    one (write_image out) = rw h

-- pauses queued at the start plus pauses accepted equals pause events sent plus pauses queued, over any calls after which the session is open; the
-- start is any model with valid tables, as there are after every list of calls (`reached-valid`)
pub pauses-balanced : (s : Settings) (ok : So (in_range s)) (vcpu : ℕ) (m : Model) (cs : List Call) → Valid s m.tables → (after s m cs).closed ≡ false
    → queued vcpu m + accepted_in vcpu s m cs ≡ sent_in vcpu s m cs + queued vcpu (after s m cs)
unfolding after move accepted_in sent_in
pauses-balanced s ok vcpu m [] a h = add-zero _ ∙ sym (zero-add _)
pauses-balanced s ok vcpu m (c ∷ cs) a h =
    let k = (step s m c).model in
    let opened : k.closed ≡ false = test k.closed (λ e. clash (closed-stays s k cs e) h) (λ e. e) in
    let one = step-balanced s vcpu m c a opened in
    let rest = pauses-balanced s ok vcpu k cs (step_kept s ok m c a) h in
    omega arith
