-- Workers for different vCPUs: lists of commands in whatever order they come. Assumes nothing.
use mathlib.Core.Path.{◌≡◌, refl, sym, ap, ◌∙◌, subst}
use mathlib.Core.Logic.{◌≢◌}
use Prim.Native.Nat.{ℕ, ◌+◌, ◌*◌, ◌/◌, ◌%◌}
use native.Mathlib.Omega.{arith}
use mathlib.Core.List.{List, [], ◌∷◌, ◌++◌, map}
use mathlib.Core.Bool.{true, false, So}
use lib.ListN.{length, get_or, replicate, length-replicate}
use lib.Seq.{ext_get_or}
use lib.Dec.{eqb}
use borrow.Author.Tests.{eqb-true, eqb-false, eq-eqb, ne_eqb}
use Rattle.kvmi.specs.declared.Settings.{Settings}
use Rattle.kvmi.specs.Mode.{mode_of_number}
use Rattle.kvmi.specs.Model.{Model}
use Rattle.kvmi.specs.Verdict.{replies_on}
use Rattle.kvmi.specs.Call.{Call, step, Began, after}
use Rattle.kvmi.specs.Call as model
use Rattle.store.specs.Words.{vcpu_word_count, field}
use Rattle.page_words.specs.PageWords.{page_word_count}
use Rattle.session.specs.State.{State, with_vcpu_words, is_closed}
use Rattle.session.specs.Calls.{Told, fresh_of}
use Rattle.session.specs.Meaning.{model_of}
use Rattle.image_reader.specs.Read.{read_of}
use Rattle.calls.specs.Given.{result_words, message_given}
use Rattle.laws.proofs.Bool.{test}
use Rattle.history.specs.History.{step_of, after_of, BeganOn}
use Rattle.history.specs.History as history
use Rattle.history.specs.Order.{Lent, call_of, IsVcpuCommand, vcpu_in, Answered, taken, on_words, taken_by, on_model, HostAnswer, by_host, SameBlock}
use Rattle.history.specs.Workers.{gets, leaves, of_vcpu, gets_of, Each, CommandsOn, CommandsBy, Apart, Interleaves, Names, TwoWorkers, Workers}
use Rattle.history.specs.Workers as lists
use Rattle.history.proofs.Lists.{Stands, step-stands, after-stands, step_same, began-stands}
use Rattle.history.proofs.VcpuCommand.{Edit, perform, perform-length, perform-other, perform-own, Local, local, closing}

-- ---- lists of commands, by their first
module _ {S G : Type 0} (take : S → Lent → G × S) (s : S) (c : Lent) (cs : List Lent) where
  gets-cons : gets take s (c ∷ cs) ≡ (take s c).0 ∷ gets take (take s c).1 cs
  gets-cons = unfold gets in refl

  leaves-cons : leaves take s (c ∷ cs) ≡ leaves take (take s c).1 cs
  leaves-cons = unfold leaves in refl

-- a command is of a vCPU or of another
module _ (v : ℕ) (c : Lent) (cs : List Lent) where
  of-own : vcpu_in c ≡ v → of_vcpu v (c ∷ cs) ≡ c ∷ of_vcpu v cs
  unfolding of_vcpu
  of-own e = rw (eq-eqb (vcpu_in c) v e)

  of_other : vcpu_in c ≢ v → of_vcpu v (c ∷ cs) ≡ of_vcpu v cs
  unfolding of_vcpu
  of_other d = rw (ne_eqb (vcpu_in c) v d)

  module _ {S G : Type 0} (take : S → Lent → G × S) (s : S) where
    gets-own : vcpu_in c ≡ v → gets_of take v s (c ∷ cs) ≡ (take s c).0 ∷ gets_of take v (take s c).1 cs
    unfolding gets_of
    gets-own e = rw (eq-eqb (vcpu_in c) v e)

    gets-other : vcpu_in c ≢ v → gets_of take v s (c ∷ cs) ≡ gets_of take v (take s c).1 cs
    unfolding gets_of
    gets-other d = rw (ne_eqb (vcpu_in c) v d)

-- by cases on that
pub by-vcpu : {A : Type 0} (v : ℕ) (c : Lent) → (vcpu_in c ≡ v → A) → (vcpu_in c ≢ v → A) → A
by-vcpu v c f g = test (eqb (vcpu_in c) v) (λ e. f (eqb-true (vcpu_in c) v e)) (λ e. g (eqb-false (vcpu_in c) v e))

-- ---- what holds of each command holds of those of each vCPU, and the other way
module _ (P : Lent → Type 0) where
  each_first : (c : Lent) (cs : List Lent) → Each P (c ∷ cs) → P c
  each_first c cs (lists.next x xs p ps) = p

  each-rest : (c : Lent) (cs : List Lent) → Each P (c ∷ cs) → Each P cs
  each-rest c cs (lists.next x xs p ps) = ps

  each_of : (v : ℕ) (cs : List Lent) → Each P cs → Each P (of_vcpu v cs)
  each_of v cs lists.none = unfold of_vcpu in lists.none
  each_of v cs (lists.next c xs p ps) =
      by-vcpu v c (λ e. subst (Each P) (sym (of-own v c xs e)) (lists.next c (of_vcpu v xs) p (each_of v xs ps)))
      (λ d. subst (Each P) (sym (of_other v c xs d)) (each_of v xs ps))

  of-each : (cs : List Lent) → ((v : ℕ) → Each P (of_vcpu v cs)) → Each P cs
  of-each [] h = lists.none
  of-each (c ∷ cs) h =
      lists.next c cs (each_first c _ (subst (Each P) (of-own (vcpu_in c) c cs refl) (h (vcpu_in c))))
      (of-each cs
      (λ v. by-vcpu v c (λ e. each-rest c _ (subst (Each P) (of-own v c cs e) (h v))) (λ d. subst (Each P) (of_other v c cs d) (h v))))

-- ---- on the lent words
-- words are the same where every block is
by_word : (x y : List ℕ) → ((v : ℕ) → SameBlock v x y) → (i : ℕ) → get_or x i 0 ≡ get_or y i 0
unfolding field
by_word x y block i =
    let place : i / 272 * 272 + i % 272 ≡ i = omega arith in
    subst (λ (j : ℕ). get_or x j 0 ≡ get_or y j 0) place (block (i / 272) (i % 272) (omega arith))

module _ (st : State) (opened : is_closed st ≡ false) (replies : replies_on (mode_of_number st.session.tool.mode) ≡ true) where
  abbrev on : List ℕ → State
  on w = with_vcpu_words st w

  abbrev Stays : Lent → Type 0
  Stays c = IsVcpuCommand c × ((taken st c).answer.number ≢ 1)

  -- a command does not close on other words either
  acts : (c : Lent) → Stays c → (w : List ℕ) → Local (on w) c
  acts c (i, n) w = local (on w) c opened replies i (λ e. n (closing (on w) st c refl opened opened replies replies i e))

  -- what it gives on words with the same block, and what it leaves
  module _ (c : Lent) (h : Stays c) (w : List ℕ) where
    abbrev edit : Edit
    edit = (acts c h w).0

    abbrev answered : Told → Answered
    answered r = record { answer = r.answer; out = r.out; guest = r.guest }

    gives : (x : List ℕ) → SameBlock (vcpu_in c) x w → (on_words (on x) c).0 ≡ (on_words (on w) c).0
    gives x same = ap answered ((acts c h w).1 x same) ∙ sym (ap answered ((acts c h w).1 w (λ k b. refl)))

    leaves-on : (x : List ℕ) → SameBlock (vcpu_in c) x w → (on_words (on x) c).1 ≡ on (perform x (vcpu_in c) edit)
    leaves-on x same = ap (λ (r : Told). r.state) ((acts c h w).1 x same)

    leaves-here : (on_words (on w) c).1 ≡ on (perform w (vcpu_in c) edit)
    leaves-here = leaves-on w (λ k b. refl)

  -- all that a list of them moves are the words, and there are as many after it
  kept : (cs : List Lent) → Each Stays cs → (w : List ℕ) → (y : List ℕ) × (leaves on_words (on w) cs ≡ on y) × (length y ≡ length w)
  unfolding leaves
  kept cs lists.none w = (w, refl, refl)
  kept cs (lists.next c xs h hs) w =
      let e = edit c h w in
      let rest = kept xs hs (perform w (vcpu_in c) e) in
      (rest.0, ap (λ (x : State). leaves on_words x xs) (leaves-here c h w) ∙ rest.1, rest.2 ∙ perform-length w (vcpu_in c) e)

  -- the commands of a vCPU get, on words that have its block, what they get in the whole list, and leave the block that it leaves
  follows : (v : ℕ) (cs : List Lent) → Each Stays cs → (w x : List ℕ) → length x ≡ length w → SameBlock v x w
      → (gets_of on_words v (on w) cs ≡ gets on_words (on x) (of_vcpu v cs)) × SameBlock v (leaves on_words (on x) (of_vcpu v cs)).vcpus (leaves on_words (on w) cs).vcpus
  follows v cs lists.none w x l same = unfold gets_of gets of_vcpu leaves in (refl, same)
  follows v cs (lists.next c xs h hs) w x l same =
      let e = edit c h w in
      by-vcpu v c
      (λ own. let same-own : SameBlock (vcpu_in c) x w = subst (λ (u : ℕ). SameBlock u x w) (sym own) same in
      let next : SameBlock v (perform x (vcpu_in c) e) (perform w (vcpu_in c) e)
      = subst (λ (u : ℕ). SameBlock u (perform x (vcpu_in c) e) (perform w (vcpu_in c) e)) own (perform-own w x (vcpu_in c) e l same-own) in
      let rest = follows v xs hs (perform w (vcpu_in c) e) (perform x (vcpu_in c) e) (perform-length x (vcpu_in c) e ∙ l ∙ sym (perform-length w (vcpu_in c) e)) next in
      rw (
        of-own v c xs own,
        gets-own v c xs on_words (on w) own,
        gets-cons on_words (on x) c (of_vcpu v xs),
        leaves-cons on_words (on x) c (of_vcpu v xs),
        leaves-cons on_words (on w) c xs,
        leaves-here c h w,
        leaves-on c h w x same-own,
        gives c h w x same-own,
        rest.0,
      )
      (refl, rest.1))
      (λ other. let rest
      = follows v xs hs (perform w (vcpu_in c) e) x (l ∙ sym (perform-length w (vcpu_in c) e)) (λ k b. same k b ∙ sym (perform-other w (vcpu_in c) v e (λ q. other (sym q)) k b)) in
      rw (of_other v c xs other, gets-other v c xs on_words (on w) other, leaves-cons on_words (on w) c xs, leaves-here c h w) rest)

  -- lists that have the same commands for each vCPU leave the same words
  same-words : (cs ds : List Lent) → Each Stays cs → Each Stays ds → ((v : ℕ) → of_vcpu v ds ≡ of_vcpu v cs) → (w : List ℕ) → leaves on_words (on w) ds ≡ leaves on_words (on w) cs
  same-words cs ds hs gs same w =
      let p = kept cs hs w in
      let q = kept ds gs w in
      let block : (v : ℕ) → SameBlock v q.0 p.0
      = λ v k b. ap (λ (x : State). field x.vcpus v k) (sym q.1) ∙ sym ((follows v ds gs w w refl (λ j _. refl)).1 k b)
      ∙ ap (λ (l : List Lent). field (leaves on_words (on w) l).vcpus v k) (same v) ∙ (follows v cs hs w w refl (λ j _. refl)).1 k b ∙ ap (λ (x : State). field x.vcpus v k) p.1 in
      q.1 ∙ ap on (ext_get_or 0 q.0 p.0 (q.2 ∙ sym p.2) (λ i _. by_word q.0 p.0 block i)) ∙ sym p.1

pub on-words : (st : State) (cs : List Lent) → CommandsOn st cs → Apart on_words st cs
on-words st cs h =
    record {
      answers = λ v. (follows st h.opened h.replies v cs h.each st.vcpus st.vcpus refl (λ k _. refl)).0;
      session =
          λ ds same. same-words st h.opened h.replies cs ds h.each
          (of-each (Stays st h.opened h.replies) ds
          (λ v. subst (Each (Stays st h.opened h.replies)) (sym (same v)) (each_of (Stays st h.opened h.replies) v cs h.each)))
          same
          st.vcpus;
    }

-- ---- on what stands for a session: f of it, where a call gives g of what it gives there
module _ {S T G H : Type 0} (take : S → Lent → G × S) (take' : T → Lent → H × T) (P : S → Type 0) (f : S → T) (g : G → H)
    (holds : (s : S) → P s → (c : Lent) → ((take' (f s) c).0 ≡ g (take s c).0) × ((take' (f s) c).1 ≡ f (take s c).1) × P (take s c).1) where
  gets-same : (cs : List Lent) (s : S) → P s → gets take' (f s) cs ≡ map g (gets take s cs)
  unfolding gets
  gets-same [] s p = refl
  gets-same (c ∷ cs) s p = let q = holds s p c in rw (q.0, q.1, gets-same cs (take s c).1 q.2)

  leaves-same : (cs : List Lent) (s : S) → P s → leaves take' (f s) cs ≡ f (leaves take s cs)
  unfolding leaves
  leaves-same [] s p = refl
  leaves-same (c ∷ cs) s p = let q = holds s p c in rw q.1 (leaves-same cs (take s c).1 q.2)

  gets_of-same : (v : ℕ) (cs : List Lent) (s : S) → P s → gets_of take' v (f s) cs ≡ map g (gets_of take v s cs)
  unfolding gets_of
  gets_of-same v [] s p = refl
  gets_of-same v (c ∷ cs) s p =
      let q = holds s p c in
      let rest = gets_of-same v cs (take s c).1 q.2 in
      test (eqb (vcpu_in c) v) (λ e. rw (e, q.0, q.1, rest)) (λ e. rw (e, q.1, rest))

  apart-same : (cs : List Lent) (s : S) → P s → Apart take s cs → Apart take' (f s) cs
  apart-same cs s p a =
      record {
        answers = λ v. gets_of-same v cs s p ∙ ap (map g) (a.answers v) ∙ sym (gets-same (of_vcpu v cs) s p);
        session = λ ds same. leaves-same ds s p ∙ ap f (a.session ds same) ∙ sym (leaves-same cs s p);
      }

-- ---- as a host gets it
abbrev words_of : Answered → HostAnswer
words_of r = record { code = r.answer.number; result = result_words r.answer; out = r.out; guest = r.guest }

pub by-host : (st : State) (cs : List Lent) → CommandsOn st cs → Apart by_host st cs
unfolding message_given
by-host st cs h = apart-same on_words by_host (λ _. So true) (λ s. s) words_of (λ s _ c. (refl, refl, refl)) cs st refl (on-words st cs h)

-- ---- on the model
module _ (s : Settings) where
  abbrev Modelled : State → Type 0
  Modelled st = Stands s st (model_of st)

  modelled : (st : State) → Modelled st → (c : Lent)
      → ((on_model s (model_of st) c).0 ≡ (on_words st c).0) × ((on_model s (model_of st) c).1 ≡ model_of (on_words st c).1) × Modelled (on_words st c).1
  unfolding step_of step
  modelled st f c =
      let same = step_same s st (model_of st) (call_of c) f in
      let next = step-stands s st (model_of st) (call_of c) f in
      ((λ i. record { answer = sym same.0 i; out = sym same.1 i; guest = sym same.2 i }), sym next.model, record { formed = next.formed; settings = next.settings; model = refl })

-- a model is that of a session on words of zeros
began-on : (s : Settings) (m : Model) → Began s m → (st : State) × BeganOn s st m
began-on s m (model.anew ok) =
    let v : List ℕ = replicate vcpu_word_count 0 in
    let p : List ℕ = replicate page_word_count 0 in
    ((fresh_of s v p).state, history.anew v p (length-replicate {A = ℕ} vcpu_word_count 0) (length-replicate {A = ℕ} page_word_count 0) ok)
began-on s m (model.from_image l t ok e) =
    let v : List ℕ = replicate vcpu_word_count 0 in
    let p : List ℕ = replicate page_word_count 0 in
    ((read_of s l v p).state, history.from_image v p (length-replicate {A = ℕ} vcpu_word_count 0) (length-replicate {A = ℕ} page_word_count 0) l t ok e)

each_map : (P Q : Lent → Type 0) → ((c : Lent) → P c → Q c) → (cs : List Lent) → Each P cs → Each Q cs
each_map P Q f cs lists.none = lists.none
each_map P Q f cs (lists.next c xs p ps) = lists.next c xs (f c p) (each_map P Q f xs ps)

pub on-model : (s : Settings) (m : Model) → Began s m → (before : List Call) (cs : List Lent) → CommandsBy s (after s m before) cs → Apart (on_model s) (after s m before) cs
on-model s m b before cs h = by (began-on s m b)
  where
    k : Model
    k = after s m before

    by_state : (st : State) → Stands s st k → Apart (on_model s) (model_of st) cs
    by_state st f =
        let here : Modelled s st = record { formed = f.formed; settings = f.settings; model = refl } in
        let commands : CommandsOn st cs
        = record {
          opened = ap (λ (x : Model). x.closed) f.model ∙ h.opened;
          replies = ap (λ (x : Model). replies_on x.mode) f.model ∙ h.replies;
          each =
              each_map _ _
              (λ c p. (p.0, λ e. p.1 (ap (λ (x : Model). (taken_by s x c).answer.number) (sym f.model) ∙ ap (λ (r : Answered). r.answer.number) (modelled s st here c).0 ∙ e))) cs
              h.each;
        } in
        apart-same on_words (on_model s) (Modelled s) model_of (λ r. r) (modelled s) cs st here (on-words st cs commands)

    by : (st : State) × BeganOn s st m → Apart (on_model s) k cs
    by (st, o) =
        let f = after-stands s st m before (began-stands s st m o) in
        subst (λ (x : Model). Apart (on_model s) x cs) f.model (by_state (after_of st before) f)

-- ---- two workers
-- the commands of each vCPU in an interleaving
record Parts (v u : ℕ) (xs ys cs : List Lent) : Type 0 where
  first : of_vcpu v cs ≡ xs
  second : of_vcpu u cs ≡ ys
  others : (w : ℕ) → w ≢ v → w ≢ u → of_vcpu w cs ≡ []

parts : (v u : ℕ) (xs ys cs : List Lent) → v ≢ u → Names v xs → Names u ys → Interleaves xs ys cs → Parts v u xs ys cs
parts v u xs ys cs d n m lists.none = unfold of_vcpu in record { first = refl; second = refl; others = λ w _ _. refl }
parts v u xs ys cs d n m (lists.first c xs' ys' cs' i) =
    let e = each_first _ c xs' n in
    let rest = parts v u xs' ys' cs' d (each-rest _ c xs' n) m i in
    record {
      first = of-own v c cs' e ∙ ap (λ (l : List Lent). c ∷ l) rest.first;
      second = of_other u c cs' (λ q. d (sym e ∙ q)) ∙ rest.second;
      others = λ w a b. of_other w c cs' (λ q. a (sym q ∙ e)) ∙ rest.others w a b;
    }
parts v u xs ys cs d n m (lists.second c xs' ys' cs' i) =
    let e = each_first _ c ys' m in
    let rest = parts v u xs' ys' cs' d n (each-rest _ c ys' m) i in
    record {
      first = of_other v c cs' (λ q. d (sym q ∙ e)) ∙ rest.first;
      second = of-own u c cs' e ∙ ap (λ (l : List Lent). c ∷ l) rest.second;
      others = λ w a b. of_other w c cs' (λ q. b (sym q ∙ e)) ∙ rest.others w a b;
    }

-- one list behind the other is an interleaving, too
one_by_one : (xs ys : List Lent) → Interleaves xs ys (xs ++ ys)
one_by_one [] [] = lists.none
one_by_one [] (y ∷ ys) = lists.second y [] ys ys (one_by_one [] ys)
one_by_one (x ∷ xs) ys = lists.first x xs ys (xs ++ ys) (one_by_one xs ys)

-- and two interleavings have the same commands for each vCPU
parts_same : (v u : ℕ) (xs ys cs ds : List Lent) → Parts v u xs ys cs → Parts v u xs ys ds → (w : ℕ) → of_vcpu w ds ≡ of_vcpu w cs
parts_same v u xs ys cs ds p q w =
    test (eqb w v) (λ e. rw (eqb-true w v e) (q.first ∙ sym p.first))
    (λ a. test (eqb w u) (λ e. rw (eqb-true w u e) (q.second ∙ sym p.second))
    (λ b. q.others w (eqb-false w v a) (eqb-false w u b) ∙ sym (p.others w (eqb-false w v a) (eqb-false w u b))))

two-workers : {S G : Type 0} (take : S → Lent → G × S) (s : S) (v u : ℕ) (xs ys cs : List Lent) → v ≢ u → Names v xs → Names u ys → Interleaves xs ys cs
    → Apart take s cs → TwoWorkers take s v u xs ys cs
two-workers take s v u xs ys cs d n m i a =
    let p = parts v u xs ys cs d n m i in
    record {
      first = a.answers v ∙ ap (gets take s) p.first;
      second = a.answers u ∙ ap (gets take s) p.second;
      session = sym (a.session (xs ++ ys) (parts_same v u xs ys cs (xs ++ ys) p (parts v u xs ys (xs ++ ys) d n m (one_by_one xs ys))));
    }

pub workers : Workers
workers =
    record {
      words = on-words;
      hosts = by-host;
      models = on-model;
      closing = λ st st' c same h h' i. closing st st' c same h.opened h'.opened h.replies h'.replies i;
      two =
          λ st v u xs ys cs d n m i h. (two-workers on_words st v u xs ys cs d n m i (on-words st cs h), two-workers by_host st v u xs ys cs d n m i (by-host st cs h));
    }
