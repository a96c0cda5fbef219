-- A change is answered by a kind of reply that writes what its message's kind does, and a message that fails by a code. Assumes nothing.
use mathlib.Core.Path.{◌≡◌, refl}
use mathlib.Core.List.{List, []}
use mathlib.Core.Bool.{Bool, true, false, ◌&&◌, cond, false≢true}
use Prim.Native.Nat.{ℕ, ◌<◌}
use native.Mathlib.Omega.{arith}
use lib.IntN.{ℤ}
use lib.Dec.{eqb, leb}
use borrow.Author.Tests.{leb-true, eqb-false}
use Rattle.kvmi.specs.declared.Facts.{Facts}
use Rattle.kvmi.specs.declared.ReplyKind.{ReplyKind}
use Rattle.kvmi.specs.declared.ReplyKind.TheVariants.{CodeOnly, WithData, Silent}
use Rattle.kvmi.specs.declared.ReplyMode.{ReplyMode}
use Rattle.kvmi.specs.declared.ReplyMode.TheVariants.{On, Off, ErrorsOnly}
use Rattle.kvmi.specs.declared.Settings.{Settings}
use Rattle.kvmi.specs.declared.Verdict.{Verdict}
use Rattle.kvmi.specs.declared.Verdict.TheVariants.{Closes, Fails, Does}
use Rattle.kvmi.specs.Codes.{OK, is_error}
use Rattle.kvmi.specs.Message.{layout_of, reply_kind}
use Rattle.kvmi.specs.Model.{next_seq}
use Rattle.kvmi.specs.Reply.{reply_bytes, answer_bytes, answer_seq, answer_of}
use Rattle.kvmi.specs.Verdict.{verdict, change_of}
use Rattle.laws.proofs.Bool.{and_r}
use Rattle.laws.proofs.Verdicts.{Passed, verdict-cases}
use Rattle.reply.specs.Off.{tells, kind_tells, kind_data}
use Rattle.reply.proofs.Data.{below}
use Rattle.change.specs.Effect.{kind_of}

-- of a message whose reply is of the first kind, whether an answer of the second is as good: data may be none
abbrev pub serves : ReplyKind → ReplyKind → Bool
serves CodeOnly CodeOnly = true
serves CodeOnly WithData = true
serves CodeOnly Silent = false
serves WithData CodeOnly = false
serves WithData WithData = true
serves WithData Silent = false
serves Silent CodeOnly = false
serves Silent WithData = false
serves Silent Silent = true

-- ---- the answer and its seq
module _ (mode : ReplyMode) (next id seq : ℕ) (code : ℤ) (d : List ℕ) where
  pub same_answer : (k x : ReplyKind) → serves k x ≡ true → (k ≡ CodeOnly → d ≡ []) → answer_of x mode next id seq code (kind_data x d) ≡ answer_of k mode next id seq code d
  unfolding answer_of
  same_answer CodeOnly CodeOnly h e = rw (e refl)
  same_answer CodeOnly WithData h e = refl
  same_answer CodeOnly Silent h e = absurd (false≢true h)
  same_answer WithData CodeOnly h e = absurd (false≢true h)
  same_answer WithData WithData h e = refl
  same_answer WithData Silent h e = absurd (false≢true h)
  same_answer Silent CodeOnly h e = absurd (false≢true h)
  same_answer Silent WithData h e = absurd (false≢true h)
  same_answer Silent Silent h e = refl

  -- an error has no data
  bare : (m : ReplyMode) → is_error code ≡ true → answer_bytes m next id seq code [] ≡ answer_bytes m next id seq code d
  unfolding answer_bytes reply_bytes
  bare On e = rw e
  bare Off e = refl
  bare ErrorsOnly e = refl

  pub error-answer : (k : ReplyKind) → is_error code ≡ true → (k ≡ Silent → ⊥) → answer_bytes mode next id seq code [] ≡ answer_of k mode next id seq code d
  unfolding answer_of
  error-answer CodeOnly e h = bare mode e
  error-answer WithData e h = bare mode e
  error-answer Silent e h = absurd (h refl)

pub tells-seq : (m : ReplyMode) (n : ℕ) (code : ℤ) → cond (tells m code) (next_seq n) n ≡ answer_seq m n code
unfolding tells answer_seq
tells-seq On n code = refl
tells-seq Off n code = refl
tells-seq ErrorsOnly n code = refl

ok-seq : (m : ReplyMode) (n : ℕ) → n ≡ answer_seq m n OK
unfolding answer_seq
ok-seq On n = refl
ok-seq Off n = refl
ok-seq ErrorsOnly n = refl

pub kind-seq : (k x : ReplyKind) (m : ReplyMode) (n : ℕ) (code : ℤ) → serves k x ≡ true → (k ≡ Silent → code ≡ OK)
    → cond (kind_tells x m code) (next_seq n) n ≡ answer_seq m n code
unfolding kind_tells
kind-seq k CodeOnly m n code h e = tells-seq m n code
kind-seq k WithData m n code h e = tells-seq m n code
kind-seq CodeOnly Silent m n code h e = absurd (false≢true h)
kind-seq WithData Silent m n code h e = absurd (false≢true h)
kind-seq Silent Silent m n code h e = rw (e refl) (ok-seq m n)

-- ---- by the verdict
abbrev pub served : ReplyKind → Verdict → Bool
served k Closes = true
served k (Fails code) = is_error code
served k (Does c) = serves k (kind_of c)

below-16 : (id : ℕ) → (leb 1 id && leb id 16) ≡ true → eqb id 16 ≡ false → id < 16
below-16 id h e = omega (arith, leb-true id 16 (and_r (leb 1 id) (leb id 16) h), eqb-false id 16 e)

module _ (s : Settings) (f : Facts) (id seq : ℕ) (d : List ℕ) where
  does : Passed s f id d → serves (reply_kind (layout_of id)) (kind_of (change_of id d)) ≡ true
  unfolding layout_of change_of
  does p = below (λ k. serves (reply_kind (layout_of k)) (kind_of (change_of k d))) 16 id refl (below-16 id p.admitted.known p.command)

  ends : id ≡ 16 → serves (reply_kind (layout_of id)) Silent ≡ true
  unfolding layout_of
  ends e = rw e

  pub verdict-served : served (reply_kind (layout_of id)) (verdict s f id seq d) ≡ true
  verdict-served = verdict-cases (λ v. served (reply_kind (layout_of id)) v ≡ true) s f id seq d refl (λ code e. e) does (λ a r. ends r.reply)
