-- What a host call leaves as it was.
use Rattle.std.specs.Prelude.{◌≡◌, ◌≢◌, ℕ, ◌≤◌, List, length, drop}
use Rattle.kvmi.specs.Answer.{plain}
use Rattle.session.specs.State.{State}
use Rattle.session.specs.Calls.{Told}

-- "None": nothing in session, tables, output or guest memory changes; and the answer has no values beside its number
pub record Still (st : State) (out guest : List ℕ) (r : Told) : Type 0 where
  pub answer : r.answer ≡ plain r.answer.number
  pub state : r.state ≡ st
  pub output : r.out ≡ out
  pub memory : r.guest ≡ guest

-- a refusal, which has a number from 2 on (W5's 12 is none: "all else as under answer 0"), leaves everything as it was
abbrev pub Refuses : State → List ℕ → List ℕ → Told → Type 0
Refuses st out guest r = 2 ≤ r.answer.number → r.answer.number ≢ 12 → Still st out guest r

-- "output past the count is untouched": what is written lies inside the output, and the bytes behind it are as they were
pub record Past (out : List ℕ) (r : Told) : Type 0 where
  pub inside : r.answer.count ≤ length out
  pub long : length r.out ≡ length out
  pub rest : drop r.answer.count r.out ≡ drop r.answer.count out
