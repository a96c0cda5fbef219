-- Document 01's number and values tell all cases of an answer apart.
use mathlib.Core.Path.{◌≡◌, refl, sym, ap, ◌∙◌}
use mathlib.Core.Bool.{Bool, true, false, cond}
use mathlib.Core.List.{List, [], ◌∷◌, map}
use lib.ListN.{get_or}
use Rattle.kvmi.specs.declared.Answer.{Answer}
use Rattle.kvmi.specs.declared.Answer.TheVariants.{Handled, Closing, Closed, ShortOut, BadVcpu, BadState, Waiting, BadSettings, BadForm, Forbidden, Busy, NotApplicable}
use Rattle.kvmi.specs.declared.Signal.TheVariants.{Quiet}
use Rattle.kvmi.specs.Answer.{Paper, paper, lacks_page, resume}
use Rattle.kvmi.specs.Feed.{missing}

-- the answers with values, by number; 12 is as 0, and there is no 11
answers_of : Paper → List Answer
answers_of p =
    Handled (record { count = p.count; signal = p.signal; padding = p.padding })
    ∷ Closing ∷ Closed ∷ ShortOut ∷ BadVcpu ∷ BadState ∷ Waiting ∷ BadSettings ∷ BadForm p.offset ∷ Forbidden p.offset ∷ Busy ∷ NotApplicable
    ∷ Handled (record { count = p.count; signal = p.signal; padding = p.padding })
    ∷ []

-- the answer with a number and values
answer_of : Paper → Answer
answer_of p = get_or (answers_of p) p.number NotApplicable

taken-of-paper : (p : Paper) (lacks : Bool) → get_or (answers_of p) (cond lacks 12 0) NotApplicable ≡ Handled (record { count = p.count; signal = p.signal; padding = p.padding })
unfolding answers_of
taken-of-paper p true = refl
taken-of-paper p false = refl

answer-of-paper : (a : Answer) → answer_of (paper a) ≡ a
unfolding answer_of answers_of
answer-of-paper (Handled v) = taken-of-paper (paper (Handled v)) (lacks_page v.signal)
answer-of-paper Closing = refl
answer-of-paper Closed = refl
answer-of-paper ShortOut = refl
answer-of-paper BadVcpu = refl
answer-of-paper BadState = refl
answer-of-paper Waiting = refl
answer-of-paper BadSettings = refl
answer-of-paper (BadForm off) = refl
answer-of-paper (Forbidden off) = refl
answer-of-paper Busy = refl
answer-of-paper NotApplicable = refl

pub paper-injective : (a b : Answer) → paper a ≡ paper b → a ≡ b
paper-injective a b e = sym (answer-of-paper a) ∙ ap answer_of e ∙ answer-of-paper b

-- the table's numbers, in its order
pub as-in-the-table :
    map (λ (a : Answer). (paper a).number) (
    Handled (record { count = 5; signal = Quiet; padding = 0 })
    ∷ Closing ∷ Closed ∷ ShortOut ∷ BadVcpu ∷ BadState ∷ Waiting ∷ BadSettings ∷ BadForm 28 ∷ Forbidden 8 ∷ Busy
    ∷ Handled (record { count = 0; signal = resume 1 0 1 missing; padding = 0 })
    ∷ NotApplicable
    ∷ []
    )
    ≡ 0 ∷ 1 ∷ 2 ∷ 3 ∷ 4 ∷ 5 ∷ 6 ∷ 7 ∷ 8 ∷ 9 ∷ 10 ∷ 12 ∷ 14 ∷ []
as-in-the-table = refl
