-- The words of a resume, as include/semblurick.h has them. Words 7 to 9 say what feeds the instruction: source, at and length.
use Rattle.std.specs.Prelude.{◌≡◌, ℕ, List, [], ◌∷◌}
use Rattle.std.proofs.Common.{refl}
use Rattle.kvmi.specs.declared.Source.{Source}
use Rattle.kvmi.specs.declared.Source.TheVariants.{Unfed, Message, Guest, Missing}
use Rattle.kvmi.specs.Answer.{handled, resume}
use Rattle.calls.specs.Given.{result_words}

-- vCPU 3 goes on with action 4 and value 5
abbrev words_by : Source → ℕ → ℕ → List ℕ
words_by source at length = result_words (handled 0 (resume 3 4 5 (record { source = source; at = at; length = length })))

-- no bytes are wanted
pub of_none : words_by Unfed 0 0 ≡ 0 ∷ 0 ∷ 3 ∷ 3 ∷ 0 ∷ 4 ∷ 5 ∷ 0 ∷ 0 ∷ 0 ∷ 0 ∷ 0 ∷ []
of_none = refl

-- 1: they are the message's
pub of_message : words_by Message 40 6 ≡ 0 ∷ 0 ∷ 3 ∷ 3 ∷ 0 ∷ 4 ∷ 5 ∷ 1 ∷ 40 ∷ 6 ∷ 0 ∷ 0 ∷ []
of_message = refl

-- 2: they are guest memory's
pub of_guest : words_by Guest 4095 1 ≡ 0 ∷ 0 ∷ 3 ∷ 3 ∷ 0 ∷ 4 ∷ 5 ∷ 2 ∷ 4095 ∷ 1 ∷ 0 ∷ 0 ∷ []
of_guest = refl

-- the page is missing: none are named
pub of_missing : words_by Missing 0 0 ≡ 0 ∷ 0 ∷ 3 ∷ 3 ∷ 0 ∷ 4 ∷ 5 ∷ 0 ∷ 0 ∷ 0 ∷ 0 ∷ 0 ∷ []
of_missing = refl
