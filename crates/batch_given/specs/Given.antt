-- What the exported batch gives: the number of its answer, the session after it, every lent word and byte, and its values as words.
use Rattle.std.specs.Prelude.{Option, Some, None, ℕ, List, [], ◌∷◌, ◌++◌, replicate}
use Rattle.kvmi.specs.declared.Resumption.{Resumption}
use Rattle.kvmi.specs.Batch.{Batch}
use Rattle.session.specs.declared.Session.{Session}
use Rattle.session.specs.State.{State, state}
use Rattle.batch.specs.Batch.{batch_of}
use Rattle.calls.specs.declared.Returned.{Returned}
use Rattle.calls.specs.Given.{shown_feed, feed_words}

-- "resume(vCPU, action, new value or 0)", the signal with number 3, and W5's bytes; 0 where none ended the batch
abbrev pub resume_words : Option Resumption → List ℕ
resume_words None = replicate 7 0
resume_words (Some r) = 3 ∷ r.vcpu ∷ r.action ∷ r.value ∷ feed_words (shown_feed r.feed)

-- a batch's values, as struct semblurick_batch_result has them; two words are not used and 0
abbrev pub batch_words : ℕ → ℕ → ℕ → Option Resumption → List ℕ
batch_words used count listed resume = used ∷ count ∷ listed ∷ resume_words resume ++ (0 ∷ 0 ∷ [])

pub record BatchGiven : Type 0 where
  pub done : Returned
  pub vcpus : List ℕ
  pub pages : List ℕ
  pub out : List ℕ
  pub signals : List ℕ
  pub guest : List ℕ
  pub result : List ℕ

abbrev pub given_batch : Batch State → BatchGiven
given_batch b =
    record {
      done = record { code = b.number; session = b.state.session };
      vcpus = b.state.vcpus;
      pages = b.state.pages;
      out = b.out;
      signals = b.signals;
      guest = b.guest;
      result = batch_words b.used b.count b.listed b.resume;
    }

unfoldable pub batch_given : Session → List ℕ → List ℕ → List ℕ → List ℕ → List ℕ → List ℕ → BatchGiven
batch_given s vcpus pages input out signals guest = given_batch (batch_of (state s vcpus pages) input out signals guest)
