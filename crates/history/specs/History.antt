-- Lists of calls on a session, each on what the one before it left, over the definitions that the public promises equal.
use Rattle.std.specs.Prelude.{◌≡◌, ℕ, List, [], ◌∷◌, length}
use Rattle.std.proofs.Math.Bool.{So}
use Rattle.kvmi.specs.declared.Settings.{Settings}
use Rattle.kvmi.specs.Settings.{in_range}
use Rattle.kvmi.specs.Tables.{Tables}
use Rattle.kvmi.specs.Model.{Model, fresh, begun}
use Rattle.kvmi.specs.Image.{loaded, load_image}
use Rattle.kvmi.specs.Call.{Call, message, ready, enter, write_image}
use Rattle.store.specs.Words.{vcpu_word_count}
use Rattle.page_words.specs.PageWords.{page_word_count}
use Rattle.session.specs.State.{State}
use Rattle.session.specs.Calls.{Told, fresh_of, ready_of}
use Rattle.message.specs.Message.{message_of}
use Rattle.entry.specs.Entry.{enter_of}
use Rattle.image_writer.specs.Write.{image_of}
use Rattle.image_reader.specs.Read.{read_of}

-- what a call does to a session
unfoldable pub step_of : State → Call → Told
step_of st (message msg out guest) = message_of st msg out guest
step_of st (ready vcpu) = ready_of st vcpu
step_of st (enter vcpu block event own out) = enter_of st vcpu block event own out
step_of st (write_image out) = image_of st out

unfoldable pub after_of : State → List Call → State
after_of st [] = st
after_of st (c ∷ cs) = after_of (step_of st c).state cs

-- how a session began, on whatever words were lent (4,352 and 1,024 of them): fresh under settings in range, or from an image that the rules
-- accept; and the model that began with it, which is given by the settings and the image alone
pub data BeganOn (s : Settings) : State → Model → Type 0 where
  anew : (vcpus pages : List ℕ) → length vcpus ≡ vcpu_word_count → length pages ≡ page_word_count → So (in_range s)
      → BeganOn s (fresh_of s vcpus pages).state (fresh s)
  from_image : (vcpus pages : List ℕ) → length vcpus ≡ vcpu_word_count → length pages ≡ page_word_count
      → (l : List ℕ) (t : Tables) → So (in_range s) → load_image s l ≡ loaded t → BeganOn s (read_of s l vcpus pages).state (begun t)
