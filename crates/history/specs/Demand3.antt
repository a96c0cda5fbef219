-- Demand 3: one claim about every list of messages, ready marks, vCPU entries and image writings, refused ones included, on one session begun
-- fresh or from an accepted image. The model (document 01's book) is moved by the same calls and never reads the session.
use Rattle.std.specs.Prelude.{◌≡◌, ◌↔◌, ℕ, ◌≤◌, List, ◌++◌, Bool, true, false, length, drop}
use Rattle.std.proofs.Math.Bool.{So}
use Rattle.std.proofs.Math.Pow.{are_bytes}
use Rattle.kvmi.specs.declared.Settings.{Settings}
use Rattle.kvmi.specs.declared.Signal.TheVariants.{Quiet}
use Rattle.kvmi.specs.Answer.{handled}
use Rattle.kvmi.specs.Settings.{in_range}
use Rattle.kvmi.specs.Tables.{Tables, SameTables}
use Rattle.kvmi.specs.Model.{Model}
use Rattle.kvmi.specs.Image.{image, loaded, load_image}
use Rattle.kvmi.specs.Call.{Call, awaits_any, after}
use Rattle.store.specs.Words.{vcpu_word_count}
use Rattle.page_words.specs.PageWords.{page_word_count}
use Rattle.session.specs.State.{State}
use Rattle.image_writer.specs.Write.{image_of}
use Rattle.image_reader.specs.Read.{read_of}
use Rattle.history.specs.History.{after_of, BeganOn}

-- after the list the model is open and awaits no reply, so that its image can be written
abbrev pub Writable : Settings → Model → List Call → Type 0
Writable s m cs = ((after s m cs).closed ≡ false) × (awaits_any (after s m cs).awaited ≡ false)

-- the bytes that the writer writes into an output that has room, and then the rest of it
abbrev pub Writes : State → List ℕ → List ℕ → Type 0
Writes st out bytes = ((image_of st out).answer ≡ handled (length bytes) Quiet) × ((image_of st out).out ≡ bytes ++ drop (length bytes) out)

pub record Demand3 : Type 0 where
  -- "image writing after the list answers closed exactly when the book [..] is closed"
  pub closed : (s : Settings) (st : State) (m : Model) → BeganOn s st m → (cs : List Call) (out : List ℕ)
      → ((image_of (after_of st cs) out).answer.number ≡ 2) ↔ ((after s m cs).closed ≡ true)
  -- "and busy exactly when the book is open and awaits a reply"
  pub busy : (s : Settings) (st : State) (m : Model) → BeganOn s st m → (cs : List Call) (out : List ℕ)
      → ((image_of (after_of st cs) out).answer.number ≡ 10) ↔ (((after s m cs).closed ≡ false) × (awaits_any (after s m cs).awaited ≡ true))
  -- "Otherwise the image, given room, is document 01's table image of exactly the book's ready marks, switches, pause queues and page rights."
  pub writes : (s : Settings) (st : State) (m : Model) → BeganOn s st m → (cs : List Call) (out : List ℕ) → Writable s m cs
      → length (image (after s m cs).tables) ≤ length out → Writes (after_of st cs) out (image (after s m cs).tables)
  -- "Two sessions open with no reply awaited, under equal settings and each after a list of its own, have equal images exactly when those standings
  -- are equal."
  pub alike : (s : Settings) (st st' : State) (m k : Model) → BeganOn s st m → BeganOn s st' k
      → (cs ds : List Call) (out out' bytes bytes' : List ℕ) → Writable s m cs → Writable s k ds
      → Writes (after_of st cs) out bytes → Writes (after_of st' ds) out' bytes'
      → (bytes ≡ bytes') ↔ SameTables (after s m cs).tables (after s k ds).tables
  -- "An image that document 01's rules accept, loaded and written again, given room, gives the same bytes."
  pub again : (s : Settings) (vcpus pages : List ℕ) → length vcpus ≡ vcpu_word_count → length pages ≡ page_word_count
      → (l : List ℕ) (t : Tables) → So (are_bytes l) → So (in_range s) → load_image s l ≡ loaded t
      → ((read_of s l vcpus pages).answer.number ≡ 0) × ((out : List ℕ) → length l ≤ length out → Writes (read_of s l vcpus pages).state out l)
