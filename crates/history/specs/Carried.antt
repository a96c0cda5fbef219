-- A row of `Case` through the definitions that the public promises equal, on given words.
use Rattle.std.specs.Prelude.{List, [], ◌∷◌, Bool, true, false, cond, ℕ, take, eqb}
use Rattle.kvmi.specs.declared.Settings.{Settings}
use Rattle.kvmi.specs.Image.{image}
use Rattle.kvmi.specs.Call.{Call}
use Rattle.kvmi.specs.Case.{Start, anew, from_bytes, standing, Seen, Case}
use Rattle.session.specs.Calls.{Told, fresh_of}
use Rattle.image_writer.specs.Write.{stated_tables}
use Rattle.image_reader.specs.Read.{read_of}
use Rattle.history.specs.History.{step_of}

-- a row that begins with a call, fresh or from an image, and not in the middle
abbrev pub is_begun : Start → Bool
is_begun anew = true
is_begun (from_bytes l) = true
is_begun (standing m) = false

-- how a row begins on words; a row that begins in the middle is not carried over (`is_begun`)
abbrev pub begun_on : Settings → Start → List ℕ → List ℕ → Told
begun_on s anew vcpus pages = fresh_of s vcpus pages
begun_on s (from_bytes l) vcpus pages = read_of s l vcpus pages
begun_on s (standing m) vcpus pages = fresh_of s vcpus pages

abbrev pub last_of : Told → List Call → Told
last_of r [] = r
last_of r (c ∷ cs) = last_of (step_of r.state c) cs

-- what the last call gives; the image is the one that the session's words state
abbrev pub seen_in : Told → Seen
seen_in r = record { answer = r.answer; bytes = take r.answer.count r.out; image = image (stated_tables r.state) }

-- no session: nothing but the answer
abbrev pub seen_from : Told → List Call → Seen
seen_from r cs = cond (eqb r.answer.number 0) (seen_in (last_of r cs)) (record { answer = r.answer; bytes = []; image = [] })

unfoldable pub seen_on : List ℕ → List ℕ → Case → Seen
seen_on vcpus pages c = seen_from (begun_on c.settings c.start vcpus pages) c.calls
