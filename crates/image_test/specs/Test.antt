-- The test of all of an image: what it says, and what stands before each of its records.
use Rattle.std.specs.Prelude.{◌≡◌, ℕ, suc, ◌≤◌, List, [], ◌∷◌, length, drop, Result, Ok, Err}
use Rattle.kvmi.specs.declared.Settings.{Settings}
use Rattle.kvmi.specs.Bits.{put_bit}
use Rattle.kvmi.specs.Record.{Rec, parse}
use Rattle.kvmi.specs.Tables.{Vcpu, Tables}
use Rattle.kvmi.specs.Image.{record_count, Loaded, loaded, bad_form, forbidden, load_rest}
use Rattle.image_step.specs.declared.Progress.{Progress}
use Rattle.image_step.specs.declared.Stated.{Stated}
use Rattle.image_step.specs.declared.Refusal.{Refusal}
use Rattle.image_step.specs.declared.Refusal.TheVariants.{BadForm, Forbidden}
use Rattle.image_step.specs.Step.{order_of_place}

-- ---- all of an image
-- the ready marks, of the vCPUs from i on
unfoldable pub ready_loaded : ℕ → ℕ → List Vcpu → ℕ
ready_loaded r i [] = r
ready_loaded r i (v ∷ vs) = ready_loaded (put_bit r i v.ready) (suc i) vs

unfoldable pub outcome : Loaded → Result Stated Refusal
outcome (loaded t) = Ok (record { events = t.events; pages = length t.pages; ready = ready_loaded 0 0 t.vcpus })
outcome (bad_form off) = Err (BadForm off)
outcome (forbidden off) = Err (Forbidden off)

-- ---- what stands before a record: records that state the tables t, and lo the least place that may follow
pub record Stands (s : Settings) (l : List ℕ) (p : Progress) (t : Tables) (lo : ℕ) : Type 0 where
  pub few : s.vcpus ≤ 16
  pub inside : p.at ≤ length l
  pub count : length t.vcpus ≡ p.count
  pub ready : ready_loaded 0 0 t.vcpus ≡ p.ready
  pub pages : length t.pages ≡ p.pages
  pub events : t.events ≡ p.events
  pub records : record_count t ≡ p.records
  pub bound : p.records ≤ p.at
  pub order : lo ≡ suc (order_of_place p.last)

-- the bytes from a place on, cut into records
unfoldable pub records_at : List ℕ → ℕ → List Rec
records_at l at = parse (length (drop at l)) (drop at l)

-- the records from p's place on give an outcome
pub record Rest (s : Settings) (l : List ℕ) (p : Progress) (o : Result Stated Refusal) : Type 0 where
  pub tables : Tables
  pub least : ℕ
  pub stands : Stands s l p tables least
  pub goes : outcome (load_rest s s.vcpus p.at least tables (records_at l p.at)) ≡ o
