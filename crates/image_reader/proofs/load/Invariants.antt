-- The words hold what the records before the place state. Assumes nothing.
use Rattle.std.proofs.Common.{◌≡◌, ◌-◌, ◌≤◌, length}
use Rattle.kvmi.specs.declared.Settings.{Settings}
use Rattle.kvmi.specs.Tables.{Tables}
use Rattle.kvmi.specs.Image.{load_image, loaded}
use Rattle.image_reader.proofs.Loads.{Loading}
use Rattle.image_reader.proofs.load.Given as goal

abbrev pub invariant-loop-kind : goal.invariant-loop-kind
invariant-loop-kind l = (l.i ≤ l.at) × (length l.vcpus ≡ length l.initial.vcpus) × (length l.pages ≡ length l.initial.pages) × ((s : Settings) (u : Tables) → load_image s l.l ≡ loaded u → Loading s l.l u l.initial.vcpus l.initial.pages l.at l.i l.vcpus l.pages)

abbrev pub decreases-loop-kind : goal.decreases-loop-kind
decreases-loop-kind l = length l.l - l.at
