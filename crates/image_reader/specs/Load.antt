-- One record of an accepted image loaded, as code performs it.
use Rattle.std.specs.Prelude.{ℕ, ◌+◌, ◌*◌, ◌%◌, ◌^◌, List, true, set, Option, Some, None}
use Rattle.kvmi.specs.Record.{VC, MS, PA}
use Rattle.kvmi.specs.Image.{vcpu_of_row}
use Rattle.store.specs.Words.{set_msr_bit}
use Rattle.image_form.specs.Form.{row_at}
use Rattle.image_reader.specs.Read.{vcpu_loaded}
use Rattle.image_form.specs.declared.Kind.{Kind}
use Rattle.image_form.specs.declared.Kind.TheVariants.{Vm, Vc, Ms, Pa, En}

-- a kind, if its records load words
abbrev pub loading : Option Kind → Option Kind
loading (Some Vm) = None
loading (Some Vc) = Some Vc
loading (Some Ms) = Some Ms
loading (Some Pa) = Some Pa
loading (Some En) = None
loading None = None

-- how many page words a record loads
abbrev pub page_by : Kind → ℕ
page_by Vm = 0
page_by Vc = 0
page_by Ms = 0
page_by Pa = 1
page_by En = 0

unfoldable pub word_of : ℕ → ℕ → ℕ → ℕ
word_of view page access = view % 8 * 2 ^ 55 + page % 2 ^ 52 * 8 + access

-- of the PA record at a byte of an image
abbrev pub word_at : List ℕ → ℕ → ℕ
word_at l at = word_of (row_at PA l at).0 (row_at PA l at).1.1.1.0 (row_at PA l at).1.0

unfoldable pub vcpus_by : Kind → List ℕ → ℕ → List ℕ → List ℕ
vcpus_by Vm l at w = w
vcpus_by Vc l at w = vcpu_loaded w (row_at VC l at).0 (vcpu_of_row (row_at VC l at))
vcpus_by Ms l at w = set_msr_bit w (row_at MS l at).0 (row_at MS l at).1.0 true
vcpus_by Pa l at w = w
vcpus_by En l at w = w

unfoldable pub pages_by : Kind → List ℕ → ℕ → ℕ → List ℕ → List ℕ
pages_by Vm l at i w = w
pages_by Vc l at i w = w
pages_by Ms l at i w = w
pages_by Pa l at i w = set w i (word_at l at)
pages_by En l at i w = w
