-- The test of one record as code performs it, with what it asks of the records before it.
use Rattle.std.specs.Prelude.{ℕ, suc, ◌+◌, ◌%◌, ◌^◌, Bool, true, false, ◌&&◌, List, length, ◌==◌, nat_le, Option, Some, None, Result, Ok, Err}
use Rattle.kvmi.specs.declared.Settings.{Settings}
use Rattle.kvmi.specs.declared.Answer.{Answer}
use Rattle.kvmi.specs.declared.Answer.TheVariants as answer
use Rattle.kvmi.specs.Row.{Row}
use Rattle.kvmi.specs.Record.{VM, VC, MS, PA, EN, widths, vm_version, vm_count, vm_events, vc_vcpu, ms_vcpu, ms_msr, pa_view, pa_page, en_count, order_at}
use Rattle.kvmi.specs.Image.{vcpu_of_row, page_of_row, vm_form, vm_may, vc_may, pa_may}
use Rattle.store.specs.Words.{put_bit64}
use Rattle.image_form.specs.declared.Kind.{Kind}
use Rattle.image_form.specs.declared.Kind.TheVariants.{Vm, Vc, Ms, Pa, En}
use Rattle.image_form.specs.Form.{size_of, mark_at, row_at, vc_fits, ms_fits, pa_fits}
use Rattle.image_step.specs.declared.Place.{Place}
use Rattle.image_step.specs.declared.Progress.{Progress}
use Rattle.image_step.specs.declared.Refusal.{Refusal}
use Rattle.image_step.specs.declared.Refusal.TheVariants.{BadForm, Forbidden}
use Rattle.image_step.specs.declared.Step.{Step}
use Rattle.image_step.specs.declared.Step.TheVariants.{Next, End}

-- a refusal as the session's answer
abbrev pub refusal_answer : Refusal → Answer
refusal_answer (BadForm off) = answer.BadForm off
refusal_answer (Forbidden off) = answer.Forbidden off

-- ---- a record judged: "tested for form, then for answer 9 at its start"
abbrev pub judged : {A : Type 0} → Bool → Bool → ℕ → A → Result A Refusal
judged true true off a = Ok a
judged true false off a = Err (Forbidden off)
judged false may off a = Err (BadForm off)

-- a kind's place among the kinds
abbrev pub rank : Kind → ℕ
rank Vm = 0
rank Vc = 1
rank Ms = 2
rank Pa = 3
rank En = 4

-- a place in the image's order as one number
abbrev pub order_of_place : Place → ℕ
order_of_place q = order_at (rank q.kind) q.major q.minor

abbrev pub place_of : Kind → ℕ → ℕ → Place
place_of kind major minor = record { kind = kind; major = major; minor = minor }

-- a place comes after that of the last record
unfoldable pub is_after : Progress → Place → Bool
is_after p q = nat_le (suc (order_of_place p.last)) (order_of_place q)

-- one record more, as a 64-bit number counts them (for any progress: no image is so long that it comes back to 0)
abbrev pub one_more : Progress → ℕ
one_more p = (p.records + 1) % 2 ^ 64

-- behind VM
abbrev pub first_progress : ℕ → Progress
first_progress events = record { at = 8; records = 1; last = place_of Vm 0 0; events = events; count = 0; ready = 0; pages = 0 }

-- behind one record more
abbrev pub past : Progress → Place → Progress
past p q =
    record {
      at = p.at + size_of q.kind;
      records = one_more p;
      last = q;
      events = p.events;
      count = p.count;
      ready = p.ready;
      pages = p.pages;
    }

-- behind a VC, an MS and a PA
abbrev pub past_vc : Progress → Row (widths VC) → Progress
past_vc p f =
    record {
      at = p.at + 10;
      records = one_more p;
      last = place_of Vc (vc_vcpu f) 0;
      events = p.events;
      count = p.count + 1;
      ready = put_bit64 p.ready p.count (vcpu_of_row f).ready;
      pages = p.pages;
    }

abbrev pub past_ms : Progress → Row (widths MS) → Progress
past_ms p f = past p (place_of Ms (ms_vcpu f) (ms_msr f))

abbrev pub past_pa : Progress → Row (widths PA) → Progress
past_pa p f =
    record {
      at = p.at + 14;
      records = one_more p;
      last = place_of Pa (pa_view f) (pa_page f);
      events = p.events;
      count = p.count;
      ready = p.ready;
      pages = p.pages + 1;
    }

-- each kind of record, its numbers given
unfoldable pub vm_step : Settings → Row (widths VM) → Result Progress Refusal
vm_step s f = judged (vm_version f == 1 && vm_form (vm_count f) (vm_events f)) (vm_may s (vm_count f) (vm_events f)) 0 (first_progress (vm_events f))

unfoldable pub vc_step : Settings → Progress → Row (widths VC) → Result Step Refusal
vc_step s p f = judged (is_after p (place_of Vc (vc_vcpu f) 0) && vc_vcpu f == p.count && vc_fits s f) (vc_may s (vcpu_of_row f)) p.at (Next (past_vc p f))

unfoldable pub ms_step : Settings → Progress → Row (widths MS) → Result Step Refusal
ms_step s p f = judged (is_after p (place_of Ms (ms_vcpu f) (ms_msr f)) && p.count == s.vcpus && ms_fits p.count p.ready f) true p.at (Next (past_ms p f))

unfoldable pub pa_step : Settings → Progress → Row (widths PA) → Result Step Refusal
pa_step s p f = judged (is_after p (place_of Pa (pa_view f) (pa_page f)) && p.count == s.vcpus && pa_fits p.pages f) (pa_may s (page_of_row f)) p.at (Next (past_pa p f))

-- EN: its form, and whether nothing follows ("the byte after EN, if any follow")
abbrev pub end_step : Bool → Bool → Progress → Result Step Refusal
end_step true true p = Ok (End (record { events = p.events; pages = p.pages; ready = p.ready }))
end_step true false p = Err (BadForm (p.at + 6))
end_step false last p = Err (BadForm p.at)

-- "EN, then nothing"; n is the length of the image
unfoldable pub en_step : Settings → ℕ → Progress → Row (widths EN) → Result Step Refusal
en_step s n p f = end_step (is_after p (place_of En 0 0) && p.count == s.vcpus && en_count f == p.records) (n == p.at + 6) p

-- the next record, by its kind
unfoldable pub step_by : Settings → List ℕ → Progress → Option Kind → Result Step Refusal
step_by s l p (Some Vm) = Err (BadForm p.at)
step_by s l p (Some Vc) = vc_step s p (row_at VC l p.at)
step_by s l p (Some Ms) = ms_step s p (row_at MS l p.at)
step_by s l p (Some Pa) = pa_step s p (row_at PA l p.at)
step_by s l p (Some En) = en_step s (length l) p (row_at EN l p.at)
step_by s l p None = Err (BadForm p.at)

-- the next record
unfoldable pub next_step_of : Settings → List ℕ → Progress → Result Step Refusal
next_step_of s l p = step_by s l p (mark_at l p.at)

-- the first record, by its kind: "one VM" comes first
unfoldable pub first_by : Settings → List ℕ → Option Kind → Result Progress Refusal
first_by s l (Some Vm) = vm_step s (row_at VM l 0)
first_by s l (Some Vc) = Err (BadForm 0)
first_by s l (Some Ms) = Err (BadForm 0)
first_by s l (Some Pa) = Err (BadForm 0)
first_by s l (Some En) = Err (BadForm 0)
first_by s l None = Err (BadForm 0)
