-- The image writer as code performs it, for any bits in the session: no more vCPUs are stated than there are blocks, and no more pages than words.
use Rattle.std.specs.Prelude.{ℕ, min, List, [], cond, not, length, ltb, eqb}
use Rattle.kvmi.specs.declared.Signal.TheVariants.{Quiet}
use Rattle.kvmi.specs.Tables.{Tables, with_vcpus, with_msrs, with_pages}
use Rattle.kvmi.specs.Image.{image}
use Rattle.kvmi.specs.Call.{awaits_any}
use Rattle.store.specs.Meaning.{msrs_of, vcpus_of}
use Rattle.page_words.specs.Meaning.{pages_of}
use Rattle.session.specs.State.{State, is_closed}
use Rattle.session.specs.Calls.{Told, told_same, told_written}
use Rattle.session.specs.Meaning.{awaited_of, tables_of}

-- the vCPUs that an image states
unfoldable pub stated_vcpus : State → ℕ
stated_vcpus st = min st.session.settings.vcpus 16

-- the tables that an image states
unfoldable pub stated_tables : State → Tables
stated_tables st =
    with_pages
    (with_msrs (with_vcpus (tables_of st) (vcpus_of st.session.shared.ready st.vcpus 0 (stated_vcpus st))) (msrs_of st.vcpus 0 (stated_vcpus st)))
    (pages_of st.pages (min st.session.tool.pages (length st.pages)))

-- "image writer 2, 10, 3"
unfoldable pub image_of : State → List ℕ → Told
image_of st out =
    cond (is_closed st) (told_same 2 st out [])
    (cond (awaits_any (awaited_of st.vcpus 0 (stated_vcpus st))) (told_same 10 st out [])
    (cond (ltb (length out) (length (image (stated_tables st)))) (told_same 3 st out [])
    (told_written (image (stated_tables st)) Quiet st out [])))
