-- The parts of an image: the bytes of each kind's records, and of all records in front of the MS records and behind them.
use Rattle.std.specs.Prelude.{ℕ, min, List, [], ◌++◌, length}
use Rattle.kvmi.specs.Record.{write, write_all}
use Rattle.kvmi.specs.Tables.{Vcpu, Page, Tables, empty_tables, with_vm_events, with_vcpus, with_msrs, with_pages}
use Rattle.kvmi.specs.Image.{vm_record, vc_records, onto, pa_record, en_record, image}
use Rattle.store.specs.Meaning.{msrs_of, vcpus_of}
use Rattle.page_words.specs.Meaning.{pages_of}

-- ---- the bytes of records of one kind
-- of the vCPUs from i on
unfoldable pub vc_bytes : ℕ → List Vcpu → List ℕ
vc_bytes i vs = write_all (vc_records i vs [])

unfoldable pub pa_bytes : List Page → List ℕ
pa_bytes ps = write_all (onto pa_record ps [])

-- ---- of several kinds
-- the records in front of the MS records: VM, and n VC records
unfoldable pub front_bytes : ℕ → ℕ → ℕ → List ℕ → List ℕ
front_bytes events ready n w = write (vm_record n events) ++ vc_bytes 0 (vcpus_of ready w 0 n)

-- and those behind them: the PA records of `used` page words, and EN, which counts all
unfoldable pub back_bytes : ℕ → ℕ → List ℕ → List ℕ
back_bytes count used pages = pa_bytes (pages_of pages used) ++ write (en_record count)

-- ---- the tables of n vCPUs and `used` page words
abbrev pub tables : ℕ → ℕ → ℕ → ℕ → List ℕ → List ℕ → Tables
tables events ready n used w pages =
    with_pages (with_msrs (with_vcpus (with_vm_events (empty_tables n) events) (vcpus_of ready w 0 n)) (msrs_of w 0 n)) (pages_of pages used)

-- what an image states: no more vCPUs than there are blocks of words, and no more pages than words
abbrev pub stated_of : ℕ → ℕ → ℕ → ℕ → List ℕ → List ℕ → Tables
stated_of events ready vcpus used w pages = tables events ready (min vcpus 16) (min used (length pages)) w pages

-- the image that states it
abbrev pub stated_bytes : ℕ → ℕ → ℕ → ℕ → List ℕ → List ℕ → List ℕ
stated_bytes events ready vcpus used w pages = image (stated_of events ready vcpus used w pages)
