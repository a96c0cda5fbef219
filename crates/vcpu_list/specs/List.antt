-- "Marking a vCPU ready and the CR switch are also offered where the vCPU records are a list that the host lends; an index at or past its length
-- is answered 4, then 14 is tested."
use Rattle.std.specs.Prelude.{ℕ, List, Bool, cond, not, ◌&&◌, length, get_or, set, ltb, eqb}
use Rattle.kvmi.specs.declared.Answer.{Answer}
use Rattle.kvmi.specs.declared.Signal.TheVariants.{Quiet}
use Rattle.kvmi.specs.Answer.{Paper, paper, handled, plain}
use Rattle.kvmi.specs.Bits.{put_bit}
use Rattle.kvmi.specs.Tables.{is_cr, cr_bit}
use Rattle.vcpu_list.specs.declared.Vcpu.{Vcpu}
use Rattle.vcpu_list.specs.declared.Changed.{Changed}

-- ---- one record
-- what is answered, and what the record is then
pub record One : Type 0 where
  pub answer : Paper
  pub vcpu : Vcpu

abbrev pub one : Changed → One
one r = record { answer = paper r.answer; vcpu = r.vcpu }

-- answer 0, with no bytes written and no signal
abbrev pub acknowledged : Vcpu → One
acknowledged v = record { answer = handled 0 Quiet; vcpu = v }

abbrev pub with_ready : Vcpu → ℕ → Vcpu
with_ready v x =
    record { ready = x; singlestep = v.singlestep; crs = v.crs; events = v.events; pauses = v.pauses; awaited = v.awaited; awaited_seq = v.awaited_seq }

abbrev pub with_crs : Vcpu → ℕ → Vcpu
with_crs v x =
    record { ready = v.ready; singlestep = v.singlestep; crs = x; events = v.events; pauses = v.pauses; awaited = v.awaited; awaited_seq = v.awaited_seq }

unfoldable pub one_ready : Vcpu → One
one_ready v = acknowledged (with_ready v 1)

-- "14 not applicable | list form of the CR switch: CR not 0, 3, 4, or the record is not ready | none"
unfoldable pub one_cr : Vcpu → ℕ → Bool → One
one_cr v cr on =
    cond (is_cr cr && not (eqb v.ready 0)) (acknowledged (with_crs v (put_bit v.crs (cr_bit cr) on))) (record { answer = plain 14; vcpu = v })

-- ---- the list
-- what is answered, and what the records are then
pub record Listed : Type 0 where
  pub answer : Paper
  pub vcpus : List Vcpu

abbrev pub listed : Answer → List Vcpu → Listed
listed r vs = record { answer = paper r; vcpus = vs }

-- the record that `get_or` names past the end, where it is not asked
abbrev pub blank : Vcpu
blank = record { ready = 0; singlestep = 0; crs = 0; events = 0; pauses = 0; awaited = 0; awaited_seq = 0 }

-- record i as it is then; all others as they were
abbrev pub stored : List Vcpu → ℕ → One → Listed
stored vs i o = record { answer = o.answer; vcpus = set vs i o.vcpu }

-- f on record i; "an index at or past its length is answered 4"
unfoldable pub on_record : (Vcpu → One) → List Vcpu → ℕ → Listed
on_record f vs i = cond (ltb i (length vs)) (stored vs i (f (get_or vs i blank))) (record { answer = plain 4; vcpus = vs })

unfoldable pub marked_ready : List Vcpu → ℕ → Listed
marked_ready vs i = on_record one_ready vs i

unfoldable pub cr_set : List Vcpu → ℕ → ℕ → Bool → Listed
cr_set vs i cr on = on_record (λ v. one_cr v cr on) vs i
