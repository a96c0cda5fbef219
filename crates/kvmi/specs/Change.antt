-- What a message that passes its tests changes: "a message handled without error sets its switch to enable (5, 10, 11, 12, 14)
-- or adds a pause (9); applied entries of 13 set pages; reply mode, events, event replies [..] act as written."
use Rattle.std.specs.Prelude.{ℕ, ◌+◌, List, [], ◌∷◌, Bool, true, false, cond, not, ◌&&◌, ℤ, length, drop, leb, eqb}
use Rattle.std.proofs.Math.Option.{none}
use Rattle.wire.specs.Bytes.{store}
use Rattle.msrs.specs.Place.{is_msr}
use Rattle.kvmi.specs.declared.Settings.{Settings}
use Rattle.kvmi.specs.declared.ReplyMode.{ReplyMode}
use Rattle.kvmi.specs.declared.Feed.{Feed}
use Rattle.kvmi.specs.declared.Signal.{Signal}
use Rattle.kvmi.specs.declared.Signal.TheVariants.{Quiet, Kick, Crash}
use Rattle.kvmi.specs.declared.Change.{Change}
use Rattle.kvmi.specs.declared.Change.TheVariants.{Nothing, SetVmEvent, WritePhysical, QueuePause, SetVcpuEvent, SetCr, SetMsr, SetPages, SetSinglestep, SetReplies, EndWait}
use Rattle.kvmi.specs.Answer.{resume}
use Rattle.kvmi.specs.Limits.{page_limit}
use Rattle.kvmi.specs.Settings.{all_or_nothing}
use Rattle.kvmi.specs.Bits.{put_bit}
use Rattle.kvmi.specs.Codes.{OK, ENOMEM}
use Rattle.kvmi.specs.Ascending.{has, put, forget}
use Rattle.kvmi.specs.Tables.{Msr, Page, msr_key, page_key, cr_bit, with_singlestep, with_crs, with_events, with_pauses, with_vm_events, with_msrs, with_pages}
use Rattle.kvmi.specs.Model.{Model, with_tables, with_mode, set_awaited, on_vcpu}
use Rattle.kvmi.specs.Message.{Entry, entries_of}

-- ---- message 13
-- the pages below rwx, and whether an entry was skipped
pub record Run : Type 0 where
  pub pages : List Page
  pub skipped : Bool

-- what an entry asks for, in the message's view
abbrev pub page_of : ℕ → Entry → Page
page_of view e = record { view = view; page = e.page; access = e.access }

-- "An entry is skipped exactly if its page stands at rwx, it asks for less, and 1,024 pages [..] stand below rwx then."
unfoldable pub is_skipped : ℕ → Page → List Page → Bool
is_skipped limit p ps = not (has page_key (page_key p) ps) && not (eqb p.access 7) && leb limit (length ps)

-- "Access 7 forgets a page, and its room is used again."
unfoldable pub set_page : Page → List Page → List Page
set_page p ps = cond (eqb p.access 7) (forget page_key (page_key p) ps) (put page_key p ps)

-- one entry: skipped, or its page set
unfoldable pub take_entry : ℕ → ℕ → Entry → Run → Run
take_entry limit view e r =
    cond (is_skipped limit (page_of view e) r.pages)
    (record { pages = r.pages; skipped = true })
    (record { pages = set_page (page_of view e) r.pages; skipped = r.skipped })

-- "Entries of message 13 act in order. [..] Others are applied, later ones too"
unfoldable pub take_entries : ℕ → ℕ → List Entry → Run → Run
take_entries limit view [] r = r
take_entries limit view (e ∷ es) r = take_entries limit view es (take_entry limit view e r)

-- W7: "revision 2 applies no entry of a page-access message if any would be skipped, else acts as revision 1": of revision 1's run over the pages
-- as they stand, what the settings let stand
unfoldable pub run_by : Settings → List Page → Run → Run
run_by s before r = cond (all_or_nothing s && r.skipped) (record { pages = before; skipped = true }) r

-- message 13's entries on the pages
unfoldable pub set_pages : Settings → ℕ → List Entry → List Page → Run
set_pages s view es ps = run_by s ps (take_entries page_limit view es (record { pages = ps; skipped = false }))

-- ---- message 12
-- "sets its switch to enable": a switch that is off has no record; an MSR of no place has no switch
unfoldable pub set_msr : Msr → Bool → List Msr → List Msr
set_msr m on ms = cond (is_msr m.msr) (cond on (put msr_key m ms) (forget msr_key (msr_key m) ms)) ms

-- ---- each change
-- the model and guest memory after a change, and its code: 0, or -12 of message 13 ("any skip gives -12")
pub record Applied : Type 0 where
  pub model : Model
  pub guest : List ℕ
  pub code : ℤ

-- without an error
abbrev pub applied : Model → List ℕ → Applied
applied m guest = record { model = m; guest = guest; code = OK }

-- "any skip gives -12"
abbrev pub applied_run : Model → List ℕ → Run → Applied
applied_run m guest r = record { model = with_tables m (with_pages m.tables r.pages); guest = guest; code = cond r.skipped ENOMEM OK }

-- "a message handled without error sets its switch to enable (5, 10, 11, 12, 14) or adds a pause (9); applied entries of 13 set pages"; d is the
-- message's data
unfoldable pub apply : Settings → Model → List ℕ → List ℕ → Change → Applied
apply s m guest d Nothing = applied m guest
apply s m guest d (SetVmEvent on event) = applied (with_tables m (with_vm_events m.tables (put_bit m.tables.events event on))) guest
apply s m guest d (WritePhysical gpa) = applied m (store guest gpa (drop 16 d))
apply s m guest d (QueuePause wait vcpu) = applied (on_vcpu m vcpu (λ v. with_pauses v (v.pauses + 1))) guest
apply s m guest d (SetVcpuEvent on vcpu event) = applied (on_vcpu m vcpu (λ v. with_events v (put_bit v.events event on))) guest
apply s m guest d (SetCr on vcpu cr) = applied (on_vcpu m vcpu (λ v. with_crs v (put_bit v.crs (cr_bit cr) on))) guest
apply s m guest d (SetMsr on vcpu msr) =
    applied (with_tables m (with_msrs m.tables (set_msr (record { vcpu = vcpu; msr = msr }) on m.tables.msrs))) guest
apply s m guest d (SetPages view count) =
    applied_run m guest (set_pages s view (entries_of count (drop 8 d)) m.tables.pages)
apply s m guest d (SetSinglestep on vcpu) = applied (on_vcpu m vcpu (λ v. with_singlestep v on)) guest
apply s m guest d (SetReplies now mode) = applied (with_mode m mode) guest
apply s m guest d (EndWait resumes vcpu action value feed) = applied (set_awaited m vcpu none) guest

-- ---- what else a change decides
-- of an event's reply: "A crash is signalled; the session stays open."; W1: "Such a continue or retry, unlike a pause's, is signalled as
-- resume(vCPU, action, new value or 0)."; W5's bytes go with it
abbrev pub reply_signal : Bool → ℕ → ℕ → ℕ → Feed → Signal
reply_signal resumes vcpu action value feed = cond (eqb action 2) (Crash vcpu) (cond resumes (resume vcpu action value feed) Quiet)

-- "signal: none, kick(vCPU, wait), crash(vCPU)", and resume: a kick for message 9
abbrev pub signal_of : Change → Signal
signal_of Nothing = Quiet
signal_of (SetVmEvent on event) = Quiet
signal_of (WritePhysical gpa) = Quiet
signal_of (QueuePause wait vcpu) = Kick wait vcpu
signal_of (SetVcpuEvent on vcpu event) = Quiet
signal_of (SetCr on vcpu cr) = Quiet
signal_of (SetMsr on vcpu msr) = Quiet
signal_of (SetPages view count) = Quiet
signal_of (SetSinglestep on vcpu) = Quiet
signal_of (SetReplies now mode) = Quiet
signal_of (EndWait resumes vcpu action value feed) = reply_signal resumes vcpu action value feed

-- the mode by which a message is answered: "message 15 with now 1 applies to its own reply, with now 0 from the next message"
abbrev pub mode_for : ReplyMode → Change → ReplyMode
mode_for old Nothing = old
mode_for old (SetVmEvent on event) = old
mode_for old (WritePhysical gpa) = old
mode_for old (QueuePause wait vcpu) = old
mode_for old (SetVcpuEvent on vcpu event) = old
mode_for old (SetCr on vcpu cr) = old
mode_for old (SetMsr on vcpu msr) = old
mode_for old (SetPages view count) = old
mode_for old (SetSinglestep on vcpu) = old
mode_for old (SetReplies now mode) = cond now mode old
mode_for old (EndWait resumes vcpu action value feed) = old
