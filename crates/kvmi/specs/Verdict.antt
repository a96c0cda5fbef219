-- "What is tested first": tests 2 to 6 of a message with a whole header, in their order, the rule of EVENT_REPLY, and W6's report of test 6.
use Rattle.std.specs.Prelude.{ℕ, ◌+◌, ◌%◌, List, [], ◌∷◌, Bool, true, false, cond, not, ◌&&◌, ◌||◌, ℤ, length, get_or, drop, leb, eqb, Some, None}
use Rattle.std.specs.Prelude as std
use Rattle.std.proofs.Math.Option.{Option, none, some}
use Rattle.msrs.specs.Place.{is_msr}
use Rattle.kvmi.specs.declared.Settings.{Settings}
use Rattle.kvmi.specs.declared.ReplyMode.{ReplyMode}
use Rattle.kvmi.specs.declared.ReplyMode.TheVariants.{On, Off, ErrorsOnly}
use Rattle.kvmi.specs.declared.Facts.{Facts}
use Rattle.kvmi.specs.declared.Change.{Change}
use Rattle.kvmi.specs.declared.Change.TheVariants.{Nothing, SetVmEvent, WritePhysical, QueuePause, SetVcpuEvent, SetCr, SetMsr, SetPages, SetSinglestep, SetReplies, EndWait}
use Rattle.kvmi.specs.declared.Verdict.{Verdict}
use Rattle.kvmi.specs.declared.Judgement.{Judgement}
use Rattle.kvmi.specs.declared.Verdict.TheVariants.{Closes, Fails, Does}
use Rattle.kvmi.specs.Limits.{pause_limit}
use Rattle.kvmi.specs.Bits.{among, every}
use Rattle.kvmi.specs.Codes.{EPERM, ENOENT, EAGAIN, EBUSY, EINVAL, EOPNOTSUPP, ENOSYS}
use Rattle.kvmi.specs.Settings.{allows_command, allows_event, can_singlestep, uncatchable, held_by_host, has_execute_only}
use Rattle.kvmi.specs.Tables.{is_cr, vcpu_at}
use Rattle.kvmi.specs.declared.Awaited.{Awaited}
use Rattle.kvmi.specs.Model.{Model, awaited_by}
use Rattle.kvmi.specs.declared.EventRow.{EventRow}
use Rattle.kvmi.specs.declared.Feed.{Feed}
use Rattle.kvmi.specs.declared.ReplyForm.{ReplyForm}
use Rattle.kvmi.specs.declared.ReplyForm.TheVariants.{Plain, NewValue, Context}
use Rattle.kvmi.specs.Event.{event_row_of, takes_action, form_fits, value_of}
use Rattle.kvmi.specs.declared.Fault.{Fault}
use Rattle.kvmi.specs.Feed.{unfed, page_exists, feed_of}
use Rattle.kvmi.specs.Message.{layout_of, reply_kind, data_fits, carries_data, names_vcpu, vcpu_of, command_of, enables, is_now, has_flag, action_of, replied_event, switches_at, event_of, register_of, gpa_of, size_of, count_of, count_fits, view_of, Entry, entries_of, first_padding, takes_event}

-- the event that a vCPU awaits a reply to, 0 for none
abbrev pub awaited_event : Option Awaited → ℕ
awaited_event none = 0
awaited_event (some a) = a.event

-- an awaited event as the code has it
abbrev pub awaits : Option Awaited → std.Option Awaited
awaits none = None
awaits (some a) = Some a

-- what the tests ask of the model, for the vCPU that the message names
abbrev pub facts_of : Model → ℕ → ℕ → Facts
facts_of m guest vcpu =
    record {
      mode = m.mode;
      guest = guest;
      ready = (vcpu_at m.tables vcpu).ready;
      pending = record { pauses = (vcpu_at m.tables vcpu).pauses; awaited = awaits (awaited_by m vcpu) };
    }

-- "replies on"
abbrev pub replies_on : ReplyMode → Bool
replies_on On = true
replies_on Off = false
replies_on ErrorsOnly = false

-- ---- test 6, cause by cause
-- "any access other than 0, 1, 3, 4, 5, 7": W needs R
unfoldable pub is_access : ℕ → Bool
is_access a = among a (0 ∷ 1 ∷ 3 ∷ 4 ∷ 5 ∷ 7 ∷ [])

-- W2: "access 4 without the flag is -22 in message 13 and answer 9 in a PA record". Whether a page can have an access under settings; `is_invalid` and
-- `pa_may` ask it
unfoldable pub takes_access : Settings → ℕ → Bool
takes_access s a = is_access a && (not (eqb a 4) || has_execute_only s)

-- "physical size 0, or (gpa mod 4096) + size above 4096"
unfoldable pub in_one_page : ℕ → ℕ → Bool
in_one_page gpa size = leb 1 size && leb (gpa % 4096 + size) 4096

-- -22 EINVAL, mostly in the sentence's order: the response flags stand with the other bytes that are at most 1, and "a count that disagrees is -22"
-- is test 4's. The padding test found `padding`, the message offset of a byte, or 0
unfoldable pub invalid_by : ℕ → Settings → ℕ → List ℕ → Bool
invalid_by padding s id d =
    not (eqb padding 0)
    || names_vcpu id && leb s.vcpus (vcpu_of d)
    || not (every (λ at. leb (get_or d at 0) 1) (switches_at id))
    || among id (3 ∷ 5 ∷ 10 ∷ []) && not (takes_event id (event_of id d))
    || eqb id 2 && not (leb 1 (command_of d) && leb (command_of d) 15)
    || eqb id 11 && not (is_cr (register_of d))
    || eqb id 12 && not (is_msr (register_of d))
    || eqb id 13 && leb s.views (view_of d)
    || eqb id 13 && not (count_fits d && every (λ (e : Entry). takes_access s e.access) (entries_of (count_of d) (drop 8 d)))
    || among id (6 ∷ 7 ∷ []) && not (in_one_page (gpa_of d) (size_of d))

-- by the message's own padding
unfoldable pub is_invalid : Settings → ℕ → List ℕ → Bool
is_invalid s id d = invalid_by (first_padding id d) s id d

-- -11 EAGAIN
unfoldable pub is_unready : Facts → ℕ → Bool
is_unready f id = names_vcpu id && not f.ready

-- -1 EPERM
unfoldable pub is_denied : Settings → ℕ → List ℕ → Bool
is_denied s id d = among id (3 ∷ 5 ∷ 10 ∷ []) && not (allows_event s (event_of id d)) || eqb id 2 && not (allows_command s (command_of d))

-- -95 EOPNOTSUPP
unfoldable pub is_unsupported : Settings → ℕ → List ℕ → Bool
is_unsupported s id d = eqb id 14 && not (can_singlestep s) || eqb id 10 && enables id d && uncatchable s (event_of id d)

-- -16 EBUSY
unfoldable pub is_busy : Settings → Facts → ℕ → List ℕ → Bool
is_busy s f id d = eqb id 10 && enables id d && held_by_host s (event_of id d) || eqb id 9 && leb pause_limit f.pending.pauses

-- -2 ENOENT
unfoldable pub is_absent : Facts → ℕ → List ℕ → Bool
is_absent f id d = among id (6 ∷ 7 ∷ []) && not (page_exists f.guest (gpa_of d))

-- ---- the change of a message that passes
-- "Its flag is kept only with enable 0."
abbrev pub mode_of : Bool → Bool → ReplyMode
mode_of true flag = On
mode_of false true = ErrorsOnly
mode_of false false = Off

-- 5, 10, 11, 12 and 14 set a switch to enable, 9 adds a pause, 7 writes its bytes, 13 its entries, 15 the reply mode; the others change nothing
unfoldable pub change_of : ℕ → List ℕ → Change
change_of id d =
    cond (eqb id 5) (SetVmEvent (enables id d) (event_of id d))
    (cond (eqb id 7) (WritePhysical (gpa_of d))
    (cond (eqb id 9) (QueuePause (enables id d) (vcpu_of d))
    (cond (eqb id 10) (SetVcpuEvent (enables id d) (vcpu_of d) (event_of id d))
    (cond (eqb id 11) (SetCr (enables id d) (vcpu_of d) (register_of d))
    (cond (eqb id 12) (SetMsr (enables id d) (vcpu_of d) (register_of d))
    (cond (eqb id 13) (SetPages (view_of d) (count_of d))
    (cond (eqb id 14) (SetSinglestep (enables id d) (vcpu_of d))
    (cond (eqb id 15) (SetReplies (is_now d) (mode_of (enables id d) (has_flag d)))
    Nothing))))))))

-- test 5, its second sentence: "enable 0 and flag bit 0 set while event 13 is not allowed"
unfoldable pub loses_errors : Settings → ℕ → List ℕ → Bool
loses_errors s id d = eqb id 15 && not (enables id d) && has_flag d && not (allows_event s 13)

-- test 6: "errors, the first that applies" (-12 is known when the entries of message 13 have run); and test 5's second sentence, which asks whether
-- "test 6 would pass" and so stands behind it. The padding test found `padding`
unfoldable pub command_verdict_by : ℕ → Settings → Facts → ℕ → List ℕ → Verdict
command_verdict_by padding s f id d =
    cond (invalid_by padding s id d) (Fails EINVAL)
    (cond (is_unready f id) (Fails EAGAIN)
    (cond (is_denied s id d) (Fails EPERM)
    (cond (is_unsupported s id d) (Fails EOPNOTSUPP)
    (cond (is_busy s f id d) (Fails EBUSY)
    (cond (is_absent f id d) (Fails ENOENT)
    (cond (loses_errors s id d) Closes (Does (change_of id d))))))))

-- by the message's own padding
unfoldable pub command_verdict : Settings → Facts → ℕ → List ℕ → Verdict
command_verdict s f id d = command_verdict_by (first_padding id d) s f id d

-- ---- "An EVENT_REPLY closes unless padding is zero, the vCPU awaits one, seq and event match, and the action is 0 continue or 2 crash";
-- W1: "Replies carry 24 data bytes for CR and MSR [..], and 16 otherwise", "Retry is taken for BREAKPOINT and DESCRIPTOR only", "a wrong reply closes"; W5: "288
-- data bytes", "context size above 256 or rep flag above 1 closes"
unfoldable pub is_awaited : Awaited → ℕ → ℕ → Bool
is_awaited a seq event = not (eqb a.event 0) && eqb a.seq seq && eqb a.event event

-- its size, its action and what it has behind its first 16 bytes are as the awaited event's row says
unfoldable pub reply_fits : EventRow → List ℕ → Bool
reply_fits r d = eqb (length d) r.reply && takes_action r (action_of d) && form_fits r.form d

-- W5: "the host wants the bytes to feed the instruction"
abbrev pub feed_by : ReplyForm → Fault → ℕ → List ℕ → Feed
feed_by Plain f guest d = unfed
feed_by NewValue f guest d = unfed
feed_by Context f guest d = feed_of f guest d

-- "Once taken, it is awaited no more. A crash is signalled"; W1: "Such a continue or retry, unlike a
-- pause's, is signalled": a pause is event 2
unfoldable pub reply_verdict : std.Option Awaited → ℕ → ℕ → List ℕ → Verdict
reply_verdict None guest seq d = Closes
reply_verdict (Some a) guest seq d =
    cond (eqb (first_padding 16 d) 0 && is_awaited a seq (replied_event d) && reply_fits (event_row_of a.event) d)
    (Does
    (EndWait (not (eqb a.event 2)) (vcpu_of d) (action_of d) (value_of (event_row_of a.event).form d) (feed_by (event_row_of a.event).form a.fault guest d)))
    Closes

unfoldable pub event_reply_verdict : Facts → ℕ → List ℕ → Verdict
event_reply_verdict f seq d = reply_verdict f.pending.awaited f.guest seq d

-- ---- tests 2 to 6
-- "With replies off, either closes."
abbrev pub refuse : ReplyMode → ℤ → Verdict
refuse mode code = cond (replies_on mode) (Fails code) Closes

-- each test in its order, the first that applies
unfoldable pub verdict : Settings → Facts → ℕ → ℕ → List ℕ → Verdict
verdict s f id seq d =
    -- 2: "Id 0 or above 16: -1000 (ENOSYS). Id not allowed: -1 (EPERM)"
    cond (not (leb 1 id && leb id 16)) (refuse f.mode ENOSYS)
    (cond (not (allows_command s id)) (refuse f.mode EPERM)
    -- 3: "Replies off and id 1, 4, 6 or 8: closes.": those whose replies carry data
    (cond (not (replies_on f.mode) && carries_data (reply_kind (layout_of id))) Closes
    -- 4: "Data size unlike the table: closes."
    (cond (not (data_fits (layout_of id) d)) Closes
    -- 5 and 6 are not of EVENT_REPLY: "Then, for ids 1 to 15"
    (cond (eqb id 16) (event_reply_verdict f seq d)
    -- 5: "Message 9 while event 2 is not allowed: closes."; its second sentence, and 6
    (cond (eqb id 9 && not (allows_event s 2)) Closes
    (command_verdict s f id d))))))

-- ---- W6: "Which padding byte was it?"
-- test 6 is reached by a command that passes tests 2 to 4 and the first sentence of test 5; EVENT_REPLY is none
unfoldable pub reaches_test6 : Settings → ReplyMode → ℕ → List ℕ → Bool
reaches_test6 s mode id d =
    (leb 1 id && leb id 15)
    && allows_command s id
    && not (not (replies_on mode) && carries_data (reply_kind (layout_of id)))
    && data_fits (layout_of id) d
    && not (eqb id 9 && not (allows_event s 2))

-- "should report the message offset of the first non-zero padding byte [..]; 0 means padding fine or test 6 not reached"
unfoldable pub reported_padding : Settings → ReplyMode → ℕ → List ℕ → ℕ
reported_padding s mode id d = cond (reaches_test6 s mode id d) (first_padding id d) 0

-- a verdict with the padding byte that is reported
abbrev pub judgement : Verdict → ℕ → Judgement
judgement v padding = record { verdict = v; padding = padding }

-- of a command that reaches test 6
unfoldable pub command_judgement : Settings → Facts → ℕ → List ℕ → Judgement
command_judgement s f id d = judgement (command_verdict s f id d) (first_padding id d)
