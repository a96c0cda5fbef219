-- Document 01's cases P1 to P12 and further edges, each list by one computed statement: a row more adds no proof.
use mathlib.Core.Path.{◌≡◌, refl}
use mathlib.Core.List.{List, map}
use mathlib.Core.Option.{some}
use Rattle.wire.specs.Bytes.{le, num, load, store}
use Rattle.wire.specs.Header.{is_whole, header_of}
use Rattle.wire.specs.Code.{twos, code_bytes}
use Rattle.msrs.specs.Place.{msr_place, is_msr}
use Rattle.kvmi.specs.Bits.{bit_of, is_on, put_bit, bits_have}
use Rattle.kvmi.specs.Row.{write_row, read_row}
use Rattle.kvmi.specs.Settings.{in_range, is_set, allows_command, allows_event, can_singlestep, uncatchable, held_by_host, has_execute_only, all_or_nothing}
use Rattle.kvmi.specs.Tables.{is_cr, cr_bit, vm_event_on, event_on, cr_on, msr_in, msr_on, access_in, access}
use Rattle.kvmi.specs.Model.{next_seq}
use Rattle.kvmi.specs.Message.{layout_of, size_fits, names_vcpu, vcpu_of, enable_at, enables, switches_at, event_of, register_of, gpa_of, size_of, count_of, count_fits, view_of, entry_of, entries_of, entry_padding, padding_runs, first_non_zero, first_of_runs, first_padding, is_vm_event, is_vcpu_event, takes_event}
use Rattle.kvmi.specs.Event.{event_row_of, offer_fits, asks_for, is_asked_for}
use Rattle.kvmi.specs.Feed.{kept_of, context_fits, wants_bytes, in_context, page_exists, page_feed, chosen_feed, feed_of}
use Rattle.kvmi.specs.Verdict.{is_access, takes_access, in_one_page, invalid_by, is_invalid, is_unready, is_denied, is_unsupported, is_busy, is_absent, change_of, loses_errors, command_verdict_by, command_verdict, is_awaited, reply_fits, reply_verdict, event_reply_verdict, verdict, reaches_test6, reported_padding}
use Rattle.kvmi.specs.Change.{is_skipped, set_page, take_entry, take_entries, run_by, set_pages, set_msr, apply}
use Rattle.kvmi.specs.Reply.{message_bytes, reply_bytes, reply_data, event_bytes, pause_event, command_error_event, answer_bytes, answer_seq, answer_of}
use Rattle.kvmi.specs.Record.{kind_at}
use Rattle.kvmi.specs.Image.{image, vm_form, is_idle, vc_form, ms_form, pa_form, vm_may, may_enable, vc_may, pa_may, load_image}
use Rattle.kvmi.specs.Call.{begin_fresh, begin_from, answering, judged, headed, message_step, ready_step, sending, pausing, dequeuing, entering, enter_step, image_step, step}
use Rattle.kvmi.specs.Batch.{next_length, refusal_of, goes_on, turn_of, turns_of, batch_by, used_in, used_by, batch_step, used_on}
use Rattle.kvmi.specs.Case.{Case, seen, cases}
use Rattle.kvmi.proofs.Edge.{Edge, outcome}
use Rattle.kvmi.proofs.MessageEdges.{of_messages}
use Rattle.kvmi.proofs.SessionEdges.{of_sessions, lookups, lookups_seen, edge_looks, edge_looks_seen, edge_sets, edge_sets_seen, accesses, accesses_seen, skips, skips_seen}
use Rattle.kvmi.proofs.EventEdges.{of_events}
use Rattle.kvmi.proofs.FaultEdges.{of_faults, of_fault_batches, fault_calls, fault_calls_seen}
use Rattle.kvmi.proofs.ImageEdges.{of_images, page_limit_loads, page_limit_seen}
use Rattle.kvmi.proofs.ExecuteOnlyEdges.{of_execute_only, limits_load, limits_seen}
use Rattle.kvmi.proofs.PaddingEdges.{of_padding, paddings, paddings_seen}
use Rattle.kvmi.proofs.RevisionEdges.{of_revisions, all_runs, all_runs_seen}
use Rattle.kvmi.proofs.BatchEdges.{BatchEdge, batch_outcome, used_at, of_batches, batch_calls, batch_calls_seen}

abbrev Right : List Case → Type 0
Right cs = map seen cs ≡ map (λ (c : Case). c.expected) cs

abbrev As-expected : List Edge → Type 0
As-expected es = map outcome es ≡ map (λ (e : Edge). e.expected) es

abbrev In-one-write : List BatchEdge → Type 0
In-one-write es = map batch_outcome es ≡ map (λ (e : BatchEdge). some e.expected) es

computed : Right cases × As-expected of_messages × As-expected of_sessions × As-expected of_events × As-expected of_images × As-expected of_execute_only × In-one-write of_batches × (batch_calls ≡ batch_calls_seen) × As-expected of_faults × In-one-write of_fault_batches × (fault_calls ≡ fault_calls_seen) × As-expected of_padding
unfolding le num load store is_whole header_of twos code_bytes bit_of is_on put_bit bits_have write_row read_row in_range is_set allows_command allows_event can_singlestep uncatchable held_by_host has_execute_only all_or_nothing is_cr cr_bit msr_place is_msr next_seq layout_of size_fits names_vcpu vcpu_of enable_at enables switches_at event_of register_of gpa_of size_of count_of count_fits view_of entry_of entries_of entry_padding padding_runs first_non_zero first_of_runs first_padding is_vm_event is_vcpu_event takes_event vm_event_on event_on cr_on msr_in msr_on access_in access event_row_of offer_fits asks_for is_asked_for is_access takes_access in_one_page invalid_by is_invalid is_unready is_denied is_unsupported is_busy kept_of context_fits wants_bytes in_context page_exists page_feed chosen_feed feed_of is_absent change_of loses_errors command_verdict_by command_verdict is_awaited reply_fits reply_verdict event_reply_verdict verdict reaches_test6 reported_padding is_skipped set_page take_entry take_entries run_by set_pages set_msr apply message_bytes reply_bytes reply_data event_bytes pause_event command_error_event answer_bytes answer_seq answer_of kind_at image vm_form is_idle vc_form ms_form pa_form vm_may may_enable vc_may pa_may load_image begin_fresh begin_from answering judged headed message_step ready_step sending pausing dequeuing entering enter_step image_step step next_length refusal_of goes_on turn_of turns_of batch_by used_in used_by batch_step used_on seen outcome batch_outcome used_at
computed = (refl, refl, refl, refl, refl, refl, refl, refl, refl, refl, refl, refl)

pub cases-right : Right cases
cases-right = computed.0

pub of-messages-right : As-expected of_messages
of-messages-right = computed.1

pub of-sessions-right : As-expected of_sessions
of-sessions-right = computed.2

pub of-events-right : As-expected of_events
of-events-right = computed.3

pub of-images-right : As-expected of_images
of-images-right = computed.4

pub of-execute-only-right : As-expected of_execute_only
of-execute-only-right = computed.5

pub of-batches-right : In-one-write of_batches
of-batches-right = computed.6

pub batch-calls-right : batch_calls ≡ batch_calls_seen
batch-calls-right = computed.7

pub of-faults-right : As-expected of_faults
of-faults-right = computed.8

pub of-fault-batches-right : In-one-write of_fault_batches
of-fault-batches-right = computed.9

pub fault-calls-right : fault_calls ≡ fault_calls_seen
fault-calls-right = computed.10

pub of-padding-right : As-expected of_padding
of-padding-right = computed.11

-- apart, since tables of 1,024 pages take long
pub of-revisions-right : As-expected of_revisions
unfolding le num load store is_whole header_of twos code_bytes bit_of is_on put_bit bits_have write_row read_row in_range is_set allows_command allows_event can_singlestep uncatchable held_by_host has_execute_only all_or_nothing is_cr cr_bit msr_place is_msr next_seq layout_of size_fits names_vcpu vcpu_of enable_at enables switches_at event_of register_of gpa_of size_of count_of count_fits view_of entry_of entries_of entry_padding padding_runs first_non_zero first_of_runs first_padding is_vm_event is_vcpu_event takes_event vm_event_on event_on cr_on msr_in msr_on access_in access event_row_of offer_fits asks_for is_asked_for is_access takes_access in_one_page invalid_by is_invalid is_unready is_denied is_unsupported is_busy kept_of context_fits wants_bytes in_context page_exists page_feed chosen_feed feed_of is_absent change_of loses_errors command_verdict_by command_verdict is_awaited reply_fits reply_verdict event_reply_verdict verdict reaches_test6 reported_padding is_skipped set_page take_entry take_entries run_by set_pages set_msr apply message_bytes reply_bytes reply_data event_bytes pause_event command_error_event answer_bytes answer_seq answer_of kind_at image vm_form is_idle vc_form ms_form pa_form vm_may may_enable vc_may pa_may load_image begin_fresh begin_from answering judged headed message_step ready_step sending pausing dequeuing entering enter_step image_step step next_length refusal_of goes_on turn_of turns_of batch_by used_in used_by batch_step used_on seen outcome batch_outcome used_at
of-revisions-right = refl

-- the skip rule
pub skips-right : skips ≡ skips_seen
unfolding is_skipped set_page take_entry take_entries
skips-right = refl

pub all-runs-right : all_runs ≡ all_runs_seen
unfolding all_or_nothing is_skipped set_page take_entry take_entries run_by
all-runs-right = refl

pub page_limit_loads-right : page_limit_loads ≡ page_limit_seen
unfolding pa_form pa_may is_access takes_access is_set has_execute_only
page_limit_loads-right = refl

pub limits_load-right : limits_load ≡ limits_seen
unfolding pa_form pa_may is_access takes_access is_set has_execute_only
limits_load-right = refl

pub paddings-right : paddings ≡ paddings_seen
unfolding le num load count_of count_fits entry_padding padding_runs first_non_zero first_of_runs first_padding
paddings-right = refl

-- how tables are read
pub lookups-right : lookups ≡ lookups_seen
unfolding bit_of is_on is_cr cr_bit msr_place is_msr vm_event_on event_on cr_on msr_in msr_on
lookups-right = refl

pub edge-looks-right : edge_looks ≡ edge_looks_seen
unfolding msr_place is_msr msr_in msr_on
edge-looks-right = refl

pub edge-sets-right : edge_sets ≡ edge_sets_seen
unfolding msr_place is_msr set_msr
edge-sets-right = refl

pub accesses-right : accesses ≡ accesses_seen
unfolding access_in access
accesses-right = refl
