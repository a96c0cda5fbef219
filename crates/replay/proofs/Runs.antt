-- The session that a run starts with, and all that is printed of some inputs, document 01's first. Each is computed.
use mathlib.Core.Path.{◌≡◌, refl}
use mathlib.Core.List.{List, [], ◌∷◌, map}
use Prim.Native.Nat.{ℕ}
use Prim.Native.String.{String}
use Rattle.wire.specs.Bytes.{le, num, load, store}
use Rattle.wire.specs.Header.{is_whole, header_of}
use Rattle.wire.specs.Code.{twos, code_bytes}
use Rattle.kvmi.specs.Bits.{bit_of, is_on, put_bit, bits_have}
use Rattle.kvmi.specs.Settings.{in_range, is_set, allows_command, allows_event}
use Rattle.kvmi.specs.Message.{layout_of, size_fits, names_vcpu, vcpu_of, switches_at, padding_runs, first_non_zero, first_of_runs, first_padding, count_fits}
use Rattle.kvmi.specs.Verdict.{invalid_by, is_invalid, is_unready, is_denied, is_unsupported, is_busy, is_absent, change_of, loses_errors, command_verdict_by, command_verdict, verdict, reaches_test6, reported_padding}
use Rattle.kvmi.specs.Reply.{message_bytes, reply_bytes, reply_data, answer_bytes, answer_seq, answer_of}
use Rattle.store.specs.Words.{field, put_bit64, cleared}
use Rattle.kvmi.specs.Mode.{mode_of_number}
use Rattle.session.specs.State.{fresh_session, with_ready_bits, cleared_state}
use Rattle.session.specs.Calls.{fresh_of, ready_of}
use Rattle.change.specs.Change.{change}
use Rattle.message.specs.Message.{answering_of, judged_of, headed_of, message_of}
use Rattle.stream.specs.Cut.{total_of, cut_of, extent_of}
use Rattle.stream.specs.Signed.{signed_of}
use Rattle.stream.specs.Line.{line_id, seq_of, is_command_error, error_at, error_of, line_of}
use Rattle.line_text.specs.Text.{ascii, digits, decimal, signed_text, number_text, code_text, line_text, end_text}
use Rattle.replay.specs.Runner.{runner_settings, start_of, passed_of, told_of, turn_by, turn_of, run_of, printed_of}

-- every word 0, every switch off, and the ready marks of vCPUs 0 and 1
pub started : (vcpus pages : List ℕ) → start_of vcpus pages ≡ cleared_state (with_ready_bits (fresh_session runner_settings) 3) vcpus pages
unfolding in_range put_bit bit_of is_on put_bit64 fresh_of ready_of start_of
started vcpus pages = refl

record RunCase : Type 0 where
  input : List ℕ
  printed : String

abbrev run_case : List ℕ → String → RunCase
run_case input printed = record { input = input; printed = printed }

abbrev rows : List RunCase
rows =
    -- "Input `0100000007000000 0900100008000000 0200000000000000 0000000000000000` prints exactly"
    run_case (
    0x01 ∷ 0x00 ∷ 0x00 ∷ 0x00 ∷ 0x07 ∷ 0x00 ∷ 0x00 ∷ 0x00
    ∷ 0x09 ∷ 0x00 ∷ 0x10 ∷ 0x00 ∷ 0x08 ∷ 0x00 ∷ 0x00 ∷ 0x00
    ∷ 0x02 ∷ 0x00 ∷ 0x00 ∷ 0x00 ∷ 0x00 ∷ 0x00 ∷ 0x00 ∷ 0x00
    ∷ 0x00 ∷ 0x00 ∷ 0x00 ∷ 0x00 ∷ 0x00 ∷ 0x00 ∷ 0x00 ∷ 0x00
    ∷ []
    ) "0 1 7 0 32 0\n1 9 8 0 16 -22\nend open\n"
    -- no input
    ∷ run_case [] "end open\n"
    -- tails of 1 and of 7 bytes, and one behind a whole message
    ∷ run_case (0x01 ∷ []) "0 - - 1 0 -\nend closed\n"
    ∷ run_case (0x01 ∷ 0x00 ∷ 0x00 ∷ 0x00 ∷ 0x07 ∷ 0x00 ∷ 0x00 ∷ []) "0 1 - 1 0 -\nend closed\n"
    ∷ run_case (0x01 ∷ 0x00 ∷ 0x00 ∷ 0x00 ∷ 0x07 ∷ 0x00 ∷ 0x00 ∷ 0x00 ∷ 0xFF ∷ 0xFF ∷ []) "0 1 7 0 32 0\n1 65535 - 1 0 -\nend closed\n"
    -- headers of messages of 65,536 bytes, which is cut, and of 65,537
    ∷ run_case (0x01 ∷ 0x00 ∷ 0xF8 ∷ 0xFF ∷ 0x07 ∷ 0x00 ∷ 0x00 ∷ 0x00 ∷ []) "0 1 7 1 0 -\nend closed\n"
    ∷ run_case (0x01 ∷ 0x00 ∷ 0xF9 ∷ 0xFF ∷ 0x07 ∷ 0x00 ∷ 0x00 ∷ 0x00 ∷ []) "end long\n"
    ∷ []

pub rows_right : map (λ r. printed_of r.input) rows ≡ map (λ r. ascii r.printed) rows
unfolding le num load store is_whole header_of twos code_bytes bit_of is_on put_bit bits_have in_range is_set allows_command allows_event layout_of size_fits names_vcpu vcpu_of switches_at padding_runs first_non_zero first_of_runs first_padding count_fits invalid_by is_invalid is_unready is_denied is_unsupported is_busy is_absent change_of loses_errors command_verdict_by command_verdict verdict reaches_test6 reported_padding message_bytes reply_bytes reply_data answer_bytes answer_seq answer_of field cleared mode_of_number put_bit64 change fresh_of answering_of judged_of headed_of message_of ready_of total_of cut_of extent_of signed_of line_id seq_of is_command_error error_at error_of line_of digits decimal signed_text number_text code_text line_text end_text start_of passed_of told_of turn_by turn_of run_of printed_of
rows_right = refl
