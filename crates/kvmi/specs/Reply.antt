-- The bytes that go out: replies, and "Events".
use Rattle.std.specs.Prelude.{ℕ, List, [], ◌∷◌, ◌++◌, cond, ℤ, length, take, drop, replicate, eqb}
use Rattle.wire.specs.Bytes.{le}
use Rattle.wire.specs.Code.{code_bytes}
use Rattle.kvmi.specs.declared.Settings.{Settings}
use Rattle.kvmi.specs.declared.ReplyMode.{ReplyMode}
use Rattle.kvmi.specs.declared.ReplyMode.TheVariants.{On, Off, ErrorsOnly}
use Rattle.kvmi.specs.declared.ReplyKind.{ReplyKind}
use Rattle.kvmi.specs.declared.ReplyKind.TheVariants.{CodeOnly, WithData, Silent}
use Rattle.kvmi.specs.Limits.{state_bytes}
use Rattle.kvmi.specs.Codes.{is_error}
use Rattle.kvmi.specs.Model.{next_seq}
use Rattle.kvmi.specs.Message.{gpa_of, size_of}

-- "A header is id u16, size u16, seq u32; then `size` bytes of data."
unfoldable pub message_bytes : ℕ → ℕ → List ℕ → List ℕ
message_bytes id seq d = le 2 id ++ le 2 (length d) ++ le 4 seq ++ d

-- "A reply is the header with its own size, the error [..], four zero bytes, and data only if the error is 0."
unfoldable pub reply_bytes : ℕ → ℕ → ℤ → List ℕ → List ℕ
reply_bytes id seq code d = message_bytes id seq (code_bytes code ++ le 4 0 ++ cond (is_error code) [] d)

-- "Version is 1", and by W7 the settings' revision, "reported by GET_VERSION"; "features are the five setting bytes and three zeros. VM_GET_INFO gives the vCPU count."
unfoldable pub reply_data : Settings → List ℕ → ℕ → List ℕ → List ℕ
reply_data s guest id d =
    cond (eqb id 1) (le 4 s.revision ++ le 4 0 ++ (s.singlestep ∷ s.vmfunc ∷ s.eptp ∷ s.ve ∷ s.spp ∷ 0 ∷ 0 ∷ 0 ∷ []))
    (cond (eqb id 4) (le 4 s.vcpus ++ replicate 12 0)
    (cond (eqb id 6) (take (size_of d) (drop (gpa_of d) guest))
    (cond (eqb id 8) (le 8 s.tsc) [])))

-- "Event data: common size 544, vCPU, event, three zeros, 536 copied state bytes."; W1: "The bytes after the first 544 are lent beside the state block
-- and copied."
unfoldable pub event_bytes : ℕ → ℕ → ℕ → List ℕ → List ℕ → List ℕ
event_bytes seq vcpu event state own = message_bytes 17 seq (le 2 544 ++ le 2 vcpu ++ le 1 event ++ replicate 3 0 ++ state ++ own)

-- event 2, 552 bytes
unfoldable pub pause_event : ℕ → ℕ → List ℕ → List ℕ
pause_event seq vcpu state = event_bytes seq vcpu 2 state []

-- event 13: "vCPU 0, a zero state block and 001's 16 bytes after it; message size field 560": error, seq and id of the command
unfoldable pub command_error_event : ℕ → ℤ → ℕ → ℕ → List ℕ
command_error_event seq code command_seq commandId =
    event_bytes seq 0 13 (replicate state_bytes 0) (code_bytes code ++ le 4 command_seq ++ le 2 commandId ++ replicate 6 0)

-- what is written in answer to a command: "While replies are off nothing is written, but an error with the flag kept writes one CMD_ERROR event."
-- seq is the next event's
unfoldable pub answer_bytes : ReplyMode → ℕ → ℕ → ℕ → ℤ → List ℕ → List ℕ
answer_bytes On seq id command_seq code d = reply_bytes id command_seq code d
answer_bytes Off seq id command_seq code d = []
answer_bytes ErrorsOnly seq id command_seq code d = cond (is_error code) (command_error_event seq code command_seq id) []

-- the next event's seq after that
unfoldable pub answer_seq : ReplyMode → ℕ → ℤ → ℕ
answer_seq On seq code = seq
answer_seq Off seq code = seq
answer_seq ErrorsOnly seq code = cond (is_error code) (next_seq seq) seq

-- EVENT_REPLY has no reply
unfoldable pub answer_of : ReplyKind → ReplyMode → ℕ → ℕ → ℕ → ℤ → List ℕ → List ℕ
answer_of CodeOnly mode seq id command_seq code d = answer_bytes mode seq id command_seq code d
answer_of WithData mode seq id command_seq code d = answer_bytes mode seq id command_seq code d
answer_of Silent mode seq id command_seq code d = []
