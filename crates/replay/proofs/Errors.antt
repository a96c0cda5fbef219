-- The error of a line is the code that the command was answered with, whichever bytes carry it. Assumes nothing.
use mathlib.Core.Path.{◌≡◌, refl, sym, ap, ◌∙◌}
use mathlib.Core.List.{List, ◌++◌, append_assoc}
use mathlib.Core.Bool.{Bool, true, false, cond, ◌&&◌}
use Prim.Native.Nat.{ℕ, ◌+◌, ◌<◌}
use native.Mathlib.Omega.{arith}
use lib.Dec.{eqb}
use lib.IntN.{ℤ, pos, negsuc}
use lib.ListN.{length, replicate, length-replicate}
use mir.Syntax.{w32}
use mir.Val.{SFits}
use borrow.Author.Tests.{ne_eqb}
use Rattle.std.specs.Prelude.{Option, Some, None}
use Rattle.wire.specs.Bytes.{le, load}
use Rattle.wire.specs.Code.{twos, code_bytes}
use Rattle.wire.proofs.Laws.{length-le, load-behind, load-le}
use Rattle.wire.proofs.Codes.{twos-fits}
use Rattle.kvmi.specs.declared.ReplyMode.{ReplyMode}
use Rattle.kvmi.specs.declared.ReplyMode.TheVariants.{On, Off, ErrorsOnly}
use Rattle.kvmi.specs.Codes.{is_error}
use Rattle.kvmi.specs.Reply.{message_bytes, reply_bytes, event_bytes, command_error_event, answer_bytes}
use Rattle.reply.proofs.Lengths.{length-reply, length-command-error}
use Rattle.stream.specs.Signed.{signed_of}
use Rattle.stream.specs.Line.{is_command_error, error_at, error_of}
use Rattle.stream.proofs.Codes.{signed-twos}

-- a number behind bytes whose length is known
behind : (k : ℕ) (s t : List ℕ) (n at : ℕ) → length s ≡ n → load k (s ++ t) (n + at) ≡ load k t at
behind k s t n at e = rw (← e) (load-behind k s t at)

-- a number of a message's data
in-data : (k id seq : ℕ) (d rest : List ℕ) (at : ℕ) → load k (message_bytes id seq d ++ rest) (8 + at) ≡ load k (d ++ rest) at
unfolding message_bytes
in-data k id seq d rest at =
    let place : 8 + at ≡ 2 + (2 + (4 + at)) = omega arith in
    simp append_assoc
    (rw place
    (behind k (le 2 id) _ 2 (2 + (4 + at)) (length-le 2 id)
    ∙ behind k (le 2 (length d)) _ 2 (4 + at) (length-le 2 (length d))
    ∙ behind k (le 4 seq) (d ++ rest) 4 at (length-le 4 seq)))

-- the id of a message
read-id : (id seq : ℕ) (d rest : List ℕ) → id < 65536 → load 2 (message_bytes id seq d ++ rest) 0 ≡ id
unfolding message_bytes
read-id id seq d rest h = simp append_assoc (load-le 2 id _ (omega arith))

-- the code, where its bytes stand
read-code : (code : ℤ) (t : List ℕ) → SFits w32 code → signed_of (load 4 (code_bytes code ++ t) 0) ≡ code
unfolding code_bytes
read-code code t f = ap signed_of (load-le 4 (twos code) t (omega (arith, twos-fits code f))) ∙ signed-twos code f

in-reply : (id seq : ℕ) (code : ℤ) (d rest : List ℕ) → SFits w32 code → signed_of (load 4 (reply_bytes id seq code d ++ rest) 8) ≡ code
unfolding reply_bytes
in-reply id seq code d rest f =
    ap signed_of (in-data 4 id seq _ rest 0) ∙ simp append_assoc (read-code code _ f)

-- an event's own bytes
in-event : (seq vcpu event : ℕ) (state own rest : List ℕ) → length state ≡ 536
    → load 4 (event_bytes seq vcpu event state own ++ rest) 552 ≡ load 4 (own ++ rest) 0
unfolding event_bytes
in-event seq vcpu event state own rest h =
    in-data 4 17 seq _ rest 544
    ∙ simp append_assoc
    (behind 4 (le 2 544) _ 2 542 (length-le 2 544)
    ∙ behind 4 (le 2 vcpu) _ 2 540 (length-le 2 vcpu)
    ∙ behind 4 (le 1 event) _ 1 539 (length-le 1 event)
    ∙ behind 4 (replicate 3 0) _ 3 536 refl
    ∙ behind 4 state (own ++ rest) 536 0 h)

-- ---- what a line tells of a reply, and of a CMD_ERROR

told : (out : List ℕ) (count : ℕ) (b : Bool) → is_command_error out count ≡ b → (count ≡ 0 → ⊥)
    → error_of out count ≡ Some (signed_of (load 4 out (cond b 552 8)))
unfolding error_of error_at
told out count b e h = simp (ne_eqb count 0 h, e)

neither : (b : Bool) → (b && false) ≡ false
neither true = refl
neither false = refl

-- a reply is never taken for a CMD_ERROR: an error's has 16 bytes, and every other has another id
no-event : (id seq : ℕ) (code : ℤ) (d rest : List ℕ) → id < 65536 → (id ≡ 17 → is_error code ≡ true)
    → is_command_error (reply_bytes id seq code d ++ rest) (length (reply_bytes id seq code d)) ≡ false
unfolding is_command_error reply_bytes
no-event id seq (negsuc k) d rest h g =
    simp (ne_eqb (length (reply_bytes id seq (negsuc k) d)) 568 (λ e. omega (arith, length-reply id seq (negsuc k) d)))
no-event id seq (pos k) d rest h g =
    let other : (id ≡ 17 → ⊥) = λ e. (let b : true ≡ false = sym (g e) in let z : ◌≡◌ {A = ℕ} 0 1 = cc in omega arith) in
    simp (read-id id seq (code_bytes (pos k) ++ le 4 0 ++ d) rest h, ne_eqb id 17 other, neither)

pub reply-error : (id seq : ℕ) (code : ℤ) (d rest : List ℕ) → SFits w32 code → id < 65536 → (id ≡ 17 → is_error code ≡ true)
    → error_of (reply_bytes id seq code d ++ rest) (length (reply_bytes id seq code d)) ≡ Some code
reply-error id seq code d rest f h g =
    told _ _ false (no-event id seq code d rest h g) (λ e. omega (arith, length-reply id seq code d)) ∙ ap Some (in-reply id seq code d rest f)

is-event : (seq : ℕ) (code : ℤ) (n id : ℕ) (rest : List ℕ) → is_command_error (command_error_event seq code n id ++ rest) 568 ≡ true
unfolding is_command_error command_error_event event_bytes
is-event seq code n id rest = ap (λ (x : ℕ). (eqb 568 568 && eqb x 17)) (read-id 17 seq _ rest (omega arith))

in-command-error : (seq : ℕ) (code : ℤ) (n id : ℕ) (rest : List ℕ) → SFits w32 code
    → signed_of (load 4 (command_error_event seq code n id ++ rest) 552) ≡ code
unfolding command_error_event
in-command-error seq code n id rest f =
    ap signed_of (in-event seq 0 13 (replicate 536 0) _ rest (length-replicate {A = ℕ} 536 0)) ∙ simp append_assoc (read-code code _ f)

pub event-error : (seq : ℕ) (code : ℤ) (n id : ℕ) (rest : List ℕ) → SFits w32 code
    → error_of (command_error_event seq code n id ++ rest) (length (command_error_event seq code n id)) ≡ Some code
event-error seq code n id rest f =
    ap (error_of (command_error_event seq code n id ++ rest)) (length-command-error seq code n id)
    ∙ told _ _ true (is-event seq code n id rest) (λ e. omega arith)
    ∙ ap Some (in-command-error seq code n id rest f)

-- ---- what a line tells of any command: its code where a reply carries it or a CMD_ERROR does, and else nothing
abbrev code_told : ReplyMode → ℤ → Option ℤ
code_told On code = Some code
code_told Off code = None
code_told ErrorsOnly code = cond (is_error code) (Some code) None

pub answer-error : (mode : ReplyMode) (seq id n : ℕ) (code : ℤ) (d rest : List ℕ) → SFits w32 code → id < 65536 → (id ≡ 17 → is_error code ≡ true)
    → error_of (answer_bytes mode seq id n code d ++ rest) (length (answer_bytes mode seq id n code d)) ≡ code_told mode code
unfolding answer_bytes error_of
answer-error On seq id n code d rest f h g = reply-error id n code d rest f h g
answer-error Off seq id n code d rest f h g = refl
answer-error ErrorsOnly seq id n (pos k) d rest f h g = refl
answer-error ErrorsOnly seq id n (negsuc k) d rest f h g = event-error seq (negsuc k) n id rest f
