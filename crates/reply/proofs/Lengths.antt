-- How long what goes out is, and that it is bytes. Assumes nothing.
use mathlib.Core.Path.{◌≡◌, refl, ◌∙◌}
use mathlib.Core.Logic.{◌⊎◌, inl, inr}
use mathlib.Core.List.{List, [], ◌∷◌, ◌++◌}
use mathlib.Core.Bool.{Bool, true, false, So, cond, ◌&&◌, and_assoc, and-eq-true_iff}
use Prim.Native.Nat.{ℕ, ◌+◌, ◌%◌, ◌≤◌}
use native.Mathlib.Omega.{arith}
use lib.IntN.{ℤ}
use lib.Dec.{leb, eqb}
use lib.ListN.{length, drop, replicate, length-append, length-take}
use lib.Pow.{are_bytes}
use borrow.Author.Tests.{leb-true, eqb-true}
use Rattle.wire.specs.Bytes.{le}
use Rattle.wire.specs.Code.{code_bytes}
use Rattle.wire.proofs.Laws.{length-le, bytes_le, bytes-append, bytes_take, bytes_drop}
use Rattle.kvmi.specs.declared.Settings.{Settings}
use Rattle.kvmi.specs.declared.ReplyMode.{ReplyMode}
use Rattle.kvmi.specs.declared.ReplyMode.TheVariants.{On, Off, ErrorsOnly}
use Rattle.kvmi.specs.declared.ReplyKind.{ReplyKind}
use Rattle.kvmi.specs.declared.ReplyKind.TheVariants.{CodeOnly, WithData, Silent}
use Rattle.kvmi.specs.Codes.{is_error}
use Rattle.kvmi.specs.Message.{gpa_of, size_of}
use Rattle.kvmi.specs.Verdict.{in_one_page}
use Rattle.kvmi.specs.Reply.{message_bytes, reply_bytes, reply_data, event_bytes, pause_event, command_error_event, answer_bytes, answer_of}

-- what holds of both cases holds
on-cond : {A : Type 0} (P : A → Type 0) (t : Bool) (x y : A) → (t ≡ true → P x) → (t ≡ false → P y) → P (cond t x y)
on-cond P true x y f g = f refl
on-cond P false x y f g = g refl

-- ---- lengths

pub length-code : (code : ℤ) → length (code_bytes code) ≡ 4
unfolding code_bytes
length-code code = simp length-le

pub length-message : (id seq : ℕ) (d : List ℕ) → length (message_bytes id seq d) ≡ 8 + length d
unfolding message_bytes
length-message id seq d = simp (length-append, length-le)

length-cond : (t : Bool) (d : List ℕ) → length (cond t [] d) ≡ cond t 0 (length d)
length-cond true d = refl
length-cond false d = refl

pub length-reply : (id seq : ℕ) (code : ℤ) (d : List ℕ) → length (reply_bytes id seq code d) ≡ 16 + cond (is_error code) 0 (length d)
unfolding reply_bytes
length-reply id seq code d =
    simp (length-message, length-append, length-code, length-le, length-cond) (omega arith)

pub length-event : (seq vcpu event : ℕ) (state own : List ℕ) → length (event_bytes seq vcpu event state own) ≡ 16 + (length state + length own)
unfolding event_bytes
length-event seq vcpu event state own =
    simp (length-message, length-append, length-le) (omega arith)

pub length-pause : (seq vcpu : ℕ) (state : List ℕ) → length (pause_event seq vcpu state) ≡ 16 + length state
unfolding pause_event
length-pause seq vcpu state = length-event seq vcpu 2 state [] ∙ omega arith

-- with a whole state block
pub length-pause-whole : (seq vcpu : ℕ) (state : List ℕ) → length state ≡ 536 → length (pause_event seq vcpu state) ≡ 552
length-pause-whole seq vcpu state h = omega (arith, length-pause seq vcpu state)

pub length-command-error : (seq : ℕ) (code : ℤ) (command_seq commandId : ℕ) → length (command_error_event seq code command_seq commandId) ≡ 568
unfolding command_error_event
length-command-error seq code command_seq commandId = simp (length-event, length-append, length-code, length-le)

-- ---- 4,112 bytes hold every answer

page-size : (gpa size : ℕ) → in_one_page gpa size ≡ true → size ≤ 4096
unfolding in_one_page
page-size gpa size h =
    let e = leb-true (gpa % 4096 + size) 4096 ((and-eq-true_iff (leb 1 size) (leb (gpa % 4096 + size) 4096)).0 h).1 in
    omega arith

-- the data of a reply is a page of guest memory or less
abbrev Page : List ℕ → Type 0
Page l = length l ≤ 4096

pub length-data : (s : Settings) (guest : List ℕ) (id : ℕ) (d : List ℕ)
    → (in_one_page (gpa_of d) (size_of d) ≡ true) ⊎ (id ≡ 6 → ⊥) → length (reply_data s guest id d) ≤ 4096
unfolding reply_data
length-data s guest id d h =
    on-cond Page (eqb id 1) _ _ (λ _. simp (length-append, length-le) (omega arith))
    (λ _. on-cond Page (eqb id 4) _ _ (λ _. simp (length-append, length-le) (omega arith))
    (λ _. on-cond Page (eqb id 6) _ _ (λ e. rw length-take (omega (arith, page e h)))
    (λ _. on-cond Page (eqb id 8) _ _ (λ _. simp length-le (omega arith)) (λ _. omega arith))))
  where
    page : eqb id 6 ≡ true → (in_one_page (gpa_of d) (size_of d) ≡ true) ⊎ (id ≡ 6 → ⊥) → size_of d ≤ 4096
    page e (inl g) = page-size (gpa_of d) (size_of d) g
    page e (inr g) = absurd (g (eqb-true id 6 e))

length-answer-bytes : (mode : ReplyMode) (seq id command_seq : ℕ) (code : ℤ) (d : List ℕ) → length d ≤ 4096 → length (answer_bytes mode seq id command_seq code d) ≤ 4112
unfolding answer_bytes
length-answer-bytes On seq id command_seq code d h =
    let part : cond (is_error code) 0 (length d) ≤ 4096 = on-cond (λ n. n ≤ 4096) (is_error code) 0 (length d) (λ _. omega arith) (λ _. h) in
    omega (arith, length-reply id command_seq code d)
length-answer-bytes Off seq id command_seq code d h = omega arith
length-answer-bytes ErrorsOnly seq id command_seq code d h =
    on-cond (λ l. length l ≤ 4112) (is_error code) (command_error_event seq code command_seq id) []
    (λ _. rw length-command-error (omega arith))
    (λ _. omega arith)

pub length-answer : (kind : ReplyKind) (mode : ReplyMode) (seq id command_seq : ℕ) (code : ℤ) (s : Settings) (guest d : List ℕ)
    → (in_one_page (gpa_of d) (size_of d) ≡ true) ⊎ (id ≡ 6 → ⊥)
    → length (answer_of kind mode seq id command_seq code (reply_data s guest id d)) ≤ 4112
unfolding answer_of
length-answer CodeOnly mode seq id command_seq code s guest d h =
    length-answer-bytes mode seq id command_seq code (reply_data s guest id d) (length-data s guest id d h)
length-answer WithData mode seq id command_seq code s guest d h =
    length-answer-bytes mode seq id command_seq code (reply_data s guest id d) (length-data s guest id d h)
length-answer Silent mode seq id command_seq code s guest d h = omega arith

-- ---- bytes

-- the feature bytes of the settings
abbrev pub features : Settings → List ℕ
features s = s.singlestep ∷ s.vmfunc ∷ s.eptp ∷ s.ve ∷ s.spp ∷ []

bytes-both : (s t : List ℕ) → are_bytes (s ++ t) ≡ (are_bytes s && are_bytes t)
bytes-both [] t = refl
bytes-both (b ∷ s) t = rw (bytes-both s t, and_assoc)

bytes-cond : (t : Bool) (x y : List ℕ) → So (are_bytes x) → So (are_bytes y) → So (are_bytes (cond t x y))
bytes-cond t x y f g = on-cond (λ l. So (are_bytes l)) t x y (λ _. f) (λ _. g)

bytes-code : (code : ℤ) → So (are_bytes (code_bytes code))
unfolding code_bytes
bytes-code code = bytes_le 4 _

bytes-message : (id seq : ℕ) (d : List ℕ) → So (are_bytes d) → So (are_bytes (message_bytes id seq d))
unfolding message_bytes
bytes-message id seq d h = simp (bytes-both, bytes_le, h)

pub bytes-reply : (id seq : ℕ) (code : ℤ) (d : List ℕ) → So (are_bytes d) → So (are_bytes (reply_bytes id seq code d))
unfolding reply_bytes
bytes-reply id seq code d h =
    bytes-message id seq _ (simp (bytes-both, bytes-code, bytes_le, bytes-cond (is_error code) [] d refl h))

pub bytes-event : (seq vcpu event : ℕ) (state own : List ℕ) → So (are_bytes state) → So (are_bytes own) → So (are_bytes (event_bytes seq vcpu event state own))
unfolding event_bytes
bytes-event seq vcpu event state own h g = bytes-message 17 seq _ (simp (bytes-both, bytes_le, h, g))

pub bytes-pause : (seq vcpu : ℕ) (state : List ℕ) → So (are_bytes state) → So (are_bytes (pause_event seq vcpu state))
unfolding pause_event
bytes-pause seq vcpu state h = bytes-event seq vcpu 2 state [] h refl

pub bytes-command-error : (seq : ℕ) (code : ℤ) (command_seq commandId : ℕ) → So (are_bytes (command_error_event seq code command_seq commandId))
unfolding command_error_event
bytes-command-error seq code command_seq commandId =
    bytes-event seq 0 13 (replicate 536 0) _ refl (simp (bytes-both, bytes-code, bytes_le))

pub bytes-data : (s : Settings) (guest : List ℕ) (id : ℕ) (d : List ℕ) → So (are_bytes guest) → So (are_bytes (features s)) → So (are_bytes (reply_data s guest id d))
unfolding reply_data le
bytes-data s guest id d h g =
    let zeros : List ℕ = 0 ∷ 0 ∷ 0 ∷ [] in
    bytes-cond (eqb id 1) (le 4 s.revision ++ le 4 0 ++ (features s ++ zeros)) _
    (bytes-append (le 4 s.revision) (le 4 0 ++ (features s ++ zeros)) (bytes_le 4 s.revision) (bytes-append (le 4 0) (features s ++ zeros) refl (bytes-append (features s) zeros g refl)))
    (bytes-cond (eqb id 4) _ _ (simp (bytes-both, bytes_le))
    (bytes-cond (eqb id 6) _ _ (bytes_take (size_of d) (drop (gpa_of d) guest) (bytes_drop (gpa_of d) guest h))
    (bytes-cond (eqb id 8) _ _ (bytes_le 8 s.tsc) refl)))

bytes-answer-bytes : (mode : ReplyMode) (seq id command_seq : ℕ) (code : ℤ) (d : List ℕ) → So (are_bytes d) → So (are_bytes (answer_bytes mode seq id command_seq code d))
unfolding answer_bytes
bytes-answer-bytes On seq id command_seq code d h = bytes-reply id command_seq code d h
bytes-answer-bytes Off seq id command_seq code d h = refl
bytes-answer-bytes ErrorsOnly seq id command_seq code d h =
    bytes-cond (is_error code) (command_error_event seq code command_seq id) [] (bytes-command-error seq code command_seq id) refl

pub bytes-answer : (kind : ReplyKind) (mode : ReplyMode) (seq id command_seq : ℕ) (code : ℤ) (s : Settings) (guest d : List ℕ)
    → So (are_bytes guest) → So (are_bytes (features s)) → So (are_bytes (answer_of kind mode seq id command_seq code (reply_data s guest id d)))
unfolding answer_of
bytes-answer CodeOnly mode seq id command_seq code s guest d h g =
    bytes-answer-bytes mode seq id command_seq code (reply_data s guest id d) (bytes-data s guest id d h g)
bytes-answer WithData mode seq id command_seq code s guest d h g =
    bytes-answer-bytes mode seq id command_seq code (reply_data s guest id d) (bytes-data s guest id d h g)
bytes-answer Silent mode seq id command_seq code s guest d h g = refl
