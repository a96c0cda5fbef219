-- Laws of bytes that are written one behind the other, and what they are as one list. Assumes nothing.
use mathlib.Core.Path.{◌≡◌, refl, sym, ap, ◌∙◌}
use mathlib.Core.List.{List, [], ◌∷◌, ◌++◌, append_assoc, append-nil}
use mathlib.Core.Bool.{Bool, true, false, cond}
use Prim.Native.Nat.{ℕ, zero, suc, ◌+◌, ◌/◌, ◌%◌, ◌^◌, ◌≤◌, ◌<◌}
use native.Mathlib.Nat.{zero-add, suc-add, pow-suc, div-lt_iff_lt-mul, zero-lt-suc}
use native.Mathlib.Omega.{arith}
use lib.IntN.{ℤ, pos, negsuc}
use lib.ListN.{length, take, drop, replicate, length-append, length-replicate}
use lib.Seq.{take-append_seam}
use lib.Signed.{lt_z}
use mir.Syntax.{w32}
use mir.Val.{SFits, to_z, of_z}
use mir.Facts.{to_z-of_z}
use borrow.Author.Tests.{le-ltb}
use Rattle.wire.specs.Bytes.{le, store}
use Rattle.wire.specs.Code.{code_bytes}
use Rattle.wire.proofs.Laws.{length-le, le_join, store-join, store-past, store-none, store-start}
use Rattle.kvmi.specs.declared.Settings.{Settings}
use Rattle.kvmi.specs.Codes.{is_error}
use Rattle.kvmi.specs.Reply.{message_bytes, reply_bytes, reply_data, event_bytes, pause_event, command_error_event}
use Rattle.reply.specs.Written.{Written}
use Rattle.reply.specs.Event.{event_front}
use Rattle.reply.proofs.Lengths.{length-code, length-message}

-- ---- numbers

pub le-zero : (k : ℕ) → le k 0 ≡ replicate k 0
unfolding le
le-zero zero = refl
le-zero (suc k) = ap (λ (l : List ℕ). 0 ∷ l) (le-zero k)

-- a number that fits j bytes has zeros above them
pub le-pad : (j k n : ℕ) → n < 256 ^ j → le (j + k) n ≡ le j n ++ replicate k 0
unfolding le
le-pad zero k n h = let e : n ≡ 0 = omega arith in rw (e, zero-add) (le-zero k)
le-pad (suc j) k n h =
    rw (suc-add, le-pad j k (n / 256) ((div-lt_iff_lt-mul (zero-lt-suc 255)).1 (rw pow-suc at h)))

-- two bytes are those of the remainder
pub le_low : (n : ℕ) → le 2 (n % 65536) ≡ le 2 n
unfolding le
le_low n = sym (append-nil (le 2 (n % 65536))) ∙ le_join 2 0 n

-- ---- bytes one behind the other

-- n bytes b stand at a place in what was s
pub record Placed (s out : List ℕ) (at n : ℕ) (b : List ℕ) : Type 0 where
  pub size : length b ≡ n
  pub there : out ≡ store s at b

module _ {s out : List ℕ} {at : ℕ} where
  pub placed : {k : ℕ} (v : List ℕ) → length v ≡ k → out ≡ store s at v → Placed s out at k v
  placed v e h = record { size = e; there = h }

  -- and k bytes behind them
  pub more : {next : List ℕ} {n k : ℕ} {b : List ℕ} (v : List ℕ)
      → Placed s out at n b → length v ≡ k → next ≡ store out (at + n) v → at + (n + k) ≤ length s → Placed s next at (n + k) (b ++ v)
  more {next} {n} {k} {b} v p e h inside =
      record {
        size = length-append b v ∙ rw (p.size, e);
        there = h ∙ rw (p.there, ← p.size) (store-join s at b v (rw (p.size, e) inside));
      }

-- ---- a code

pub below-zero : (e : ℤ) → lt_z e (pos 0) ≡ is_error e
below-zero (pos n) = le-ltb n 0 (omega arith)
below-zero (negsuc n) = refl

-- what a test of a code says; a code that goes through a local is read back from its bits
pub tested : {b t : Bool} {e : ℤ} → SFits w32 e → b ≡ is_error (to_z w32 (of_z w32 e)) → b ≡ t → is_error e ≡ t
tested f h g = ap is_error (sym (to_z-of_z f)) ∙ sym h ∙ g

-- ---- what is written, as one list

le-byte : (b : ℕ) → b < 256 → le 1 b ≡ b ∷ []
unfolding le
le-byte b h = let e : b % 256 ≡ b = omega arith in rw e

pub version-bytes : (s : Settings) → s.revision < 256 ^ 4 → s.singlestep < 256 → s.vmfunc < 256 → s.eptp < 256 → s.ve < 256 → s.spp < 256
    → le 8 s.revision ++ le 1 s.singlestep ++ le 1 s.vmfunc ++ le 1 s.eptp ++ le 1 s.ve ++ le 4 s.spp ≡ reply_data s [] 1 []
unfolding reply_data
version-bytes s h a b c d e =
    rw (le-byte s.singlestep a, le-byte s.vmfunc b, le-byte s.eptp c, le-byte s.ve d, le-pad 1 3 s.spp e, le-byte s.spp e, le-pad 4 4 s.revision h, ← le-zero 4)
    (simp append_assoc)

pub vm-info-bytes : (s : Settings) → s.vcpus < 256 ^ 4 → le 8 s.vcpus ++ le 8 0 ≡ reply_data s [] 4 []
unfolding reply_data
vm-info-bytes s h = rw (le-pad 4 4 s.vcpus h, le-zero 8) (simp append_assoc)

pub length-header : (id size seq : ℕ) → length (le 2 id ++ le 2 size ++ le 4 seq) ≡ 8
length-header id size seq = simp (length-append, length-le)

pub reply-bytes : (id seq : ℕ) (code : ℤ) (d shown : List ℕ) → shown ≡ cond (is_error code) [] d
    → le 2 id ++ le 2 (length shown + 8) ++ le 4 seq ++ code_bytes code ++ le 4 0 ++ shown ≡ reply_bytes id seq code d
unfolding reply_bytes message_bytes
reply-bytes id seq code d shown e =
    let n : length (code_bytes code ++ le 4 0 ++ shown) ≡ length shown + 8 = simp (length-append, length-code, length-le) (omega arith) in
    rw (← e, n) (simp append_assoc)

pub reply-count : (id seq : ℕ) (code : ℤ) (d shown : List ℕ) → shown ≡ cond (is_error code) [] d
    → length shown + 16 ≡ length (reply_bytes id seq code d)
unfolding reply_bytes
reply-count id seq code d shown e =
    rw (← e) (simp (length-message, length-append, length-code, length-le) (omega arith))

-- a reply without data
none-shown : (failed : Bool) (none : List ℕ) → none ≡ cond failed none none
none-shown true none = refl
none-shown false none = refl

pub code-bytes : (id seq : ℕ) (code : ℤ) → le 2 id ++ le 2 8 ++ le 4 seq ++ code_bytes code ++ le 4 0 ≡ reply_bytes id seq code []
code-bytes id seq code = sym (append-nil _) ∙ reply-bytes id seq code [] [] (none-shown (is_error code) [])

pub code-count : (id seq : ℕ) (code : ℤ) → 16 ≡ length (reply_bytes id seq code [])
code-count id seq code = reply-count id seq code [] [] (none-shown (is_error code) [])

pub front_bytes : (size seq vcpu event : ℕ) → event < 256
    → le 2 17 ++ le 2 size ++ le 4 seq ++ le 2 544 ++ le 2 (vcpu % 65536) ++ le 4 event ≡ event_front size seq vcpu event
unfolding event_front
front_bytes size seq vcpu event h = rw (le_low vcpu, le-pad 1 3 event h) (simp append_assoc)

pub length_front : (size seq vcpu event : ℕ) → length (event_front size seq vcpu event) ≡ 16
unfolding event_front
length_front size seq vcpu event = simp (length-append, length-le)

event-bytes : (size seq vcpu event : ℕ) (state own : List ℕ) → size ≡ length state + length own + 8
    → event_front size seq vcpu event ++ (state ++ own) ≡ event_bytes seq vcpu event state own
unfolding event_bytes message_bytes event_front
event-bytes size seq vcpu event state own e =
    let n : length (le 2 544 ++ le 2 vcpu ++ le 1 event ++ replicate 3 0 ++ state ++ own) ≡ size = simp (length-append, length-le) (omega arith) in
    rw n (simp append_assoc)

pub pause-bytes : (size seq vcpu : ℕ) (state : List ℕ) → size ≡ length state + 8
    → event_front size seq vcpu 2 ++ state ≡ pause_event seq vcpu state
unfolding pause_event
pause-bytes size seq vcpu state e =
    ap (λ (l : List ℕ). event_front size seq vcpu 2 ++ l) (sym (append-nil state)) ∙ event-bytes size seq vcpu 2 state [] (omega arith)

pub command-error-bytes : (seq : ℕ) (code : ℤ) (command_seq commandId : ℕ) → commandId < 256 ^ 2
    → event_front 560 seq 0 13 ++ replicate 536 0 ++ code_bytes code ++ le 4 command_seq ++ le 8 commandId ≡ command_error_event seq code command_seq commandId
unfolding command_error_event
command-error-bytes seq code command_seq commandId h = whole (replicate 536 0) (length-replicate {A = ℕ} 536 0)
  where
    whole : (state : List ℕ) → length state ≡ 536
        → event_front 560 seq 0 13 ++ state ++ code_bytes code ++ le 4 command_seq ++ le 8 commandId
        ≡ event_bytes seq 0 13 state (code_bytes code ++ le 4 command_seq ++ le 2 commandId ++ replicate 6 0)
    whole state e =
        let own = code_bytes code ++ le 4 command_seq ++ le 2 commandId ++ replicate 6 0 in
        let n : 560 ≡ length state + length own + 8 = simp (length-append, length-code, length-le) (omega arith) in
        rw (le-pad 2 6 commandId h) (simp append_assoc (simp append_assoc at (event-bytes 560 seq 0 13 state own n)))

-- ---- what is returned

pub written : {s out b bytes : List ℕ} {n r : ℕ} → Placed s out 0 n b → b ≡ bytes → r ≡ n → Written s out r bytes
written p e h = record { count = h ∙ sym p.size ∙ ap length e; there = p.there ∙ ap (store _ 0) e }

-- an event's front, its state block and its own bytes, one behind the other
pub event-there : (s o1 o2 o3 : List ℕ) (size seq vcpu event : ℕ) (state own : List ℕ) → o1 ≡ store s 0 (event_front size seq vcpu event)
    → o2 ≡ store o1 16 state → o3 ≡ store o2 (16 + length state) own → 16 + (length state + length own) ≤ length s → size ≡ length state + length own + 8
    → o3 ≡ store s 0 (event_bytes seq vcpu event state own)
event-there s o1 o2 o3 size seq vcpu event state own h1 h2 h3 inside e =
    let front = event_front size seq vcpu event in
    let p1 = placed {s = s} {out = o1} {at = 0} front (length_front size seq vcpu event) h1 in
    let p2 = more {s = s} {out = o1} {at = 0} {next = o2} {b = front} state p1 refl h2 (omega arith) in
    let p3 = more {s = s} {out = o2} {at = 0} {next = o3} {b = front ++ state} own p2 refl (rw zero-add h3) (omega arith) in
    (written p3 (append_assoc front state own ∙ event-bytes size seq vcpu event state own e) refl).there

-- what does not fit is not written
pub unwritten : (s bytes : List ℕ) (r : ℕ) → r ≡ length bytes → length s < r → Written s s r bytes
unwritten s bytes r e h = record { count = e; there = sym (store-past s 0 bytes (omega arith)) }

pub written_none : (s : List ℕ) → Written s s 0 []
written_none s = record { count = refl; there = sym (store-none s 0) }

-- what fits stands at the front
pub written-front : {s out b : List ℕ} {r : ℕ} → Written s out r b → length b ≤ length s → take r out ≡ b
written-front {s} {out} {b} {r} w h = rw (w.there, w.count, store-start s b h) (take-append_seam b (drop (length b) s))
