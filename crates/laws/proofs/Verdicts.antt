-- The ways that the tests of a message can go, and what holds of one that passes. Assumes nothing.
use mathlib.Core.Path.{◌≡◌, refl, sym, ap, ◌∙◌}
use Prim.Native.Nat.{ℕ, ◌+◌, ◌*◌, ◌≤◌, ◌<◌}
use mathlib.Core.List.{List, [], ◌∷◌}
use mathlib.Core.Bool.{Bool, true, false, cond, not, ◌&&◌, ◌||◌}
use lib.IntN.{ℤ}
use lib.ListN.{get_or, drop, length}
use lib.Dec.{leb, eqb}
use borrow.Author.Tests.{not-false, eqb-true}
use Rattle.std.specs.Prelude.{Option, Some, None}
use Rattle.wire.specs.Bytes.{load}
use Rattle.msrs.specs.Place.{is_msr}
use Rattle.kvmi.specs.declared.Settings.{Settings}
use Rattle.kvmi.specs.declared.Layout.{Layout}
use Rattle.kvmi.specs.declared.ReplyMode.{ReplyMode}
use Rattle.kvmi.specs.declared.Change.{Change}
use Rattle.kvmi.specs.declared.Change.TheVariants.{EndWait}
use Rattle.kvmi.specs.declared.Verdict.{Verdict}
use Rattle.kvmi.specs.declared.Verdict.TheVariants.{Closes, Fails, Does}
use Rattle.kvmi.specs.Bits.{among, every}
use Rattle.kvmi.specs.Codes.{is_error, EPERM, ENOENT, EAGAIN, EBUSY, EINVAL, EOPNOTSUPP, ENOSYS}
use Rattle.kvmi.specs.Settings.{allows_command, allows_event}
use Rattle.kvmi.specs.Tables.{is_cr}
use Rattle.kvmi.specs.Message.{layout_of, reply_kind, data_fits, carries_data, names_vcpu, vcpu_of, switches_at, action_of, replied_event, event_of, register_of, gpa_of, size_of, count_of, count_fits, view_of, Entry, entries_of, first_padding, takes_event}
use Rattle.kvmi.specs.declared.Awaited.{Awaited}
use Rattle.kvmi.specs.declared.Facts.{Facts}
use Rattle.kvmi.specs.Event.{event_row_of, value_of}
use Rattle.kvmi.specs.Verdict.{replies_on, takes_access, in_one_page, invalid_by, is_invalid, is_unready, is_denied, is_unsupported, is_busy, is_absent, change_of, loses_errors, command_verdict_by, command_verdict, is_awaited, reply_fits, feed_by, reply_verdict, event_reply_verdict, refuse, verdict}
use Rattle.laws.proofs.Bool.{and_l, and_r}

pub or-false-l : (a b : Bool) → (a || b) ≡ false → a ≡ false
or-false-l true b h = h
or-false-l false b h = refl

pub or-false-r : (a b : Bool) → (a || b) ≡ false → b ≡ false
or-false-r true b h = let z : true ≡ false = h in (cc)
or-false-r false b h = h

-- of a test that fails under a condition that holds
pub and-false : (a b : Bool) → (a && b) ≡ false → a ≡ true → b ≡ false
and-false true b h e = h
and-false false b h e = (cc)

-- by cases on a test
pub pick : {A : Type 0} (P : A → Type 0) (b : Bool) (x y : A) → (b ≡ true → P x) → (b ≡ false → P y) → P (cond b x y)
pick P true x y f g = f refl
pick P false x y f g = g refl

-- a message that tests 2 to 4 pass: a known id, allowed, no reply with data where replies are off, data of the right size
pub record Admitted (s : Settings) (f : Facts) (id : ℕ) (d : List ℕ) : Type 0 where
  pub known : (leb 1 id && leb id 16) ≡ true
  pub permitted : allows_command s id ≡ true
  pub answerable : (not (replies_on f.mode) && carries_data (reply_kind (layout_of id))) ≡ false
  pub size : data_fits (layout_of id) d ≡ true

-- a command that tests 2 to 6 pass, in their order; `errors` is test 5's second sentence
pub record Passed (s : Settings) (f : Facts) (id : ℕ) (d : List ℕ) : Type 0 where
  pub admitted : Admitted s f id d
  pub command : eqb id 16 ≡ false
  pub pauses : (eqb id 9 && not (allows_event s 2)) ≡ false
  pub valid : is_invalid s id d ≡ false
  pub ready : is_unready f id ≡ false
  pub allowed : is_denied s id d ≡ false
  pub supported : is_unsupported s id d ≡ false
  pub free : is_busy s f id d ≡ false
  pub present : is_absent f id d ≡ false
  pub errors : loses_errors s id d ≡ false

-- an EVENT_REPLY that is taken, to an awaited event
pub record Replied (s : Settings) (f : Facts) (a : Awaited) (id seq : ℕ) (d : List ℕ) : Type 0 where
  pub admitted : Admitted s f id d
  pub reply : id ≡ 16
  pub padding : eqb (first_padding 16 d) 0 ≡ true
  pub awaits : f.pending.awaited ≡ Some a
  pub awaited : is_awaited a seq (replied_event d) ≡ true
  pub fits : reply_fits (event_row_of a.event) d ≡ true

-- what it does
abbrev pub ending : Awaited → ℕ → List ℕ → Change
ending a guest d =
    EndWait (not (eqb a.event 2)) (vcpu_of d) (action_of d) (value_of (event_row_of a.event).form d) (feed_by (event_row_of a.event).form a.fault guest d)

-- by the event that the vCPU awaits
pub reply-cases : (P : Verdict → Type 0) (o : Option Awaited) (guest seq : ℕ) (d : List ℕ) → P Closes
    → ((a : Awaited) → o ≡ Some a → (eqb (first_padding 16 d) 0 && is_awaited a seq (replied_event d) && reply_fits (event_row_of a.event) d) ≡ true → P (Does (ending a guest d)))
    → P (reply_verdict o guest seq d)
unfolding reply_verdict
reply-cases P None guest seq d closes ends = closes
reply-cases P (Some a) guest seq d closes ends =
    pick P (eqb (first_padding 16 d) 0 && is_awaited a seq (replied_event d) && reply_fits (event_row_of a.event) d) _ _ (ends a refl) (λ _. closes)

-- a message closes, fails, does its change, or ends a vCPU's wait
pub verdict-cases : (P : Verdict → Type 0) (s : Settings) (f : Facts) (id seq : ℕ) (d : List ℕ) → P Closes → ((code : ℤ) → is_error code ≡ true → P (Fails code))
    → (Passed s f id d → P (Does (change_of id d))) → ((a : Awaited) → Replied s f a id seq d → P (Does (ending a f.guest d))) → P (verdict s f id seq d)
unfolding verdict command_verdict command_verdict_by is_invalid event_reply_verdict
verdict-cases P s f id seq d closes fails does ends =
    let refused : (code : ℤ) → is_error code ≡ true → P (refuse f.mode code) = λ code e. pick P (replies_on f.mode) (Fails code) Closes (λ _. fails code e) (λ _. closes) in
    pick P (not (leb 1 id && leb id 16)) _ _ (λ _. refused ENOSYS refl)
    (λ known. pick P (not (allows_command s id)) _ _ (λ _. refused EPERM refl)
    (λ permitted. pick P (not (replies_on f.mode) && carries_data (reply_kind (layout_of id))) _ _ (λ _. closes)
    (λ answerable. pick P (not (data_fits (layout_of id) d)) _ _ (λ _. closes)
    (λ size. let admitted : Admitted s f id d
    = record { known = not-false _ known; permitted = not-false _ permitted; answerable = answerable; size = not-false (data_fits (layout_of id) d) size } in
    pick P (eqb id 16) _ _
    (λ e. reply-cases P f.pending.awaited f.guest seq d closes
    (λ a w h. ends a
    (record {
      admitted = admitted;
      reply = eqb-true id 16 e;
      padding = search (and_l, and_r);
      awaits = w;
      awaited = search (and_l, and_r);
      fits = search (and_l, and_r);
    })))
    (λ command. pick P (eqb id 9 && not (allows_event s 2)) _ _ (λ _. closes)
    (λ pauses. pick P (is_invalid s id d) _ _ (λ _. fails EINVAL refl)
    (λ valid. pick P (is_unready f id) _ _ (λ _. fails EAGAIN refl)
    (λ ready. pick P (is_denied s id d) _ _ (λ _. fails EPERM refl)
    (λ allowed. pick P (is_unsupported s id d) _ _ (λ _. fails EOPNOTSUPP refl)
    (λ supported. pick P (is_busy s f id d) _ _ (λ _. fails EBUSY refl)
    (λ free. pick P (is_absent f id d) _ _ (λ _. fails ENOENT refl)
    (λ present. pick P (loses_errors s id d) _ _ (λ _. closes)
    (λ errors. does
    (record {
      admitted = admitted;
      command = command;
      pauses = pauses;
      valid = valid;
      ready = ready;
      allowed = allowed;
      supported = supported;
      free = free;
      present = present;
      errors = errors;
    }))))))))))))))

-- ---- the causes of -22, none of which applies
pub record Sound (s : Settings) (id : ℕ) (d : List ℕ) : Type 0 where
  pub padding : not (eqb (first_padding id d) 0) ≡ false
  pub vcpu : (names_vcpu id && leb s.vcpus (vcpu_of d)) ≡ false
  pub flags : not (every (λ at. leb (get_or d at 0) 1) (switches_at id)) ≡ false
  pub event : (among id (3 ∷ 5 ∷ 10 ∷ []) && not (takes_event id (event_of id d))) ≡ false
  pub command : (eqb id 2 && not (leb 1 (load 2 d 0) && leb (load 2 d 0) 15)) ≡ false
  pub cr : (eqb id 11 && not (is_cr (register_of d))) ≡ false
  pub msr : (eqb id 12 && not (is_msr (register_of d))) ≡ false
  pub view : (eqb id 13 && leb s.views (view_of d)) ≡ false
  pub entries : (eqb id 13 && not (count_fits d && every (λ (e : Entry). takes_access s e.access) (entries_of (count_of d) (drop 8 d)))) ≡ false
  pub range : (among id (6 ∷ 7 ∷ []) && not (in_one_page (gpa_of d) (size_of d))) ≡ false

pub sound-of : (s : Settings) (id : ℕ) (d : List ℕ) → is_invalid s id d ≡ false → Sound s id d
unfolding is_invalid invalid_by
sound-of s id d h =
    record {
      padding = search (or-false-l, or-false-r) depth 12;
      vcpu = search (or-false-l, or-false-r) depth 12;
      flags = search (or-false-l, or-false-r) depth 12;
      event = search (or-false-l, or-false-r) depth 12;
      command = search (or-false-l, or-false-r) depth 12;
      cr = search (or-false-l, or-false-r) depth 12;
      msr = search (or-false-l, or-false-r) depth 12;
      view = search (or-false-l, or-false-r) depth 12;
      entries = search (or-false-l, or-false-r) depth 12;
      range = search (or-false-l, or-false-r) depth 12;
    }
