-- The table of events, and what holds of an event that is asked for. Assumes nothing.
use mathlib.Core.Path.{◌≡◌, refl, sym, ap, ◌∙◌}
use Prim.Native.Nat.{ℕ, ◌%◌, ◌≤◌, ◌<◌}
use native.Mathlib.Omega.{arith}
use mathlib.Core.List.{List, [], ◌++◌}
use mathlib.Core.Bool.{Bool, true, false, ◌&&◌, So}
use lib.ListN.{length, get_or, get_or-eq_default}
use lib.Dec.{leb, ltb, eqb}
use borrow.Author.Tests.{leb-true, ltb-true, ltb-false, eqb-true, ne_eqb}
use Rattle.wire.specs.Bytes.{le}
use Rattle.std.specs.Option.{option_map_or}
use Rattle.kvmi.specs.declared.EventRow.{EventRow}
use Rattle.kvmi.specs.Bits.{every}
use Rattle.kvmi.specs.Tables.{Tables}
use Rattle.kvmi.specs.Event.{events, unoffered, event_row_of, is_offered, offer_fits, asks_for, is_asked_for}
use Rattle.kvmi.specs.Reply.{message_bytes, event_bytes}
use Rattle.laws.proofs.Bool.{and_r, test, clash, every-get_d}

-- ---- the table
-- what holds of each row, and of an event that has none, holds of every event
pub every-row : (f : EventRow → Bool) → So (f unoffered) → So (every f events) → (event : ℕ) → So (f (event_row_of event))
unfolding event_row_of
every-row f d h event = every-get_d f events event unoffered d h

-- an event has at most 24 bytes of its own
pub own-few : (event : ℕ) (own : List ℕ) → offer_fits event own ≡ true → length own ≤ 24
unfolding offer_fits
own-few event own h =
    let most = leb-true (event_row_of event).own 24 (every-row (λ (r : EventRow). leb r.own 24) refl refl event) in
    let same = eqb-true (length own) (event_row_of event).own (and_r (is_offered (event_row_of event).switch) (eqb (length own) (event_row_of event).own) h) in
    omega arith

-- ---- an event that is asked for
module _ (t : Tables) (vcpu event : ℕ) (own : List ℕ) (h : is_asked_for t vcpu event own ≡ true) where
  -- it has a row
  pub asked-small : event < 15
  unfolding is_asked_for asks_for event_row_of
  asked-small =
      test (ltb event 15) (λ e. ltb-true event 15 e)
      (λ e. let z : is_asked_for t vcpu event own ≡ false = ap (λ (r : EventRow). option_map_or (asks_for t vcpu event own) r.switch false) (get_or-eq_default events unoffered {n = event} (ltb-false event 15 e)) in clash h z)

  -- it is not an event that no switch is asked of: none (0), or a pause (2)
  pub asked-other : (k : ℕ) → is_asked_for t vcpu k own ≡ false → eqb event k ≡ false
  asked-other k z = test (eqb event k) (λ e. clash h (rw (eqb-true event k e) z)) (λ e. e)

  pub asked-some : eqb event 0 ≡ false
  unfolding is_asked_for asks_for event_row_of
  asked-some = asked-other 0 refl

  pub asked-no-pause : eqb event 2 ≡ false
  unfolding is_asked_for asks_for event_row_of
  asked-no-pause = asked-other 2 refl

-- ---- its bytes
-- the event's number is byte 12
pub event-number : (seq vcpu event : ℕ) (block own rest : List ℕ) → get_or (event_bytes seq vcpu event block own ++ rest) 12 0 ≡ event % 256
unfolding event_bytes message_bytes le
event-number seq vcpu event block own rest = refl

-- it has bytes
pub event-long : (seq vcpu event : ℕ) (block own : List ℕ) → eqb (length (event_bytes seq vcpu event block own)) 0 ≡ false
unfolding event_bytes message_bytes le
event-long seq vcpu event block own = ne_eqb (length (event_bytes seq vcpu event block own)) 0 (λ e. omega arith)
