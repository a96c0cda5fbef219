-- The exported calls are those that the demands speak of. Assumes nothing.
use mathlib.Core.Path.{◌≡◌, refl, sym, ◌∙◌, subst}
use Prim.Native.Nat.{ℕ, ◌≤◌, min}
use native.Mathlib.Omega.{arith}
use mathlib.Core.List.{List, []}
use mathlib.Core.Bool.{Bool, true, false, cond, not, ◌&&◌}
use lib.ListN.{length}
use lib.Dec.{leb, ltb, eqb}
use borrow.Author.Tests.{leb-true, leb-false, le-leb, lt-leb}
use Rattle.kvmi.specs.declared.Signal.TheVariants.{Quiet}
use Rattle.kvmi.specs.Limits.{event_out, state_bytes}
use Rattle.kvmi.specs.Event.{offer_fits}
use Rattle.kvmi.specs.Image.{image}
use Rattle.kvmi.specs.Call.{ready, enter, write_image, awaits_any}
use Rattle.store.specs.Words.{field, put_bit64, AWAITED}
use Rattle.session.specs.State.{State, state, with_ready_bits, is_closed}
use Rattle.session.specs.Calls.{Told, told_same, told_written, ready_of}
use Rattle.session.specs.Meaning.{awaited_of}
use Rattle.entry.specs.Entry.{sent_of, entered_of, enter_of}
use Rattle.image_writer.specs.Write.{stated_vcpus, stated_tables, image_of}
use Rattle.batch_given.specs.Given.{batch_given}
use Rattle.calls.specs.Given.{given, fresh_given, ready_given, message_given, enter_given, size_given, write_given, read_given}
use Rattle.history.specs.History.{step_of, after_of}
use Rattle.history.specs.Exported.{OnSession, OnVcpus, Exported}
use Rattle.laws.proofs.Bool.{test}
use Rattle.laws.proofs.Verdicts.{pick}
use Rattle.refine.proofs.Words.{few-vcpus}
use Rattle.refine.proofs.Simulate.{both}
use Rattle.history.proofs.Lists.{after-stands, began-stands}

-- ---- a vCPU number past u16
module _ (n vcpu : ℕ) (few : n ≤ 65535) where
  -- it is none of theirs, taken so or not
  known_same : leb n (min vcpu 65535) ≡ leb n vcpu
  known_same =
      test (leb n vcpu)
      (λ h. let past = leb-true n vcpu h in le-leb n (min vcpu 65535) (omega arith) ∙ sym h)
      (λ h. let below = leb-false n vcpu h in lt-leb n (min vcpu 65535) (omega arith) ∙ sym h)

  -- and one of theirs is taken as it is
  taken-same : leb n vcpu ≡ false → vcpu ≡ min vcpu 65535
  taken-same h = let below = leb-false n vcpu h in omega arith

  -- by cases on the test whether it is one of theirs
  by-vcpu : (R : Told → Told → Type 0) (x : Told) (y : ℕ → Told) (u v : Told) → R x u → R (y vcpu) v → R (cond (leb n (min vcpu 65535)) x (y (min vcpu 65535))) (cond (leb n vcpu) u v)
  by-vcpu R x y u v f g =
      subst (λ (t : Bool). R (cond t x (y (min vcpu 65535))) (cond (leb n vcpu) u v)) (sym known_same)
      (both R (leb n vcpu) x (y (min vcpu 65535)) u v (λ _. f) (λ h. subst (λ (k : ℕ). R (y k) v) (taken-same h) g))

-- ---- a ready mark
module _ (st : State) (vcpu : ℕ) (few : st.session.settings.vcpus ≤ 65535) where
  abbrev Readies : Told → Told → Type 0
  Readies r q = OnSession st (given r) q

  ready-same : Readies (ready_of (state st.session [] []) (min vcpu 65535)) (ready_of st vcpu)
  unfolding ready_of
  ready-same =
      let n = st.session.settings.vcpus in
      both Readies (is_closed st) _ _ _ _ (λ _. record { done = refl; result = refl; vcpus = refl; pages = refl })
      (λ _. by-vcpu n vcpu few Readies _
      (λ (k : ℕ). told_written [] Quiet (state (with_ready_bits st.session (put_bit64 st.session.shared.ready k true)) [] []) [] [])
      _
      _
      (record { done = refl; result = refl; vcpus = refl; pages = refl })
      (record { done = refl; result = refl; vcpus = refl; pages = refl }))

-- ---- an entry
module _ (st : State) (vcpu : ℕ) (block : List ℕ) (event : ℕ) (own out : List ℕ) where
  abbrev Enters : Told → Told → Type 0
  Enters r q = OnVcpus st (given r) q

  still : (k : ℕ) → Enters (told_same k st out []) (told_same k st out [])
  still k = record { done = refl; vcpus = refl; out = refl; result = refl; pages = refl }

  entered-same : Enters (entered_of st vcpu block event own out) (entered_of st vcpu block event own out)
  unfolding entered_of sent_of
  entered-same =
      both Enters (not (eqb (field st.vcpus vcpu AWAITED) 0)) _ _ _ _ (λ _. still 6)
      (λ _. record { done = refl; vcpus = refl; out = refl; result = refl; pages = refl })

  -- behind the test of its number
  abbrev behind : State → ℕ → Told
  behind s k =
      cond (not (eqb (length block) state_bytes && offer_fits event own)) (told_same 5 s out [])
      (cond (ltb (length out) event_out) (told_same 3 s out []) (entered_of s k block event own out))

  enter-same : st.session.settings.vcpus ≤ 65535 → Enters (enter_of st (min vcpu 65535) block event own out) (enter_of st vcpu block event own out)
  unfolding enter_of
  enter-same few =
      both Enters (is_closed st) _ _ _ _ (λ _. still 2)
      (λ _. by-vcpu st.session.settings.vcpus vcpu few Enters (told_same 4 st out []) (behind st) (told_same 4 st out []) (behind st vcpu) (still 4)
      (both Enters (not (eqb (length block) state_bytes && offer_fits event own)) _ _ _ _ (λ _. still 5)
      (λ _. both Enters (ltb (length out) event_out) _ _ _ _ (λ _. still 3) (λ _. entered-same))))

-- ---- an image
image-keeps : (st : State) (out : List ℕ) → (image_of st out).state ≡ st
unfolding image_of
image-keeps st out =
    pick Kept (is_closed st) _ _ (λ _. refl)
    (λ _. pick Kept (awaits_any (awaited_of st.vcpus 0 (stated_vcpus st))) _ _ (λ _. refl)
    (λ _. pick Kept (ltb (length out) (length (image (stated_tables st)))) _ _ (λ _. refl) (λ _. refl)))
  where
    Kept : Told → Type 0
    Kept r = r.state ≡ st

-- ---- call by call
pub exported : Exported
unfolding step_of fresh_given ready_given message_given batch_given enter_given size_given write_given read_given
exported =
    record {
      fresh = λ s vcpus pages. refl;
      read_image = λ s vcpus pages l. refl;
      ready = λ st vcpu few. ready-same st vcpu few;
      message = λ st msg out guest. refl;
      batch = λ st input out signals guest. refl;
      enter = λ st vcpu block event own out few. enter-same st vcpu block event own out few;
      write_image = λ st out. record { all = refl; state = image-keeps st out };
      image_size = λ st. refl;
      few = λ s st m b cs. few-vcpus (after_of st cs).session.settings (after-stands s st m cs (began-stands s st m b)).formed.settings;
    }
