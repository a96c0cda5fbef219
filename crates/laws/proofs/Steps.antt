-- Every call, from valid tables, leaves valid tables. Assumes nothing.
use mathlib.Core.Path.{◌≡◌, refl, sym, ap, ◌∙◌}
use Prim.Native.Nat.{ℕ, zero, suc, ◌+◌, ◌*◌, ◌-◌, ◌/◌, ◌%◌, ◌^◌, ◌≤◌, ◌<◌, zero-le}
use native.Mathlib.Nat.{zero-add}
use native.Mathlib.Omega.{arith}
use mathlib.Core.List.{List, [], ◌∷◌, ◌++◌}
use mathlib.Core.Bool.{Bool, true, false, cond, not, ◌&&◌, ◌||◌, So}
use mathlib.Core.Option.{Option, none, some}
use lib.IntN.{ℤ}
use lib.ListN.{length, get_or, set, take, drop}
use lib.Dec.{leb, eqb, ltb}
use borrow.Author.Tests.{leb-true, leb-false, ltb-true, ltb-false, eqb-true, eqb-false, le-leb, lt-ltb, eq-eqb, not-false, not-true}
use Rattle.std.specs.Prelude.{Some, None}
use Rattle.wire.specs.Bytes.{load}
use Rattle.wire.specs.Header.{HeaderRead, header_of}
use Rattle.msrs.specs.Place.{is_msr}
use Rattle.kvmi.specs.declared.Settings.{Settings}
use Rattle.kvmi.specs.declared.Change.{Change}
use Rattle.kvmi.specs.declared.Change.TheVariants.{Nothing, SetVmEvent, WritePhysical, QueuePause, SetVcpuEvent, SetCr, SetMsr, SetPages, SetSinglestep, SetReplies, EndWait}
use Rattle.kvmi.specs.declared.Verdict.{Verdict}
use Rattle.kvmi.specs.declared.Verdict.TheVariants.{Closes, Fails, Does}
use Rattle.kvmi.specs.Bits.{every, among, put_bit, bits_have}
use Rattle.kvmi.specs.Settings.{in_range, allows_event, can_singlestep, uncatchable, held_by_host, all_or_nothing}
use Rattle.kvmi.specs.Ascending.{rising, has, put}
use Rattle.kvmi.specs.Tables.{Vcpu, Msr, Page, Tables, page_key, resting, vcpu_at, set_vcpu, with_vm_events, with_pages, with_ready, with_pauses, with_events, with_crs, with_singlestep}
use Rattle.kvmi.specs.Model.{Model, fresh, begun, on_vcpu, awaited_by, is_some}
use Rattle.kvmi.specs.Message.{names_vcpu, vcpu_of, enables, event_of, register_of, count_of, count_fits, view_of, Entry, entry_of, entries_of, is_vm_event, is_vcpu_event, takes_event}
use Rattle.kvmi.specs.declared.Facts.{Facts}
use Rattle.kvmi.specs.Event.{offer_fits, is_asked_for}
use Rattle.kvmi.specs.Verdict.{facts_of, is_access, takes_access, is_invalid, is_unready, is_denied, is_unsupported, is_busy, change_of, mode_of, verdict}
use Rattle.kvmi.specs.Limits.{page_limit}
use Rattle.kvmi.specs.Change.{Run, page_of, is_skipped, set_page, take_entry, take_entries, run_by, set_pages, Applied, apply}
use Rattle.kvmi.specs.Image.{vm_form, ms_form, pa_form, vm_may, may_enable, pa_may, image, Loaded, loaded, load_image}
use Rattle.kvmi.specs.Call.{Began, anew, from_image, Call, message, ready, enter, write_image, Step, answering, judged, headed, message_step, ready_step, sending, pausing, dequeuing, entering, enter_step, awaits_any, image_step, step, move, after}
use Rattle.laws.proofs.Bool.{and_l, and_r, and_i, or_l, or_r, either, test, clash, every-head, every-tail, every-and}
use Rattle.laws.proofs.Bits.{bits_put}
use Rattle.laws.proofs.Ascending.{rising-put, rising-forget, length-put, length-put-found, length-put-new, length-forget, every-put, every-forget}
use Rattle.laws.proofs.Lookup.{set-rising, set-every}
use Rattle.kvmi.specs.Valid.{Valid, vc_good, pa_good}
use Rattle.laws.proofs.Valid.{valid-events, valid-msrs, valid-pages}
use Rattle.laws.proofs.Load.{load-valid}
use Rattle.laws.proofs.Verdicts.{pick, or-false-l, or-false-r, and-false, Passed, verdict-cases, Sound, sound-of}
use Rattle.laws.proofs.Kept.{empty-valid, vcpu-good, vcpu-valid, ready-good, unpaused-good, paused-good, event-good, cr-good, singlestep-good, vm-event-small}

-- ---- message 13
record Pages (s : Settings) (ps : List Page) : Type 0 where
  good : So (every (pa_good s) ps)
  up : So (rising page_key 0 ps)
  few : length ps ≤ page_limit

-- an access that is taken under settings is one that a page can have
pub takes-access : (s : Settings) (a : ℕ) → So (takes_access s a) → So (is_access a)
unfolding takes_access
takes-access s a h = and_l (is_access a) _ h

-- an entry that message 13 takes
abbrev entry_good : Settings → Entry → Bool
entry_good s e = takes_access s e.access && ltb e.page (2 ^ 52)

-- and below rwx it is one that an image can state
pub access-below : (a : ℕ) → So (is_access a) → (eqb a 7 ≡ false) → So (among a (0 ∷ 1 ∷ 3 ∷ 4 ∷ 5 ∷ []))
unfolding is_access
access-below a h n = rw n at h

page-good : (s : Settings) (view : ℕ) (e : Entry) → So (in_range s) → view < s.views → So (entry_good s e) → eqb e.access 7 ≡ false → So (pa_good s (page_of view e))
unfolding in_range pa_form pa_may
page-good s view e ok v h n =
    let eight : s.views ≤ 8 = leb-true s.views 8 (search (and_l, and_r)) in
    let taken = and_l (takes_access s e.access) (ltb e.page (2 ^ 52)) h in
    and_i (pa_form (page_of view e)) (pa_may s (page_of view e))
    (and_i _ _ (and_i _ _ (le-leb view 7 (omega arith)) (access-below e.access (takes-access s e.access taken) n)) (and_r (takes_access s e.access) (ltb e.page (2 ^ 52)) h))
    (and_i _ _ (lt-ltb view s.views v) taken)

-- a page that is put finds room, or takes the place of its own record
room : (p : Page) (ps : List Page) → is_skipped page_limit p ps ≡ false → eqb p.access 7 ≡ false → length ps ≤ page_limit → length (put page_key p ps) ≤ page_limit
unfolding is_skipped
room p ps h n few =
    test (has page_key (page_key p) ps) (λ e. rw (length-put-found page_key p ps e) few)
    (λ e. let full : leb page_limit (length ps) ≡ false = rw (e, n) at h in
    let less = leb-false page_limit (length ps) full in
    rw (length-put-new page_key p ps e) (omega arith))

entry-pages : (s : Settings) (view : ℕ) (e : Entry) (r : Run) → So (in_range s) → view < s.views → So (entry_good s e) → Pages s r.pages → Pages s (take_entry page_limit view e r).pages
unfolding take_entry set_page
entry-pages s view e r ok v h a =
    pick (λ (x : Run). Pages s x.pages) (is_skipped page_limit (page_of view e) r.pages) _ _ (λ _. a)
    (λ stays. pick (Pages s) (eqb e.access 7) _ _
    (λ _. record {
      good = every-forget page_key (pa_good s) (page_key (page_of view e)) r.pages a.good;
      up = rising-forget page_key 0 (page_key (page_of view e)) r.pages a.up;
      few = let l = length-forget page_key (page_key (page_of view e)) r.pages in let w = a.few in omega arith;
    })
    (λ n. record {
      good = every-put page_key (pa_good s) (page_of view e) r.pages (page-good s view e ok v h n) a.good;
      up = rising-put page_key 0 (page_of view e) r.pages zero-le a.up;
      few = room (page_of view e) r.pages stays n a.few;
    }))

entries-pages : (s : Settings) (view : ℕ) (es : List Entry) (r : Run) → So (in_range s) → view < s.views → So (every (entry_good s) es) → Pages s r.pages
    → Pages s (take_entries page_limit view es r).pages
unfolding take_entries
entries-pages s view [] r ok v h a = a
entries-pages s view (e ∷ es) r ok v h a =
    entries-pages s view es (take_entry page_limit view e r) ok v (every-tail (entry_good s) e es h) (entry-pages s view e r ok v (every-head (entry_good s) e es h) a)

-- what the revision lets stand of a run: the run, or the pages before it
run-pages : (s : Settings) (before : List Page) (r : Run) → Pages s before → Pages s r.pages → Pages s (run_by s before r).pages
unfolding run_by
run-pages s before r a b = pick (λ (x : Run). Pages s x.pages) (all_or_nothing s && r.skipped) _ _ (λ _. a) (λ _. b)

-- page numbers are those of 64-bit addresses
pub entries-small : (n : ℕ) (l : List ℕ) → So (every (λ (e : Entry). ltb e.page (2 ^ 52)) (entries_of n l))
unfolding entries_of entry_of
entries-small zero l = refl
entries-small (suc n) l =
    and_i _ _ (lt-ltb (load 8 (take 16 l) 0 % 2 ^ 64 / 4096) (2 ^ 52) (omega arith)) (entries-small n (drop 16 l))

-- ---- each change, of a message that passes
module _ (s : Settings) (ok : So (in_range s)) (m : Model) (a : Valid s m.tables) (guest d : List ℕ) where
  abbrev facts : Facts
  facts = facts_of m (length guest) (vcpu_of d)

  abbrev Fine : Change → Type 0
  Fine c = Valid s (apply s m guest d c).model.tables

  -- a vCPU that a message names is ready
  is-ready : (id : ℕ) → names_vcpu id ≡ true → is_unready facts id ≡ false → (vcpu_at m.tables (vcpu_of d)).ready ≡ true
  unfolding is_unready
  is-ready id n h = not-false _ (and-false (names_vcpu id) _ h n)

  vm-event-fine : (event : ℕ) (on : Bool) → So (is_vm_event event) → So (allows_event s event) → Fine (SetVmEvent on event)
  unfolding apply vm_form vm_may
  vm-event-fine event on h g =
      let small = vm-event-small event h in
      let w = a.vm in
      let u = a.may in
      valid-events s m.tables a _
      (and_i (leb 1 (length m.tables.vcpus) && leb (length m.tables.vcpus) 16) _ (search (and_l, and_r)) (bits_put is_vm_event 0 16 m.tables.events event on (search (and_l, and_r)) small (λ _. rw zero-add h)))
      (and_i (eqb (length m.tables.vcpus) s.vcpus) _ (search (and_l, and_r)) (bits_put (allows_event s) 0 16 m.tables.events event on (search (and_l, and_r)) small (λ _. rw zero-add g)))

  msrs-fine : (msr : ℕ) (on : Bool) → So (is_msr msr) → vcpu_of d < s.vcpus → (vcpu_at m.tables (vcpu_of d)).ready ≡ true → Fine (SetMsr on (vcpu_of d) msr)
  unfolding apply ms_form vm_may
  msrs-fine msr on h v r =
      let own : Msr = record { vcpu = vcpu_of d; msr = msr } in
      let count = eqb-true (length m.tables.vcpus) s.vcpus (let w = a.may in search (and_l, and_r)) in
      let form : So (ms_form m.tables.vcpus own) = and_i _ _ (and_i _ _ (lt-ltb (vcpu_of d) (length m.tables.vcpus) (omega arith)) h) r in
      valid-msrs s m.tables a _ (set-every own m.tables.msrs (ms_form m.tables.vcpus) on (λ _. form) a.mss) (set-rising own m.tables.msrs on a.ms_up)

  pages-fine : (view count : ℕ) → view < s.views → So (every (λ (e : Entry). takes_access s e.access) (entries_of count (drop 8 d))) → Fine (SetPages view count)
  unfolding apply set_pages
  pages-fine view count v h =
      let es = entries_of count (drop 8 d) in
      let before : Pages s m.tables.pages = record { good = a.pas; up = a.pa_up; few = a.pa_few } in
      let p = run-pages s m.tables.pages _ before (entries-pages s view es (record { pages = m.tables.pages; skipped = false }) ok v (every-and (λ (e : Entry). takes_access s e.access) (λ (e : Entry). ltb e.page (2 ^ 52)) es h (entries-small count (drop 8 d))) before) in
      valid-pages s m.tables a _ p.good p.up p.few

  -- a record of one vCPU changed
  vcpu-fine : (v : Vcpu) → So (vc_good s v) → v.ready ≡ true → Valid s (set_vcpu m.tables (vcpu_of d) v)
  vcpu-fine v g r = vcpu-valid s m.tables (vcpu_of d) v g (λ _. r) a

  own-good : So (vc_good s (vcpu_at m.tables (vcpu_of d)))
  own-good = vcpu-good s m.tables (vcpu_of d) a

  -- the event of message 5 or 10 is one that it takes, and allowed
  event-allowed : (id : ℕ) → among id (3 ∷ 5 ∷ 10 ∷ []) ≡ true → is_denied s id d ≡ false → So (allows_event s (event_of id d))
  unfolding is_denied
  event-allowed id n h = not-false _ (and-false (among id (3 ∷ 5 ∷ 10 ∷ [])) _ (or-false-l _ _ h) n)

  event-taken : (id : ℕ) → among id (3 ∷ 5 ∷ 10 ∷ []) ≡ true → is_invalid s id d ≡ false → So (takes_event id (event_of id d))
  event-taken id n h = not-false _ (and-false (among id (3 ∷ 5 ∷ 10 ∷ [])) _ (sound-of s id d h).event n)

  fine-5 : Passed s facts 5 d → Fine (SetVmEvent (enables 5 d) (event_of 5 d))
  unfolding takes_event
  fine-5 p = vm-event-fine (event_of 5 d) (enables 5 d) (event-taken 5 refl p.valid) (event-allowed 5 refl p.allowed)

  fine-9 : Passed s facts 9 d → Fine (QueuePause (enables 9 d) (vcpu_of d))
  unfolding apply names_vcpu is_busy
  fine-9 p =
      let r = is-ready 9 refl p.ready in
      let few = leb-false 8 (vcpu_at m.tables (vcpu_of d)).pauses p.free in
      vcpu-fine _ (paused-good s (vcpu_at m.tables (vcpu_of d)) r few (not-false _ p.pauses) own-good) r

  fine-10 : Passed s facts 10 d → Fine (SetVcpuEvent (enables 10 d) (vcpu_of d) (event_of 10 d))
  unfolding apply names_vcpu takes_event is_unsupported is_busy may_enable
  fine-10 p =
      let event = event_of 10 d in
      let r = is-ready 10 refl p.ready in
      let may : enables 10 d ≡ true → So (may_enable s event)
      = λ on. and_i _ _ (and_i _ _ (event-allowed 10 refl p.allowed) (ap not (and-false (enables 10 d) (held_by_host s event) (or-false-l _ false p.free) on)))
      (ap not (and-false (enables 10 d) (uncatchable s event) p.supported on)) in
      vcpu-fine _ (event-good s (vcpu_at m.tables (vcpu_of d)) event (enables 10 d) r (event-taken 10 refl p.valid) may own-good) r

  fine-11 : Passed s facts 11 d → Fine (SetCr (enables 11 d) (vcpu_of d) (register_of d))
  unfolding apply names_vcpu
  fine-11 p =
      let r = is-ready 11 refl p.ready in
      vcpu-fine _ (cr-good s (vcpu_at m.tables (vcpu_of d)) (register_of d) (enables 11 d) r own-good) r

  fine-12 : Passed s facts 12 d → Fine (SetMsr (enables 12 d) (vcpu_of d) (register_of d))
  unfolding names_vcpu
  fine-12 p =
      let c = sound-of s 12 d p.valid in
      msrs-fine (register_of d) (enables 12 d) (not-false _ c.msr) (leb-false s.vcpus (vcpu_of d) c.vcpu) (is-ready 12 refl p.ready)

  fine-13 : Passed s facts 13 d → Fine (SetPages (view_of d) (count_of d))
  fine-13 p =
      let c = sound-of s 13 d p.valid in
      pages-fine (view_of d) (count_of d) (leb-false s.views (view_of d) c.view) (and_r (count_fits d) _ (not-false _ c.entries))

  fine-14 : Passed s facts 14 d → Fine (SetSinglestep (enables 14 d) (vcpu_of d))
  unfolding apply names_vcpu is_unsupported
  fine-14 p =
      let r = is-ready 14 refl p.ready in
      vcpu-fine _ (singlestep-good s (vcpu_at m.tables (vcpu_of d)) (enables 14 d) r (not-false _ (or-false-l _ false p.supported)) own-good) r

  -- the changes that leave the tables as they are
  fine-rest : (c : Change) → (apply s m guest d c).model.tables ≡ m.tables → Fine c
  fine-rest c e = rw e a

  change-fine : (id : ℕ) → Passed s facts id d → Fine (change_of id d)
  unfolding change_of apply
  change-fine id p =
      pick Fine (eqb id 5) _ _ (λ e. rw (eqb-true id 5 e) (fine-5 (rw (eqb-true id 5 e) at p)))
      (λ _. pick Fine (eqb id 7) _ _ (λ _. a)
      (λ _. pick Fine (eqb id 9) _ _ (λ e. fine-9 (rw (eqb-true id 9 e) at p))
      (λ _. pick Fine (eqb id 10) _ _ (λ e. rw (eqb-true id 10 e) (fine-10 (rw (eqb-true id 10 e) at p)))
      (λ _. pick Fine (eqb id 11) _ _ (λ e. rw (eqb-true id 11 e) (fine-11 (rw (eqb-true id 11 e) at p)))
      (λ _. pick Fine (eqb id 12) _ _ (λ e. rw (eqb-true id 12 e) (fine-12 (rw (eqb-true id 12 e) at p)))
      (λ _. pick Fine (eqb id 13) _ _ (λ e. fine-13 (rw (eqb-true id 13 e) at p))
      (λ _. pick Fine (eqb id 14) _ _ (λ e. rw (eqb-true id 14 e) (fine-14 (rw (eqb-true id 14 e) at p)))
      (λ _. pick Fine (eqb id 15) _ _ (λ _. a) (λ _. a)))))))))

-- ---- each call
module _ (s : Settings) (ok : So (in_range s)) where
  abbrev Kept : Step → Type 0
  Kept r = Valid s r.model.tables

  pub message-kept : (m : Model) (msg out guest : List ℕ) → Valid s m.tables → Kept (message_step s m msg out guest)
  unfolding message_step headed judged answering apply
  message-kept m msg out guest a =
      pick Kept m.closed _ _ (λ _. a)
      (λ _. pick Kept (ltb (length out) 4112) _ _ (λ _. a)
      (λ _. by-header (header_of msg)))
    where
      by-verdict : (id seq : ℕ) (d : List ℕ) → Kept (judged s m id seq d out guest (verdict s (facts_of m (length guest) (vcpu_of d)) id seq d))
      by-verdict id seq d =
          verdict-cases (λ v. Kept (judged s m id seq d out guest v)) s (facts_of m (length guest) (vcpu_of d)) id seq d (empty-valid s ok) (λ _ _. a)
          (λ p. change-fine s ok m a guest d id p) (λ _ _. a)

      by-header : (h : HeaderRead) → Kept (headed s m (drop 8 msg) out guest h)
      by-header None = empty-valid s ok
      by-header (Some h) = by-verdict h.id h.seq (drop 8 msg)

  pub ready-kept : (m : Model) (vcpu : ℕ) → Valid s m.tables → Kept (ready_step s m vcpu)
  unfolding ready_step
  ready-kept m vcpu a =
      pick Kept m.closed _ _ (λ _. a)
      (λ _. pick Kept (leb s.vcpus vcpu) _ _ (λ _. a)
      (λ _. vcpu-valid s m.tables vcpu _ (ready-good s (vcpu_at m.tables vcpu) (vcpu-good s m.tables vcpu a)) (λ _. refl) a))

  pub enter-kept : (m : Model) (vcpu : ℕ) (block : List ℕ) (event : ℕ) (own out : List ℕ) → Valid s m.tables → Kept (enter_step s m vcpu block event own out)
  unfolding enter_step entering sending dequeuing pausing
  enter-kept m vcpu block event own out a =
      pick Kept m.closed _ _ (λ _. a)
      (λ _. pick Kept (leb s.vcpus vcpu) _ _ (λ _. a)
      (λ _. pick Kept (not (eqb (length block) 536 && offer_fits event own)) _ _ (λ _. a)
      (λ _. pick Kept (ltb (length out) 576) _ _ (λ _. a)
      (λ _. pick Kept (is_some (awaited_by m vcpu)) _ _ (λ _. a)
      (λ _. pick Kept (is_asked_for m.tables vcpu event own) _ _ (λ _. a)
      (λ _. pick Kept (leb 1 (vcpu_at m.tables vcpu).pauses) _ _
      (λ e. let u = unpaused-good s (vcpu_at m.tables vcpu) (leb-true 1 (vcpu_at m.tables vcpu).pauses e) (vcpu-good s m.tables vcpu a) in
      vcpu-valid s m.tables vcpu _ u.0 (λ _. u.1) a)
      (λ _. a)))))))

  pub image-kept : (m : Model) (out : List ℕ) → Valid s m.tables → Kept (image_step m out)
  unfolding image_step
  image-kept m out a = pick Kept m.closed _ _ (λ _. a)
      (λ _. pick Kept (awaits_any m.awaited) _ _ (λ _. a) (λ _. pick Kept (ltb (length out) (length (image m.tables))) _ _ (λ _. a) (λ _. a)))

  pub step_kept : (m : Model) (c : Call) → Valid s m.tables → Kept (step s m c)
  unfolding step
  step_kept m (message msg out guest) a = message-kept m msg out guest a
  step_kept m (ready vcpu) a = ready-kept m vcpu a
  step_kept m (enter vcpu block event own out) a = enter-kept m vcpu block event own out a
  step_kept m (write_image out) a = image-kept m out a

  pub after_kept : (m : Model) (cs : List Call) → Valid s m.tables → Valid s (after s m cs).tables
  unfolding after move
  after_kept m [] a = a
  after_kept m (c ∷ cs) a = after_kept (step s m c).model cs (step_kept m c a)
