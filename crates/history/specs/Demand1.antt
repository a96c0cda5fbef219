-- Demand 1: "Every call takes whatever bytes and numbers it is given, asks nothing of its caller, ends, and never reads or writes out of place. Each
-- refusal has one number and one condition, and what it leaves in the tables and in the lent memory is fixed."
-- The first sentence is in the promises of the code: they ask nothing, and say that the calls equal `fresh_of`, `ready_of`, `message_of`, `batch_of`,
-- `enter_of`, `image_of` and `read_of`, which are total. The second is said here of these, for any session, words, bytes and numbers whatever, well formed or not:
-- which numbers a call answers with, each refusal's number exactly if its condition holds, behind those that are tested before it, and what it leaves.
-- An answer has one number, so that of one call's conditions no two hold.
use Rattle.std.specs.Prelude.{◌≡◌, ◌↔◌, ◌⊎◌, ◌≢◌, ℕ, ◌≤◌, ◌<◌, List, [], ◌∷◌, true, false, cond, length, drop, None}
use Rattle.std.proofs.Math.Bool.{So}
use Rattle.wire.specs.Header.{whole, header_of}
use Rattle.kvmi.specs.declared.Settings.{Settings}
use Rattle.kvmi.specs.declared.Change.{Change}
use Rattle.kvmi.specs.declared.Verdict.{Verdict}
use Rattle.kvmi.specs.declared.Verdict.TheVariants.{Closes, Does}
use Rattle.kvmi.specs.Answer.{Paper, plain, plain_at, lacks_page}
use Rattle.kvmi.specs.Change.{signal_of}
use Rattle.kvmi.specs.Bits.{among}
use Rattle.kvmi.specs.Limits.{least_out, event_out, state_bytes}
use Rattle.kvmi.specs.Model.{awaited_by, is_some}
use Rattle.kvmi.specs.Message.{vcpu_of}
use Rattle.kvmi.specs.Verdict.{verdict}
use Rattle.kvmi.specs.Batch.{Batch, is_resume, resume_lacks_page, at_start, goes_on}
use Rattle.kvmi.specs.Image.{image, bad_form, forbidden, load_image}
use Rattle.session.specs.State.{State, closed_session}
use Rattle.session.specs.Calls.{Told, told_closing, fresh_of, ready_of}
use Rattle.session.specs.Meaning.{model_of}
use Rattle.message.specs.Message.{facts_in, message_of}
use Rattle.batch.specs.Batch.{batch_of}
use Rattle.entry.specs.Entry.{enter_of}
use Rattle.image_writer.specs.Write.{stated_tables, image_of}
use Rattle.image_reader.specs.Read.{read_of}
use Rattle.refine.specs.Frames.{Refuses, Past}

-- ---- an answer's number
abbrev pub Answers : Told → ℕ → Type 0
Answers r k = r.answer.number ≡ k

-- it is one of these, and no other
abbrev pub OneOf : List ℕ → Told → Type 0
OneOf ks r = So (among r.answer.number ks)

-- ---- conditions
-- "session was closed"
abbrev pub Closed : State → Type 0
Closed st = (model_of st).closed ≡ true

abbrev pub Open : State → Type 0
Open st = (model_of st).closed ≡ false

-- a vCPU below the count, and one that is not
abbrev pub IsVcpu : State → ℕ → Type 0
IsVcpu st vcpu = vcpu < st.session.settings.vcpus

abbrev pub NoVcpu : State → ℕ → Type 0
NoVcpu st vcpu = st.session.settings.vcpus ≤ vcpu

-- "events 3, 4, 5, 7, 8, 9, 11, 12 and 14", "or 0 for none", and W5's PF, 10: the numbers of what an entry is offered
abbrev pub offers : List ℕ
offers = 0 ∷ 3 ∷ 4 ∷ 5 ∷ 7 ∷ 8 ∷ 9 ∷ 10 ∷ 11 ∷ 12 ∷ 14 ∷ []

-- how many bytes each has of its own: 24 for CR, MSR and PF, 16 for BREAKPOINT and CPUID, 8 for DESCRIPTOR and SINGLESTEP
abbrev pub own_length : ℕ → ℕ
own_length event = cond (among event (5 ∷ 9 ∷ 10 ∷ [])) 24 (cond (among event (4 ∷ 14 ∷ [])) 16 (cond (among event (8 ∷ 11 ∷ [])) 8 0))

-- an event with its own bytes, as an entry is offered one
abbrev pub Offer : ℕ → List ℕ → Type 0
Offer event own = So (among event offers) × (length own ≡ own_length event)

-- what an entry is lent beside its output: a register block of 536 bytes, and an offer
abbrev pub Lent : List ℕ → ℕ → List ℕ → Type 0
Lent block event own = (length block ≡ state_bytes) × Offer event own

-- "that vCPU's event reply is awaited"
abbrev pub Awaits : State → ℕ → Type 0
Awaits st vcpu = is_some (awaited_by (model_of st) vcpu) ≡ true

-- "any reply is awaited": that of one of the 16 vCPUs that there are words for
abbrev pub AwaitsAny : State → Type 0
AwaitsAny st = (vcpu : ℕ) × (vcpu < 16) × Awaits st vcpu

-- "the image's length"
abbrev pub image_length : State → ℕ
image_length st = length (image (stated_tables st))

-- "vCPU count 1..16; view count 1..8"; W7: "a revision other than 1 or 2 is answer 7"
abbrev pub InRange : Settings → Type 0
InRange s = (1 ≤ s.vcpus) × (s.vcpus ≤ 16) × (1 ≤ s.views) × (s.views ≤ 8) × (1 ≤ s.revision) × (s.revision ≤ 2)

-- what tests 2 to 6 say of a message with an id and a seq
abbrev pub said_of : State → List ℕ → List ℕ → ℕ → ℕ → Verdict
said_of st msg guest id seq = verdict st.session.settings (facts_in st (length guest) (vcpu_of (drop 8 msg))) id seq (drop 8 msg)

-- "a rule below says "closes"": test 1, of the header, or one of tests 2 to 6
abbrev pub RuleCloses : State → List ℕ → List ℕ → Type 0
RuleCloses st msg guest =
    (header_of msg ≡ None)
    ⊎ ((id : ℕ) × (size : ℕ) × (seq : ℕ) × (header_of msg ≡ whole id size seq) × (said_of st msg guest id seq ≡ Closes))

-- W5, "a continue that needs the guest page where none exists": what tests 2 to 6 say of the message is to take it, and that is what it signals
abbrev pub NeedsPage : State → List ℕ → List ℕ → Type 0
NeedsPage st msg guest =
    (id : ℕ) × (size : ℕ) × (seq : ℕ) × (c : Change) × (header_of msg ≡ whole id size seq) × (said_of st msg guest id seq ≡ Does c) × (lacks_page (signal_of c) ≡ true)

-- ---- "no session": no lent word changes, and the session that is handed back is a closed one; the call has no output and no guest memory
pub record NoSession (p : Paper) (s : Settings) (vcpu_words page_words : List ℕ) (r : Told) : Type 0 where
  pub answer : r.answer ≡ p
  pub session : r.state.session ≡ closed_session s
  pub vcpus : r.state.vcpus ≡ vcpu_words
  pub pages : r.state.pages ≡ page_words

-- ---- begin fresh: 7
pub record FreshAnswers (s : Settings) (vcpus pages : List ℕ) (r : Told) : Type 0 where
  pub numbers : OneOf (0 ∷ 7 ∷ []) r
  -- "7 bad settings | a count out of its range"; W7: "a revision other than 1 or 2 is answer 7"
  pub settings : Answers r 7 ↔ (InRange s → ⊥)
  -- "no session"
  pub refused : Answers r 7 → NoSession (plain 7) s vcpus pages r

-- ---- "ready mark 2, 4"
pub record ReadyAnswers (st : State) (vcpu : ℕ) (r : Told) : Type 0 where
  pub numbers : OneOf (0 ∷ 2 ∷ 4 ∷ []) r
  -- "2 closed | session was closed"
  pub closed : Answers r 2 ↔ Closed st
  -- "4 bad vCPU | host call names a vCPU not below the count"
  pub bad_vcpu : Answers r 4 ↔ (Open st × NoVcpu st vcpu)
  -- "none"
  pub refused : Refuses st [] [] r

-- ---- "message 2, 3, then below"
pub record MessageAnswers (st : State) (msg out guest : List ℕ) (r : Told) : Type 0 where
  pub numbers : OneOf (0 ∷ 1 ∷ 2 ∷ 3 ∷ 12 ∷ []) r
  -- "2 closed | session was closed"
  pub closed : Answers r 2 ↔ Closed st
  -- "3 short out | output below 4,112 (message)"
  pub short : Answers r 3 ↔ (Open st × (length out < least_out))
  -- W5: "a continue that needs the guest page where none exists is answer 12"
  pub no_page : Answers r 12 ↔ (Open st × (least_out ≤ length out) × NeedsPage st msg guest)
  -- "1 closing | a rule below says "closes" | 0 bytes, session closes"
  pub closing : Answers r 1 ↔ (Open st × (least_out ≤ length out) × RuleCloses st msg guest)
  pub closes : Answers r 1 → r ≡ told_closing st out guest
  -- "none"
  pub refused : Refuses st out guest r
  -- "After answers 0 and 1, output past the count is untouched."
  pub past : Past out r

-- ---- W3, "Refusals, tested first, for an empty batch too: closed 2, short output 3, a list with no place 11"
-- what was lent, output or list, is untouched past a count
pub record PastCount (lent : List ℕ) (count : ℕ) (left : List ℕ) : Type 0 where
  pub inside : count ≤ length lent
  pub long : length left ≡ length lent
  pub rest : drop count left ≡ drop count lent

pub record BatchAnswers (st : State) (input out signals guest : List ℕ) (b : Batch State) : Type 0 where
  pub numbers : So (among b.number (0 ∷ 1 ∷ 2 ∷ 3 ∷ 11 ∷ 12 ∷ []))
  -- "closed 2"
  pub closed : (b.number ≡ 2) ↔ Closed st
  -- "short output 3"
  pub short : (b.number ≡ 3) ↔ (Open st × (length out < least_out))
  -- "a list with no place 11"
  pub no_place : (b.number ≡ 11) ↔ (Open st × (least_out ≤ length out) × (length signals ≡ 0))
  -- "none": nothing is used, written, listed or handed back, and nothing changes
  pub refused : 2 ≤ b.number → b.number ≢ 12 → b ≡ at_start b.number st out signals guest
  pub output : PastCount out b.count b.out
  -- "A lent list past its count is untouched"
  pub list : PastCount signals b.listed b.signals
  -- what is used lies inside; one that is not refused and has input uses some, so that a host that calls again with the rest gets on
  pub inside : b.used ≤ length input
  pub some : (b.number < 2) ⊎ (b.number ≡ 12) → 0 < length input → 0 < b.used
  -- "a closing message gives answer 1": the session is then closed; under 0 and 12 it is open, and a resume is handed back under these alone
  pub closes : b.number ≡ 1 → Closed b.state
  pub opened : (b.number ≡ 0) ⊎ (b.number ≡ 12) → Open b.state
  pub resumes : is_resume b.resume ≡ true → (b.number ≡ 0) ⊎ (b.number ≡ 12)
  -- W5: "it ends a batch with that answer": under 12 the resume that lacks its page is the one that is handed back
  pub no_page : (b.number ≡ 12) ↔ (resume_lacks_page b.resume ≡ true)
  -- it ends for one of W3's reasons
  pub ends : goes_on input b ≡ false

-- ---- "entry 2, 4, 5, 3, 6"
pub record EntryAnswers (st : State) (vcpu : ℕ) (block : List ℕ) (event : ℕ) (own out : List ℕ) (r : Told) : Type 0 where
  pub numbers : OneOf (0 ∷ 2 ∷ 3 ∷ 4 ∷ 5 ∷ 6 ∷ []) r
  -- "2 closed | session was closed"
  pub closed : Answers r 2 ↔ Closed st
  -- "4 bad vCPU | host call names a vCPU not below the count"
  pub bad_vcpu : Answers r 4 ↔ (Open st × NoVcpu st vcpu)
  -- "5 bad state block | lent register block is not 536 bytes"; "another number, or lent event bytes of the wrong length, switched on or off, is answer 5"
  pub bad_block : Answers r 5 ↔ (Open st × IsVcpu st vcpu × (Lent block event own → ⊥))
  -- "entry output below 576 is answer 3"
  pub short : Answers r 3 ↔ (Open st × IsVcpu st vcpu × Lent block event own × (length out < event_out))
  -- "6 waiting | that vCPU's event reply is awaited"
  pub waiting : Answers r 6 ↔ (Open st × IsVcpu st vcpu × Lent block event own × (event_out ≤ length out) × Awaits st vcpu)
  -- "none"
  pub refused : Refuses st out [] r
  -- "After answers 0 and 1, output past the count is untouched."
  pub past : Past out r

-- ---- "image writer 2, 10, 3"
pub record WriterAnswers (st : State) (out : List ℕ) (r : Told) : Type 0 where
  pub numbers : OneOf (0 ∷ 2 ∷ 3 ∷ 10 ∷ []) r
  -- "2 closed | session was closed"
  pub closed : Answers r 2 ↔ Closed st
  -- "10 busy | image asked while any reply is awaited"
  pub busy : Answers r 10 ↔ (Open st × AwaitsAny st)
  -- "3 short out | output below [..] the image's length"
  pub short : Answers r 3 ↔ (Open st × (AwaitsAny st → ⊥) × (length out < image_length st))
  -- "none"
  pub refused : Refuses st out [] r
  -- "After answers 0 and 1, output past the count is untouched."
  pub past : Past out r

-- ---- "image reader 7, then 8 or 9"
pub record ReaderAnswers (s : Settings) (l vcpus pages : List ℕ) (r : Told) : Type 0 where
  pub numbers : OneOf (0 ∷ 7 ∷ 8 ∷ 9 ∷ []) r
  -- "7 bad settings | a count out of its range | no session"; W7: "a revision other than 1 or 2 is answer 7"
  pub settings : Answers r 7 ↔ (InRange s → ⊥)
  pub refused : Answers r 7 → NoSession (plain 7) s vcpus pages r
  -- "8 bad form, offset | image breaks a rule | no session"
  pub form : Answers r 8 ↔ (InRange s × ((off : ℕ) × (load_image s l ≡ bad_form off)))
  pub refused_form : (off : ℕ) → Answers r 8 → load_image s l ≡ bad_form off → NoSession (plain_at 8 off) s vcpus pages r
  -- "9 forbidden, offset | image wants what settings lack | no session"
  pub lacks : Answers r 9 ↔ (InRange s × ((off : ℕ) × (load_image s l ≡ forbidden off)))
  pub refused_lacks : (off : ℕ) → Answers r 9 → load_image s l ≡ forbidden off → NoSession (plain_at 9 off) s vcpus pages r

-- ---- demand 1: "Each refusal has one number and one condition, and what it leaves in the tables and in the lent memory is fixed.", call by call
pub record Demand1 : Type 0 where
  pub fresh : (s : Settings) (vcpus pages : List ℕ) → FreshAnswers s vcpus pages (fresh_of s vcpus pages)
  pub ready : (st : State) (vcpu : ℕ) → ReadyAnswers st vcpu (ready_of st vcpu)
  pub message : (st : State) (msg out guest : List ℕ) → MessageAnswers st msg out guest (message_of st msg out guest)
  pub batch : (st : State) (input out signals guest : List ℕ) → BatchAnswers st input out signals guest (batch_of st input out signals guest)
  pub enter : (st : State) (vcpu : ℕ) (block : List ℕ) (event : ℕ) (own out : List ℕ) → EntryAnswers st vcpu block event own out (enter_of st vcpu block event own out)
  pub write_image : (st : State) (out : List ℕ) → WriterAnswers st out (image_of st out)
  pub read_image : (s : Settings) (l vcpus pages : List ℕ) → ReaderAnswers s l vcpus pages (read_of s l vcpus pages)
