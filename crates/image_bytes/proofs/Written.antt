-- Laws of the image writer: the image is the bytes of its parts, each stored at its place. Assumes nothing.
use mathlib.Core.Path.{◌≡◌, refl, sym, ap, ◌∙◌}
use mathlib.Core.List.{List, [], ◌∷◌, ◌++◌, map, append_assoc, append-nil}
use Prim.Native.Nat.{ℕ, zero, suc, ◌+◌, ◌-◌, ◌*◌, ◌≤◌, ◌<◌, min}
use native.Mathlib.Numerals.{add-one}
use native.Mathlib.Omega.{arith}
use lib.ListN.{length, get_or, take, drop, length-append, length-take, length-drop, length-map, take-append-drop}
use lib.Seq.{drop-cons, get_or-take, take-append-le, drop-append-le, length-take-le}
use Rattle.wire.specs.Bytes.{store}
use Rattle.wire.proofs.Laws.{length-store, store-join, store-past, store-start, store-whole, drop-stored}
use Rattle.kvmi.specs.Record.{VM, VC, PA, EN, Rec, write, write_all}
use Rattle.kvmi.specs.Tables.{Vcpu, Msr, Page, Tables}
use Rattle.kvmi.specs.Image.{vm_record, vc_record, ms_record, pa_record, en_record, vc_records, onto, record_count, image}
use Rattle.laws.proofs.Record.{length-write}
use Rattle.store.specs.Meaning.{msrs_of, vcpu_of_words, vcpus_of}
use Rattle.page_words.specs.Meaning.{page_of_word, pages_of}
use Rattle.image_msrs.specs.Switches.{ms_bytes}
use Rattle.image_msrs.proofs.Switches.{length-ms}
use Rattle.image_bytes.specs.Parts.{vc_bytes, pa_bytes, front_bytes, back_bytes, tables, stated_of}

-- ---- an image is its parts
vc-onto : (i : ℕ) (vs : List Vcpu) (rs : List Rec) → write_all (vc_records i vs rs) ≡ vc_bytes i vs ++ write_all rs
unfolding vc_bytes
vc-onto i [] rs = refl
vc-onto i (v ∷ vs) rs = rw (vc-onto (suc i) vs rs, append_assoc)

ms-onto : (ms : List Msr) (rs : List Rec) → write_all (onto ms_record ms rs) ≡ ms_bytes ms ++ write_all rs
unfolding ms_bytes
ms-onto [] rs = refl
ms-onto (m ∷ ms) rs = rw (ms-onto ms rs, append_assoc)

pa-onto : (ps : List Page) (rs : List Rec) → write_all (onto pa_record ps rs) ≡ pa_bytes ps ++ write_all rs
unfolding pa_bytes
pa-onto [] rs = refl
pa-onto (p ∷ ps) rs = rw (pa-onto ps rs, append_assoc)

pub image-parts : (t : Tables) → image t ≡ write (vm_record (length t.vcpus) t.events) ++ (vc_bytes 0 t.vcpus ++ (ms_bytes t.msrs ++ (pa_bytes t.pages ++ write (en_record (record_count t)))))
unfolding image
image-parts t = rw (vc-onto, ms-onto, pa-onto, append-nil)

pub length-vc : (i : ℕ) (vs : List Vcpu) → length (vc_bytes i vs) ≡ 10 * length vs
unfolding vc_bytes
length-vc i [] = refl
length-vc i (v ∷ vs) = rw (length-append, length-write VC, length-vc (suc i) vs) (omega arith)

pub length-pa : (ps : List Page) → length (pa_bytes ps) ≡ 14 * length ps
unfolding pa_bytes
length-pa [] = refl
length-pa (p ∷ ps) = rw (length-append, length-write PA, length-pa ps) (omega arith)

pub length-image : (t : Tables) → length (image t) ≡ 14 + 10 * length t.vcpus + 8 * length t.msrs + 14 * length t.pages
length-image t =
    rw image-parts (simp (length-append, length-vc, length-ms, length-pa, length-write VM, length-write EN) (omega arith))

pub vc-next : (ready : ℕ) (w : List ℕ) (i n : ℕ) → i < n
    → vc_bytes i (vcpus_of ready w i (n - i)) ≡ write (vc_record i (vcpu_of_words ready w i)) ++ vc_bytes (i + 1) (vcpus_of ready w (i + 1) (n - (i + 1)))
unfolding vc_bytes vcpus_of
vc-next ready w i n h = let e : n - i ≡ suc (n - (i + 1)) = omega arith in rw (e, add-one)

pub vc-none : (ready : ℕ) (w : List ℕ) (i n : ℕ) → n ≤ i → vc_bytes i (vcpus_of ready w i (n - i)) ≡ []
unfolding vc_bytes vcpus_of
vc-none ready w i n h = let e : n - i ≡ 0 = omega arith in rw e

pub length-vcpus : (ready : ℕ) (w : List ℕ) (i n : ℕ) → length (vcpus_of ready w i n) ≡ n
unfolding vcpus_of
length-vcpus ready w i zero = refl
length-vcpus ready w i (suc n) = ap suc (length-vcpus ready w (suc i) n)

-- the pages from place i on
unfoldable pub pages_from : List ℕ → ℕ → ℕ → List Page
pages_from ws used i = map page_of_word (drop i (take used ws))

pub pages-start : (ws : List ℕ) (used : ℕ) → pages_from ws used 0 ≡ pages_of ws used
unfolding pages_from pages_of
pages-start ws used = refl

pub pa-next : (ws : List ℕ) (used i : ℕ) → i < used → used ≤ length ws
    → pa_bytes (pages_from ws used i) ≡ write (pa_record (page_of_word (get_or ws i 0))) ++ pa_bytes (pages_from ws used (i + 1))
unfolding pa_bytes pages_from
pa-next ws used i h g =
    let inside : i < length (take used ws) = rw length-take (omega arith) in
    rw (drop-cons (take used ws) i 0 inside, get_or-take used ws i 0 h, add-one)

pub length-pages : (ws : List ℕ) (used : ℕ) → used ≤ length ws → length (pages_of ws used) ≡ used
unfolding pages_of
length-pages ws used h = rw (length-map, length-take) (omega arith)

pub length_from : (ws : List ℕ) (used i : ℕ) → used ≤ length ws → length (pages_from ws used i) ≡ used - i
unfolding pages_from
length_from ws used i h = rw (length-map, length-drop, length-take) (omega arith)

empty : (ps : List Page) → length ps ≡ 0 → ps ≡ []
empty [] e = refl
empty (p ∷ ps) e = absurd (omega arith)

pub pa-none : (ws : List ℕ) (used i : ℕ) → used ≤ length ws → used ≤ i → pa_bytes (pages_from ws used i) ≡ []
unfolding pa_bytes
pa-none ws used i g h = let e : length (pages_from ws used i) ≡ 0 = length_from ws used i g ∙ omega arith in rw (empty (pages_from ws used i) e)

-- ---- bytes side by side
store-behind : (s : List ℕ) (at k : ℕ) (u v : List ℕ) → k ≡ at + length u → at + (length u + length v) ≤ length s → store (store s at u) k v ≡ store s at (u ++ v)
store-behind s at k u v e h = rw e (store-join s at u v h)

-- bytes stored into a part at the front that was lent
store-left : (a b : List ℕ) (at : ℕ) (v : List ℕ) → at + length v ≤ length a → store a at v ++ b ≡ store (a ++ b) at v
store-left a b at v h =
    rw (
      store-whole a at v h,
      store-whole (a ++ b) at v (rw length-append (omega arith)),
      take-append-le at a b (omega arith),
      drop-append-le (at + length v) a b h,
    )
    (simp append_assoc)

store-lent : (s : List ℕ) (room at : ℕ) (v : List ℕ) → at + length v ≤ room → room ≤ length s → store (take room s) at v ++ drop room s ≡ store s at v
store-lent s room at v h g =
    let size : length (take room s) ≡ room = length-take-le room s g in
    store-left (take room s) (drop room s) at v (omega arith) ∙ ap (λ (l : List ℕ). store l at v) (take-append-drop room s)

-- those in front stored last
store-front : (s f u : List ℕ) → length f + length u ≤ length s → store (store s (length f) u) 0 f ≡ store s 0 (f ++ u)
store-front s f u h =
    rw (
      store-start (store s (length f) u) f (rw length-store (omega arith)),
      drop-stored s (length f) u h,
      store-start s (f ++ u) (rw length-append (omega arith)),
      length-append,
      append_assoc,
    )

-- ---- the whole image
module _ (events ready n on used : ℕ) (w pages : List ℕ) (h : used ≤ length pages) where
  length_front : length (front_bytes events ready n w) ≡ 8 + 10 * n
  unfolding front_bytes
  length_front = rw (length-append, length-write VM, length-vc, length-vcpus)

  length_back : length (back_bytes (1 + n + on + used) used pages) ≡ 14 * used + 6
  unfolding back_bytes
  length_back = rw (length-append, length-pa, length-pages pages used h, length-write EN)

  -- all records but the MS records, as they are stored
  pub frame-written : (s a b d out : List ℕ) → 14 + 10 * n + 8 * on + 14 * used ≤ length s
      → a ≡ store s 0 (write (vm_record n events))
      → b ≡ store a 8 (vc_bytes 0 (vcpus_of ready w 0 n))
      → d ≡ store b (8 + 10 * n + 8 * on) (pa_bytes (pages_of pages used))
      → out ≡ store d (8 + 10 * n + 8 * on + 14 * used) (write (en_record (1 + n + on + used)))
      → out ≡ store (store s 0 (front_bytes events ready n w)) (8 + 10 * n + 8 * on) (back_bytes (1 + n + on + used) used pages)
  unfolding front_bytes back_bytes
  frame-written s a b d out room fa fb fd fe =
      let vm = write (vm_record n events) in
      let vc = vc_bytes 0 (vcpus_of ready w 0 n) in
      let pa = pa_bytes (pages_of pages used) in
      let en = write (en_record (1 + n + on + used)) in
      let nm : length vm ≡ 8 = length-write VM _ in
      let nc : length vc ≡ 10 * n = rw (length-vc, length-vcpus) in
      let np : length pa ≡ 14 * used = rw (length-pa, length-pages pages used h) in
      let ne : length en ≡ 6 = length-write EN _ in
      let front : b ≡ store s 0 (vm ++ vc) = fb ∙ ap (λ (l : List ℕ). store l 8 vc) fa ∙ store-behind s 0 8 vm vc (omega arith) (omega arith) in
      let kept : length b ≡ length s = ap length front ∙ length-store s 0 (vm ++ vc) in
      let back = fe ∙ ap (λ (l : List ℕ). store l (8 + 10 * n + 8 * on + 14 * used) en) fd ∙ store-behind b (8 + 10 * n + 8 * on) (8 + 10 * n + 8 * on + 14 * used) pa en (omega arith) (omega arith) in
      back ∙ ap (λ (l : List ℕ). store l (8 + 10 * n + 8 * on) (pa ++ en)) front

  module _ (e : on ≡ length (msrs_of w 0 n)) where
    pub length-tables : length (image (tables events ready n used w pages)) ≡ 14 + 10 * n + 8 * on + 14 * used
    length-tables = length-image (tables events ready n used w pages) ∙ rw (length-vcpus ready w 0 n, length-pages pages used h, ← e)

    tables-parts : image (tables events ready n used w pages)
        ≡ (front_bytes events ready n w ++ ms_bytes (msrs_of w 0 n)) ++ back_bytes (1 + n + on + used) used pages
    unfolding front_bytes back_bytes
    tables-parts =
        image-parts (tables events ready n used w pages) ∙ rw (length-vcpus ready w 0 n, length-pages pages used h, ← e) (simp append_assoc)

    -- and with the MS records, which were stored before
    pub image-written : (s m out : List ℕ) → 14 + 10 * n + 8 * on + 14 * used ≤ length s
        → m ≡ store s (8 + 10 * n) (ms_bytes (msrs_of w 0 n))
        → out ≡ store (store m 0 (front_bytes events ready n w)) (8 + 10 * n + 8 * on) (back_bytes (1 + n + on + used) used pages)
        → out ≡ store s 0 (image (tables events ready n used w pages))
    image-written s m out room fm fo =
        let front = front_bytes events ready n w in
        let ms = ms_bytes (msrs_of w 0 n) in
        let back = back_bytes (1 + n + on + used) used pages in
        let nf : length front ≡ 8 + 10 * n = length_front in
        let nm : length ms ≡ 8 * on = rw (length-ms, ← e) in
        let nb : length back ≡ 14 * used + 6 = length_back in
        let nn : length (front ++ ms) ≡ length front + length ms = length-append front ms in
        let joined : store m 0 front ≡ store s 0 (front ++ ms) = ap (λ (l : List ℕ). store l 0 front) (fm ∙ ap (λ (k : ℕ). store s k ms) (sym nf)) ∙ store-front s front ms (omega arith) in
        fo ∙ ap (λ (l : List ℕ). store l (8 + 10 * n + 8 * on) back) joined
        ∙ store-behind s 0 (8 + 10 * n + 8 * on) (front ++ ms) back (omega arith) (omega arith)
        ∙ ap (store s 0) (sym tables-parts)

-- ---- of any numbers: no more vCPUs are stated than there are blocks, and no more pages than words
module _ (events ready count used : ℕ) (w pages : List ℕ) (n held : ℕ) (en : n ≡ min count 16) (eh : held ≡ min used (length pages)) where
  stated-tables : tables events ready n held w pages ≡ stated_of events ready count used w pages
  stated-tables = rw (en, eh)

  all-stated : min n 16 ≡ n
  all-stated = omega arith

  module _ (on size : ℕ) (eo : on ≡ length (msrs_of w 0 (min n 16))) (es : size ≡ 14 + 10 * n + 8 * on + 14 * held) where
    on-is : on ≡ length (msrs_of w 0 n)
    on-is = eo ∙ ap (λ (k : ℕ). length (msrs_of w 0 k)) all-stated

    pub stated-size : size ≡ length (image (stated_of events ready count used w pages))
    stated-size = es ∙ sym (length-tables events ready n on held w pages (omega arith) on-is) ∙ ap (λ (t : Tables). length (image t)) stated-tables

    -- the MS records are lent the output but for what comes behind them
    module _ (s m : List ℕ) (room : ℕ) (er : room ≡ length s - (14 * held + 6)) (em : m ≡ store (take room s) (8 + 10 * n) (ms_bytes (msrs_of w 0 (min n 16)))) where
      length-msrs : length (ms_bytes (msrs_of w 0 (min n 16))) ≡ 8 * on
      length-msrs = rw (length-ms, ← eo)

      pub stated-written : (out : List ℕ) → size ≤ length s
          → out ≡ store (store (m ++ drop room s) 0 (front_bytes events ready n w)) (8 + 10 * n + 8 * on) (back_bytes (1 + n + on + held) held pages)
          → out ≡ store s 0 (image (stated_of events ready count used w pages))
      stated-written out h fo =
          let l = length-msrs in
          let lent : m ++ drop room s ≡ store s (8 + 10 * n) (ms_bytes (msrs_of w 0 n)) =
          ap (λ (x : List ℕ). x ++ drop room s) em ∙ store-lent s room (8 + 10 * n) _ (omega arith) (omega arith) ∙ ap (λ (k : ℕ). store s (8 + 10 * n) (ms_bytes (msrs_of w 0 k))) all-stated in
          image-written events ready n on held w pages (omega arith) on-is s (m ++ drop room s) out (omega arith) lent fo
          ∙ ap (λ (t : Tables). store s 0 (image t)) stated-tables

      pub stated-short : length s < size → m ++ drop room s ≡ store s 0 (image (stated_of events ready count used w pages))
      stated-short h =
          let l = length-msrs in
          let few : length (take room s) ≡ min room (length s) = length-take room s in
          let same : m ≡ take room s = em ∙ store-past (take room s) (8 + 10 * n) (ms_bytes (msrs_of w 0 (min n 16))) (omega arith) in
          let e = stated-size in
          ap (λ (x : List ℕ). x ++ drop room s) same ∙ take-append-drop room s ∙ sym (store-past s 0 (image (stated_of events ready count used w pages)) (omega (arith, e, h)))
