-- What loads is written again as the same bytes, and is what an image needs. Assumes nothing.
use mathlib.Core.Path.{◌≡◌, refl, sym, ap, ◌∙◌}
use Prim.Native.Nat.{ℕ, zero, suc, ◌+◌, ◌*◌, ◌/◌, ◌%◌, ◌^◌, ◌≤◌, ◌<◌, zero-le}
use native.Mathlib.Nat.{add-zero, suc-add, add-suc}
use native.Mathlib.Omega.{arith}
use mathlib.Core.List.{List, [], ◌∷◌, ◌++◌}
use mathlib.Core.Bool.{Bool, true, false, ◌&&◌, So}
use lib.ListN.{length}
use lib.Dec.{leb, eqb, ltb}
use lib.Pow.{are_bytes}
use borrow.Author.Tests.{leb-true, eqb-true, ltb-true}
use Rattle.kvmi.specs.declared.Settings.{Settings}
use Rattle.kvmi.specs.Bits.{bit, every}
use Rattle.kvmi.specs.Ascending.{rising}
use Rattle.kvmi.specs.Row.{Row}
use Rattle.kvmi.specs.Record.{Kind, VM, VC, MS, PA, EN, widths, size, Rec, whole, cut, order_at, order_of, write_all, parse}
use Rattle.kvmi.specs.Tables.{Vcpu, Msr, Page, Tables, msr_key, page_key}
use Rattle.kvmi.specs.Image.{vm_record, vc_record, ms_record, pa_record, en_record, onto, vc_records, record_count, records_before, records, image, vcpu_of_row, msr_of_row, page_of_row, with_record, vm_form, vc_form, ms_form, pa_form, vm_may, vc_may, pa_may, may_of, Loaded, loaded, bad_form, forbidden, judge, ending, fits_in, load_rest, stated, load_records, load_image}
use Rattle.laws.proofs.Bool.{and_l, and_r, and_i, every-snoc, length-snoc}
use Rattle.laws.proofs.Ascending.{above, above-snoc, rising_snoc}
use Rattle.kvmi.specs.Valid.{Valid, vc_good, pa_good}
use Rattle.kvmi.specs.Limits.{page_limit}
use Rattle.laws.proofs.Valid.{vm-few, ms-numbers, pa-numbers}
use Rattle.laws.proofs.Record.{write-parse}

pub refused : {A : Type 0} {off : ℕ} {u : Tables} → bad_form off ≡ loaded u → A
refused e = let z : ◌≡◌ {A = ℕ} 0 1 = cc in absurd (omega arith)

pub denied : {A : Type 0} {off : ℕ} {u : Tables} → forbidden off ≡ loaded u → A
denied e = let z : ◌≡◌ {A = ℕ} 0 1 = cc in absurd (omega arith)

-- a record was taken: it has form and permission
pub judged : (form may : Bool) (off : ℕ) (next : Loaded) (u : Tables) → judge form may off next ≡ loaded u → So form × So may × (next ≡ loaded u)
judged true true off next u e = (refl, refl, e)
judged true false off next u e = denied e
judged false may off next u e = refused e

-- ---- a record more at the end of its list
flags-back : (x : ℕ) → x ≤ 3 → bit (eqb (x % 2) 1) + 2 * bit (eqb (x / 2) 1) ≡ x
flags-back zero h = refl
flags-back (suc zero) h = refl
flags-back (suc (suc zero)) h = refl
flags-back (suc (suc (suc zero))) h = refl
flags-back (suc (suc (suc (suc x)))) h = absurd (omega arith)

vc_records-snoc : (i : ℕ) (vs : List Vcpu) (v : Vcpu) (rs : List Rec) → vc_records i (vs ++ (v ∷ [])) rs ≡ vc_records i vs (vc_record (i + length vs) v ∷ rs)
vc_records-snoc i [] v rs = rw add-zero
vc_records-snoc i (x ∷ vs) v rs = rw (vc_records-snoc (suc i) vs v rs, suc-add, ← add-suc)

onto-snoc : {A : Type 0} (f : A → Rec) (xs : List A) (x : A) (rs : List Rec) → onto f (xs ++ (x ∷ [])) rs ≡ onto f xs (f x ∷ rs)
onto-snoc f [] x rs = refl
onto-snoc f (y ∷ xs) x rs = ap {B = List Rec} (λ r. f y ∷ r) (onto-snoc f xs x rs)

vc-snoc : (n lo : ℕ) (t : Tables) (f : Row (widths VC)) (rs : List Rec) → t.msrs ≡ [] → t.pages ≡ [] → So (fits_in VC n lo t f)
    → records_before n (with_record VC t f) rs ≡ records_before n t (whole VC f ∷ rs)
vc-snoc n lo t f rs e g h =
    let i : f.0 ≡ length t.vcpus = eqb-true f.0 (length t.vcpus) (search (and_l, and_r) depth 8) in
    let w : f.1.0 ≤ 3 = leb-true f.1.0 3 (search (and_l, and_r) depth 8) in
    let z : f.1.1.1.1.1.0 ≡ 0 = eqb-true f.1.1.1.1.1.0 0 (search (and_l, and_r) depth 8) in
    let i' : 0 + length t.vcpus ≡ f.0 = omega arith in
    let same : vc_record (0 + length t.vcpus) (vcpu_of_row f) ≡ whole VC f
    = λ j. whole VC (i' j, (flags-back f.1.0 w j, (f.1.1.0, (f.1.1.1.0, (f.1.1.1.1.0, (sym z j, tt)))))) in
    rw (e, g, vc_records-snoc 0 t.vcpus (vcpu_of_row f) rs, same)

ms-snoc : (n : ℕ) (t : Tables) (f : Row (widths MS)) (rs : List Rec) → t.pages ≡ [] → records_before n (with_record MS t f) rs ≡ records_before n t (whole MS f ∷ rs)
ms-snoc n t f rs e = rw (e, onto-snoc ms_record t.msrs (msr_of_row f) rs)

pa-snoc : (n lo : ℕ) (t : Tables) (f : Row (widths PA)) (rs : List Rec) → So (fits_in PA n lo t f) → records_before n (with_record PA t f) rs ≡ records_before n t (whole PA f ∷ rs)
pa-snoc n lo t f rs h =
    let z : f.1.1.0 ≡ 0 = eqb-true f.1.1.0 0 (search (and_l, and_r) depth 8) in
    let same : pa_record (page_of_row f) ≡ whole PA f = ap (λ (x : ℕ). whole PA (f.0, (f.1.0, (x, f.1.1.1)))) (sym z) in
    rw (onto-snoc pa_record t.pages (page_of_row f) rs, same)

-- ---- the records of one kind that have come, where none may come before lo: none, or all of them lie below it
data Behind {A : Type 0} (key : A → ℕ) (base lo : ℕ) (xs : List A) : Type 0 where
  none_yet : xs ≡ [] → Behind key base lo xs
  up_to : base + above key 0 xs ≤ lo → Behind key base lo xs

module _ {A : Type 0} (key : A → ℕ) (base : ℕ) where
  behind-weak : (lo hi : ℕ) (xs : List A) → lo ≤ hi → Behind key base lo xs → Behind key base hi xs
  behind-weak lo hi xs h (none_yet e) = none_yet e
  behind-weak lo hi xs h (up_to g) = up_to (omega arith)

  behind-empty : (lo x : ℕ) (xs : List A) → lo ≤ x → x < base → Behind key base lo xs → xs ≡ []
  behind-empty lo x xs h g (none_yet e) = e
  behind-empty lo x xs h g (up_to k) = absurd (omega arith)

  behind-low : (lo k : ℕ) (xs : List A) → lo ≤ base + k → Behind key base lo xs → above key 0 xs ≤ k
  behind-low lo k xs h (none_yet e) = rw e zero-le
  behind-low lo k xs h (up_to g) = omega arith

  behind-snoc : (xs : List A) (x : A) → Behind key base (suc (base + key x)) (xs ++ (x ∷ []))
  behind-snoc xs x = up_to (rw (above-snoc key 0 xs x) (omega arith))

-- ---- what holds of the tables t that the first records of an image of n vCPUs state
record Part (s : Settings) (n lo : ℕ) (t : Tables) : Type 0 where
  vm : So (vm_form n t.events)
  may : So (vm_may s n t.events)
  vc_few : length t.vcpus ≤ n
  vcs : So (every (vc_good s) t.vcpus)
  mss : So (every (ms_form t.vcpus) t.msrs)
  ms_up : So (rising msr_key 0 t.msrs)
  ms_lo : Behind msr_key (order_at 2 0 0) lo t.msrs
  pas : So (every (pa_good s) t.pages)
  pa_up : So (rising page_key 0 t.pages)
  pa_few : length t.pages ≤ page_limit
  pa_lo : Behind page_key (order_at 3 0 0) lo t.pages

-- a VC comes before every MS and PA, an MS before every PA
vc-early : (s : Settings) (n lo : ℕ) (t : Tables) (f : Row (widths VC)) → Part s n lo t → So (fits_in VC n lo t f) → (lo ≤ order_of VC f) × (order_of VC f < order_at 2 0 0)
vc-early s n lo t f a h =
    let few = vm-few n t.events a.vm in
    let i : f.0 < n = ltb-true f.0 n (search (and_l, and_r) depth 8) in
    (leb-true lo (order_of VC f) (search (and_l, and_r) depth 8), omega arith)

ms-early : (s : Settings) (n lo : ℕ) (t : Tables) (f : Row (widths MS)) → Part s n lo t → So (fits_in MS n lo t f) → (lo ≤ order_of MS f) × (order_of MS f < order_at 3 0 0)
ms-early s n lo t f a h =
    let few = vm-few n t.events a.vm in
    let w = a.vc_few in
    let m = ms-numbers t.vcpus (msr_of_row f) (search (and_l, and_r) depth 8) in
    (leb-true lo (order_of MS f) (search (and_l, and_r) depth 8), omega arith)

-- what must be shown again behind each kind of record
part-vm : (s : Settings) (n lo e : ℕ) → So (vm_form n e) → So (vm_may s n e) → Part s n lo (stated e)
part-vm s n lo e vm may =
    record {
      vm = vm;
      may = may;
      vc_few = zero-le;
      vcs = refl;
      mss = refl;
      ms_up = refl;
      ms_lo = none_yet refl;
      pas = refl;
      pa_up = refl;
      pa_few = zero-le;
      pa_lo = none_yet refl;
    }

part-vc : (s : Settings) (n lo : ℕ) (t : Tables) (f : Row (widths VC)) → So (fits_in VC n lo t f) → So (may_of VC s f) → t.msrs ≡ [] → t.pages ≡ [] → Part s n lo t
    → Part s n (suc (order_of VC f)) (with_record VC t f)
part-vc s n lo t f h m e g a =
    let i : f.0 ≡ length t.vcpus = eqb-true f.0 (length t.vcpus) (search (and_l, and_r) depth 8) in
    let below : f.0 < n = ltb-true f.0 n (search (and_l, and_r) depth 8) in
    record {
      vm = a.vm;
      may = a.may;
      vc_few = rw length-snoc (omega arith);
      vcs = every-snoc (vc_good s) t.vcpus (vcpu_of_row f) a.vcs (and_i (vc_form (vcpu_of_row f)) _ (search (and_l, and_r) depth 8) m);
      mss = rw e;
      ms_up = a.ms_up;
      ms_lo = none_yet e;
      pas = a.pas;
      pa_up = a.pa_up;
      pa_few = a.pa_few;
      pa_lo = none_yet g;
    }

part-ms : (s : Settings) (n lo : ℕ) (t : Tables) (f : Row (widths MS)) → So (fits_in MS n lo t f) → t.pages ≡ [] → Part s n lo t
    → Part s n (suc (order_of MS f)) (with_record MS t f)
part-ms s n lo t f h g a =
    let low : lo ≤ order_of MS f = leb-true lo (order_of MS f) (search (and_l, and_r) depth 8) in
    record {
      vm = a.vm;
      may = a.may;
      vc_few = a.vc_few;
      vcs = a.vcs;
      mss = every-snoc (ms_form t.vcpus) t.msrs (msr_of_row f) a.mss (search (and_l, and_r) depth 8);
      ms_up = rising_snoc msr_key 0 t.msrs (msr_of_row f) a.ms_up (behind-low msr_key (order_at 2 0 0) lo (msr_key (msr_of_row f)) t.msrs (omega arith) a.ms_lo);
      ms_lo = behind-weak msr_key (order_at 2 0 0) (suc (order_at 2 0 0 + msr_key (msr_of_row f))) _ (t.msrs ++ (msr_of_row f ∷ [])) (omega arith) (behind-snoc msr_key (order_at 2 0 0) t.msrs (msr_of_row f));
      pas = a.pas;
      pa_up = a.pa_up;
      pa_few = a.pa_few;
      pa_lo = none_yet g;
    }

part-pa : (s : Settings) (n lo : ℕ) (t : Tables) (f : Row (widths PA)) → So (fits_in PA n lo t f) → So (may_of PA s f) → Part s n lo t
    → Part s n (suc (order_of PA f)) (with_record PA t f)
part-pa s n lo t f h m a =
    let low : lo ≤ order_of PA f = leb-true lo (order_of PA f) (search (and_l, and_r) depth 8) in
    let room : length t.pages < page_limit = ltb-true (length t.pages) page_limit (search (and_l, and_r) depth 8) in
    record {
      vm = a.vm;
      may = a.may;
      vc_few = a.vc_few;
      vcs = a.vcs;
      mss = a.mss;
      ms_up = a.ms_up;
      ms_lo = behind-weak msr_key (order_at 2 0 0) lo _ t.msrs (omega arith) a.ms_lo;
      pas = every-snoc (pa_good s) t.pages (page_of_row f) a.pas (and_i (pa_form (page_of_row f)) _ (search (and_l, and_r) depth 8) m);
      pa_up = rising_snoc page_key 0 t.pages (page_of_row f) a.pa_up (behind-low page_key (order_at 3 0 0) lo (page_key (page_of_row f)) t.pages (omega arith) a.pa_lo);
      pa_few = rw length-snoc (omega arith);
      pa_lo = behind-weak page_key (order_at 3 0 0) (suc (order_at 3 0 0 + page_key (page_of_row f))) _ (t.pages ++ (page_of_row f ∷ [])) (omega arith) (behind-snoc page_key (order_at 3 0 0) t.pages (page_of_row f));
    }

whole-valid : (s : Settings) (n lo : ℕ) (t : Tables) → length t.vcpus ≡ n → Part s n lo t → Valid s t
whole-valid s n lo t q a =
    record {
      vm = rw q a.vm;
      may = rw q a.may;
      vcs = a.vcs;
      mss = a.mss;
      ms_up = a.ms_up;
      pas = a.pas;
      pa_up = a.pa_up;
      pa_few = a.pa_few;
    }

-- ---- the records that load are those of what they load as
abbrev Recorded : Settings → List Rec → Tables → Type 0
Recorded s rs u = (rs ≡ records u) × Valid s u

ended : (s : Settings) (n lo off : ℕ) (t u : Tables) (rs : List Rec) → length t.vcpus ≡ n → ending t off rs ≡ loaded u → Part s n lo t
    → Recorded s (records_before n t (en_record (record_count t) ∷ rs)) u
ended s n lo off t u [] q e a =
    let same : t ≡ u = cc in
    let here : records_before n t (en_record (record_count t) ∷ []) ≡ records t = ap (λ (k : ℕ). records_before k t (en_record (record_count t) ∷ [])) (sym q) in
    (here ∙ ap records same, rw same at (whole-valid s n lo t q a))
ended s n lo off t u (r ∷ rs) q e a = refused e

rest-told : (s : Settings) (n off lo : ℕ) (t : Tables) (rs : List Rec) (u : Tables) → Part s n lo t → load_rest s n off lo t rs ≡ loaded u → Recorded s (records_before n t rs) u
rest-told s n off lo t [] u a e = refused e
rest-told s n off lo t (cut l ∷ rs) u a e = refused e
rest-told s n off lo t (whole VM f ∷ rs) u a e = refused e
rest-told s n off lo t (whole VC f ∷ rs) u a e =
    let j = judged (fits_in VC n lo t f) (may_of VC s f) off (load_rest s n (off + size VC) (suc (order_of VC f)) (with_record VC t f) rs) u e in
    let w = vc-early s n lo t f a j.0 in
    let noMs = behind-empty msr_key (order_at 2 0 0) lo (order_of VC f) t.msrs w.0 w.1 a.ms_lo in
    let noPa = behind-empty page_key (order_at 3 0 0) lo (order_of VC f) t.pages w.0 (omega arith) a.pa_lo in
    rw (vc-snoc n lo t f rs noMs noPa j.0) at
    (rest-told s n (off + size VC) (suc (order_of VC f)) (with_record VC t f) rs u (part-vc s n lo t f j.0 j.1 noMs noPa a) j.2)
rest-told s n off lo t (whole MS f ∷ rs) u a e =
    let j = judged (fits_in MS n lo t f) (may_of MS s f) off (load_rest s n (off + size MS) (suc (order_of MS f)) (with_record MS t f) rs) u e in
    let w = ms-early s n lo t f a j.0 in
    let noPa = behind-empty page_key (order_at 3 0 0) lo (order_of MS f) t.pages w.0 w.1 a.pa_lo in
    rw (ms-snoc n t f rs noPa) at
    (rest-told s n (off + size MS) (suc (order_of MS f)) (with_record MS t f) rs u (part-ms s n lo t f j.0 noPa a) j.2)
rest-told s n off lo t (whole PA f ∷ rs) u a e =
    let j = judged (fits_in PA n lo t f) (may_of PA s f) off (load_rest s n (off + size PA) (suc (order_of PA f)) (with_record PA t f) rs) u e in
    rw (pa-snoc n lo t f rs j.0) at
    (rest-told s n (off + size PA) (suc (order_of PA f)) (with_record PA t f) rs u (part-pa s n lo t f j.0 j.1 a) j.2)
rest-told s n off lo t (whole EN f ∷ rs) u a e =
    let j = judged (fits_in EN n lo t f) (may_of EN s f) off (ending t (off + size EN) rs) u e in
    let h = j.0 in
    let all : length t.vcpus ≡ n = eqb-true (length t.vcpus) n (search (and_l, and_r) depth 8) in
    let c : f.0 ≡ record_count t = eqb-true f.0 (record_count t) (search (and_l, and_r) depth 8) in
    let same : whole EN f ≡ en_record (record_count t) = ap (λ (x : ℕ). whole EN (x, tt)) c in
    rw same (ended s n lo (off + size EN) t u rs all j.2 a)

records-told : (s : Settings) (rs : List Rec) (u : Tables) → load_records s rs ≡ loaded u → Recorded s rs u
records-told s [] u e = refused e
records-told s (cut l ∷ rs) u e = refused e
records-told s (whole VC f ∷ rs) u e = refused e
records-told s (whole MS f ∷ rs) u e = refused e
records-told s (whole PA f ∷ rs) u e = refused e
records-told s (whole EN f ∷ rs) u e = refused e
records-told s (whole VM f ∷ rs) u e =
    let j = judged (eqb f.0 1 && vm_form f.1.0 f.1.1.0) (vm_may s f.1.0 f.1.1.0) 0
    (load_rest s f.1.0 (size VM) (suc (order_of VM f)) (stated f.1.1.0) rs) u e in
    let one : f.0 ≡ 1 = eqb-true f.0 1 (and_l (eqb f.0 1) (vm_form f.1.0 f.1.1.0) j.0) in
    let same : whole VM f ≡ vm_record f.1.0 f.1.1.0 = ap (λ (x : ℕ). whole VM (x, f.1)) one in
    rw same
    (rest-told s f.1.0 (size VM) (suc (order_of VM f)) (stated f.1.1.0) rs u
    (part-vm s f.1.0 (suc (order_of VM f)) f.1.1.0 (and_r (eqb f.0 1) (vm_form f.1.0 f.1.1.0) j.0) j.1) j.2)

-- an image that loads, written again, gives the same bytes
pub load-write : (s : Settings) (l : List ℕ) (u : Tables) → So (are_bytes l) → load_image s l ≡ loaded u → image u ≡ l
unfolding image load_image
load-write s l u h e = ap write_all (sym (records-told s (parse (length l) l) u e).0) ∙ write-parse (length l) l h

pub load-valid : (s : Settings) (l : List ℕ) (u : Tables) → load_image s l ≡ loaded u → Valid s u
unfolding load_image
load-valid s l u e = (records-told s (parse (length l) l) u e).1
