-- What is written of tables that the settings allow loads as those tables. Assumes nothing.
use mathlib.Core.Path.{◌≡◌, refl, sym, ap, ◌∙◌}
use Prim.Native.Nat.{ℕ, zero, suc, ◌+◌, ◌*◌, ◌/◌, ◌%◌, ◌^◌, ◌≤◌, ◌<◌, zero-le}
use native.Mathlib.Nat.{le_refl}
use native.Mathlib.Omega.{arith}
use mathlib.Core.List.{List, [], ◌∷◌, ◌++◌, append_assoc, append-nil}
use mathlib.Core.Bool.{Bool, true, false, ◌&&◌, So}
use lib.ListN.{length}
use lib.Dec.{leb, eqb, ltb}
use borrow.Author.Tests.{leb-true, lt-ltb, le-leb, eq-eqb}
use Rattle.kvmi.specs.declared.Settings.{Settings}
use Rattle.kvmi.specs.Bits.{bit, every}
use Rattle.kvmi.specs.Ascending.{rising}
use Rattle.kvmi.specs.Row.{Row, fits}
use Rattle.kvmi.specs.Record.{Kind, VM, VC, MS, PA, EN, widths, size, Rec, whole, cut, order_at, order_of, write_all, parse}
use Rattle.kvmi.specs.Tables.{Vcpu, Msr, Page, Tables, msr_key, page_key, with_ready, with_singlestep, with_vcpus, with_msrs, with_pages}
use Rattle.kvmi.specs.Image.{vc_row, ms_row, pa_row, vm_record, vc_record, ms_record, pa_record, en_record, onto, vc_records, record_count, records, image, vcpu_of_row, with_record, vm_form, vc_form, ms_form, pa_form, vm_may, vc_may, pa_may, form_of, is_next, may_of, Loaded, loaded, judge, fits_in, load_rest, stated, load_records, load_image}
use Rattle.laws.proofs.Bool.{and_l, and_r, and_i, every-head, every-tail, length-snoc}
use Rattle.laws.proofs.Ascending.{rising-low, rising-rest}
use Rattle.kvmi.specs.Valid.{Valid, vc_good, pa_good}
use Rattle.kvmi.specs.Limits.{page_limit}
use Rattle.laws.proofs.Valid.{vm-few, vm-bits, ms-numbers, pa-numbers, vc-numbers, count_small}
use Rattle.laws.proofs.Record.{sound, parse-write}

passed : (form may : Bool) (off : ℕ) (next : Loaded) → So form → So may → judge form may off next ≡ next
passed form may off next p q = rw (p, q)

fitted : (k : Kind) (n lo : ℕ) (t : Tables) (f : Row (widths k)) → lo ≤ order_of k f → So (is_next k n t f) → So (form_of k n t f) → So (fits_in k n lo t f)
fitted k n lo t f a b c = and_i (leb lo (order_of k f) && is_next k n t f) _ (and_i (leb lo (order_of k f)) _ (le-leb lo (order_of k f) a) b) c

same? : (n : ℕ) → So (eqb n n)
same? n = eq-eqb n n refl

-- the tables with parts of their lists
abbrev made : ℕ → List Vcpu → List Msr → List Page → Tables
made e vs ms ps = with_pages (with_msrs (with_vcpus (stated e) vs) ms) ps

load-pages : (s : Settings) (n off lo up e : ℕ) (vs : List Vcpu) (ms : List Msr) (qs ps : List Page) (u : Tables) → length vs ≡ n → lo ≤ order_at 3 0 up → up ≤ 2 ^ 80
    → made e vs ms (qs ++ ps) ≡ u → So (rising page_key up ps) → So (every (pa_good s) ps) → length qs + length ps ≤ page_limit
    → load_rest s n off lo (made e vs ms qs) (onto pa_record ps (en_record (record_count u) ∷ [])) ≡ loaded u
load-pages s n off lo up e vs ms qs [] u q l b r g h w =
    let same : made e vs ms qs ≡ u = ap (λ (x : List Page). made e vs ms x) (sym (append-nil qs)) ∙ r in
    passed _ true off _
    (fitted EN n lo (made e vs ms qs) (record_count u, tt) (omega arith) (eq-eqb _ _ q) (eq-eqb _ _ (ap record_count (sym same)))) refl
    ∙ ap loaded same
load-pages s n off lo up e vs ms qs (p ∷ ps) u q l b r g h w =
    let own = every-head (pa_good s) p ps h in
    let form = and_l (pa_form p) (pa_may s p) own in
    let nums = pa-numbers p form in
    let low = rising-low page_key up p ps g in
    passed _ _ off _
    (fitted PA n lo (made e vs ms qs) (pa_row p) (omega arith) (eq-eqb _ _ q) (and_i _ _ (and_i _ _ refl form) (lt-ltb (length qs) page_limit (omega arith))))
    (and_r (pa_form p) (pa_may s p) own)
    ∙ load-pages s n (off + size PA) (suc (order_of PA (pa_row p))) (suc (page_key p)) e vs ms (qs ++ (p ∷ [])) ps u q (omega arith) (omega arith)
    (ap (λ (x : List Page). made e vs ms x) (append_assoc qs (p ∷ []) ps) ∙ r) (rising-rest page_key up p ps g) (every-tail (pa_good s) p ps h)
    (rw length-snoc (omega arith))

load-msrs : (s : Settings) (n off lo up e : ℕ) (vs : List Vcpu) (ns ms : List Msr) (ps : List Page) (u : Tables) → length vs ≡ n → n ≤ 16 → lo ≤ order_at 2 0 up → up ≤ 2 ^ 80
    → made e vs (ns ++ ms) ps ≡ u → So (rising msr_key up ms) → So (every (ms_form vs) ms) → So (rising page_key 0 ps) → So (every (pa_good s) ps) → length ps ≤ page_limit
    → load_rest s n off lo (made e vs ns []) (onto ms_record ms (onto pa_record ps (en_record (record_count u) ∷ []))) ≡ loaded u
load-msrs s n off lo up e vs ns [] ps u q c l b r g h g' h' w =
    load-pages s n off lo 0 e vs ns [] ps u q (omega arith) zero-le (ap (λ (x : List Msr). made e vs x ps) (sym (append-nil ns)) ∙ r) g' h' (omega arith)
load-msrs s n off lo up e vs ns (m ∷ ms) ps u q c l b r g h g' h' w =
    let own = every-head (ms_form vs) m ms h in
    let nums = ms-numbers vs m own in
    let low = rising-low msr_key up m ms g in
    passed _ true off _ (fitted MS n lo (made e vs ns []) (ms_row m) (omega arith) (eq-eqb _ _ q) own) refl
    ∙ load-msrs s n (off + size MS) (suc (order_of MS (ms_row m))) (suc (msr_key m)) e vs (ns ++ (m ∷ [])) ms ps u q c (omega arith) (omega arith)
    (ap (λ (x : List Msr). made e vs x ps) (append_assoc ns (m ∷ []) ms) ∙ r) (rising-rest msr_key up m ms g) (every-tail (ms_form vs) m ms h) g' h' w

flags_of : (r b : Bool) → (eqb ((bit r + 2 * bit b) % 2) 1 ≡ r) × (eqb ((bit r + 2 * bit b) / 2) 1 ≡ b) × So (leb (bit r + 2 * bit b) 3)
flags_of true true = (refl, refl, refl)
flags_of true false = (refl, refl, refl)
flags_of false true = (refl, refl, refl)
flags_of false false = (refl, refl, refl)

vcpu-of-row : (i : ℕ) (v : Vcpu) → vcpu_of_row (vc_row i v) ≡ v
vcpu-of-row i v =
    let f = flags_of v.ready v.singlestep in
    λ j. with_singlestep (with_ready v (f.0 j)) (f.1 j)

load-vcs : (s : Settings) (n off lo e i : ℕ) (vs ws : List Vcpu) (ms : List Msr) (ps : List Page) (u : Tables) → length vs ≡ i → i + length ws ≡ n → n ≤ 16 → lo ≤ order_at 1 i 0
    → made e (vs ++ ws) ms ps ≡ u → So (every (vc_good s) ws) → So (rising msr_key 0 ms) → So (every (ms_form (vs ++ ws)) ms) → So (rising page_key 0 ps)
    → So (every (pa_good s) ps) → length ps ≤ page_limit
    → load_rest s n off lo (made e vs [] []) (vc_records i ws (onto ms_record ms (onto pa_record ps (en_record (record_count u) ∷ [])))) ≡ loaded u
load-vcs s n off lo e i vs [] ms ps u p q c l r k g h g' h' w =
    load-msrs s n off lo 0 e vs [] ms ps u (omega arith) c (omega arith) zero-le (ap (λ (x : List Vcpu). made e x ms ps) (sym (append-nil vs)) ∙ r) g (rw append-nil at h) g' h' w
load-vcs s n off lo e i vs (v ∷ ws) ms ps u p q c l r k g h g' h' w =
    let same : vcpu_of_row (vc_row i v) ≡ v = vcpu-of-row i v in
    let own = every-head (vc_good s) v ws k in
    let form : So (vc_form (vcpu_of_row (vc_row i v))) = ap vc_form same ∙ and_l (vc_form v) (vc_may s v) own in
    let may : So (vc_may s (vcpu_of_row (vc_row i v))) = ap (vc_may s) same ∙ and_r (vc_form v) (vc_may s v) own in
    let grown : vs ++ (v ∷ []) ++ ws ≡ vs ++ (v ∷ ws) = append_assoc vs (v ∷ []) ws in
    passed (fits_in VC n lo (made e vs [] []) (vc_row i v)) (vc_may s (vcpu_of_row (vc_row i v))) off _
    (fitted VC n lo (made e vs [] []) (vc_row i v) (omega arith) (eq-eqb i (length vs) (sym p))
    (and_i _ _ (and_i _ _ (and_i _ _ (lt-ltb i n (omega arith)) (flags_of v.ready v.singlestep).2) refl) form))
    may
    ∙ ap
    (λ (x : Vcpu). load_rest s n (off + size VC) (suc (order_of VC (vc_row i v))) (made e (vs ++ (x ∷ [])) [] [])
    (vc_records (suc i) ws (onto ms_record ms (onto pa_record ps (en_record (record_count u) ∷ [])))))
    same
    ∙ load-vcs s n (off + size VC) (suc (order_of VC (vc_row i v))) e (suc i) (vs ++ (v ∷ [])) ws ms ps u (rw length-snoc (ap suc p)) (omega arith) c (omega arith)
    (ap (λ (x : List Vcpu). made e x ms ps) grown ∙ r) (every-tail (vc_good s) v ws k) g (rw grown h) g' h' w

load-records : (s : Settings) (t : Tables) → Valid s t → load_records s (records t) ≡ loaded t
load-records s t a =
    let n = length t.vcpus in
    passed (vm_form n t.events) (vm_may s n t.events) 0 _ a.vm a.may
    ∙ load-vcs s n (size VM) 1 t.events 0 [] t.vcpus t.msrs t.pages t refl (omega arith) (vm-few n t.events a.vm) (omega arith) refl a.vcs a.ms_up
    a.mss a.pa_up a.pas a.pa_few

-- ---- its numbers fit their bytes
sound-pages : (s : Settings) (ps : List Page) (rs : List Rec) → So (every (pa_good s) ps) → So (sound rs) → So (sound (onto pa_record ps rs))
sound-pages s [] rs h g = g
sound-pages s (p ∷ ps) rs h g =
    let nums = pa-numbers p (and_l (pa_form p) (pa_may s p) (every-head (pa_good s) p ps h)) in
    and_i _ _
    (and_i _ _ (lt-ltb p.view (256 ^ 2) (omega arith))
    (and_i _ _ (lt-ltb p.access 256 (omega arith)) (and_i _ _ (lt-ltb p.page (256 ^ 8) (omega arith)) refl)))
    (sound-pages s ps rs (every-tail (pa_good s) p ps h) g)

sound-msrs : (vs : List Vcpu) (ms : List Msr) (rs : List Rec) → length vs ≤ 16 → So (every (ms_form vs) ms) → So (sound rs) → So (sound (onto ms_record ms rs))
sound-msrs vs [] rs w h g = g
sound-msrs vs (m ∷ ms) rs w h g =
    let nums = ms-numbers vs m (every-head (ms_form vs) m ms h) in
    and_i _ _ (and_i _ _ (lt-ltb m.vcpu (256 ^ 2) (omega arith)) (and_i _ _ (lt-ltb m.msr (256 ^ 4) (omega arith)) refl))
    (sound-msrs vs ms rs w (every-tail (ms_form vs) m ms h) g)

sound-vcs : (s : Settings) (i : ℕ) (vs : List Vcpu) (rs : List Rec) → i + length vs ≤ 16 → So (every (vc_good s) vs) → So (sound rs) → So (sound (vc_records i vs rs))
sound-vcs s i [] rs w h g = g
sound-vcs s i (v ∷ vs) rs w h g =
    let f : bit v.ready + 2 * bit v.singlestep ≤ 3 = leb-true _ 3 (flags_of v.ready v.singlestep).2 in
    let nums = vc-numbers v (and_l (vc_form v) (vc_may s v) (every-head (vc_good s) v vs h)) in
    and_i _ _
    (and_i _ _ (lt-ltb i (256 ^ 2) (omega arith))
    (and_i _ _ (lt-ltb (bit v.ready + 2 * bit v.singlestep) 256 (omega arith))
    (and_i _ _ (lt-ltb v.crs 256 (omega arith))
    (and_i _ _ (lt-ltb v.events (256 ^ 2) (omega arith)) (and_i _ _ (lt-ltb v.pauses 256 (omega arith)) refl)))))
    (sound-vcs s (suc i) vs rs (omega arith) (every-tail (vc_good s) v vs h) g)

sound-records : (s : Settings) (t : Tables) → Valid s t → So (sound (records t))
sound-records s t a =
    let n = vm-few (length t.vcpus) t.events a.vm in
    let e = vm-bits (length t.vcpus) t.events a.vm in
    and_i _ _ (and_i _ _ (lt-ltb (length t.vcpus) (256 ^ 2) (omega arith)) (and_i _ _ (lt-ltb t.events (256 ^ 2) (omega arith)) refl))
    (sound-vcs s 0 t.vcpus _ (omega arith) a.vcs
    (sound-msrs t.vcpus t.msrs _ n a.mss
    (sound-pages s t.pages _ a.pas (and_i _ _ (and_i _ _ (lt-ltb (record_count t) (256 ^ 4) (count_small s t a)) refl) refl))))

-- ---- the two together
pub write-load : (s : Settings) (t : Tables) → Valid s t → load_image s (image t) ≡ loaded t
unfolding image load_image
write-load s t a = ap (load_records s) (parse-write (length (write_all (records t))) (records t) (sound-records s t a) (le_refl _)) ∙ load-records s t a

-- tables that have the same image are equal
pub image_injective : (s : Settings) (t u : Tables) → Valid s t → Valid s u → image t ≡ image u → t ≡ u
image_injective s t u a b e =
    let p : loaded t ≡ loaded u = sym (write-load s t a) ∙ ap (load_image s) e ∙ write-load s u b in
    cc
