-- Bytes cut into records, and records written as bytes, undo one another. Assumes nothing.
use mathlib.Core.Path.{◌≡◌, refl, sym, ap, ap₂, ◌∙◌}
use Prim.Native.Nat.{ℕ, zero, suc, ◌^◌, ◌≤◌, ◌<◌}
use native.Mathlib.Nat.{not-suc-le-zero, le_refl, le_of_eq}
use native.Mathlib.Omega.{arith}
use mathlib.Core.List.{List, [], ◌∷◌, ◌++◌, append-nil}
use mathlib.Core.Bool.{Bool, true, false, So}
use mathlib.Core.Option.{Option, none, some}
use lib.ListN.{length, drop, length-append, length-drop}
use lib.Seq.{drop_at}
use lib.Dec.{leb, eqb, ltb, lit<}
use lib.Pow.{are_bytes}
use borrow.Author.Tests.{leb-true, le-leb, lt-ltb, eqb-true}
use Rattle.wire.specs.Bytes.{le, num}
use Rattle.kvmi.specs.Bits.{every}
use Rattle.kvmi.specs.Row.{Row, write_row, read_row, fits}
use Rattle.kvmi.specs.Record.{Kind, VM, VC, MS, PA, EN, mark, kind_in, kinds, widths, size, Rec, whole, cut, write, write_all, held, kind_at, from, parse}
use Rattle.laws.proofs.Bool.{and_i, test, clash, every-head, every-tail, every-cons}
use Rattle.laws.proofs.Row.{length-write_row, bytes-write_row, read-write, write_read, read_fits}
use Rattle.wire.proofs.Laws.{num-le, bytes_drop, bytes-append}

pub length-write : (k : Kind) (f : Row (widths k)) → length (write (whole k f)) ≡ size k
length-write k f = length-write_row (2 ∷ widths k) (mark k, f)

-- ---- the kind of the record with which bytes begin
not_some : {A C : Type 0} {a : A} → none ≡ some a → C
not_some e = let z : ◌≡◌ {A = ℕ} 0 1 = cc in absurd (omega arith)

kind-mark : (ks : List Kind) (m : ℕ) (k : Kind) → kind_in ks m ≡ some k → m ≡ mark k
kind-mark [] m k e = not_some e
kind-mark (j ∷ ks) m k e = test (eqb m (mark j)) here (λ q. kind-mark ks m k (rw q at e))
  where
    here : eqb m (mark j) ≡ true → m ≡ mark k
    here q = let f : some j ≡ some k = rw q at e in let same : j ≡ k = cc in eqb-true m (mark j) q ∙ ap mark same

-- the kind is that of the mark, and all of the record is there
held-some : (l : List ℕ) (o : Option Kind) (k : Kind) → held l o ≡ some k → (o ≡ some k) × (size k ≤ length l)
held-some l none k e = not_some e
held-some l (some j) k e = test (leb (size j) (length l)) here (λ q. not_some (rw q at e))
  where
    here : leb (size j) (length l) ≡ true → (some j ≡ some k) × (size k ≤ length l)
    here q = let f : some j ≡ some k = rw q at e in let same : j ≡ k = cc in (f, rw same at (leb-true (size j) (length l) q))

pub kind-found : (l : List ℕ) (k : Kind) → kind_at l ≡ some k → (num 2 l ≡ mark k) × (size k ≤ length l)
unfolding kind_at
kind-found l k e = let h = held-some l (kind_in kinds (num 2 l)) k e in (kind-mark kinds (num 2 l) k h.0, h.1)

-- ---- what is read is written
from-law : (p : List ℕ → List Rec) → ((r : List ℕ) → So (are_bytes r) → write_all (p r) ≡ r) → (l : List ℕ) → So (are_bytes l)
    → (o : Option Kind) → kind_at l ≡ o → write_all (from p l o) ≡ l
unfolding read_row
from-law p hp l h none e = append-nil l
from-law p hp l h (some k) e =
    let f = kind-found l k e in
    rw (hp (drop (size k) l) (bytes_drop (size k) l h), ← f.0) (write_read (2 ∷ widths k) l h f.1)

pub write-parse : (n : ℕ) (l : List ℕ) → So (are_bytes l) → write_all (parse n l) ≡ l
write-parse zero [] h = refl
write-parse zero (b ∷ l) h = append-nil (b ∷ l)
write-parse (suc n) [] h = refl
write-parse (suc n) (b ∷ l) h = from-law (λ r. parse n r) (λ r g. write-parse n r g) (b ∷ l) h (kind_at (b ∷ l)) refl

-- ---- what is written is read
-- a record is whole, and its numbers fit their bytes
abbrev pub is_sound : Rec → Bool
is_sound (whole k f) = fits (widths k) f
is_sound (cut l) = false

abbrev pub sound : List Rec → Bool
sound rs = every is_sound rs

mark-fits : (k : Kind) → mark k < 256 ^ 2
mark-fits VM = lit< tt
mark-fits VC = lit< tt
mark-fits MS = lit< tt
mark-fits PA = lit< tt
mark-fits EN = lit< tt

kind-of-mark : (k : Kind) → kind_in kinds (mark k) ≡ some k
kind-of-mark VM = refl
kind-of-mark VC = refl
kind-of-mark MS = refl
kind-of-mark PA = refl
kind-of-mark EN = refl

pub kind-written : (k : Kind) (f : Row (widths k)) (t : List ℕ) → kind_at (write (whole k f) ++ t) ≡ some k
unfolding kind_at write_row le
kind-written k f t =
    let room : size k ≤ length (write (whole k f) ++ t) = rw (length-append, length-write k f) (omega arith) in
    ap (λ (m : ℕ). held (write (whole k f) ++ t) (kind_in kinds m)) (num-le 2 (mark k) (write_row (widths k) f ++ t) (mark-fits k))
    ∙ rw (kind-of-mark k, le-leb (size k) (length (write (whole k f) ++ t)) room)

pub parse-write : (n : ℕ) (rs : List Rec) → So (sound rs) → length (write_all rs) ≤ n → parse n (write_all rs) ≡ rs
unfolding write_row le
parse-write zero [] h g = refl
parse-write (suc n) [] h g = refl
parse-write zero (cut l ∷ rs) h g = clash h refl
parse-write (suc n) (cut l ∷ rs) h g = clash h refl
parse-write zero (whole k f ∷ rs) h g = absurd (not-suc-le-zero g)
parse-write (suc n) (whole k f ∷ rs) h g =
    let t = write_all rs in
    let own = and_i (ltb (mark k) (256 ^ 2)) (fits (widths k) f) (lt-ltb (mark k) (256 ^ 2) (mark-fits k)) (every-head is_sound (whole k f) rs h) in
    let rest = parse-write n rs (every-tail is_sound (whole k f) rs h) (omega (arith, length-append (write_row (widths k) f) t)) in
    ap (from (λ r. parse n r) (write (whole k f) ++ t)) (kind-written k f t)
    ∙ ap₂ {C = List Rec} (λ (g : Row (2 ∷ widths k)) (us : List Rec). whole k g.1 ∷ us) (read-write (2 ∷ widths k) (mark k, f) t own)
    (ap (λ r. parse n r) (drop_at (write (whole k f)) t (size k) (length-write k f)) ∙ rest)

-- two lists of records that fit and have the same bytes are equal
pub write-injective : (rs us : List Rec) → So (sound rs) → So (sound us) → write_all rs ≡ write_all us → rs ≡ us
write-injective rs us h g e =
    sym (parse-write (length (write_all rs)) rs h (le_refl _)) ∙ ap (parse (length (write_all rs))) e
    ∙ parse-write (length (write_all rs)) us g (le_of_eq (ap length (sym e)))

pub bytes-write_all : (rs : List Rec) → So (sound rs) → So (are_bytes (write_all rs))
bytes-write_all [] h = refl
bytes-write_all (cut l ∷ rs) h = clash h refl
bytes-write_all (whole k f ∷ rs) h =
    bytes-append (write (whole k f)) (write_all rs) (bytes-write_row (2 ∷ widths k) (mark k, f)) (bytes-write_all rs (every-tail is_sound (whole k f) rs h))

-- ---- one record at a time: what a loop over the bytes goes by
from-same : (p q : List ℕ → List Rec) (b : ℕ) (l : List ℕ) → ((r : List ℕ) → length r ≤ length l → p r ≡ q r) → (o : Option Kind) → from p (b ∷ l) o ≡ from q (b ∷ l) o
from-same p q b l h none = refl
from-same p q b l h (some k) = rw (h (drop (size k) (b ∷ l)) (rw length-drop (omega arith)))

-- more fuel than bytes changes nothing
pub parse-fuel : (n m : ℕ) (l : List ℕ) → length l ≤ n → length l ≤ m → parse n l ≡ parse m l
parse-fuel zero zero l g h = refl
parse-fuel zero (suc m) [] g h = refl
parse-fuel zero (suc m) (b ∷ l) g h = absurd (not-suc-le-zero g)
parse-fuel (suc n) zero [] g h = refl
parse-fuel (suc n) zero (b ∷ l) g h = absurd (not-suc-le-zero h)
parse-fuel (suc n) (suc m) [] g h = refl
parse-fuel (suc n) (suc m) (b ∷ l) g h =
    from-same (λ r. parse n r) (λ r. parse m r) b l (λ r w. parse-fuel n m r (omega arith) (omega arith)) (kind_at (b ∷ l))

pub parse-next : (b : ℕ) (l : List ℕ) → parse (length {A = ℕ} (b ∷ l)) (b ∷ l) ≡ from (λ r. parse (length r) r) (b ∷ l) (kind_at (b ∷ l))
parse-next b l = from-same (λ r. parse (length l) r) (λ r. parse (length r) r) b l (λ r w. parse-fuel (length l) (length r) r w (le_refl _)) (kind_at (b ∷ l))

-- ---- what is read of bytes fits
-- the numbers of a record, if it is whole, fit their bytes
abbrev pub fits_rec : Rec → Bool
fits_rec (whole k f) = fits (widths k) f
fits_rec (cut l) = true

from-fits : (p : List ℕ → List Rec) → ((r : List ℕ) → So (are_bytes r) → So (every fits_rec (p r))) → (l : List ℕ) → So (are_bytes l) → (o : Option Kind)
    → So (every fits_rec (from p l o))
unfolding read_row
from-fits p hp l h none = refl
from-fits p hp l h (some k) =
    every-cons fits_rec (whole k (read_row (2 ∷ widths k) l).1) (p (drop (size k) l)) (read_fits (widths k) (drop 2 l) (bytes_drop 2 l h))
    (hp (drop (size k) l) (bytes_drop (size k) l h))

pub sound-parse : (n : ℕ) (l : List ℕ) → So (are_bytes l) → So (every fits_rec (parse n l))
sound-parse zero [] h = refl
sound-parse zero (b ∷ l) h = refl
sound-parse (suc n) [] h = refl
sound-parse (suc n) (b ∷ l) h = from-fits (λ r. parse n r) (λ r g. sound-parse n r g) (b ∷ l) h (kind_at (b ∷ l))
