-- One layout packs and unpacks: the numbers that were packed are found in the fields, and what was unpacked packs to the same bytes. Assumes nothing.
use mathlib.Core.Path.{◌≡◌, refl, sym, ap, ap₂, subst, ◌∙◌}
use mathlib.Core.Bool.{Bool, ◌&&◌}
use mathlib.Core.List.{List, [], ◌∷◌, ◌++◌, map}
use Prim.Native.Nat.{ℕ, zero, suc, ◌+◌, ◌*◌, ◌/◌, ◌%◌, ◌^◌, ◌≤◌, ◌<◌}
use native.Mathlib.Nat.{add_comm, le-add_right, mul-zero, mul-suc, pow-zero, pow-succ', mod-eq_of_lt}
use native.Mathlib.Omega.{arith}
use borrow.Author.Tests.{ne_eqb}
use lib.Dec.{T, ltb, eqb, ltb→lt}
use lib.ListN.{length, get_or, take, drop, replicate, length-append, length-drop, take-append-drop}
use lib.Seq.{take_at, take-add, take-append-le, drop_at, drop-append-le, drop-cons, drop-drop, length-take-le}
use Rattle.std.proofs.lemmas.List.Folds.{list_all-append}
use lib.Ieee.Fits.{and_i, and_l, and_r}
use Rattle.rule.specs.Lists.{every, first_parts, parts_of, for_each}
use Rattle.fields.specs.Fields.{little_endian, fields_of, longs_of, byte_at, zero_bytes, all_bytes, bytes_of}
use Rattle.fields.specs.Packing.{size_of, unpacked, packed}
use Rattle.fields.proofs.Writing.{bytes_wide}
use Rattle.fields.proofs.Back.{spelled_back}

-- ---- bytes

byte_first : (b : ℕ) (l : List ℕ) → T (all_bytes (b ∷ l)) → (b < 256) × T (all_bytes l)
unfolding all_bytes
byte_first b l t = (ltb→lt b 256 (and_l (ltb b 256) (every (λ x. ltb x 256) l) t), and_r (ltb b 256) (every (λ x. ltb x 256) l) t)

bytes-taken : (i : ℕ) (l : List ℕ) → T (all_bytes l) → T (all_bytes (take i l))
unfolding all_bytes
bytes-taken zero l t = tt
bytes-taken (suc i) [] t = tt
bytes-taken (suc i) (b ∷ l) t =
    and_i (ltb b 256) (every (λ x. ltb x 256) (take i l)) (and_l (ltb b 256) (every (λ x. ltb x 256) l) t) (bytes-taken i l (and_r (ltb b 256) (every (λ x. ltb x 256) l) t))

bytes_left : (i : ℕ) (l : List ℕ) → T (all_bytes l) → T (all_bytes (drop i l))
unfolding all_bytes
bytes_left zero l t = t
bytes_left (suc i) [] t = tt
bytes_left (suc i) (b ∷ l) t = bytes_left i l (and_r (ltb b 256) (every (λ x. ltb x 256) l) t)

-- the number that bytes spell is of as many bytes, and has these
spelled_again : (l : List ℕ) → T (all_bytes l) → bytes_of (length l) (little_endian l) ≡ l
unfolding bytes_of little_endian
spelled_again [] t = refl
spelled_again (b ∷ l) t =
    let h = (byte_first b l t).0 in
    let m : (b + 256 * little_endian l) % 256 ≡ b = omega arith in
    let d : (b + 256 * little_endian l) / 256 ≡ little_endian l = omega arith in
    rw (m, d, spelled_again l (byte_first b l t).1)

spelled_below : (l : List ℕ) → T (all_bytes l) → little_endian l < 256 ^ length l
unfolding little_endian
spelled_below [] t = rw (pow-zero 256) (omega arith)
spelled_below (b ∷ l) t =
    let h = (byte_first b l t).0 in
    let e = spelled_below l (byte_first b l t).1 in
    rw (pow-succ' 256 (length l)) (omega (arith, h, e))

-- ---- packing

-- a number for each field, none too large for it
pub data Fit : List ℕ → List ℕ → Type 0 where
  none : Fit [] []
  more : {w n : ℕ} {layout numbers : List ℕ} → n < 256 ^ w → Fit layout numbers → Fit (w ∷ layout) (n ∷ numbers)

pub fit_length : {layout numbers : List ℕ} → Fit layout numbers → length numbers ≡ length layout
fit_length none = refl
fit_length (more h fit) = ap suc (fit_length fit)

pub fit_at : {layout numbers : List ℕ} → Fit layout numbers → (i : ℕ) → i < length layout → get_or numbers i 0 < 256 ^ get_or layout i 0
fit_at none i h = absurd (omega (arith, h))
fit_at (more g fit) zero h = g
fit_at (more g fit) (suc i) h = fit_at fit i (omega (arith, h))

pub fit-taken : {layout numbers : List ℕ} (i : ℕ) → Fit layout numbers → Fit (take i layout) (take i numbers)
fit-taken zero fit = none
fit-taken (suc i) none = none
fit-taken (suc i) (more h fit) = more h (fit-taken i fit)

pub fit-left : {layout numbers : List ℕ} (i : ℕ) → Fit layout numbers → Fit (drop i layout) (drop i numbers)
fit-left zero fit = fit
fit-left (suc i) none = none
fit-left (suc i) (more h fit) = fit-left i fit

pub packed_size : {layout numbers : List ℕ} → Fit layout numbers → length (packed layout numbers) ≡ size_of layout
unfolding packed size_of
packed_size none = refl
packed_size (more {w} {n} {layout} {numbers} h fit) = length-append (bytes_of w n) (packed layout numbers) ∙ ap₂ (λ a b. a + b) (bytes_wide w n) (packed_size fit)

pub unpacked-packed : {layout numbers : List ℕ} → Fit layout numbers → unpacked layout (packed layout numbers) ≡ numbers
unfolding packed unpacked
unpacked-packed none = refl
unpacked-packed (more {w} {n} {layout} {numbers} h fit) =
    let first : little_endian (take w (bytes_of w n ++ packed layout numbers)) ≡ n =
    ap little_endian (take_at (bytes_of w n) (packed layout numbers) w (bytes_wide w n)) ∙ spelled_back w n ∙ mod-eq_of_lt h
    in
    ap₂ (λ a b. a ∷ b) first (ap (unpacked layout) (drop_at (bytes_of w n) (packed layout numbers) w (bytes_wide w n)) ∙ unpacked-packed fit)

-- ---- unpacking

module _ (w : ℕ) (layout l : List ℕ) (size : length l ≡ w + size_of layout) where
  front_wide : length (take w l) ≡ w
  front_wide = length-take-le w l (rw size (le-add_right w (size_of layout)))

  rest_size : length (drop w l) ≡ size_of layout
  rest_size = length-drop w l ∙ rw size (omega arith)

pub unpacked-fit : (layout l : List ℕ) → length l ≡ size_of layout → T (all_bytes l) → Fit layout (unpacked layout l)
unfolding unpacked size_of
unpacked-fit [] l h t = none
unpacked-fit (w ∷ layout) l h t =
    more (subst (λ (k : ℕ). little_endian (take w l) < 256 ^ k) (front_wide w layout l h) (spelled_below (take w l) (bytes-taken w l t)))
    (unpacked-fit layout (drop w l) (rest_size w layout l h) (bytes_left w l t))

pub packed-unpacked : (layout l : List ℕ) → length l ≡ size_of layout → T (all_bytes l) → packed layout (unpacked layout l) ≡ l
unfolding packed unpacked size_of
packed-unpacked [] [] h t = refl
packed-unpacked [] (b ∷ l) h t = absurd (omega (arith, h))
packed-unpacked (w ∷ layout) l h t =
    let first : bytes_of w (little_endian (take w l)) ≡ take w l =
    ap (λ k. bytes_of k (little_endian (take w l))) (sym (front_wide w layout l h)) ∙ spelled_again (take w l) (bytes-taken w l t)
    in
    ap₂ (λ a b. a ++ b) first (packed-unpacked layout (drop w l) (rest_size w layout l h) (bytes_left w l t)) ∙ take-append-drop w l

-- one record behind another
pub unpacked-append : (layout rest l m : List ℕ) → length l ≡ size_of layout → unpacked (layout ++ rest) (l ++ m) ≡ unpacked layout l ++ unpacked rest m
unfolding unpacked size_of
unpacked-append [] rest [] m h = refl
unpacked-append [] rest (b ∷ l) m h = absurd (omega (arith, h))
unpacked-append (w ∷ layout) rest l m h =
    let inside : w ≤ length l = rw h (le-add_right w (size_of layout)) in
    rw (take-append-le w l m inside, drop-append-le w l m inside) (ap (λ k. little_endian (take w l) ∷ k) (unpacked-append layout rest (drop w l) m (rest_size w layout l h)))

-- ---- fields of one width

pub even_size : (w n : ℕ) → size_of (replicate n w) ≡ w * n
unfolding size_of
even_size w zero = sym (mul-zero w)
even_size w (suc n) = ap (λ k. w + k) (even_size w n) ∙ sym (mul-suc w n ∙ add_comm (w * n) w)

pub packed_even : (w : ℕ) (numbers : List ℕ) → packed (replicate (length numbers) w) numbers ≡ for_each (bytes_of w) numbers
unfolding packed for_each
packed_even w [] = refl
packed_even w (n ∷ numbers) = ap (λ rest. bytes_of w n ++ rest) (packed_even w numbers)

pub unpacked_even : (w n : ℕ) (l : List ℕ) → unpacked (replicate n w) l ≡ map little_endian (first_parts w n l)
unfolding unpacked first_parts
unpacked_even w zero l = refl
unpacked_even w (suc n) l = ap (λ rest. little_endian (take w l) ∷ rest) (unpacked_even w n (drop w l))

-- ---- a field, by where its bytes stand

pub field_placed : (layout l : List ℕ) (i : ℕ) → i < length layout → get_or (unpacked layout l) i 0 ≡ little_endian (take (get_or layout i 0) (drop (size_of (take i layout)) l))
unfolding unpacked size_of
field_placed [] l i h = absurd (omega (arith, h))
field_placed (w ∷ layout) l zero h = refl
field_placed (w ∷ layout) l (suc i) h =
    field_placed layout (drop w l) i (omega (arith, h)) ∙ rw (drop-drop (size_of (take i layout)) w l)

-- a field of one byte is that byte
pub byte_spelled : (l : List ℕ) (i : ℕ) → i < length l → byte_at l i ≡ little_endian (take 1 (drop i l))
unfolding byte_at little_endian
byte_spelled l i h = rw (drop-cons l i 0 h) (omega arith)

-- ---- zero bytes: they spell 0, and other bytes do not

pub spelled_zero : (l : List ℕ) → every (λ b. eqb b 0) l ≡ eqb (little_endian l) 0
unfolding little_endian
spelled_zero [] = refl
spelled_zero (zero ∷ l) = spelled_zero l ∙ same (little_endian l)
  where
    same : (n : ℕ) → eqb n 0 ≡ eqb (0 + 256 * n) 0
    same zero = refl
    same (suc n) = rw (ne_eqb (suc n) 0 (λ e. omega (arith, e)), ne_eqb (0 + 256 * suc n) 0 (λ e. omega (arith, e)))
spelled_zero (suc b ∷ l) = rw (ne_eqb (suc b) 0 (λ e. omega (arith, e)), ne_eqb (suc b + 256 * little_endian l) 0 (λ e. omega (arith, e)))

-- the bytes from `from` on, w of them
middle : (from w : ℕ) (l : List ℕ) → from ≤ length l → drop from (take (from + w) l) ≡ take w (drop from l)
middle from w l h = ap (drop from) (take-add from w l) ∙ drop_at (take from l) (take w (drop from l)) from (length-take-le from l h)

pub zero_spelled : (from w : ℕ) (l : List ℕ) → from ≤ length l → zero_bytes from (from + w) l ≡ eqb (little_endian (take w (drop from l))) 0
unfolding zero_bytes
zero_spelled from w l h = ap (every (λ b. eqb b 0)) (middle from w l h) ∙ spelled_zero (take w (drop from l))

pub every_append : {A : Type 0} (test : A → Bool) (k l : List A) → every test (k ++ l) ≡ (every test k && every test l)
every_append test k l = list_all-append test k l

-- zero bytes as eight-byte fields
zero_fields : (k : ℕ) (l : List ℕ) → every (λ b. eqb b 0) (take (8 * k) l) ≡ every (λ b. eqb b 0) (map little_endian (first_parts 8 k l))
unfolding first_parts
zero_fields zero l = refl
zero_fields (suc k) l =
    let e : 8 * suc k ≡ 8 + 8 * k = omega arith in
    rw (e, take-add 8 (8 * k) l, every_append (λ b. eqb b 0) (take 8 l) (take (8 * k) (drop 8 l)), spelled_zero (take 8 l), zero_fields k (drop 8 l))

-- some of the fields of a list, from place i on
fields-first : (w k n : ℕ) (l : List ℕ) → k ≤ n → take k (map little_endian (first_parts w n l)) ≡ map little_endian (first_parts w k l)
unfolding first_parts
fields-first w zero n l h = refl
fields-first w (suc k) zero l h = absurd (omega (arith, h))
fields-first w (suc k) (suc n) l h = ap (λ rest. little_endian (take w l) ∷ rest) (fields-first w k n (drop w l) (omega (arith, h)))

fields_from : (w i k n : ℕ) (l : List ℕ) → i + k ≤ n → take k (drop i (map little_endian (first_parts w n l))) ≡ map little_endian (first_parts w k (drop (w * i) l))
unfolding first_parts
fields_from w zero k n l h = fields-first w k n l (omega (arith, h)) ∙ rw (mul-zero w)
fields_from w (suc i) k zero l h = absurd (omega (arith, h))
fields_from w (suc i) k (suc n) l h = fields_from w i k n (drop w l) (omega (arith, h)) ∙ rw (drop-drop (w * i) w l, mul-suc w i, add_comm (w * i) w)

pub zero_longs : (i k : ℕ) (l : List ℕ) → 8 * i + 8 * k ≤ length l → zero_bytes (8 * i) (8 * i + 8 * k) l ≡ every (λ b. eqb b 0) (take k (drop i (longs_of l)))
unfolding zero_bytes longs_of fields_of parts_of
zero_longs i k l h =
    ap (every (λ b. eqb b 0)) (middle (8 * i) (8 * k) l (omega arith))
    ∙ zero_fields k (drop (8 * i) l)
    ∙ ap (every (λ b. eqb b 0)) (sym (fields_from 8 i k (length l / 8) l (omega arith)))
