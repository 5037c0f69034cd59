-- Lower bounds of doubles of clear sign. Sums, quotients and roots keep the order; and a number times 1 - 2 ^ -52 is not above the square of its root,
-- so that a root mean square has a lower bound that needs no root of a distance. Assumes nothing.
use mathlib.Core.Path.{◌≡◌, refl}
use mathlib.Core.Bool.{true, false}
use Prim.Native.Nat.{ℕ, zero, suc, ◌+◌, ◌-◌, ◌*◌, ◌^◌, ◌≤◌, ◌<◌, zero-le}
use native.Mathlib.Nat.{le_refl, zero-lt-suc, zero-mul, mul-pos, mul-one, mul-le-mul_right, add-zero}
use native.Mathlib.Omega.{arith}
use borrow.Author.Tests.{ne_eqb}
use lib.Dec.{T, ltb→lt, lt→ltb, eqb-suc-zero}
use lib.Pow.{pow_pos}
use lib.IntN.{ℤ, pos}
use lib.Ieee.{Float, nan, inf, fin, binary64, up, down, round, sum, add, mul, div, le, lt, eq, of_int, of_bits, to_bits, fits}
use lib.Ieee.Fits.{up_pos, down_pos, div-fits}
use lib.Ieee.Exact.{HasValue}
use lib.Ieee.Order.{round_mono, le_of_values}
use lib.Ieee.Positive.{positive, positive_of_value, mul_at}
use Rattle.rule.specs.Arith.{◌⊕◌, ◌⊗◌, ◌⊘◌, clear}
use Rattle.root.specs.Root.{root_bits, root_of}
use Rattle.root.proofs.Patterns.{value}
use Rattle.root.proofs.Doubles.{root_positive}
use Rattle.root.proofs.Correct.{has_value, pattern, on_patterns, root_correct}
use Rattle.root.proofs.Monotone.{root_monotone}
use Rattle.root.proofs.Square.{root-square}
use Rattle.numbers.specs.Constants.{zero'}
use Rattle.numbers.proofs.Exact.{round_own}
use Rattle.book.specs.Score.{rms_of}
use Rattle.book.proofs.Clear.{clear-has_root, round_clear, add_clear, div_clear, count_positive}
use Rattle.book.proofs.ClearOrder.{is_at_most, le_same, le_infinity, le_trans_clear}

-- 1 - 2 ^ -52, the literal 0.9999999999999998
abbrev pub shrink : Float
shrink = of_bits binary64 0x3fef_ffff_ffff_fffe

shrink_value : HasValue shrink false (2 ^ 53 - 2) (2 ^ 53)
unfolding of_bits
shrink_value = (refl, refl)

-- ---- a number and the square of its root

-- q and d are the number and its root over k, r / s the factor
over_square : (q d k r s : ℕ) → q * k * r ≤ s * (d * d) → q * r * (k * k) ≤ d * d * (k * s)
over_square q d k r s h = let l = mul-le-mul_right k h in omega arith

shrunk_positive : (q : Float) → T (fits binary64 q) → T (positive q) → T (le (q ⊗ shrink) (root_of q ⊗ root_of q))
shrunk_positive q f p =
    let Q = pattern q f p in
    let b = to_bits binary64 q in
    let d = root_of q in
    let D : HasValue d false (value (root_bits b)) (2 ^ 1074) = rw (root_positive q p) (has_value (on_patterns q b Q)) in
    let above : T (positive d) = (root_correct q f p).is.above_zero in
    rw (
      mul_at binary64 q shrink (value b) (2 ^ 1074) (2 ^ 53 - 2) (2 ^ 53) p (positive_of_value shrink (2 ^ 53 - 2) (2 ^ 53) shrink_value (zero-lt-suc _)) (pow_pos 1074) (pow_pos 53) (has_value Q) shrink_value,
      mul_at binary64 d d (value (root_bits b)) (2 ^ 1074) (value (root_bits b)) (2 ^ 1074) above above (pow_pos 1074) (pow_pos 1074) D D,
    )
    (round_mono binary64 (value b * (2 ^ 53 - 2)) (2 ^ 1074 * 2 ^ 53) (value (root_bits b) * value (root_bits b)) (2 ^ 1074 * 2 ^ 1074) (mul-pos (pow_pos 1074) (pow_pos 53)) (mul-pos (pow_pos 1074) (pow_pos 1074))
    (over_square (value b) (value (root_bits b)) (2 ^ 1074) (2 ^ 53 - 2) (2 ^ 53) (root-square b Q.pos)))

pub shrunk_under : (q : Float) → T (fits binary64 q) → T (clear q) → T (le (q ⊗ shrink) (root_of q ⊗ root_of q))
unfolding clear root_of mul of_bits le lt eq
shrunk_under nan f c = absurd c
shrunk_under (inf true) f c = absurd c
shrunk_under (inf false) f c = tt
shrunk_under (fin true m e) f c = absurd c
shrunk_under (fin false zero e) f c =
    round_mono binary64 (0 * up e * (2 ^ 52 - 1)) (down e * 2 ^ 52) (0 * up e * (0 * up e)) (down e * down e) (mul-pos (down_pos e) (pow_pos 52)) (mul-pos (down_pos e) (down_pos e)) (simp zero-mul zero-le)
shrunk_under (fin false (suc m) e) f c = shrunk_positive (fin false (suc m) e) f (lt→ltb 0 (suc m) (zero-lt-suc m))

pub shrunk_clear : (q : Float) → T (clear q) → T (clear (q ⊗ shrink))
unfolding clear mul of_bits
shrunk_clear nan c = absurd c
shrunk_clear (inf true) c = absurd c
shrunk_clear (inf false) c = tt
shrunk_clear (fin true m e) c = absurd c
shrunk_clear (fin false m e) c = round_clear (m * up e * (2 ^ 52 - 1)) (down e * 2 ^ 52)

-- ---- what `le` says of two clear floats: the larger is infinity, or both are finite and their fractions are in order

data Ordered : Float → Float → Type 0 where
  endless : {x : Float} → T (clear x) → Ordered x (inf false)
  finite : (m m' : ℕ) (e e' : ℤ) → m * up e * down e' ≤ m' * up e' * down e → Ordered (fin false m e) (fin false m' e')

ordered : (x x' : Float) → T (clear x) → T (clear x') → T (le x x') → Ordered x x'
unfolding clear le lt eq
ordered nan x' p q h = absurd p
ordered (inf true) x' p q h = absurd p
ordered (inf false) nan p q h = absurd q
ordered (inf false) (inf true) p q h = absurd q
ordered (inf false) (inf false) p q h = endless tt
ordered (inf false) (fin t n d) p q h = absurd h
ordered (fin true m e) x' p q h = absurd p
ordered (fin false m e) nan p q h = absurd q
ordered (fin false m e) (inf true) p q h = absurd q
ordered (fin false m e) (inf false) p q h = endless tt
ordered (fin false m e) (fin true n d) p q h = absurd q
ordered (fin false m e) (fin false n d) p q h = finite m n e d (is_at_most (m * up e * down d) (n * up d * down e) h)

-- ---- sums

sums_cross : (a b c d a' b' c' d' : ℕ) → a * b' ≤ a' * b → c * d' ≤ c' * d → (a * d + c * b) * (b' * d') ≤ (a' * d' + c' * b') * (b * d)
sums_cross a b c d a' b' c' d' h k =
    let l = mul-le-mul_right (d * d') h in
    let r = mul-le-mul_right (b * b') k in
    omega arith

-- infinity and what is clear
infinite_sum : (y : Float) → T (clear y) → inf false ⊕ y ≡ inf false
unfolding add clear
infinite_sum nan c = absurd c
infinite_sum (inf true) c = absurd c
infinite_sum (inf false) c = refl
infinite_sum (fin s m e) c = refl

add_ordered : {x x' y y' : Float} → T (clear x) → T (clear y) → T (clear y') → Ordered x x' → Ordered y y' → T (le (x ⊕ y) (x' ⊕ y'))
unfolding add sum
add_ordered {x} {y} {y'} p q q' (endless c) o = rw (infinite_sum y' q') (le_infinity (x ⊕ y) (add_clear x y p q))
add_ordered {x} {y} p q q' (finite m m' e e' h) (endless c) = le_infinity (x ⊕ y) (add_clear x y p q)
add_ordered p q q' (finite m m' e e' h) (finite n n' d d' k) =
    round_mono binary64 (m * up e * down d + n * up d * down e) (down e * down d) (m' * up e' * down d' + n' * up d' * down e') (down e' * down d') (mul-pos (down_pos e) (down_pos d)) (mul-pos (down_pos e') (down_pos d'))
    (sums_cross (m * up e) (down e) (n * up d) (down d) (m' * up e') (down e') (n' * up d') (down d') h k)

pub add_under : (x x' y y' : Float) → T (clear x) → T (clear x') → T (clear y) → T (clear y') → T (le x x') → T (le y y') → T (le (x ⊕ y) (x' ⊕ y'))
add_under x x' y y' p p' q q' h k = add_ordered p q q' (ordered x x' p p' h) (ordered y y' q q' k)

-- ---- a sum with nothing

-- the fraction of a finite double is a double
own_round : (m : ℕ) (e : ℤ) → T (fits binary64 (fin false m e)) → HasValue (round binary64 false (m * up e) (down e)) false (m * up e) (down e)
own_round m e f = rw (round_own false m e f) (refl, refl)

none_ordered : {x x' : Float} → T (fits binary64 x) → Ordered x x' → T (le (x ⊕ zero') x')
unfolding add sum of_bits clear
none_ordered {x} f (endless c) = le_infinity (x ⊕ zero') (add_clear x zero' c tt)
none_ordered f (finite m m' e e' h) =
    simp (zero-mul, add-zero, mul-one) (le_of_values (round binary64 false (m * up e) (down e)) (fin false m' e') (m * up e) (down e) (m' * up e') (down e') (down_pos e) (down_pos e') (own_round m e f) (refl, refl) h)

pub add_none : (x x' : Float) → T (fits binary64 x) → T (clear x) → T (clear x') → T (le x x') → T (le (x ⊕ zero') x')
add_none x x' f p p' h = none_ordered f (ordered x x' p p' h)

none_above : (x : Float) → T (fits binary64 x) → T (clear x) → T (le x (x ⊕ zero'))
unfolding add sum of_bits clear le lt eq
none_above nan f c = absurd c
none_above (inf true) f c = absurd c
none_above (inf false) f c = tt
none_above (fin true m e) f c = absurd c
none_above (fin false m e) f c =
    simp (zero-mul, add-zero, mul-one) (le_of_values (fin false m e) (round binary64 false (m * up e) (down e)) (m * up e) (down e) (m * up e) (down e) (down_pos e) (down_pos e) (refl, refl) (own_round m e f) (le_refl (m * up e * down e)))

-- a sum is not below what it began with
pub add_above : (x y : Float) → T (fits binary64 x) → T (clear x) → T (clear y) → T (le zero' y) → T (le x (x ⊕ y))
unfolding of_bits clear
add_above x y f p q h =
    le_trans_clear x (x ⊕ zero') (x ⊕ y) p (add_clear x zero' p tt) (add_clear x y p q) (none_above x f p) (add_under x x zero' y p p tt q (le_same x p) h)

-- ---- quotients

quotients_cross : (a b a' b' n d : ℕ) → a * b' ≤ a' * b → a * d * (n * b') ≤ a' * d * (n * b)
quotients_cross a b a' b' n d h = let l = mul-le-mul_right (n * d) h in omega arith

div_ordered : {x x' : Float} (n : ℕ) (d : ℤ) → 0 < n → T (clear x) → Ordered x x' → T (le (x ⊘ fin false n d) (x' ⊘ fin false n d))
unfolding div
div_ordered {x} n d above p (endless c) = le_infinity (x ⊘ fin false n d) (div_clear x (fin false n d) p (lt→ltb 0 n above))
div_ordered n d above p (finite m m' e e' h) =
    rw (ne_eqb n 0 (λ z. omega arith))
    (round_mono binary64 (m * up e * down d) (n * up d * down e) (m' * up e' * down d) (n * up d * down e') (mul-pos (mul-pos above (up_pos d)) (down_pos e)) (mul-pos (mul-pos above (up_pos d)) (down_pos e'))
    (quotients_cross (m * up e) (down e) (m' * up e') (down e') (n * up d) (down d) h))

pub div_under : (x x' y : Float) → T (clear x) → T (clear x') → T (positive y) → T (le x x') → T (le (x ⊘ y) (x' ⊘ y))
div_under x x' nan p p' q h = absurd q
div_under x x' (inf s) p p' q h = absurd q
div_under x x' (fin true n d) p p' q h = absurd q
div_under x x' (fin false n d) p p' q h = div_ordered n d (ltb→lt 0 n q) p (ordered x x' p p' h)

-- ---- the root mean square

pub rms-under : (count : ℕ) → (count ≡ 0 → ⊥) → count ≤ 2 ^ 53 → (x x' : Float) → T (clear x) → T (clear x') → T (le x x')
    → T (le (root_of (x ⊘ of_int binary64 (pos count))) (rms_of count x'))
unfolding rms_of
rms-under zero some few x x' p p' h = absurd (some refl)
rms-under (suc n) some few x x' p p' h =
    let c = of_int binary64 (pos (suc n)) in
    let above = count_positive n few in
    rw (eqb-suc-zero n) (root_monotone (x ⊘ c) (x' ⊘ c) (div-fits binary64 _ _) (div-fits binary64 _ _) (clear-has_root (x ⊘ c) (div_clear x c p above)) (div_under x x' c p p' above h))
