-- A float is clear where it is no NaN and its sign is clear. Squares of what is no NaN are, and sums, the division by a count and the root keep it: so the
-- root mean square of any distances within a threshold is no NaN. Assumes nothing.
use mathlib.Core.Path.{◌≡◌, refl}
use mathlib.Core.Bool.{Bool, true, false, ◌||◌, cond}
use mathlib.Core.List.{List, [], ◌∷◌}
use Prim.Native.Nat.{ℕ, zero, suc, ◌+◌, ◌*◌, ◌^◌, ◌≤◌}
use native.Mathlib.Nat.{le_trans, zero-lt-suc}
use native.Mathlib.Omega.{arith}
use borrow.Author.Tests.{ne_eqb}
use lib.Dec.{T, ltb, ltb→lt, lt→ltb, eqb-suc-zero}
use lib.IntN.{pos}
use lib.ListN.{length}
use lib.Ieee.{Float, nan, inf, fin, binary64, up, down, odd, units, round, sum, add, mul, div, lt, eq, le, of_int, of_bits, fits, is_nan}
use lib.Ieee.Fits.{round_is, div-fits}
use lib.Ieee.Back.{round_whole}
use lib.Ieee.Positive.{positive, positive_of_value}
use Rattle.rule.specs.Arith.{◌⊕◌, ◌⊗◌, ◌⊘◌, clear}
use Rattle.rule.specs.Lists.{sum_from, those}
use Rattle.rule.proofs.Tests.{clash}
use Rattle.rule.proofs.Lists.{count_most}
use Rattle.root.specs.Root.{has_root, root_of}
use Rattle.root.proofs.Correct.{root_correct}
use Rattle.numbers.specs.Constants.{zero'}
use Rattle.book.specs.Score.{close, count_in, square, squares_in, rms_of, rms_in, RmsNotNan}

pub clear_not_nan : (x : Float) → T (clear x) → is_nan x ≡ false
unfolding clear is_nan
clear_not_nan nan c = absurd c
clear_not_nan (inf s) c = refl
clear_not_nan (fin s m e) c = refl

pub clear-has_root : (x : Float) → T (clear x) → T (has_root x)
unfolding clear has_root
clear-has_root nan c = absurd c
clear-has_root (inf s) c = c
clear-has_root (fin s zero e) c = tt
clear-has_root (fin s (suc m) e) c = c

clear_positive : (x : Float) → T (positive x) → T (clear x)
unfolding clear
clear_positive nan p = absurd p
clear_positive (inf s) p = absurd p
clear_positive (fin true m e) p = absurd p
clear_positive (fin false m e) p = tt

-- ---- rounding keeps the sign

odd_clear : (d q k l : ℕ) → T (clear (odd d false q k l))
unfolding odd clear
odd_clear d zero k l = tt
odd_clear d (suc q) k l = tt

cond_clear : (b : Bool) (x y : Float) → T (clear x) → T (clear y) → T (clear (cond b x y))
cond_clear true x y p q = p
cond_clear false x y p q = q

units-clear : (q k : ℕ) → T (clear (units binary64 false q k))
unfolding units clear
units-clear q k = cond_clear (ltb (q * 2 ^ k) (2 ^ 2098)) (odd 54 false q k 1074) (inf false) (odd_clear 54 q k 1074) tt

pub round_clear : (num den : ℕ) → T (clear (round binary64 false num den))
round_clear num den = rw (round_is binary64 false num den) (units-clear _ _)

-- ---- a square, a sum and a quotient

-- clear, or a NaN
unfoldable pub tame : Float → Bool
tame x = is_nan x || clear x

clear_tame : (x : Float) → T (clear x) → T (tame x)
unfolding tame is_nan
clear_tame nan c = tt
clear_tame (inf s) c = c
clear_tame (fin s m e) c = c

tame_clear : (x : Float) → T (tame x) → is_nan x ≡ false → T (clear x)
unfolding tame is_nan
tame_clear nan t h = clash refl h
tame_clear (inf s) t h = t
tame_clear (fin s m e) t h = t

pub square-clear : (x : Float) → is_nan x ≡ false → T (clear (x ⊗ x))
unfolding mul is_nan clear
square-clear nan h = clash refl h
square-clear (inf true) h = tt
square-clear (inf false) h = tt
square-clear (fin true m e) h = round_clear (m * up e * (m * up e)) (down e * down e)
square-clear (fin false m e) h = round_clear (m * up e * (m * up e)) (down e * down e)

square_tame : (x : Float) → T (tame (x ⊗ x))
unfolding mul tame is_nan
square_tame nan = tt
square_tame (inf s) = clear_tame (inf s ⊗ inf s) (square-clear (inf s) refl)
square_tame (fin s m e) = clear_tame (fin s m e ⊗ fin s m e) (square-clear (fin s m e) refl)

-- what compares with anything is no NaN
pub compared : (d t : Float) → le d t ≡ true → is_nan d ≡ false
unfolding le lt eq is_nan
compared nan t h = clash h refl
compared (inf s) t h = refl
compared (fin s m e) t h = refl

pub add_clear : (x y : Float) → T (clear x) → T (clear y) → T (clear (x ⊕ y))
unfolding add sum clear
add_clear nan y p q = absurd p
add_clear (inf true) y p q = absurd p
add_clear (inf false) nan p q = absurd q
add_clear (inf false) (inf true) p q = absurd q
add_clear (inf false) (inf false) p q = tt
add_clear (inf false) (fin t n d) p q = tt
add_clear (fin true m e) y p q = absurd p
add_clear (fin false m e) nan p q = absurd q
add_clear (fin false m e) (inf t) p q = q
add_clear (fin false m e) (fin true n d) p q = absurd q
add_clear (fin false m e) (fin false n d) p q = round_clear (m * up e * down d + n * up d * down e) (down e * down d)

add_tame : (x y : Float) → T (tame x) → T (tame y) → T (tame (x ⊕ y))
unfolding add tame is_nan
add_tame nan y p q = tt
add_tame (inf s) nan p q = tt
add_tame (inf s) (inf t) p q = clear_tame (inf s ⊕ inf t) (add_clear (inf s) (inf t) p q)
add_tame (inf s) (fin t n d) p q = clear_tame (inf s ⊕ fin t n d) (add_clear (inf s) (fin t n d) p q)
add_tame (fin s m e) nan p q = tt
add_tame (fin s m e) (inf t) p q = clear_tame (fin s m e ⊕ inf t) (add_clear (fin s m e) (inf t) p q)
add_tame (fin s m e) (fin t n d) p q = clear_tame (fin s m e ⊕ fin t n d) (add_clear (fin s m e) (fin t n d) p q)

-- The sum of two squares, of any floats: no NaN has its sign set.
pub squares_clear : (x y : Float) → is_nan (x ⊗ x ⊕ y ⊗ y) ≡ false → T (clear (x ⊗ x ⊕ y ⊗ y))
squares_clear x y h = tame_clear (x ⊗ x ⊕ y ⊗ y) (add_tame (x ⊗ x) (y ⊗ y) (square_tame x) (square_tame y)) h

pub div_clear : (x y : Float) → T (clear x) → T (positive y) → T (clear (x ⊘ y))
unfolding div clear
div_clear nan y p q = absurd p
div_clear (inf s) nan p q = absurd q
div_clear (inf s) (inf t) p q = absurd q
div_clear (inf s) (fin true n d) p q = absurd q
div_clear (inf true) (fin false n d) p q = absurd p
div_clear (inf false) (fin false n d) p q = tt
div_clear (fin s m e) nan p q = absurd q
div_clear (fin s m e) (inf t) p q = absurd q
div_clear (fin s m e) (fin true n d) p q = absurd q
div_clear (fin true m e) (fin false n d) p q = absurd p
div_clear (fin false m e) (fin false n d) p q = rw (ne_eqb n 0 (λ e. let l = ltb→lt 0 n q in omega arith)) (round_clear (m * up e * down d) (n * up d * down e))

pub root-clear : (x : Float) → T (fits binary64 x) → T (clear x) → T (clear (root_of x))
unfolding clear root_of
root-clear nan f c = absurd c
root-clear (inf true) f c = absurd c
root-clear (inf false) f c = tt
root-clear (fin s zero e) f c = c
root-clear (fin true (suc m) e) f c = absurd c
root-clear (fin false (suc m) e) f c =
    clear_positive (root_of (fin false (suc m) e)) (root_correct (fin false (suc m) e) f (lt→ltb 0 (suc m) (zero-lt-suc m))).is.above_zero

-- ---- the root mean square

pub squares_sum : (thresh sum : Float) (ds : List Float) → T (clear sum) → T (clear (sum_from square sum (those (close thresh) ds)))
unfolding close square
squares_sum thresh sum [] c = c
squares_sum thresh sum (d ∷ ds) c = go (le d thresh) refl (squares_sum thresh sum ds c) (λ p. squares_sum thresh (sum ⊕ d ⊗ d) ds p)
  where
    go : (b : Bool) → le d thresh ≡ b → T (clear (sum_from square sum (those (close thresh) ds)))
        → (T (clear (sum ⊕ d ⊗ d)) → T (clear (sum_from square (sum ⊕ d ⊗ d) (those (close thresh) ds))))
        → T (clear (sum_from square sum (cond b (d ∷ those (close thresh) ds) (those (close thresh) ds))))
    go true h without with = with (add_clear sum (d ⊗ d) c (square-clear d (compared d thresh h)))
    go false h without with = without

pub sum_clear : (thresh : Float) (ds : List Float) → T (clear (squares_in thresh ds))
unfolding squares_in of_bits clear
sum_clear thresh ds = squares_sum thresh zero' ds tt

-- every whole number from 1 up to 2 ^ 53 is a double above zero
pub count_positive : (n : ℕ) → suc n ≤ 2 ^ 53 → T (positive (of_int binary64 (pos (suc n))))
unfolding of_int
count_positive n h = positive_of_value (round binary64 false (suc n) 1) (suc n) 1 (round_whole binary64 false (suc n) h) (zero-lt-suc n)

pub rms_of_lem : (count : ℕ) (squares : Float) → count ≤ 2 ^ 53 → T (clear squares) → T (clear (rms_of count squares))
unfolding rms_of clear of_bits
rms_of_lem zero squares h c = tt
rms_of_lem (suc n) squares h c =
    rw (eqb-suc-zero n) (root-clear (squares ⊘ of_int binary64 (pos (suc n))) (div-fits binary64 _ _) (div_clear squares (of_int binary64 (pos (suc n))) c (count_positive n h)))

pub rms_number : (count : ℕ) (thresh : Float) (ds : List Float) → count ≤ 2 ^ 53 → is_nan (rms_of count (squares_in thresh ds)) ≡ false
rms_number count thresh ds h = clear_not_nan (rms_of count (squares_in thresh ds)) (rms_of_lem count (squares_in thresh ds) h (sum_clear thresh ds))

pub count-within : (thresh : Float) (ds : List Float) → count_in thresh ds ≤ length ds
unfolding count_in
count-within thresh ds = count_most (close thresh) ds

pub rms-clear : (thresh : Float) (ds : List Float) → length ds ≤ 2 ^ 53 → T (clear (rms_in thresh ds))
unfolding rms_in
rms-clear thresh ds h = rms_of_lem (count_in thresh ds) (squares_in thresh ds) (le_trans (count-within thresh ds) h) (sum_clear thresh ds)

pub rms_not_nan : RmsNotNan
rms_not_nan thresh ds h = clear_not_nan (rms_in thresh ds) (rms-clear thresh ds h)
