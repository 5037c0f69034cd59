-- The root is monotone: of two doubles that have roots, the root of the one that is not smaller is not smaller. Zeros, infinity and both signs of
-- zero included. Assumes nothing.
use mathlib.Core.Path.{◌≡◌, refl}
use mathlib.Core.Bool.{Bool, true, false, ◌||◌, true≢false}
use mathlib.Core.Logic.{⊎_elim}
use Prim.Native.Nat.{ℕ, zero, suc, ◌+◌, ◌*◌, ◌^◌, ◌≤◌, ◌<◌}
use native.Mathlib.Nat.{le_of_mul-le-mul_right, mul-le-mul_right, zero-lt-suc}
use native.Mathlib.Omega.{arith}
use lib.Dec.{T, ltb, eqb, lt→ltb, ltb→lt, eqb→eq}
use lib.Pow.{pow_pos}
use lib.IntN.{ℤ}
use lib.Ieee.{Float, nan, inf, fin, binary64, up, down, of_bits, to_bits, fits, below, level, le, lt, eq}
use lib.Ieee.Fits.{and_l, and_r}
use lib.Ieee.Order.{le_of_values}
use lib.Ieee.Positive.{positive, values_of_le}
use Rattle.rule.proofs.Tests.{or_left, either}
use Rattle.rule.proofs.Zero.{size_pos, no_size}
use Rattle.root.specs.Root.{root_bits, has_root, root_of, RootMonotone}
use Rattle.root.proofs.Patterns.{value, value_mono}
use Rattle.root.proofs.Bits.{root_bits-root, root_order}
use Rattle.root.proofs.Doubles.{root_positive, read-value}
use Rattle.root.proofs.Correct.{has_value, pattern, on_patterns, root_correct}

-- of two finite positive doubles
monotone_positive : (a b : Float) → T (fits binary64 a) → T (fits binary64 b) → T (positive a) → T (positive b) → T (le a b) → T (le (root_of a) (root_of b))
monotone_positive a b f g p q l =
    let A = pattern a f p in
    let B = pattern b g q in
    let m = to_bits binary64 a in
    let n = to_bits binary64 b in
    let R = on_patterns a m A in
    let S = on_patterns b n B in
    let c : value m * 2 ^ 1074 ≤ value n * 2 ^ 1074 =
    values_of_le a b (value m) (2 ^ 1074) (value n) (2 ^ 1074) p q (has_value A) (has_value B) l in
    let o = root_order (value m) (value n) (root_bits m) (root_bits n) (root_bits-root m A.pos) (root_bits-root n B.pos) (le_of_mul-le-mul_right c (pow_pos 1074)) R.pos in
    rw (root_positive a p, root_positive b q)
    (le_of_values (of_bits binary64 (root_bits m)) (of_bits binary64 (root_bits n)) (value (root_bits m)) (2 ^ 1074) (value (root_bits n)) (2 ^ 1074) (pow_pos 1074) (pow_pos 1074) (read-value (root_bits m) R.finite) (read-value (root_bits n) S.finite)
    (mul-le-mul_right (2 ^ 1074) (value_mono o)))

-- how zeros and signs stand to one another: a and b are magnitudes, no number below zero is at least one that is not, and nothing above zero is at most a zero
below_zero : (s : Bool) (a b : ℕ) → a ≡ 0 → 0 < b → T (below s a true b || level s a true b) → ⊥
below_zero true a b z p t =
    ⊎_elim (λ h. let l = ltb→lt b a h in omega arith) (λ h. let e = eqb→eq a b (and_l (eqb a b) (true || eqb a 0) h) in omega arith) (either (ltb b a) (level true a true b) t)
below_zero false a b z p t = let e = eqb→eq a b (and_l (eqb a b) (false || eqb a 0) t) in omega arith

above_zero' : (t : Bool) (a b : ℕ) → 0 < a → (t ≡ false → b ≡ 0) → T (below false a t b || level false a t b) → ⊥
above_zero' true a b p z h = let e = eqb→eq a 0 (and_r (eqb a b) (eqb a 0) h) in omega arith
above_zero' false a b p z h =
    let o : b ≡ 0 = z refl in
    ⊎_elim (λ g. let l = ltb→lt a b g in omega arith) (λ g. let e = eqb→eq a b (and_l (eqb a b) (true || eqb a 0) g) in omega arith) (either (ltb a b) (level false a false b) h)

zero_below : (s : Bool) (e : ℤ) (y : Float) → T (positive y) → T (le (fin s zero e) y)
unfolding le lt
zero_below s e nan p = absurd p
zero_below s e (inf t) p = absurd p
zero_below s e (fin true n d) p = absurd p
zero_below s e (fin false zero d) p = absurd p
zero_below true e (fin false (suc n) d) p =
    let a = size_pos n d e in
    or_left (ltb 0 (0 * up e * down d + suc n * up d * down e)) _ (lt→ltb 0 (0 * up e * down d + suc n * up d * down e) (omega arith))
zero_below false e (fin false (suc n) d) p =
    let a = size_pos n d e in
    let z = no_size e d in
    or_left (ltb (0 * up e * down d) (suc n * up d * down e)) _ (lt→ltb (0 * up e * down d) (suc n * up d * down e) (omega arith))

infinity_above : (y : Float) → T (positive y) → T (le y (inf false))
unfolding le lt
infinity_above nan p = absurd p
infinity_above (inf s) p = absurd p
infinity_above (fin s m e) p = tt

is_pos : (m : ℕ) → T (ltb 0 (suc m))
is_pos m = lt→ltb 0 (suc m) (zero-lt-suc m)

pub root_monotone : RootMonotone
unfolding has_root root_of le lt eq
root_monotone nan b f g h l = absurd h
root_monotone (inf true) b f g h l = absurd h
root_monotone (inf false) nan f g h l = l
root_monotone (inf false) (inf true) f g h l = absurd l
root_monotone (inf false) (inf false) f g h l = l
root_monotone (inf false) (fin t n d) f g h l = absurd l
root_monotone (fin true (suc m) e) b f g h l = absurd h
root_monotone (fin s zero e) nan f g h l = l
root_monotone (fin s zero e) (inf true) f g h l = absurd l
root_monotone (fin s zero e) (inf false) f g h l = tt
root_monotone (fin s zero e) (fin t zero d) f g h l = l
root_monotone (fin s zero e) (fin false (suc n) d) f g h l = zero_below s e (root_of (fin false (suc n) d)) (root_correct (fin false (suc n) d) g (is_pos n)).is.above_zero
root_monotone (fin s zero e) (fin true (suc n) d) f g h l = absurd (below_zero s (0 * up e * down d) (suc n * up d * down e) (no_size e d) (size_pos n d e) l)
root_monotone (fin false (suc m) e) nan f g h l = absurd l
root_monotone (fin false (suc m) e) (inf true) f g h l = absurd l
root_monotone (fin false (suc m) e) (inf false) f g h l = infinity_above (root_of (fin false (suc m) e)) (root_correct (fin false (suc m) e) f (is_pos m)).is.above_zero
root_monotone (fin false (suc m) e) (fin t zero d) f g h l = absurd (above_zero' t (suc m * up e * down d) (0 * up d * down e) (size_pos m e d) (λ k. no_size d e) l)
root_monotone (fin false (suc m) e) (fin true (suc n) d) f g h l = absurd (above_zero' true (suc m * up e * down d) (suc n * up d * down e) (size_pos m e d) (λ k. absurd (true≢false k)) l)
root_monotone (fin false (suc m) e) (fin false (suc n) d) f g h l = monotone_positive (fin false (suc m) e) (fin false (suc n) d) f g (is_pos m) (is_pos n) l
