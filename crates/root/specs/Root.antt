-- Document 01, 'Root', and refusal 15: the square root of a double, IEEE 754's squareRoot under roundTiesToEven.
-- `root_of` computes it. That it is the root that 01 describes (`IsRoot`), and the only one, is `Correct`, which `sqrt` promises beside its value.
use Rattle.std.specs.Prelude.{Bool, true, false, not, cond, ◌≡◌, ℕ, zero, suc, ◌+◌, ◌-◌, ◌*◌, ◌/◌, ◌%◌, ◌^◌, ◌<◌, T, ltb, Float}
use Rattle.std.specs.Int.Count.{count_leading_zeros}
use Rattle.std.specs.Float.{nan, inf, fin, binary64}
use Rattle.std.specs.Float.Ieee.{of_bits, to_bits, fits, le}
use Rattle.std.specs.Float.Ieee.Positive.{positive}
use Rattle.rule.specs.Refusal.{NUMBER}
use Rattle.rule.specs.Answer.{Answer, refused, gives}
use Rattle.root.specs.Double.{units, next_up, next_down}
use Rattle.root.specs.Digits.{whole_root}

-- ---- what the root of a finite positive double is

-- Twice the midpoints from y to its two neighbours, in units. The neighbours are doubles: where y is a power of two the lower one is at half the
-- spacing of the upper one, and so is its midpoint.
unfoldable pub lower_midpoint : Float → ℕ
lower_midpoint y = units (next_down y) + units y

unfoldable pub upper_midpoint : Float → ℕ
upper_midpoint y = units y + units (next_up y)

-- y is a positive double, and a lies strictly between the squares of the midpoints from y to its two neighbours. With A for a and M for twice a midpoint in units u = 2 ^ -1074,
-- (M / 2 * u) ^ 2 < A * u is M ^ 2 < 4 * (A * 2 ^ 1074).
pub record IsRoot (a y : Float) : Type 0 where
  pub double : T (fits binary64 y)
  pub above_zero : T (positive y)
  pub lower : lower_midpoint y * lower_midpoint y < 4 * (units a * 2 ^ 1074)
  pub upper : 4 * (units a * 2 ^ 1074) < upper_midpoint y * upper_midpoint y

-- y is the root of a, and the only one. The real root of a is strictly between the two midpoints, so the double nearest to it is y and no other: it is never
-- half-way between two doubles, so the rule for ties is never asked, and each of IEEE 754's two roundings to nearest gives this double.
pub record Correct (a y : Float) : Type 0 where
  pub is : IsRoot a y
  pub only : (z : Float) → IsRoot a z → z ≡ y

-- ---- the root of the bit pattern b of a finite positive double, as a bit pattern

-- The double is significand b * 2 ^ exponent b units. A subnormal has no leading digit, and the exponent of the least normal ones.
unfoldable pub significand : ℕ → ℕ
significand b = cond (ltb b (2 ^ 52)) b (2 ^ 52 + b % 2 ^ 52)

unfoldable pub exponent : ℕ → ℕ
exponent b = b / 2 ^ 52 - 1

-- By how many digits the significand is moved up: to 53 digits, and one more where the exponent that is left would be odd.
unfoldable pub shift_of : ℕ → ℕ → ℕ
shift_of m e = let z = count_leading_zeros 64 m - 11 in z + (e + z) % 2

unfoldable pub shift : ℕ → ℕ
shift b = shift_of (significand b) (exponent b)

-- the significand in 53 or 54 digits, and the even exponent that goes with it
unfoldable pub scaled : ℕ → ℕ
scaled b = significand b * 2 ^ shift b

unfoldable pub height : ℕ → ℕ
height b = exponent b + 1022 - shift b

-- Scaled for the root: that significand, and half of that exponent in the place of a double's.
pub record IsScaled (b n place : ℕ) : Type 0 where
  pub digits : n ≡ scaled b
  pub exponent_in_place : place ≡ height b / 2 * 2 ^ 52

-- A whole root of 54 digits, rounded to 53: half of it, upwards. There is no tie, since the number is even, and so never the square of an odd root.
unfoldable pub root_bits : ℕ → ℕ
root_bits b = height b / 2 * 2 ^ 52 + (whole_root (scaled b * 2 ^ 54) + 1) / 2

-- ---- the root of any double

-- a NaN and a negative number have none; -0 is no negative number
unfoldable pub has_root : Float → Bool
has_root nan = false
has_root (inf s) = not s
has_root (fin s zero e) = true
has_root (fin s (suc m) e) = not s

-- of zero the same zero, of infinity infinity, and a NaN where there is no root
unfoldable pub root_of : Float → Float
root_of nan = nan
root_of (inf s) = cond s nan (inf s)
root_of (fin s zero e) = fin s zero e
root_of (fin s (suc m) e) = cond s nan (of_bits binary64 (root_bits (to_bits binary64 (fin s (suc m) e))))

-- Of two doubles that have roots, the root of the one that is not smaller is not smaller. Zeros of both signs and infinity have roots too.
abbrev pub RootMonotone : Type 0
RootMonotone = (a b : Float) → T (fits binary64 a) → T (fits binary64 b) → T (has_root a) → T (le a b) → T (le (root_of a) (root_of b))

-- ---- the entry

unfoldable pub root_answer : Float → Answer Float
root_answer a = cond (has_root a) (gives (root_of a)) (refused NUMBER)
