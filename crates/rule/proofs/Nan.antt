-- Before a double's bits are taken, or a double made of bits, a program asks that it is no NaN. These are the two tests, and what stands where
-- they fail. Assumes nothing.
use mathlib.Core.Path.{◌≡◌, refl, sym, ◌∙◌}
use mathlib.Core.Bool.{true, not}
use Prim.Native.Nat.{ℕ, ◌*◌, ◌%◌, ◌^◌, ◌≤◌, ◌<◌}
use borrow.Author.Tests.{lt-ltb}
use lib.Dec.{T}
use lib.Arith.{le→nltb}
use lib.Ieee.{Float, nan, inf, fin, binary64, nan_bits, is_nan, of_bits}
use lib.Ieee.Bits.{nan_bits_is, nan_bits_above}
use Rattle.rule.proofs.Tests.{clash}

-- without its sign the pattern is at most infinity's
pub no_nan_bits : (n : ℕ) → n % 2 ^ 63 ≤ 2047 * 2 ^ 52 → T (not (nan_bits binary64 n))
no_nan_bits n h = rw (nan_bits_above binary64 n) (le→nltb (2047 * 2 ^ 52) (n % 2 ^ 63) h)

-- ---- the NaN

is_nan_lem : (x : Float) → is_nan x ≡ true → nan ≡ x
unfolding is_nan
is_nan_lem nan h = refl
is_nan_lem (inf s) h = clash h refl
is_nan_lem (fin s m e) h = clash h refl

pub nan_bits_lem : (n : ℕ) → 2047 * 2 ^ 52 < n % 2 ^ 63 → nan ≡ of_bits binary64 n
nan_bits_lem n h = is_nan_lem (of_bits binary64 n) (sym (nan_bits_is binary64 n) ∙ nan_bits_above binary64 n ∙ lt-ltb (2047 * 2 ^ 52) (n % 2 ^ 63) h)
