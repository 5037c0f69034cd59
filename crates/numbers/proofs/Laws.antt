-- What the standard library says of a double's sign and of what is finite, in the words of specs/Finite.antt. Assumes nothing.
use mathlib.Core.Path.{◌≡◌, refl}
use lib.Ieee.{Float, nan, inf, fin, binary64, of_bits, lt}
use Rattle.std.specs.Float.{float_with_sign, float_is_finite}
use mathlib.Core.Bool.{false}
use Rattle.numbers.specs.Finite.{abs_of, is_finite}

pub sign_cleared : (x : Float) → float_with_sign false x ≡ abs_of x
unfolding float_with_sign abs_of
sign_cleared nan = refl
sign_cleared (inf s) = refl
sign_cleared (fin s m e) = refl

pub finite : (x : Float) → float_is_finite x ≡ is_finite x
unfolding float_is_finite is_finite
finite nan = refl
finite (inf s) = refl
finite (fin s m e) = refl

pub finite_below : (x : Float) → lt (abs_of x) (of_bits binary64 0x7ff0_0000_0000_0000) ≡ is_finite x
unfolding abs_of is_finite lt of_bits
finite_below nan = refl
finite_below (inf s) = refl
finite_below (fin s m e) = refl
