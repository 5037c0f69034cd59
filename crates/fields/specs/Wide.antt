-- How many bytes a number's are: the law of the numbers that files hold.
use Rattle.std.specs.Prelude.{◌≡◌, refl, ℕ, zero, suc, ◌/◌, length, Float}
use Rattle.std.specs.Float.{binary64}
use Rattle.std.specs.Float.Ieee.{to_bits}
use Rattle.std.proofs.Common.{ap}
use Rattle.fields.specs.Fields.{bytes_of, double_bytes}

pub bytes_wide : (w n : ℕ) → length (bytes_of w n) ≡ w
unfolding bytes_of
bytes_wide zero n = refl
bytes_wide (suc w) n = ap suc (bytes_wide w (n / 256))

pub double_wide : (x : Float) → length (double_bytes x) ≡ 8
unfolding double_bytes
double_wide x = bytes_wide 8 (to_bits binary64 x)
