-- Doubles as whole numbers. Every finite double is a whole multiple of 2 ^ -1074, the least positive one, so what document 01 compares
-- 'over scaled whole numbers' is compared here in units of 2 ^ -1074.
use Rattle.std.specs.Prelude.{ℕ, ◌+◌, ◌-◌, ◌*◌, ◌/◌, ◌^◌, Float}
use Rattle.std.specs.Float.{nan, inf, fin, binary64}
use Rattle.std.specs.Float.Ieee.{up, down, of_bits, to_bits}

-- The magnitude of a double in units of 2 ^ -1074, where the division leaves nothing over. An infinity stands where the next double after the largest would be, at 2 ^ 1024.
unfoldable pub units : Float → ℕ
units nan = 0
units (inf s) = 2 ^ 2098
units (fin s m e) = m * up e * 2 ^ 1074 / down e

-- The neighbours of a positive double, IEEE 754's nextUp and nextDown: the bit patterns of the positive doubles stand in the doubles' order.
unfoldable pub next_up : Float → Float
next_up x = of_bits binary64 (to_bits binary64 x + 1)

unfoldable pub next_down : Float → Float
next_down x = of_bits binary64 (to_bits binary64 x - 1)
