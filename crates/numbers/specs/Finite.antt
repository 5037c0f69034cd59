-- Magnitudes, and what is finite: the leaves that document 01 names `abs`, `is_finite` and `ensure_finite`, and its test of a magnitude.
use Rattle.std.specs.Prelude.{Bool, true, false, ◌&&◌, List, Float}
use Rattle.std.specs.Float.{nan, inf, fin}
use Rattle.std.specs.Float.Ieee.{le}
use Rattle.rule.specs.Lists.{every}

-- the sign cleared, a zero's too
unfoldable pub abs_of : Float → Float
abs_of nan = nan
abs_of (inf s) = inf false
abs_of (fin s m e) = fin false m e

unfoldable pub is_finite : Float → Bool
is_finite nan = false
is_finite (inf s) = false
is_finite (fin s m e) = true

-- every number of the list is finite
unfoldable pub all_finite : List Float → Bool
all_finite l = every is_finite l

-- finite, and of magnitude at most `limit`
unfoldable pub within : Float → Float → Bool
within limit x = is_finite x && le (abs_of x) limit
