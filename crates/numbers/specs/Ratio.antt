-- Document 02, order 3: the row ratio of a camera whose rows are finer or coarser than its columns (in the terms of the field, the pixel aspect ratio). Which
-- ratios are accepted, and what a ratio does to a distance, for any family.
use Rattle.std.specs.Prelude.{Bool, not, ◌&&◌, Float}
use Rattle.std.specs.Float.Ieee.{le}
use Rattle.rule.specs.Refusal.{RATIO}
use Rattle.rule.specs.Order.{Test}
use Rattle.rule.specs.Arith.{◌⊕◌, ◌⊗◌}
use Rattle.numbers.specs.Constants.{least_ratio, greatest_ratio}
use Rattle.numbers.specs.Finite.{is_finite}

-- finite, and from 0.01 to 100
unfoldable pub ratio_accepted : Float → Bool
ratio_accepted r = is_finite r && (le least_ratio r && le r greatest_ratio)

-- 16
unfoldable pub ratio : Float → Test
ratio r = record { fails = not (ratio_accepted r); number = RATIO }

-- The square of a distance, by the differences along u and v: that along v is multiplied by the ratio before squaring.
unfoldable pub squared_off : (ratio du dv : Float) → Float
squared_off ratio du dv = du ⊗ du ⊕ (dv ⊗ ratio) ⊗ (dv ⊗ ratio)
