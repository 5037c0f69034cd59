-- No measured square is negative: whatever numbers it is measured by, it is a NaN or of clear sign. So a state made by hand, whose ratio and camera are used as
-- they are, has squares like any other.
use Rattle.std.specs.Prelude.{◌≡◌, false, T, Float}
use Rattle.std.specs.Float.Ieee.{is_nan}
use Rattle.rule.specs.Arith.{clear}
use Rattle.estimator.specs.Family.{Family, squared_of}

abbrev pub NoneNegative : {E M K : Type 0} → Family E M K → Type 0
NoneNegative {E} {M} {K} f = (e : E) (ratio : Float) (h : M) (m : K) → is_nan (squared_of f e ratio h m) ≡ false → T (clear (squared_of f e ratio h m))
