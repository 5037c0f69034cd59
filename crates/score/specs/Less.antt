-- A root mean square, where it is less than another one.
use Rattle.std.specs.Prelude.{cond, Float, Option, Some, None}
use Rattle.std.specs.Float.Ieee.{lt}

unfoldable pub less_of : Float → Float → Option Float
less_of rms best = cond (lt rms best) (Some rms) None
