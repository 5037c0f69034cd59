-- A measured square is a NaN or of clear sign wherever the family's squares are: no negative number. So a state made by hand, whose ratio is used as it is, has
-- squares like any other, and its root mean squares are no NaN (`rms_not_nan` is of any distances). Assumes nothing.
use mathlib.Core.Path.{◌≡◌}
use mathlib.Core.Bool.{Bool, true, false, cond}
use lib.Dec.{T}
use lib.Ieee.{Float, is_nan, of_bits}
use Rattle.rule.specs.Arith.{◌⊗◌, clear}
use Rattle.numbers.specs.Constants.{infinity}
use Rattle.numbers.specs.Ratio.{squared_off}
use Rattle.estimator.specs.Family.{Family, squared_of}
use Rattle.book.proofs.Clear.{squares_clear}

-- the square of a distance by two differences and any ratio
pub off_clear : (ratio du dv : Float) → is_nan (squared_off ratio du dv) ≡ false → T (clear (squared_off ratio du dv))
unfolding squared_off
off_clear ratio du dv = squares_clear du (dv ⊗ ratio)

module _ {E M K : Type 0} (f : Family E M K) (e : E) (ratio : Float) (h : M) (m : K) where
  pub not_negative : (is_nan (f.square e ratio h m) ≡ false → T (clear (f.square e ratio h m))) → is_nan (squared_of f e ratio h m) ≡ false → T (clear (squared_of f e ratio h m))
  unfolding squared_of of_bits clear
  not_negative = either (f.beyond_under e h m) (f.square e ratio h m)
    where
      either : (b : Bool) (x : Float) → (is_nan x ≡ false → T (clear x)) → is_nan (cond b infinity x) ≡ false → T (clear (cond b infinity x))
      either true x g n = tt
      either false x g n = g n
