-- Document 02, order 6: marks of one position and two pixels. The last two numbers of a mark are its pixel, those in front of them its position: x and y on a
-- sheet, x, y and z on a form. Numbers are compared as IEEE 754 compares them, so −0 and 0 are equal.
use Rattle.std.specs.Prelude.{Bool, not, ◌&&◌, List, take, drop, ◌-◌, Float}
use Rattle.std.specs.Float.Ieee.{eq}
use Rattle.std.specs.Cmp.Lexicographic.{pointwise}
use Rattle.rule.specs.Lists.{some}
use Rattle.estimator.specs.Family.{Family}

module _ {E M K : Type 0} (f : Family E M K) where
  unfoldable pub position : K → List Float
  position m = take (f.width - 2) (f.mark_numbers m)

  unfoldable pub pixel : K → List Float
  pixel m = drop (f.width - 2) (f.mark_numbers m)

  -- one position, and two pixels
  unfoldable pub clash : K → K → Bool
  clash a b = pointwise eq (position a) (position b) && not (pointwise eq (pixel a) (pixel b))

  -- two of the marks clash
  unfoldable pub doubled : List K → Bool
  doubled marks = some (λ a. some (clash a) marks) marks
