-- A family of marks and candidates: what the picker has to be told of it, and the distances of a list of marks by it (document 01, 'Distance' and 'Trials', and
-- document 02, orders 2, 3 and 5). Nothing else of the picker knows a mark, a candidate or a distance.
use Rattle.std.specs.Prelude.{Bool, cond, List, map, ℕ, get_or, Option, Some, None, Float}
use Rattle.std.specs.Float.Ieee.{le}
use Rattle.rule.specs.Lists.{count_of}
use Rattle.rule.specs.Order.{Test}
use Rattle.root.specs.Root.{root_of}
use Rattle.numbers.specs.Constants.{infinity}
use Rattle.numbers.specs.Measure.{Measure, beyond, distance, as_distance}

-- By E's values marks are measured (a camera, say; for sheets there is only one). M is a candidate and K a mark; in the terms of the field, a model and a datum.
pub record Family (E M K : Type 0) : Type 0 where
  -- numbers a mark, the fewest marks of a run (the sample size), and numbers a candidate
  pub width : ℕ
  pub least : ℕ
  pub size : ℕ
  -- the marks of a list of numbers, the mark that stands for none, and the candidate of a list of numbers
  pub marks_of : List Float → List K
  pub no_mark : K
  pub model_of : List Float → M
  -- and the numbers of each
  pub mark_numbers : K → List Float
  pub model_numbers : M → List Float
  -- whether a mark is beyond under a candidate; and else the square of its distance, by the row ratio
  pub beyond_under : E → M → K → Bool
  pub square : E → (ratio : Float) → M → K → Float
  -- what an opening and a distance ask of E's value
  pub tests : E → List Test

module _ {E M K : Type 0} (f : Family E M K) where
  -- the mark at a place
  unfoldable pub mark_at : List Float → ℕ → K
  mark_at l i = get_or (f.marks_of l) i f.no_mark

  -- Beyond, or else the root of that square; where the square is a NaN, so is the distance.
  unfoldable pub measure_of : E → (ratio : Float) → M → K → Measure
  measure_of e ratio h m = cond (f.beyond_under e h m) beyond (distance (root_of (f.square e ratio h m)))

  -- 01's distance: infinite where the mark is beyond
  unfoldable pub distance_of : E → (ratio : Float) → M → K → Float
  distance_of e ratio h m = as_distance (measure_of e ratio h m)

  -- The mark lies within the threshold under the candidate: in the terms of the field, it is an inlier. A NaN is not within it.
  unfoldable pub inlier : E → (ratio : Float) → M → (thresh : Float) → K → Bool
  inlier e ratio h thresh m = le (distance_of e ratio h m) thresh

  -- the square that the distance is the root of
  unfoldable pub squared_of : E → (ratio : Float) → M → K → Float
  squared_of e ratio h m = cond (f.beyond_under e h m) infinity (f.square e ratio h m)

  -- that square, and none where the mark is beyond
  unfoldable pub squared_distance_of : E → (ratio : Float) → M → K → Option Float
  squared_distance_of e ratio h m = cond (f.beyond_under e h m) None (Some (f.square e ratio h m))

  -- ---- of a list of marks

  unfoldable pub distances_of : E → (ratio : Float) → List Float → M → List Float
  distances_of e ratio l h = map (distance_of e ratio h) (f.marks_of l)

  unfoldable pub squares_of : E → (ratio : Float) → List Float → M → List Float
  squares_of e ratio l h = map (squared_of e ratio h) (f.marks_of l)

  unfoldable pub beyond_of : E → List Float → M → ℕ
  beyond_of e l h = count_of (f.beyond_under e h) (f.marks_of l)
