-- Document 01, 'Marks' and 'Refusals', and document 02, orders 5, 6 and 7: the tests that every entry makes of a list of marks, by the family's numbers a mark
-- and fewest marks.
use Rattle.std.specs.Prelude.{Bool, not, ◌||◌, List, [], ◌∷◌, ℕ, suc, ◌%◌, ltb, eqb, length, Float}
use Rattle.rule.specs.Refusal.{SHAPE, POINT, FEW, STOPS, DOUBLE}
use Rattle.rule.specs.Order.{Test}
use Rattle.rule.specs.Lists.{every}
use Rattle.numbers.specs.Constants.{farthest}
use Rattle.numbers.specs.Finite.{within}
use Rattle.estimator.specs.Family.{Family}
use Rattle.estimator.specs.Double.{doubled}

-- every number finite and of magnitude at most the limit
unfoldable pub all_within : Float → List Float → Bool
all_within limit l = every (within limit) l

-- 6: any number not finite, or of magnitude above 1e9
unfoldable pub point : List Float → Test
point l = record { fails = not (all_within farthest l); number = POINT }

module _ {E M K : Type 0} (f : Family E M K) where
  -- 5: not a whole number of marks, or over 8,000 numbers
  unfoldable pub shape : List Float → Test
  shape l = record { fails = not (eqb (length l % f.width) 0) || ltb 8000 (length l); number = SHAPE }

  -- 5: n not the run's
  unfoldable pub of_run : ℕ → List Float → Test
  of_run n l = record { fails = not (eqb (length (f.marks_of l)) n); number = SHAPE }

  -- 7: under 4 marks of a sheet, or 6 of a form
  unfoldable pub few : List Float → Test
  few l = record { fails = ltb (length (f.marks_of l)) f.least; number = FEW }

  -- 8: not n + 1 entries
  unfoldable pub entries : List Float → List ℕ → Test
  entries l stops = record { fails = not (eqb (length stops) (suc (length (f.marks_of l)))); number = STOPS }

  -- 18: two of the marks have one position and two pixels
  unfoldable pub double : List Float → Test
  double l = record { fails = doubled f (f.marks_of l); number = DOUBLE }

  -- the one that takes no walk over the numbers
  unfoldable pub shape_tests : List Float → List Test
  shape_tests l = shape l ∷ []

  -- what every entry asks of its marks first
  unfoldable pub marks_tests : List Float → List Test
  marks_tests l = shape l ∷ point l ∷ double l ∷ []

  -- what is asked of the marks of a run whose shape was tested
  unfoldable pub enough_tests : List Float → List Test
  enough_tests l = point l ∷ few l ∷ double l ∷ []

  -- and all that is asked of the marks of a run
  unfoldable pub run_tests : List Float → List Test
  run_tests l = shape l ∷ enough_tests l
