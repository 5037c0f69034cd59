-- Document 01, 'Distance', and document 02, orders 2, 3 and 5: the entry that gives the distance of a mark under a candidate, or that the mark is beyond.
use Rattle.std.specs.Prelude.{not, List, ◌∷◌, Option, Some, None, Float}
use Rattle.rule.specs.Refusal.{RECORD}
use Rattle.rule.specs.Answer.{Answer}
use Rattle.rule.specs.Order.{Test, first_failed, decided}
use Rattle.numbers.specs.Finite.{all_finite}
use Rattle.numbers.specs.Measure.{Measure, beyond, distance}
use Rattle.numbers.specs.Ratio.{ratio}
use Rattle.estimator.specs.Family.{Family, measure_of}
use Rattle.estimator.specs.Marks.{point}

-- what the code's distance stands for
abbrev pub measured : Option Float → Measure
measured (Some d) = distance d
measured None = beyond

module _ {E M K : Type 0} (f : Family E M K) where
  -- 1: a number of the candidate is not finite
  unfoldable pub model : M → Test
  model h = record { fails = not (all_finite (f.model_numbers h)); number = RECORD }

  -- 1, 6, 16, and what the family asks of E's value: 17 of a camera
  unfoldable pub distance_tests : E → (ratio : Float) → M → K → List Test
  distance_tests e r h m = model h ∷ point (f.mark_numbers m) ∷ ratio r ∷ f.tests e

  unfoldable pub distance_answer : E → (ratio : Float) → M → K → Answer Measure
  distance_answer e r h m = decided (first_failed (distance_tests e r h m)) (measure_of f e r h m)
