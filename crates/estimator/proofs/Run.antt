-- The tests of a run's marks as one: in front of others, and what they say where none of them failed. So who asks them need not know their order. Assumes
-- nothing.
use mathlib.Core.Path.{◌≡◌}
use mathlib.Core.Bool.{false, cond}
use mathlib.Core.List.{List, ◌++◌}
use lib.Dec.{T, eqb}
use lib.Ieee.{Float}
use Rattle.rule.specs.Order.{Test, first_failed}
use Rattle.rule.proofs.Order.{numbered, front, passes, first_passed}
use Rattle.estimator.specs.Family.{Family}
use Rattle.estimator.specs.Marks.{shape, point, double, few, enough_tests, run_tests}

module _ {E M K : Type 0} (f : Family E M K) (l : List Float) where
  pub enough_numbered : T (numbered (enough_tests f l))
  unfolding numbered enough_tests point double few
  enough_numbered = tt

  pub run_numbered : T (numbered (run_tests f l))
  unfolding numbered run_tests enough_tests shape point double few
  run_numbered = tt

  -- in front of others
  pub enough_first : (rest : List Test) → first_failed (enough_tests f l ++ rest) ≡ cond (eqb (first_failed (enough_tests f l)) 0) (first_failed rest) (first_failed (enough_tests f l))
  enough_first rest = front (enough_tests f l) rest enough_numbered

  pub run_first : (rest : List Test) → first_failed (run_tests f l ++ rest) ≡ cond (eqb (first_failed (run_tests f l)) 0) (first_failed rest) (first_failed (run_tests f l))
  run_first rest = front (run_tests f l) rest run_numbered

  -- of marks whose shape was tested
  pub enough_left : (shape f l).fails ≡ false → first_failed (enough_tests f l) ≡ first_failed (run_tests f l)
  unfolding run_tests
  enough_left shaped = passes (shape f l) (enough_tests f l) shaped

  module _ (passed : first_failed (run_tests f l) ≡ 0) where
    shape_first : ((shape f l).fails ≡ false) × (first_failed (enough_tests f l) ≡ 0)
    unfolding run_tests shape
    shape_first = first_passed (shape f l) (enough_tests f l) tt passed

    pub shape_passed : (shape f l).fails ≡ false
    shape_passed = shape_first.0

    pub few_passed : (few f l).fails ≡ false
    unfolding enough_tests point few
    few_passed =
        let a = first_passed (point l) _ tt shape_first.1 in
        let b = first_passed (few f l) _ tt a.1 in
        b.0
