-- The tests of every list of marks in front of an order's others, as one: where they pass, the others decide; else they do. Assumes nothing.
use mathlib.Core.Path.{◌≡◌}
use mathlib.Core.Bool.{false, cond}
use mathlib.Core.List.{List, ◌++◌}
use borrow.Author.Tests.{ne_eqb}
use lib.Dec.{eqb}
use lib.Ieee.{Float}
use Rattle.rule.specs.Refusal.{number_of}
use Rattle.rule.specs.Order.{Test, first_failed}
use Rattle.rule.specs.declared.Refusal.{Refusal}
use Rattle.rule.proofs.Order.{front, numbered}
use Rattle.rule.proofs.Views.{number_above_0}
use Rattle.estimator.specs.Family.{Family}
use Rattle.estimator.specs.Marks.{shape, point, double, marks_tests}

-- a refusal's number is not 0
pub above_0 : (e : Refusal) → eqb (number_of e) 0 ≡ false
above_0 e = ne_eqb (number_of e) 0 (number_above_0 e)

module _ {E M K : Type 0} (f : Family E M K) (l : List Float) (rest : List Test) where
  pub marks_first : first_failed (marks_tests f l ++ rest) ≡ cond (eqb (first_failed (marks_tests f l)) 0) (first_failed rest) (first_failed (marks_tests f l))
  unfolding numbered marks_tests shape point double
  marks_first = front (marks_tests f l) rest tt
