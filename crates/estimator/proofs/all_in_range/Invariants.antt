-- `estimator::all_in_range` meets its contract. Assumes nothing.
use Rattle.std.proofs.Common.{◌≡◌, true, take}
use Rattle.std.specs.List.{list_all}
use Rattle.numbers.specs.Constants.{farthest}
use Rattle.estimator.specs.Marks.{all_within}
use Rattle.estimator.proofs.all_in_range.Given as goal

abbrev pub invariant-loop-part : goal.invariant-loop-part
invariant-loop-part l = list_all (all_within farthest) (take l.part-index l.parts) ≡ true
