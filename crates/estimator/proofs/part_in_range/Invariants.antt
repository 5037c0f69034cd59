-- `estimator::part_in_range` meets its contract. Assumes nothing.
use Rattle.std.proofs.Common.{◌≡◌, take}
use Rattle.std.specs.List.{list_all}
use Rattle.numbers.specs.Finite.{within}
use Rattle.numbers.specs.Constants.{farthest}
use Rattle.estimator.proofs.part_in_range.Given as goal

abbrev pub invariant-loop-x : goal.invariant-loop-x
invariant-loop-x l = l.all ≡ list_all (within farthest) (take l.x-index l.numbers)
