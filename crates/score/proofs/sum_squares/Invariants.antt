-- `score::sum_squares` meets its contract. Assumes nothing.
use mathlib.Core.List.{map}
use mathlib.Core.Path.{◌≡◌}
use lib.ListN.{take}
use Rattle.root.specs.Root.{root_of}
use Rattle.book.specs.Score.{squares_in}
use Rattle.score.specs.Sum.{with_waiting}
use Rattle.score.proofs.sum_squares.Given as goal

abbrev pub invariant-loop-square : goal.invariant-loop-square
invariant-loop-square l = with_waiting l.limits.thresh l.sum.total l.sum.waiting ≡ squares_in l.limits.thresh (map root_of (take l.square-index l.squares))
