-- `score::least_sum` meets its contract. Assumes nothing.
use lib.ListN.{take}
use mathlib.Core.List.{map}
use Rattle.root.specs.Root.{root_of}
use Rattle.book.specs.Score.{squares_in}
use Rattle.score.specs.Limits.{Under}
use Rattle.score.proofs.least_sum.Given as goal

abbrev pub invariant-loop-q : goal.invariant-loop-q
invariant-loop-q l = Under l.sum (squares_in l.limits.thresh (map root_of (take l.q-index l.squares)))
