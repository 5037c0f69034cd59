-- `linalg::mean_root` meets its contract. Assumes nothing.
use Rattle.std.proofs.Common.{◌≡◌}
use Rattle.root.specs.Root.{root_of}
use Rattle.linalg.proofs.Sums.{sum_by_two}
use Rattle.linalg.proofs.means.mean_root.Given as goal

abbrev pub invariant-loop-i : goal.invariant-loop-i
invariant-loop-i g l = l.sum ≡ sum_by_two root_of (g.S.Squares.square l.squares) l.i
