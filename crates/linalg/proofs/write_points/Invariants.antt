-- `linalg::write_points` meets its contract. Assumes nothing.
use Rattle.std.proofs.Common.{◌≡◌}
use Rattle.linalg.proofs.Sides.{written}
use Rattle.linalg.proofs.write_points.Given as goal

abbrev pub invariant-loop-i : goal.invariant-loop-i
invariant-loop-i l = l.lent ≡ written l.change l.points.side l.points.marks.now l.initial.lent l.i
