-- `linalg_3d::write_points` meets its contract. Assumes nothing.
use Rattle.std.proofs.Common.{◌≡◌}
use Rattle.linalg_3d.proofs.Points.{written}
use Rattle.linalg_3d.proofs.write_points.Given as goal

abbrev pub invariant-loop-i : goal.invariant-loop-i
invariant-loop-i l = l.lent ≡ written l.change l.points.marks.now l.initial.lent l.i
