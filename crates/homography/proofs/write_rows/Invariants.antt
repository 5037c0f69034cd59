-- `homography::write_rows` meets its contract. Assumes nothing.
use mathlib.Core.Path.{◌≡◌}
use Rattle.homography.proofs.Writing.{written}
use Rattle.homography.proofs.write_rows.Given as goal

abbrev pub invariant-loop-i : goal.invariant-loop-i
invariant-loop-i l = l.rows ≡ written l.sheet l.pixel l.marks l.initial.rows l.i
