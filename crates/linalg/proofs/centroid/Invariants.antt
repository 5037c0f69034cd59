-- `linalg::centroid` meets its contract. Assumes nothing.
use Rattle.std.proofs.Common.{◌≡◌}
use Rattle.sheet.specs.Marks.{point_at}
use Rattle.linalg.specs.Mean.{sum_of}
use Rattle.linalg.proofs.centroid.Given as goal

abbrev pub invariant-loop-i : goal.invariant-loop-i
invariant-loop-i l =
    let at = point_at l.points.side l.points.marks.now in
    (l.x ≡ sum_of (λ p. p.x) at l.i) × (l.y ≡ sum_of (λ p. p.y) at l.i)
