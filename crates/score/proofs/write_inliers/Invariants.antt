-- `score::write_inliers` meets its contract. Assumes nothing.
use mathlib.Core.Path.{◌≡◌}
use Rattle.score.proofs.Walk.{places, left}
use Rattle.score.proofs.write_inliers.Given as goal

abbrev pub invariant-loop-i : goal.invariant-loop-i
invariant-loop-i l = (l.count ≡ places l.thresh l.squares l.initial.indices l.i) × (l.indices ≡ left l.thresh l.squares l.initial.indices l.i)
