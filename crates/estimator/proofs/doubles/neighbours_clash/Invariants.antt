-- `estimator::doubles::neighbours_clash` meets its contract. Assumes nothing.
use Rattle.std.proofs.Common.{◌≡◌}
use Rattle.estimator.specs.Family.{mark_at}
use Rattle.estimator.specs.Double.{clash}
use Rattle.estimator.specs.Ranks.{neighbours}
use Rattle.estimator.proofs.doubles.neighbours_clash.Given as goal

abbrev pub invariant-loop-k : goal.invariant-loop-k
invariant-loop-k g l =
    l.any ≡ neighbours (λ p q. clash g.E.Estimator.family (mark_at g.E.Estimator.family l.marks p) (mark_at g.E.Estimator.family l.marks q)) l.k l.places
