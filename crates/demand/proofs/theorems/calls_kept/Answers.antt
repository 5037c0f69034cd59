-- `demand::theorems::calls_kept` meets its contract. Assumes nothing.
use Rattle.demand.proofs.Listed.{calls_kept as kept}
use Rattle.demand.proofs.theorems.calls_kept.Goals as goal

pub returns : goal.returns
returns g c = kept g.E.Estimator.family g.E.Estimator.WIDTH g.met.E.Estimator.wide g.met.E.Estimator.counts
