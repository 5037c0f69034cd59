use Rattle.orders.proofs.Shorter.{of_family}
use Rattle.orders.proofs.theorems.order_7_of_family.Goals as goal

-- The family's laws are all that is asked.
pub returns : goal.returns
returns g c = of_family g.E.Estimator.family g.E.Estimator.WIDTH g.met.E.Estimator.counts g.met.E.Estimator.placed
