-- `score::limits::Limits::lower_of` meets its contract. Assumes nothing.
use lib.Ieee.{binary64}
use lib.Ieee.Fits.{mul-fits}
use Rattle.score.proofs.Bounds.{low_settles, no-high}
use Rattle.score.proofs.limits.Limits.lower_of.Goals as goal

pub invariant_of-result-clause-low_settles : goal.invariant_of-result-clause-low_settles
invariant_of-result-clause-low_settles c = low_settles _ _ (mul-fits binary64 _ _) c.sqrt.ensures.value c.settled.ensures

pub invariant_of-result-clause-high_settles : goal.invariant_of-result-clause-high_settles
invariant_of-result-clause-high_settles c = no-high _
