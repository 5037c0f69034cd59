-- `score::limits::Limits::of` meets its contract. Assumes nothing.
use lib.Ieee.{binary64}
use lib.Ieee.Fits.{mul-fits}
use Rattle.score.proofs.Bounds.{low_settles, high_settles}
use Rattle.score.proofs.limits.Limits.of.Goals as goal

pub invariant_of-result-clause-low_settles : goal.invariant_of-result-clause-low_settles
invariant_of-result-clause-low_settles c = low_settles _ _ (mul-fits binary64 _ _) c.sqrt_two-low_root.ensures.0 c.settled.ensures

pub invariant_of-result-clause-high_settles : goal.invariant_of-result-clause-high_settles
invariant_of-result-clause-high_settles c = high_settles _ _ (mul-fits binary64 _ _) c.sqrt_two-low_root.ensures.1 c.settled-2.ensures
