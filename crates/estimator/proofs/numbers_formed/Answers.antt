-- `estimator::numbers_formed` meets its contract. Assumes nothing.
use Rattle.std.proofs.Common.{rules, tests}
use Rattle.std.proofs.lemmas.Iterator.{YieldsList-from_slice}
use Rattle.std.proofs.lemmas.Iterator.Search.{all_from_yields_List}
use Rattle.estimator.specs.Numbers.{doubles_formed}
use Rattle.estimator.proofs.numbers_formed.Goals as goal

pub returns-else-mark : goal.returns-else-mark
unfolding doubles_formed
returns-else-mark c = rw c.if-mark.false (all_from_yields_List _ _ _ _ c.all.ensures.ran (YieldsList-from_slice c.args.numbers.now cc) (λ x b q k. search (rules, tests)))
