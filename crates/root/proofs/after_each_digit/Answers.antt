-- `root::after_each_digit` meets its contract. Assumes nothing.
use Rattle.root.proofs.Whole.{after_each_digit}
use Rattle.root.proofs.after_each_digit.Goals as goal

pub returns : goal.returns
returns c = after_each_digit
