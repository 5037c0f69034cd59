-- `estimator::doubles::alike` meets its contract. Assumes nothing.
use Rattle.std.proofs.Common.{◌≡◌, take}
use Rattle.std.specs.Float.Ieee.{eq}
use Rattle.std.specs.Cmp.Lexicographic.{pointwise}
use Rattle.estimator.proofs.doubles.alike.Given as goal

abbrev pub invariant-loop-k : goal.invariant-loop-k
invariant-loop-k l = l.all ≡ pointwise eq (take l.k l.a) (take l.k l.b)
