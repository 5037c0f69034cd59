-- `score::count_inliers` meets its contract. Assumes nothing.
use mathlib.Core.Path.{◌≡◌}
use lib.ListN.{take}
use Rattle.std.specs.List.{count_by}
use Rattle.score.specs.Limits.{surely, possibly}
use Rattle.score.proofs.count_inliers.Given as goal

abbrev pub invariant-loop-q : goal.invariant-loop-q
invariant-loop-q l =
    (l.sure ≡ count_by (surely l.limits.low) (take l.q-index l.squares))
    × (l.possible ≡ count_by (possibly l.limits.high) (take l.q-index l.squares))
