-- `measure::squared_residuals` meets its contract. Assumes nothing.
use mathlib.Core.Path.{◌≡◌}
use Prim.Native.Nat.{◌+◌, ◌≤◌}
use Rattle.measure.proofs.Squares.{squares_after, beyond_from}
use Rattle.measure.proofs.squared_residuals.Given as goal

abbrev pub invariant-loop-i : goal.invariant-loop-i
invariant-loop-i g l =
    let f = g.E.Estimator.family in
    record {
      stored : l.squares ≡ squares_after f l.e l.ratio l.marks l.h l.initial.squares l.i;
      counted : l.beyond + beyond_from f l.e l.ratio l.marks l.h l.i ≡ beyond_from f l.e l.ratio l.marks l.h 0;
      few : l.beyond ≤ l.i;
    }
