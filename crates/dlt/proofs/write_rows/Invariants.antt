-- `dlt::write_rows` meets its contract. Assumes nothing.
use mathlib.Core.Path.{◌≡◌}
use Rattle.dlt.proofs.Writing.{written}
use Rattle.dlt.proofs.write_rows.Given as goal

abbrev pub invariant-loop-i : goal.invariant-loop-i
invariant-loop-i l = l.rows ≡ written l.change l.marks l.initial.rows l.i
