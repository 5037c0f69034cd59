-- `records::marks::read_mark` meets its contract. Assumes nothing.
use mathlib.Core.Path.{◌≡◌}
use Rattle.records.proofs.Reading.{mark_after}
use Rattle.records.proofs.marks.read_mark.Given as goal

abbrev pub invariant-loop-i : goal.invariant-loop-i
invariant-loop-i l = l.numbers ≡ mark_after l.bytes l.initial.numbers l.i
