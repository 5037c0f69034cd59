-- `records::marks::read_marks` meets its contract. Assumes nothing.
use mathlib.Core.Path.{◌≡◌}
use Rattle.records.proofs.Reading.{marks_read}
use Rattle.records.proofs.marks.read_marks.Given as goal

abbrev pub invariant-loop-i : goal.invariant-loop-i
invariant-loop-i g l = l.numbers ≡ marks_read g.E.Estimator.WIDTH l.bytes l.initial.numbers l.i
