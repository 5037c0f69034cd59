-- Where the row ratio is 1 every distance is what it was before there was one, NaNs and infinities included. Assumes nothing.
use mathlib.Core.Path.{◌≡◌}
use lib.Ieee.{binary64}
use lib.Ieee.Fits.{sub-fits}
use Rattle.numbers.specs.Constants.{one}
use Rattle.numbers.specs.Ratio.{squared_off}
use Rattle.numbers.proofs.Exact.{times_one}
use Rattle.estimator.specs.Family.{measure_of}
use Rattle.sheet.specs.Marks.{squared_apart}
use Rattle.sheet.specs.Distance.{squared_residual, square_under, plain_measure_of}
use Rattle.sheet.specs.Sheets.{sheet}
use Rattle.sheet.specs.declared.model.Sheet.{Sheet}
use Rattle.sheet.specs.declared.marks.Mark.{Mark}
use Rattle.sheet.specs.declared.marks.Point.{Point}
use Rattle.sheet.specs.declared.model.Model.{Model}

-- the difference is a double, so times 1 it is itself
square-one : (p q : Point) → squared_residual one p q ≡ squared_apart p q
unfolding squared_residual squared_off squared_apart
square-one p q = rw (times_one _ (sub-fits binary64 p.y q.y))

pub measure_one : (e : Sheet) (h : Model) (m : Mark) → measure_of sheet e one h m ≡ plain_measure_of h m
unfolding measure_of plain_measure_of square_under
measure_one e h m = rw (square-one _ _)
