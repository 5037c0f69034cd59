-- The squares of a sheet's marks and of a form's are none of them negative. Assumes nothing.
use Rattle.sheet.specs.Distance as OfSheets
use Rattle.sheet.specs.Sheets.{sheet}
use Rattle.form.specs.Distance as OfForms
use Rattle.form.specs.Forms.{form}
use Rattle.judge.proofs.Signs.{off_clear, not_negative}
use Rattle.demand.specs.Signs.{NoneNegative}

pub sheet_squares : NoneNegative sheet
unfolding OfSheets.square_under OfSheets.squared_residual
sheet_squares e ratio h m = not_negative sheet e ratio h m (off_clear ratio _ _)

pub form_squares : NoneNegative form
unfolding OfForms.square_under OfForms.squared_residual
form_squares camera ratio h m = not_negative form camera ratio h m (off_clear ratio _ _)
