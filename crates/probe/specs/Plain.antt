-- A model, a mark and a point from plain numbers, and normalising without its matrix.
use Rattle.std.specs.Prelude.{◌≡◌, List, [], ◌∷◌, ℕ, length, Float}
use Rattle.rule.specs.Order.{first_failed, if_passed}
use Rattle.numbers.specs.Constants.{zero'}
use Rattle.flat.specs.Flat.{entry_of}
use Rattle.sheet.specs.Marks.{points}
use Rattle.sheet.specs.declared.marks.Mark.{Mark}
use Rattle.sheet.specs.declared.marks.Point.{Point}
use Rattle.sheet.specs.declared.marks.Side.{Side}
use Rattle.sheet.specs.declared.marks.Side.TheVariants.{Sheet, Pixel}
use Rattle.sheet.specs.declared.model.Model.{Model}
use Rattle.linalg.specs.Normalize.{similarity_of, matrix_of, normalize_tests, normalized_list}
use Rattle.linalg.specs.declared.Row.{Row}
use Rattle.homography.specs.Rows.{rows_tests, rows_list}

abbrev pub model_of : (h0 h1 h2 h3 h4 h5 h6 h7 h8 : Float) → Model
model_of h0 h1 h2 h3 h4 h5 h6 h7 h8 = record { h0 = h0; h1 = h1; h2 = h2; h3 = h3; h4 = h4; h5 = h5; h6 = h6; h7 = h7; h8 = h8 }

abbrev pub mark_of : (x y u v : Float) → Mark
mark_of x y u v = record { x = x; y = y; u = u; v = v }

abbrev pub point_of : (x y : Float) → Point
point_of x y = record { x = x; y = y }

-- what normalising answers, but for the matrix, and leaves in the lent list
pub record Written (l : List Float) (side : Side) (entry : List Float) (refusal : ℕ) (exit : List Float) : Type 0 where
  pub number : refusal ≡ first_failed (normalize_tests l side (length entry))
  pub list : exit ≡ if_passed refusal (normalized_list (similarity_of (points side l)) (points side l) entry) entry

-- the matrix of a refused call
abbrev pub no_row : Row
no_row = record { cells = zero' ∷ zero' ∷ zero' ∷ [] }

abbrev pub no_matrix : List Row
no_matrix = no_row ∷ no_row ∷ no_row ∷ []

-- the entry at a place of a matrix, row by row; a NaN past the last
abbrev pub cell_of : ℕ → List Row → Float
cell_of place rows = entry_of (λ row. row.cells) place rows

-- the same, with the matrix's entry at a place instead of the number
pub record MatrixEntry (l : List Float) (side : Side) (entry : List Float) (place : ℕ) (answer : Float) (exit : List Float) : Type 0 where
  pub list : exit ≡ if_passed (first_failed (normalize_tests l side (length entry))) (normalized_list (similarity_of (points side l)) (points side l) entry) entry
  pub cell : answer ≡ cell_of place (if_passed (first_failed (normalize_tests l side (length entry))) (matrix_of (similarity_of (points side l))) no_matrix)

-- what the rows' entry answers, by its number, and leaves in the lent list
pub record RowsTold (l entry : List Float) (refusal : ℕ) (exit : List Float) : Type 0 where
  pub number : refusal ≡ first_failed (rows_tests l (length entry))
  pub list : exit ≡ if_passed refusal (rows_list (similarity_of (points Sheet l)) (similarity_of (points Pixel l)) l entry) entry
