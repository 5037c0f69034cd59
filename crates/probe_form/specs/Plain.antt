-- A camera from plain numbers, and normalising and the rows by their numbers.
use Rattle.std.specs.Prelude.{◌≡◌, List, [], ◌∷◌, ℕ, length, Float}
use Rattle.rule.specs.Order.{first_failed, if_passed}
use Rattle.numbers.specs.Constants.{zero'}
use Rattle.flat.specs.Flat.{entry_of}
use Rattle.form.specs.Marks.{points}
use Rattle.form.specs.declared.model.Camera.{Camera}
use Rattle.linalg_3d.specs.Normalize.{similarity_of, matrix_of, normalize_tests, normalized_list}
use Rattle.linalg_3d.specs.declared.Row.{Row}
use Rattle.dlt.specs.Rows.{rows_tests, rows_list}

abbrev pub camera_by : (fx fy cx cy : Float) → Camera
camera_by fx fy cx cy = record { fx = fx; fy = fy; cx = cx; cy = cy }

-- what normalising answers, but for the matrix, and leaves in the lent list
pub record Written (l entry : List Float) (refusal : ℕ) (exit : List Float) : Type 0 where
  pub number : refusal ≡ first_failed (normalize_tests l (length entry))
  pub list : exit ≡ if_passed refusal (normalized_list (similarity_of (points l)) (points l) entry) entry

-- the matrix of a refused call
abbrev pub no_row : Row
no_row = record { cells = zero' ∷ zero' ∷ zero' ∷ zero' ∷ [] }

abbrev pub no_matrix : List Row
no_matrix = no_row ∷ no_row ∷ no_row ∷ no_row ∷ []

-- the entry at a place of a matrix, row by row; a NaN past the last
abbrev pub cell_of : ℕ → List Row → Float
cell_of place rows = entry_of (λ row. row.cells) place rows

-- the same, with the matrix's entry at a place instead of the number
pub record MatrixEntry (l entry : List Float) (place : ℕ) (answer : Float) (exit : List Float) : Type 0 where
  pub list : exit ≡ if_passed (first_failed (normalize_tests l (length entry))) (normalized_list (similarity_of (points l)) (points l) entry) entry
  pub cell : answer ≡ cell_of place (if_passed (first_failed (normalize_tests l (length entry))) (matrix_of (similarity_of (points l))) no_matrix)

-- what the rows' entry answers, by its number, and leaves in the lent list
pub record RowsTold (l entry : List Float) (refusal : ℕ) (exit : List Float) : Type 0 where
  pub number : refusal ≡ first_failed (rows_tests l (length entry))
  pub list : exit ≡ if_passed refusal (rows_list (similarity_of (points l)) l entry) entry
