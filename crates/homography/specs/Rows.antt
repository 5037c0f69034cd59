-- Document 01, 'Rows': two rows of nine to each mark, from normalised sheet x, y and pixel u, v.
use Rattle.std.specs.Prelude.{◌≡◌, ◌||◌, List, [], ◌∷◌, ◌++◌, ℕ, ◌*◌, length, drop, Result, Float}
use Rattle.std.specs.Float.Ieee.{neg}
use Rattle.rule.specs.declared.Refusal.{Refusal}
use Rattle.rule.specs.Answer.{refusal_in}
use Rattle.rule.specs.Refusal.{SPREAD, SHEET_LINE, PIXEL_LINE}
use Rattle.rule.specs.Order.{Test, first_failed, if_passed, room}
use Rattle.rule.specs.Arith.{◌⊗◌}
use Rattle.rule.specs.Lists.{for_each, replaced}
use Rattle.numbers.specs.Constants.{zero', one}
use Rattle.estimator.specs.Marks.{run_tests}
use Rattle.sheet.specs.Marks.{marks_of, point_of, points}
use Rattle.sheet.specs.declared.marks.Mark.{Mark}
use Rattle.sheet.specs.declared.marks.Point.{Point}
use Rattle.sheet.specs.declared.marks.Side.TheVariants.{Sheet, Pixel}
use Rattle.sheet.specs.Sheets.{sheet}
use Rattle.linalg.specs.Normalize.{no_spread, similarity_of, normalized_by}
use Rattle.linalg.specs.declared.Change.{Change}
use Rattle.line.specs.Collinear.{collinear}

-- nine places: −x, −y, −1 from place `at` on, 0 in the other three of the first six, then w·x, w·y, w
unfoldable pub row_at : ℕ → Point → Float → List Float
row_at at p w = replaced at (neg p.x ∷ neg p.y ∷ neg one ∷ []) (zero' ∷ zero' ∷ zero' ∷ zero' ∷ zero' ∷ zero' ∷ []) ++ (w ⊗ p.x ∷ w ⊗ p.y ∷ w ∷ [])

-- −x, −y, −1, 0, 0, 0, u·x, u·y, u
unfoldable pub u_row : Point → Float → List Float
u_row p u = neg p.x ∷ neg p.y ∷ neg one ∷ zero' ∷ zero' ∷ zero' ∷ u ⊗ p.x ∷ u ⊗ p.y ∷ u ∷ []

-- 0, 0, 0, −x, −y, −1, v·x, v·y, v
unfoldable pub v_row : Point → Float → List Float
v_row p v = zero' ∷ zero' ∷ zero' ∷ neg p.x ∷ neg p.y ∷ neg one ∷ v ⊗ p.x ∷ v ⊗ p.y ∷ v ∷ []

-- the rows of a mark, by the changes that normalise the two sides
unfoldable pub mark_rows : Change → Change → Mark → List Float
mark_rows sheet pixel m =
    let p = normalized_by sheet (point_of Sheet m) in
    let q = normalized_by pixel (point_of Pixel m) in
    u_row p q.x ++ v_row p q.y

-- the lent list with all rows in front
unfoldable pub rows_list : Change → Change → List Float → List Float → List Float
rows_list sheet pixel l entry = for_each (mark_rows sheet pixel) (marks_of l) ++ drop (18 * length (marks_of l)) entry

-- ---- the entry

-- 13 and 14: a side is collinear
unfoldable pub sheet_line : List Float → Test
sheet_line l = record { fails = collinear (points Sheet l); number = SHEET_LINE }

unfoldable pub pixel_line : List Float → Test
pixel_line l = record { fails = collinear (points Pixel l); number = PIXEL_LINE }

-- 12: a side has no spread
unfoldable pub spreads : List Float → Test
spreads l = record { fails = no_spread (points Sheet l) || no_spread (points Pixel l); number = SPREAD }

unfoldable pub rows_tests : List Float → ℕ → List Test
rows_tests l places =
    run_tests sheet l ++ (sheet_line l ∷ pixel_line l ∷ spreads l ∷ room (18 * length (marks_of l)) places ∷ [])

-- What the call answers, and what it leaves in the lent list.
pub record Rowing (l entry : List Float) (answer : Result (Unit {0}) Refusal) (exit : List Float) : Type 0 where
  pub refusal : refusal_in answer ≡ first_failed (rows_tests l (length entry))
  pub list : exit ≡ if_passed (first_failed (rows_tests l (length entry))) (rows_list (similarity_of (points Sheet l)) (similarity_of (points Pixel l)) l entry) entry
