-- Document 02, order 5, the rows of `dlt`: two rows of twelve to each mark, from the normalised x, y and z, and u and v as they stand.
use Rattle.std.specs.Prelude.{◌≡◌, List, [], ◌∷◌, ◌++◌, ℕ, ◌*◌, length, drop, Result, Float}
use Rattle.std.specs.Float.Ieee.{neg}
use Rattle.rule.specs.declared.Refusal.{Refusal}
use Rattle.rule.specs.Answer.{refusal_in}
use Rattle.rule.specs.Order.{Test, first_failed, if_passed, room}
use Rattle.rule.specs.Arith.{◌⊗◌}
use Rattle.rule.specs.Lists.{for_each, replaced}
use Rattle.numbers.specs.Constants.{zero', one}
use Rattle.estimator.specs.Marks.{run_tests}
use Rattle.form.specs.Marks.{marks_of, point_of, pixel_of, points}
use Rattle.form.specs.Forms.{form}
use Rattle.form.specs.declared.marks.Mark.{Mark}
use Rattle.form.specs.declared.marks.Point.{Point}
use Rattle.linalg_3d.specs.Normalize.{similarity_of, normalized_by, spread}
use Rattle.linalg_3d.specs.declared.Change.{Change}

-- twelve places: x, y, z, 1 from place `at` on, 0 in the other four of the first eight, then (−w)·x, (−w)·y, (−w)·z, −w
unfoldable pub row_at : ℕ → Point → Float → List Float
row_at at p w =
    replaced at (p.x ∷ p.y ∷ p.z ∷ one ∷ []) (zero' ∷ zero' ∷ zero' ∷ zero' ∷ zero' ∷ zero' ∷ zero' ∷ zero' ∷ [])
    ++ (neg w ⊗ p.x ∷ neg w ⊗ p.y ∷ neg w ⊗ p.z ∷ neg w ∷ [])

-- x, y, z, 1, 0, 0, 0, 0, (−u)·x, (−u)·y, (−u)·z, −u
unfoldable pub u_row : Point → Float → List Float
u_row p u = p.x ∷ p.y ∷ p.z ∷ one ∷ zero' ∷ zero' ∷ zero' ∷ zero' ∷ neg u ⊗ p.x ∷ neg u ⊗ p.y ∷ neg u ⊗ p.z ∷ neg u ∷ []

-- 0, 0, 0, 0, x, y, z, 1, (−v)·x, (−v)·y, (−v)·z, −v
unfoldable pub v_row : Point → Float → List Float
v_row p v = zero' ∷ zero' ∷ zero' ∷ zero' ∷ p.x ∷ p.y ∷ p.z ∷ one ∷ neg v ⊗ p.x ∷ neg v ⊗ p.y ∷ neg v ⊗ p.z ∷ neg v ∷ []

-- the rows of a mark, by the change that normalises the points
unfoldable pub mark_rows : Change → Mark → List Float
mark_rows c m =
    let p = normalized_by c (point_of m) in
    let q = pixel_of m in
    u_row p q.u ++ v_row p q.v

-- the lent list with all rows in front
unfoldable pub rows_list : Change → List Float → List Float → List Float
rows_list c l entry = for_each (mark_rows c) (marks_of l) ++ drop (24 * length (marks_of l)) entry

-- ---- the entry

unfoldable pub rows_tests : List Float → ℕ → List Test
rows_tests l places = run_tests form l ++ (spread (points l) ∷ room (24 * length (marks_of l)) places ∷ [])

-- What the call answers, and what it leaves in the lent list.
pub record Rowing (l entry : List Float) (answer : Result (Unit {0}) Refusal) (exit : List Float) : Type 0 where
  pub refusal : refusal_in answer ≡ first_failed (rows_tests l (length entry))
  pub list : exit ≡ if_passed (first_failed (rows_tests l (length entry))) (rows_list (similarity_of (points l)) l entry) entry
