-- Document 02, order 5, `normalize_points_3d`, of the points of a standing form: centroid, mean distance, scale, and the matrix of the change.
use Rattle.std.specs.Prelude.{◌≡◌, ℕ, ◌*◌, Bool, ◌||◌, cond, List, [], ◌∷◌, ◌++◌, length, drop, ◌==◌, Option, Some, None, Result, Float}
use Rattle.std.specs.Float.Ieee.{neg, le}
use Rattle.rule.specs.declared.Refusal.{Refusal}
use Rattle.rule.specs.Refusal.{SPREAD}
use Rattle.rule.specs.Answer.{Answer, answered}
use Rattle.rule.specs.Order.{Test, first_failed, decided, if_passed, room}
use Rattle.rule.specs.Arith.{◌⊕◌, ◌⊖◌, ◌⊗◌, ◌⊘◌}
use Rattle.rule.specs.Lists.{for_each}
use Rattle.root.specs.Root.{root_of}
use Rattle.numbers.specs.Constants.{zero', one, three, epsilon}
use Rattle.estimator.specs.Marks.{marks_tests}
use Rattle.form.specs.Marks.{points, point_at}
use Rattle.form.specs.Forms.{form}
use Rattle.form.specs.declared.marks.Point.{Point}
use Rattle.linalg.specs.Mean.{mean}
use Rattle.linalg_3d.specs.declared.Row.{Row}
use Rattle.linalg_3d.specs.declared.Change.{Change}
use Rattle.linalg_3d.specs.declared.Normalized.{Normalized}

unfoldable pub centroid_of : List Point → Point
centroid_of ps = record { x = mean (λ p. p.x) ps; y = mean (λ p. p.y) ps; z = mean (λ p. p.z) ps }

-- the square of the distance of two points
unfoldable pub squared_apart : Point → Point → Float
squared_apart p q =
    let dx = p.x ⊖ q.x in
    let dy = p.y ⊖ q.y in
    let dz = p.z ⊖ q.z in
    dx ⊗ dx ⊕ dy ⊗ dy ⊕ dz ⊗ dz

-- the mean of square roots of dx·dx + dy·dy + dz·dz
unfoldable pub mean_distance : Point → List Point → Float
mean_distance centre ps = mean (λ p. root_of (squared_apart p centre)) ps

-- the square of it, by the point's place in a list of marks
unfoldable pub square_at : Point → List Float → ℕ → Float
square_at centre l i = squared_apart (point_at l i) centre

-- no points, or a mean distance of at most 2^-52
unfoldable pub no_spread : List Point → Bool
no_spread ps = length ps == 0 || le (mean_distance (centroid_of ps) ps) epsilon

-- The change to normalised coordinates: scale = root(3) / mean. It says nothing where there is no spread.
unfoldable pub similarity_of : List Point → Change
similarity_of ps =
    let centre = centroid_of ps in
    record { centre = centre; scale = root_of three ⊘ mean_distance centre ps }

-- that change, unless there is no spread
unfoldable pub change_of : List Point → Option Change
change_of ps = cond (no_spread ps) None (Some (similarity_of ps))

-- (x−cx)·scale, (y−cy)·scale, (z−cz)·scale
unfoldable pub normalized_by : Change → Point → Point
normalized_by c p =
    record { x = (p.x ⊖ c.centre.x) ⊗ c.scale; y = (p.y ⊖ c.centre.y) ⊗ c.scale; z = (p.z ⊖ c.centre.z) ⊗ c.scale }

-- scale, 0, 0, (−scale)·cx; 0, scale, 0, (−scale)·cy; 0, 0, scale, (−scale)·cz; 0, 0, 0, 1
unfoldable pub matrix_of : Change → List Row
matrix_of c =
    record { cells = c.scale ∷ zero' ∷ zero' ∷ neg c.scale ⊗ c.centre.x ∷ [] }
    ∷ record { cells = zero' ∷ c.scale ∷ zero' ∷ neg c.scale ⊗ c.centre.y ∷ [] }
    ∷ record { cells = zero' ∷ zero' ∷ c.scale ∷ neg c.scale ⊗ c.centre.z ∷ [] }
    ∷ record { cells = zero' ∷ zero' ∷ zero' ∷ one ∷ [] }
    ∷ []

-- a normalised point's three places in the lent list
unfoldable pub triple_of : Point → List Float
triple_of p = p.x ∷ p.y ∷ p.z ∷ []

-- ---- the entry

-- 12: no spread
unfoldable pub spread : List Point → Test
spread ps = record { fails = no_spread ps; number = SPREAD }

unfoldable pub normalize_tests : List Float → ℕ → List Test
normalize_tests l places =
    let ps = points l in
    marks_tests form l ++ (spread ps ∷ room (3 * length ps) places ∷ [])

-- the lent list with the normalised points in front
unfoldable pub normalized_list : Change → List Point → List Float → List Float
normalized_list c ps entry = for_each (λ p. triple_of (normalized_by c p)) ps ++ drop (3 * length ps) entry

-- what the call answers, by how many places the lent list has
unfoldable pub normalize_answer : List Float → ℕ → Answer Normalized
normalize_answer l places = decided (first_failed (normalize_tests l places)) (record { matrix = matrix_of (similarity_of (points l)) })

-- What the call answers, and what it leaves in the lent list.
pub record Normalizing (l entry : List Float) (answer : Result Normalized Refusal) (exit : List Float) : Type 0 where
  pub told : answered answer ≡ normalize_answer l (length entry)
  pub list : exit ≡ if_passed (first_failed (normalize_tests l (length entry))) (normalized_list (similarity_of (points l)) (points l) entry) entry
