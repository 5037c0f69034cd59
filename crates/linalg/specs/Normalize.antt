-- Document 01, 'Normalising', of the points of one side: centroid, mean distance, scale, and the matrix of the change.
use Rattle.std.specs.Prelude.{◌≡◌, ℕ, ◌*◌, Bool, ◌||◌, List, [], ◌∷◌, ◌++◌, length, drop, ◌==◌, Result, Float}
use Rattle.std.specs.Float.Ieee.{neg, le}
use Rattle.rule.specs.declared.Refusal.{Refusal}
use Rattle.rule.specs.Refusal.{SPREAD}
use Rattle.rule.specs.Answer.{Answer, answered}
use Rattle.rule.specs.Order.{Test, first_failed, decided, if_passed, room}
use Rattle.rule.specs.Arith.{◌⊖◌, ◌⊗◌, ◌⊘◌}
use Rattle.rule.specs.Lists.{for_each}
use Rattle.root.specs.Root.{root_of}
use Rattle.numbers.specs.Constants.{zero', one, two, epsilon}
use Rattle.estimator.specs.Marks.{marks_tests}
use Rattle.sheet.specs.Marks.{points, point_at, squared_apart}
use Rattle.sheet.specs.declared.marks.Point.{Point}
use Rattle.sheet.specs.declared.marks.Side.{Side}
use Rattle.sheet.specs.Sheets.{sheet}
use Rattle.linalg.specs.Mean.{mean}
use Rattle.linalg.specs.declared.Row.{Row}
use Rattle.linalg.specs.declared.Change.{Change}
use Rattle.linalg.specs.declared.Normalized.{Normalized}

unfoldable pub centroid_of : List Point → Point
centroid_of ps = record { x = mean (λ p. p.x) ps; y = mean (λ p. p.y) ps }

-- the mean of square roots of dx·dx + dy·dy
unfoldable pub mean_distance : Point → List Point → Float
mean_distance centre ps = mean (λ p. root_of (squared_apart p centre)) ps

-- the square of it, by the point's place in a list of marks
unfoldable pub square_at : Point → Side → List Float → ℕ → Float
square_at centre side l i = squared_apart (point_at side l i) centre

-- no points, or a mean distance of at most 2^-52
unfoldable pub no_spread : List Point → Bool
no_spread ps = length ps == 0 || le (mean_distance (centroid_of ps) ps) epsilon

-- The change to normalised coordinates: in the terms of the field, the similarity of Hartley's normalising. scale = root(2) / mean.
-- `flat` is that there is no spread, and then the rest says nothing.
unfoldable pub change_of : List Point → Change
change_of ps =
    let centre = centroid_of ps in
    record { flat = no_spread ps; centre = centre; scale = root_of two ⊘ mean_distance centre ps }

-- the same by the field's name
abbrev pub similarity_of : List Point → Change
similarity_of ps = change_of ps

-- (x−cx)·scale, (y−cy)·scale
unfoldable pub normalized_by : Change → Point → Point
normalized_by c p = record { x = (p.x ⊖ c.centre.x) ⊗ c.scale; y = (p.y ⊖ c.centre.y) ⊗ c.scale }

-- scale, 0, (−scale)·cx; 0, scale, (−scale)·cy; 0, 0, 1
unfoldable pub matrix_of : Change → List Row
matrix_of c =
    record { cells = c.scale ∷ zero' ∷ neg c.scale ⊗ c.centre.x ∷ [] }
    ∷ record { cells = zero' ∷ c.scale ∷ neg c.scale ⊗ c.centre.y ∷ [] }
    ∷ record { cells = zero' ∷ zero' ∷ one ∷ [] }
    ∷ []

-- a normalised point's two places in the lent list
unfoldable pub pair_of : Point → List Float
pair_of p = p.x ∷ p.y ∷ []

-- ---- the entry

-- 12: no spread
unfoldable pub spread : List Point → Test
spread ps = record { fails = no_spread ps; number = SPREAD }

unfoldable pub normalize_tests : List Float → Side → ℕ → List Test
normalize_tests l side places =
    let ps = points side l in
    marks_tests sheet l ++ (spread ps ∷ room (2 * length ps) places ∷ [])

-- the lent list with the normalised points in front
unfoldable pub normalized_list : Change → List Point → List Float → List Float
normalized_list c ps entry = for_each (λ p. pair_of (normalized_by c p)) ps ++ drop (2 * length ps) entry

-- what the call answers, by how many places the lent list has
unfoldable pub normalize_answer : List Float → Side → ℕ → Answer Normalized
normalize_answer l side places = decided (first_failed (normalize_tests l side places)) (record { matrix = matrix_of (similarity_of (points side l)) })

-- What the call answers, and what it leaves in the lent list.
pub record Normalizing (l : List Float) (side : Side) (entry : List Float) (answer : Result Normalized Refusal) (exit : List Float) : Type 0 where
  pub told : answered answer ≡ normalize_answer l side (length entry)
  pub list : exit ≡ if_passed (first_failed (normalize_tests l side (length entry))) (normalized_list (similarity_of (points side l)) (points side l) entry) entry
