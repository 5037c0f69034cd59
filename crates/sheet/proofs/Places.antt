-- A list of numbers and its marks: which numbers the mark at a place has, and the points of a side. Assumes nothing.
use mathlib.Core.Path.{◌≡◌, refl, ◌∙◌}
use mathlib.Core.List.{List, [], ◌∷◌}
use Prim.Native.Nat.{ℕ, zero, suc, ◌+◌, ◌*◌, ◌/◌, ◌≤◌, ◌<◌}
use native.Mathlib.Nat.{mul-suc}
use native.Mathlib.Omega.{arith}
use lib.ListN.{length, get_or, length-map, get_or-map}
use lib.Ieee.{Float, nan}
use Rattle.rule.proofs.Lists.{past_end}
use Rattle.sheet.specs.Marks.{marks_of, mark_at, no_mark, point_of, points, point_at}
use Rattle.sheet.specs.Owed.{counts}
use Rattle.sheet.specs.declared.marks.Mark.{Mark}
use Rattle.sheet.specs.declared.marks.Point.{Point}
use Rattle.sheet.specs.declared.marks.Side.{Side}

-- the numbers of a list from place p on, as a mark
abbrev pub read_at : List Float → ℕ → Mark
read_at l p = record { x = get_or l p nan; y = get_or l (p + 1) nan; u = get_or l (p + 2) nan; v = get_or l (p + 3) nan }

four : (p : ℕ) → p + 4 ≡ suc (suc (suc (suc p)))
four p = omega arith

four_on : (p k : ℕ) → p + 4 + k ≡ suc (suc (suc (suc (p + k))))
four_on p k = omega arith

later : (x y u v : Float) (l : List Float) (p : ℕ) → read_at (x ∷ y ∷ u ∷ v ∷ l) (p + 4) ≡ read_at l p
later x y u v l p = rw (four_on p 1, four_on p 2, four_on p 3, four p)

pub read : (l : List Float) (i : ℕ) → i < length l / 4 → read_at l (4 * i) ≡ mark_at l i
unfolding mark_at marks_of
read [] i h = absurd (omega (arith, h))
read (x ∷ []) i h = absurd (omega (arith, h))
read (x ∷ y ∷ []) i h = absurd (omega (arith, h))
read (x ∷ y ∷ u ∷ []) i h = absurd (omega (arith, h))
read (x ∷ y ∷ u ∷ v ∷ rest) zero h = refl
read (x ∷ y ∷ u ∷ v ∷ rest) (suc i) h = rw (mul-suc 4 i) (later x y u v rest (4 * i) ∙ read rest i (omega (arith, h)))

pub no_mark_lem : (l : List Float) (i : ℕ) → length l / 4 ≤ i → no_mark ≡ mark_at l i
unfolding mark_at
no_mark_lem l i h = past_end (marks_of l) i no_mark (rw (counts l) h)

-- ---- the points of a side

pub points_count : (side : Side) (l : List Float) → length (points side l) ≡ length (marks_of l)
unfolding points
points_count side l = length-map (marks_of l) (point_of side)

pub points_quarter : (side : Side) (l : List Float) → length (points side l) ≡ length l / 4
points_quarter side l = points_count side l ∙ counts l

abbrev pub no_point : Side → Point
no_point side = point_of side no_mark

pub point-read : (side : Side) (l : List Float) (i : ℕ) → get_or (points side l) i (no_point side) ≡ point_at side l i
unfolding points point_at mark_at
point-read side l i = get_or-map (point_of side) (marks_of l) i no_mark
