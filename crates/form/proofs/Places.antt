-- A list of numbers and its marks: which numbers the mark at a place has, and the points of a list. Assumes nothing.
use mathlib.Core.Path.{◌≡◌, refl, ◌∙◌}
use mathlib.Core.List.{List, [], ◌∷◌}
use Prim.Native.Nat.{ℕ, zero, suc, ◌+◌, ◌*◌, ◌/◌, ◌≤◌, ◌<◌}
use native.Mathlib.Nat.{mul-suc}
use native.Mathlib.Omega.{arith}
use lib.ListN.{length, get_or, length-map}
use lib.Ieee.{Float, nan}
use Rattle.rule.proofs.Lists.{past_end}
use Rattle.form.specs.Marks.{marks_of, mark_at, no_mark, point_of, points}
use Rattle.form.specs.Owed.{counts}
use Rattle.form.specs.declared.marks.Mark.{Mark}

-- the numbers of a list from place p on, as a mark
abbrev pub read_at : List Float → ℕ → Mark
read_at l p =
    record { x = get_or l p nan; y = get_or l (p + 1) nan; z = get_or l (p + 2) nan; u = get_or l (p + 3) nan; v = get_or l (p + 4) nan }

five : (p : ℕ) → p + 5 ≡ suc (suc (suc (suc (suc p))))
five p = omega arith

five_on : (p k : ℕ) → p + 5 + k ≡ suc (suc (suc (suc (suc (p + k)))))
five_on p k = omega arith

later : (x y z u v : Float) (l : List Float) (p : ℕ) → read_at (x ∷ y ∷ z ∷ u ∷ v ∷ l) (p + 5) ≡ read_at l p
later x y z u v l p = rw (five_on p 1, five_on p 2, five_on p 3, five_on p 4, five p)

pub read : (l : List Float) (i : ℕ) → i < length l / 5 → read_at l (5 * i) ≡ mark_at l i
unfolding mark_at marks_of
read [] i h = absurd (omega (arith, h))
read (x ∷ []) i h = absurd (omega (arith, h))
read (x ∷ y ∷ []) i h = absurd (omega (arith, h))
read (x ∷ y ∷ z ∷ []) i h = absurd (omega (arith, h))
read (x ∷ y ∷ z ∷ u ∷ []) i h = absurd (omega (arith, h))
read (x ∷ y ∷ z ∷ u ∷ v ∷ rest) zero h = refl
read (x ∷ y ∷ z ∷ u ∷ v ∷ rest) (suc i) h = rw (mul-suc 5 i) (later x y z u v rest (5 * i) ∙ read rest i (omega (arith, h)))

pub no_mark_lem : (l : List Float) (i : ℕ) → length l / 5 ≤ i → no_mark ≡ mark_at l i
unfolding mark_at
no_mark_lem l i h = past_end (marks_of l) i no_mark (rw (counts l) h)

-- ---- the points

pub points_count : (l : List Float) → length (points l) ≡ length (marks_of l)
unfolding points
points_count l = length-map (marks_of l) point_of

pub points_fifth : (l : List Float) → length (points l) ≡ length l / 5
points_fifth l = points_count l ∙ counts l
