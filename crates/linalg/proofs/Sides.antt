-- The points of one side: their means, and what is written for them. Assumes nothing.
use Rattle.std.proofs.Common.{◌≡◌, ℕ, ◌+◌, ◌*◌, ◌<◌, ◌≤◌, List, length, set, refl, sym, ◌∙◌, add-one, arith}
use lib.Ieee.{Float}
use Rattle.root.specs.Root.{root_of}
use Rattle.sheet.specs.Marks.{points, point_at, squared_apart}
use Rattle.sheet.specs.declared.marks.Point.{Point}
use Rattle.sheet.specs.declared.marks.Side.{Side}
use Rattle.sheet.proofs.Places.{no_point, point-read}
use Rattle.linalg.specs.Mean.{mean, sum_of, mean_of}
use Rattle.linalg.specs.Normalize.{mean_distance, square_at, normalized_by, pair_of, normalized_list}
use Rattle.linalg.specs.declared.Change.{Change}
use Rattle.linalg.proofs.Sums.{mean_by_place}
use Rattle.linalg.proofs.Writing as Writing

module _ (side : Side) (l : List Float) where
  pub mean_is : (term : Point → Float) → mean term (points side l) ≡ mean_of term (point_at side l) (length (points side l))
  mean_is term = mean_by_place term (point_at side l) (points side l) (no_point side) (point-read side l)

  pub distance_is : (centre : Point) → mean_distance centre (points side l) ≡ mean_of root_of (square_at centre side l) (length (points side l))
  unfolding mean_distance mean_of sum_of square_at
  distance_is centre = mean_is (λ p. root_of (squared_apart p centre))

-- ---- two places in the lent list for each

abbrev pair : Change → Point → List Float
pair c p = pair_of (normalized_by c p)

pair_wide : (c : Change) (p : Point) → length (pair c p) ≡ 2
unfolding pair_of
pair_wide c p = refl

-- the lent list after the first i points
abbrev pub written : Change → Side → List Float → List Float → ℕ → List Float
written change side l entry i = Writing.written (pair change) 2 (points side l) entry i

module _ (change : Change) (side : Side) (l entry : List Float) where
  pub written_none : written change side l entry 0 ≡ entry
  written_none = Writing.written_none (pair change) 2 (points side l) entry (pair_wide change)

  pub written_more : (i : ℕ) → i < length (points side l) → 2 * length (points side l) ≤ length entry
      → let p = normalized_by change (point_at side l i) in
      written change side l entry (i + 1) ≡ set (set (written change side l entry i) (2 * i) p.x) (2 * i + 1) p.y
  unfolding pair_of
  written_more i h room =
      let long = Writing.written_long (pair change) 2 (points side l) entry (pair_wide change) i h room in
      rw (add-one (2 * i))
      (Writing.written_more (pair change) 2 (points side l) entry (pair_wide change) (no_point side) (point_at side l) (point-read side l) i h
      ∙ sym (Writing.stored (pair change (point_at side l i)) (written change side l entry i) (2 * i) (omega (arith, long, room, h))))

  pub written_all : normalized_list change (points side l) entry ≡ written change side l entry (length (points side l))
  unfolding normalized_list
  written_all = Writing.written_all (pair change) 2 (points side l) entry
