-- The points of a list of marks: their means, and what is written for them. Assumes nothing.
use Rattle.std.proofs.Common.{◌≡◌, ℕ, ◌+◌, ◌*◌, ◌<◌, ◌≤◌, List, length, get_or, set, refl, sym, ◌∙◌, add-one, arith}
use lib.Ieee.{Float}
use lib.ListN.{get_or-map}
use Rattle.root.specs.Root.{root_of}
use Rattle.form.specs.Marks.{marks_of, no_mark, mark_at, point_of, points, point_at}
use Rattle.form.specs.declared.marks.Point.{Point}
use Rattle.linalg.specs.Mean.{mean, sum_of, mean_of}
use Rattle.linalg.proofs.Sums.{mean_by_place}
use Rattle.linalg.proofs.Writing as Writing
use Rattle.linalg_3d.specs.Normalize.{mean_distance, squared_apart, square_at, normalized_by, triple_of, normalized_list}
use Rattle.linalg_3d.specs.declared.Change.{Change}

abbrev no_point : Point
no_point = point_of no_mark

read : (l : List Float) (i : ℕ) → get_or (points l) i no_point ≡ point_at l i
unfolding points point_at mark_at
read l i = get_or-map point_of (marks_of l) i no_mark

module _ (l : List Float) where
  pub mean_is : (term : Point → Float) → mean term (points l) ≡ mean_of term (point_at l) (length (points l))
  mean_is term = mean_by_place term (point_at l) (points l) no_point (read l)

  pub distance_is : (centre : Point) → mean_distance centre (points l) ≡ mean_of root_of (square_at centre l) (length (points l))
  unfolding mean_distance mean_of sum_of square_at
  distance_is centre = mean_is (λ p. root_of (squared_apart p centre))

-- ---- three places in the lent list for each

abbrev triple : Change → Point → List Float
triple c p = triple_of (normalized_by c p)

triple_wide : (c : Change) (p : Point) → length (triple c p) ≡ 3
unfolding triple_of
triple_wide c p = refl

-- the lent list after the first i points
abbrev pub written : Change → List Float → List Float → ℕ → List Float
written change l entry i = Writing.written (triple change) 3 (points l) entry i

module _ (change : Change) (l entry : List Float) where
  pub written_none : written change l entry 0 ≡ entry
  written_none = Writing.written_none (triple change) 3 (points l) entry (triple_wide change)

  pub written_more : (i : ℕ) → i < length (points l) → 3 * length (points l) ≤ length entry
      → let p = normalized_by change (point_at l i) in
      written change l entry (i + 1) ≡ set (set (set (written change l entry i) (3 * i) p.x) (3 * i + 1) p.y) (3 * i + 2) p.z
  unfolding triple_of
  written_more i h room =
      let long = Writing.written_long (triple change) 3 (points l) entry (triple_wide change) i h room in
      rw (add-one (3 * i), Writing.two_on (3 * i))
      (Writing.written_more (triple change) 3 (points l) entry (triple_wide change) no_point (point_at l) (read l) i h
      ∙ sym (Writing.stored (triple change (point_at l i)) (written change l entry i) (3 * i) (omega (arith, long, room, h))))

  pub written_all : normalized_list change (points l) entry ≡ written change l entry (length (points l))
  unfolding normalized_list
  written_all = Writing.written_all (triple change) 3 (points l) entry
