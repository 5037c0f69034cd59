-- One measuring of marks into a lent list, and what is read off it. Assumes nothing.
use mathlib.Core.Path.{◌≡◌, sym, ◌∙◌}
use mathlib.Core.List.{List, map}
use Prim.Native.Nat.{ℕ, ◌≤◌}
use native.Mathlib.Omega.{arith}
use borrow.Author.Tests.{le-ltb}
use lib.ListN.{length, take, length-map}
use lib.Ieee.{Float}
use Rattle.std.proofs.lemmas.List.{length-take}
use Rattle.rule.specs.Lists.{filled}
use Rattle.rule.proofs.Lists.{count_most, filled_front, filled_again}
use Rattle.root.specs.Root.{root_of}
use Rattle.estimator.specs.Family.{Family, distances_of, beyond_of, squares_of}
use Rattle.book.specs.Score.{close, count_in}
use Rattle.measure.specs.Found.{beyond_found}
use Rattle.measure.proofs.Squares.{squares_count, distances-count, roots_of_squares}

-- how many are found within, and that these are few
pub within_small : (thresh : Float) (n : ℕ) (s : List Float) → count_in thresh (map root_of (take n s)) ≤ n
unfolding count_in
within_small thresh n s =
    let m = count_most (close thresh) (map root_of (take n s)) in
    let k = length-map (take n s) root_of in
    omega (arith, m, k, length-take n s)

module _ {E M K : Type 0} (f : Family E M K) (e : E) where
  -- the roots of what is stored are the distances
  pub roots_stored : (ratio : Float) (l : List Float) (h : M) (entry : List Float) → length (f.marks_of l) ≤ length entry
      → map root_of (take (length (f.marks_of l)) (filled (squares_of f e ratio l h) entry)) ≡ distances_of f e ratio l h
  roots_stored ratio l h entry room =
      let long = squares_count f e ratio l h in
      rw (← long, filled_front (squares_of f e ratio l h) entry (rw long room)) (roots_of_squares f e ratio l h)

  -- how many are found beyond, and that these are few
  pub found_all : (l : List Float) (h : M) (entry : List Float) → length (f.marks_of l) ≤ length entry → beyond_found f e l h entry ≡ beyond_of f e l h
  unfolding beyond_found
  found_all l h entry room = rw (le-ltb (length entry) (length (f.marks_of l)) room)

  pub found_small : (l : List Float) (h : M) (entry : List Float) → length (f.marks_of l) ≤ length entry → beyond_found f e l h entry ≤ length (f.marks_of l)
  unfolding beyond_of
  found_small l h entry room = rw (found_all l h entry room) (count_most (f.beyond_under e h) (f.marks_of l))

  -- of one measuring after another the last is left
  pub measured_twice : (ratio : Float) (l entry : List Float) (a b : M) → filled (squares_of f e ratio l b) (filled (squares_of f e ratio l a) entry) ≡ filled (squares_of f e ratio l b) entry
  measured_twice ratio l entry a b = filled_again (squares_of f e ratio l a) (squares_of f e ratio l b) entry (squares_count f e ratio l a ∙ sym (squares_count f e ratio l b))

-- ---- what the walks of the code rest on

pub ruleset counts = (roots_stored, within_small, found_all, found_small)

pub ruleset writes = (roots_stored, squares_count, distances-count)
