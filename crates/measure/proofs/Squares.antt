-- The squares of a list of marks: one for each mark, and the distances are their roots; and the walk that stores them and counts the marks that are beyond.
-- Assumes nothing.
use mathlib.Core.Path.{◌≡◌, refl, sym, ap, ◌∙◌}
use mathlib.Core.Bool.{Bool, true, false, cond}
use mathlib.Core.List.{List, [], ◌∷◌, ◌++◌, map}
use Prim.Native.Nat.{ℕ, ◌+◌, ◌*◌, ◌≤◌, ◌<◌}
use native.Mathlib.Omega.{arith}
use borrow.Author.Tests.{lt-ltb, le-ltb}
use lib.ListN.{length, get_or, take, drop, set, length-map, get_or-map}
use lib.Ieee.{Float, of_bits}
use Rattle.std.specs.Prelude.{Some, None, is_none, unwrap_or}
use Rattle.std.specs.Int.{from_bool}
use Rattle.rule.specs.Lists.{count_of, for_each, filled}
use Rattle.rule.proofs.Lists.{count_next, count_end, alone, stored_no_room, stored_more, stored_all}
use Rattle.root.specs.Root.{root_of}
use Rattle.numbers.specs.Constants.{infinity}
use Rattle.numbers.specs.Measure.{beyond, distance, as_distance}
use Rattle.estimator.specs.Family.{Family, mark_at, measure_of, distance_of, squared_of, squared_distance_of, distances_of, squares_of, beyond_of}
use Rattle.measure.specs.Found.{beyond_found}

module _ {E M K : Type 0} (f : Family E M K) (e : E) (ratio : Float) where
  -- ---- one for each mark

  module _ (l : List Float) (h : M) where
    pub squares_count : length (squares_of f e ratio l h) ≡ length (f.marks_of l)
    unfolding squares_of
    squares_count = length-map (f.marks_of l) (squared_of f e ratio h)

    pub distances-count : length (distances_of f e ratio l h) ≡ length (f.marks_of l)
    unfolding distances_of
    distances-count = length-map (f.marks_of l) (distance_of f e ratio h)

    pub distance-at : (i : ℕ) → get_or (distances_of f e ratio l h) i (distance_of f e ratio h f.no_mark) ≡ distance_of f e ratio h (mark_at f l i)
    unfolding distances_of mark_at
    distance-at i = get_or-map (distance_of f e ratio h) (f.marks_of l) i f.no_mark

    pub square-at : (i : ℕ) → squared_of f e ratio h (mark_at f l i) ≡ get_or (squares_of f e ratio l h) i (squared_of f e ratio h f.no_mark)
    unfolding squares_of mark_at
    square-at i = sym (get_or-map (squared_of f e ratio h) (f.marks_of l) i f.no_mark)

  -- ---- the square as the code has it, none where the mark is beyond

  module _ (h : M) (m : K) where
    pub or_infinite : unwrap_or (squared_distance_of f e ratio h m) infinity ≡ squared_of f e ratio h m
    unfolding squared_distance_of squared_of
    or_infinite = go (f.beyond_under e h m) _
      where
        go : (b : Bool) (x : Float) → unwrap_or (cond b None (Some x)) infinity ≡ cond b infinity x
        go true x = refl
        go false x = refl

    none_beyond : is_none (squared_distance_of f e ratio h m) ≡ f.beyond_under e h m
    unfolding squared_distance_of
    none_beyond = go (f.beyond_under e h m) _
      where
        go : (b : Bool) (x : Float) → is_none (cond b None (Some x)) ≡ b
        go true x = refl
        go false x = refl

  -- ---- the walk over the marks: the lent list after the first i of them, and how many of those from place i on are still to be counted as beyond

  module _ (l : List Float) (h : M) (entry : List Float) where
    unfoldable pub squares_after : ℕ → List Float
    squares_after i = for_each alone (take i (squares_of f e ratio l h)) ++ drop (1 * i) entry

    pub squares_none : squares_after 0 ≡ entry
    unfolding squares_after for_each
    squares_none = refl

    many : length (f.marks_of l) ≡ length (squares_of f e ratio l h)
    many = sym (squares_count l h)

    pub squares_no_room : length entry < length (f.marks_of l) → entry ≡ filled (squares_of f e ratio l h) entry
    squares_no_room short = stored_no_room _ _ many short

    module _ (room : length (f.marks_of l) ≤ length entry) where
      pub squares_more : (i : ℕ) → i < length (f.marks_of l) → squares_after (i + 1) ≡ set (squares_after i) i (squared_of f e ratio h (mark_at f l i))
      unfolding squares_after
      squares_more i inside = sym (stored_more _ _ many room (squared_of f e ratio h f.no_mark) inside (square-at l h i) (record { is = refl })).is

      pub squares_all : (i : ℕ) → i ≡ length (f.marks_of l) → squares_after i ≡ filled (squares_of f e ratio l h) entry
      unfolding squares_after
      squares_all i k = stored_all _ _ many room (omega (arith, k)) (omega (arith, k)) (record { is = refl })

  module _ (l : List Float) (h : M) where
    abbrev far : K → Bool
    far m = is_none (squared_distance_of f e ratio h m)

    unfoldable pub beyond_from : ℕ → ℕ
    beyond_from i = count_of far (drop i (f.marks_of l))

    pub beyond_next : (i : ℕ) → i < length (f.marks_of l) → beyond_from i ≡ from_bool (is_none (squared_distance_of f e ratio h (mark_at f l i))) + beyond_from (i + 1)
    unfolding beyond_from mark_at
    beyond_next i inside = count_next far (f.marks_of l) f.no_mark i inside ∙ ap (λ k. k + beyond_from (i + 1)) (counts (far (mark_at f l i)))
      where
        counts : (b : Bool) → cond b 1 0 ≡ from_bool b
        counts true = refl
        counts false = refl

    pub beyond_end : (i : ℕ) → length (f.marks_of l) ≤ i → beyond_from i ≡ 0
    unfolding beyond_from
    beyond_end i k = count_end far (f.marks_of l) f.no_mark i k

    module _ (entry : List Float) where
      pub beyond_no_room : length entry < length (f.marks_of l) → 0 ≡ beyond_found f e l h entry
      unfolding beyond_found
      beyond_no_room short = rw (lt-ltb (length entry) (length (f.marks_of l)) short) refl

      pub beyond_all : length (f.marks_of l) ≤ length entry → beyond_from 0 ≡ beyond_found f e l h entry
      unfolding beyond_from beyond_found beyond_of
      beyond_all room = rw (le-ltb (length entry) (length (f.marks_of l)) room) (λ i. count_of (λ m. none_beyond h m i) (f.marks_of l))

pub one_more : (b : Bool) → from_bool b ≤ 1
one_more true = omega arith
one_more false = omega arith

-- ---- the distance is the root of its square

root_inf : root_of infinity ≡ infinity
unfolding of_bits root_of
root_inf = refl

under-root : (b : Bool) (x : Float) → root_of (cond b infinity x) ≡ as_distance (cond b beyond (distance (root_of x)))
unfolding as_distance
under-root true x = root_inf
under-root false x = refl

module _ {E M K : Type 0} (f : Family E M K) (e : E) (ratio : Float) where
  module _ (h : M) where
    root_of_square : (m : K) → root_of (squared_of f e ratio h m) ≡ distance_of f e ratio h m
    unfolding squared_of distance_of measure_of
    root_of_square m = under-root (f.beyond_under e h m) (f.square e ratio h m)

    each : (ms : List K) → map root_of (map (squared_of f e ratio h) ms) ≡ map (distance_of f e ratio h) ms
    each [] = refl
    each (m ∷ ms) = rw (root_of_square m, each ms)

  pub roots_of_squares : (l : List Float) (h : M) → map root_of (squares_of f e ratio l h) ≡ distances_of f e ratio l h
  unfolding squares_of distances_of
  roots_of_squares l h = each h (f.marks_of l)
