-- The marks of a list in the order of their positions: equal positions have one rank, and so what is seen of neighbours is what is so of any two. Assumes nothing.
use mathlib.Core.Path.{◌≡◌, refl, sym, ap, subst, ◌∙◌}
use mathlib.Core.Logic.{inl, inr}
use mathlib.Core.Bool.{Bool, true, ◌||◌}
use mathlib.Core.List.{List, [], ◌∷◌, map}
use Prim.Native.Nat.{ℕ, zero, suc, ◌+◌, ◌-◌, ◌*◌, ◌/◌, ◌^◌, ◌≤◌, ◌<◌}
use native.Mathlib.Nat.{eq-or-lt_of_le}
use native.Mathlib.Omega.{arith}
use borrow.Author.Tests.{eq-eqb, eqb-true}
use lib.Dec.{T, eqb}
use lib.ListN.{length, get_or, take, drop, length-drop}
use lib.Seq.{length-take-le}
use lib.Ieee.{Float, nan, binary64, fits, eq}
use Rattle.std.specs.List.{All, list_any, range_with_len}
use Rattle.std.specs.List.Sorted.{IsPermutation, IsNonDecreasingBy}
use Rattle.std.specs.Cmp.{both_ways}
use Rattle.std.specs.Cmp.Lexicographic.{pointwise}
use Rattle.std.proofs.lemmas.List.{get_or-take, get_or-drop}
use Rattle.std.proofs.lemmas.List.Sorted.{list_any-IsPermutation, All-permutation}
use Rattle.std.proofs.lemmas.List.Elements.{All-get_or, All-from_get_or}
use Rattle.std.proofs.lemmas.List.FromFn.{get_or-range_with_len, length-range_with_len}
use Rattle.std.proofs.lemmas.Simd.{pick_l_whole}
use Rattle.std.proofs.lemmas.Bool.{and_parts}
use Rattle.rule.specs.Lists.{every}
use Rattle.rule.proofs.Tests.{clash}
use Rattle.numbers.specs.Constants.{farthest}
use Rattle.numbers.specs.Finite.{within}
use Rattle.estimator.specs.Family.{Family, mark_at}
use Rattle.estimator.specs.Double.{position, pixel, doubled}
use Rattle.estimator.specs.Double as Double
use Rattle.estimator.specs.Marks.{all_within}
use Rattle.estimator.specs.Ranks.{Keyed, rank_of, neighbours}
use Rattle.estimator.proofs.Stride.{inside}
use Rattle.estimator.proofs.Digits.{rank_low, same_digits}
use Rattle.estimator.proofs.Keys.{key_decides}
use Rattle.estimator.proofs.Alone.{equal_themselves, behind}
use Rattle.estimator.proofs.Neighbours.{decide}

-- ---- equal at each place

pointwise_all : (xs ys : List Float) → length xs ≡ length ys → ((k : ℕ) → k < length xs → eq (get_or xs k nan) (get_or ys k nan) ≡ true) → pointwise eq xs ys ≡ true
pointwise_all [] [] h each = refl
pointwise_all [] (y ∷ ys) h each = absurd (omega (arith, h))
pointwise_all (x ∷ xs) [] h each = absurd (omega (arith, h))
pointwise_all (x ∷ xs) (y ∷ ys) h each = rw (each zero (omega arith), pointwise_all xs ys (omega (arith, h)) (λ k g. each (suc k) (omega (arith, g)))) refl

pointwise_each : (xs ys : List Float) → pointwise eq xs ys ≡ true → (k : ℕ) → k < length xs → eq (get_or xs k nan) (get_or ys k nan) ≡ true
pointwise_each [] ys h k g = absurd (omega (arith, g))
pointwise_each (x ∷ xs) [] h k g = clash h refl
pointwise_each (x ∷ xs) (y ∷ ys) h zero g = (and_parts (eq x y) (pointwise eq xs ys) h).0
pointwise_each (x ∷ xs) (y ∷ ys) h (suc k) g = pointwise_each xs ys (and_parts (eq x y) (pointwise eq xs ys) h).1 k (omega (arith, g))

every_at : {A : Type 0} (t : A → Bool) (l : List A) (d : A) (k : ℕ) → every t l ≡ true → k < length l → t (get_or l k d) ≡ true
every_at t [] d k h g = absurd (omega (arith, g))
every_at t (a ∷ l) d zero h g = (and_parts (t a) (every t l) h).0
every_at t (a ∷ l) d (suc k) h g = every_at t l d k (and_parts (t a) (every t l) h).1 (omega (arith, g))

pub front_within : (k : ℕ) (l : List Float) → all_within farthest l ≡ true → all_within farthest (take k l) ≡ true
unfolding all_within
front_within zero l h = refl
front_within (suc k) [] h = refl
front_within (suc k) (x ∷ l) h = let r = and_parts (within farthest x) (every (within farthest) l) h in rw (r.0) (front_within k l r.1)

-- ---- ranks are equal where all keys are

module _ (n : ℕ) (columns : List ℕ) (small : (i : ℕ) → get_or columns i 0 < 2 ^ 64) where
  rank_equal : (k p q : ℕ) → ((j : ℕ) → j < k → get_or columns (j * n + p) 0 ≡ get_or columns (j * n + q) 0) → rank_of k n columns p ≡ rank_of k n columns q
  unfolding rank_of
  rank_equal zero p q each = refl
  rank_equal (suc k) p q each = rw (each k (omega arith), rank_equal k p q (λ j h. each j (omega (arith, h)))) refl

  keys_equal : (k p q : ℕ) → rank_of k n columns p ≡ rank_of k n columns q → (j : ℕ) → j < k → get_or columns (j * n + p) 0 ≡ get_or columns (j * n + q) 0
  unfolding rank_of
  keys_equal zero p q h j g = absurd (omega (arith, g))
  keys_equal (suc k) p q h j g =
      let r = same_digits (2 ^ (64 * k)) (get_or columns (k * n + p) 0) (get_or columns (k * n + q) 0) (rank_of k n columns p) (rank_of k n columns q) (rank_low n columns small k p) (rank_low n columns small k q) h in
      elim (eq-or-lt_of_le (let e : j ≤ k = omega (arith, g) in e)) [ inl e ↦ rw e (r.0) | inr lower ↦ keys_equal k p q r.1 j lower ]

-- ---- the marks of a list

pub all_below : (n m : ℕ) → n ≡ m → (places : List ℕ) → IsPermutation (range_with_len 0 n) places → All (λ p. p < m) places
all_below n m same places moved = All-permutation (λ (p : ℕ). p < m) (range_with_len 0 n) places moved (All-from_get_or (λ (p : ℕ). p < m) (range_with_len 0 n) 0 (λ i g. below i (subst (λ (k : ℕ). i < k) (length-range_with_len 0 n) g)))
  where
    below : (i : ℕ) → i < n → get_or (range_with_len 0 n) i 0 < m
    below i h = rw (get_or-range_with_len 0 n i 0 h) (omega (arith, same, h))

any_map : {A B : Type 0} (t : B → Bool) (f : A → B) (l : List A) → list_any t (map f l) ≡ list_any (λ a. t (f a)) l
any_map t f [] = refl
any_map t f (a ∷ l) = ap (λ (b : Bool). t (f a) || b) (any_map t f l)

any_each : {A : Type 0} (t u : A → Bool) (l : List A) → ((a : A) → t a ≡ u a) → list_any t l ≡ list_any u l
any_each t u [] each = refl
any_each t u (a ∷ l) each = rw (each a, any_each t u l each) refl

module _ {E M K : Type 0} (f : Family E M K) (w : ℕ) (wide : 4 ≤ w) (width : f.width ≡ w)
    (placed : (l : List Float) (i : ℕ) → i < length l / w → f.mark_numbers (mark_at f l i) ≡ take w (drop (w * i) l))
    (l : List Float) (pass : all_within farthest l ≡ true) (held : (i : ℕ) → T (fits binary64 (get_or l i nan))) where
  numbers_length : (i : ℕ) → i < length l / w → length (take w (drop (w * i) l)) ≡ w
  numbers_length i h = length-take-le w (drop (w * i) l) (rw (length-drop (w * i) l) (let g = inside w l i h in omega (arith, g)))

  position_is : (i : ℕ) → i < length l / w → position f (mark_at f l i) ≡ take (w - 2) (take w (drop (w * i) l))
  unfolding position
  position_is i h = ap (λ (k : ℕ). take (k - 2) (f.mark_numbers (mark_at f l i))) width ∙ ap (take (w - 2)) (placed l i h)

  position_length : (i : ℕ) → i < length l / w → length (position f (mark_at f l i)) ≡ w - 2
  position_length i h = rw (position_is i h) (length-take-le (w - 2) (take w (drop (w * i) l)) (rw (numbers_length i h) (omega arith)))

  position_at : (i : ℕ) → i < length l / w → (k : ℕ) → k < w - 2 → get_or (position f (mark_at f l i)) k nan ≡ get_or l (w * i + k) nan
  position_at i h k g =
      rw (position_is i h) (get_or-take (w - 2) (take w (drop (w * i) l)) k nan g ∙ get_or-take w (drop (w * i) l) k nan (omega (arith, g)) ∙ get_or-drop (w * i) l k nan)

  pub pixel_own : (i : ℕ) → i < length l / w → pointwise eq (pixel f (mark_at f l i)) (pixel f (mark_at f l i)) ≡ true
  unfolding pixel
  pixel_own i h = rw (placed l i h) (equal_themselves farthest (drop (f.width - 2) (take w (drop (w * i) l))) (behind farthest (f.width - 2) (take w (drop (w * i) l)) (front_within w (drop (w * i) l) (behind farthest (w * i) l pass))))

  module _ (n : ℕ) (counted : n ≡ length l / w) (columns : List ℕ) (small : (i : ℕ) → get_or columns i 0 < 2 ^ 64) (keyed : Keyed w (w - 2) n l columns) where
    abbrev rank : ℕ → ℕ
    rank p = rank_of (w - 2) n columns p

    number_within : (i : ℕ) → i < length l / w → (k : ℕ) → k < w - 2 → within farthest (get_or l (w * i + k) nan) ≡ true
    unfolding all_within
    number_within i h k g = every_at (within farthest) l nan (w * i + k) pass (let e = inside w l i h in omega (arith, e, g))

    key_at : (p q : ℕ) → p < length l / w → q < length l / w → (k : ℕ) → k < w - 2
        → eq (get_or l (w * p + k) nan) (get_or l (w * q + k) nan) ≡ eqb (get_or columns (k * n + p) 0) (get_or columns (k * n + q) 0)
    key_at p q h g k e =
        rw (keyed k p e (rw (counted) h), keyed k q e (rw (counted) g)) (key_decides (get_or l (w * p + k) nan) (get_or l (w * q + k) nan) (held (w * p + k)) (held (w * q + k)) (number_within p h k e) (number_within q g k e))

    pub decides : (p q : ℕ) → p < length l / w → q < length l / w → pointwise eq (position f (mark_at f l p)) (position f (mark_at f l q)) ≡ eqb (rank p) (rank q)
    decides p q h g = both_ways (pointwise eq (position f (mark_at f l p)) (position f (mark_at f l q))) (eqb (rank p) (rank q)) there back
      where
        there : pointwise eq (position f (mark_at f l p)) (position f (mark_at f l q)) ≡ true → eqb (rank p) (rank q) ≡ true
        there e = eq-eqb (rank p) (rank q) (rank_equal n columns small (w - 2) p q (λ k a.
            eqb-true (get_or columns (k * n + p) 0) (get_or columns (k * n + q) 0) (sym (key_at p q h g k a) ∙ rw (← position_at p h k a, ← position_at q g k a) (pointwise_each (position f (mark_at f l p)) (position f (mark_at f l q)) e k (rw (position_length p h) a)))))

        back : eqb (rank p) (rank q) ≡ true → pointwise eq (position f (mark_at f l p)) (position f (mark_at f l q)) ≡ true
        back e = pointwise_all (position f (mark_at f l p)) (position f (mark_at f l q)) (position_length p h ∙ sym (position_length q g)) (λ k a.
            let b : k < w - 2 = subst (λ (x : ℕ). k < x) (position_length p h) a in
            rw (position_at p h k b, position_at q g k b) (key_at p q h g k b ∙ eq-eqb (get_or columns (k * n + p) 0) (get_or columns (k * n + q) 0) (keys_equal n columns small (w - 2) p q (eqb-true (rank p) (rank q) e) k b)))

    -- what is seen of neighbours in an order by rank is so of the marks
    pub seen : (places : List ℕ) → IsPermutation (range_with_len 0 n) places → IsNonDecreasingBy rank places → length (f.marks_of l) ≡ n
        → neighbours (λ p q. Double.clash f (mark_at f l p) (mark_at f l q)) (length places - 1) places ≡ doubled f (f.marks_of l)
    unfolding doubled mark_at
    seen places moved up whole = decide f (mark_at f l) rank (length l / w) decides pixel_own places below up ∙ all_alike
      where
        below : (k : ℕ) → k < length places → get_or places k 0 < length l / w
        below k h = All-get_or (λ (p : ℕ). p < length l / w) places k 0 h (all_below n (length l / w) counted places moved)

        mapped : map (mark_at f l) (range_with_len 0 n) ≡ f.marks_of l
        mapped = rw (← whole) (pick_l_whole f.no_mark (f.marks_of l) (length (f.marks_of l)) refl)

        over : (t : K → Bool) → list_any (λ p. t (mark_at f l p)) places ≡ list_any t (f.marks_of l)
        over t = sym (list_any-IsPermutation (λ p. t (mark_at f l p)) (range_with_len 0 n) places moved) ∙ sym (any_map t (mark_at f l) (range_with_len 0 n)) ∙ ap (list_any t) mapped

        all_alike : list_any (λ p. list_any (λ q. Double.clash f (mark_at f l p) (mark_at f l q)) places) places ≡ list_any (λ a. list_any (Double.clash f a) (f.marks_of l)) (f.marks_of l)
        all_alike =
            any_each (λ p. list_any (λ q. Double.clash f (mark_at f l p) (mark_at f l q)) places) (λ p. list_any (Double.clash f (mark_at f l p)) (f.marks_of l)) places (λ p. over (Double.clash f (mark_at f l p)))
            ∙ over (λ a. list_any (Double.clash f a) (f.marks_of l))
