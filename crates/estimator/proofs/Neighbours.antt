-- In an order by rank, where equal positions have one rank, marks that clash can't be far apart: if no two neighbours clash, no two marks do. Assumes nothing.
use mathlib.Core.Path.{◌≡◌, refl, sym, ap, subst, ◌∙◌}
use mathlib.Core.Logic.{inl, inr}
use mathlib.Core.Bool.{Bool, true, false, not, ◌||◌}
use mathlib.Core.List.{List, [], ◌∷◌}
use Prim.Native.Nat.{ℕ, zero, suc, ◌+◌, ◌-◌, ◌≤◌, ◌<◌}
use native.Mathlib.Nat.{le_antisymm, le_trans, le_of_eq, add-zero, add-suc, eq-or-lt_of_le}
use native.Mathlib.Omega.{arith}
use borrow.Author.Tests.{eq-eqb, eqb-true}
use lib.Dec.{eqb}
use lib.ListN.{length, get_or}
use lib.Ieee.{Float, eq}
use lib.Ieee.Bits.{is_true}
use Rattle.std.specs.List.{list_any}
use Rattle.std.specs.List.Sorted.{IsNonDecreasingBy}
use Rattle.std.specs.Cmp.Lexicographic.{pointwise}
use Rattle.std.proofs.lemmas.Bool.{and_parts, and_from, not-false}
use Rattle.std.proofs.lemmas.List.Folds.{list_any_at, list_any_none}
use Rattle.std.proofs.lemmas.List.Elements.{All-from_get_or}
use Rattle.std.proofs.lemmas.Float.{eq_flip, eq_trans}
use Rattle.rule.proofs.Tests.{le_or_gt, neither, is_test, clash}
use Rattle.estimator.specs.Family.{Family}
use Rattle.estimator.specs.Double.{position, pixel, doubled}
use Rattle.estimator.specs.Double as Double
use Rattle.estimator.specs.Ranks.{neighbours}

-- ---- equal numbers at each place

pub alike_back : (xs ys : List Float) → pointwise eq xs ys ≡ true → pointwise eq ys xs ≡ true
alike_back [] [] h = refl
alike_back [] (y ∷ ys) h = h
alike_back (x ∷ xs) [] h = h
alike_back (x ∷ xs) (y ∷ ys) h =
    let r = and_parts (eq x y) (pointwise eq xs ys) h in
    and_from (eq y x) (pointwise eq ys xs) (is_true (eq y x) (eq_flip x y (is_test (eq x y) r.0))) (alike_back xs ys r.1)

pub alike_on : (xs ys zs : List Float) → pointwise eq xs ys ≡ true → pointwise eq ys zs ≡ true → pointwise eq xs zs ≡ true
alike_on [] [] [] h g = refl
alike_on [] [] (z ∷ zs) h g = g
alike_on [] (y ∷ ys) zs h g = clash h refl
alike_on (x ∷ xs) [] zs h g = clash h refl
alike_on (x ∷ xs) (y ∷ ys) [] h g = g
alike_on (x ∷ xs) (y ∷ ys) (z ∷ zs) h g =
    let r = and_parts (eq x y) (pointwise eq xs ys) h in
    let s = and_parts (eq y z) (pointwise eq ys zs) g in
    and_from (eq x z) (pointwise eq xs zs) (is_true (eq x z) (eq_trans x y z (is_test (eq x y) r.0) (is_test (eq y z) s.0))) (alike_on xs ys zs r.1 s.1)

-- ---- whether one of a list passes a test

some_none : {A : Type 0} (t : A → Bool) (l : List A) (d : A) → ((i : ℕ) → i < length l → t (get_or l i d) ≡ false) → list_any t l ≡ false
some_none t l d each = list_any_none t l (All-from_get_or (λ a. t a ≡ false) l d each)

-- ---- neighbours

module _ (test : ℕ → ℕ → Bool) (l : List ℕ) where
  none_each : (m : ℕ) → neighbours test m l ≡ false → (k : ℕ) → k < m → test (get_or l k 0) (get_or l (suc k) 0) ≡ false
  unfolding neighbours
  none_each zero h k g = absurd (omega (arith, g))
  none_each (suc m) h k g =
      let r = neither (neighbours test m l) (test (get_or l m 0) (get_or l (suc m) 0)) h in
      elim (eq-or-lt_of_le (let e : k ≤ m = omega (arith, g) in e)) [ inl e ↦ rw e (r.1) | inr lower ↦ none_each m r.0 k lower ]

  one_more : (m : ℕ) (b : Bool) → (b ≡ true → (k : ℕ) × (k < m) × (test (get_or l k 0) (get_or l (suc k) 0) ≡ true)) → (b || test (get_or l m 0) (get_or l (suc m) 0)) ≡ true
      → (k : ℕ) × (k < suc m) × (test (get_or l k 0) (get_or l (suc k) 0) ≡ true)
  one_more m true before h = let r = before refl in (r.0, (let g = r.1 in omega (arith, g)), r.2)
  one_more m false before h = (m, omega arith, h)

  one_some : (m : ℕ) → neighbours test m l ≡ true → (k : ℕ) × (k < m) × (test (get_or l k 0) (get_or l (suc k) 0) ≡ true)
  unfolding neighbours
  one_some zero h = clash h refl
  one_some (suc m) h = one_more m (neighbours test m l) (λ e. one_some m e) h

-- ---- marks in an order by rank

module _ {E M K : Type 0} (f : Family E M K) (mark : ℕ → K) (rank : ℕ → ℕ) (n : ℕ)
    (decides : (p q : ℕ) → p < n → q < n → pointwise eq (position f (mark p)) (position f (mark q)) ≡ eqb (rank p) (rank q))
    (own : (p : ℕ) → p < n → pointwise eq (pixel f (mark p)) (pixel f (mark p)) ≡ true)
    (l : List ℕ) (inside : (k : ℕ) → k < length l → get_or l k 0 < n) (up : IsNonDecreasingBy rank l) where
  at : ℕ → ℕ
  at k = get_or l k 0

  abbrev pub test : ℕ → ℕ → Bool
  test p q = Double.clash f (mark p) (mark q)

  alike : ℕ → ℕ → Bool
  alike p q = pointwise eq (pixel f (mark p)) (pixel f (mark q))

  -- of one rank: they clash just where their pixels differ
  test_same : (p q : ℕ) → p < n → q < n → rank p ≡ rank q → test p q ≡ not (alike p q)
  unfolding Double.clash alike
  test_same p q h g e = rw (decides p q h g, eq-eqb (rank p) (rank q) e) refl

  -- and of two they don't
  test_other : (p q : ℕ) → p < n → q < n → eqb (rank p) (rank q) ≡ false → test p q ≡ false
  unfolding Double.clash
  test_other p q h g e = rw (decides p q h g, e) refl

  module _ (none : (k : ℕ) → k + 1 < length l → test (at k) (at (suc k)) ≡ false) where
    rank_between : (i d : ℕ) → i + suc d < length l → rank (at i) ≡ rank (at (i + suc d)) → rank (at i) ≡ rank (at (i + d))
    unfolding at
    rank_between i d h e = le_antisymm (up i (i + d) 0 (omega arith) (omega (arith, h))) (le_trans (up (i + d) (i + suc d) 0 (omega arith) h) (le_of_eq (sym e)))

    chain : (i d : ℕ) → i + d < length l → rank (at i) ≡ rank (at (i + d)) → alike (at i) (at (i + d)) ≡ true
    unfolding alike at
    chain i zero h e = rw (add-zero i) (own (at i) (inside i (omega (arith, h))))
    chain i (suc d) h e =
        let same = rank_between i d h e in
        let before = chain i d (omega (arith, h)) same in
        let j = i + d in
        let next = not-false (alike (at j) (at (suc j))) (sym (test_same (at j) (at (suc j)) (inside j (omega (arith, h))) (inside (suc j) (omega (arith, h))) (sym same ∙ e ∙ ap (λ (k : ℕ). rank (at k)) (add-suc i d))) ∙ none j (omega (arith, h))) in
        rw (add-suc i d) (alike_on (pixel f (mark (at i))) (pixel f (mark (at j))) (pixel f (mark (at (suc j)))) before next)

    decided : (b : Bool) (p q : ℕ) → p < n → q < n → eqb (rank p) (rank q) ≡ b → (rank p ≡ rank q → alike p q ≡ true) → test p q ≡ false
    decided true p q h g e pixels = let same = eqb-true (rank p) (rank q) e in test_same p q h g same ∙ rw (pixels same) refl
    decided false p q h g e pixels = test_other p q h g e

    up_to : (i j : ℕ) → i ≤ j → j < length l → rank (at i) ≡ rank (at j) → alike (at i) (at j) ≡ true
    up_to i j h g e = subst (λ (k : ℕ). rank (at i) ≡ rank (at k) → alike (at i) (at k) ≡ true) (let s : i + (j - i) ≡ j = omega (arith, h) in s) (chain i (j - i) (omega (arith, h, g))) e

    any_two : (i j : ℕ) → i < length l → j < length l → test (at i) (at j) ≡ false
    unfolding alike at
    any_two i j h g = decided (eqb (rank (at i)) (rank (at j))) (at i) (at j) (inside i h) (inside j g) refl (λ e. elim (le_or_gt i j) [
      | inl le ↦ up_to i j le g e
      | inr gt ↦ alike_back (pixel f (mark (at j))) (pixel f (mark (at i))) (up_to j i (let s : j ≤ i = omega (arith, gt) in s) h (sym e))
    ])

  -- two neighbours clash just where two of them do
  pub decide : neighbours test (length l - 1) l ≡ list_any (λ p. list_any (test p) l) l
  unfolding at
  decide = go (neighbours test (length l - 1) l) refl
    where
      go : (b : Bool) → neighbours test (length l - 1) l ≡ b → neighbours test (length l - 1) l ≡ list_any (λ p. list_any (test p) l) l
      go true e =
          let r = one_some test l (length l - 1) e in
          let k = r.0 in
          let h = r.1 in
          e ∙ sym (list_any_at (λ p. list_any (test p) l) l k 0 (omega (arith, h)) (list_any_at (test (at k)) l (suc k) 0 (omega (arith, h)) r.2))
      go false e =
          let none : (k : ℕ) → k + 1 < length l → test (at k) (at (suc k)) ≡ false = λ k h. none_each test l (length l - 1) e k (omega (arith, h)) in
          e ∙ sym (some_none (λ p. list_any (test p) l) l 0 (λ i h. some_none (test (at i)) l 0 (λ j g. any_two none i j h g)))
