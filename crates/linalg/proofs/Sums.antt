-- A sum in index order from 0, place by place, and by twos. Assumes nothing.
use Rattle.std.proofs.Common.{◌≡◌, ℕ, zero, suc, ◌+◌, ◌-◌, ◌*◌, ◌≤◌, List, length, get_or, take, pos, refl, sym, ap, ◌∙◌, add-one, arith}
use Rattle.std.proofs.lemmas.List.Sums.{fold_more}
use native.Mathlib.Nat.{le_refl}
use lib.Ieee.{Float, binary64, of_int}
use lib.Seq.{take-length}
use Rattle.rule.specs.Arith.{◌⊕◌, ◌⊘◌}
use Rattle.rule.specs.Lists.{sum_from}
use Rattle.numbers.specs.Constants.{zero'}
use Rattle.linalg.specs.Mean.{mean, sum_at, sum_of, mean_of}

module _ {A : Type 0} (term : A → Float) (at : ℕ → A) where
  pub sum_none : sum_of term at 0 ≡ zero'
  unfolding sum_of sum_at
  sum_none = refl

  pub sum_more : (i : ℕ) → sum_of term at (i + 1) ≡ sum_of term at i ⊕ term (at i)
  unfolding sum_of sum_at
  sum_more i = rw (add-one i)

  -- ---- by twos, and the last of an odd number by itself

  -- the sum of the first i twos
  unfoldable pub sum_by_two : ℕ → Float
  sum_by_two i = sum_of term at (2 * i)

  pub two_none : sum_by_two 0 ≡ zero'
  unfolding sum_by_two
  two_none = sum_none

  pub two_more : (i : ℕ) → sum_by_two (i + 1) ≡ sum_by_two i ⊕ term (at (2 * i)) ⊕ term (at (2 * i + 1))
  unfolding sum_by_two
  two_more i =
      ap (sum_of term at) (let e : 2 * (i + 1) ≡ 2 * i + 1 + 1 = omega arith in e) ∙ sum_more (2 * i + 1) ∙ ap (λ s. s ⊕ term (at (2 * i + 1))) (sum_more (2 * i))

  pub mean_even : (n i : ℕ) → n ≡ 2 * i → sum_by_two i ⊘ of_int binary64 (pos n) ≡ mean_of term at n
  unfolding sum_by_two mean_of
  mean_even n i even = rw (← even)

  pub mean_odd : (n i : ℕ) → n ≡ 2 * i + 1 → (sum_by_two i ⊕ term (at (n - 1))) ⊘ of_int binary64 (pos n) ≡ mean_of term at n
  unfolding sum_by_two mean_of
  mean_odd n i odd = let last : n - 1 ≡ 2 * i = omega (arith, odd) in rw (last, ← sum_more (2 * i), ← odd)

  -- ---- of a list whose elements are read so

  module _ (l : List A) (d : A) (read : (i : ℕ) → get_or l i d ≡ at i) where
    front : (i : ℕ) → i ≤ length l → sum_from term zero' (take i l) ≡ sum_of term at i
    unfolding sum_of sum_at
    front zero h = refl
    front (suc i) h = rw (← add-one i, fold_more (λ s a. s ⊕ term a) zero' l i d (omega (arith, h)), read i, front i (omega (arith, h)))

    pub mean_by_place : mean term l ≡ mean_of term at (length l)
    unfolding mean mean_of
    mean_by_place = ap (λ s. s ⊘ of_int binary64 (pos (length l))) (ap (sum_from term zero') (sym (take-length l)) ∙ front (length l) (le_refl (length l)))
