-- Means of doubles: of a term over a list, and over elements that are read by their places.
use Rattle.std.specs.Prelude.{List, ℕ, zero, suc, length, pos, Float}
use Rattle.std.specs.Float.{binary64}
use Rattle.std.specs.Float.Ieee.{of_int}
use Rattle.rule.specs.Arith.{◌⊕◌, ◌⊘◌}
use Rattle.rule.specs.Lists.{sum_from}
use Rattle.numbers.specs.Constants.{zero'}

-- the sum, in index order from 0, over the number of elements
unfoldable pub mean : {A : Type 0} → (A → Float) → List A → Float
mean term l = sum_from term zero' l ⊘ of_int binary64 (pos (length l))

-- ---- of n elements, by their places

-- n numbers, in index order from 0
unfoldable pub sum_at : (ℕ → Float) → ℕ → Float
sum_at number zero = zero'
sum_at number (suc i) = sum_at number i ⊕ number i

unfoldable pub sum_of : {A : Type 0} → (A → Float) → (ℕ → A) → ℕ → Float
sum_of term at n = sum_at (λ i. term (at i)) n

unfoldable pub mean_of : {A : Type 0} → (A → Float) → (ℕ → A) → ℕ → Float
mean_of term at n = sum_of term at n ⊘ of_int binary64 (pos n)
