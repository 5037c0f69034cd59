-- How many marks a measuring finds beyond (document 02, order 2): none where the lent list has not a place for each mark, since nothing is measured then.
use Rattle.std.specs.Prelude.{cond, List, ℕ, ltb, length, Float}
use Rattle.estimator.specs.Family.{Family, beyond_of}

unfoldable pub beyond_found : {E M K : Type 0} → Family E M K → E → List Float → M → (entry : List Float) → ℕ
beyond_found f e l h entry = cond (ltb (length entry) (length (f.marks_of l))) 0 (beyond_of f e l h)
