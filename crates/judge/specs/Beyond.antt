-- The marks beyond and those within the threshold, counted together, of any family.
use Rattle.std.specs.Prelude.{◌≡◌, true, List, ℕ, ◌+◌, ◌≤◌, length, Float}
use Rattle.rule.specs.Order.{Test}
use Rattle.numbers.specs.Finite.{is_finite}
use Rattle.estimator.specs.Family.{Family, distances_of, beyond_of}
use Rattle.book.specs.Score.{count_in, few}
use Rattle.records.specs.declared.options.RansacOptions.{RansacOptions}
use Rattle.judge.specs.Judging.{Call, judged_by, beyond_by}

-- They are at most all marks together, where the threshold is finite.
pub record MarksWithinAndBeyond {E M K : Type 0} (f : Family E M K) : Type 0 where
  -- under one candidate, by any ratio
  pub of_candidate : (e : E) (ratio : Float) (h : M) (l : List Float) (thresh : Float) → is_finite thresh ≡ true
      → beyond_of f e l h + count_in thresh (distances_of f e ratio l h) ≤ length (f.marks_of l)
  -- and so what a call comes to that has too few marks, whatever its tests are
  pub of_few : (e : E) (tests : List Test) (o : RansacOptions) (c : Call) → is_finite o.thresh ≡ true → (k : ℕ) → judged_by f e tests o c ≡ few k
      → beyond_by f e tests c + k ≤ length (f.marks_of c.marks)
