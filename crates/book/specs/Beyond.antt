-- The marks beyond and those within the threshold, counted together: of any kind of mark A and of model M, and however they are measured.
use Rattle.std.specs.Prelude.{◌≡◌, true, List, map, ℕ, ◌+◌, ◌≤◌, length, Float}
use Rattle.rule.specs.Lists.{count_of}
use Rattle.numbers.specs.Finite.{is_finite}
use Rattle.numbers.specs.Measure.{Measure, is_beyond, as_distance}
use Rattle.book.specs.Score.{Options, Trial, count_in, few, judge_trial, beyond_fit}

module _ {A : Type 0} (measure : A → Measure) where
  abbrev pub far_in : List A → ℕ
  far_in marks = count_of (λ a. is_beyond (measure a)) marks

  abbrev pub distances_in : List A → List Float
  distances_in marks = map (λ a. as_distance (measure a)) marks

-- They are at most all marks together, where the threshold is finite. (A mark that is beyond is infinitely far, so an infinite threshold has it within too.)
pub record WithinAndBeyond (A M : Type 0) : Type 0 where
  -- under one model
  pub of_model : (measure : A → Measure) (thresh : Float) → is_finite thresh ≡ true → (marks : List A)
      → far_in measure marks + count_in thresh (distances_in measure marks) ≤ length marks
  -- and so of a trial with too few marks: its count and its number beyond are both its fit's
  pub of_few : (measure : M → A → Measure) (o : Options) (stops : List ℕ) → is_finite o.thresh ≡ true → (marks : List A) (t : Trial M) (k : ℕ)
      → judge_trial o (λ m. distances_in (measure m) marks) stops t ≡ few k → beyond_fit (λ m. far_in (measure m) marks) t + k ≤ length marks
