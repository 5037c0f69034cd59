-- Document 01, 'Trials', and document 02, order 2: what a trial's record is worth, seen from the distances of the marks under a model alone, and how many marks
-- are beyond under its fit. Nothing here knows the model, the mark or the distance.
use Rattle.std.specs.Prelude.{◌≡◌, Bool, false, cond, ◌&&◌, List, ℕ, ◌^◌, ◌≤◌, ltb, leb, eqb, pos, length, get_or, Float}
use Rattle.std.specs.Float.{binary64}
use Rattle.std.specs.Float.Ieee.{is_nan, le, of_int}
use Rattle.rule.specs.Arith.{◌⊗◌, ◌⊘◌}
use Rattle.rule.specs.Lists.{count_of, sum_from, those}
use Rattle.root.specs.Root.{root_of}
use Rattle.numbers.specs.Constants.{zero', infinity}

-- What the rule reads of the options.
pub record Options : Type 0 where
  pub thresh : Float
  pub most : ℕ  -- max_iters
  pub least : ℕ  -- min_inliers
  pub refits : Bool  -- refits are asked for

-- A trial's record: no fit, a fit, or a fit and its refit. (In the terms of the field, a hypothesis and its local optimisation.)
pub data Trial (M : Type 0) : Type 0 where
  unfitted : Trial M
  fitted : M → Trial M
  refitted : (fit refit : M) → Trial M

-- ---- a list of distances against the threshold

-- at most the threshold; a NaN is not
unfoldable pub close : Float → Float → Bool
close thresh d = le d thresh

unfoldable pub count_in : Float → List Float → ℕ
count_in thresh ds = count_of (close thresh) ds

unfoldable pub square : Float → Float
square d = d ⊗ d

-- the squares of those distances, in index order from 0
unfoldable pub squares_in : Float → List Float → Float
squares_in thresh ds = sum_from square zero' (those (close thresh) ds)

-- root(sum of squares / count); infinite at count 0
unfoldable pub rms_of : ℕ → Float → Float
rms_of count squares = cond (eqb count 0) infinity (root_of (squares ⊘ of_int binary64 (pos count)))

unfoldable pub rms_in : Float → List Float → Float
rms_in thresh ds = rms_of (count_in thresh ds) (squares_in thresh ds)

-- It is never a NaN, whatever the distances and the threshold are. (It could be one only where the count has no finite double; no program holds 2 ^ 53 marks.)
abbrev pub RmsNotNan : Type 0
RmsNotNan = (thresh : Float) (ds : List Float) → length ds ≤ 2 ^ 53 → is_nan (rms_in thresh ds) ≡ false

-- ---- a trial

-- The model that stands, its own count and rms, and the stop entry that goes with the count.
pub record Standing (M : Type 0) : Type 0 where
  pub model : M
  pub count : ℕ
  pub rms : Float
  pub stop : ℕ

-- What a call comes to before the book is looked at.
pub data Judged (M : Type 0) : Type 0 where
  turned_down : ℕ → Judged M
  empty : Judged M
  few : ℕ → Judged M
  scored : Standing M → Judged M

-- The same, and how many marks are beyond under the fit: 0 without one, and for a call that is turned down, since nothing is measured then.
pub record Judgement (M : Type 0) : Type 0 where
  pub worth : Judged M
  pub beyond : ℕ

-- That number of a trial's record, by how many marks are beyond under a model. The refit has no part in it.
unfoldable pub beyond_fit : {M : Type 0} → (M → ℕ) → Trial M → ℕ
beyond_fit beyond unfitted = 0
beyond_fit beyond (fitted fit) = beyond fit
beyond_fit beyond (refitted fit refit) = beyond fit

module _ {M : Type 0} (o : Options) (distances : M → List Float) (stops : List ℕ) where
  unfoldable pub count_under : M → ℕ
  count_under m = count_in o.thresh (distances m)

  -- max_iters if the count is 0, else stop[count]
  unfoldable pub stop_at : ℕ → ℕ
  stop_at count = cond (eqb count 0) o.most (get_or stops count 0)

  unfoldable pub standing : M → Standing M
  standing m = record { model = m; count = count_under m; rms = rms_in o.thresh (distances m); stop = stop_at (count_under m) }

  -- below min_inliers: few, with that count. Otherwise scored, by the model that stands.
  unfoldable pub judged_by : (fit stands : M) → Judged M
  judged_by fit stands = cond (ltb (count_under fit) o.least) (few (count_under fit)) (scored (standing stands))

  -- The refit stands if options ask, it is present and its own count reaches min_inliers, even if lower than the fit's. Else the fit stands.
  unfoldable pub stands_of : (fit refit : M) → M
  stands_of fit refit = cond (o.refits && leb o.least (count_under refit)) refit fit

  unfoldable pub judge_trial : Trial M → Judged M
  judge_trial unfitted = empty
  judge_trial (fitted fit) = judged_by fit fit
  judge_trial (refitted fit refit) = judged_by fit (stands_of fit refit)
