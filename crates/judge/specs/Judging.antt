-- Document 01, 'Trials': a call of a run (a record, marks, stops), its tests but for 10, and what it comes to by itself, before the book is looked at. For any
-- family, by E's value.
use Rattle.std.specs.Prelude.{◌≡◌, cond, List, [], ◌∷◌, ◌++◌, map, ℕ, ltb, Float, Result, Ok, Err}
use Rattle.rule.specs.Refusal.{number_of}
use Rattle.rule.specs.declared.Refusal.{Refusal}
use Rattle.rule.specs.Lists.{filled}
use Rattle.rule.specs.Order.{Test, first_failed, if_passed}
use Rattle.root.specs.Root.{root_of}
use Rattle.estimator.specs.Family.{Family, distances_of, beyond_of, squares_of}
use Rattle.estimator.specs.Marks.{shape, few, of_run, entries, run_tests}
use Rattle.book.specs.Score as Score
use Rattle.book.specs.Score.{Options, Judged, turned_down, Judgement, beyond_fit, Trial, unfitted, fitted, refitted, squares_in, rms_of, rms_in, count_under, stands_of, judge_trial}
use Rattle.records.specs.Trial.{trial_record, trial_of}
use Rattle.records.specs.declared.options.RansacOptions.{RansacOptions}
use Rattle.judge.specs.declared.Call.{Call as CodeCall}
use Rattle.judge.specs.declared.Judgement.{Judgement as CodeJudgement}
use Rattle.judge.specs.declared.Standing.{Standing}
use Rattle.judge.specs.declared.Support.{Support}
use Rattle.judge.specs.declared.Verdict.{Verdict}
use Rattle.judge.specs.declared.Verdict.TheVariants.{Empty, Few, Scored}

-- what the picking rule reads of the options
unfoldable pub rule_of : RansacOptions → Options
rule_of o = record { thresh = o.thresh; most = o.max_iters; least = o.min_inliers; refits = o.refit }

pub record Call : Type 0 where
  pub bytes : List ℕ
  pub marks : List Float
  pub stops : List ℕ

-- the code's
abbrev pub call_of : CodeCall → Call
call_of c = record { bytes = c.bytes.now; marks = c.marks.now; stops = c.stops.now }

module _ {E M K : Type 0} (f : Family E M K) where
  -- ---- the tests

  -- 5, 6, 7, 18, 8, 1
  unfoldable pub call_tests : ℕ → Call → List Test
  call_tests n c = of_run f n c.marks ∷ (run_tests f c.marks ++ (entries f c.marks c.stops ∷ trial_record f.size c.bytes ∷ []))

  -- The same but for 6 and 18, the tests that walk over the marks: for marks that were tested before.
  unfoldable pub tested_marks : ℕ → List Float → List ℕ → List Test
  tested_marks n l stops = of_run f n l ∷ shape f l ∷ few f l ∷ entries f l stops ∷ []

  unfoldable pub tested_tests : ℕ → Call → List Test
  tested_tests n c = tested_marks n c.marks c.stops ++ (trial_record f.size c.bytes ∷ [])

  module _ (e : E) where
    -- ---- the judging

    -- what the record is worth over the call's marks and stops
    unfoldable pub worth : RansacOptions → Call → Judged M
    worth o c = judge_trial (rule_of o) (distances_of f e o.ratio c.marks) c.stops (trial_of f c.bytes)

    unfoldable pub judged_by : List Test → RansacOptions → Call → Judged M
    judged_by tests o c = if_passed (first_failed tests) (worth o c) (turned_down (first_failed tests))

    unfoldable pub judge_of : RansacOptions → ℕ → Call → Judged M
    judge_of o n c = judged_by (call_tests n c) o c

    unfoldable pub judge_tested : RansacOptions → ℕ → Call → Judged M
    judge_tested o n c = judged_by (tested_tests n c) o c

    -- how many marks are beyond under the record's fit, where the tests pass
    unfoldable pub beyond_by : List Test → Call → ℕ
    beyond_by tests c = if_passed (first_failed tests) (beyond_fit (beyond_of f e c.marks) (trial_of f c.bytes)) 0

    abbrev pub judgement_of : RansacOptions → ℕ → Call → Judgement M
    judgement_of o n c = record { worth = judge_of o n c; beyond = beyond_by (call_tests n c) c }

    abbrev pub judgement_tested : RansacOptions → ℕ → Call → Judgement M
    judgement_tested o n c = record { worth = judge_tested o n c; beyond = beyond_by (tested_tests n c) c }

    -- ---- the judging without the root mean square

    -- that of the marks under a candidate
    unfoldable pub rms_under : RansacOptions → List Float → M → Float
    rms_under o l m = rms_in o.thresh (distances_of f e o.ratio l m)

    -- The lent list then has the squares of the model that stands at its front, or of the fit where that has too few marks.
    unfoldable pub squares_after : RansacOptions → (marks : List Float) → (stops : List ℕ) → Trial M → List Float → List Float
    squares_after o l stops unfitted entry = entry
    squares_after o l stops (fitted fit) entry = filled (squares_of f e o.ratio l fit) entry
    squares_after o l stops (refitted fit refit) entry =
        let few = ltb (count_under (rule_of o) (distances_of f e o.ratio l) stops fit) o.min_inliers in
        let stands = stands_of (rule_of o) (distances_of f e o.ratio l) stops fit refit in
        filled (squares_of f e o.ratio l (cond few fit stands)) entry

    -- a refused call leaves it
    unfoldable pub squares_left : RansacOptions → ℕ → Call → List Float → List Float
    squares_left o n c entry = if_passed (first_failed (tested_tests n c)) (squares_after o c.marks c.stops (trial_of f c.bytes) entry) entry

-- ---- what the code answers

-- what a verdict stands for, by what a scored one has
abbrev pub judged_as : {S M : Type 0} → (S → Score.Standing M) → Verdict S → Judged M
judged_as view Empty = Judged.empty
judged_as view (Few count) = Judged.few count
judged_as view (Scored s) = Judged.scored (view s)

-- and an answer
abbrev pub answer_as : {S M : Type 0} → (S → Score.Standing M) → Result (CodeJudgement S) Refusal → Judged M
answer_as view (Ok j) = judged_as view j.verdict
answer_as view (Err e) = turned_down (number_of e)

-- how many marks it says are beyond: none where the call is refused
abbrev pub beyond_in : {S : Type 0} → Result (CodeJudgement S) Refusal → ℕ
beyond_in (Ok j) = j.beyond
beyond_in (Err e) = 0

-- what a support stands for, with a root mean square
abbrev pub with_rms : {M : Type 0} → Float → Support M → Score.Standing M
with_rms rms s = record { model = s.model; count = s.count; rms = rms; stop = s.stop }

unfoldable pub standing_of : {M : Type 0} → Standing M → Score.Standing M
standing_of s = with_rms s.rms s.support

abbrev pub view_verdict : {M : Type 0} → Result (CodeJudgement (Standing M)) Refusal → Judged M
view_verdict r = answer_as standing_of r

-- A support leaves the root mean square out: it is that of the model that stands.
abbrev pub supported : {M : Type 0} → (M → Float) → Support M → Score.Standing M
supported rms s = with_rms (rms s.model) s

abbrev pub view_finding : {M : Type 0} → (M → Float) → Result (CodeJudgement (Support M)) Refusal → Judged M
view_finding rms r = answer_as (supported rms) r

-- Where the distances' squares are known it can be worked out.
unfoldable pub support_with : {M : Type 0} → Float → (squares : List Float) → Support M → Score.Standing M
support_with thresh squares s = with_rms (rms_of s.count (squares_in thresh (map root_of squares))) s

-- Two answers of which these say the same are the same: so the contracts by them leave one answer.
pub record OneJudgement (M : Type 0) : Type 0 where
  pub verdict : (x y : Result (CodeJudgement (Standing M)) Refusal) → view_verdict x ≡ view_verdict y → beyond_in x ≡ beyond_in y → x ≡ y
  pub finding : (rms : M → Float) (x y : Result (CodeJudgement (Support M)) Refusal) → view_finding rms x ≡ view_finding rms y → beyond_in x ≡ beyond_in y → x ≡ y
