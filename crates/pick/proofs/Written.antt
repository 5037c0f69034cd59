-- What the indices' order says of the lists where it passes: there is a place for each mark, and there are at most 2,000. So all indices are written.
-- Assumes nothing.
use mathlib.Core.Path.{◌≡◌, sym, ◌∙◌}
use mathlib.Core.List.{List, [], ◌++◌}
use Prim.Native.Nat.{ℕ, ◌≤◌}
use native.Mathlib.Omega.{arith}
use borrow.Author.Tests.{ltb-false}
use lib.ListN.{length, drop}
use lib.Ieee.{Float}
use Rattle.std.proofs.lemmas.Grind.{common_steps}
use Rattle.rule.specs.Answer.{gives}
use Rattle.rule.specs.Order.{first_failed, decided, if_passed, room}
use Rattle.rule.proofs.Order.{first_passed, all_passed, none_failed}
use Rattle.estimator.specs.Family.{Family, distances_of}
use Rattle.estimator.specs.Marks.{of_run, run_tests}
use Rattle.estimator.proofs.Run.{run_numbered}
use Rattle.measure.proofs.Squares.{distances-count}
use Rattle.score.specs.Places.{indices_in, indexed, index_count}
use Rattle.score.proofs.Walk.{all_counted, all_indexed}
use Rattle.pick.specs.Run.{Run}
use Rattle.pick.specs.Indices.{marks_order, under_answer, under_after, winner_answer, winner_after, indices_answer, indices_after}

module _ {E M K : Type 0} (f : Family E M K) (e : E) (n : ℕ) (ratio thresh : Float) (h : M) (l : List Float) (entry : List ℕ) (passed : 0 ≡ first_failed (marks_order f n l (length entry)))
    (most : length (f.marks_of l) ≤ 2000)
  where
    abbrev ds : List Float
    ds = distances_of f e ratio l h

    abbrev indices : List ℕ
    indices = indices_in thresh ds

    roomy : (length ds ≤ length entry) × (length ds ≤ 2000)
    unfolding marks_order of_run room
    roomy =
        let a = first_passed (of_run f n l) _ tt (sym passed) in
        let b = all_passed (run_tests f l) _ (run_numbered f l) (none_failed (run_tests f l) _ a.1) ∙ a.1 in
        let g = first_passed (room (length (f.marks_of l)) (length entry)) [] tt b in
        let place : length (f.marks_of l) ≤ length entry = ltb-false (length entry) (length (f.marks_of l)) g.0 in
        let many = distances-count f e ratio l h in
        (omega (arith, many, place), omega (arith, many, most))

    pub count_written : index_count thresh ds entry ≡ length indices
    count_written = all_counted thresh ds entry roomy.0 roomy.1

    pub all_written : indexed thresh ds entry ≡ indices ++ drop (length indices) entry
    all_written = all_indexed thresh ds entry roomy.0 roomy.1

-- a number that is answered is of the front of the list that is left
pub count_inside : {E M K : Type 0} (f : Family E M K) (r : Run E M) (l : List Float) (entry : List ℕ) {k : ℕ} → gives k ≡ indices_answer f r l entry → k ≤ length (indices_after f r l entry)
unfolding decided if_passed indices_answer indices_after winner_answer winner_after under_answer under_after
count_inside f r l entry given = grind (arith, common_steps)
