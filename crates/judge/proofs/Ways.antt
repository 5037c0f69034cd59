-- The judge's ways out: the tests of the call, then the record's, and what the record is worth. Assumes nothing.
use mathlib.Core.Path.{◌≡◌, refl, sym, ap, ◌∙◌}
use mathlib.Core.Bool.{cond}
use mathlib.Core.List.{List, [], ◌∷◌}
use Prim.Native.Nat.{ℕ, zero, suc, ◌≤◌}
use native.Mathlib.Omega.{arith}
use borrow.Author.Tests.{ne_eqb, eqb-true, not-false}
use lib.Dec.{eqb}
use lib.ListN.{length}
use lib.Ieee.{Float}
use Rattle.rule.specs.Answer.{Answer, refused, gives}
use Rattle.rule.specs.Order.{Test, first_failed, decided, if_passed}
use Rattle.rule.proofs.Order.{numbered, first_passed, one_failed, all_passed}
use Rattle.estimator.specs.Family.{Family, distances_of, beyond_of}
use Rattle.estimator.specs.Marks.{shape, few, of_run, entries}
use Rattle.estimator.proofs.Tests.{short_enough}
use Rattle.book.specs.Score.{turned_down, Trial, judge_trial, beyond_fit}
use Rattle.records.specs.Trial.{trial_record, trial_answer, trial_of}
use Rattle.records.specs.declared.options.RansacOptions.{RansacOptions}
use Rattle.judge.specs.Judging.{rule_of, Call, tested_marks, tested_tests, worth, judged_by as byTests, judge_tested, beyond_by, squares_after, squares_left}

-- ---- the tests

module _ {E M K : Type 0} (f : Family E M K) where
  -- marks that pass are the run's, and few enough
  pub run_passed : (n : ℕ) (l : List Float) (rest : List Test) → first_failed (of_run f n l ∷ shape f l ∷ rest) ≡ 0 → (n ≡ length (f.marks_of l)) × (length l ≤ 8000)
  unfolding of_run shape
  run_passed n l rest h =
      let a = first_passed (of_run f n l) (shape f l ∷ rest) tt h in
      let b = first_passed (shape f l) rest tt a.1 in (
        sym (eqb-true (length (f.marks_of l)) n (not-false (eqb (length (f.marks_of l)) n) a.0)),
        short_enough f l b.0,
      )

-- ---- the judge: by the tests of the call, then by what the record's reader answers

-- what is made of an answer: of what it gives, or of its number
abbrev pub of_answer : {A X : Type 0} → (A → X) → (ℕ → X) → Answer A → X
of_answer make turned (gives a) = make a
of_answer make turned (refused k) = turned k

module _ {E M K : Type 0} (f : Family E M K) (e : E) (o : RansacOptions) (n : ℕ) (c : Call) where
  abbrev failed : ℕ
  failed = first_failed (tested_marks f n c.marks c.stops)

  in_turn : {X : Type 0} (make : Trial M → X) (turned : ℕ → X)
      → if_passed (first_failed (tested_tests f n c)) (make (trial_of f c.bytes)) (turned (first_failed (tested_tests f n c))) ≡ cond (eqb failed 0) (of_answer make turned (trial_answer f c.bytes)) (turned failed)
  unfolding tested_tests trial_answer decided if_passed numbered tested_marks of_run shape few entries
  in_turn make turned = marks failed refl
    where
      -- the record's test
      record_test : (k : ℕ) → if_passed k (make (trial_of f c.bytes)) (turned k) ≡ of_answer make turned (decided k (trial_of f c.bytes))
      record_test zero = refl
      record_test (suc k) = refl

      marks : (k : ℕ) → failed ≡ k
          → if_passed (first_failed (tested_tests f n c)) (make (trial_of f c.bytes)) (turned (first_failed (tested_tests f n c))) ≡ cond (eqb k 0) (of_answer make turned (trial_answer f c.bytes)) (turned k)
      marks zero h = rw (← all_passed (tested_marks f n c.marks c.stops) (trial_record f.size c.bytes ∷ []) tt h) (record_test (first_failed (trial_record f.size c.bytes ∷ [])))
      marks (suc k) h =
          let some : suc k ≡ 0 → ⊥ = λ z. absurd (omega (arith, z)) in
          rw (ne_eqb (suc k) 0 some, ← one_failed (tested_marks f n c.marks c.stops) (trial_record f.size c.bytes ∷ []) (λ z. some (sym h ∙ z)), h) refl

  pub judge_in_turn : judge_tested f e o n c ≡ cond (eqb failed 0) (of_answer (judge_trial (rule_of o) (distances_of f e o.ratio c.marks) c.stops) turned_down (trial_answer f c.bytes)) (turned_down failed)
  unfolding judge_tested byTests worth
  judge_in_turn = in_turn (judge_trial (rule_of o) (distances_of f e o.ratio c.marks) c.stops) turned_down

  pub beyond_in_turn : beyond_by f e (tested_tests f n c) c ≡ cond (eqb failed 0) (of_answer (beyond_fit (beyond_of f e c.marks)) (λ k. 0) (trial_answer f c.bytes)) 0
  unfolding beyond_by
  beyond_in_turn = in_turn (beyond_fit (beyond_of f e c.marks)) (λ k. 0)

  pub squares_in_turn : (entry : List Float) → squares_left f e o n c entry ≡ cond (eqb failed 0) (of_answer (λ t. squares_after f e o c.marks c.stops t entry) (λ k. entry) (trial_answer f c.bytes)) entry
  unfolding squares_left
  squares_in_turn entry = in_turn (λ t. squares_after f e o c.marks c.stops t entry) (λ k. entry)

-- ---- two orders whose first failed test has the same number

module _ {E M K : Type 0} (f : Family E M K) (e : E) (o : RansacOptions) (c : Call) (tests others : List Test) (same : first_failed tests ≡ first_failed others) where
  pub judged_alike : byTests f e tests o c ≡ byTests f e others o c
  unfolding byTests
  judged_alike = ap (λ k. if_passed k (worth f e o c) (turned_down k)) same

  pub beyond_alike : beyond_by f e tests c ≡ beyond_by f e others c
  unfolding beyond_by
  beyond_alike = ap (λ k. if_passed k (beyond_fit (beyond_of f e c.marks) (trial_of f c.bytes)) 0) same
