-- What the refusal orders of the opening and of a trial say where their tests pass. Assumes nothing.
use mathlib.Core.Path.{◌≡◌, refl, sym, ap, ap₂, ◌∙◌}
use mathlib.Core.Bool.{Bool, true, false, cond}
use mathlib.Core.List.{List, [], ◌∷◌, ◌++◌}
use Prim.Native.Nat.{ℕ, zero, suc, ◌≤◌}
use native.Mathlib.Omega.{arith}
use borrow.Author.Tests.{ne_eqb}
use lib.Dec.{eqb}
use lib.ListN.{length}
use lib.Ieee.{Float}
use Rattle.rule.specs.Refusal.{SHAPE, ENDED, number_of}
use Rattle.rule.specs.Answer.{refused}
use Rattle.rule.specs.Order.{Test, first_failed, decided, if_passed}
use Rattle.rule.specs.declared.Refusal.{Refusal}
use Rattle.rule.proofs.Views.{number_above_0}
use Rattle.rule.proofs.Order.{decided_some, front, stops, passes, first_passed, all_passed, one_failed, none_failed}
use Rattle.estimator.specs.Family.{Family}
use Rattle.estimator.specs.Marks.{shape, few, of_run, entries, run_tests}
use Rattle.estimator.proofs.Run.{run_numbered, shape_passed, few_passed}
use Rattle.estimator.proofs.Tests.{short_enough}
use Rattle.book.specs.Score.{Judged, turned_down, Judgement}
use Rattle.book.specs.Book.{is_refused, entered}
use Rattle.book.specs.Calls.{is_closed, tried}
use Rattle.records.specs.Options.{options_tests}
use Rattle.records.proofs.Formed.{options_above_0, few-iters}
use Rattle.records.specs.Trial.{trial_record}
use Rattle.records.specs.declared.options.RansacOptions.{RansacOptions}
use Rattle.judge.proofs.Ways.{judged_alike, beyond_alike}
use Rattle.judge.specs.Judging.{rule_of, Call, call_tests, tested_marks, tested_tests, judged_by as byTests, judge_of, judge_tested, judgement_of, judgement_tested, beyond_by}
use Rattle.pick.specs.Opening.{opening_tests}
use Rattle.pick.specs.Run.{Run, Answer}
use Rattle.pick.specs.Trial.{booking_of, answer_of, trial_answer, step_answer, refused_with}

-- ---- tests in front of others

pub options_first : (o : RansacOptions) (rest : List Test) → first_failed (options_tests o ++ rest) ≡ cond (eqb (first_failed (options_tests o)) 0) (first_failed rest) (first_failed (options_tests o))
options_first o rest = front (options_tests o) rest (options_above_0 o)

pub none_left : 0 ≡ first_failed []
unfolding first_failed
none_left = refl

-- a refusal's number is not 0, so it refuses
pub refuses : {A : Type 0} (e : Refusal) (a : A) {k : ℕ} → number_of e ≡ k → refused (number_of e) ≡ decided k a
refuses e a h = rw (← h) (decided_some (number_of e) a (number_above_0 e))

-- ---- a trial of marks that pass: it is what it is without tests 6 and 18

abbrev not_judged : {M : Type 0} → ℕ → Judgement M
not_judged k = record { worth = turned_down k; beyond = 0 }

module _ {E M K : Type 0} (f : Family E M K) (e : E) (o : RansacOptions) (n : ℕ) (c : Call) where
  abbrev rest : List Test
  rest = entries f c.marks c.stops ∷ trial_record f.size c.bytes ∷ []

  abbrev own : Bool
  own = eqb (length (f.marks_of c.marks)) n

  abbrev failed : ℕ
  failed = first_failed (run_tests f c.marks)

  module _ (passed : failed ≡ 0) where
    -- the tests without a walk pass too, and so the rest decides
    left : first_failed (shape f c.marks ∷ few f c.marks ∷ rest) ≡ first_failed (run_tests f c.marks ++ rest)
    left =
        sym (passes (shape f c.marks) (few f c.marks ∷ rest) (shape_passed f c.marks passed))
        ∙ sym (passes (few f c.marks) rest (few_passed f c.marks passed))
        ∙ all_passed (run_tests f c.marks) rest (run_numbered f c.marks) passed

    pub tested : first_failed (tested_tests f n c) ≡ first_failed (call_tests f n c)
    unfolding tested_tests tested_marks call_tests first_failed
    tested = ap (cond (of_run f n c.marks).fails (of_run f n c.marks).number) left

  -- ---- a trial by its tests: by 10, 5 and those of the marks it is refused, else it is what it is without the marks' tests

  turned : (k : ℕ) → (k ≡ 0 → ⊥) → k ≡ first_failed (call_tests f n c) → judgement_of f e o n c ≡ not_judged k
  unfolding judge_of byTests beyond_by if_passed
  turned zero some first = absurd (some refl)
  turned (suc k) some first = rw (← first)

  by_run : own ≡ false → judgement_of f e o n c ≡ not_judged SHAPE
  unfolding call_tests of_run
  by_run h = turned SHAPE (λ z. absurd (omega (arith, z))) (stops (of_run f n c.marks) _ (rw h))

  by_marks : own ≡ true → (k : ℕ) → k ≡ failed → judgement_of f e o n c ≡ cond (eqb k 0) (judgement_tested f e o n c) (not_judged k)
  unfolding call_tests of_run judge_of judge_tested
  by_marks h zero first =
      let same = tested (sym first) in
      ap₂ (λ (j : Judged M) (far : ℕ). record { worth = j; beyond = far }) (sym (judged_alike f e o c _ _ same)) (sym (beyond_alike f e o c _ _ same))
  by_marks h (suc k) first =
      let some : suc k ≡ 0 → ⊥ = λ z. absurd (omega (arith, z)) in
      rw (ne_eqb (suc k) 0 some) (turned (suc k) some (first ∙ one_failed (run_tests f c.marks) _ (λ z. some (first ∙ z)) ∙ passes (of_run f n c.marks) _ (rw h)))

  judged_by_tests : judgement_of f e o n c ≡ cond own (cond (eqb failed 0) (judgement_tested f e o n c) (not_judged failed)) (not_judged SHAPE)
  judged_by_tests = go own refl
    where
      go : (b : Bool) → own ≡ b → judgement_of f e o n c ≡ cond b (cond (eqb failed 0) (judgement_tested f e o n c) (not_judged failed)) (not_judged SHAPE)
      go true h = by_marks h failed refl
      go false h = by_run h

module _ {E M K : Type 0} (f : Family E M K) (r : Run E M) (c : Call) where
  -- what the book makes of a judgement, where the run has ended or hasn't
  abbrev booked_at : Bool → Judgement M → Answer E M
  booked_at b j = answer_of (booking_of r (cond b (record { book = r.book; outcome = is_refused ENDED }) (entered (rule_of r.options) r.book j.worth))) (cond b 0 j.beyond)

  pub trial_by_tests : trial_answer f r c
      ≡ cond (is_closed r.book) (refused_with r ENDED)
      (cond (eqb (length (f.marks_of c.marks)) r.n) (cond (eqb (first_failed (run_tests f c.marks)) 0) (step_answer f r c) (refused_with r (first_failed (run_tests f c.marks)))) (refused_with r SHAPE))
  unfolding trial_answer step_answer tried entered
  trial_by_tests =
      ap (booked_at (is_closed r.book)) (judged_by_tests f r.estimator r.options r.n c)
      ∙ go (is_closed r.book) (eqb (length (f.marks_of c.marks)) r.n) (first_failed (run_tests f c.marks)) (judgement_tested f r.estimator r.options r.n c)
    where
      go : (ended same : Bool) (k : ℕ) (j : Judgement M) → booked_at ended (cond same (cond (eqb k 0) j (not_judged k)) (not_judged SHAPE))
          ≡ cond ended (refused_with r ENDED) (cond same (cond (eqb k 0) (booked_at ended j) (refused_with r k)) (refused_with r SHAPE))
      go true same k j = refl
      go false false k j = refl
      go false true k j = passed (eqb k 0)
        where
          passed : (b : Bool) → booked_at false (cond b j (not_judged k)) ≡ cond b (booked_at false j) (refused_with r k)
          passed true = refl
          passed false = refl

-- ---- what an accepted opening, and a call that passed, say

-- an accepted opening's max_iters is at most 100,000
pub opened_iters : {E M K : Type 0} (f : Family E M K) (e : E) (o : RansacOptions) (l : List Float) (table : List ℕ) → first_failed (opening_tests f e o l table) ≡ 0 → o.max_iters ≤ 100000
unfolding opening_tests
opened_iters f e o l table h = few-iters o (none_failed (options_tests o) _ h)

-- the marks of a call that passed are short
pub call_short : {E M K : Type 0} (f : Family E M K) (n : ℕ) (c : Call) → first_failed (call_tests f n c) ≡ 0 → length c.marks ≤ 8000
unfolding call_tests of_run
call_short f n c h =
    let run = (first_passed (of_run f n c.marks) _ tt h).1 in
    short_enough f c.marks (shape_passed f c.marks (none_failed (run_tests f c.marks) _ run))
