-- What an accepted opening promises of the calls after it, with the same marks: its tests of them pass then too. Assumes nothing.
use mathlib.Core.Path.{◌≡◌, refl, sym, ap, ap₂, ◌∙◌}
use mathlib.Core.List.{List, []}
use Prim.Native.Nat.{ℕ, ◌≤◌}
use borrow.Author.Tests.{le-ltb, eq-eqb}
use lib.ListN.{length}
use lib.Ieee.{Float}
use Rattle.std.specs.Prelude.{Ok}
use Rattle.rule.specs.Answer.{gives, told}
use Rattle.rule.specs.Order.{first_failed, room}
use Rattle.rule.proofs.Order.{passes, all_passed, none_failed, decided-gives, decided-none}
use Rattle.estimator.specs.Family.{Family, distances_of}
use Rattle.estimator.specs.Marks.{of_run, run_tests}
use Rattle.estimator.proofs.Run.{run_numbered}
use Rattle.book.specs.Score.{Judged}
use Rattle.book.specs.Book.{Winner, held}
use Rattle.records.specs.Options.{options_tests}
use Rattle.records.proofs.Formed.{options_above_0}
use Rattle.records.specs.declared.options.RansacOptions.{RansacOptions}
use Rattle.score.specs.Places.{indices_in}
use Rattle.judge.specs.Judging.{Call, call_tests, tested_tests, judge_of, judge_tested, judgement_of, judgement_tested}
use Rattle.judge.proofs.Ways.{judged_alike, beyond_alike}
use Rattle.pick.specs.Run.{view_best, view_state}
use Rattle.pick.specs.Opening.{opening_tests, opening_answer}
use Rattle.pick.specs.Trial.{tried_with, trial_answer, step_answer}
use Rattle.pick.specs.Indices.{marks_order, under_answer, winner_answer, indices_answer}
use Rattle.pick.specs.Accepted.{AfterOpening}
use Rattle.pick.specs.declared.run_state.State.{State}
use Rattle.pick.proofs.Order.{tested, none_left}

module _ {E M K : Type 0} (f : Family E M K) (e : E) (o : RansacOptions) (l : List Float) (table : List ℕ) where
  -- where the opening's tests all pass, so do those of its marks
  fine : first_failed (opening_tests f e o l table) ≡ 0 → first_failed (run_tests f l) ≡ 0
  unfolding opening_tests
  fine h = none_failed (run_tests f l) _ (all_passed (options_tests o) _ (options_above_0 o) (none_failed (options_tests o) _ h) ∙ h)

  module _ (s₀ : State E M) (opening : told view_state (Ok s₀) ≡ opening_answer f e o l table) where
    accepted : first_failed (run_tests f l) ≡ 0
    unfolding opening_answer
    accepted = fine (decided-gives (first_failed (opening_tests f e o l table)) opening).0

    -- ---- a trial

    -- Only 6 and 18 are left out, and they pass.
    same_tests : (x : E) (p : RansacOptions) (n : ℕ) (c : Call) → c.marks ≡ l → first_failed (tested_tests f n c) ≡ first_failed (call_tests f n c)
    same_tests x p n c h = tested f x p n c (ap (λ k. first_failed (run_tests f k)) h ∙ accepted)

    same-judgement : (x : E) (p : RansacOptions) (n : ℕ) (c : Call) → c.marks ≡ l → judgement_tested f x p n c ≡ judgement_of f x p n c
    unfolding judge_tested judge_of
    same-judgement x p n c h =
        ap₂ (λ (j : Judged M) (far : ℕ). record { worth = j; beyond = far }) (judged_alike f x p c _ _ (same_tests x p n c h)) (beyond_alike f x p c _ _ (same_tests x p n c h))

    pub steps_as_trial : (s : State E M) (c : Call) → c.marks ≡ l → step_answer f (view_state s) c ≡ trial_answer f (view_state s) c
    unfolding step_answer trial_answer
    steps_as_trial s c h = ap (tried_with (view_state s)) (same-judgement s.estimator s.options s.n c h)

    -- ---- the indices

    pub order_passes : (n places : ℕ) → n ≡ length (f.marks_of l) → length (f.marks_of l) ≤ places → 0 ≡ first_failed (marks_order f n l places)
    unfolding marks_order of_run room
    order_passes n places k h =
        none_left
        ∙ passes (room (length (f.marks_of l)) places) [] (le-ltb places (length (f.marks_of l)) h)
        ∙ all_passed (run_tests f l) _ (run_numbered f l) accepted
        ∙ passes (of_run f n l) _ (rw (k, eq-eqb (length (f.marks_of l)) (length (f.marks_of l)) refl))

    indices_written : (s : State E M) → s.n ≡ length (f.marks_of l) → (w : Winner M) → view_best s.winner ≡ held w → (entry : List ℕ) → length (f.marks_of l) ≤ length entry
        → indices_answer f (view_state s) l entry ≡ gives (length (indices_in s.options.thresh (distances_of f s.estimator s.options.ratio l w.model)))
    unfolding indices_answer winner_answer under_answer
    indices_written s n w holds entry room_for =
        rw holds (sym (decided-none (length (indices_in s.options.thresh (distances_of f s.estimator s.options.ratio l w.model))) (order_passes s.n (length entry) n room_for)))

pub after_opening : {E M K : Type 0} (f : Family E M K) → AfterOpening f
after_opening f = record {
  steps_as_trial = λ e o l table opened. steps_as_trial f e o l table opened.0 opened.1;
  indices_written = λ e o l table opened. indices_written f e o l table opened.0 opened.1;
}
