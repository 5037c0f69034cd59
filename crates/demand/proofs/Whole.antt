-- The whole run of the third demand. Assumes nothing.
use mathlib.Core.Path.{◌≡◌, refl, sym, ap, subst, ◌∙◌}
use mathlib.Core.Bool.{true, false, not}
use mathlib.Core.Logic.{⊎_elim}
use mathlib.Core.List.{List, [], map}
use Prim.Native.Nat.{ℕ, zero, suc, ◌*◌, ◌%◌, ◌≤◌}
use native.Mathlib.Omega.{arith}
use Rattle.std.proofs.lemmas.List.{take-map}
use Rattle.std.proofs.lemmas.List.Folds.{list_all-map}
use Rattle.std.proofs.lemmas.Simd.{map-map}
use borrow.Author.Tests.{eq-eqb, eqb-true, ltb-false, not-false}
use lib.Dec.{ltb, eqb}
use lib.ListN.{length, take}
use lib.Ieee.{Float}
use Rattle.rule.specs.Refusal.{NONE}
use Rattle.rule.specs.Answer.{refused}
use Rattle.rule.specs.Order.{first_failed}
use Rattle.rule.specs.Lists.{every}
use Rattle.rule.proofs.Tests.{neither}
use Rattle.rule.proofs.Order.{passes, first_passed, all_passed, none_failed}
use Rattle.estimator.specs.Family.{distances_of}
use Rattle.estimator.specs.Marks.{shape, entries, enough_tests, run_tests as tests_of_marks}
use Rattle.estimator.proofs.Tests.{shaped}
use Rattle.estimator.proofs.Run.{enough_numbered, run_numbered, enough_left}
use Rattle.sheet.specs.Marks.{marks_of}
use Rattle.sheet.specs.Sheets.{sheet, no_camera}
use Rattle.sheet.specs.Owed.{wide, counts}
use Rattle.sheet.specs.declared.model.Model.{Model}
use Rattle.sheet.specs.declared.model.Sheet.{Sheet}
use Rattle.book.specs.Score.{Judged}
use Rattle.book.specs.Book.{Winner, Held, none, held, Book, fresh, book_after, outcomes_of}
use Rattle.book.specs.Calls.{Called, is_refusal}
use Rattle.book.specs.Rule.{Kept, Stopped, stopped, broken, run_over, ReadTo}
use Rattle.book.proofs.Picked.{outcomes_of_lem, run_exact}
use Rattle.fields.specs.Fields.{words_of}
use Rattle.fields.proofs.Reading.{words_count}
use Rattle.records.specs.Options.{options_record, options_of, options_tests}
use Rattle.records.proofs.Formed.{options_above_0}
use Rattle.records.specs.Marks.{mark_bytes, numbers_in}
use Rattle.records.specs.declared.options.RansacOptions.{RansacOptions}
use Rattle.records.proofs.Whole.{numbers-length}
use Rattle.score.specs.Places.{indices_in}
use Rattle.judge.specs.Judging.{rule_of, judge_of, judgement_of}
use Rattle.pick.specs.Run.{view_best, book_of, view_outcome}
use Rattle.pick.specs.Opening.{opening_tests}
use Rattle.pick.specs.declared.run_state.State.{State}
use Rattle.pick.proofs.Order.{none_left}
use Rattle.salghemu.specs.Whole.{Files, stop_bytes, later_tests, order_of, run_tests, records_in, call_with, calls_of, judged_in, stop_of, won_by, result_of, after_tests, run_answer, number_of, index_bytes, laid_over, written, Gave}
use Rattle.demand.specs.Demand.{Opening, Told, view_told, Tried, Refuses, GivesOf, CalledAlike, AfterRun, by_tests, by_trials}
use Rattle.demand.proofs.Listed.{opening-accepted, after_list, given_as, calls_answered}

-- the run's trials are the calls
pub stop_is : (p : RansacOptions) (m : ℕ) (f : Files) → stop_of p m (numbers_in 4 f.marks) (words_of f.stops) (records_in f.trials) ≡ run_over (rule_of p) (fresh (rule_of p)) (map (judge_of sheet no_camera p m) (calls_of f))
unfolding stop_of judged_in calls_of
stop_is p m f = ap (run_over (rule_of p) (fresh (rule_of p))) (sym (map-map (judge_of sheet no_camera p m) (call_with (numbers_in 4 f.marks) (words_of f.stops)) (records_in f.trials)))

-- ---- what the run's tests say where they all pass

module _ (f : Files) (winner indices : ℕ) (all : first_failed (run_tests f winner indices) ≡ 0) where
  abbrev o : RansacOptions
  o = options_of f.options

  abbrev l : List Float
  l = numbers_in 4 f.marks

  abbrev n : ℕ
  n = length (marks_of l)

  pub record Fine : Type 0 where
    pub options_fine : first_failed (options_tests o) ≡ 0
    pub cut : length f.marks % 32 ≡ 0
    pub short : length f.marks ≤ 64000
    pub marks_fine : first_failed (enough_tests sheet l) ≡ 0
    pub stops_fine : length f.stops ≡ 4 * suc n

  fine : Fine
  unfolding run_tests order_of later_tests options_record mark_bytes stop_bytes
  fine =
      let r = first_passed (options_record f.options) _ tt all in
      let options = none_failed (options_tests o) _ r.1 in
      let d = first_passed (mark_bytes 4 f.marks) _ tt (all_passed (options_tests o) _ (options_above_0 o) options ∙ r.1) in
      let m = neither (not (eqb (length f.marks % 32) 0)) (ltb 64000 (length f.marks)) d.0 in
      let e = none_failed (enough_tests sheet l) _ d.1 in
      let h = first_passed (stop_bytes n (length f.stops)) _ tt (all_passed (enough_tests sheet l) _ (enough_numbered sheet l) e ∙ d.1) in
      record {
        options_fine = options;
        cut = eqb-true (length f.marks % 32) 0 (not-false (eqb (length f.marks % 32) 0) m.0);
        short = ltb-false 64000 (length f.marks) m.1;
        marks_fine = e;
        stops_fine = eqb-true (length f.stops) (4 * suc n) (not-false (eqb (length f.stops) (4 * suc n)) h.0);
      }

  shape_fine : (shape sheet l).fails ≡ false
  shape_fine =
      let long = numbers-length 4 f.marks in
      let s = fine.short in
      shaped sheet l (omega (arith, long)) (omega (arith, long, s))

  entries_fine : (entries sheet l (words_of f.stops)).fails ≡ false
  unfolding entries
  entries_fine = let c = words_count f.stops in let s = fine.stops_fine in rw (eq-eqb (length (words_of f.stops)) (suc n) (omega (arith, c, s)))

  pub opening_fine : 0 ≡ first_failed (opening_tests sheet no_camera o l (words_of f.stops))
  unfolding opening_tests
  opening_fine =
      none_left
      ∙ passes (entries sheet l (words_of f.stops)) [] entries_fine
      ∙ all_passed (tests_of_marks sheet l) _ (run_numbered sheet l) (sym (enough_left sheet l shape_fine) ∙ fine.marks_fine)
      ∙ all_passed (options_tests o) _ (options_above_0 o) fine.options_fine

-- ---- the run's promise, by its answer

module _ (f : Files) (r : ℕ) (winner indices winner' indices' : List ℕ) where
  abbrev Gives : Rattle.rule.specs.Answer.Answer (Winner Model) → Type 0
  Gives a = Gave a (options_of f.options) (numbers_in 4 f.marks) winner indices r winner' indices'

  gave_refused : (k : ℕ) → Gives (refused k) → Refuses k r winner indices winner' indices'
  unfolding number_of written
  gave_refused k g = record { number = g.number_is; winner_kept = g.winner_is; indices_kept = g.indices_is }

  -- ---- the trials

  module _ (all : first_failed (run_tests f (length winner) (length indices)) ≡ 0) where
    abbrev p : RansacOptions
    p = options_of f.options

    abbrev numbers : List Float
    numbers = numbers_in 4 f.marks

    abbrev m : ℕ
    m = length (marks_of numbers)

    abbrev js : List (Judged Model)
    js = map (judge_of sheet no_camera p m) (calls_of f)

    -- the winner of the calls one by one, and their indices
    module _ (s₀ s : State Sheet Model) (answers : List Told) (read : ℕ) (opening : Opening sheet no_camera p numbers (words_of f.stops) s₀) (chain : Called (Tried sheet) s₀ (take read (calls_of f)) answers s) where
      listed : ((s.estimator ≡ no_camera) × (s.options ≡ p) × (s.n ≡ m)) × Kept (rule_of p) (judgement_of sheet no_camera p m) (take read (calls_of f)) (map view_told answers) (book_of s)
      listed = after_list sheet 4 wide counts no_camera p numbers (words_of f.stops) s₀ opening s (take read (calls_of f)) answers chain

      book_is : book_of s ≡ book_after (rule_of p) (fresh (rule_of p)) (take read js)
      book_is = listed.1.booked ∙ ap (book_after (rule_of p) (fresh (rule_of p))) (sym (take-map (judge_of sheet no_camera p m) read (calls_of f)))

      outcomes_are : map (λ a. a.outcome) (map view_told answers) ≡ outcomes_of (rule_of p) (fresh (rule_of p)) (take read js)
      outcomes_are =
          ap (map (λ a. a.outcome)) listed.1.answered
          ∙ outcomes_of_lem (rule_of p) (judgement_of sheet no_camera p m) (fresh (rule_of p)) (take read (calls_of f))
          ∙ ap (outcomes_of (rule_of p) (fresh (rule_of p))) (sym (take-map (judge_of sheet no_camera p m) read (calls_of f)))

      none-refused : every (λ a. not (is_refusal a)) (outcomes_of (rule_of p) (fresh (rule_of p)) (take read js)) ≡ true → every (λ x. not (is_refusal (view_outcome x.outcome))) answers ≡ true
      unfolding view_told
      none-refused h =
          sym (list_all-map (λ a. not (is_refusal a.outcome)) view_told answers)
          ∙ sym (list_all-map (λ a. not (is_refusal a)) (λ a. a.outcome) (map view_told answers))
          ∙ ap (every (λ a. not (is_refusal a))) outcomes_are
          ∙ h

      by_winner : (h : Held Model) → view_best s.winner ≡ h → Gives (won_by h) → GivesOf numbers s h r winner indices winner' indices'
      unfolding GivesOf won_by number_of written index_bytes laid_over
      by_winner none e g = gave_refused NONE g
      by_winner (held w) e g = (g.number_is, g.winner_is, (indices_in p.thresh (distances_of sheet no_camera p.ratio numbers w.model), (g.indices_is, λ entry after r' call room_for. given_as sheet 4 wide counts no_camera p numbers (words_of f.stops) s₀ opening s listed.0 w e entry after r' call room_for)))

      winner_is : view_best s.winner ≡ (book_after (rule_of p) (fresh (rule_of p)) (take read js)).winner
      winner_is = ap (λ (b : Book Model). b.winner) book_is

      pub given_of : {result : Stopped Model} → result ≡ stopped (book_after (rule_of p) (fresh (rule_of p)) (take read js)) → Gives (result_of result) → GivesOf numbers s (view_best s.winner) r winner indices winner' indices'
      unfolding result_of
      given_of e g = by_winner (view_best s.winner) refl (subst (λ (h : Held Model). Gives (won_by h)) (sym winner_is) (subst (λ (x : Stopped Model). Gives (result_of x)) e g))

    start : (s₀ : State Sheet Model) × Opening sheet no_camera p numbers (words_of f.stops) s₀
    start = opening-accepted sheet no_camera p numbers (words_of f.stops) (sym (opening_fine f (length winner) (length indices) all))

    module _ (g : Gives (result_of (stop_of p m numbers (words_of f.stops) (records_in f.trials)))) where
      abbrev result : Stopped Model
      result = run_over (rule_of p) (fresh (rule_of p)) js

      of_result : Gives (result_of result)
      of_result = subst (λ (x : Stopped Model). Gives (result_of x)) (stop_is p m f) g

      abbrev exact : (read : ℕ) × ReadTo (rule_of p) js result read
      exact = run_exact (rule_of p) js

      is_broken : (k : ℕ) → result ≡ broken k → Refuses k r winner indices winner' indices'
      unfolding result_of
      is_broken k e = gave_refused k (subst (λ (x : Stopped Model). Gives (result_of x)) e of_result)

      -- where it stopped, the book is that of the trials read
      stopped_is : (read : ℕ) → ReadTo (rule_of p) js result read → (b : Book Model) → result ≡ stopped b → result ≡ stopped (book_after (rule_of p) (fresh (rule_of p)) (take read js))
      stopped_is read to b e = ⊎_elim (λ x. x.1) (λ x. let broke = x.2.1.1 in cc) to.ends

      is_stopped : (read : ℕ) → ReadTo (rule_of p) js result read → (b : Book Model) → result ≡ stopped b → CalledAlike f read r winner indices winner' indices'
      is_stopped read to b e =
          record {
            callable = (start.0, (start.1, calls_answered sheet start.0 (take read (calls_of f))));
            gives_same = λ s₀ s answers opening chain. (none-refused s₀ s answers read opening chain to.accepted, given_of s₀ s answers read opening chain (stopped_is read to b e) of_result);
          }

      pub trials-run : AfterRun f r winner indices winner' indices'
      trials-run = by_trials all result exact.0 exact.1 is_broken (λ b e. is_stopped exact.0 exact.1 b e)

  by_number : (k : ℕ) → first_failed (run_tests f (length winner) (length indices)) ≡ k
      → Gives (after_tests k (result_of (stop_of (options_of f.options) (length (marks_of (numbers_in 4 f.marks))) (numbers_in 4 f.marks) (words_of f.stops) (records_in f.trials))))
      → AfterRun f r winner indices winner' indices'
  unfolding after_tests
  by_number zero e g = trials-run e g
  by_number (suc k) e g = by_tests (suc k) e (λ z. absurd (omega (arith, z))) (gave_refused (suc k) g)

  pub run_after : Gives (run_answer f (length winner) (length indices)) → AfterRun f r winner indices winner' indices'
  unfolding run_answer
  run_after g = by_number (first_failed (run_tests f (length winner) (length indices))) refl g
