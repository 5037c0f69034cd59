-- The old bits, proved: `old_bits`. What it says is `OldBits` of specs/OldBits.antt. Assumes nothing.
use mathlib.Core.Path.{◌≡◌, refl, sym, ap, subst, ◌∙◌}
use mathlib.Core.Bool.{false, cond}
use mathlib.Core.List.{List, [], ◌∷◌, ◌++◌, map}
use Prim.Native.Nat.{ℕ}
use lib.ListN.{length}
use lib.Ieee.{Float, lt, le, eq, of_bits}
use Rattle.rule.specs.Order.{Test, first_failed, decided, if_passed}
use Rattle.rule.specs.Lists.{for_each}
use Rattle.numbers.specs.Constants.{one}
use Rattle.numbers.specs.Finite.{is_finite}
use Rattle.numbers.specs.Ratio.{ratio_accepted, ratio}
use Rattle.numbers.specs.Measure.{as_distance}
use Rattle.estimator.specs.Family.{distance_of, distances_of}
use Rattle.estimator.specs.Marks.{entries, run_tests as tests_of_marks}
use Rattle.sheet.specs.Marks.{marks_of}
use Rattle.sheet.specs.Sheets.{sheet, no_camera}
use Rattle.sheet.specs.declared.model.Model.{Model}
use Rattle.sheet.proofs.Ratio.{measure_one}
use Rattle.book.specs.Score.{turned_down, judge_trial, Judgement}
use Rattle.book.specs.Book.{fresh}
use Rattle.book.specs.Rule.{Kept, run_over}
use Rattle.fields.specs.Fields.{bytes_of}
use Rattle.fields.specs.Packing.{unpacked}
use Rattle.records.specs.Options.{short_layout, options_from, options_record, options_of, options_answer, usual_options, options_tests}
use Rattle.records.specs.Trial.{trial_of}
use Rattle.records.specs.Marks.{numbers_in}
use Rattle.records.specs.declared.options.RansacOptions.{RansacOptions}
use Rattle.records.proofs.Placed.{ratio-none}
use Rattle.records.proofs.Short.{short_fields, short_sound}
use Rattle.score.specs.Places.{indices_in}
use Rattle.judge.specs.Judging.{rule_of, Call, call_tests, worth, judged_by, judge_of, beyond_by, judgement_of}
use Rattle.pick.specs.Run.{book_of}
use Rattle.pick.specs.Opening.{opening_tests}
use Rattle.salghemu.specs.Whole.{Files, order_of, run_tests, calls_of, result_of, after_tests, run_answer, index_bytes, written}
use Rattle.demand.specs.Demand.{view_told, Ran}
use Rattle.demand.specs.OldBits.{plain_distances_of, old_record, old_tests, old_judgement, old_run_tests, old_answer, OldRan, OldBits}
use Rattle.demand.proofs.Whole.{stop_is}
use Rattle.demand.proofs.Demanded.{demand_3}

-- ---- with ratio 1 the distances are 01's own, of all marks under all models, as functions

distances-one : distances_of sheet no_camera one ≡ plain_distances_of
unfolding distances_of plain_distances_of distance_of
distances-one = λ i l h. map (λ m. as_distance (measure_one no_camera h m i)) (marks_of l)

-- ---- options with ratio 1

module _ (o : RansacOptions) (is : o.ratio ≡ one) where
  same-distances : distances_of sheet no_camera o.ratio ≡ plain_distances_of
  same-distances = ap (distances_of sheet no_camera) is ∙ distances-one

  same-call : judgement_of sheet no_camera o ≡ old_judgement o
  unfolding judge_of judged_by worth old_judgement
  same-call = λ i n c.
      record {
        worth = if_passed (first_failed (call_tests sheet n c)) (judge_trial (rule_of o) (same-distances i c.marks) c.stops (trial_of sheet c.bytes)) (turned_down (first_failed (call_tests sheet n c)));
        beyond = beyond_by sheet no_camera (call_tests sheet n c) c;
      }

  accepted : (ratio o.ratio).fails ≡ false
  unfolding ratio ratio_accepted is_finite le lt eq of_bits
  accepted = rw is

  same_tests : (rest : List Test) → first_failed (options_tests o ++ rest) ≡ first_failed (old_tests o ++ rest)
  unfolding first_failed options_tests old_tests
  same_tests rest = rw accepted

  same-opening : (marks : List Float) (stops : List ℕ) → first_failed (opening_tests sheet no_camera o marks stops) ≡ first_failed (old_tests o ++ (tests_of_marks sheet marks ++ (entries sheet marks stops ∷ [])))
  unfolding opening_tests
  same-opening marks stops = same_tests _

-- ---- a record of 32 bytes, and the whole run

behind : (t : Test) (ts us : List Test) → first_failed ts ≡ first_failed us → first_failed (t ∷ ts) ≡ first_failed (t ∷ us)
unfolding first_failed
behind t ts us e = ap (λ k. cond t.fails t.number k) e

short_ratio : (l : List ℕ) → length l ≡ 32 → (options_of l).ratio ≡ one
unfolding options_of options_from
short_ratio l size = sym (ratio-none l size)

short_answer : (l : List ℕ) → length l ≡ 32 → options_answer l ≡ decided (first_failed (old_record (unpacked short_layout l) ∷ [])) (options_from (unpacked short_layout l))
unfolding options_answer options_record old_record options_of
short_answer l size = rw (short_sound l size, short_fields l size)

module _ (f : Files) (size : length f.options ≡ 32) where
  abbrev o : RansacOptions
  o = options_of f.options

  abbrev old : RansacOptions
  old = options_from (unpacked short_layout f.options)

  abbrev l : List Float
  l = numbers_in 4 f.marks

  one-ratio : o.ratio ≡ one
  one-ratio = short_ratio f.options size

  same-options : o ≡ old
  unfolding options_of
  same-options = ap options_from (short_fields f.options size)

  run-tests : (winner indices : ℕ) → first_failed (run_tests f winner indices) ≡ first_failed (old_run_tests f winner indices)
  unfolding run_tests order_of old_run_tests options_record old_record
  run-tests winner indices =
      rw (short_sound f.options size, ← same-options) (behind _ _ _ (same_tests o one-ratio _))

  run_answer_lem : (winner indices : ℕ) → run_answer f winner indices ≡ old_answer f winner indices
  unfolding run_answer old_answer
  run_answer_lem winner indices =
      rw (run-tests winner indices, stop_is o (length (marks_of l)) f, ← same-options) (ap (λ j. after_tests (first_failed (old_run_tests f winner indices)) (result_of (run_over (rule_of o) (fresh (rule_of o)) (map (λ c. (j (length (marks_of l)) c).worth) (calls_of f))))) (same-call o one-ratio))

  same_bytes : (h : Model) → index_bytes o l h ≡ for_each (bytes_of 4) (indices_in old.thresh (plain_distances_of l h))
  unfolding index_bytes
  same_bytes h = rw (same-distances o one-ratio, same-options)

  run-gives : (r : ℕ) (winner indices winner' indices' : List ℕ) → Ran f winner indices r winner' indices' → OldRan f winner indices r winner' indices'
  run-gives r winner indices winner' indices' g =
      let a = run_answer_lem (length winner) (length indices) in
      record {
        number_is = rw (← a) g.number_is;
        winner_is = rw (← a) g.winner_is;
        indices_is = g.indices_is ∙ λ i. written (λ w. same_bytes w.model i) (a i) indices;
      }

pub old_bits : OldBits
unfolding usual_options
old_bits =
    record {
      maker = λ thresh. refl;
      short_record = λ l size. (short_ratio l size, short_answer l size);
      measures = measure_one no_camera;
      distances = distances-one;
      opening = λ o marks stops is. same-opening o is marks stops;
      call = λ o n c is. λ i. same-call o is i n c;
      after_calls = λ o marks stops s₀ s calls answers is opening chain carried.
          subst (λ (judge : ℕ → Call → Judgement Model). Kept (rule_of o) (judge (length (marks_of marks))) calls (map view_told answers) (book_of s)) (same-call o is) (demand_3.sheets.after_calls no_camera o marks stops s₀ s calls answers opening chain carried).kept;
      run = λ f r winner indices winner' indices' size ran. run-gives f size r winner indices winner' indices' ran;
    }
