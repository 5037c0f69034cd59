-- Document 01, 'Winner' and 'Refusals': the whole run over byte slices. The opening's order, a trial list length not a multiple of 152 as 1, 9, then trials,
-- then 11. The trials are the book's, to the first refused, the bound or the end; those beyond aren't looked at.
use Rattle.std.specs.Prelude.{◌≡◌, not, List, [], ◌∷◌, ◌++◌, map, ℕ, zero, suc, ◌*◌, ◌%◌, eqb, length, drop, Result, Ok, Err, Float}
use Rattle.rule.specs.Refusal.{RECORD, STOPS, NONE}
use Rattle.rule.specs.Refusal as Refused
use Rattle.rule.specs.declared.Refusal.{Refusal}
use Rattle.rule.specs.Answer.{Answer, refused, gives}
use Rattle.rule.specs.Order.{Test, first_failed, room}
use Rattle.rule.specs.Lists.{parts_of, for_each}
use Rattle.estimator.specs.Family.{distances_of}
use Rattle.estimator.specs.Marks.{enough_tests}
use Rattle.sheet.specs.Marks.{marks_of}
use Rattle.sheet.specs.Distance.{model_numbers}
use Rattle.sheet.specs.Sheets.{sheet, no_camera}
use Rattle.sheet.specs.declared.model.Model.{Model}
use Rattle.sheet.specs.declared.model.Sheet.{Sheet}
use Rattle.book.specs.Score.{Judged}
use Rattle.book.specs.Book.{Winner, Held, none, held, fresh}
use Rattle.book.specs.Rule.{Stopped, stopped, broken, run_over}
use Rattle.fields.specs.Fields.{words_of, bytes_of, double_bytes}
use Rattle.records.specs.Options.{options_record, options_of, options_tests}
use Rattle.records.specs.Marks.{mark_bytes, numbers_in}
use Rattle.records.specs.declared.options.RansacOptions.{RansacOptions}
use Rattle.score.specs.Places.{indices_in}
use Rattle.judge.specs.Judging.{rule_of, Call, judge_of}
use Rattle.pick.specs.Run.{book_of}
use Rattle.pick.specs.declared.run_state.State.{State}

-- what is handed in: bytes, and the lengths of what is lent
pub record Files : Type 0 where
  pub options : List ℕ
  pub marks : List ℕ
  pub stops : List ℕ
  pub trials : List ℕ

-- ---- the tests before the trials

-- 8: not n + 1 entries of 4 bytes
unfoldable pub stop_bytes : ℕ → (bytes : ℕ) → Test
stop_bytes n bytes = record { fails = not (eqb bytes (4 * suc n)); number = STOPS }

-- 1: not a multiple of 152 bytes
unfoldable pub trial_bytes : (bytes : ℕ) → Test
trial_bytes bytes = record { fails = not (eqb (bytes % 152) 0); number = RECORD }

-- those after the marks' length: 6, 7, 18 (document 02, orders 6 and 7), 8, 1, 9
unfoldable pub later_tests : (numbers : List Float) → (n stops trials winner indices : ℕ) → List Test
later_tests numbers n stops trials winner indices =
    enough_tests sheet numbers ++ (stop_bytes n stops ∷ trial_bytes trials ∷ room 88 winner ∷ room (4 * n) indices ∷ [])

-- 2, 3, 4, 16, 5, 6, 7, 18, 8, 1, 9
unfoldable pub order_of : RansacOptions → (marks stops trials : List ℕ) → (winner indices : ℕ) → List Test
order_of o marks stops trials winner indices =
    options_tests o ++ (mark_bytes 4 marks ∷ later_tests (numbers_in 4 marks) (length (marks_of (numbers_in 4 marks))) (length stops) (length trials) winner indices)

unfoldable pub run_tests : Files → (winner indices : ℕ) → List Test
run_tests f winner indices = options_record f.options ∷ order_of (options_of f.options) f.marks f.stops f.trials winner indices

-- ---- the trials

-- the records, 152 bytes each
unfoldable pub records_in : List ℕ → List (List ℕ)
records_in trials = parts_of 152 trials

-- the same trials as calls, one by one
unfoldable pub call_with : List Float → List ℕ → List ℕ → Call
call_with numbers stops bytes = record { bytes = bytes; marks = numbers; stops = stops }

unfoldable pub calls_of : Files → List Call
calls_of f = map (call_with (numbers_in 4 f.marks) (words_of f.stops)) (records_in f.trials)

unfoldable pub judged_in : RansacOptions → ℕ → List Float → List ℕ → List (List ℕ) → List (Judged Model)
judged_in o n numbers stops records = map (λ bytes. judge_of sheet no_camera o n (call_with numbers stops bytes)) records

-- how the run stops
unfoldable pub stop_of : RansacOptions → ℕ → List Float → List ℕ → List (List ℕ) → Stopped Model
stop_of o n numbers stops records = run_over (rule_of o) (fresh (rule_of o)) (judged_in o n numbers stops records)

-- the winner, 11 without one, or the number of the refused trial
unfoldable pub won_by : Held Model → Answer (Winner Model)
won_by none = refused NONE
won_by (held w) = gives w

unfoldable pub result_of : Stopped Model → Answer (Winner Model)
result_of (stopped b) = won_by b.winner
result_of (broken k) = refused k

-- ---- what the run answers

unfoldable pub after_tests : ℕ → Answer (Winner Model) → Answer (Winner Model)
after_tests zero result = result
after_tests (suc k) result = refused (suc k)

unfoldable pub later_answer : RansacOptions → (numbers : List Float) → (n : ℕ) → (stops trials : List ℕ) → (winner indices : ℕ) → Answer (Winner Model)
later_answer o numbers n stops trials winner indices =
    after_tests (first_failed (later_tests numbers n (length stops) (length trials) winner indices)) (result_of (stop_of o n numbers (words_of stops) (records_in trials)))

unfoldable pub run_answer : Files → (winner indices : ℕ) → Answer (Winner Model)
run_answer f winner indices =
    after_tests (first_failed (run_tests f winner indices))
    (result_of (stop_of (options_of f.options) (length (marks_of (numbers_in 4 f.marks))) (numbers_in 4 f.marks) (words_of f.stops) (records_in f.trials)))

-- 0 or the refusal's number
unfoldable pub number_of : Answer (Winner Model) → ℕ
number_of (refused k) = k
number_of (gives w) = 0

-- ---- what it writes

-- 88 bytes: count, trial number, rms, nine numbers of the standing model
unfoldable pub winner_bytes : Winner Model → List ℕ
winner_bytes w = bytes_of 4 w.count ++ (bytes_of 4 w.number ++ (double_bytes w.rms ++ for_each double_bytes (model_numbers w.model)))

unfoldable pub index_bytes : RansacOptions → List Float → Model → List ℕ
index_bytes o numbers h = for_each (bytes_of 4) (indices_in o.thresh (distances_of sheet no_camera o.ratio numbers h))

-- bytes over the front of a list, which is as long at least
unfoldable pub laid_over : List ℕ → List ℕ → List ℕ
laid_over bytes entry = bytes ++ drop (length bytes) entry

-- Bytes past the last written stay; on a refusal all do.
unfoldable pub written : (Winner Model → List ℕ) → Answer (Winner Model) → List ℕ → List ℕ
written bytes (refused k) entry = entry
written bytes (gives w) entry = laid_over (bytes w) entry

-- What a run that answers `a` gives, and leaves in the two lent lists.
pub record Gave (a : Answer (Winner Model)) (o : RansacOptions) (numbers : List Float) (winner indices : List ℕ) (r : ℕ) (winner' indices' : List ℕ) : Type 0 where
  pub number_is : r ≡ number_of a
  pub winner_is : winner' ≡ written winner_bytes a winner
  pub indices_is : indices' ≡ written (λ w. index_bytes o numbers w.model) a indices

-- how the trials ended, as the program has it: with the last state, or at a refused trial
abbrev pub view_ran : Result (State Sheet Model) Refusal → Stopped Model
view_ran (Ok s) = stopped (book_of s)
view_ran (Err e) = broken (Refused.number_of e)
