-- The run's layers: what each set of tests says where it passes, and what the tests before it leave of the run's answer. Assumes nothing.
use mathlib.Core.Path.{◌≡◌, refl, sym, ap, ◌∙◌}
use mathlib.Core.Bool.{Bool, true, false, cond}
use mathlib.Core.List.{List, [], ◌∷◌, ◌++◌}
use Prim.Native.Nat.{ℕ, zero, suc, ◌*◌, ◌%◌, ◌≤◌, ◌<◌}
use native.Mathlib.Omega.{arith}
use borrow.Author.Tests.{eqb-true, ltb-false, not-false}
use lib.Dec.{T, eqb, eqb-suc-zero}
use lib.ListN.{length, take}
use lib.Ieee.{Float}
use Rattle.rule.specs.declared.Refusal.{Refusal}
use Rattle.rule.specs.Refusal.{RECORD, SHAPE, number_of}
use Rattle.rule.specs.Answer.{Answer, refused, gives}
use Rattle.rule.specs.Order.{Test, first_failed, room}
use Rattle.rule.specs.Lists.{filled}
use Rattle.rule.proofs.Order.{front, numbered, first_passed, all_passed, none_failed}
use Rattle.rule.proofs.Lists.{filled_front}
use Rattle.rule.proofs.Views.{number_above_0}
use Rattle.estimator.specs.Marks.{enough_tests, run_tests as tests_of_marks}
use Rattle.estimator.proofs.Tests.{shaped}
use Rattle.estimator.proofs.Run.{enough_numbered, enough_left, enough_first}
use Rattle.estimator.proofs.Order.{above_0}
use Rattle.sheet.specs.Marks.{marks_of}
use Rattle.sheet.specs.Sheets.{sheet}
use Rattle.sheet.specs.Owed.{counts}
use Rattle.sheet.specs.declared.model.Model.{Model}
use Rattle.book.specs.Book.{Winner}
use Rattle.fields.specs.Fields.{words_of}
use Rattle.fields.proofs.Reading.{words_count}
use Rattle.records.specs.Options.{options_record, options_of, options_tests}
use Rattle.records.specs.Marks.{mark_bytes, numbers_in}
use Rattle.records.specs.declared.options.RansacOptions.{RansacOptions}
use Rattle.records.proofs.Formed.{options_above_0}
use Rattle.salghemu.specs.Whole.{Files, stop_bytes, trial_bytes, later_tests, order_of, run_tests, records_in, stop_of, result_of, after_tests, later_answer, run_answer}

-- ---- by the number of the tests

-- where a refusal has it
pub after_number : (e : Refusal) (a : Answer (Winner Model)) → after_tests (number_of e) a ≡ refused (number_of e)
unfolding after_tests
after_number e a = go (number_of e) (number_above_0 e)
  where
    go : (k : ℕ) → (k ≡ 0 → ⊥) → after_tests k a ≡ refused k
    go zero above = absurd (above refl)
    go (suc k) above = refl

pub after_none : (a : Answer (Winner Model)) → after_tests 0 a ≡ a
unfolding after_tests
after_none a = refl

-- of some tests and those after them
after_both : (ts us : List Test) → T (numbered ts) → (a : Answer (Winner Model)) → after_tests (first_failed (ts ++ us)) a ≡ after_tests (first_failed ts) (after_tests (first_failed us) a)
unfolding after_tests
after_both ts us above a = rw (front ts us above) (go (first_failed ts))
  where
    go : (k : ℕ) → after_tests (cond (eqb k 0) (first_failed us) k) a ≡ after_tests k (after_tests (first_failed us) a)
    go zero = refl
    go (suc k) = rw (eqb-suc-zero k)

-- of one test alone
after_one : (fails : Bool) (k : ℕ) (a : Answer (Winner Model)) → 0 < k → after_tests (cond fails k 0) a ≡ cond fails (refused k) a
unfolding after_tests
after_one true zero a above = absurd (omega (arith, above))
after_one true (suc k) a above = refl
after_one false k a above = refl

-- what each set of the run's tests leaves to the next
module _ (f : Files) (winner indices : ℕ) where
  abbrev o : RansacOptions
  o = options_of f.options

  abbrev n : ℕ
  n = length (marks_of (numbers_in 4 f.marks))

  abbrev rest : List Test
  rest = later_tests (numbers_in 4 f.marks) n (length f.stops) (length f.trials) winner indices

  pub by_layers : run_answer f winner indices
      ≡ cond (options_record f.options).fails (refused RECORD)
      (after_tests (first_failed (options_tests o)) (cond (mark_bytes 4 f.marks).fails (refused SHAPE) (later_answer o (numbers_in 4 f.marks) n f.stops f.trials winner indices)))
  unfolding run_answer later_answer run_tests order_of numbered first_failed options_record mark_bytes
  by_layers =
      let a = result_of (stop_of o n (numbers_in 4 f.marks) (words_of f.stops) (records_in f.trials)) in
      after_both (options_record f.options ∷ []) (options_tests o ++ (mark_bytes 4 f.marks ∷ rest)) tt a
      ∙ after_one (options_record f.options).fails RECORD _ (omega arith)
      ∙ ap (cond (options_record f.options).fails (refused RECORD)) (after_both (options_tests o) (mark_bytes 4 f.marks ∷ rest) (options_above_0 o) a
      ∙ ap (after_tests (first_failed (options_tests o))) (after_both (mark_bytes 4 f.marks ∷ []) rest tt a ∙ after_one (mark_bytes 4 f.marks).fails SHAPE _ (omega arith)))

-- ---- the later tests: of marks whose length was tested

pub enough_of_run : (l : List Float) → length l % 4 ≡ 0 → length l ≤ 8000 → first_failed (enough_tests sheet l) ≡ first_failed (tests_of_marks sheet l)
enough_of_run l whole short = enough_left sheet l (shaped sheet l whole short)

-- what they say where they all pass

record Passed (l : List Float) (table winner indices : ℕ) : Type 0 where
  marks : first_failed (enough_tests sheet l) ≡ 0
  entries : table ≡ 4 * suc (length (marks_of l))
  winner-room : 88 ≤ winner
  index_room : 4 * length (marks_of l) ≤ indices

module _ (l : List Float) (table trials winner indices : ℕ) (passed : 0 ≡ first_failed (later_tests l (length (marks_of l)) table trials winner indices)) where
  all_passed_is : Passed l table winner indices
  unfolding later_tests stop_bytes trial_bytes room
  all_passed_is =
      let a = none_failed (enough_tests sheet l) _ (sym passed) in
      let b = all_passed (enough_tests sheet l) _ (enough_numbered sheet l) a ∙ sym passed in
      let c = first_passed (stop_bytes (length (marks_of l)) table) _ tt b in
      let d = first_passed (trial_bytes trials) _ tt c.1 in
      let e = first_passed (room 88 winner) _ tt d.1 in
      let f = first_passed (room (4 * length (marks_of l)) indices) [] tt e.1 in
      record {
        marks = a;
        entries = eqb-true table (4 * suc (length (marks_of l))) (not-false (eqb table (4 * suc (length (marks_of l)))) c.0);
        winner-room = ltb-false winner 88 e.0;
        index_room = ltb-false indices (4 * length (marks_of l)) f.0;
      }

  pub marks_tested : length l % 4 ≡ 0 → length l ≤ 8000 → 0 ≡ first_failed (tests_of_marks sheet l)
  marks_tested whole short = sym all_passed_is.marks ∙ enough_of_run l whole short

  pub stops_fit : table ≡ 4 * suc (length (marks_of l))
  stops_fit = all_passed_is.entries

-- a winner is given only where they pass
module _ (o : RansacOptions) (l : List Float) (table trials : List ℕ) (winner indices : ℕ) {w : Winner Model} (given : gives w ≡ later_answer o l (length (marks_of l)) table trials winner indices) where
  given_passed : Passed l (length table) winner indices
  unfolding later_answer after_tests
  given_passed = all_passed_is l (length table) (length trials) winner indices (passed _ _ given)
    where
      passed : (k : ℕ) (a : Answer (Winner Model)) → gives w ≡ after_tests k a → 0 ≡ k
      passed zero a e = refl
      passed (suc k) a e = cc

  pub winner_fits : 88 ≤ winner
  winner_fits = given_passed.winner-room

  pub indices_fit : 4 * length (marks_of l) ≤ indices
  indices_fit = given_passed.index_room

-- ---- the front of a local list that was filled

pub entries_read : (bytes zeros : List ℕ) {k : ℕ} → length bytes ≡ 4 * k → k ≤ length zeros → take k (filled (words_of bytes) zeros) ≡ words_of bytes
entries_read bytes zeros {k} e h =
    let w : length (words_of bytes) ≡ k = (let c = words_count bytes in omega (arith, c, e)) in
    ap (λ j. take j (filled (words_of bytes) zeros)) (sym w) ∙ filled_front (words_of bytes) zeros (rw w h)

-- ---- what the proof of each layer takes

pub ruleset whole = (after_number, after_none, by_layers)

pub ruleset later = (after_number, stops_fit, marks_tested, entries_read, counts)

pub ruleset tested = (counts, enough_first, above_0, enough_of_run)
