-- Document 01, the opening: from the options type, and from a record, which alone can be 1. Tests 1 to 4, 16 (document 02, order 3), 5, 6, 7, 18 (orders 6 and 7),
-- 8, and what the family asks (order 5: 17 of a camera).
use Rattle.std.specs.Prelude.{List, ◌∷◌, ◌++◌, ℕ, length, Float}
use Rattle.rule.specs.Answer.{Answer}
use Rattle.rule.specs.Order.{Test, first_failed, decided}
use Rattle.estimator.specs.Family.{Family}
use Rattle.estimator.specs.Marks.{entries, run_tests}
use Rattle.book.specs.Book.{fresh}
use Rattle.records.specs.Options.{options_record, options_of, options_tests}
use Rattle.records.specs.declared.options.RansacOptions.{RansacOptions}
use Rattle.judge.specs.Judging.{rule_of}
use Rattle.pick.specs.Run.{Run}

-- counts 0, bound max_iters, no winner
unfoldable pub fresh_run : {E M : Type 0} → E → RansacOptions → ℕ → Run E M
fresh_run e o n = record { estimator = e; options = o; n = n; book = fresh (rule_of o) }

module _ {E M K : Type 0} (f : Family E M K) (e : E) where
  unfoldable pub opening_tests : RansacOptions → List Float → List ℕ → List Test
  opening_tests o marks stops = options_tests o ++ (run_tests f marks ++ (entries f marks stops ∷ f.tests e))

  unfoldable pub opening_answer : RansacOptions → List Float → List ℕ → Answer (Run E M)
  opening_answer o marks stops = decided (first_failed (opening_tests o marks stops)) (fresh_run e o (length (f.marks_of marks)))

  unfoldable pub record_answer : List ℕ → List Float → List ℕ → Answer (Run E M)
  record_answer bytes marks stops =
      decided (first_failed (options_record bytes ∷ opening_tests (options_of bytes) marks stops)) (fresh_run e (options_of bytes) (length (f.marks_of marks)))
