-- Document 01, the winner indices: order 11, 5, 6, 7, 18 (document 02, orders 6 and 7), 9 (n places). Places past the last written stay.
use Rattle.std.specs.Prelude.{List, [], ◌∷◌, ◌++◌, ℕ, length, drop, Float}
use Rattle.rule.specs.Refusal.{NONE}
use Rattle.rule.specs.Answer.{Answer, refused}
use Rattle.rule.specs.Order.{Test, first_failed, decided, if_passed, room}
use Rattle.estimator.specs.Family.{Family, distances_of}
use Rattle.estimator.specs.Marks.{of_run, run_tests}
use Rattle.book.specs.Book.{Held, none, held}
use Rattle.records.specs.declared.options.RansacOptions.{RansacOptions}
use Rattle.score.specs.Places.{indices_in}
use Rattle.pick.specs.Run.{Run}

module _ {E M K : Type 0} (f : Family E M K) where
  -- 5, 6, 7, 18, 9
  unfoldable pub marks_order : ℕ → List Float → (places : ℕ) → List Test
  marks_order n marks places = of_run f n marks ∷ (run_tests f marks ++ (room (length (f.marks_of marks)) places ∷ []))

  -- ---- under a candidate: how many indices there are, and the lent list after the call

  unfoldable pub under_answer : E → ℕ → RansacOptions → M → List Float → List ℕ → Answer ℕ
  under_answer e n o h marks entry = decided (first_failed (marks_order n marks (length entry))) (length (indices_in o.thresh (distances_of f e o.ratio marks h)))

  unfoldable pub under_after : E → ℕ → RansacOptions → M → List Float → List ℕ → List ℕ
  under_after e n o h marks entry =
      let xs = indices_in o.thresh (distances_of f e o.ratio marks h) in
      if_passed (first_failed (marks_order n marks (length entry))) (xs ++ drop (length xs) entry) entry

  -- ---- under the winner: 11 where there is none

  unfoldable pub winner_answer : E → ℕ → RansacOptions → Held M → List Float → List ℕ → Answer ℕ
  winner_answer e n o none marks entry = refused NONE
  winner_answer e n o (held w) marks entry = under_answer e n o w.model marks entry

  unfoldable pub winner_after : E → ℕ → RansacOptions → Held M → List Float → List ℕ → List ℕ
  winner_after e n o none marks entry = entry
  winner_after e n o (held w) marks entry = under_after e n o w.model marks entry

  unfoldable pub indices_answer : Run E M → List Float → List ℕ → Answer ℕ
  indices_answer r marks entry = winner_answer r.estimator r.n r.options r.book.winner marks entry

  unfoldable pub indices_after : Run E M → List Float → List ℕ → List ℕ
  indices_after r marks entry = winner_after r.estimator r.n r.options r.book.winner marks entry
