-- What an accepted opening promises of the calls after it that have its marks, on every state.
use Rattle.std.specs.Prelude.{◌≡◌, List, ℕ, ◌≤◌, length, Float, Ok}
use Rattle.rule.specs.Answer.{gives, told}
use Rattle.estimator.specs.Family.{Family, distances_of}
use Rattle.book.specs.Book.{Winner, held}
use Rattle.records.specs.declared.options.RansacOptions.{RansacOptions}
use Rattle.score.specs.Places.{indices_in}
use Rattle.judge.specs.Judging.{Call}
use Rattle.pick.specs.Run.{view_best, view_state}
use Rattle.pick.specs.Opening.{opening_answer}
use Rattle.pick.specs.Trial.{trial_answer, step_answer}
use Rattle.pick.specs.Indices.{indices_answer}
use Rattle.pick.specs.declared.run_state.State.{State}

-- it gave a state
abbrev pub Opened : {E M K : Type 0} → Family E M K → E → RansacOptions → (marks : List Float) → (stops : List ℕ) → Type 0
Opened {E} {M} f e o marks stops = (s₀ : State E M) × (told view_state (Ok s₀) ≡ opening_answer f e o marks stops)

pub record AfterOpening {E M K : Type 0} (f : Family E M K) : Type 0 where
  -- A trial without tests 6 and 18 (`step`) answers as one with them (`trial`).
  pub steps_as_trial : (e : E) (o : RansacOptions) (marks : List Float) (stops : List ℕ) → Opened f e o marks stops → (s : State E M) (c : Call) → c.marks ≡ marks
      → step_answer f (view_state s) c ≡ trial_answer f (view_state s) c
  -- The indices of a winner that is held are written where there is a place a mark.
  pub indices_written : (e : E) (o : RansacOptions) (marks : List Float) (stops : List ℕ) → Opened f e o marks stops → (s : State E M) → s.n ≡ length (f.marks_of marks)
      → (w : Winner M) → view_best s.winner ≡ held w → (entry : List ℕ) → length (f.marks_of marks) ≤ length entry
      → indices_answer f (view_state s) marks entry ≡ gives (length (indices_in s.options.thresh (distances_of f s.estimator s.options.ratio marks w.model)))
