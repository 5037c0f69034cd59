-- The run state, seen as what document 01 says of it: the opening's options and n, and what it has of the book; and what the family's marks are measured by
-- (document 02, order 5: the opening's camera). A view for each enum gives 01's cases.
use Rattle.std.specs.Prelude.{◌≡◌, ℕ, Option, Some, None}
use Rattle.rule.specs.Refusal.{number_of}
use Rattle.rule.specs.Answer.{OneAnswer}
use Rattle.book.specs.Book as Book
use Rattle.book.specs.Book.{Held, none, held, Book, Outcome, is_refused, is_empty, is_few, is_held, is_won}
use Rattle.records.specs.declared.options.RansacOptions.{RansacOptions}
use Rattle.pick.specs.declared.run_state.Winner.{Winner}
use Rattle.pick.specs.declared.run_state.State.{State}
use Rattle.pick.specs.declared.run_state.Outcome.{Outcome as Answered}
use Rattle.pick.specs.declared.run_state.Outcome.TheVariants.{Refused, Empty, Few, Held as HeldWith, Won}
use Rattle.pick.specs.declared.run_state.Tried.{Tried}

pub record Run (E M : Type 0) : Type 0 where
  pub estimator : E
  pub options : RansacOptions
  pub n : ℕ
  pub book : Book M

abbrev pub view_winner : {M : Type 0} → Winner M → Book.Winner M
view_winner w = record { model = w.model; count = w.count; rms = w.rms; number = w.number }

abbrev pub view_best : {M : Type 0} → Option (Winner M) → Held M
view_best None = none
view_best (Some w) = held (view_winner w)

abbrev pub book_of : {E M : Type 0} → State E M → Book M
book_of s =
    record {
      read = s.counts.read;
      empties = s.counts.empty;
      fews = s.counts.few;
      scores = s.counts.scored;
      bound = s.counts.bound;
      winner = view_best s.winner;
    }

abbrev pub view_state : {E M : Type 0} → State E M → Run E M
view_state s = record { estimator = s.estimator; options = s.options; n = s.n; book = book_of s }

abbrev pub view_outcome : Answered → Outcome
view_outcome (Refused e) = is_refused (number_of e)
view_outcome Empty = is_empty
view_outcome (Few count) = is_few count
view_outcome (HeldWith count rms) = is_held count rms
view_outcome (Won count rms) = is_won count rms

-- what the book makes of a judged trial: the new state and the outcome
pub record Booking (E M : Type 0) : Type 0 where
  pub run : Run E M
  pub outcome : Outcome

-- a trial's answer: the new state, the outcome, and how many marks are beyond under the fit
pub record Answer (E M : Type 0) : Type 0 where
  pub run : Run E M
  pub outcome : Outcome
  pub beyond : ℕ

abbrev pub view_tried : {E M : Type 0} → Tried E M → Answer E M
view_tried t = record { run = view_state t.state; outcome = view_outcome t.outcome; beyond = t.beyond }

-- Two states, or two answers, of which these views say the same are the same: so the contracts by them leave one answer.
pub record OneState (E M : Type 0) : Type 0 where
  pub state : (x y : State E M) → view_state x ≡ view_state y → x ≡ y
  pub given : OneAnswer {A = State E M} view_state
  pub tried : (x y : Tried E M) → view_tried x ≡ view_tried y → x ≡ y
