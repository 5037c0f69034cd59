-- Document 01, 'Picking rule', with document 02, order 2: the book. It is fed judged calls and keeps four counts, a bound and a winner. It knows nothing of a program's state.
use Rattle.std.specs.Prelude.{Bool, true, cond, ◌&&◌, ◌||◌, List, [], ◌∷◌, ℕ, suc, leb, ltb, eqb, Float}
use Rattle.std.specs.Float.Ieee.{lt}
use Rattle.rule.specs.Refusal.{ENDED}
use Rattle.book.specs.Score.{Options, Standing, Judged, turned_down, empty, few, scored, Judgement}

-- The winner: the standing model, its own count and rms, and the trial's number from 1. (In the terms of the field, the best hypothesis so far.)
pub record Winner (M : Type 0) : Type 0 where
  pub model : M
  pub count : ℕ
  pub rms : Float
  pub number : ℕ

pub data Held (M : Type 0) : Type 0 where
  none : Held M
  held : Winner M → Held M

pub record Book (M : Type 0) : Type 0 where
  pub read : ℕ
  pub empties : ℕ
  pub fews : ℕ
  pub scores : ℕ
  pub bound : ℕ
  pub winner : Held M

-- What became of a trial: 01's empty, few, held and won, or a refusal's number.
pub data Outcome : Type 0 where
  is_refused : ℕ → Outcome
  is_empty : Outcome
  is_few : (count : ℕ) → Outcome
  is_held : (count : ℕ) (rms : Float) → Outcome
  is_won : (count : ℕ) (rms : Float) → Outcome

-- A trial's answer without its state: the outcome, and how many marks are beyond under the fit.
pub record Answer : Type 0 where
  pub outcome : Outcome
  pub beyond : ℕ

-- the book after a call, and its outcome
pub record Entered (M : Type 0) : Type 0 where
  pub book : Book M
  pub outcome : Outcome

-- The bound: raised to the trials read, then lowered to max_iters
unfoldable pub raised : ℕ → ℕ → ℕ
raised least k = cond (ltb k least) least k

unfoldable pub lowered : ℕ → ℕ → ℕ
lowered most k = cond (ltb most k) most k

unfoldable pub bound_after : (most read stop : ℕ) → ℕ
bound_after most read stop = lowered most (raised read stop)

-- The run has ended when trials read ≥ bound.
unfoldable pub ended_at : (read bound : ℕ) → Bool
ended_at read bound = leb bound read

-- Against a winner: its count is higher, or the count is equal and rms less.
unfoldable pub is_better : (count : ℕ) (rms : Float) (best : ℕ) (best-rms : Float) → Bool
is_better count rms best best-rms = ltb best count || (eqb count best && lt rms best-rms)

module _ {M : Type 0} where
  -- It wins if nothing won before, its count is higher, or the count is equal and rms less.
  unfoldable pub beats : Standing M → Held M → Bool
  beats s none = true
  beats s (held w) = is_better s.count s.rms w.count w.rms

  -- the winner after the scored trial of a number
  unfoldable pub winner_after : Standing M → ℕ → Held M → Held M
  winner_after s number before =
      cond (beats s before) (held (record { model = s.model; count = s.count; rms = s.rms; number = number })) before

  unfoldable pub scored_answer : Standing M → Held M → Outcome
  scored_answer s before = cond (beats s before) (is_won s.count s.rms) (is_held s.count s.rms)

  -- a judged call that comes before the end
  unfoldable pub entered : Options → Book M → Judged M → Entered M
  entered o b (turned_down k) = record { book = b; outcome = is_refused k }
  entered o b empty =
      record {
        book = record { read = suc b.read; empties = suc b.empties; fews = b.fews; scores = b.scores; bound = b.bound; winner = b.winner };
        outcome = is_empty;
      }
  entered o b (few count) =
      record {
        book = record { read = suc b.read; empties = b.empties; fews = suc b.fews; scores = b.scores; bound = b.bound; winner = b.winner };
        outcome = is_few count;
      }
  entered o b (scored s) =
      record {
        book =
            record {
              read = suc b.read;
              empties = b.empties;
              fews = b.fews;
              scores = suc b.scores;
              bound = bound_after o.most (suc b.read) s.stop;
              winner = winner_after s (suc b.read) b.winner;
            };
        outcome = scored_answer s b.winner;
      }

  unfoldable pub has_ended : Book M → Bool
  has_ended b = ended_at b.read b.bound

  -- one call: 10 after the end, which leaves the book
  unfoldable pub called : Options → Book M → Judged M → Entered M
  called o b j = cond (has_ended b) (record { book = b; outcome = is_refused ENDED }) (entered o b j)

  -- counts 0, bound max_iters, no winner
  unfoldable pub fresh : Options → Book M
  fresh o = record { read = 0; empties = 0; fews = 0; scores = 0; bound = o.most; winner = none }

  -- ---- a list of calls

  unfoldable pub book_after : Options → Book M → List (Judged M) → Book M
  book_after o b [] = b
  book_after o b (j ∷ js) = book_after o (called o b j).book js

  unfoldable pub outcomes_of : Options → Book M → List (Judged M) → List Outcome
  outcomes_of o b [] = []
  outcomes_of o b (j ∷ js) = (called o b j).outcome ∷ outcomes_of o (called o b j).book js

  -- the book's answers: after the end nothing is measured
  unfoldable pub answers_of : Options → Book M → List (Judgement M) → List Answer
  answers_of o b [] = []
  answers_of o b (j ∷ js) =
      let e = called o b j.worth in
      record { outcome = e.outcome; beyond = cond (has_ended b) 0 j.beyond } ∷ answers_of o e.book js
