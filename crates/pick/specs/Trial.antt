-- Document 01, a trial: order 10, 5, 6, 7, 18 (document 02, orders 6 and 7), 8, 1, then what the book makes of it; and order 2, the number beyond. For all
-- states, whoever made them.
use Rattle.std.specs.Prelude.{cond, List, ℕ, suc, Float, Result, Ok, Err}
use Rattle.rule.specs.declared.Refusal.{Refusal}
use Rattle.rule.specs.Refusal.{number_of}
use Rattle.rule.specs.Answer.{Answer as Answering, refused, gives}
use Rattle.estimator.specs.Family.{Family}
use Rattle.book.specs.Score.{Judged, Judgement}
use Rattle.book.specs.Book.{Held, is_refused, Entered, entered, bound_after}
use Rattle.book.specs.Calls.{is_closed, is_refusal, number_in, tried}
use Rattle.judge.specs.Judging.{rule_of, Call, judge_tested, judgement_of, judgement_tested, squares_left}
use Rattle.pick.specs.Run.{Run, Booking, Answer, book_of, view_state, view_tried}
use Rattle.pick.specs.declared.run_state.State.{State}
use Rattle.pick.specs.declared.run_state.Tried.{Tried}

-- the run after an entry into its book, and the outcome
abbrev pub booking_of : {E M : Type 0} → Run E M → Entered M → Booking E M
booking_of r e = record { run = record { estimator = r.estimator; options = r.options; n = r.n; book = e.book }; outcome = e.outcome }

-- what the book makes of a judged trial, before the end
abbrev pub booked : {E M : Type 0} → State E M → Judged M → Booking E M
booked s j = booking_of (view_state s) (entered (rule_of s.options) (book_of s) j)

abbrev pub tried_in : {E M : Type 0} → Run E M → Judged M → Booking E M
tried_in r j = booking_of r (tried (rule_of r.options) r.book j)

-- the answer to a call: besides, how many marks are beyond under its fit
abbrev pub answer_of : {E M : Type 0} → Booking E M → ℕ → Answer E M
answer_of b beyond = record { run = b.run; outcome = b.outcome; beyond = beyond }

-- after the end nothing is measured
abbrev pub tried_with : {E M : Type 0} → Run E M → Judgement M → Answer E M
tried_with r j = answer_of (tried_in r j.worth) (cond (is_closed r.book) 0 j.beyond)

unfoldable pub trial_answer : {E M K : Type 0} → Family E M K → Run E M → Call → Answer E M
trial_answer f r c = tried_with r (judgement_of f r.estimator r.options r.n c)

-- the same without tests 6 and 18, for marks that were tested before
unfoldable pub step_answer : {E M K : Type 0} → Family E M K → Run E M → Call → Answer E M
step_answer f r c = tried_with r (judgement_tested f r.estimator r.options r.n c)

-- the answer where a trial is refused: the old state and the number
abbrev pub refused_with : {E M : Type 0} → Run E M → ℕ → Answer E M
refused_with r k = record { run = r; outcome = is_refused k; beyond = 0 }

abbrev pub answer_in : {E M : Type 0} → State E M → Result (Tried E M) Refusal → Answer E M
answer_in s (Ok t) = view_tried t
answer_in s (Err e) = refused_with (view_state s) (number_of e)

-- ---- the same for a run that gives no answer: its state alone

unfoldable pub step_booking : {E M K : Type 0} → Family E M K → Run E M → Call → Booking E M
step_booking f r c = tried_in r (judge_tested f r.estimator r.options r.n c)

-- the next state, or the refusal
unfoldable pub next_of : {E M : Type 0} → Booking E M → Answering (Run E M)
next_of a = cond (is_refusal a.outcome) (refused (number_in a.outcome)) (gives a.run)

-- the run after a scored trial, with its winner then and its stop entry
abbrev pub scored_run : {E M : Type 0} → Run E M → Held M → ℕ → Run E M
scored_run r winner stop =
    let b = r.book in
    record {
      estimator = r.estimator;
      options = r.options;
      n = r.n;
      book =
          record {
            read = suc b.read;
            empties = b.empties;
            fews = b.fews;
            scores = suc b.scores;
            bound = bound_after r.options.max_iters (suc b.read) stop;
            winner = winner;
          };
    }

-- the list of squares that is lent, after the call: a run that has ended leaves it
unfoldable pub squares_then : {E M K : Type 0} → Family E M K → Run E M → Call → List Float → List Float
squares_then f r c entry = cond (is_closed r.book) entry (squares_left f r.estimator r.options r.n c entry)
