-- Demand 3, in terms of the book: what holds after a list of calls, and of a whole run. `picking_rule` and `run_exact` of src/ promise both.
use Rattle.std.specs.Prelude.{◌≡◌, ◌⊎◌, true, false, not, cond, List, [], ◌∷◌, map, ℕ, suc, ◌+◌, ◌≤◌, ◌<◌, T, length, get_or, take, Float}
use Rattle.std.specs.Float.Ieee.{le, eq}
use Rattle.rule.specs.Arith.{clear}
use Rattle.rule.specs.Lists.{every}
use Rattle.book.specs.Score.{Options, Standing, Judged, turned_down, empty, few, scored, Judgement}
use Rattle.book.specs.Book.{Winner, Held, none, held, Book, Outcome, Answer, is_refused, is_empty, is_few, is_held, is_won, entered, has_ended, fresh, book_after, outcomes_of, answers_of}
use Rattle.book.specs.Calls.{is_refusal}

-- ---- the scored trials of a list, read off the outcomes that the caller saw

pub record Score : Type 0 where
  pub number : ℕ
  pub count : ℕ
  pub rms : Float

-- The trials read are numbered from 1: every outcome but a refusal is one. `read` is how many there were before.
unfoldable pub scores_in : (read : ℕ) → List Outcome → List Score
scores_in read [] = []
scores_in read (is_refused k ∷ rest) = scores_in read rest
scores_in read (is_empty ∷ rest) = scores_in (suc read) rest
scores_in read (is_few count ∷ rest) = scores_in (suc read) rest
scores_in read (is_held count rms ∷ rest) = record { number = suc read; count = count; rms = rms } ∷ scores_in (suc read) rest
scores_in read (is_won count rms ∷ rest) = record { number = suc read; count = count; rms = rms } ∷ scores_in (suc read) rest

pub data Among {A : Type 0} (a : A) : List A → Type 0 where
  first : {l : List A} → Among a (a ∷ l)
  later : {b : A} {l : List A} → Among a l → Among a (b ∷ l)

-- ---- the winner

unfoldable pub score_of : {M : Type 0} → Winner M → Score
score_of w = record { number = w.number; count = w.count; rms = w.rms }

-- 'every other scored trial has at most that count, with the same count at least its root mean square, and with both the same it came later'
pub record Behind (w e : Score) : Type 0 where
  pub fewer : e.count ≤ w.count
  pub wider : e.count ≡ w.count → T (le w.rms e.rms)
  pub later : e.count ≡ w.count → T (eq w.rms e.rms) → w.number < e.number

pub record Best (w : Score) (scores : List Score) : Type 0 where
  -- it is one of the scored trials, and no other has its number
  pub own : Among w scores
  pub single : (e : Score) → Among e scores → e.number ≡ w.number → e ≡ w
  pub others : (e : Score) → Among e scores → (e.number ≡ w.number → ⊥) → Behind w e

-- without a scored trial no winner, and without a winner no scored trial
unfoldable pub Picks : {M : Type 0} → Held M → List Score → Type 0
Picks none scores = scores ≡ []
Picks (held w) scores = Best (score_of w) scores

-- ---- after a list of calls, of which `judge` says what each comes to by itself

pub record Kept {C M : Type 0} (o : Options) (judge : C → Judgement M) (calls : List C) (answers : List Answer) (b : Book M) : Type 0 where
  -- 'every answer, and the state's winner, counts and bound, are those of 01's book'
  pub answered : answers ≡ answers_of o (fresh o) (map judge calls)
  pub booked : b ≡ book_after o (fresh o) (map (λ c. (judge c).worth) calls)
  -- 'trials read = empty + few + scored'
  pub counted : b.read ≡ b.empties + b.fews + b.scores
  -- 'The winner's count of marks is the largest', and what follows it
  pub picked : Picks b.winner (scores_in 0 (map (λ a. a.outcome) answers))

-- The rule, of the book alone: whatever the calls are and whatever each comes to, the answers that the book gives and the book that they leave are so. It asks
-- that no root mean square that is scored among them is a NaN or has its sign set.
abbrev pub PickingRule : (C M : Type 0) → Type 0
PickingRule C M =
    (o : Options) (judge : C → Judgement M) (calls : List C) → ((c : C) → Among c calls → (s : Standing M) → (judge c).worth ≡ scored s → T (clear s.rms))
    → Kept o judge calls (answers_of o (fresh o) (map judge calls)) (book_after o (fresh o) (map (λ c. (judge c).worth) calls))

-- ---- the whole run

-- it stopped with the book as it is then, or at a refused trial
pub data Stopped (M : Type 0) : Type 0 where
  stopped : Book M → Stopped M
  broken : ℕ → Stopped M

module _ {M : Type 0} where
  -- 'this book over its records, to the first refused, the bound or the end'
  unfoldable pub run_over : Options → Book M → List (Judged M) → Stopped M
  run_over o b [] = stopped b
  run_over o b (turned_down k ∷ js) = cond (has_ended b) (stopped b) (broken k)
  run_over o b (empty ∷ js) = cond (has_ended b) (stopped b) (run_over o (entered o b empty).book js)
  run_over o b (few count ∷ js) = cond (has_ended b) (stopped b) (run_over o (entered o b (few count)).book js)
  run_over o b (scored s ∷ js) = cond (has_ended b) (stopped b) (run_over o (entered o b (scored s)).book js)

  -- Exactly how far it reads: `read` calls, none of them refused.
  pub record ReadTo (o : Options) (calls : List (Judged M)) (result : Stopped M) (read : ℕ) : Type 0 where
    pub inside : read ≤ length calls
    pub accepted : every (λ a. not (is_refusal a)) (outcomes_of o (fresh o) (take read calls)) ≡ true
    -- then comes the bound or the end, or before either a trial that is refused
    pub ends :
        (((has_ended (book_after o (fresh o) (take read calls)) ≡ true) ⊎ (read ≡ length calls)) × (result ≡ stopped (book_after o (fresh o) (take read calls))))
        ⊎ ((has_ended (book_after o (fresh o) (take read calls)) ≡ false) × (read < length calls) × ((k : ℕ) × ((get_or calls read empty ≡ turned_down k) × (result ≡ broken k))))

-- The run over any list reads just so far.
abbrev pub RunExact : (M : Type 0) → Type 0
RunExact M = (o : Options) (calls : List (Judged M)) → (read : ℕ) × ReadTo o calls (run_over o (fresh o) calls) read
