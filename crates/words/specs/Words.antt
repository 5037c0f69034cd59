-- A state as words, 25 of a sheet and 32 of a form, and a trial's answer as four more, for a caller in C or Rust. A double is its bit pattern, and all NaNs are
-- one; a flag is 0 or 1.
use Rattle.std.specs.Prelude.{Bool, cond, not, List, [], ◌∷◌, ◌++◌, map, ℕ, ◌+◌, ◌%◌, eqb, get_or, replicate, Float}
use Rattle.std.specs.List.{range_with_len}
use Rattle.std.specs.Float.{binary64}
use Rattle.std.specs.Float.Ieee.{of_bits, to_bits}
use Rattle.estimator.specs.Family.{Family}
use Rattle.book.specs.Book.{Winner, Held, none, held, Outcome, is_refused, is_empty, is_few, is_held, is_won}
use Rattle.records.specs.declared.options.RansacOptions.{RansacOptions}
use Rattle.pick.specs.Run.{Run, Answer}

-- ---- writing

abbrev pub bits : Float → ℕ
bits x = to_bits binary64 x

abbrev pub bit : Bool → ℕ
bit b = cond b 1 0

-- words 0 to 4
abbrev pub option_words : RansacOptions → List ℕ
option_words o = bits o.thresh ∷ bits o.confidence ∷ o.max_iters ∷ o.min_inliers ∷ bit o.refit ∷ []

-- the word behind the winner's; word 5 where the options stand by themselves
abbrev pub ratio_word : RansacOptions → List ℕ
ratio_word o = bits o.ratio ∷ []

abbrev pub made_words : RansacOptions → List ℕ
made_words o = option_words o ++ ratio_word o

-- words 5 to 10
abbrev pub count_words : {E M : Type 0} → Run E M → List ℕ
count_words r = r.n ∷ r.book.read ∷ r.book.empties ∷ r.book.fews ∷ r.book.scores ∷ r.book.bound ∷ []

-- words 11 to 14, where a winner is held
abbrev pub held_words : {M : Type 0} → Winner M → List ℕ
held_words w = 1 ∷ w.count ∷ w.number ∷ bits w.rms ∷ []

-- which outcome, the refusal's number or the count, and the root mean square
abbrev pub outcome_words : Outcome → List ℕ
outcome_words (is_refused k) = 0 ∷ k ∷ 0 ∷ []
outcome_words is_empty = 1 ∷ 0 ∷ 0 ∷ []
outcome_words (is_few count) = 2 ∷ count ∷ 0 ∷ []
outcome_words (is_held count rms) = 3 ∷ count ∷ bits rms ∷ []
outcome_words (is_won count rms) = 4 ∷ count ∷ bits rms ∷ []

-- a trial's answer behind the new state's words: the outcome, and the number beyond
abbrev pub told_words : {E M : Type 0} → Answer E M → List ℕ
told_words t = outcome_words t.outcome ++ (t.beyond ∷ [])

module _ {E M K : Type 0} (f : Family E M K) where
  -- words 11 on, up to the ratio's: zeros where no winner is held
  unfoldable pub winner_words : Held M → List ℕ
  winner_words none = replicate (4 + f.size) 0
  winner_words (held w) = held_words w ++ map bits (f.model_numbers w.model)

  -- `own` gives the numbers of E's value, which stand last: four of a camera
  unfoldable pub run_words : (own : E → List Float) → Run E M → List ℕ
  run_words own r = option_words r.options ++ count_words r ++ winner_words r.book.winner ++ ratio_word r.options ++ map bits (own r.estimator)

  unfoldable pub tried_words : (own : E → List Float) → Answer E M → List ℕ
  tried_words own t = run_words own t.run ++ told_words t

-- ---- reading

-- the word at a place as a number below 2^32, as a double, and as a flag, of which 0 alone is no
abbrev pub small_at : List ℕ → ℕ → ℕ
small_at l i = get_or l i 0 % 0x1_0000_0000

abbrev pub number_at : List ℕ → ℕ → Float
number_at l i = of_bits binary64 (get_or l i 0)

abbrev pub flag_at : List ℕ → ℕ → Bool
flag_at l i = not (eqb (get_or l i 0) 0)

-- n numbers, from a place on
abbrev pub numbers_from : (place n : ℕ) → List ℕ → List Float
numbers_from place n l = map (λ i. number_at l (place + i)) (range_with_len 0 n)

-- the winner, by its model
unfoldable pub winner_in : {M : Type 0} → M → List ℕ → Held M
winner_in h l = cond (flag_at l 11) (held (record { model = h; count = small_at l 12; rms = number_at l 14; number = small_at l 13 })) none

-- the options, by the place of the ratio
unfoldable pub options_in : (place : ℕ) → List ℕ → RansacOptions
options_in place l =
    record {
      thresh = number_at l 0;
      confidence = number_at l 1;
      max_iters = small_at l 2;
      min_inliers = small_at l 3;
      refit = flag_at l 4;
      ratio = number_at l place;
    }

module _ {E M K : Type 0} (f : Family E M K) where
  -- the run, by E's value and the winner's model
  unfoldable pub run_of : E → M → List ℕ → Run E M
  run_of e h l =
      record {
        estimator = e;
        options = options_in (15 + f.size) l;
        n = get_or l 5 0;
        book =
            record {
              read = small_at l 6;
              empties = small_at l 7;
              fews = small_at l 8;
              scores = small_at l 9;
              bound = small_at l 10;
              winner = winner_in h l;
            };
      }

  -- the run, by E's value
  abbrev pub run_in : E → List ℕ → Run E M
  run_in e l = run_of e (f.model_of (numbers_from 15 f.size l)) l
