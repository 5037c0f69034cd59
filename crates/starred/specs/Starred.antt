-- Document 01, 'Sheets to try': the starred cases, one list; with the number beyond of document 02, order 2. `proofs/Proved.antt` proves it, of the definitions.
-- Those of the root, the quadratic and the distance are run too, beside cases without a star, by the program `cases`; those of trials by the comparison
-- with the Rust.
use Rattle.std.specs.Prelude.{◌≡◌, Bool, true, false, List, [], ◌∷◌, map, ℕ, ◌^◌, Float}
use Rattle.std.specs.Float.{binary64}
use Rattle.std.specs.Float.Ieee.{round, neg}
use Rattle.rule.specs.Answer.{gives}
use Rattle.rule.specs.Lists.{count_of}
use Rattle.root.specs.Root.{root_answer}
use Rattle.numbers.specs.Quadratic.{quadratic_answer}
use Rattle.numbers.specs.Constants.{infinity}
use Rattle.book.specs.Score.{Options, Trial, fitted, refitted, count_in, Judged, few, scored, Judgement, beyond_fit, judge_trial}
use Rattle.book.specs.Book.{held, Answer, is_few, is_won, fresh, book_after, answers_of}
use Rattle.numbers.specs.Measure.{beyond}
use Rattle.estimator.specs.Family.{measure_of, distance_of, inlier}
use Rattle.sheet.specs.Distance.{beyond_under}
use Rattle.sheet.specs.Sheets.{sheet, no_camera}
use Rattle.sheet.specs.declared.marks.Mark.{Mark}
use Rattle.sheet.specs.declared.model.Model.{Model}

-- a whole number as a double, and 2 ^ -k
abbrev pub whole : ℕ → Float
whole n = round binary64 false n 1

abbrev pub power : ℕ → Float
power k = round binary64 false 1 (2 ^ k)

abbrev at : (x y u v : ℕ) → Mark
at x y u v = record { x = whole x; y = whole y; u = whole u; v = whole v }

-- the identity but for h5 and h8
abbrev model : (h5 h8 : Float) → Model
model h5 h8 =
    record { h0 = whole 1; h1 = whole 0; h2 = whole 0; h3 = whole 0; h4 = whole 1; h5 = h5; h6 = whole 0; h7 = whole 0; h8 = h8 }

-- the square: its corners and its middle, whose pixel is off by 3
abbrev pub square : List Mark
square = at 0 0 0 0 ∷ at 100 0 100 0 ∷ at 100 100 100 100 ∷ at 0 100 0 100 ∷ at 50 50 50 53 ∷ []

-- the identity, the identity with h5 = 3, and the identity with h8 = -1
abbrev pub I : Model
I = model (whole 0) (whole 1)

abbrev pub T : Model
T = model (whole 3) (whole 1)

abbrev pub behind : Model
behind = model (whole 0) (neg (whole 1))

-- the distances of the square's marks, with ratio 1, and how many marks are within the threshold
abbrev distances : Model → List Float
distances h = map (distance_of sheet no_camera (whole 1) h) square

abbrev within : Model → (thresh : Float) → ℕ
within h thresh = count_of (inlier sheet no_camera (whole 1) h thresh) square

-- ---- trials on the square

abbrev opts : Float → ℕ → Bool → Options
opts thresh least refits = record { thresh = thresh; most = 10; least = least; refits = refits }

-- what a trial comes to, with the stop list 9 9 9 9 3 9 of the worked run
abbrev trial : Options → Trial Model → Judged Model
trial o t = judge_trial o distances (9 ∷ 9 ∷ 9 ∷ 9 ∷ 3 ∷ 9 ∷ []) t

-- the same with the number beyond
abbrev judgement : Options → Trial Model → Judgement Model
judgement o t = record { worth = trial o t; beyond = beyond_fit (λ h. count_of (beyond_under h) square) t }

-- the book's answer to one trial
abbrev answers : Options → Trial Model → List Answer
answers o t = answers_of o (fresh o) (judgement o t ∷ [])

abbrev stands : Model → ℕ → Float → ℕ → Judged Model
stands h count rms stop = scored (record { model = h; count = count; rms = rms; stop = stop })

pub record Starred : Type 0 where
  pub under_I : distances I ≡ whole 0 ∷ whole 0 ∷ whole 0 ∷ whole 0 ∷ whole 3 ∷ []
  pub under_T : distances T ≡ whole 3 ∷ whole 3 ∷ whole 3 ∷ whole 3 ∷ whole 0 ∷ []
  pub I_within_2 : within I (whole 2) ≡ 4
  pub I_within_3 : within I (whole 3) ≡ 5
  pub T_within_2 : within T (whole 2) ≡ 1
  pub none_behind : within behind (whole 2) ≡ 0
  -- I, thresh 2: 4 marks, rms 0. Thresh 3: 5 marks.
  pub I_scored : trial (opts (whole 2) 4 false) (fitted I) ≡ stands I 4 (whole 0) 3
  pub I_scores_5 : count_in (whole 3) (distances I) ≡ 5
  pub T_few : trial (opts (whole 2) 4 false) (fitted T) ≡ few 1
  -- fit I, refit T, thresh 2, refit on: min 4 keeps I; min 1 takes T, count 1
  pub refit_too_low : trial (opts (whole 2) 4 true) (refitted I T) ≡ stands I 4 (whole 0) 3
  pub refit_stands : trial (opts (whole 2) 1 true) (refitted I T) ≡ stands T 1 (whole 0) 9
  -- I with h8 = -1: few at min 1; scored at min 0, rms infinite
  pub behind_few : trial (opts (whole 2) 1 false) (fitted behind) ≡ few 0
  pub behind_scored : trial (opts (whole 2) 0 false) (fitted behind) ≡ stands behind 0 infinity 10
  -- the same, each mark beyond: the answer has 5 of them (document 02, order 2)
  pub all_beyond : map (measure_of sheet no_camera (whole 1) behind) square ≡ beyond ∷ beyond ∷ beyond ∷ beyond ∷ beyond ∷ []
  pub few_with_5 : answers (opts (whole 2) 1 false) (fitted behind) ≡ record { outcome = is_few 0; beyond = 5 } ∷ []
  pub won_with_5 : answers (opts (whole 2) 0 false) (fitted behind) ≡ record { outcome = is_won 0 infinity; beyond = 5 } ∷ []
  -- I twice, thresh 2, min 4: trial 1 wins
  pub first_wins :
      (book_after (opts (whole 2) 4 false) (fresh (opts (whole 2) 4 false)) (trial (opts (whole 2) 4 false) (fitted I) ∷ trial (opts (whole 2) 4 false) (fitted I) ∷ [])).winner
      ≡ held (record { model = I; count = 4; rms = whole 0; number = 1 })
  pub root_of_4 : root_answer (whole 4) ≡ gives (whole 2)
  pub root_of_the_least : root_answer (power 1074) ≡ gives (power 537)
  pub two_roots : quadratic_answer (whole 1) (neg (whole 3)) (whole 2) ≡ gives (whole 1 ∷ whole 2 ∷ [])
  pub one_root : quadratic_answer (whole 1) (whole 0) (whole 0) ≡ gives (neg (whole 0) ∷ [])
