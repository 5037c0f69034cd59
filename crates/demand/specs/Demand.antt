-- The customer's third demand: what holds after any list of trial calls from an accepted opening, of any family, and of a sheet's whole run. A premise on a
-- call is that call's own promise, and the functions of src/, which only call through, promise just these: so the theorem is about the program, and a
-- weaker contract breaks it. `proofs/Demanded.antt` proves `Demand3`.
use Rattle.std.specs.Prelude.{◌≡◌, Bool, true, not, List, [], ◌∷◌, map, ℕ, ◌<◌, ◌≤◌, length, take, drop, Float, Result, Ok}
use Rattle.rule.specs.declared.Refusal.{Refusal}
use Rattle.rule.specs.Refusal.{NONE}
use Rattle.rule.specs.Answer.{told, answered}
use Rattle.rule.specs.Order.{first_failed}
use Rattle.rule.specs.Lists.{every, for_each}
use Rattle.estimator.specs.Family.{Family, mark_at, distances_of, inlier}
use Rattle.sheet.specs.Marks.{marks_of}
use Rattle.sheet.specs.Sheets.{sheet, no_camera}
use Rattle.sheet.specs.declared.model.Model.{Model}
use Rattle.sheet.specs.declared.model.Sheet.{Sheet}
use Rattle.form.specs.Forms.{form}
use Rattle.form.specs.declared.model.Camera.{Camera}
use Rattle.form.specs.declared.model.Model.{Model as FormModel}
use Rattle.book.specs.Score.{count_in, rms_in, Judged}
use Rattle.book.specs.Book.{Winner, Held, none, held, Book, Answer, fresh, outcomes_of}
use Rattle.book.specs.Calls.{Called, Carried, is_refusal}
use Rattle.book.specs.Rule.{Among, Kept, Stopped, stopped, broken, ReadTo}
use Rattle.fields.specs.Fields.{words_of, bytes_of}
use Rattle.records.specs.Options.{options_of}
use Rattle.records.specs.Marks.{numbers_in}
use Rattle.records.specs.declared.options.RansacOptions.{RansacOptions}
use Rattle.judge.specs.Judging.{rule_of, Call, judge_of, judgement_of}
use Rattle.pick.specs.Run.{view_best, book_of, view_state, view_outcome, view_tried}
use Rattle.pick.specs.Opening.{opening_tests, opening_answer, record_answer}
use Rattle.pick.specs.Trial.{trial_answer, step_answer}
use Rattle.pick.specs.Indices.{indices_answer, indices_after}
use Rattle.pick.specs.declared.run_state.State.{State}
use Rattle.pick.specs.declared.run_state.Outcome.{Outcome}
use Rattle.form_records.specs.Camera.{camera_in, records_answer}
use Rattle.salghemu.specs.Whole.{Files, run_tests, calls_of, run_answer, Gave, winner_bytes, laid_over}

-- ---- a trial's answer without its state ('Answers are compared without their state'): the outcome, and the number beyond of document 02, order 2

pub record Told : Type 0 where
  pub outcome : Outcome
  pub beyond : ℕ

unfoldable pub view_told : Told → Answer
view_told x = record { outcome = view_outcome x.outcome; beyond = x.beyond }

-- ---- the indices

pub data Ascending : List ℕ → Type 0 where
  nothing : Ascending []
  single : {i : ℕ} → Ascending (i ∷ [])
  more : {i j : ℕ} {l : List ℕ} → i < j → Ascending (j ∷ l) → Ascending (i ∷ j ∷ l)

-- xs are all places below n that pass a test, no others, and ascending
pub record Exactly (n : ℕ) (test : ℕ → Bool) (xs : List ℕ) : Type 0 where
  pub all : (i : ℕ) → i < n → test i ≡ true → Among i xs
  pub no_others : (i : ℕ) → Among i xs → (i < n) × (test i ≡ true)
  pub ascending : Ascending xs

-- 'the opening's marks and stops'
pub record Carries (marks : List Float) (stops : List ℕ) (c : Call) : Type 0 where
  pub same_marks : c.marks ≡ marks
  pub same_stops : c.stops ≡ stops

module _ {E M K : Type 0} (f : Family E M K) where
  -- ---- what the calls promise

  -- an opening that answers r, by the options type and by a record; e is what the family's marks are measured by
  abbrev pub Opens : E → RansacOptions → (marks : List Float) → (stops : List ℕ) → Result (State E M) Refusal → Type 0
  Opens e o marks stops r = told view_state r ≡ opening_answer f e o marks stops

  abbrev pub OpensBy : E → (bytes : List ℕ) → (marks : List Float) → (stops : List ℕ) → Result (State E M) Refusal → Type 0
  OpensBy e bytes marks stops r = told view_state r ≡ record_answer f e bytes marks stops

  -- one trial call, from the state s to the state t with the answer x
  abbrev pub Tried : State E M → Call → State E M → Told → Type 0
  Tried s c t x = view_tried (record { state = t; outcome = x.outcome; beyond = x.beyond }) ≡ trial_answer f (view_state s) c

  -- one trial over marks that were tested before, as `pickmarks` calls it
  abbrev pub Stepped : State E M → Call → State E M → Told → Type 0
  Stepped s c t x = view_tried (record { state = t; outcome = x.outcome; beyond = x.beyond }) ≡ step_answer f (view_state s) c

  -- the indices asked for from s, with a lent list that holds `entry` before the call and `after` behind it
  pub record Indexes (s : State E M) (marks : List Float) (entry : List ℕ) (r : Result ℕ Refusal) (after : List ℕ) : Type 0 where
    pub answers : answered r ≡ indices_answer f (view_state s) marks entry
    pub leaves : after ≡ indices_after f (view_state s) marks entry

  -- ---- a list of calls

  -- an accepted opening
  abbrev pub Opening : E → RansacOptions → (marks : List Float) → (stops : List ℕ) → State E M → Type 0
  Opening e o marks stops s₀ = Opens e o marks stops (Ok s₀)

  -- what each call comes to by itself, by what the opening gives: its options, its n and the family's value
  abbrev pub judged : E → RansacOptions → (marks : List Float) → List Call → List (Judged M)
  judged e o marks calls = map (judge_of f e o (length (f.marks_of marks))) calls

  -- 'unless 01 refuses it, the opening's marks and stops': refused or not by the book, which is fed the calls and knows no state
  abbrev pub CarriedBy : E → RansacOptions → (marks : List Float) → (stops : List ℕ) → List Call → Type 0
  CarriedBy e o marks stops calls = Carried (Carries marks stops) calls (outcomes_of (rule_of o) (fresh (rule_of o)) (judged e o marks calls))

  -- 'The indices given from that state are all of the marks handed in that lie within the threshold under the winner and no others, ascending'
  pub record IndicesGiven (e : E) (o : RansacOptions) (opened : List Float) (s : State E M) (w : Winner M) : Type 0 where
    -- They are given: with the opening's marks and a place a mark, as many as the winner's count.
    pub written : (entry after : List ℕ) (r : Result ℕ Refusal) → Indexes s opened entry r after → length (f.marks_of opened) ≤ length entry → r ≡ Ok w.count
    -- Whatever marks are handed in that the call accepts, and whatever list is lent; what is behind the last index stays.
    pub given : (marks : List Float) (entry after : List ℕ) (r : Result ℕ Refusal) → Indexes s marks entry r after → (k : ℕ) → r ≡ Ok k
        → Exactly (length (f.marks_of marks)) (λ i. inlier f e o.ratio w.model o.thresh (mark_at f marks i)) (take k after) × (drop k after ≡ drop k entry)

  -- ---- after a list of calls

  pub record AfterCalls (e : E) (o : RansacOptions) (marks : List Float) (calls : List Call) (answers : List Told) (s : State E M) : Type 0 where
    -- the state is still of what the opening gave
    pub of_opening : (s.estimator ≡ e) × (s.options ≡ o) × (s.n ≡ length (f.marks_of marks))
    -- 'every answer, and the state's winner, counts and bound, are those of 01's book, and trials read = empty + few + scored. The winner's count of marks is
    -- the largest: every other scored trial has at most that count, with the same count at least its root mean square, and with both the same it came
    -- later. Without a scored trial there is no winner.': the book's rule (`Kept`), fed what the opening gives and each call
    pub kept : Kept (rule_of o) (judgement_of f e o (length (f.marks_of marks))) calls (map view_told answers) (book_of s)
    -- the winner's count and rms are its own candidate's, over the opening's marks
    pub own : (w : Winner M) → view_best s.winner ≡ held w
        → (w.count ≡ count_in o.thresh (distances_of f e o.ratio marks w.model)) × (w.rms ≡ rms_in o.thresh (distances_of f e o.ratio marks w.model))
    pub indices : (w : Winner M) → view_best s.winner ≡ held w → IndicesGiven e o marks s w

  -- ---- what the demand says of calls, of any family

  pub record CallsKept : Type 0 where
    -- 'For every list of trial calls from an accepted opening, refused ones included, each handed the state that the last gave back and, unless 01 refuses
    -- it, the opening's marks and stops'
    pub after_calls : (e : E) (o : RansacOptions) (marks : List Float) (stops : List ℕ) (s₀ s : State E M) (calls : List Call) (answers : List Told)
        → Opening e o marks stops s₀ → Called Tried s₀ calls answers s → CarriedBy e o marks stops calls → AfterCalls e o marks calls answers s
    -- There are such openings, where none of 01's tests fails; and every such list can be called: from any state, each call gives the next.
    pub openable : (e : E) (o : RansacOptions) (marks : List Float) (stops : List ℕ) → first_failed (opening_tests f e o marks stops) ≡ 0 → (s₀ : State E M) × Opening e o marks stops s₀
    pub callable : (s₀ : State E M) (calls : List Call) → (s : State E M) × ((answers : List Told) × Called Tried s₀ calls answers s)
    -- An opening by a record that is accepted is one with that record's options, so the same holds after it.
    pub by_record : (e : E) (bytes : List ℕ) (marks : List Float) (stops : List ℕ) (s₀ : State E M) → OpensBy e bytes marks stops (Ok s₀) → Opening e (options_of bytes) marks stops s₀
    -- A trial over the opening's marks without testing them again is a trial: so what `pickmarks` calls are calls of this demand.
    pub by_steps : (e : E) (o : RansacOptions) (marks : List Float) (stops : List ℕ) (s₀ s t : State E M) (c : Call) (x : Told) → Opening e o marks stops s₀ → c.marks ≡ marks
        → Stepped s c t x → Tried s c t x

-- ---- the whole run, of a sheet

-- the whole run, with its two lent lists before and after
abbrev pub Ran : Files → (winner indices : List ℕ) → (r : ℕ) → (winner' indices' : List ℕ) → Type 0
Ran f winner indices r winner' indices' =
    Gave (run_answer f (length winner) (length indices)) (options_of f.options) (numbers_in 4 f.marks) winner indices r winner' indices'

-- nothing is written
pub record Refuses (k r : ℕ) (winner indices winner' indices' : List ℕ) : Type 0 where
  pub number : r ≡ k
  pub winner_kept : winner' ≡ winner
  pub indices_kept : indices' ≡ indices

-- the indices from s are xs: any list with a place a mark gets these, and the call says how many
abbrev pub IndexedAs : State Sheet Model → (marks : List Float) → (xs : List ℕ) → Type 0
IndexedAs s marks xs = (entry after : List ℕ) (r : Result ℕ Refusal) → Indexes sheet s marks entry r after → length (marks_of marks) ≤ length entry
    → (r ≡ Ok (length xs)) × (after ≡ laid_over xs entry)

-- 'the winner and indices of the same trials called one by one, or refusal 11 without a winner'
unfoldable pub GivesOf : (marks : List Float) → State Sheet Model → Held Model → (r : ℕ) → (winner indices winner' indices' : List ℕ) → Type 0
GivesOf marks s none r winner indices winner' indices' = Refuses NONE r winner indices winner' indices'
GivesOf marks s (held w) r winner indices winner' indices' =
    (r ≡ 0)
    × (winner' ≡ laid_over (winner_bytes w) winner)
    × ((xs : List ℕ) × ((indices' ≡ laid_over (for_each (bytes_of 4) xs) indices) × IndexedAs s marks xs))

-- the same trials, called one by one from the opening with the same options, marks and stops
module _ (f : Files) where
  abbrev pub options : RansacOptions
  options = options_of f.options

  abbrev pub numbers : List Float
  numbers = numbers_in 4 f.marks

  abbrev pub entries : List ℕ
  entries = words_of f.stops

  pub record CalledAlike (read r : ℕ) (winner indices winner' indices' : List ℕ) : Type 0 where
    -- They can be called: the opening is accepted, and each trial after it gives a state and an outcome.
    pub callable : (s₀ : State Sheet Model) × (Opening sheet no_camera options numbers entries s₀ × ((s : State Sheet Model) × ((answers : List Told) × Called (Tried sheet) s₀ (take read (calls_of f)) answers s)))
    -- However they are called, none is refused, and the run gives what they do.
    pub gives_same : (s₀ s : State Sheet Model) (answers : List Told) → Opening sheet no_camera options numbers entries s₀ → Called (Tried sheet) s₀ (take read (calls_of f)) answers s
        → (every (λ x. not (is_refusal (view_outcome x.outcome))) answers ≡ true) × GivesOf numbers s (view_best s.winner) r winner indices winner' indices'

  -- 'refuses by 01's tests before the trials'
  pub data AfterRun (r : ℕ) (winner indices winner' indices' : List ℕ) : Type 0 where
    by_tests : (k : ℕ) → first_failed (run_tests f (length winner) (length indices)) ≡ k → (k ≡ 0 → ⊥) → Refuses k r winner indices winner' indices'
        → AfterRun r winner indices winner' indices'
    -- 'or reads its list exactly to 01's bound or its end, or to a trial refused before either, and then the answer is that refusal'
    by_trials : first_failed (run_tests f (length winner) (length indices)) ≡ 0 → (result : Stopped Model) (read : ℕ)
        → ReadTo (rule_of options) (judged sheet no_camera options numbers (calls_of f)) result read
        → ((k : ℕ) → result ≡ broken k → Refuses k r winner indices winner' indices')
        → ((b : Book Model) → result ≡ stopped b → CalledAlike read r winner indices winner' indices')
        → AfterRun r winner indices winner' indices'

-- ---- the demand

-- an opening of a form's run by a record of options and one of the camera
abbrev pub OpensByRecords : (options camera : List ℕ) → (marks : List Float) → (stops : List ℕ) → Result (State Camera FormModel) Refusal → Type 0
OpensByRecords options camera marks stops r = told view_state r ≡ records_answer options camera marks stops

pub record Demand3 : Type 0 where
  -- the calls of a sheet, and those of a form, whose opening gives the camera too (document 02, order 5: 'The picking rule is shown one time for any distance
  -- and then holds of both families')
  pub sheets : CallsKept sheet
  pub forms : CallsKept form
  -- An opening of a form's run by two records that is accepted is one with the options and the camera of these.
  pub forms_by_records : (options camera : List ℕ) (marks : List Float) (stops : List ℕ) (s₀ : State Camera FormModel) → OpensByRecords options camera marks stops (Ok s₀)
      → Opening form (camera_in camera) (options_of options) marks stops s₀
  -- 'The whole run, whatever its bytes'
  pub after_run : (f : Files) (r : ℕ) (winner indices winner' indices' : List ℕ) → Ran f winner indices r winner' indices' → AfterRun f r winner indices winner' indices'
