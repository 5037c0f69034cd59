-- Document 02, order 3: 'A 32-byte record, or the maker, has ratio 1 and gives the old bits.' What the calls and the whole run come to without a ratio, by 01's
-- own tests (and 18 of order 6, in order 7's place, which knows no ratio either) and distance, and that it is what they come to with ratio 1.
-- `proofs/Old.antt` proves `OldBits`.
use Rattle.std.specs.Prelude.{◌≡◌, not, List, [], ◌∷◌, ◌++◌, map, ℕ, length, Float}
use Rattle.rule.specs.Refusal.{RECORD}
use Rattle.rule.specs.Answer.{Answer}
use Rattle.rule.specs.Order.{Test, first_failed, decided, if_passed}
use Rattle.rule.specs.Lists.{for_each}
use Rattle.numbers.specs.Constants.{one}
use Rattle.numbers.specs.Measure.{as_distance}
use Rattle.estimator.specs.Family.{measure_of, distances_of}
use Rattle.estimator.specs.Marks.{entries, run_tests}
use Rattle.sheet.specs.Marks.{marks_of}
use Rattle.sheet.specs.Distance.{plain_measure_of}
use Rattle.sheet.specs.Sheets.{sheet, no_camera}
use Rattle.sheet.specs.declared.model.Sheet.{Sheet}
use Rattle.sheet.specs.declared.marks.Mark.{Mark}
use Rattle.sheet.specs.declared.model.Model.{Model}
use Rattle.book.specs.Score.{turned_down, Judgement, judge_trial}
use Rattle.book.specs.Book.{Winner, fresh}
use Rattle.book.specs.Rule.{Kept, run_over}
use Rattle.book.specs.Calls.{Called}
use Rattle.fields.specs.Fields.{bytes_of}
use Rattle.fields.specs.Packing.{unpacked}
use Rattle.records.specs.Options.{short_layout, options_sound, options_from, options_answer, options_of, usual_options, thresh, confidence, iters}
use Rattle.records.specs.Trial.{trial_of}
use Rattle.records.specs.Marks.{mark_bytes, numbers_in}
use Rattle.records.specs.declared.options.RansacOptions.{RansacOptions}
use Rattle.score.specs.Places.{indices_in}
use Rattle.judge.specs.Judging.{rule_of, Call, call_tests, beyond_by, judgement_of}
use Rattle.pick.specs.Run.{book_of}
use Rattle.pick.specs.Opening.{opening_tests}
use Rattle.pick.specs.declared.run_state.State.{State}
use Rattle.salghemu.specs.Whole.{Files, later_tests, calls_of, result_of, after_tests, number_of, winner_bytes, written}
use Rattle.demand.specs.Demand.{Told, view_told, Tried, Opening, CarriedBy, Ran}

-- ---- before the ratio

-- the distances of a list of marks
unfoldable pub plain_distances_of : List Float → Model → List Float
plain_distances_of l h = map (λ m. as_distance (plain_measure_of h m)) (marks_of l)

-- 1: a record of 32 bytes, by its fields
unfoldable pub old_record : (fields : List ℕ) → Test
old_record fields = record { fails = not (options_sound fields); number = RECORD }

-- 2, 3, 4
unfoldable pub old_tests : RansacOptions → List Test
old_tests o = thresh o ∷ confidence o ∷ iters o ∷ []

-- what a call came to by itself
unfoldable pub old_judgement : RansacOptions → ℕ → Call → Judgement Model
old_judgement o n c =
    let failed = first_failed (call_tests sheet n c) in
    record {
      worth = if_passed failed (judge_trial (rule_of o) (plain_distances_of c.marks) c.stops (trial_of sheet c.bytes)) (turned_down failed);
      beyond = beyond_by sheet no_camera (call_tests sheet n c) c;
    }

-- ---- the whole run with a record of 32 bytes

module _ (f : Files) where
  abbrev fields : List ℕ
  fields = unpacked short_layout f.options

  abbrev o : RansacOptions
  o = options_from fields

  abbrev numbers : List Float
  numbers = numbers_in 4 f.marks

  abbrev n : ℕ
  n = length (marks_of numbers)

  unfoldable pub old_run_tests : (winner indices : ℕ) → List Test
  old_run_tests winner indices =
      old_record fields ∷ (old_tests o ++ (mark_bytes 4 f.marks ∷ later_tests numbers n (length f.stops) (length f.trials) winner indices))

  unfoldable pub old_answer : (winner indices : ℕ) → Answer (Winner Model)
  old_answer winner indices =
      after_tests (first_failed (old_run_tests winner indices)) (result_of (run_over (rule_of o) (fresh (rule_of o)) (map (λ c. (old_judgement o n c).worth) (calls_of f))))

  pub record OldRan (winner indices : List ℕ) (r : ℕ) (winner' indices' : List ℕ) : Type 0 where
    pub number_is : r ≡ number_of (old_answer (length winner) (length indices))
    pub winner_is : winner' ≡ written winner_bytes (old_answer (length winner) (length indices)) winner
    pub indices_is : indices'
        ≡ written (λ w. for_each (bytes_of 4) (indices_in o.thresh (plain_distances_of numbers w.model))) (old_answer (length winner) (length indices)) indices

-- ---- the old bits

pub record OldBits : Type 0 where
  -- 'A 32-byte record, or the maker, has ratio 1'
  pub maker : (thresh : Float) → (usual_options thresh).ratio ≡ one
  pub short_record : (bytes : List ℕ) → length bytes ≡ 32
      → ((options_of bytes).ratio ≡ one)
      × (options_answer bytes ≡ decided (first_failed (old_record (unpacked short_layout bytes) ∷ [])) (options_from (unpacked short_layout bytes)))
  -- With it the distance is 01's for every model and mark, NaNs and infinities included, and so are the distances of any list of marks.
  pub measures : (h : Model) (m : Mark) → measure_of sheet no_camera one h m ≡ plain_measure_of h m
  pub distances : distances_of sheet no_camera one ≡ plain_distances_of
  -- The opening is refused as before, and each call comes to what it came to: so after any list of calls all is by the old judgement.
  pub opening : (o : RansacOptions) (marks : List Float) (stops : List ℕ) → o.ratio ≡ one
      → first_failed (opening_tests sheet no_camera o marks stops) ≡ first_failed (old_tests o ++ (run_tests sheet marks ++ (entries sheet marks stops ∷ [])))
  pub call : (o : RansacOptions) (n : ℕ) (c : Call) → o.ratio ≡ one → judgement_of sheet no_camera o n c ≡ old_judgement o n c
  pub after_calls : (o : RansacOptions) (marks : List Float) (stops : List ℕ) (s₀ s : State Sheet Model) (calls : List Call) (answers : List Told)
      → o.ratio ≡ one → Opening sheet no_camera o marks stops s₀ → Called (Tried sheet) s₀ calls answers s → CarriedBy sheet no_camera o marks stops calls
      → Kept (rule_of o) (old_judgement o (length (marks_of marks))) calls (map view_told answers) (book_of s)
  -- 'gives the old bits': the whole run, whatever its other bytes
  pub run : (f : Files) (r : ℕ) (winner indices winner' indices' : List ℕ) → length f.options ≡ 32 → Ran f winner indices r winner' indices'
      → OldRan f winner indices r winner' indices'
