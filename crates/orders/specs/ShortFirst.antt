-- Document 02, order 7: 'Short comes first wherever both are tested, doubled second, on one line third. The old answers that change are these: two or three sheet
-- marks with a clashing pair go from 18 to 7, and two to five form marks likewise. Four or more marks all at one sheet position with unequal pixels still give
-- 18 and not 13. 7 now precedes 18 in each order.' No other definition has the orders as they were. `proofs/Shorter.antt` proves `Order7`.
use Rattle.std.specs.Prelude.{◌≡◌, Bool, true, false, ◌&&◌, List, [], ◌∷◌, ◌++◌, ℕ, ◌<◌, ◌≤◌, ◌*◌, length, Float}
use Rattle.std.specs.Float.{binary64}
use Rattle.std.specs.Float.Ieee.{round}
use Rattle.rule.specs.Refusal.{FEW, ENDED, NONE, DOUBLE}
use Rattle.rule.specs.Order.{Test, first_failed, decided, room}
use Rattle.rule.specs.Lists.{some}
use Rattle.estimator.specs.Family.{Family}
use Rattle.estimator.specs.Marks.{shape, point, few, double, of_run, entries, marks_tests}
use Rattle.sheet.specs.Marks.{marks_of, points}
use Rattle.sheet.specs.Sheets.{sheet, no_camera}
use Rattle.sheet.specs.declared.marks.Side.{Side}
use Rattle.form.specs.Marks.{marks_of as form_marks_of, points as form_points}
use Rattle.form.specs.Forms.{form}
use Rattle.linalg.specs.Normalize.{spread, normalize_tests}
use Rattle.linalg_3d.specs.Normalize.{spread as form_spread, normalize_tests as form_normalize_tests}
use Rattle.homography.specs.Rows.{sheet_line, pixel_line, spreads, rows_tests}
use Rattle.dlt.specs.Rows.{rows_tests as form_rows_tests}
use Rattle.book.specs.Book.{Held, none, held}
use Rattle.book.specs.Calls.{is_closed, number_in}
use Rattle.records.specs.Options.{options_record, options_of, options_tests, usual_options}
use Rattle.records.specs.Trial.{trial_record}
use Rattle.records.specs.Marks.{mark_bytes, numbers_in}
use Rattle.records.specs.declared.options.RansacOptions.{RansacOptions}
use Rattle.judge.specs.Judging.{Call, call_tests}
use Rattle.pick.specs.Run.{Run}
use Rattle.pick.specs.Opening.{opening_tests}
use Rattle.pick.specs.Trial.{trial_answer}
use Rattle.pick.specs.Indices.{marks_order, indices_answer}
use Rattle.form_records.specs.Camera.{camera_record, camera_in, records_tests}
use Rattle.salghemu.specs.Whole.{Files, stop_bytes, trial_bytes, run_tests}

module _ {E M K : Type 0} (f : Family E M K) (ahead : List Test) (marks : List Float) (after : List Test) where
  -- ---- an order with 6, 7 and 18 in it, by the tests ahead of these and after them

  unfoldable pub now : List Test
  now = ahead ++ (point marks ∷ few f marks ∷ double f marks ∷ after)

  -- as it was: 6, 18, 7
  unfoldable pub before : List Test
  before = ahead ++ (point marks ∷ double f marks ∷ few f marks ∷ after)

  -- ---- what differs

  -- a test in front of both fails
  unfoldable pub stopped : Bool
  stopped = some (λ t. t.fails) (ahead ++ (point marks ∷ []))

  -- the marks are fewer than the family's least, and two of them clash
  unfoldable pub short_and_doubled : Bool
  short_and_doubled = (few f marks).fails && (double f marks).fails

  -- what is so of an order that had 18 in front of 7
  pub record Changed (order : List Test) : Type 0 where
    -- '7 now precedes 18'
    pub is_now : order ≡ now
    -- A call is answered as before where a test in front of both fails,
    pub in_front : stopped ≡ true → first_failed order ≡ first_failed before
    -- or where its marks aren't both short and doubled: so without a double nothing differs.
    pub alike : short_and_doubled ≡ false → first_failed order ≡ first_failed before
    -- All other calls went from 18 to 7; and their marks are two or more, and fewer than the least.
    pub turned : stopped ≡ false → short_and_doubled ≡ true
        → (first_failed before ≡ DOUBLE) × (first_failed order ≡ FEW) × (2 ≤ length (f.marks_of marks)) × (length (f.marks_of marks) < f.least)
    -- Marks enough that are doubled 'still give 18', whatever is asked of them after: not 13 of the rows of a sheet, nor 12 of a form's.
    pub still : stopped ≡ false → (few f marks).fails ≡ false → (double f marks).fails ≡ true → (first_failed before ≡ DOUBLE) × (first_failed order ≡ DOUBLE)

-- ---- every entry that has both

-- A call is refused by an order where one of its tests fails.
abbrev pub RefusedBy : List Test → (number : ℕ) → Type 0
RefusedBy order number = (first_failed order ≡ 0 → ⊥) → number ≡ first_failed order

abbrev pub is_none : {M : Type 0} → Held M → Bool
is_none none = true
is_none (held w) = false

module _ {E M K : Type 0} (f : Family E M K) where
  -- a trial's order, with 10 in front, and that of the indices, with 11
  unfoldable pub ended : Run E M → Test
  ended r = record { fails = is_closed r.book; number = ENDED }

  unfoldable pub unheld : Run E M → Test
  unheld r = record { fails = is_none r.book.winner; number = NONE }

  -- that of an opening from a record
  unfoldable pub record_order : E → (bytes : List ℕ) → List Float → List ℕ → List Test
  record_order e bytes marks stops = options_record bytes ∷ opening_tests f e (options_of bytes) marks stops

  unfoldable pub trial_order : Run E M → Call → List Test
  trial_order r c = ended r ∷ call_tests f r.n c

  unfoldable pub indices_order : Run E M → List Float → (places : ℕ) → List Test
  indices_order r marks places = unheld r ∷ marks_order f r.n marks places

  pub record OfFamily : Type 0 where
    -- the opening, from the options type and from a record
    pub opening : (e : E) (o : RansacOptions) (marks : List Float) (stops : List ℕ)
        → Changed f (options_tests o ++ (shape f marks ∷ [])) marks (entries f marks stops ∷ f.tests e) (opening_tests f e o marks stops)
    pub record_opening : (e : E) (bytes : List ℕ) (marks : List Float) (stops : List ℕ)
        → Changed f (options_record bytes ∷ (options_tests (options_of bytes) ++ (shape f marks ∷ []))) marks (entries f marks stops ∷ f.tests e)
        (record_order e bytes marks stops)
    -- A trial, which answers by its order; and the winner's indices, which are given where no test of theirs fails. (A run that was opened has marks enough, and
    -- other numbers of marks are 5: so of these two only states made by hand go from 18 to 7.)
    pub trial : (r : Run E M) (c : Call)
        → Changed f (ended r ∷ of_run f r.n c.marks ∷ shape f c.marks ∷ []) c.marks (entries f c.marks c.stops ∷ trial_record f.size c.bytes ∷ []) (trial_order r c)
    pub trial_answers : (r : Run E M) (c : Call) → number_in (trial_answer f r c).outcome ≡ first_failed (trial_order r c)
    pub indices : (r : Run E M) (marks : List Float) (places : ℕ)
        → Changed f (unheld r ∷ of_run f r.n marks ∷ shape f marks ∷ []) marks (room (length (f.marks_of marks)) places ∷ []) (indices_order r marks places)
    pub indices_answers : (r : Run E M) (marks : List Float) (entry : List ℕ)
        → (count : ℕ) × (indices_answer f r marks entry ≡ decided (first_failed (indices_order r marks (length entry))) count)

-- ---- the entries that ask for no number of marks

-- such an order: 5, 6 and 18, and then what the entry asks
abbrev pub Without7 : {E M K : Type 0} → Family E M K → (marks : List Float) → (after order : List Test) → Type 0
Without7 f marks after order = order ≡ shape f marks ∷ point marks ∷ double f marks ∷ after

-- They are as they were: with no 7, nothing changes places with 18.
pub record AsBefore : Type 0 where
  -- normalising, of either side of a sheet's marks and of a form's
  pub normalizing : (marks : List Float) (side : Side) (places : ℕ)
      → Without7 sheet marks (spread (points side marks) ∷ room (2 * length (points side marks)) places ∷ []) (normalize_tests marks side places)
  pub form_normalizing : (marks : List Float) (places : ℕ)
      → Without7 form marks (form_spread (form_points marks) ∷ room (3 * length (form_points marks)) places ∷ []) (form_normalize_tests marks places)
  -- the test for a line, of either side
  pub line : (marks : List Float) → Without7 sheet marks [] (marks_tests sheet marks)

-- ---- cases

abbrev double_of : ℕ → Float
double_of n = round binary64 false n 1

-- the numbers of a mark of a sheet, and of a form
abbrev pub on_sheet : (x y u v : ℕ) → List Float
on_sheet x y u v = double_of x ∷ double_of y ∷ double_of u ∷ double_of v ∷ []

abbrev pub on_form : (x y z u v : ℕ) → List Float
on_form x y z u v = double_of x ∷ double_of y ∷ double_of z ∷ double_of u ∷ double_of v ∷ []

-- of a sheet: two and four marks at one position, each with a pixel of its own
abbrev pub two : List Float
two = on_sheet 0 0 0 0 ++ on_sheet 0 0 1 0

abbrev pub four : List Float
four = two ++ on_sheet 0 0 0 1 ++ on_sheet 0 0 1 1

-- of a form: five marks of which the first two clash, and six at one position
abbrev pub five : List Float
five = on_form 0 0 0 0 0 ++ on_form 0 0 0 1 0 ++ on_form 1 0 0 2 0 ++ on_form 0 1 0 3 0 ++ on_form 0 0 1 4 0

abbrev pub six : List Float
six = on_form 0 0 0 0 0 ++ on_form 0 0 0 1 0 ++ on_form 0 0 0 2 0 ++ on_form 0 0 0 3 0 ++ on_form 0 0 0 4 0 ++ on_form 0 0 0 5 0

-- the options that are made of a threshold of 1
abbrev pub usual : RansacOptions
usual = usual_options (double_of 1)

-- an order with these tests ahead of 6, 7 and 18: what it answered, whatever it asked after them, and what it answers
abbrev pub Went : {E M K : Type 0} → Family E M K → (ahead : List Test) → (marks : List Float) → (order : List Test) → (was is : ℕ) → Type 0
Went f ahead marks order was is = ((after : List Test) → first_failed (before f ahead marks after) ≡ was) × (first_failed order ≡ is)

pub record Cases : Type 0 where
  -- Two marks of a sheet that clash, 18 and now 7: of an opening with accepted options and a stop entry more than marks, and of the rows.
  pub opening_of_two : Went sheet (options_tests usual ++ (shape sheet two ∷ [])) two (opening_tests sheet no_camera usual two (0 ∷ 0 ∷ 0 ∷ [])) DOUBLE FEW
  pub rows_of_two : (places : ℕ) → Went sheet (shape sheet two ∷ []) two (rows_tests two places) DOUBLE FEW
  -- Five of a form, of which two clash, likewise.
  pub rows_of_five : (places : ℕ) → Went form (shape form five ∷ []) five (form_rows_tests five places) DOUBLE FEW
  -- Four at one position of the sheet: 18 then and now, and not 13, which fails too. Six of a form: not 12, which fails too.
  pub rows_of_four : (places : ℕ) → Went sheet (shape sheet four ∷ []) four (rows_tests four places) DOUBLE DOUBLE
  pub four_on_a_line : (sheet_line four).fails ≡ true
  pub rows_of_six : (places : ℕ) → Went form (shape form six ∷ []) six (form_rows_tests six places) DOUBLE DOUBLE
  pub six_without_spread : (form_spread (form_points six)).fails ≡ true

-- The openings, the rows and the whole run answer by these lists in their own definitions (`decided`, `after_tests`). The whole run's trials are judged over
-- marks that have passed both.
pub record Order7 : Type 0 where
  -- so 'two or three sheet marks', and 'two to five form marks'
  pub least : (sheet.least ≡ 4) × (form.least ≡ 6)
  pub sheets : OfFamily sheet
  pub forms : OfFamily form
  -- a form's opening from two records
  pub form_opening : (options camera : List ℕ) (marks : List Float) (stops : List ℕ)
      → Changed form (options_record options ∷ camera_record camera ∷ (options_tests (options_of options) ++ (shape form marks ∷ []))) marks
      (entries form marks stops ∷ form.tests (camera_in camera)) (records_tests options camera marks stops)
  -- the whole run
  pub whole_run : (f : Files) (winner indices : ℕ)
      → let marks = numbers_in 4 f.marks in
      let n = length (marks_of marks) in
      Changed sheet (options_record f.options ∷ (options_tests (options_of f.options) ++ (mark_bytes 4 f.marks ∷ []))) marks
      (stop_bytes n (length f.stops) ∷ trial_bytes (length f.trials) ∷ room 88 winner ∷ room (4 * n) indices ∷ []) (run_tests f winner indices)
  -- the rows, of a sheet and of a form
  pub rows : (marks : List Float) (places : ℕ)
      → Changed sheet (shape sheet marks ∷ []) marks (sheet_line marks ∷ pixel_line marks ∷ spreads marks ∷ room (18 * length (marks_of marks)) places ∷ []) (rows_tests marks places)
  pub form_rows : (marks : List Float) (places : ℕ)
      → Changed form (shape form marks ∷ []) marks (form_spread (form_points marks) ∷ room (24 * length (form_marks_of marks)) places ∷ []) (form_rows_tests marks places)
  pub without : AsBefore
  pub cases : Cases
