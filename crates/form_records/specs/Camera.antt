-- Document 02, order 5: the camera's record, 32 bytes, and the opening of a form's run from two records. 1 (options, then camera), 2, 3, 4, 16, 5, 6, 7,
-- 18, 8, 17.
use Rattle.std.specs.Prelude.{not, List, [], ◌∷◌, ℕ, eqb, length, Float}
use Rattle.rule.specs.Refusal.{RECORD}
use Rattle.rule.specs.Answer.{Answer}
use Rattle.rule.specs.Order.{Test, first_failed, decided}
use Rattle.estimator.specs.Numbers.{numbers_at}
use Rattle.form.specs.Marks.{marks_of}
use Rattle.form.specs.Distance.{camera_of}
use Rattle.form.specs.Forms.{form}
use Rattle.form.specs.declared.model.Camera.{Camera}
use Rattle.form.specs.declared.model.Model.{Model}
use Rattle.records.specs.Options.{options_record, options_of}
use Rattle.pick.specs.Run.{Run}
use Rattle.pick.specs.Opening.{opening_tests, fresh_run}

-- 1: a record of another length
unfoldable pub camera_record : List ℕ → Test
camera_record l = record { fails = not (eqb (length l) 32); number = RECORD }

-- fx, fy, cx and cy, each f64
unfoldable pub camera_in : List ℕ → Camera
camera_in l = camera_of (numbers_at 4 l)

unfoldable pub camera_answer : List ℕ → Answer Camera
camera_answer l = decided (first_failed (camera_record l ∷ [])) (camera_in l)

unfoldable pub records_tests : (options camera : List ℕ) → List Float → List ℕ → List Test
records_tests options camera marks stops = options_record options ∷ camera_record camera ∷ opening_tests form (camera_in camera) (options_of options) marks stops

unfoldable pub records_answer : (options camera : List ℕ) → List Float → List ℕ → Answer (Run Camera Model)
records_answer options camera marks stops =
    decided (first_failed (records_tests options camera marks stops)) (fresh_run (camera_in camera) (options_of options) (length (marks_of marks)))
