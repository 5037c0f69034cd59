-- Standing forms as a family: five numbers a mark, at least six marks, and candidates of twelve numbers. Marks are measured by a camera, of which 17 is asked.
use Rattle.std.specs.Prelude.{[], ◌∷◌}
use Rattle.estimator.specs.Family.{Family}
use Rattle.form.specs.Marks.{marks_of, no_mark, mark_numbers}
use Rattle.form.specs.Distance.{model_of, model_numbers, camera, beyond_under, square_under}
use Rattle.form.specs.declared.marks.Mark.{Mark}
use Rattle.form.specs.declared.model.Model.{Model}
use Rattle.form.specs.declared.model.Camera.{Camera}

abbrev pub form : Family Camera Model Mark
form =
    record {
      width = 5;
      least = 6;
      size = 12;
      marks_of = marks_of;
      no_mark = no_mark;
      model_of = model_of;
      mark_numbers = mark_numbers;
      model_numbers = model_numbers;
      beyond_under = λ c h m. beyond_under h m;
      square = square_under;
      tests = λ c. camera c ∷ [];
    }
