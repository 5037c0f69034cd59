-- Sheets as a family: four numbers a mark, at least four marks, and candidates of nine numbers. Marks are measured by nothing else than the candidate and the
-- ratio, and nothing is asked of that.
use Rattle.std.specs.Prelude.{[]}
use Rattle.estimator.specs.Family.{Family}
use Rattle.sheet.specs.Marks.{marks_of, no_mark, mark_numbers}
use Rattle.sheet.specs.Distance.{model_of, model_numbers, beyond_under, square_under}
use Rattle.sheet.specs.declared.marks.Mark.{Mark}
use Rattle.sheet.specs.declared.model.Model.{Model}
use Rattle.sheet.specs.declared.model.Sheet.{Sheet}

abbrev pub sheet : Family Sheet Model Mark
sheet =
    record {
      width = 4;
      least = 4;
      size = 9;
      marks_of = marks_of;
      no_mark = no_mark;
      model_of = model_of;
      mark_numbers = mark_numbers;
      model_numbers = model_numbers;
      beyond_under = λ e h m. beyond_under h m;
      square = λ e ratio h m. square_under ratio h m;
      tests = λ e. [];
    }

abbrev pub no_camera : Sheet
no_camera = record {}
