-- The cases of `Order7`, each by computing its definitions. Assumes nothing.
use mathlib.Core.Path.{refl}
use lib.Ieee.{round, of_bits, add, sub, mul, div, lt, eq, le, of_int}
use Rattle.rule.specs.Order.{first_failed}
use Rattle.root.specs.Root.{root_of}
use Rattle.numbers.specs.Finite.{abs_of, is_finite, within}
use Rattle.numbers.specs.Ratio.{ratio_accepted, ratio}
use Rattle.estimator.specs.Double.{position, pixel, clash, doubled}
use Rattle.estimator.specs.Marks.{all_within, shape, point, few, double, enough_tests, run_tests}
use Rattle.sheet.specs.Marks.{marks_of, mark_numbers, point_of, points, squared_apart}
use Rattle.form.specs.Marks.{marks_of as form_marks_of, mark_numbers as form_mark_numbers, point_of as form_point_of, points as form_points}
use Rattle.linalg.specs.Mean.{mean}
use Rattle.linalg_3d.specs.Normalize.{centroid_of, squared_apart as form_squared_apart, mean_distance, no_spread, spread}
use Rattle.line.specs.Collinear.{apart, straight, collinear}
use Rattle.homography.specs.Rows.{sheet_line, rows_tests}
use Rattle.dlt.specs.Rows.{rows_tests as form_rows_tests}
use Rattle.records.specs.Options.{usual_options, options_tests, thresh, confidence, iters}
use Rattle.pick.specs.Opening.{opening_tests}
use Rattle.orders.specs.ShortFirst.{before, Cases}

pub cases : Cases
unfolding round of_bits add sub mul div lt eq le of_int first_failed root_of abs_of is_finite within ratio_accepted ratio position pixel clash doubled all_within shape point few double enough_tests run_tests marks_of mark_numbers point_of points squared_apart form_marks_of form_mark_numbers form_point_of form_points mean centroid_of form_squared_apart mean_distance no_spread spread apart straight collinear sheet_line rows_tests form_rows_tests usual_options options_tests thresh confidence iters opening_tests before
cases =
    record {
      opening_of_two = (λ after. refl, refl);
      rows_of_two = λ places. (λ after. refl, refl);
      rows_of_five = λ places. (λ after. refl, refl);
      rows_of_four = λ places. (λ after. refl, refl);
      four_on_a_line = refl;
      rows_of_six = λ places. (λ after. refl, refl);
      six_without_spread = refl;
    }
