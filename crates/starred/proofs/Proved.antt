-- The starred cases of document 01, each by computing its definitions. Assumes nothing.
use mathlib.Core.Path.{refl}
use lib.Count.{count_leading_zeros}
use lib.Ieee.{round, of_bits, to_bits, neg, add, sub, mul, div, lt, eq, le, of_int}
use Rattle.rule.specs.Lists.{count_of}
use Rattle.root.specs.Digits.{taken, one_more, after_digits, whole_root}
use Rattle.root.specs.Root.{significand, exponent, shift_of, shift, scaled, height, root_bits, has_root, root_of, root_answer}
use Rattle.numbers.specs.Measure.{as_distance}
use Rattle.numbers.specs.Ratio.{squared_off}
use Rattle.numbers.specs.Finite.{abs_of, is_finite, within}
use Rattle.numbers.specs.Quadratic.{counts0, linear, discriminant, ascending, curved, roots_of, quadratic_answer}
use Rattle.book.specs.Score.{close, count_in, square, squares_in, rms_of, rms_in, count_under, stop_at, standing, judged_by, stands_of, judge_trial, beyond_fit}
use Rattle.book.specs.Book.{is_better, beats, winner_after, scored_answer, raised, lowered, bound_after, entered, ended_at, has_ended, called, fresh, book_after, answers_of}
use Rattle.sheet.specs.Marks.{point_of}
use Rattle.estimator.specs.Family.{measure_of, distance_of, inlier}
use Rattle.sheet.specs.Distance.{projection_of, beyond_under, squared_residual, square_under}
use Rattle.starred.specs.Starred.{Starred}

pub starred : Starred
unfolding round of_bits to_bits neg add sub mul div lt le count_leading_zeros taken one_more after_digits whole_root significand exponent shift_of shift scaled height root_bits has_root root_of root_answer abs_of is_finite within counts0 linear discriminant ascending curved roots_of quadratic_answer count_of point_of squared_off projection_of beyond_under squared_residual square_under measure_of as_distance distance_of inlier eq close count_in square squares_in rms_of rms_in of_int count_under stop_at standing judged_by stands_of judge_trial is_better beats winner_after scored_answer raised lowered bound_after entered ended_at has_ended called fresh book_after answers_of beyond_fit
starred =
    record {
      under_I = refl;
      under_T = refl;
      I_within_2 = refl;
      I_within_3 = refl;
      T_within_2 = refl;
      none_behind = refl;
      I_scored = refl;
      I_scores_5 = refl;
      T_few = refl;
      refit_too_low = refl;
      refit_stands = refl;
      behind_few = refl;
      behind_scored = refl;
      all_beyond = refl;
      few_with_5 = refl;
      won_with_5 = refl;
      first_wins = refl;
      root_of_4 = refl;
      root_of_the_least = refl;
      two_roots = refl;
      one_root = refl;
    }
