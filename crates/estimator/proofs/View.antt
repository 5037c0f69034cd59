-- The view of the distance can be taken back, so a contract on the view of the entry's answer leaves one answer (`told_one`). Assumes nothing.
use mathlib.Core.Path.{◌≡◌, refl}
use Rattle.std.specs.Prelude.{Option, Some, None, Float}
use Rattle.rule.specs.Answer.{OneAnswer}
use Rattle.rule.proofs.Views.{told_one}
use Rattle.numbers.specs.Measure.{Measure, beyond, distance}
use Rattle.estimator.specs.Entry.{measured}

back : Measure → Option Float
back (distance d) = Some d
back beyond = None

undone : (x : Option Float) → back (measured x) ≡ x
unfolding back
undone (Some d) = refl
undone None = refl

pub view_one : OneAnswer measured
view_one = told_one measured back undone
