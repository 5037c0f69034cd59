-- The view of the roots can be taken back, so a contract on the view of the entry's answer fixes the answer. Assumes nothing.
use mathlib.Core.Path.{◌≡◌, refl}
use Rattle.std.specs.Prelude.{List, [], ◌∷◌, Float}
use Rattle.rule.specs.Answer.{OneAnswer}
use Rattle.rule.proofs.Views.{told_one}
use Rattle.numbers.specs.Quadratic.{view_quadratic}
use Rattle.numbers.specs.declared.quadratic.Quadratic.{Quadratic}
use Rattle.numbers.specs.declared.quadratic.Quadratic.TheVariants.{NoRoot, One, Two}

-- of a list with more than two roots, which the view never gives, anything
back : List Float → Quadratic
back [] = NoRoot
back (a ∷ []) = One a
back (a ∷ b ∷ more) = Two a b

undone : (x : Quadratic) → back (view_quadratic x) ≡ x
unfolding back view_quadratic
undone NoRoot = refl
undone (One a) = refl
undone (Two a b) = refl

pub view_one : OneAnswer view_quadratic
view_one = told_one view_quadratic back undone
