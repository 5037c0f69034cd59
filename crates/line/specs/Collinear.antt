-- Document 01, 'Collinear', of the points of one side.
use Rattle.std.specs.Prelude.{Bool, true, false, not, ◌&&◌, cond, List, [], ◌∷◌, ltb, length, Float}
use Rattle.std.specs.Float.Ieee.{lt}
use Rattle.rule.specs.Answer.{Answer}
use Rattle.rule.specs.Order.{first_failed, decided}
use Rattle.rule.specs.Arith.{◌⊖◌, ◌⊗◌}
use Rattle.rule.specs.Lists.{every}
use Rattle.root.specs.Root.{root_of}
use Rattle.numbers.specs.Constants.{same_point, on_line}
use Rattle.numbers.specs.Finite.{abs_of}
use Rattle.estimator.specs.Marks.{marks_tests}
use Rattle.sheet.specs.Marks.{points, squared_apart}
use Rattle.sheet.specs.Sheets.{sheet}
use Rattle.sheet.specs.declared.marks.Point.{Point}
use Rattle.sheet.specs.declared.marks.Side.{Side}

-- p is more than 1e-9 away from p0
unfoldable pub apart : Point → Point → Bool
apart p0 p = lt same_point (root_of (squared_apart p p0))

unfoldable pub cross_of : Point → Point → Point → Float
cross_of p0 p1 p2 = (p1.x ⊖ p0.x) ⊗ (p2.y ⊖ p0.y) ⊖ (p1.y ⊖ p0.y) ⊗ (p2.x ⊖ p0.x)

-- A point that is not apart from point 0 is passed over. Any other has to have a cross product of magnitude at most 1e-6.
unfoldable pub on_baseline : Point → Point → Point → Bool
on_baseline p0 p1 p = not (apart p0 p && lt on_line (abs_of (cross_of p0 p1 p)))

-- The baseline runs from point 0 to the first later point that is apart from it; none, yes.
unfoldable pub straight : Point → List Point → List Point → Bool
straight p0 [] all = true
straight p0 (p ∷ later) all = cond (apart p0 p) (every (on_baseline p0 p) all) (straight p0 later all)

-- fewer than 3 points, no
unfoldable pub collinear : List Point → Bool
collinear [] = false
collinear (p0 ∷ later) = cond (ltb (length (p0 ∷ later)) 3) false (straight p0 later (p0 ∷ later))

-- ---- the entry

unfoldable pub collinear_answer : List Float → Side → Answer Bool
collinear_answer l side = decided (first_failed (marks_tests sheet l)) (collinear (points side l))
