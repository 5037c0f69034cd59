-- Document 01, 'Distance', and document 02, orders 2 and 3: the projection by a homography, and the distance of a mark under it by the row ratio, or that the
-- mark is beyond. (In the terms of the field, the reprojection residual.)
use Rattle.std.specs.Prelude.{Bool, not, cond, List, [], ◌∷◌, get_or, Float}
use Rattle.std.specs.Float.Ieee.{lt}
use Rattle.rule.specs.Arith.{◌⊕◌, ◌⊖◌, ◌⊗◌, ◌⊘◌}
use Rattle.root.specs.Root.{root_of}
use Rattle.numbers.specs.Constants.{zero'}
use Rattle.numbers.specs.Measure.{Measure, beyond, distance}
use Rattle.numbers.specs.Ratio.{squared_off}
use Rattle.sheet.specs.Marks.{point_of, squared_apart}
use Rattle.sheet.specs.declared.marks.Mark.{Mark}
use Rattle.sheet.specs.declared.marks.Point.{Point}
use Rattle.sheet.specs.declared.marks.Side.TheVariants.{Sheet, Pixel}
use Rattle.sheet.specs.declared.model.Model.{Model}
use Rattle.sheet.specs.declared.model.Projection.{Projection}

unfoldable pub model_numbers : Model → List Float
model_numbers h = h.h0 ∷ h.h1 ∷ h.h2 ∷ h.h3 ∷ h.h4 ∷ h.h5 ∷ h.h6 ∷ h.h7 ∷ h.h8 ∷ []

-- the model of nine numbers, row by row
abbrev pub model_of : List Float → Model
model_of l =
    record {
      h0 = get_or l 0 zero';
      h1 = get_or l 1 zero';
      h2 = get_or l 2 zero';
      h3 = get_or l 3 zero';
      h4 = get_or l 4 zero';
      h5 = get_or l 5 zero';
      h6 = get_or l 6 zero';
      h7 = get_or l 7 zero';
      h8 = get_or l 8 zero';
    }

-- s = (h6·x + h7·y) + h8, and the mapped u and v: ((h0·x + h1·y) + h2)/s and ((h3·x + h4·y) + h5)/s
unfoldable pub projection_of : Model → Point → Projection
projection_of h p =
    let s = h.h6 ⊗ p.x ⊕ h.h7 ⊗ p.y ⊕ h.h8 in
    record {
      s = s;
      at = record { x = (h.h0 ⊗ p.x ⊕ h.h1 ⊗ p.y ⊕ h.h2) ⊘ s; y = (h.h3 ⊗ p.x ⊕ h.h4 ⊗ p.y ⊕ h.h5) ⊘ s };
    }

-- Beyond unless s > 0, so also where s is a NaN.
unfoldable pub beyond_under : Model → Mark → Bool
beyond_under h m = not (lt zero' (projection_of h (point_of Sheet m)).s)

-- how far the mapped point is from the pixel, squared
unfoldable pub squared_residual : (ratio : Float) → (to pixel : Point) → Float
squared_residual ratio to pixel = squared_off ratio (to.x ⊖ pixel.x) (to.y ⊖ pixel.y)

-- the square of the distance
unfoldable pub square_under : (ratio : Float) → Model → Mark → Float
square_under ratio h m = squared_residual ratio (projection_of h (point_of Sheet m)).at (point_of Pixel m)

-- 01's own distance, from before there was a ratio: of square pixels
unfoldable pub plain_measure_of : Model → Mark → Measure
plain_measure_of h m =
    let to = projection_of h (point_of Sheet m) in
    cond (beyond_under h m) beyond (distance (root_of (squared_apart to.at (point_of Pixel m))))
