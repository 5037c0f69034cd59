-- Document 02, orders 2, 3 and 5: what a candidate and a camera make of a point of the form, and the distance of a mark under them by the row ratio, or that the
-- mark is beyond. (In the terms of the field, the reprojection residual.)
use Rattle.std.specs.Prelude.{Bool, not, List, [], ◌∷◌, get_or, Float}
use Rattle.std.specs.Float.Ieee.{lt}
use Rattle.rule.specs.Refusal.{CAMERA}
use Rattle.rule.specs.Order.{Test}
use Rattle.rule.specs.Arith.{◌⊕◌, ◌⊖◌, ◌⊗◌, ◌⊘◌}
use Rattle.numbers.specs.Constants.{zero', farthest}
use Rattle.numbers.specs.Ratio.{squared_off}
use Rattle.estimator.specs.Marks.{all_within}
use Rattle.form.specs.Marks.{point_of, pixel_of}
use Rattle.form.specs.declared.marks.Mark.{Mark}
use Rattle.form.specs.declared.marks.Point.{Point}
use Rattle.form.specs.declared.marks.Pixel.{Pixel}
use Rattle.form.specs.declared.model.Row.{Row}
use Rattle.form.specs.declared.model.Model.{Model}
use Rattle.form.specs.declared.model.Camera.{Camera}

-- ---- candidates

unfoldable pub model_numbers : Model → List Float
model_numbers h =
    h.x.r0 ∷ h.x.r1 ∷ h.x.r2 ∷ h.x.t
    ∷ h.y.r0 ∷ h.y.r1 ∷ h.y.r2 ∷ h.y.t
    ∷ h.z.r0 ∷ h.z.r1 ∷ h.z.r2 ∷ h.z.t
    ∷ []

-- the model of twelve numbers, row by row
abbrev pub model_of : List Float → Model
model_of l =
    record {
      x = record { r0 = get_or l 0 zero'; r1 = get_or l 1 zero'; r2 = get_or l 2 zero'; t = get_or l 3 zero' };
      y = record { r0 = get_or l 4 zero'; r1 = get_or l 5 zero'; r2 = get_or l 6 zero'; t = get_or l 7 zero' };
      z = record { r0 = get_or l 8 zero'; r1 = get_or l 9 zero'; r2 = get_or l 10 zero'; t = get_or l 11 zero' };
    }

-- ---- cameras

unfoldable pub camera_numbers : Camera → List Float
camera_numbers c = c.fx ∷ c.fy ∷ c.cx ∷ c.cy ∷ []

-- the camera of four numbers
abbrev pub camera_of : List Float → Camera
camera_of l = record { fx = get_or l 0 zero'; fy = get_or l 1 zero'; cx = get_or l 2 zero'; cy = get_or l 3 zero' }

-- 17: a number of the camera not finite, or of magnitude above 1e9
unfoldable pub camera : Camera → Test
camera c = record { fails = not (all_within farthest (camera_numbers c)); number = CAMERA }

-- ---- the distance

-- by one row: ((r0·x + r1·y) + r2·z) + t
unfoldable pub turned_by : Row → Point → Float
turned_by row p = row.r0 ⊗ p.x ⊕ row.r1 ⊗ p.y ⊕ row.r2 ⊗ p.z ⊕ row.t

-- X, Y and Z, each by its own row
unfoldable pub turned : Model → Point → Point
turned h p = record { x = turned_by h.x p; y = turned_by h.y p; z = turned_by h.z p }

-- of X, Y and Z: fx·(X / Z) + cx and fy·(Y / Z) + cy
unfoldable pub pixel_under : Camera → Point → Pixel
pixel_under c p = record { u = c.fx ⊗ (p.x ⊘ p.z) ⊕ c.cx; v = c.fy ⊗ (p.y ⊘ p.z) ⊕ c.cy }

-- Beyond unless Z > 0, so also where Z is a NaN.
unfoldable pub beyond_under : Model → Mark → Bool
beyond_under h m = not (lt zero' (turned h (point_of m)).z)

-- how far the pixel of a point is from a mark's, squared
unfoldable pub squared_residual : (ratio : Float) → (to pixel : Pixel) → Float
squared_residual ratio to pixel = squared_off ratio (to.u ⊖ pixel.u) (to.v ⊖ pixel.v)

-- the square of the distance
unfoldable pub square_under : Camera → (ratio : Float) → Model → Mark → Float
square_under c ratio h m = squared_residual ratio (pixel_under c (turned h (point_of m))) (pixel_of m)
