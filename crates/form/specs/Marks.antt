-- Document 02, order 5: the marks of a standing form, a list of numbers, five to a mark; and their points.
use Rattle.std.specs.Prelude.{List, [], ◌∷◌, map, ℕ, get_or, Float}
use Rattle.numbers.specs.Constants.{zero'}
use Rattle.form.specs.declared.marks.Mark.{Mark}
use Rattle.form.specs.declared.marks.Point.{Point}
use Rattle.form.specs.declared.marks.Pixel.{Pixel}

-- ---- the list

-- The marks of a list of numbers; what is left over at the end is no mark.
unfoldable pub marks_of : List Float → List Mark
marks_of [] = []
marks_of (x ∷ []) = []
marks_of (x ∷ y ∷ []) = []
marks_of (x ∷ y ∷ z ∷ []) = []
marks_of (x ∷ y ∷ z ∷ u ∷ []) = []
marks_of (x ∷ y ∷ z ∷ u ∷ v ∷ rest) = record { x = x; y = y; z = z; u = u; v = v } ∷ marks_of rest

-- the numbers of one mark
unfoldable pub mark_numbers : Mark → List Float
mark_numbers m = m.x ∷ m.y ∷ m.z ∷ m.u ∷ m.v ∷ []

-- the mark of five numbers
abbrev pub mark_of : List Float → Mark
mark_of l = record { x = get_or l 0 zero'; y = get_or l 1 zero'; z = get_or l 2 zero'; u = get_or l 3 zero'; v = get_or l 4 zero' }

abbrev pub no_mark : Mark
no_mark = record { x = zero'; y = zero'; z = zero'; u = zero'; v = zero' }

-- the mark at a place; zeros where there is none
unfoldable pub mark_at : List Float → ℕ → Mark
mark_at l i = get_or (marks_of l) i no_mark

-- ---- where a mark is on the form, and where the camera saw it

unfoldable pub point_of : Mark → Point
point_of m = record { x = m.x; y = m.y; z = m.z }

unfoldable pub pixel_of : Mark → Pixel
pixel_of m = record { u = m.u; v = m.v }

unfoldable pub points : List Float → List Point
points l = map point_of (marks_of l)

unfoldable pub point_at : List Float → ℕ → Point
point_at l i = point_of (mark_at l i)
