-- Document 01, 'Marks': a list of numbers, four to a mark; and the points of a side.
use Rattle.std.specs.Prelude.{List, [], ◌∷◌, map, ℕ, zero, suc, get_or, Float}
use Rattle.rule.specs.Arith.{◌⊕◌, ◌⊖◌, ◌⊗◌}
use Rattle.numbers.specs.Constants.{zero'}
use Rattle.sheet.specs.declared.marks.Mark.{Mark}
use Rattle.sheet.specs.declared.marks.Point.{Point}
use Rattle.sheet.specs.declared.marks.Side.{Side}
use Rattle.sheet.specs.declared.marks.Side.TheVariants.{Sheet, Pixel}

-- ---- the list

-- The marks of a list of numbers; what is left over at the end is no mark.
unfoldable pub marks_of : List Float → List Mark
marks_of [] = []
marks_of (x ∷ []) = []
marks_of (x ∷ y ∷ []) = []
marks_of (x ∷ y ∷ u ∷ []) = []
marks_of (x ∷ y ∷ u ∷ v ∷ rest) = record { x = x; y = y; u = u; v = v } ∷ marks_of rest

-- the numbers of one mark
unfoldable pub mark_numbers : Mark → List Float
mark_numbers m = m.x ∷ m.y ∷ m.u ∷ m.v ∷ []

-- the mark of four numbers
abbrev pub mark_of : List Float → Mark
mark_of l = record { x = get_or l 0 zero'; y = get_or l 1 zero'; u = get_or l 2 zero'; v = get_or l 3 zero' }

abbrev pub no_mark : Mark
no_mark = record { x = zero'; y = zero'; u = zero'; v = zero' }

-- the mark at a place; zeros where there is none
unfoldable pub mark_at : List Float → ℕ → Mark
mark_at l i = get_or (marks_of l) i no_mark

-- ---- one side

-- a side by number: 0 is the sheet's, any other the pixels'
abbrev pub side_of : ℕ → Side
side_of zero = Sheet
side_of (suc k) = Pixel

unfoldable pub point_of : Side → Mark → Point
point_of Sheet m = record { x = m.x; y = m.y }
point_of Pixel m = record { x = m.u; y = m.v }

unfoldable pub points : Side → List Float → List Point
points side l = map (point_of side) (marks_of l)

unfoldable pub point_at : Side → List Float → ℕ → Point
point_at side l i = point_of side (mark_at l i)

-- the square of the distance of two points
unfoldable pub squared_apart : Point → Point → Float
squared_apart p q =
    let dx = p.x ⊖ q.x in
    let dy = p.y ⊖ q.y in
    dx ⊗ dx ⊕ dy ⊗ dy
