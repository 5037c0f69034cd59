-- Records: a layout is the widths of a record's fields, in bytes and in their order. A reader and a writer of a record share it: the numbers that stand in the
-- fields, and the bytes that put numbers there.
use Rattle.std.specs.Prelude.{List, [], ◌∷◌, ◌++◌, ℕ, ◌+◌, take, drop}
use Rattle.fields.specs.Fields.{little_endian, bytes_of}

-- the bytes that the fields take together
unfoldable pub size_of : (layout : List ℕ) → ℕ
size_of [] = 0
size_of (w ∷ layout) = w + size_of layout

-- the numbers in the fields
unfoldable pub unpacked : (layout : List ℕ) → List ℕ → List ℕ
unpacked [] l = []
unpacked (w ∷ layout) l = little_endian (take w l) ∷ unpacked layout (drop w l)

-- the bytes that have these numbers in the fields
unfoldable pub packed : (layout : List ℕ) → (numbers : List ℕ) → List ℕ
packed [] numbers = []
packed (w ∷ layout) [] = []
packed (w ∷ layout) (n ∷ numbers) = bytes_of w n ++ packed layout numbers
