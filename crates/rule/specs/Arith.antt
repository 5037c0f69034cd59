-- Arithmetic on doubles as document 01 means it: binary64, one rounding to nearest (ties to even) for each operation.
-- The circled operators are the field's notation for a rounded operation, so that a definition reads like 01's formula, in its order.
-- Comparisons keep IEEE 754's names: `lt`, `le` and `eq` of `lib.Ieee`, each false where an operand is a NaN; `neg` turns the sign, a zero's too.
use Rattle.std.specs.Prelude.{Bool, false, not, Float}
use Rattle.std.specs.Float.{nan, inf, fin, binary64}
use Rattle.std.specs.Float.Ieee.{add, sub, mul, div}

infixl 60 ◌⊕◌
infixl 60 ◌⊖◌
infixl 70 ◌⊗◌
infixl 70 ◌⊘◌
abbrev pub ◌⊕◌ : Float → Float → Float
x ⊕ y = add binary64 x y

abbrev pub ◌⊖◌ : Float → Float → Float
x ⊖ y = sub binary64 x y

abbrev pub ◌⊗◌ : Float → Float → Float
x ⊗ y = mul binary64 x y

abbrev pub ◌⊘◌ : Float → Float → Float
x ⊘ y = div binary64 x y

-- no NaN, and of clear sign: 0, a positive number or infinity
unfoldable pub clear : Float → Bool
clear nan = false
clear (inf s) = not s
clear (fin s m e) = not s
