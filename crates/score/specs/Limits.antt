-- Squares of distances that a threshold settles without the root: those up to `low` are within it, those from `high` on are not. The root is monotone.
use Rattle.std.specs.Prelude.{◌≡◌, Bool, true, false, not, cond, ◌&&◌, T, Float}
use Rattle.std.specs.Float.{binary64}
use Rattle.std.specs.Float.Ieee.{of_bits, fits, le, lt}
use Rattle.rule.specs.Arith.{clear}
use Rattle.root.specs.Root.{root_of}
use Rattle.numbers.specs.Constants.{zero'}
use Rattle.book.specs.Score.{square}

-- A square that has a root and is at most `low` is surely within; one that is not from `high` on is possibly within. A square below 0 and a NaN, of which
-- there are none among the squares of distances, are within nothing.
unfoldable pub surely : (low q : Float) → Bool
surely low q = le zero' q && le q low

unfoldable pub possibly : (high q : Float) → Bool
possibly high q = not (le high q)

-- what each of the two limits settles
pub record Low (thresh low : Float) : Type 0 where
  pub within : (q : Float) → T (fits binary64 q) → surely low q ≡ true → le (root_of q) thresh ≡ true

pub record High (thresh high : Float) : Type 0 where
  pub beyond : (q : Float) → T (fits binary64 q) → possibly high q ≡ false → le (root_of q) thresh ≡ false

-- a NaN: nothing compares with it, so it settles nothing
abbrev pub no_limit : Float
no_limit = of_bits binary64 0x7ff8_0000_0000_0000

-- a limit, where it is told that it settles something, and it and the threshold are above 0
unfoldable pub settled : (thresh limit : Float) → Bool → Float
settled thresh limit settles = cond (lt zero' thresh && (lt zero' limit && settles)) limit no_limit

-- what a distance adds to the sum of squares
unfoldable pub addend : Float → Float → Float
addend thresh d = cond (le d thresh) (square d) zero'

-- no more than `most`, and of clear sign
pub record Under (least most : Float) : Type 0 where
  pub sign : T (clear least)
  pub under : T (le least most)
