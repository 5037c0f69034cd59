-- What the measuring of a mark under a model gives, for any family (document 02, order 2): that it is beyond, or its distance.
use Rattle.std.specs.Prelude.{Bool, true, false, Float}
use Rattle.numbers.specs.Constants.{infinity}

-- Beyond is behind the horizon. (In the terms of the field, the mark fails the cheirality test.)
pub data Measure : Type 0 where
  beyond : Measure
  distance : Float → Measure

unfoldable pub is_beyond : Measure → Bool
is_beyond beyond = true
is_beyond (distance d) = false

-- The number that scoring takes it for: a mark that is beyond is infinitely far. So it lies within an infinite threshold, which only a state made by hand can have.
unfoldable pub as_distance : Measure → Float
as_distance beyond = infinity
as_distance (distance d) = d
