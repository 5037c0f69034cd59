-- A distance and a matrix as plain numbers, for a caller in C or Rust: the refusal's number, and the value at a place.
use Rattle.std.specs.Prelude.{List, ℕ, get_or, Float}
use Rattle.std.specs.Float.{nan}
use Rattle.rule.specs.Answer.{Answer, refused, gives}
use Rattle.rule.specs.Lists.{for_each}
use Rattle.numbers.specs.Measure.{Measure, beyond, distance}

-- 0 where there is a distance, 256 where the mark is beyond, or the refusal's number, which is below 256
abbrev pub measure_told : Answer Measure → ℕ
measure_told (refused k) = k
measure_told (gives beyond) = 256
measure_told (gives (distance d)) = 0

-- the distance, or a NaN where there is none
abbrev pub value_of : Answer Measure → Float
value_of (refused k) = nan
value_of (gives beyond) = nan
value_of (gives (distance d)) = d

-- the number at a place, or a NaN
abbrev pub place_of : ℕ → List Float → Float
place_of place l = get_or l place nan

-- the entry at a place of a matrix, row by row
abbrev pub entry_of : {Row : Type 0} → (cells : Row → List Float) → ℕ → List Row → Float
entry_of cells place rows = place_of place (for_each cells rows)
