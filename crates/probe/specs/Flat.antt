-- Answers as plain numbers, for a caller in C or Rust: the refusal's number, how many values, and the value at a place. (`flat` has those of every family.)
use Rattle.std.specs.Prelude.{Bool, true, false, List, [], ◌∷◌, ℕ, length, Float}
use Rattle.std.specs.Float.{nan}
use Rattle.rule.specs.Answer.{Answer, refused, gives}
use Rattle.flat.specs.Flat as Flat
use Rattle.sheet.specs.declared.model.Projection.{Projection}

-- 0 where the call was not refused
abbrev pub refusal_of : Answer Float → ℕ
refusal_of (refused k) = k
refusal_of (gives y) = 0

-- how many roots, or the refusal's number, which is above 2
abbrev pub count_of : Answer (List Float) → ℕ
count_of (refused k) = k
count_of (gives l) = length l

-- the root at a place, or a NaN
abbrev pub place_of : ℕ → Answer (List Float) → Float
place_of i (refused k) = nan
place_of i (gives l) = Flat.place_of i l

-- no, yes, or the refusal's number, which is above 1
abbrev pub told_of : Answer Bool → ℕ
told_of (refused k) = k
told_of (gives false) = 0
told_of (gives true) = 1

-- s, u or v; a NaN past them
abbrev pub part_of : ℕ → Projection → Float
part_of place q = Flat.place_of place (q.s ∷ q.at.x ∷ q.at.y ∷ [])
