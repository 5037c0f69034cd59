-- That sheets are what a family has to be. (Nothing here has to be read: it is checked.)
use mathlib.Core.Bool.{true}
use mathlib.Core.Path.{◌≡◌, refl, sym}
use mathlib.Core.List.{List, [], ◌∷◌}
use Prim.Native.Nat.{ℕ, zero, suc, ◌*◌, ◌/◌, ◌≤◌, ◌<◌}
use native.Mathlib.Omega.{arith}
use lib.ListN.{length, take, drop}
use lib.Ieee.{Float}
use Rattle.rule.specs.Order.{all_numbered}
use Rattle.rule.proofs.Lists.{places_at, some_by_one}
use Rattle.numbers.specs.Constants.{zero'}
use Rattle.estimator.specs.Family.{mark_at}
use Rattle.sheet.specs.Marks.{marks_of, mark_numbers}
use Rattle.sheet.specs.Distance.{model_of, model_numbers}
use Rattle.sheet.specs.Sheets.{sheet}
use Rattle.sheet.specs.declared.model.Sheet.{Sheet}

pub wide : 4 ≤ 4
wide = omega arith

pub narrow : 4 ≤ 5
narrow = omega arith

pub small : 9 ≤ 1000
small = omega arith

pub counts : (l : List Float) → length (marks_of l) ≡ length l / 4
unfolding marks_of
counts [] = refl
counts (x ∷ []) = refl
counts (x ∷ y ∷ []) = refl
counts (x ∷ y ∷ u ∷ []) = refl
counts (x ∷ y ∷ u ∷ v ∷ rest) = let h = counts rest in omega arith

next : (i : ℕ) → 4 * suc i ≡ suc (suc (suc (suc (4 * i))))
next i = omega arith

pub placed : (l : List Float) (i : ℕ) → i < length l / 4 → sheet.mark_numbers (mark_at sheet l i) ≡ take 4 (drop (4 * i) l)
unfolding mark_at marks_of mark_numbers
placed [] i h = absurd (omega (arith, h))
placed (x ∷ []) i h = absurd (omega (arith, h))
placed (x ∷ y ∷ []) i h = absurd (omega (arith, h))
placed (x ∷ y ∷ u ∷ []) i h = absurd (omega (arith, h))
placed (x ∷ y ∷ u ∷ v ∷ rest) zero h = refl
placed (x ∷ y ∷ u ∷ v ∷ rest) (suc i) h = rw (next i) (placed rest i (omega (arith, h)))

pub modelled : (l : List Float) → 9 ≤ length l → model_numbers (model_of l) ≡ take 9 l
unfolding model_numbers places_at
modelled l h = sym (some_by_one 9 0 l zero' h)

pub numbered : (e : Sheet) → all_numbered (sheet.tests e) ≡ true
numbered e = refl
