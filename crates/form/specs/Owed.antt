-- That forms are what a family has to be. (Nothing here has to be read: it is checked.)
use mathlib.Core.Bool.{true}
use mathlib.Core.Path.{◌≡◌, refl, sym}
use mathlib.Core.List.{List, [], ◌∷◌}
use Prim.Native.Nat.{ℕ, zero, suc, ◌*◌, ◌/◌, ◌≤◌, ◌<◌}
use native.Mathlib.Omega.{arith}
use lib.ListN.{length, take, drop}
use lib.Ieee.{Float}
use Rattle.rule.specs.Order.{all_numbered}
use Rattle.rule.proofs.Lists.{places_at, some_by_one}
use Rattle.numbers.specs.Constants.{zero'}
use Rattle.estimator.specs.Family.{mark_at}
use Rattle.form.specs.Marks.{marks_of, mark_numbers}
use Rattle.form.specs.Distance.{model_of, model_numbers, camera}
use Rattle.form.specs.Forms.{form}
use Rattle.form.specs.declared.model.Camera.{Camera}

pub wide : 4 ≤ 5
wide = omega arith

pub narrow : 5 ≤ 5
narrow = omega arith

pub small : 12 ≤ 1000
small = omega arith

pub counts : (l : List Float) → length (marks_of l) ≡ length l / 5
unfolding marks_of
counts [] = refl
counts (x ∷ []) = refl
counts (x ∷ y ∷ []) = refl
counts (x ∷ y ∷ z ∷ []) = refl
counts (x ∷ y ∷ z ∷ u ∷ []) = refl
counts (x ∷ y ∷ z ∷ u ∷ v ∷ rest) = let h = counts rest in omega arith

next : (i : ℕ) → 5 * suc i ≡ suc (suc (suc (suc (suc (5 * i)))))
next i = omega arith

pub placed : (l : List Float) (i : ℕ) → i < length l / 5 → form.mark_numbers (mark_at form l i) ≡ take 5 (drop (5 * i) l)
unfolding mark_at marks_of mark_numbers
placed [] i h = absurd (omega (arith, h))
placed (x ∷ []) i h = absurd (omega (arith, h))
placed (x ∷ y ∷ []) i h = absurd (omega (arith, h))
placed (x ∷ y ∷ z ∷ []) i h = absurd (omega (arith, h))
placed (x ∷ y ∷ z ∷ u ∷ []) i h = absurd (omega (arith, h))
placed (x ∷ y ∷ z ∷ u ∷ v ∷ rest) zero h = refl
placed (x ∷ y ∷ z ∷ u ∷ v ∷ rest) (suc i) h = rw (next i) (placed rest i (omega (arith, h)))

pub modelled : (l : List Float) → 12 ≤ length l → model_numbers (model_of l) ≡ take 12 l
unfolding model_numbers places_at
modelled l h = sym (some_by_one 12 0 l zero' h)

pub numbered : (e : Camera) → all_numbered (form.tests e) ≡ true
unfolding camera
numbered e = refl
