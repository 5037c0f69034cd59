-- Where the numbers of a mark stand in a list, and one place more of two that are compared. Assumes nothing.
use mathlib.Core.Path.{◌≡◌, refl}
use mathlib.Core.Bool.{Bool, true, false, ◌&&◌}
use mathlib.Core.List.{List, [], ◌∷◌}
use Prim.Native.Nat.{ℕ, zero, suc, ◌+◌, ◌*◌, ◌/◌, ◌≤◌, ◌<◌}
use native.Mathlib.Nat.{mul-suc, mul-le-mul_left, le_trans}
use native.Mathlib.Numerals.{add-one}
use native.Mathlib.Omega.{arith}
use Rattle.std.proofs.Math.Nat.{mul-div-le}
use lib.ListN.{length, get_or, take}
use lib.Ieee.{Float, nan, eq}
use lib.Pointwise.{pointwise}

pub inside : (w : ℕ) (l : List Float) (i : ℕ) → i < length l / w → w * i + w ≤ length l
inside w l i h = let e = mul-suc w i in let g = le_trans (mul-le-mul_left w h) (mul-div-le (length l) w) in omega (arith, e, g)

alike_next : (a b : List Float) (k : ℕ) → length a ≡ length b → k < length a → (pointwise eq (take k a) (take k b) && eq (get_or a k nan) (get_or b k nan)) ≡ pointwise eq (take (suc k) a) (take (suc k) b)
alike_next [] b k same h = absurd (omega (arith, h))
alike_next (x ∷ a) [] k same h = absurd (omega (arith, same))
alike_next (x ∷ a) (y ∷ b) zero same h = one (eq x y)
  where
    one : (t : Bool) → t ≡ (t && true)
    one true = refl
    one false = refl
alike_next (x ∷ a) (y ∷ b) (suc k) same h = more (eq x y) (pointwise eq (take k a) (take k b)) (eq (get_or a k nan) (get_or b k nan)) (pointwise eq (take (suc k) a) (take (suc k) b)) (alike_next a b k (omega (arith, same)) (omega (arith, h)))
  where
    more : (t u v w : Bool) → (u && v) ≡ w → (t && u && v) ≡ (t && w)
    more true u v w e = e
    more false u v w e = refl

pub alike_more : (a b : List Float) (k : ℕ) → length a ≡ length b → k < length a → (pointwise eq (take k a) (take k b) && eq (get_or a k nan) (get_or b k nan)) ≡ pointwise eq (take (k + 1) a) (take (k + 1) b)
alike_more a b k same h = rw (add-one k) (alike_next a b k same h)
