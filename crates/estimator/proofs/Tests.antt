-- What the shape's test has to do with a list's length, whatever the family. Assumes nothing.
use mathlib.Core.Path.{◌≡◌}
use mathlib.Core.Bool.{false, not}
use mathlib.Core.List.{List}
use Prim.Native.Nat.{ℕ, ◌*◌, ◌/◌, ◌%◌, ◌≤◌}
use native.Mathlib.Omega.{arith}
use Rattle.std.proofs.Math.Nat.{div-le_of_le-mul}
use borrow.Author.Tests.{eq-eqb, le-ltb, ltb-false}
use lib.Dec.{ltb, eqb}
use lib.ListN.{length}
use lib.Ieee.{Float}
use Rattle.rule.proofs.Tests.{neither}
use Rattle.estimator.specs.Family.{Family}
use Rattle.estimator.specs.Marks.{shape}

module _ {E M K : Type 0} (f : Family E M K) (l : List Float) where
  pub shaped : length l % f.width ≡ 0 → length l ≤ 8000 → (shape f l).fails ≡ false
  unfolding shape
  shaped whole short = rw (eq-eqb (length l % f.width) 0 whole, le-ltb 8000 (length l) short)

  pub short_enough : (shape f l).fails ≡ false → length l ≤ 8000
  unfolding shape
  short_enough h = ltb-false 8000 (length l) (neither (not (eqb (length l % f.width) 0)) (ltb 8000 (length l)) h).1

-- 8,000 numbers are at most 2,000 marks
pub at_most : (w : ℕ) → 4 ≤ w → (n : ℕ) → n ≤ 8000 → n / w ≤ 2000
at_most w wide n short = div-le_of_le-mul w (let e : 8000 ≤ w * 2000 = omega (arith, wide) in omega (arith, e, short))

pub few_marks : {E M K : Type 0} (f : Family E M K) (w : ℕ) → 4 ≤ w → ((l : List Float) → length (f.marks_of l) ≡ length l / w) → (l : List Float) → length l ≤ 8000 → length (f.marks_of l) ≤ 2000
few_marks f w wide counts l short = rw (counts l) (at_most w wide (length l) short)
