-- More than 1e-9 away, without the root: the root is monotone, that of 1.0000000000000003e-18 is 1e-9, and that of the next double is above it.
-- Assumes nothing.
use mathlib.Core.Path.{◌≡◌, refl, sym, ap, subst}
use mathlib.Core.Bool.{Bool, true, false}
use mathlib.Core.Logic.{⊎_elim}
use Prim.Native.Nat.{ℕ, zero, suc, ◌*◌}
use native.Mathlib.Nat.{le_of_lt, le_of_eq}
use borrow.Author.Tests.{le-ltb, ltb-false}
use lib.Count.{count_leading_zeros}
use lib.Dec.{T, ltb, eqb, ltb→lt, eqb→eq}
use lib.IntN.{ℤ}
use lib.Ieee.{Float, nan, inf, fin, binary64, up, down, of_bits, to_bits, fits, level, lt, le, eq}
use lib.Ieee.Fits.{add-fits, and_l}
use lib.Ieee.Bits.{of_bits-fits}
use lib.Ieee.Positive.{positive, above, above_of_le, cross→le, le_trans_positive}
use Rattle.rule.proofs.Tests.{either, is_test, clash}
use Rattle.root.specs.Digits.{taken, one_more, after_digits, whole_root}
use Rattle.root.specs.Root.{significand, exponent, shift_of, shift, scaled, height, root_bits, has_root, root_of}
use Rattle.root.proofs.Monotone.{root_monotone}
use Rattle.numbers.specs.Constants.{same_point}
use Rattle.sheet.specs.Marks.{squared_apart}
use Rattle.sheet.specs.declared.marks.Point.{Point}
use Rattle.line.specs.Collinear.{apart}

-- the program's two limits, neighbours
abbrev low : Float
low = of_bits binary64 0x3c32_725d_d1d2_43ad

abbrev high : Float
high = of_bits binary64 0x3c32_725d_d1d2_43ae

-- the double after 1e-9
abbrev next : Float
next = of_bits binary64 0x3e11_2e0b_e826_d696

root_of_low : root_of low ≡ same_point
unfolding of_bits to_bits count_leading_zeros taken one_more after_digits whole_root significand exponent shift_of shift scaled height root_bits root_of
root_of_low = refl

root_of_high : root_of high ≡ next
unfolding of_bits to_bits count_leading_zeros taken one_more after_digits whole_root significand exponent shift_of shift scaled height root_bits root_of
root_of_high = refl

-- ---- order, against a positive double

not_above : (m : ℕ) (e : ℤ) (x : Float) → T (le x (fin false m e)) → lt (fin false m e) x ≡ false
unfolding le lt eq
not_above m e nan h = refl
not_above m e (inf true) h = refl
not_above m e (inf false) h = absurd h
not_above m e (fin true n d) h = refl
not_above m e (fin false n d) h =
    ⊎_elim
    (λ l. le-ltb (m * up e * down d) (n * up d * down e) (le_of_lt (ltb→lt (n * up d * down e) (m * up e * down d) l)))
    (λ q. le-ltb (m * up e * down d) (n * up d * down e) (le_of_eq (eqb→eq (n * up d * down e) (m * up e * down d) (and_l (eqb (n * up d * down e) (m * up e * down d)) _ q))))
    (either (ltb (n * up d * down e) (m * up e * down d)) (level false (n * up d * down e) false (m * up e * down d)) h)

-- of two positive doubles one is not below the other
at_most : (x y : Float) → T (positive x) → T (positive y) → lt x y ≡ false → T (le y x)
unfolding lt
at_most nan y p q h = absurd p
at_most (inf s) y p q h = absurd p
at_most (fin true m e) y p q h = absurd p
at_most (fin false m e) nan p q h = absurd q
at_most (fin false m e) (inf t) p q h = absurd q
at_most (fin false m e) (fin true n d) p q h = absurd q
at_most (fin false m e) (fin false n d) p q h = cross→le (fin false n d) (fin false m e) q p (ltb-false (m * up e * down d) (n * up d * down e) h)

beyond : (x : Float) → T (le next x) → T (above x) → lt same_point x ≡ true
unfolding lt le eq of_bits
beyond nan h a = absurd a
beyond (inf true) h a = absurd a
beyond (inf false) h a = refl
beyond (fin true n e) h a = absurd a
beyond (fin false n e) h a = go (lt same_point (fin false n e)) refl
  where
    go : (b : Bool) → lt same_point (fin false n e) ≡ b → b ≡ true
    go true g = refl
    go false g = absurd (le_trans_positive next (fin false n e) same_point tt a tt h (at_most same_point (fin false n e) tt a g))

-- ---- the square of a distance, against the limits

no-root : (d : Float) → has_root d ≡ false → root_of d ≡ nan
unfolding has_root root_of
no-root nan h = refl
no-root (inf true) h = refl
no-root (inf false) h = clash refl h
no-root (fin s zero e) h = clash refl h
no-root (fin true (suc m) e) h = refl
no-root (fin false (suc m) e) h = clash refl h

near : (d : Float) → T (fits binary64 d) → T (le d low) → lt same_point (root_of d) ≡ false
unfolding of_bits lt
near d f h = go (has_root d) refl
  where
    go : (b : Bool) → has_root d ≡ b → lt same_point (root_of d) ≡ false
    go true r = not_above _ _ (root_of d) (subst (λ y. T (le (root_of d) y)) root_of_low (root_monotone d low f (of_bits-fits binary64 0x3c32_725d_d1d2_43ad) (is_test (has_root d) r) h))
    go false r = ap (lt same_point) (no-root d r)

far : (d : Float) → T (fits binary64 d) → T (le high d) → lt same_point (root_of d) ≡ true
unfolding of_bits has_root
far d f h =
    let r = subst (λ y. T (le y (root_of d))) root_of_high (root_monotone high d (of_bits-fits binary64 0x3c32_725d_d1d2_43ae) f tt h) in
    beyond (root_of d) r (above_of_le next (root_of d) tt r)

square_fits : (p q : Point) → T (fits binary64 (squared_apart p q))
unfolding squared_apart
square_fits p q = add-fits binary64 _ _

module _ (p0 p : Point) {d : Float} (is : d ≡ squared_apart p p0) where
  pub not_apart : le d low ≡ true → false ≡ apart p0 p
  unfolding apart
  not_apart h = sym (near (squared_apart p p0) (square_fits p p0) (subst (λ x. T (le x low)) is (is_test (le d low) h)))

  pub is_apart : le high d ≡ true → true ≡ apart p0 p
  unfolding apart
  is_apart h = sym (far (squared_apart p p0) (square_fits p p0) (subst (λ x. T (le high x)) is (is_test (le high d) h)))
