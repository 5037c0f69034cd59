-- Doubles and their patterns: what the tests of `sqrt` and `root` say of a double, which pattern a finite positive double has, and that the
-- pattern stands for the double's own number. Assumes nothing.
use mathlib.Core.Path.{◌≡◌, refl, sym, ap, ap₂, ◌∙◌, subst}
use mathlib.Core.Logic.{⊎_elim}
use mathlib.Core.Bool.{Bool, true, false, not, cond, ◌||◌}
use Prim.Native.Nat.{ℕ, zero, suc, ◌+◌, ◌*◌, ◌/◌, ◌%◌, ◌^◌, ◌≤◌, ◌<◌}
use native.Mathlib.Nat.{mod-eq_of_lt, lt_irrefl, lt_trans, zero-lt-suc, mul-div_cancel}
use native.Mathlib.Omega.{arith}
use borrow.Author.Tests.{lt-ltb, lt-leb, le-leb, ne_eqb}
use lib.Dec.{T, leb, eqb, lit<}
use lib.Ieee.{Float, nan, inf, fin, binary64, down, odd, of_fields, of_bits, to_bits, fits, is_nan, lt, le, eq}
use lib.Ieee.Fits.{down_pos}
use lib.Ieee.Bits.{of_bits-to_bits}
use lib.Ieee.Exact.{HasValue, odd_sign}
use lib.Ieee.Positive.{positive}
use Rattle.rule.specs.Refusal.{NUMBER}
use Rattle.rule.specs.Answer.{refused, gives}
use Rattle.rule.proofs.Tests.{le_or_gt, or_true, clash}
use Rattle.rule.proofs.Zero.{zero_lt, zero_eq, zeros_eq}
use Rattle.root.specs.Double.{units}
use Rattle.root.specs.Root.{significand, exponent, root_bits, has_root, root_of, root_answer}
use Rattle.root.proofs.Patterns.{value, exponent_is, significand-low, significand-high}

-- ---- what comparisons with 0 and with infinity say

pub positive_of : (a : Float) → lt (of_bits binary64 0) a ≡ true → lt a (of_bits binary64 0x7ff0_0000_0000_0000) ≡ positive a
unfolding lt of_bits
positive_of nan p = clash p refl
positive_of (inf true) p = clash p refl
positive_of (inf false) p = refl
positive_of (fin true m e) p = clash p (zero_lt true m e)
positive_of (fin false m e) p = sym p ∙ zero_lt false m e

pub positive_not : (a : Float) → lt (of_bits binary64 0) a ≡ false → false ≡ positive a
unfolding lt of_bits
positive_not nan p = refl
positive_not (inf s) p = refl
positive_not (fin true m e) p = refl
positive_not (fin false m e) p = sym p ∙ zero_lt false m e

pub no_nan : (a : Float) → T (positive a) → T (not (is_nan a))
unfolding is_nan
no_nan nan p = absurd p
no_nan (inf s) p = tt
no_nan (fin s m e) p = tt

-- the four ways through `sqrt`

pub root_positive : (a : Float) → T (positive a) → root_of a ≡ of_bits binary64 (root_bits (to_bits binary64 a))
unfolding root_of
root_positive nan p = absurd p
root_positive (inf s) p = absurd p
root_positive (fin true m e) p = absurd p
root_positive (fin false zero e) p = absurd p
root_positive (fin false (suc m) e) p = refl

pub le_zero : (a : Float) → le (of_bits binary64 0) a ≡ has_root a
unfolding le lt eq of_bits has_root
le_zero nan = refl
le_zero (inf true) = refl
le_zero (inf false) = refl
le_zero (fin s zero e) = ap (λ (b : Bool). lt (of_bits binary64 0) (fin s zero e) || b) (zeros_eq s e) ∙ or_true (lt (of_bits binary64 0) (fin s zero e))
le_zero (fin true (suc m) e) = zero_eq true m e
le_zero (fin false (suc m) e) = ap (λ (b : Bool). b || eq (of_bits binary64 0) (fin false (suc m) e)) (zero_lt false (suc m) e ∙ lt-ltb 0 (suc m) (zero-lt-suc m))

-- what is no finite positive number is its own root, or has none
pub own_root : (a : Float) → positive a ≡ false → le (of_bits binary64 0) a ≡ true → a ≡ root_of a
unfolding root_of has_root
own_root nan p q = refl
own_root (inf true) p q = clash q (le_zero (inf true))
own_root (inf false) p q = refl
own_root (fin s zero e) p q = refl
own_root (fin true (suc m) e) p q = clash q (le_zero (fin true (suc m) e))
own_root (fin false (suc m) e) p q = clash (lt-ltb 0 (suc m) (zero-lt-suc m)) p

pub no_root : (a : Float) → le (of_bits binary64 0) a ≡ false → of_bits binary64 0x7ff8_0000_0000_0000 ≡ root_of a
unfolding root_of has_root of_bits
no_root nan p = refl
no_root (inf true) p = refl
no_root (inf false) p = clash (le_zero (inf false)) p
no_root (fin s zero e) p = clash (le_zero (fin s zero e)) p
no_root (fin true (suc m) e) p = refl
no_root (fin false (suc m) e) p = clash (le_zero (fin false (suc m) e)) p

-- and the two through `root`

pub root_given : (a y : Float) → le (of_bits binary64 0) a ≡ true → y ≡ root_of a → gives y ≡ root_answer a
unfolding root_answer
root_given a y h e = rw (sym (le_zero a) ∙ h, e)

pub turned_down : (a : Float) → le (of_bits binary64 0) a ≡ false → refused NUMBER ≡ root_answer a
unfolding root_answer
turned_down a h = rw (sym (le_zero a) ∙ h)

-- ---- the pattern of a finite positive double

of_bits_is : (b : ℕ) → of_bits binary64 b ≡ of_fields binary64 (leb (2 ^ 63) b) (b % 2 ^ 63 / 2 ^ 52) (b % 2 ^ 52)
unfolding of_bits
of_bits_is b = refl

negative : (d q k l : ℕ) → T (positive (odd d true q k l)) → ⊥
unfolding odd
negative d zero k l p = p
negative d (suc q) k l p = p

negative_fields : (x t : ℕ) → T (positive (of_fields binary64 true x t)) → ⊥
unfolding of_fields
negative_fields zero t p = negative 53 t 0 1074 p
negative_fields (suc x) t p = go (eqb (suc x) 2047) (eqb t 0) p
  where
    go : (a b : Bool) → T (positive (cond a (cond b (inf true) nan) (odd 53 true (2 ^ 52 + t) x 1074))) → ⊥
    go true true q = q
    go true false q = q
    go false b q = negative 53 (2 ^ 52 + t) x 1074 q

endless : (t : ℕ) → T (positive (of_fields binary64 false 2047 t)) → ⊥
unfolding of_fields
endless t p = go (eqb t 0) p
  where
    go : (b : Bool) → T (positive (cond b (inf false) nan)) → ⊥
    go true q = q
    go false q = q

beyond : (b : ℕ) → 2047 * 2 ^ 52 ≤ b → T (positive (of_bits binary64 b)) → ⊥
beyond b h p = ⊎_elim high low (le_or_gt (2 ^ 63) b)
  where
    q : T (positive (of_fields binary64 (leb (2 ^ 63) b) (b % 2 ^ 63 / 2 ^ 52) (b % 2 ^ 52)))
    q = rw (of_bits_is b) at p

    high : 2 ^ 63 ≤ b → ⊥
    high g = negative_fields (b % 2 ^ 63 / 2 ^ 52) (b % 2 ^ 52) (rw (le-leb (2 ^ 63) b g) at q)

    low : b < 2 ^ 63 → ⊥
    low g =
        let e : b % 2 ^ 63 / 2 ^ 52 ≡ 2047 = omega arith in
        endless (b % 2 ^ 52) (rw (e, lt-leb (2 ^ 63) b g) at q)

pub pattern_finite : (a : Float) → T (fits binary64 a) → T (positive a) → (0 < to_bits binary64 a) × (to_bits binary64 a < 2047 * 2 ^ 52)
unfolding of_bits
pattern_finite a f p =
    let q : T (positive (of_bits binary64 (to_bits binary64 a))) = rw (of_bits-to_bits binary64 a f) p in (
      ⊎_elim (λ g. g) (λ (g : to_bits binary64 a < 1). let z : to_bits binary64 a ≡ 0 = omega arith in absurd (subst (λ (n : ℕ). T (positive (of_bits binary64 n))) z q)) (le_or_gt 1 (to_bits binary64 a)),
      ⊎_elim (λ (g : 2047 * 2 ^ 52 ≤ to_bits binary64 a). absurd (beyond (to_bits binary64 a) g q)) (λ g. g) (le_or_gt (2047 * 2 ^ 52) (to_bits binary64 a)),
    )

-- ---- from the root's pattern to the root

pub root-read : (a : Float) (p : ℕ) → T (positive a) → p ≡ root_bits (to_bits binary64 a) → of_bits binary64 p ≡ root_of a
root-read a p q e = ap (of_bits binary64) e ∙ sym (root_positive a q)

-- ---- the pattern stands for the double's number

units_of_value : (x : Float) (s : Bool) (n : ℕ) → HasValue x s n (2 ^ 1074) → units x ≡ n
unfolding units
units_of_value nan s n h = absurd h
units_of_value (inf t) s n h = absurd h
units_of_value (fin t m e) s n h = ap (λ (x : ℕ). x / down e) h.1 ∙ mul-div_cancel n (down_pos e)

low-fields : (t : ℕ) → of_fields binary64 false 0 t ≡ odd 53 false t 0 1074
unfolding of_fields
low-fields t = refl

high-fields : (x t : ℕ) → suc x < 2047 → of_fields binary64 false (suc x) t ≡ odd 53 false (2 ^ 52 + t) x 1074
unfolding of_fields
high-fields x t h = rw (ne_eqb (suc x) 2047 (λ e. lt_irrefl 2047 (subst (λ (y : ℕ). y < 2047) e h)))

read-fields : (b x : ℕ) → b < 2047 * 2 ^ 52 → b / 2 ^ 52 ≡ x → of_fields binary64 false x (b % 2 ^ 52) ≡ odd 53 false (significand b) (exponent b) 1074
read-fields b zero h e =
    let m : b % 2 ^ 52 ≡ significand b = let k = significand-low b (omega arith) in omega arith in
    let n : 0 ≡ exponent b = omega (arith, exponent_is b) in
    low-fields (b % 2 ^ 52) ∙ ap₂ (λ (q k : ℕ). odd 53 false q k 1074) m n
read-fields b (suc x) h e =
    let m : 2 ^ 52 + b % 2 ^ 52 ≡ significand b = let k = significand-high b (omega arith) in omega arith in
    let n : x ≡ exponent b = omega (arith, exponent_is b) in
    high-fields x (b % 2 ^ 52) (omega arith) ∙ ap₂ (λ (q k : ℕ). odd 53 false q k 1074) m n

read : (b : ℕ) → b < 2047 * 2 ^ 52 → of_bits binary64 b ≡ odd 53 false (significand b) (exponent b) 1074
read b h =
    let s : leb (2 ^ 63) b ≡ false = lt-leb (2 ^ 63) b (lt_trans h (lit< tt)) in
    let m : b % 2 ^ 63 ≡ b = mod-eq_of_lt (lt_trans h (lit< tt)) in
    of_bits_is b ∙ rw (s, m) (read-fields b (b / 2 ^ 52) h refl)

pub read-value : (b : ℕ) → b < 2047 * 2 ^ 52 → HasValue (of_bits binary64 b) false (value b) (2 ^ 1074)
unfolding value
read-value b h = rw (read b h) (odd_sign 53 false (significand b) (exponent b) 1074)

units_infinite : units (of_bits binary64 (2047 * 2 ^ 52)) ≡ value (2047 * 2 ^ 52)
unfolding units of_bits value significand exponent
units_infinite = refl

pub units-read : (b : ℕ) → b ≤ 2047 * 2 ^ 52 → units (of_bits binary64 b) ≡ value b
units-read b h =
    ⊎_elim (λ (g : 2047 * 2 ^ 52 ≤ b). let e : b ≡ 2047 * 2 ^ 52 = omega arith in rw e units_infinite)
    (λ (g : b < 2047 * 2 ^ 52). units_of_value (of_bits binary64 b) false (value b) (read-value b g))
    (le_or_gt (2047 * 2 ^ 52) b)
