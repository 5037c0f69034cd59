-- The root is IEEE 754's squareRoot under roundTiesToEven (document 01, 'Root').
--
-- `root_correct`: of each finite positive double a, `root_of a` is the root, and no other double is (`Correct`, which `sqrt` and `root` promise). Roots lie from
-- 2 ^ -537 to 2 ^ 512, so none is subnormal or overflows. Of zero the root is the same zero, of infinity infinity: that is `root_of`'s own text. Assumes nothing.
use mathlib.Core.Path.{◌≡◌, refl, sym, ap, ap₂, subst, ◌∙◌}
use mathlib.Core.Bool.{false}
use Prim.Native.Nat.{ℕ, ◌+◌, ◌-◌, ◌*◌, ◌^◌, ◌<◌}
use native.Mathlib.Nat.{le_antisymm, le_refl, lt_trans, mul-pos}
use native.Mathlib.Omega.{arith}
use lib.Dec.{T, lit<}
use lib.Pow.{pow_pos}
use lib.Ieee.{Float, binary64, of_bits, to_bits, fits}
use lib.Ieee.Bits.{of_bits-to_bits, to_bits-of_bits, of_bits-fits}
use lib.Ieee.Exact.{HasValue}
use lib.Ieee.Positive.{positive, positive_of_value}
use Rattle.root.specs.Double.{units, next_up, next_down}
use Rattle.root.specs.Root.{lower_midpoint, upper_midpoint, IsRoot, Correct, root_bits, root_of}
use Rattle.root.proofs.Patterns.{value, significand_pos}
use Rattle.root.proofs.Bits.{PatternRoot, root_bits-root, root_bits_finite, root_order}
use Rattle.root.proofs.Doubles.{no_nan, root_positive, pattern_finite, units-read, read-value}

-- ---- a finite positive double and its pattern

pub record Pattern (y : Float) (p : ℕ) : Type 0 where
  pub pos : 0 < p
  pub finite : p < 2047 * 2 ^ 52
  pub written : to_bits binary64 y ≡ p
  pub read : of_bits binary64 p ≡ y

pub has_value : {y : Float} {p : ℕ} → Pattern y p → HasValue y false (value p) (2 ^ 1074)
has_value {y} {p} b = subst (λ (x : Float). HasValue x false (value p) (2 ^ 1074)) b.read (read-value p b.finite)

pub pattern : (y : Float) → T (fits binary64 y) → T (positive y) → Pattern y (to_bits binary64 y)
pattern y f p = let b = pattern_finite y f p in record { pos = b.0; finite = b.1; written = refl; read = of_bits-to_bits binary64 y f }

value_pos : (p : ℕ) → 0 < p → 0 < value p
unfolding value
value_pos p h = mul-pos (significand_pos p h) (pow_pos _)

read_positive : (p : ℕ) → 0 < p → p < 2047 * 2 ^ 52 → T (positive (of_bits binary64 p))
read_positive p pos end = positive_of_value (of_bits binary64 p) (value p) (2 ^ 1074) (read-value p end) (value_pos p pos)

made : (p : ℕ) → 0 < p → p < 2047 * 2 ^ 52 → Pattern (of_bits binary64 p) p
made p pos end =
    record { pos = pos; finite = end; written = to_bits-of_bits binary64 p (lt_trans end (lit< tt)) (no_nan (of_bits binary64 p) (read_positive p pos end)); read = refl }

units_of : {y : Float} {p : ℕ} → Pattern y p → units y ≡ value p
units_of {y} {p} b = ap units (sym b.read) ∙ units-read p (let f = b.finite in omega arith)

units_up : {y : Float} {p : ℕ} → Pattern y p → units (next_up y) ≡ value (p + 1)
unfolding next_up
units_up {y} {p} b = ap (λ (n : ℕ). units (of_bits binary64 (n + 1))) b.written ∙ units-read (p + 1) (let f = b.finite in omega arith)

units_down : {y : Float} {p : ℕ} → Pattern y p → units (next_down y) ≡ value (p - 1)
unfolding next_down
units_down {y} {p} b = ap (λ (n : ℕ). units (of_bits binary64 (n - 1))) b.written ∙ units-read (p - 1) (let f = b.finite in omega arith)

lower_of : {y : Float} {p : ℕ} → Pattern y p → lower_midpoint y ≡ value (p - 1) + value p
unfolding lower_midpoint
lower_of b = ap₂ ◌+◌ (units_down b) (units_of b)

upper_of : {y : Float} {p : ℕ} → Pattern y p → upper_midpoint y ≡ value p + value (p + 1)
unfolding upper_midpoint
upper_of b = ap₂ ◌+◌ (units_of b) (units_up b)

-- the two inequalities of `IsRoot` are `PatternRoot` of the patterns
module _ {a y : Float} {b p : ℕ} (A : Pattern a b) (Y : Pattern y p) where
  from_pattern : T (fits binary64 y) → T (positive y) → PatternRoot (value b) p → IsRoot a y
  from_pattern f q r = record { double = f; above_zero = q; lower = rw (lower_of Y, units_of A) r.lower; upper = rw (upper_of Y, units_of A) r.upper }

  to_pattern : IsRoot a y → PatternRoot (value b) p
  to_pattern r = record { lower = rw (lower_of Y, units_of A) at r.lower; upper = rw (upper_of Y, units_of A) at r.upper }

-- ---- the theorem

pub on_patterns : (a : Float) (b : ℕ) → Pattern a b → Pattern (of_bits binary64 (root_bits b)) (root_bits b)
on_patterns a b A = let f = root_bits_finite b A.pos A.finite in made (root_bits b) f.0 f.1

same_pattern : (a y : Float) (b p q : ℕ) → Pattern a b → Pattern y p → PatternRoot (value b) p → PatternRoot (value b) q → 0 < q → y ≡ of_bits binary64 q
same_pattern a y b p q A Y r s pos =
    sym Y.read ∙ ap (of_bits binary64) (le_antisymm (root_order (value b) (value b) p q r s (le_refl (value b)) Y.pos) (root_order (value b) (value b) q p s r (le_refl (value b)) pos))

pub root_correct : (a : Float) → T (fits binary64 a) → T (positive a) → Correct a (root_of a)
root_correct a f p =
    let A = pattern a f p in
    let b = to_bits binary64 a in
    let R = on_patterns a b A in
    let r = root_bits-root b A.pos in
    let e = root_positive a p in
    record {
      is = rw e (from_pattern A R (of_bits-fits binary64 (root_bits b)) (read_positive (root_bits b) R.pos R.finite) r);
      only = λ y i.
          let Y = pattern y i.double i.above_zero in
          same_pattern a y b (to_bits binary64 y) (root_bits b) A Y (to_pattern A Y i) r R.pos ∙ sym e;
    }
