-- `root_bits` of a pattern is the root's pattern: the number lies strictly between the squares of the midpoints from the root to its neighbours,
-- which on patterns are one less and one more. Of two such roots the one of the larger number is not smaller. Assumes nothing.
use mathlib.Core.Path.{◌≡◌, sym, ap, ap₂, ◌∙◌, subst}
use mathlib.Core.Logic.{⊎_elim}
use Prim.Native.Nat.{ℕ, suc, ◌+◌, ◌-◌, ◌*◌, ◌/◌, ◌%◌, ◌^◌, ◌≤◌, ◌<◌}
use native.Mathlib.Nat.{le_trans, lt_of_lt_of_le, lt_of_le_of_lt, le_of_lt, mul_assoc, mul_left_comm, mul-mul-mul_comm, mul-le-mul, mul-le-mul_right, mul-le-mul_left, mul-lt-mul_of_pos_right, mul-pos, add-mul, one-mul, lt_trans, lt_irrefl, mod-eq_of_lt}
use native.Mathlib.Numerals.{add-one}
use native.Mathlib.Omega.{arith}
use lib.Dec.{lit<}
use lib.Pow.{pow_pos, pow_mono, pow-add}
use lib.Count.{count_leading_zeros, leading_top}
use Rattle.rule.proofs.Tests.{le_or_gt}
use Rattle.root.specs.Digits.{Extracted, whole_root, Holds}
use Rattle.root.specs.Root.{IsScaled, significand, exponent, shift_of, shift, scaled, height, root_bits}
use Rattle.root.proofs.Whole.{square_next, square-double, whole_is, ended}
use Rattle.root.proofs.Patterns.{value, value_next, value_mono, value_made, exponent_is, significand_lt, significand_pos}

-- ---- the significand in 53 digits, and then in 53 or 54

pub record Raised (m z : ℕ) : Type 0 where
  pub zeros : count_leading_zeros 64 m ≡ z + 11
  pub few : z ≤ 52
  pub least : 2 ^ 52 ≤ m * 2 ^ z
  pub most : m * 2 ^ z < 2 ^ 53

raised : (m : ℕ) → 0 < m → m < 2 ^ 53 → Raised m (count_leading_zeros 64 m - 11)
raised m p h =
    let t = leading_top 64 m p (omega arith) in
    let j = t.0 in
    let e = t.1 in
    let z = count_leading_zeros 64 m - 11 in
    let J : j < 53 = ⊎_elim (λ (g : 53 ≤ j). absurd (let l = le_trans (pow_mono g) t.2 in omega arith)) (λ g. g) (le_or_gt 53 j) in
    let a : 2 ^ j * 2 ^ z ≡ 2 ^ 52 = sym (pow-add 2 j z) ∙ ap (λ (x : ℕ). 2 ^ x) (let k : j + z ≡ 52 = omega arith in k) in
    let b : 2 ^ suc j * 2 ^ z ≡ 2 ^ 53 = sym (pow-add 2 (suc j) z) ∙ ap (λ (x : ℕ). 2 ^ x) (let k : suc j + z ≡ 53 = omega arith in k) in
    record {
      zeros = omega arith;
      few = omega arith;
      least = subst (λ (x : ℕ). x ≤ m * 2 ^ z) a (mul-le-mul_right (2 ^ z) t.2);
      most = subst (λ (x : ℕ). m * 2 ^ z < x) b (mul-lt-mul_of_pos_right t.3 (pow_pos z));
    }

-- What the scaled number is, for the pattern b of a finite positive double.
pub record Scaled (b : ℕ) : Type 0 where
  pub least : 2 ^ 52 ≤ scaled b
  pub most : scaled b < 2 ^ 54
  pub moved : shift b ≤ 53
  pub even : height b / 2 + height b / 2 ≡ exponent b + 1022 - shift b

pub scaled_is : (b : ℕ) → 0 < b → Scaled b
unfolding scaled shift shift_of height
scaled_is b p =
    let m = significand b in
    let e = exponent b in
    let z = count_leading_zeros 64 m - 11 in
    let r = raised m (significand_pos b p) (significand_lt b) in
    let f = r.few in
    let q = (e + z) % 2 in
    let two : q < 2 = omega arith in
    let x : m * 2 ^ (z + q) ≡ m * 2 ^ z * 2 ^ q = ap (λ (y : ℕ). m * y) (pow-add 2 z q) ∙ sym (mul_assoc m (2 ^ z) (2 ^ q)) in
    let l = r.least in
    let u = r.most in
    let both : (2 ^ 52 ≤ m * 2 ^ z * 2 ^ q) × (m * 2 ^ z * 2 ^ q < 2 ^ 54) =
    ⊎_elim (λ (g : 1 ≤ q). let o : q ≡ 1 = omega arith in rw o (omega arith)) (λ (g : q < 1). let o : q ≡ 0 = omega arith in rw o (omega arith)) (le_or_gt 1 q) in
    record { least = rw x both.0; most = rw x both.1; moved = omega arith; even = omega arith }

-- ---- the number times 4 * 2 ^ 1074 is the scaled number times a square

regroup : (i j k m e s h : ℕ) → s + (j + (h + h)) ≡ i + (e + k) → 2 ^ i * (m * 2 ^ e * 2 ^ k) ≡ m * 2 ^ s * 2 ^ j * (2 ^ h * 2 ^ h)
regroup i j k m e s h q =
    ap (λ (x : ℕ). 2 ^ i * x) (mul_assoc m (2 ^ e) (2 ^ k) ∙ ap (λ (x : ℕ). m * x) (sym (pow-add 2 e k)))
    ∙ mul_left_comm (2 ^ i) m (2 ^ (e + k))
    ∙ ap (λ (x : ℕ). m * x) (sym (pow-add 2 i (e + k)) ∙ ap (λ (x : ℕ). 2 ^ x) (sym q) ∙ pow-add 2 s (j + (h + h)) ∙ ap (λ (x : ℕ). 2 ^ s * x) (pow-add 2 j (h + h) ∙ ap (λ (x : ℕ). 2 ^ j * x) (pow-add 2 h h)))
    ∙ sym (mul_assoc m (2 ^ s) (2 ^ j * (2 ^ h * 2 ^ h)))
    ∙ sym (mul_assoc (m * 2 ^ s) (2 ^ j) (2 ^ h * 2 ^ h))

pub square_of : (b : ℕ) → 0 < b → 4 * (value b * 2 ^ 1074) ≡ scaled b * 2 ^ 54 * (2 ^ (height b / 2) * 2 ^ (height b / 2))
unfolding value scaled
square_of b p =
    let s = scaled_is b p in
    let m = s.moved in
    let e = s.even in
    regroup 2 54 1074 (significand b) (exponent b) (shift b) (height b / 2) (omega arith)

-- ---- the whole root has 54 digits

root_long : (w r rem : ℕ) → Extracted w r rem → 2 ^ 106 ≤ w → 2 ^ 53 ≤ r
root_long w r rem x h = ⊎_elim (λ g. g) (λ (g : r < 2 ^ 53).
    absurd (
    let q = mul-le-mul {n₁ = r + 1} {m₁ = r + 1} {n₂ = 2 ^ 53} {m₂ = 2 ^ 53} (omega arith) (omega arith) in
    let e = square_next r in
    let s = x.square in
    let t = x.small in
    omega arith))
    (le_or_gt (2 ^ 53) r)

root_short : (w r rem : ℕ) → Extracted w r rem → w < 2 ^ 108 → r < 2 ^ 54
root_short w r rem x h = ⊎_elim (λ (g : 2 ^ 54 ≤ r).
    absurd (
    let q = mul-le-mul {n₁ = 2 ^ 54} {m₁ = 2 ^ 54} {n₂ = r} {m₂ = r} g g in
    let s = x.square in
    omega arith))
    (λ g. g)
    (le_or_gt (2 ^ 54) r)

-- an even number is not the square of an odd one
no_tie : (r n x rem : ℕ) → r ≡ n * 2 + 1 → Extracted (x * 2 ^ 54) r rem → r * r < x * 2 ^ 54
no_tie r n x rem o e =
    let a : r * r ≡ n * 2 * (n * 2) + (2 * (n * 2) + 1) = ap (λ (k : ℕ). k * k) o ∙ square_next (n * 2) in
    let b = square-double n in
    let s = e.square in
    omega arith

-- ---- the midpoints. p is the root's pattern, P = 2 ^ h its last place, and n the whole root r halved, upwards

module _ (w r rem h : ℕ) (x : Extracted w r rem) where
  squared_above : (s : ℕ) → (r + 1) * 2 ^ h ≤ s → w * (2 ^ h * 2 ^ h) < s * s
  squared_above s l =
      let q = square_next r in
      let a = x.square in
      let b = x.small in
      let c : w < (r + 1) * (r + 1) = omega arith in
      lt_of_lt_of_le (mul-lt-mul_of_pos_right c (mul-pos (pow_pos h) (pow_pos h)))
      (subst (λ (y : ℕ). y ≤ s * s) (mul-mul-mul_comm (r + 1) (2 ^ h) (r + 1) (2 ^ h)) (mul-le-mul l l))

  squared_below : (s : ℕ) → s < r * 2 ^ h → s * s < w * (2 ^ h * 2 ^ h)
  squared_below s l =
      let a = x.square in
      let c : r * r ≤ w = omega arith in
      let q : s * s < r * 2 ^ h * (r * 2 ^ h) = lt_of_le_of_lt (mul-le-mul_left s (le_of_lt l)) (mul-lt-mul_of_pos_right l (lt_of_le_of_lt Prim.Native.Nat.zero-le l)) in
      lt_of_lt_of_le q (subst (λ (y : ℕ). y ≤ w * (2 ^ h * 2 ^ h)) (sym (mul-mul-mul_comm r (2 ^ h) r (2 ^ h))) (mul-le-mul_right (2 ^ h * 2 ^ h) c))

  squared_at : r * r < w → r * 2 ^ h * (r * 2 ^ h) < w * (2 ^ h * 2 ^ h)
  squared_at c = subst (λ (y : ℕ). y < w * (2 ^ h * 2 ^ h)) (sym (mul-mul-mul_comm r (2 ^ h) r (2 ^ h))) (mul-lt-mul_of_pos_right c (mul-pos (pow_pos h) (pow_pos h)))

-- The pattern p is the root of the number a units: `IsRoot` on patterns.
pub record PatternRoot (a p : ℕ) : Type 0 where
  pub lower : (value (p - 1) + value p) * (value (p - 1) + value p) < 4 * (a * 2 ^ 1074)
  pub upper : 4 * (a * 2 ^ 1074) < (value p + value (p + 1)) * (value p + value (p + 1))

module _ (x r rem h n : ℕ) (w : Extracted (x * 2 ^ 54) r rem) (least : 2 ^ 52 ≤ n) (most : n ≤ 2 ^ 53) where
  -- twice the root, in its last place, is what r rounds to
  upper_of : r ≤ 2 * n → x * 2 ^ 54 * (2 ^ h * 2 ^ h) < (value (h * 2 ^ 52 + n) + value (h * 2 ^ 52 + n + 1)) * (value (h * 2 ^ 52 + n) + value (h * 2 ^ 52 + n + 1))
  upper_of l =
      let p = h * 2 ^ 52 + n in
      let v : value p ≡ n * 2 ^ h = value_made h n least most in
      let e : h ≤ exponent p = omega (arith, exponent_is (h * 2 ^ 52 + n)) in
      let u : value (p + 1) ≡ value p + 2 ^ exponent p = ap value (add-one p) ∙ value_next p in
      let k : 2 ^ h ≤ 2 ^ exponent p = pow_mono e in
      let a : (r + 1) * 2 ^ h ≤ (2 * n + 1) * 2 ^ h = mul-le-mul_right (2 ^ h) (omega arith) in
      let b : (2 * n + 1) * 2 ^ h ≡ 2 * (n * 2 ^ h) + 2 ^ h = add-mul (2 * n) 1 (2 ^ h) ∙ ap₂ ◌+◌ (mul_assoc 2 n (2 ^ h)) (one-mul (2 ^ h)) in
      squared_above (x * 2 ^ 54) r rem h w (value p + value (p + 1)) (omega arith)

  lower_even : 2 * n ≡ r → (value (h * 2 ^ 52 + n - 1) + value (h * 2 ^ 52 + n)) * (value (h * 2 ^ 52 + n - 1) + value (h * 2 ^ 52 + n)) < x * 2 ^ 54 * (2 ^ h * 2 ^ h)
  lower_even l =
      let p = h * 2 ^ 52 + n in
      let v : value p ≡ n * 2 ^ h = value_made h n least most in
      let s : suc (p - 1) ≡ p = omega arith in
      let u : value p ≡ value (p - 1) + 2 ^ exponent (p - 1) = ap value (sym s) ∙ value_next (p - 1) in
      let k = pow_pos (exponent (p - 1)) in
      let a : r * 2 ^ h ≡ 2 * (n * 2 ^ h) = ap (λ (y : ℕ). y * 2 ^ h) (sym l) ∙ mul_assoc 2 n (2 ^ h) in
      squared_below (x * 2 ^ 54) r rem h w (value (p - 1) + value p) (omega arith)

  lower_odd : 2 * n ≡ r + 1 → 2 ^ 52 < n → (value (h * 2 ^ 52 + n - 1) + value (h * 2 ^ 52 + n)) * (value (h * 2 ^ 52 + n - 1) + value (h * 2 ^ 52 + n)) < x * 2 ^ 54 * (2 ^ h * 2 ^ h)
  lower_odd l g =
      let p = h * 2 ^ 52 + n in
      let v : value p ≡ n * 2 ^ h = value_made h n least most in
      let s : p - 1 ≡ h * 2 ^ 52 + (n - 1) = omega arith in
      let u : value (p - 1) ≡ (n - 1) * 2 ^ h = ap value s ∙ value_made h (n - 1) (omega arith) (omega arith) in
      let q : n - 1 + n ≡ r = omega arith in
      let a : value (p - 1) + value p ≡ r * 2 ^ h = ap₂ ◌+◌ u v ∙ sym (add-mul (n - 1) n (2 ^ h)) ∙ ap (λ (y : ℕ). y * 2 ^ h) q in
      rw a (squared_at (x * 2 ^ 54) r rem h w (no_tie r (n - 1) x rem (omega arith) w))

-- the whole root of the scaled number
record Digits54 (b r : ℕ) : Type 0 where
  rem : ℕ
  is : Extracted (scaled b * 2 ^ 54) r rem
  long : 2 ^ 53 ≤ r
  short : r < 2 ^ 54

digits54 : (b : ℕ) → 0 < b → Digits54 b (whole_root (scaled b * 2 ^ 54))
digits54 b pos =
    let s = scaled_is b pos in
    let l = s.least in
    let u = s.most in
    let t = whole_is (scaled b * 2 ^ 54) (omega arith) in
    record { rem = _; is = t; long = root_long _ _ _ t (omega arith); short = root_short _ _ _ t (omega arith) }

rounded : (b r : ℕ) → 0 < b → Digits54 b r → PatternRoot (value b) (height b / 2 * 2 ^ 52 + (r + 1) / 2)
rounded b r pos t =
    let h = height b / 2 in
    let x = scaled b in
    let n = (r + 1) / 2 in
    let long = t.long in
    let short = t.short in
    let l : 2 ^ 52 ≤ n = omega arith in
    let m : n ≤ 2 ^ 53 = omega arith in
    record {
      lower = rw (square_of b pos) (⊎_elim (λ (g : 1 ≤ r % 2). lower_odd x r t.rem h n t.is l m (omega arith) (omega arith)) (λ (g : r % 2 < 1). lower_even x r t.rem h n t.is l m (omega arith)) (le_or_gt 1 (r % 2)));
      upper = rw (square_of b pos) (upper_of x r t.rem h n t.is l m (omega arith));
    }

pub root_bits-root : (b : ℕ) → 0 < b → PatternRoot (value b) (root_bits b)
unfolding root_bits
root_bits-root b pos = rounded b (whole_root (scaled b * 2 ^ 54)) pos (digits54 b pos)

-- ---- of two roots, that of the number that is not smaller is not smaller; so a number has one root

pub root_order : (a a' p q : ℕ) → PatternRoot a p → PatternRoot a' q → a ≤ a' → 0 < p → p ≤ q
root_order a a' p q x y l pos = ⊎_elim (λ g. g) (λ (g : q < p).
    absurd (
    let s : value q ≤ value (p - 1) = value_mono (omega arith) in
    let t : value (q + 1) ≤ value p = value_mono (omega arith) in
    let u : value q + value (q + 1) ≤ value (p - 1) + value p = omega arith in
    let k = mul-le-mul u u in
    let m : 4 * (a * 2 ^ 1074) ≤ 4 * (a' * 2 ^ 1074) = mul-le-mul_left 4 (mul-le-mul_right (2 ^ 1074) l) in
    lt_irrefl (4 * (a * 2 ^ 1074)) (lt_of_le_of_lt m (lt_trans (lt_of_lt_of_le y.upper k) x.lower))))
    (le_or_gt p q)

-- ---- the root's pattern is that of a finite positive double

low-height : (b : ℕ) → 0 < b → b < 2047 * 2 ^ 52 → height b / 2 < 2045
low-height b pos fin =
    let s = scaled_is b pos in
    let e = exponent_is b in
    let v = s.even in
    omega arith

pub root_bits_finite : (b : ℕ) → 0 < b → b < 2047 * 2 ^ 52 → (0 < root_bits b) × (root_bits b < 2047 * 2 ^ 52)
unfolding root_bits
root_bits_finite b pos fin =
    let t = digits54 b pos in
    let k = low-height b pos fin in
    let l = t.long in
    let u = t.short in
    (omega arith, omega arith)

-- and of a normal one: its significand has all its 53 digits
pub root_bits_normal : (b : ℕ) → 0 < b → 2 ^ 52 ≤ root_bits b
unfolding root_bits
root_bits_normal b pos =
    let l = (digits54 b pos).long in
    omega arith

-- ---- what the code holds on the way

-- the two fields, m and e, of the pattern b
pub record Fields (b m e : ℕ) : Type 0 where
  pub pos : 0 < m
  pub short : m < 2 ^ 53
  pub low : e < 2 ^ 11

pub fields : (b m e : ℕ) → 0 < b → b < 2047 * 2 ^ 52 → m ≡ significand b → e ≡ exponent b → Fields b m e
fields b m e pos fin p q =
    let l = significand_lt b in
    let g = significand_pos b pos in
    let x = exponent_is b in
    record { pos = omega arith; short = omega arith; low = omega arith }

-- the fields, and by how many digits m goes up
pub record Shifted (b m e s : ℕ) : Type 0 where
  pub low : e < 2 ^ 11
  pub few : s ≤ 53
  pub up : m * 2 ^ s % 2 ^ 64 ≡ scaled b
  pub short : scaled b < 2 ^ 54
  pub height : e + 1022 - s ≡ height b

pub shifted : (b m e s : ℕ) → 0 < b → b < 2047 * 2 ^ 52 → m ≡ significand b → e ≡ exponent b → s ≡ shift_of m e → Shifted b m e s
unfolding shift scaled height
shifted b m e s pos fin p q r =
    let f = fields b m e pos fin p q in
    let t = scaled_is b pos in
    let k : s ≡ shift b = r ∙ ap₂ shift_of p q in
    let n : m * 2 ^ s ≡ scaled b = ap₂ (λ (x y : ℕ). x * 2 ^ y) p k in
    record {
      low = f.low;
      few = rw k t.moved;
      up = rw n (mod-eq_of_lt (lt_trans t.most (lit< tt)));
      short = t.most;
      height = ap₂ (λ (x y : ℕ). x + 1022 - y) q k;
    }

-- the number is scaled by its fields and the shift
pub is_scaled : (b m e s : ℕ) → Shifted b m e s → IsScaled b (m * 2 ^ s % 2 ^ 64) ((e + 1022 - s) / 2 * 2 ^ 52)
is_scaled b m e s f = record { digits = f.up; exponent_in_place = ap (λ (x : ℕ). x / 2 * 2 ^ 52) f.height }

-- a number that is scaled, and its root in all digits
pub record Rounded (b place root : ℕ) : Type 0 where
  pub low : place ≤ 2045 * 2 ^ 52
  pub short : root < 2 ^ 55
  pub is : place + (root + 2) / 4 ≡ root_bits b

pub rounded_is : (b n place root left : ℕ) → (0 < b) × (b < 2047 * 2 ^ 52) → IsScaled b n place → Holds (n * 2 ^ 54) 54 root left 2 → Rounded b place root
unfolding root_bits
rounded_is b n place root left p s h =
    let k = low-height b p.0 p.1 in
    let e = s.exponent_in_place in
    let w : root / 2 ≡ whole_root (scaled b * 2 ^ 54) = ended _ _ _ _ h ∙ ap (λ (x : ℕ). whole_root (x * 2 ^ 54)) s.digits in
    let d = (digits54 b p.0).short in
    let x : (root + 2) / 4 ≡ (whole_root (scaled b * 2 ^ 54) + 1) / 2 = omega arith in
    record { low = omega arith; short = omega arith; is = ap₂ (λ (x y : ℕ). x + y) e x }
