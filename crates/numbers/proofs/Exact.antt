-- Where rounding gives back what it was given: the fraction that a double is, rounded, is that double, so a double times 1 is itself. Assumes nothing.
use mathlib.Core.Path.{◌≡◌, refl, sym, ap, ◌∙◌}
use mathlib.Core.Bool.{Bool, true, false, ◌&&◌}
use Prim.Native.Nat.{ℕ, zero, suc, ◌+◌, ◌-◌, ◌*◌, ◌%◌, ◌^◌, ◌≤◌, ◌<◌}
use native.Mathlib.Nat.{zero-mul, one-mul, mul-one, mul_assoc, mul_comm, mul_right_comm, sub-add_cancel, lt_of_not-le, not-le_of_lt, le_of_suc-le-suc, mul-lt-mul_of_pos_right, lt_of_mul-lt-mul_right}
use lib.Dec.{T, eqb, leb, ltb, leb→le, ltb→lt}
use lib.Pow.{pow-add, pow_pos, pow-lt}
use lib.IntN.{ℤ, pos, negsuc}
use lib.Ieee.{Float, nan, inf, fin, Format, binary64, prec, emax, low, up, down, round, mul, fits, of_bits, to_bits}
use lib.Ieee.Fits.{down_pos, and_l, and_r, round-fits}
use lib.Ieee.Exact.{HasValue, round_exact}
use lib.Ieee.Nearest.{div_same}
use lib.Ieee.Bits.{of_bits-to_bits}
use Rattle.rule.specs.Arith.{◌⊗◌}
use Rattle.numbers.specs.Constants.{one}

-- ---- values that fit and are one number of one sign are one value: `to_bits` sees only the number, and can be taken back

times_right : (a b c d l : ℕ) → a * d ≡ c * b → a * l * d ≡ c * l * b
times_right a b c d l h = rw (mul_right_comm a l d, h, mul_right_comm c b l)

same_bits : (f : Format) (s : Bool) (m n : ℕ) (e g : ℤ) → m * up e * down g ≡ n * up g * down e → to_bits f (fin s m e) ≡ to_bits f (fin s n g)
unfolding to_bits
same_bits f s m n e g h =
    rw (div_same (m * up e * 2 ^ low f) (down e) (n * up g * 2 ^ low f) (down g) (down_pos e) (down_pos g) (times_right (m * up e) (down e) (n * up g) (down g) (2 ^ low f) h))

unique : (f : Format) (x : Float) (s : Bool) (m : ℕ) (e : ℤ) → T (fits f x) → T (fits f (fin s m e)) → HasValue x s (m * up e) (down e) → x ≡ fin s m e
unique f nan s m e p q v = absurd v
unique f (inf t) s m e p q v = absurd v
unique f (fin t n g) s m e p q v =
    sym (of_bits-to_bits f (fin t n g) p)
    ∙ ap (λ (u : Bool). of_bits f (to_bits f (fin u n g))) v.0
    ∙ ap (of_bits f) (same_bits f s n m g e v.1)
    ∙ of_bits-to_bits f (fin s m e) q

-- ---- a value that fits is m times a power of two, in units of the format's smallest value

pow_back : (i j : ℕ) → 2 ^ i ≤ 2 ^ j → i ≤ j
pow_back i j h = le_of_suc-le-suc (lt_of_not-le (λ (g : suc j ≤ i). not-le_of_lt (pow-lt g) h))

place : (e : ℤ) (l : ℕ) → down e ≤ 2 ^ l → (j : ℕ) × (up e * 2 ^ l ≡ 2 ^ j * down e)
place (pos a) l h = (a + l, sym (pow-add 2 a l) ∙ sym (mul-one (2 ^ (a + l))))
place (negsuc a) l h = (l - suc a, one-mul (2 ^ l) ∙ ap (λ (x : ℕ). 2 ^ x) (sym (sub-add_cancel (pow_back (suc a) l h))) ∙ pow-add 2 (l - suc a) (suc a))

module _ (m u d l j : ℕ) (at : u * 2 ^ l ≡ 2 ^ j * d) where
  in_units : m * u * 2 ^ l ≡ m * 2 ^ j * d
  in_units = rw (mul_assoc m u (2 ^ l), at, ← mul_assoc m (2 ^ j) d)

  below : (t : ℕ) → m * u < 2 ^ t * d → m * 2 ^ j < 2 ^ (l + t)
  below t h =
      lt_of_mul-lt-mul_right d
      (rw (← in_units, pow-add 2 l t, mul_comm (2 ^ l) (2 ^ t), mul_right_comm (2 ^ t) (2 ^ l) d)
      (mul-lt-mul_of_pos_right h (pow_pos l)))

own_value : (f : Format) (s : Bool) (m : ℕ) (e : ℤ) → T (fits f (fin s m e)) → HasValue (round f s (m * up e) (down e)) s (m * up e) (down e)
unfolding fits
own_value f s zero e t = round_exact f s (0 * up e) (down e) 0 0 (down_pos e) (pow_pos (prec f)) (pow_pos (low f + suc (emax f))) (simp zero-mul)
own_value f s (suc m) e t =
    let A : Bool = eqb (suc m % 2) 1 in
    let B : Bool = ltb (suc m) (2 ^ prec f) in
    let C : Bool = leb (down e) (2 ^ low f) in
    let D : Bool = ltb (suc m * up e) (2 ^ suc (emax f) * down e) in
    let k = place e (low f) (leb→le (down e) (2 ^ low f) (and_r (A && B) C (and_l (A && B && C) D t))) in
    round_exact f s (suc m * up e) (down e) (suc m) k.0 (down_pos e)
    (ltb→lt (suc m) (2 ^ prec f) (and_r A B (and_l (A && B) C (and_l (A && B && C) D t))))
    (below (suc m) (up e) (down e) (low f) k.0 k.1 (suc (emax f)) (ltb→lt (suc m * up e) (2 ^ suc (emax f) * down e) (and_r (A && B && C) D t)))
    (in_units (suc m) (up e) (down e) (low f) k.0 k.1)

own : (f : Format) (s : Bool) (m : ℕ) (e : ℤ) → T (fits f (fin s m e)) → round f s (m * up e) (down e) ≡ fin s m e
own f s m e t = unique f (round f s (m * up e) (down e)) s m e (round-fits f s (m * up e) (down e)) t (own_value f s m e t)

pub round_own : (s : Bool) (m : ℕ) (e : ℤ) → T (fits binary64 (fin s m e)) → round binary64 s (m * up e) (down e) ≡ fin s m e
round_own = own binary64

-- NaNs, infinities and the sign of zero too
pub times_one : (x : Float) → T (fits binary64 x) → x ⊗ one ≡ x
unfolding mul of_bits
times_one nan t = refl
times_one (inf true) t = refl
times_one (inf false) t = refl
times_one (fin true m e) t = simp mul-one (round_own true m e t)
times_one (fin false m e) t = simp mul-one (round_own false m e t)
