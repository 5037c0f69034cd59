-- Comparisons of a finite double with zero, whatever the signs. `of_bits binary64 0` is a program's literal 0.0. Assumes nothing.
use mathlib.Core.Path.{◌≡◌, refl, sym, ap, subst, ◌∙◌}
use mathlib.Core.Bool.{Bool, true, false, not, ◌&&◌, ◌||◌, beq}
use Prim.Native.Nat.{ℕ, zero, suc, ◌*◌, ◌<◌}
use native.Mathlib.Nat.{mul-pos, zero-mul, zero-lt-suc, lt_irrefl}
use borrow.Author.Tests.{lt-ltb, ne_eqb}
use lib.Dec.{ltb, eqb}
use lib.Pow.{pow_pos}
use lib.IntN.{ℤ}
use lib.Ieee.{fin, binary64, up, down, of_bits, level, lt, eq}
use lib.Ieee.Fits.{up_pos, down_pos}

-- ---- magnitudes, as a comparison has them: m * 2 ^ e times the other's denominator

pub size_pos : (m : ℕ) (e d : ℤ) → 0 < suc m * up e * down d
size_pos m e d = mul-pos (mul-pos (zero-lt-suc m) (up_pos e)) (down_pos d)

pub no_size : (e d : ℤ) → 0 * up e * down d ≡ 0
no_size e d = simp zero-mul

size_one : (m : ℕ) (e : ℤ) → 0 < suc m * up e * 1
size_one m e = mul-pos (mul-pos (zero-lt-suc m) (up_pos e)) (pow_pos 0)

no_size_one : (e : ℤ) → 0 * up e * 1 ≡ 0
no_size_one e = simp zero-mul

-- the two zeros are level, and a zero and what is none are not
level_zeros : (s t : Bool) → level s 0 t 0 ≡ true
level_zeros true true = refl
level_zeros true false = refl
level_zeros false true = refl
level_zeros false false = refl

level_not : (s t : Bool) (a b : ℕ) → (a ≡ b → ⊥) → level s a t b ≡ false
level_not s t a b h = ap (λ (x : Bool). x && (beq s t || eqb a 0)) (ne_eqb a b h)

-- ---- 0 < a, a < 0, a = 0 and 0 = a

pub zero_lt : (s : Bool) (m : ℕ) (e : ℤ) → lt (of_bits binary64 0) (fin s m e) ≡ (not s && ltb 0 m)
unfolding lt of_bits
zero_lt true m e = refl
zero_lt false zero e = simp zero-mul
zero_lt false (suc m) e = simp zero-mul (lt-ltb 0 (suc m * up e * 1) (size_one m e) ∙ sym (lt-ltb 0 (suc m) (zero-lt-suc m)))

pub zero_eq : (s : Bool) (m : ℕ) (e : ℤ) → eq (of_bits binary64 0) (fin s (suc m) e) ≡ false
unfolding eq of_bits
zero_eq s m e = level_not false s (0 * down e) (suc m * up e * 1) (λ h. lt_irrefl 0 (subst (λ (x : ℕ). 0 < x) (sym h ∙ zero-mul (down e)) (size_one m e)))

pub zeros_eq : (s : Bool) (e : ℤ) → eq (of_bits binary64 0) (fin s zero e) ≡ true
unfolding eq of_bits
zeros_eq s e = rw (zero-mul (down e), no_size_one e) (level_zeros false s)
