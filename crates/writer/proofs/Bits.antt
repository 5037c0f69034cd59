-- Doubles and their bits, in lists as they stand in the fields of a record. Assumes nothing.
use mathlib.Core.Path.{◌≡◌, refl, sym, ap, ap₂, ◌∙◌}
use mathlib.Core.Bool.{true, false, not, true≢false}
use mathlib.Core.List.{List, [], ◌∷◌, ◌++◌, map}
use Prim.Native.Nat.{ℕ, zero, suc}
use native.Mathlib.Omega.{arith}
use lib.Dec.{T, eqb, eqb→eq}
use lib.ListN.{length, replicate, length-map}
use lib.Ieee.{Float, nan, inf, fin, binary64, fits, of_bits, to_bits, is_nan, lt}
use lib.Ieee.Fits.{and_l, and_r}
use lib.Ieee.Bits.{of_bits-to_bits, to_bits-of_bits, to_bits-lt}
use Rattle.std.proofs.lemmas.Bool.{and_parts}
use Rattle.rule.specs.Lists.{every, for_each}
use Rattle.rule.proofs.Tests.{is_test}
use Rattle.numbers.specs.Constants.{zero'}
use Rattle.numbers.specs.Finite.{is_finite, all_finite}
use Rattle.fields.specs.Fields.{bytes_of, double_bytes}
use Rattle.fields.proofs.Packing.{Fit, more}

-- ---- one number

pub finite_no_nan : (x : Float) → is_finite x ≡ true → T (not (is_nan x))
unfolding is_finite is_nan
finite_no_nan nan h = absurd (true≢false (sym h))
finite_no_nan (inf s) h = tt
finite_no_nan (fin s m e) h = tt

-- what is above another number is none either
none_above : (a : Float) → lt a nan ≡ false
unfolding lt
none_above nan = refl
none_above (inf s) = refl
none_above (fin s m e) = refl

pub above_no_nan : (a x : Float) → lt a x ≡ true → T (not (is_nan x))
unfolding is_nan
above_no_nan a nan h = absurd (true≢false (sym h ∙ none_above a))
above_no_nan a (inf s) h = tt
above_no_nan a (fin s m e) h = tt

-- ---- lists

pub numbers_back : (l : List Float) → T (every (fits binary64) l) → map (of_bits binary64) (map (to_bits binary64) l) ≡ l
numbers_back [] t = refl
numbers_back (x ∷ l) t =
    ap₂ (λ y m. y ∷ m) (of_bits-to_bits binary64 x (and_l (fits binary64 x) (every (fits binary64) l) t)) (numbers_back l (and_r (fits binary64 x) (every (fits binary64) l) t))

pub fields_fit : (l : List Float) → T (every (fits binary64) l) → {layout bits : List ℕ} → Fit layout bits → Fit (replicate (length l) 8 ++ layout) (map (to_bits binary64) l ++ bits)
fields_fit [] t rest = rest
fields_fit (x ∷ l) t rest =
    more (to_bits-lt binary64 x (and_l (fits binary64 x) (every (fits binary64) l) t)) (fields_fit l (and_r (fits binary64 x) (every (fits binary64) l) t) rest)

pub bits_again : (n : ℕ) (bits : List ℕ) → Fit (replicate n 8) bits → all_finite (map (of_bits binary64) bits) ≡ true → map (to_bits binary64) (map (of_bits binary64) bits) ≡ bits
unfolding all_finite
bits_again zero [] fit h = refl
bits_again zero (b ∷ bits) fit h = elim fit [ ]
bits_again (suc n) [] fit h = elim fit [ ]
bits_again (suc n) (b ∷ bits) (more k fit) h =
    let e = and_parts (is_finite (of_bits binary64 b)) (every is_finite (map (of_bits binary64) bits)) h in
    ap₂ (λ c cs. c ∷ cs) (to_bits-of_bits binary64 b k (finite_no_nan (of_bits binary64 b) e.0)) (bits_again n bits fit e.1)

-- no bits set: the zero without a sign
pub zeros : (bits : List ℕ) → every (λ b. eqb b 0) bits ≡ true → bits ≡ replicate (length bits) 0
zeros [] h = refl
zeros (b ∷ bits) h =
    let e = and_parts (eqb b 0) (every (λ c. eqb c 0) bits) h in
    ap₂ (λ c cs. c ∷ cs) (eqb→eq b 0 (is_test (eqb b 0) e.0)) (zeros bits e.1)

pub zero_numbers : (l : List Float) → T (every (fits binary64) l) → every (λ b. eqb b 0) (map (to_bits binary64) l) ≡ true → l ≡ replicate (length l) zero'
zero_numbers l t h = sym (numbers_back l t) ∙ ap (map (of_bits binary64)) (zeros (map (to_bits binary64) l) h) ∙ ap (λ n. map (of_bits binary64) (replicate n 0)) (length-map l (to_bits binary64)) ∙ same (length l)
  where
    same : (n : ℕ) → map (of_bits binary64) (replicate n 0) ≡ replicate n zero'
    same zero = refl
    same (suc n) = ap (λ m. zero' ∷ m) (same n)

pub zeros_again : (n : ℕ) → map (to_bits binary64) (replicate n zero') ≡ replicate n 0
unfolding is_finite of_bits
zeros_again zero = refl
zeros_again (suc n) = ap₂ (λ b m. b ∷ m) (to_bits-of_bits binary64 0 (omega arith) (finite_no_nan zero' refl)) (zeros_again n)

-- the bytes of their bits are theirs
pub bits-written : (l : List Float) → for_each (bytes_of 8) (map (to_bits binary64) l) ≡ for_each double_bytes l
unfolding for_each double_bytes
bits-written [] = refl
bits-written (x ∷ l) = ap (λ rest. bytes_of 8 (to_bits binary64 x) ++ rest) (bits-written l)
