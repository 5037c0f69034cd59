-- Doubles of bits that were read: of a double only the bits of a zero without a sign are all zero, whatever NaN was read. Assumes nothing.
use mathlib.Core.Path.{◌≡◌, refl, sym, ap, ap₂, subst, ◌∙◌}
use mathlib.Core.Bool.{Bool, true, false, not, ◌&&◌}
use mathlib.Core.List.{List, [], ◌∷◌, map}
use Prim.Native.Nat.{ℕ, zero, suc, ◌^◌, ◌<◌}
use native.Mathlib.Omega.{arith}
use borrow.Author.Tests.{lt-ltb, ne_eqb}
use mir.Syntax.{w8}
use mir.Val.{Fits}
use lib.Dec.{T, ltb, eqb}
use lib.ListN.{get_or, replicate}
use lib.Ieee.{Float, nan, inf, fin, binary64, is_nan, of_bits, to_bits}
use lib.Ieee.Fits.{and_i}
use lib.Ieee.Bits.{to_bits-of_bits}
use Rattle.rule.specs.Lists.{every}
use Rattle.fields.specs.Fields.{all_bytes}
use Rattle.fields.proofs.Packing.{Fit, more}
use Rattle.estimator.specs.Numbers.{doubles_formed}
use Rattle.records.specs.Trial.{numbers_formed}

-- by what a read of any place gives
pub by_places : {A : Type 0} (test : A → Bool) (l : List A) (d : A) → ((i : ℕ) → T (test (get_or l i d))) → T (every test l)
by_places test [] d h = tt
by_places test (a ∷ l) d h = and_i (test a) (every test l) (h zero) (by_places test l d (λ i. h (suc i)))

pub bytes_read : (l : List ℕ) → ((i : ℕ) → Fits w8 (get_or l i 0)) → T (all_bytes l)
unfolding all_bytes
bytes_read l h = by_places (λ b. ltb b 256) l 0 (λ i. let f = h i in rw (lt-ltb (get_or l i 0) 256 (omega arith)) tt)

-- ---- zero bits

quiet : eqb (to_bits binary64 nan) 0 ≡ false
unfolding to_bits
quiet = refl

no_nan : of_bits binary64 0 ≡ nan → ⊥
unfolding of_bits
no_nan e = cc

zero_again : (b : ℕ) → b < 256 ^ 8 → eqb (to_bits binary64 (of_bits binary64 b)) 0 ≡ eqb b 0
unfolding is_nan
zero_again b h = go (of_bits binary64 b) refl
  where
    number : T (not (is_nan (of_bits binary64 b))) → eqb (to_bits binary64 (of_bits binary64 b)) 0 ≡ eqb b 0
    number t = ap (λ n. eqb n 0) (to_bits-of_bits binary64 b h t)

    go : (x : Float) → of_bits binary64 b ≡ x → eqb (to_bits binary64 (of_bits binary64 b)) 0 ≡ eqb b 0
    go nan e = rw e (quiet ∙ sym (ne_eqb b 0 (λ z. no_nan (ap (of_bits binary64) (sym z) ∙ e))))
    go (inf s) e = number (subst (λ (x : Float). T (not (is_nan x))) (sym e) tt)
    go (fin s m k) e = number (subst (λ (x : Float). T (not (is_nan x))) (sym e) tt)

zeros_again : (n : ℕ) (bits : List ℕ) → Fit (replicate n 8) bits → every (λ x. eqb (to_bits binary64 x) 0) (map (of_bits binary64) bits) ≡ every (λ b. eqb b 0) bits
zeros_again zero [] fit = refl
zeros_again zero (b ∷ bits) fit = elim fit [ ]
zeros_again (suc n) [] fit = elim fit [ ]
zeros_again (suc n) (b ∷ bits) (more k fit) = ap₂ (λ x y. x && y) (zero_again b k) (zeros_again n bits fit)

pub formed_again : (mark : Bool) (n : ℕ) (bits : List ℕ) → Fit (replicate n 8) bits → doubles_formed mark (map (of_bits binary64) bits) ≡ numbers_formed mark bits
unfolding doubles_formed numbers_formed
formed_again true n bits fit = refl
formed_again false n bits fit = zeros_again n bits fit
