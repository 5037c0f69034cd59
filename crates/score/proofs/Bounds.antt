-- The threshold's limits: what a square says of its root without the root. Assumes nothing.
use mathlib.Core.Path.{◌≡◌, refl, sym, ◌∙◌}
use mathlib.Core.Bool.{Bool, true, false, cond, not, ◌&&◌, ◌||◌}
use Prim.Native.Nat.{ℕ, zero, suc, ◌*◌}
use native.Mathlib.Omega.{arith}
use native.Mathlib.Nat.{zero-add, add-zero}
use borrow.Author.Tests.{lt-ltb, le-ltb, ne_eqb, not-false}
use lib.Dec.{T, eqb, eqb-suc-zero}
use lib.IntN.{ℤ, pos}
use lib.Ieee.{Float, nan, inf, fin, binary64, up, down, of_bits, fits, is_nan, lt, le, eq, below, level}
use lib.Ieee.Bits.{is_true, of_bits-fits}
use Rattle.std.proofs.lemmas.Bool.{and_parts}
use Rattle.rule.specs.Arith.{clear}
use Rattle.rule.proofs.Tests.{clash, is_test, or_true}
use Rattle.rule.proofs.Zero.{size_pos, no_size}
use Rattle.root.specs.Root.{root_of}
use Rattle.root.proofs.Monotone.{root_monotone}
use Rattle.numbers.specs.Constants.{zero'}
use Rattle.book.proofs.Clear.{clear-has_root, compared, root-clear}
use Rattle.book.proofs.ClearOrder.{lt_le_trans, lt_not_le, le_trans_clear, over_clear}
use Rattle.score.specs.Limits.{Low, High, no_limit, settled, surely, possibly}

-- ---- a square, against the limits

-- the right side of a comparison that holds is no NaN
right_number : (x y : Float) → le x y ≡ true → is_nan y ≡ false
unfolding le lt eq is_nan
right_number nan y h = clash h refl
right_number (inf s) nan h = clash h refl
right_number (inf s) (inf t) h = refl
right_number (inf s) (fin t n d) h = refl
right_number (fin s m e) nan h = clash h refl
right_number (fin s m e) (inf t) h = refl
right_number (fin s m e) (fin t n d) h = refl

-- all zeros compare alike
both_zero : (s t : Bool) → (below s 0 t 0 || level s 0 t 0) ≡ true
both_zero true true = refl
both_zero true false = refl
both_zero false true = refl
both_zero false false = refl

none_level : (n : ℕ) (d e : ℤ) → eqb 0 (suc n * up d * down e) ≡ false
none_level n d e = let p = size_pos n d e in ne_eqb 0 (suc n * up d * down e) (λ z. absurd (omega (arith, p, z)))

level_none : (n : ℕ) (d e : ℤ) → eqb (suc n * up d * down e) 0 ≡ false
level_none n d e = let p = size_pos n d e in ne_eqb (suc n * up d * down e) 0 (λ z. absurd (omega (arith, p, z)))

zero_first : (s : Bool) (e : ℤ) (t : Bool) (n : ℕ) (d : ℤ) → le (fin s zero e) (fin t n d) ≡ (not t || eqb n 0)
unfolding le lt eq
zero_first s e t zero d = rw (no_size e d, no_size d e) (both_zero s t ∙ sym (or_true (not t)))
zero_first true e false (suc n) d = rw (no_size e d, zero-add (suc n * up d * down e), lt-ltb 0 (suc n * up d * down e) (size_pos n d e))
zero_first false e false (suc n) d = rw (no_size e d, lt-ltb 0 (suc n * up d * down e) (size_pos n d e))
zero_first true e true (suc n) d = rw (no_size e d, le-ltb (suc n * up d * down e) 0 Prim.Native.Nat.zero-le, none_level n d e, eqb-suc-zero n)
zero_first false e true (suc n) d = rw (no_size e d, none_level n d e, eqb-suc-zero n)

zero_last : (s : Bool) (e : ℤ) (t : Bool) (n : ℕ) (d : ℤ) → le (fin t n d) (fin s zero e) ≡ (t || eqb n 0)
unfolding le lt eq
zero_last s e t zero d = rw (no_size e d, no_size d e) (both_zero t s ∙ sym (or_true t))
zero_last false e false (suc n) d = rw (no_size e d, le-ltb (suc n * up d * down e) 0 Prim.Native.Nat.zero-le, level_none n d e, eqb-suc-zero n)
zero_last true e false (suc n) d = rw (no_size e d, level_none n d e, eqb-suc-zero n)
zero_last false e true (suc n) d = rw (no_size e d, add-zero (suc n * up d * down e), lt-ltb 0 (suc n * up d * down e) (size_pos n d e))
zero_last true e true (suc n) d = rw (no_size e d, lt-ltb 0 (suc n * up d * down e) (size_pos n d e))

zero_le : (s : Bool) (e : ℤ) (x : Float) → le (fin s zero e) x ≡ le zero' x
unfolding of_bits le lt eq
zero_le s e nan = refl
zero_le s e (inf t) = refl
zero_le s e (fin t n d) = zero_first s e t n d ∙ sym (zero_first false (pos 0) t n d)

le_zero : (s : Bool) (e : ℤ) (x : Float) → le x (fin s zero e) ≡ le x zero'
unfolding of_bits le lt eq
le_zero s e nan = refl
le_zero s e (inf t) = refl
le_zero s e (fin t n d) = zero_last s e t n d ∙ sym (zero_last false (pos 0) t n d)

pub zero_clear : T (clear zero')
unfolding of_bits clear
zero_clear = tt

zero_fits : T (fits binary64 zero')
zero_fits = of_bits-fits binary64 0

root_zero : (s : Bool) (e : ℤ) (thresh : Float) → le (root_of (fin s zero e)) thresh ≡ le (root_of zero') thresh
unfolding root_of of_bits
root_zero s e thresh = zero_le s e thresh

-- a square from `high` on is not within, whether or not it has a root, if that is so of those of clear sign
module _ (thresh high : Float) (beyond : (d : Float) → T (fits binary64 d) → T (clear d) → le high d ≡ true → le (root_of d) thresh ≡ false) where
  from_high : (q : Float) → T (fits binary64 q) → le high q ≡ true → le (root_of q) thresh ≡ false
  unfolding root_of clear le lt eq
  from_high nan f h = refl
  from_high (inf true) f h = refl
  from_high (inf false) f h = beyond (inf false) f tt h
  from_high (fin s zero e) f h = root_zero s e thresh ∙ beyond zero' zero_fits zero_clear (sym (le_zero s e high) ∙ h)
  from_high (fin true (suc m) e) f h = refl
  from_high (fin false (suc m) e) f h = beyond (fin false (suc m) e) f tt h

  high_of : High thresh high
  unfolding possibly
  high_of = record { beyond = λ q f h. from_high q f (not-false (le high q) h) }

-- one that has a root, up to `low`, is within, if that is so of those of clear sign
module _ (thresh low : Float) (within : (d : Float) → T (fits binary64 d) → T (clear d) → le d low ≡ true → le (root_of d) thresh ≡ true) where
  to_low : (q : Float) → T (fits binary64 q) → le zero' q ≡ true → le q low ≡ true → le (root_of q) thresh ≡ true
  unfolding clear of_bits le lt eq
  to_low nan f z h = clash h refl
  to_low (inf true) f z h = clash z refl
  to_low (inf false) f z h = within (inf false) f tt h
  to_low (fin s zero e) f z h = root_zero s e thresh ∙ within zero' zero_fits zero_clear (sym (zero_le s e low) ∙ h)
  to_low (fin true (suc m) e) f z h = clash z (zero_first false (pos 0) true (suc m) e ∙ eqb-suc-zero m)
  to_low (fin false (suc m) e) f z h = within (fin false (suc m) e) f tt h

  low_of : Low thresh low
  unfolding surely
  low_of = record { within = λ q f h. let z = and_parts (le zero' q) (le q low) h in to_low q f z.0 z.1 }

-- ---- the limits themselves

-- what is above 0 is clear
pub above_clear : (t : Float) → lt zero' t ≡ true → T (clear t)
above_clear t h = over_clear zero' t zero_clear h

pub no-high : (thresh : Float) → High thresh no_limit
unfolding of_bits is_nan possibly
no-high thresh = record { beyond = λ q f h. clash refl (compared nan q (not-false (le nan q) h)) }

no-low : (thresh : Float) → Low thresh no_limit
unfolding of_bits is_nan surely
no-low thresh = record { within = λ q f h. clash refl (right_number q nan (and_parts (le zero' q) (le q nan) h).1) }

-- by the root of a limit that is a double
module _ (thresh limit : Float) (double : T (fits binary64 limit)) where
  module _ (sign : lt zero' thresh ≡ true) (above : lt zero' limit ≡ true) where
    limit_root : T (clear (root_of limit))
    limit_root = root-clear limit double (above_clear limit above)

    low_limit : le (root_of limit) thresh ≡ true → Low thresh limit
    low_limit h =
        low_of thresh limit (λ d f c g. is_true (le (root_of d) thresh) (le_trans_clear (root_of d) (root_of limit) thresh (root-clear d f c) limit_root (above_clear thresh sign) (root_monotone d limit f double (clear-has_root d c) (is_test (le d limit) g)) (is_test (le (root_of limit) thresh) h)))

    high_limit : lt thresh (root_of limit) ≡ true → High thresh limit
    high_limit h =
        high_of thresh limit (λ d f c g. lt_not_le thresh (root_of d) (above_clear thresh sign) (root-clear d f c) (lt_le_trans thresh (root_of limit) (root_of d) (above_clear thresh sign) limit_root (root-clear d f c) h (root_monotone limit d double f (clear-has_root limit (above_clear limit above)) (is_test (le limit d) g))))

  -- a fact about limits that both have, the limit where it settles something and the NaN
  of_both : (P : Float → Type 0) → P no_limit → (test : Bool) → (lt zero' thresh ≡ true → lt zero' limit ≡ true → test ≡ true → P limit) → P (settled thresh limit test)
  unfolding settled
  of_both P none test some = go (lt zero' thresh) refl (lt zero' limit) refl test refl
    where
      go : (a : Bool) → lt zero' thresh ≡ a → (b : Bool) → lt zero' limit ≡ b → (c : Bool) → test ≡ c → P (cond (a && (b && c)) limit no_limit)
      go true h true g true f = some h g f
      go true h true g false f = none
      go true h false g c f = none
      go false h b g c f = none

  pub low_settles : {root low : Float} → root ≡ root_of limit → low ≡ settled thresh limit (le root thresh) → Low thresh low
  low_settles r e = rw (e, r) (of_both (Low thresh) (no-low thresh) (le (root_of limit) thresh) low_limit)

  pub high_settles : {root high : Float} → root ≡ root_of limit → high ≡ settled thresh limit (lt thresh root) → High thresh high
  high_settles r e = rw (e, r) (of_both (High thresh) (no-high thresh) (lt thresh (root_of limit)) high_limit)
