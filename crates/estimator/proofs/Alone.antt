-- A list of one mark: 5 and 6 are all that it can be refused with, since a mark doesn't clash with itself. Assumes nothing.
use mathlib.Core.Path.{◌≡◌, refl}
use mathlib.Core.Bool.{Bool, true, false, not, ◌&&◌, ◌||◌, cond}
use mathlib.Core.List.{List, [], ◌∷◌}
use Prim.Native.Nat.{ℕ, zero, suc, ◌-◌}
use lib.ListN.{drop}
use lib.Pointwise.{pointwise}
use lib.Ieee.{Float, eq, le}
use Rattle.std.proofs.lemmas.Bool.{and_parts}
use Rattle.rule.specs.Refusal.{POINT, DOUBLE}
use Rattle.rule.specs.Order.{first_failed}
use Rattle.rule.specs.Lists.{every}
use Rattle.numbers.specs.Constants.{farthest}
use Rattle.numbers.specs.Finite.{abs_of, is_finite, within}
use Rattle.estimator.specs.Family.{Family}
use Rattle.estimator.specs.Double.{position, pixel, clash, doubled}
use Rattle.estimator.specs.Marks.{all_within, shape, point, double, marks_tests}
use Rattle.estimator.proofs.Keys.{equals_itself}

module _ (limit : Float) where
  pub equal_themselves : (l : List Float) → all_within limit l ≡ true → pointwise eq l l ≡ true
  unfolding all_within within
  equal_themselves [] h = refl
  equal_themselves (x ∷ l) h =
      let p = and_parts (is_finite x && le (abs_of x) limit) (every (within limit) l) h in
      rw (equals_itself x (and_parts (is_finite x) (le (abs_of x) limit) p.0).0, equal_themselves l p.1) refl

  pub behind : (k : ℕ) (l : List Float) → all_within limit l ≡ true → all_within limit (drop k l) ≡ true
  unfolding all_within
  behind zero l h = h
  behind (suc k) [] h = h
  behind (suc k) (x ∷ l) h = behind k l (and_parts (within limit x) (every (within limit) l) h).1

module _ {E M K : Type 0} (f : Family E M K) (l : List Float) (m : K) (alone : f.marks_of l ≡ m ∷ []) where
  pub no_double : all_within farthest (f.mark_numbers m) ≡ true → (double f l).fails ≡ false
  unfolding double doubled clash pixel
  no_double h =
      let numbers = f.mark_numbers m in
      rw (alone, equal_themselves farthest (drop (f.width - 2) numbers) (behind farthest (f.width - 2) numbers h)) (none (pointwise eq (position f m) (position f m)))
    where
      none : (b : Bool) → (b && false || false || false) ≡ false
      none true = refl
      none false = refl

  pub one_mark : f.mark_numbers m ≡ l → first_failed (marks_tests f l) ≡ first_failed (shape f l ∷ point l ∷ [])
  unfolding marks_tests point double first_failed
  one_mark numbers = go (all_within farthest l) (shape f l).fails (λ h. no_double (rw numbers h))
    where
      go : (w s : Bool) → (w ≡ true → (double f l).fails ≡ false)
          → cond s (shape f l).number (cond (not w) POINT (cond (double f l).fails DOUBLE 0)) ≡ cond s (shape f l).number (cond (not w) POINT 0)
      go w true h = refl
      go true false h = rw (h refl) refl
      go false false h = refl
