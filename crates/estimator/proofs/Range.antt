-- Within a limit by two comparisons: -limit <= x and x <= limit. Assumes nothing.
use mathlib.Core.Path.{◌≡◌, refl, sym, ap, ◌∙◌}
use mathlib.Core.Bool.{Bool, true, false, ◌&&◌}
use mathlib.Core.List.{List}
use Prim.Native.Nat.{ℕ, zero, suc, ◌+◌, ◌*◌, ◌/◌, ◌<◌}
use Rattle.std.proofs.Math.Nat.{zero-mul, suc-mul, add_comm}
use Rattle.std.proofs.Math.Bool.{and_assoc}
use native.Mathlib.Omega.{arith}
use borrow.Author.Tests.{lt-ltb, eq-eqb, ne_eqb, eqb-true, eqb-false}
use lib.Dec.{eqb}
use lib.ListN.{length, get_or, take, drop}
use lib.Seq.{take-length}
use lib.IntN.{ℤ, pos}
use lib.Ieee.{Float, nan, inf, fin, up, down, of_bits, neg, lt, le, eq}
use Rattle.std.specs.List.{list_all}
use Rattle.std.specs.Simd.{first_chunks}
use Rattle.std.proofs.lemmas.List.{take-append-drop, drop-drop}
use Rattle.std.proofs.lemmas.List.Folds.{list_all-append, list_all_at}
use Rattle.rule.proofs.Tests.{clash}
use Rattle.rule.proofs.Zero.{size_pos}
use Rattle.numbers.specs.Constants.{farthest}
use Rattle.numbers.specs.Finite.{abs_of, is_finite, within}
use Rattle.estimator.specs.Marks.{all_within}

eqb_comm : (a b : ℕ) → eqb a b ≡ eqb b a
eqb_comm a b = go (eqb a b) refl
  where
    go : (t : Bool) → eqb a b ≡ t → t ≡ eqb b a
    go true h = sym (eq-eqb b a (sym (eqb-true a b h)))
    go false h = sym (ne_eqb b a (λ e. eqb-false a b h (sym e)))

module _ (m : ℕ) (k : ℤ) where
  -- a negative number is below the limit, a positive one above its opposite, and the order of two is turned with their signs
  negative : (n : ℕ) (e : ℤ) → le (fin true n e) (fin false (suc m) k) ≡ true
  unfolding le lt
  negative n e = rw (lt-ltb 0 (n * up e * down k + suc m * up k * down e) (let h = size_pos m k e in omega arith))

  positive : (n : ℕ) (e : ℤ) → le (fin true (suc m) k) (fin false n e) ≡ true
  unfolding le lt
  positive n e = rw (lt-ltb 0 (suc m * up k * down e + n * up e * down k) (let h = size_pos m k e in omega arith))

  turned : (n : ℕ) (e : ℤ) → le (fin true (suc m) k) (fin true n e) ≡ le (fin false n e) (fin false (suc m) k)
  unfolding le lt eq
  turned n e = rw (eqb_comm (suc m * up k * down e) (n * up e * down k))

  pub low_enough : (x : Float) → le (neg (fin false (suc m) k)) x ≡ true → le x (fin false (suc m) k) ≡ within (fin false (suc m) k) x
  unfolding neg le lt eq within is_finite abs_of
  low_enough nan h = refl
  low_enough (inf true) h = clash h refl
  low_enough (inf false) h = refl
  low_enough (fin false n e) h = refl
  low_enough (fin true n e) h = negative n e ∙ sym (sym (turned n e) ∙ h)

  pub too_low : (x : Float) → le (neg (fin false (suc m) k)) x ≡ false → false ≡ within (fin false (suc m) k) x
  unfolding neg le lt eq within is_finite abs_of
  too_low nan h = refl
  too_low (inf true) h = refl
  too_low (inf false) h = refl
  too_low (fin false n e) h = clash (positive n e) h
  too_low (fin true n e) h = sym (sym (turned n e) ∙ h)

-- ---- at 1e9

pub in_range : (x : Float) → le (neg farthest) x ≡ true → le x farthest ≡ within farthest x
unfolding of_bits
in_range x h = low_enough 1953124 (pos 9) x h

pub out_of_range : (x : Float) → le (neg farthest) x ≡ false → false ≡ within farthest x
unfolding of_bits
out_of_range x h = too_low 1953124 (pos 9) x h

-- ---- part by part

parts_first : (p : Float → Bool) (w k : ℕ) (l : List Float) → (list_all (list_all p) (first_chunks w k l) && list_all p (drop (k * w) l)) ≡ list_all p l
parts_first p w zero l = ap (λ n. list_all p (drop n l)) (zero-mul w)
parts_first p w (suc k) l =
    let part = list_all p (take w l) in
    let more = list_all (list_all p) (first_chunks w k (drop w l)) in
    ap (λ left. (part && more) && list_all p left) (ap (λ n. drop n l) (suc-mul k w ∙ add_comm (k * w) w) ∙ sym (drop-drop (k * w) w l))
    ∙ and_assoc part more (list_all p (drop (k * w) (drop w l)))
    ∙ ap (λ b. part && b) (parts_first p w k (drop w l))
    ∙ sym (list_all-append p (take w l) (drop w l))
    ∙ ap (list_all p) (take-append-drop w l)

-- where a list is cut into parts of 32 and a rest
module _ (limit : Float) (l rest : List Float) (parts : List (List Float)) (cut : parts ≡ first_chunks 32 (length l / 32) l) (left : rest ≡ drop (length l / 32 * 32) l) where
  by_parts : (list_all (all_within limit) parts && all_within limit rest) ≡ all_within limit l
  unfolding all_within
  by_parts = rw (cut, left) (parts_first (within limit) 32 (length l / 32) l)

  pub part_fails : (i : ℕ) (d : List Float) → i < length parts → all_within limit (get_or parts i d) ≡ false → false ≡ all_within limit l
  part_fails i d h fails = ap (λ b. b && all_within limit rest) (sym (list_all_at (all_within limit) parts i d h fails)) ∙ by_parts

  pub parts_pass : (i : ℕ) → i ≡ length parts → list_all (all_within limit) (take i parts) ≡ true → all_within limit rest ≡ all_within limit l
  parts_pass i e pass =
      let all : list_all (all_within limit) parts ≡ true = sym (ap (list_all (all_within limit)) (ap (λ n. take n parts) e ∙ take-length parts)) ∙ pass in
      ap (λ b. b && all_within limit rest) (sym all) ∙ by_parts
