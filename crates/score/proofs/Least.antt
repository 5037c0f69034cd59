-- The least that a sum of squares, and so a root mean square, can be: found without the roots, and no more than it is. Assumes nothing.
use mathlib.Core.Path.{◌≡◌, refl, sym, subst}
use mathlib.Core.Bool.{Bool, true, false, cond, ◌&&◌}
use mathlib.Core.List.{List, [], ◌∷◌, ◌++◌, map}
use Prim.Native.Nat.{ℕ, ◌+◌, ◌^◌, ◌≤◌, ◌<◌}
use borrow.Author.Tests.{ne_eqb}
use lib.Dec.{T}
use lib.IntN.{pos}
use lib.ListN.{length, get_or, take, drop}
use lib.Ieee.{Float, nan, binary64, fits, lt, le, of_int}
use lib.Ieee.Bits.{is_true, of_bits-fits}
use lib.Ieee.Fits.{add-fits}
use Rattle.std.proofs.lemmas.Bool.{and_parts}
use Rattle.std.proofs.lemmas.List.{map-append, take-append-drop}
use Rattle.std.proofs.lemmas.List.Elements.{filter-append}
use Rattle.std.proofs.lemmas.List.Sums.{fold-append}
use Rattle.rule.specs.Arith.{clear, ◌⊕◌, ◌⊗◌, ◌⊘◌}
use Rattle.rule.specs.Lists.{sum_from, those}
use Rattle.rule.proofs.Tests.{clash, is_test}
use Rattle.root.specs.Root.{root_of}
use Rattle.root.proofs.Doubles.{le_zero}
use Rattle.numbers.specs.Constants.{zero'}
use Rattle.book.specs.Score.{close, square, squares_in, rms_of}
use Rattle.book.proofs.Clear.{clear-has_root, compared, square-clear, add_clear, squares_sum, sum_clear, rms_of_lem}
use Rattle.book.proofs.ClearOrder.{le_same, lt_le, lt_not_le, le_trans_clear, over_clear}
use Rattle.book.proofs.Under.{shrink, shrunk_under, shrunk_clear, add_under, add_none, add_above, rms-under}
use Rattle.score.specs.Limits.{surely, addend, Under}
use Rattle.score.specs.Sum.{within_added}
use Rattle.score.proofs.Bounds.{zero_clear, above_clear}
use Rattle.score.proofs.Walk.{squares_more}

-- ---- what a square adds

zero_least : (x : Float) → T (clear x) → T (le zero' x)
zero_least x c = subst T (sym (le_zero x)) (clear-has_root x c)

-- what a distance adds, by whether it is within
adds : (thresh d : Float) → le d thresh ≡ true → square d ≡ addend thresh d
unfolding addend
adds thresh d h = rw h

adds_none : (thresh d : Float) → le d thresh ≡ false → zero' ≡ addend thresh d
unfolding addend
adds_none thresh d h = rw h

addend-clear : (thresh d : Float) → T (clear (addend thresh d))
unfolding addend square
addend-clear thresh d = go (le d thresh) refl
  where
    go : (b : Bool) → le d thresh ≡ b → T (clear (cond b (d ⊗ d) zero'))
    go true h = square-clear d (compared d thresh h)
    go false h = zero_clear

pub adds_nothing : (thresh d : Float) → Under zero' (addend thresh d)
adds_nothing thresh d = record { sign = zero_clear; under = zero_least (addend thresh d) (addend-clear thresh d) }

pub above_sure : (low q : Float) → (lt zero' q && le q low) ≡ true → surely low q ≡ true
unfolding surely
above_sure low q h = let z = and_parts (lt zero' q) (le q low) h in rw (is_true (le zero' q) (lt_le zero' q z.0), z.1)

pub adds_least : (thresh q : Float) → T (fits binary64 q) → lt zero' q ≡ true → le (root_of q) thresh ≡ true → Under (q ⊗ shrink) (addend thresh (root_of q))
unfolding square
adds_least thresh q double above within =
    let c = above_clear q above in
    record { sign = shrunk_clear q c; under = subst (λ x. T (le (q ⊗ shrink) x)) (adds thresh (root_of q) within) (shrunk_under q double c) }

pub ruleset adding = (above_sure, adds_least, adds_nothing, zero_clear, above_clear, shrunk_clear)

-- ---- the sum

module _ (thresh : Float) where
  squares_fit : (sum : Float) (ds : List Float) → T (fits binary64 sum) → T (fits binary64 (sum_from square sum ds))
  squares_fit sum [] f = f
  squares_fit sum (d ∷ ds) f = squares_fit (sum ⊕ square d) ds (add-fits binary64 _ _)

  sum_fits : (ds : List Float) → T (fits binary64 (squares_in thresh ds))
  unfolding squares_in
  sum_fits ds = squares_fit zero' (those (close thresh) ds) (of_bits-fits binary64 0)

  -- whatever is still to come, the sum does not fall
  grows : (sum : Float) (ds : List Float) → T (fits binary64 sum) → T (clear sum) → T (le sum (sum_from square sum (those (close thresh) ds)))
  unfolding close square
  grows sum [] f c = le_same sum c
  grows sum (d ∷ ds) f c = go (le d thresh) refl (grows sum ds f c) (grows (sum ⊕ d ⊗ d) ds (add-fits binary64 _ _))
    where
      go : (b : Bool) → le d thresh ≡ b → T (le sum (sum_from square sum (those (close thresh) ds)))
          → (T (clear (sum ⊕ d ⊗ d)) → T (le (sum ⊕ d ⊗ d) (sum_from square (sum ⊕ d ⊗ d) (those (close thresh) ds))))
          → T (le sum (sum_from square sum (cond b (d ∷ those (close thresh) ds) (those (close thresh) ds))))
      go true h without with =
          let q = square-clear d (compared d thresh h) in
          let w = sum ⊕ d ⊗ d in
          let wc = add_clear sum (d ⊗ d) c q in
          le_trans_clear sum w (sum_from square w (those (close thresh) ds)) c wc (squares_sum thresh w ds wc) (add_above sum (d ⊗ d) f c q (zero_least (d ⊗ d) q)) (with wc)
      go false h without with = without

  grown : (ds es : List Float) → T (le (squares_in thresh ds) (squares_in thresh (ds ++ es)))
  unfolding squares_in
  grown ds es =
      let whole = sum_from square zero' (those (close thresh) ds) in
      rw (filter-append (close thresh) ds es, fold-append (λ s a. s ⊕ square a) zero' (those (close thresh) ds) (those (close thresh) es)) (grows whole es (sum_fits ds) (sum_clear thresh ds))

  pub least_none : Under zero' (squares_in thresh [])
  unfolding squares_in
  least_none = record { sign = zero_clear; under = le_same zero' zero_clear }

  module _ (qs : List Float) where
    pub least_part : {sum : Float} (i : ℕ) → Under sum (squares_in thresh (map root_of (take i qs))) → Under sum (squares_in thresh (map root_of qs))
    least_part {sum} i u =
        let ds = map root_of (take i qs) in
        let all = map root_of qs in
        let whole : ds ++ map root_of (drop i qs) ≡ all = rw (← map-append, take-append-drop) in
        let more : T (le (squares_in thresh ds) (squares_in thresh all)) = subst (λ l. T (le (squares_in thresh ds) (squares_in thresh l))) whole (grown ds (map root_of (drop i qs))) in
        record { sign = u.sign; under = le_trans_clear sum (squares_in thresh ds) (squares_in thresh all) u.sign (sum_clear thresh ds) (sum_clear thresh all) u.under more }

    pub least_next : {i : ℕ} → i < length qs → {sum part : Float} → Under part (addend thresh (root_of (get_or qs i nan))) → Under sum (squares_in thresh (map root_of (take i qs)))
        → Under (sum ⊕ part) (squares_in thresh (map root_of (take (i + 1) qs)))
    unfolding square within_added
    least_next {i} here {sum} {part} p u = rw (squares_more thresh qs here) (go (le d thresh) refl)
      where
        d : Float
        d = root_of (get_or qs i nan)

        whole : Float
        whole = squares_in thresh (map root_of (take i qs))

        clears : T (clear whole)
        clears = sum_clear thresh (map root_of (take i qs))

        sign : T (clear (sum ⊕ part))
        sign = add_clear sum part u.sign p.sign

        go : (b : Bool) → le d thresh ≡ b → Under (sum ⊕ part) (cond b (whole ⊕ square d) whole)
        go true h = record { sign = sign; under = add_under sum whole part (d ⊗ d) u.sign clears p.sign (square-clear d (compared d thresh h)) u.under (subst (λ x. T (le part x)) (sym (adds thresh d h)) p.under) }
        go false h =
            record {
              sign = sign;
              under =
                  le_trans_clear (sum ⊕ part) (whole ⊕ zero') whole sign (add_clear whole zero' clears zero_clear) clears
                  (add_under sum whole part zero' u.sign clears p.sign zero_clear u.under (subst (λ x. T (le part x)) (sym (adds_none thresh d h)) p.under))
                  (add_none whole whole (sum_fits (map root_of (take i qs))) clears clears (le_same whole clears));
            }

pub ruleset summing = (least_part, least_none, least_next, zero_clear, add_clear)

-- ---- the root mean square

-- one that is at least what is at least `best` is not below it, whatever `best` is
not_below : (best r x : Float) → T (clear r) → T (clear x) → le best r ≡ true → T (le r x) → lt x best ≡ false
not_below best r x p q h k = go (lt x best) refl
  where
    go : (b : Bool) → lt x best ≡ b → b ≡ false
    go true g =
        let c = over_clear x best q g in
        clash (is_true (le best x) (le_trans_clear best r x c p q (is_test (le best r) h) k)) (lt_not_le x best q c g)
    go false g = refl

rms_some : {count : ℕ} → (count ≡ 0 → ⊥) → (squares : Float) → root_of (squares ⊘ of_int binary64 (pos count)) ≡ rms_of count squares
unfolding rms_of
rms_some {count} some squares = rw (ne_eqb count 0 some)

module _ (best : Float) (ds : List Float) (thresh : Float) (count : ℕ) where
  abbrev whole : Float
  whole = squares_in thresh ds

  pub told_by_least : count ≤ 2 ^ 53 → (count ≡ 0 → ⊥) → {least : Float} → Under least whole → le best (root_of (least ⊘ of_int binary64 (pos count))) ≡ true → lt (rms_of count whole) best ≡ false
  told_by_least small some {least} u h =
      let sign = subst (λ x. T (clear x)) (sym (rms_some some least)) (rms_of_lem count least small u.sign) in
      not_below best (root_of (least ⊘ of_int binary64 (pos count))) (rms_of count whole) sign (rms_of_lem count whole small (sum_clear thresh ds)) h
      (rms-under count some small least whole u.sign (sum_clear thresh ds) u.under)
