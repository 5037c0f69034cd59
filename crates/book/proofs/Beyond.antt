-- The marks beyond and those within the threshold: of one model, whichever the family, and of the answer few, whose count is the fit's own. Assumes nothing.
use mathlib.Core.Path.{◌≡◌, refl}
use mathlib.Core.Bool.{Bool, true, false, cond}
use mathlib.Core.List.{List, [], ◌∷◌}
use Prim.Native.Nat.{ℕ, suc, ◌+◌, ◌≤◌, zero-le}
use native.Mathlib.Omega.{arith}
use lib.Dec.{ltb}
use lib.ListN.{length}
use lib.Ieee.{Float, nan, inf, fin, lt, eq, le, of_bits}
use Rattle.rule.specs.Lists.{count_of}
use Rattle.rule.proofs.Tests.{clash}
use Rattle.numbers.specs.Constants.{infinity}
use Rattle.numbers.specs.Finite.{is_finite}
use Rattle.numbers.specs.Measure.{Measure, beyond, distance, is_beyond, as_distance}
use Rattle.book.specs.Score.{Options, Trial, unfitted, fitted, refitted, close, count_in, few, scored, beyond_fit, count_under, standing, judged_by, stands_of, judge_trial}
use Rattle.book.specs.Beyond.{far_in, distances_in, WithinAndBeyond}

infinitely_far : (thresh : Float) → is_finite thresh ≡ true → close thresh infinity ≡ false
unfolding is_finite close le lt eq of_bits
infinitely_far nan h = clash h refl
infinitely_far (inf s) h = clash h refl
infinitely_far (fin s m e) h = refl

module _ {A : Type 0} (measure : A → Measure) (thresh : Float) (finite : is_finite thresh ≡ true) where
  one_more : (m : Measure) (b w n : ℕ) → b + w ≤ n → cond (is_beyond m) 1 0 + b + (cond (close thresh (as_distance m)) 1 0 + w) ≤ suc n
  unfolding is_beyond as_distance
  one_more beyond b w n h = rw (infinitely_far thresh finite) (omega (arith, h))
  one_more (distance d) b w n h = go (close thresh d)
    where
      go : (t : Bool) → 0 + b + (cond t 1 0 + w) ≤ suc n
      go true = omega (arith, h)
      go false = omega (arith, h)

  pub under_one : (l : List A) → far_in measure l + count_in thresh (distances_in measure l) ≤ length l
  unfolding count_of count_in
  under_one [] = zero-le
  under_one (a ∷ l) = one_more (measure a) (far_in measure l) (count_in thresh (distances_in measure l)) (length l) (under_one l)

-- ---- the same of a trial's answer: few, and the number beyond

module _ {M : Type 0} (o : Options) (distances : M → List Float) (stops : List ℕ) (far : M → ℕ) (n : ℕ)
    (each : (m : M) → far m + count_in o.thresh (distances m) ≤ n)
  where
    few_is : (fit stands : M) (k : ℕ) → judged_by o distances stops fit stands ≡ few k → k ≡ count_in o.thresh (distances fit)
    unfolding judged_by count_under
    few_is fit stands k = go (ltb (count_in o.thresh (distances fit)) o.least)
      where
        go : (b : Bool) → cond b (few (count_in o.thresh (distances fit))) (scored (standing o distances stops stands)) ≡ few k → k ≡ count_in o.thresh (distances fit)
        go true e = cc
        go false e = cc

    with_few : (fit stands : M) (k : ℕ) → judged_by o distances stops fit stands ≡ few k → far fit + k ≤ n
    with_few fit stands k e = rw (few_is fit stands k e) (each fit)

    pub few_and_beyond : (t : Trial M) (k : ℕ) → judge_trial o distances stops t ≡ few k → beyond_fit far t + k ≤ n
    unfolding judge_trial beyond_fit
    few_and_beyond unfitted k e = cc
    few_and_beyond (fitted fit) k e = with_few fit fit k e
    few_and_beyond (refitted fit refit) k e = with_few fit (stands_of o distances stops fit refit) k e

pub within_and_beyond : {A M : Type 0} → WithinAndBeyond A M
within_and_beyond = record {
  of_model = under_one;
  of_few = λ measure o stops finite marks. few_and_beyond o (λ m. distances_in (measure m) marks) stops (λ m. far_in (measure m) marks) (length marks) (λ m. under_one (measure m) o.thresh finite marks);
}
