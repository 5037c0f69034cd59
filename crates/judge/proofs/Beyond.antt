-- Of a list of marks under a candidate, those within a finite threshold and those beyond; and what a call comes to that has too few. Assumes nothing.
use mathlib.Core.Path.{◌≡◌, refl, subst}
use mathlib.Core.Bool.{Bool, true, false, cond}
use mathlib.Core.List.{List, map}
use Prim.Native.Nat.{ℕ, zero, suc, ◌+◌, ◌≤◌}
use lib.ListN.{length}
use lib.Ieee.{Float}
use Rattle.rule.specs.Lists.{count_of}
use Rattle.rule.specs.Order.{Test, first_failed, if_passed}
use Rattle.numbers.specs.Finite.{is_finite}
use Rattle.numbers.specs.Measure.{beyond, distance, is_beyond}
use Rattle.estimator.specs.Family.{Family, measure_of, distance_of, distances_of, beyond_of}
use Rattle.book.specs.Score.{count_in, turned_down, few, beyond_fit}
use Rattle.book.proofs.Beyond.{under_one, few_and_beyond}
use Rattle.records.specs.Trial.{trial_of}
use Rattle.records.specs.declared.options.RansacOptions.{RansacOptions}
use Rattle.judge.specs.Judging.{rule_of, Call, worth, judged_by, beyond_by}
use Rattle.judge.specs.Beyond.{MarksWithinAndBeyond}

either : (b : Bool) (d : Float) → is_beyond (cond b beyond (distance d)) ≡ b
unfolding is_beyond
either true d = refl
either false d = refl

module _ {E M K : Type 0} (f : Family E M K) (e : E) (ratio : Float) (h : M) where
  beyond_alike : (m : K) → is_beyond (measure_of f e ratio h m) ≡ f.beyond_under e h m
  unfolding measure_of
  beyond_alike m = either (f.beyond_under e h m) _

  marks_under : (l : List Float) (thresh : Float) → is_finite thresh ≡ true → beyond_of f e l h + count_in thresh (distances_of f e ratio l h) ≤ length (f.marks_of l)
  unfolding beyond_of distances_of distance_of
  marks_under l thresh finite =
      subst (λ far. count_of far (f.marks_of l) + count_in thresh (map (distance_of f e ratio h) (f.marks_of l)) ≤ length (f.marks_of l)) (λ i m. beyond_alike m i) (under_one (measure_of f e ratio h) thresh finite (f.marks_of l))

module _ {E M K : Type 0} (f : Family E M K) (e : E) (tests : List Test) (o : RansacOptions) (c : Call) (finite : is_finite o.thresh ≡ true) (k : ℕ) where
  call_few : judged_by f e tests o c ≡ few k → beyond_by f e tests c + k ≤ length (f.marks_of c.marks)
  unfolding judged_by beyond_by worth if_passed rule_of
  call_few = go (first_failed tests)
    where
      go : (j : ℕ) → if_passed j (worth f e o c) (turned_down j) ≡ few k → if_passed j (beyond_fit (beyond_of f e c.marks) (trial_of f c.bytes)) 0 + k ≤ length (f.marks_of c.marks)
      go zero h =
          few_and_beyond (rule_of o) (distances_of f e o.ratio c.marks) c.stops (beyond_of f e c.marks) (length (f.marks_of c.marks)) (λ m. marks_under f e o.ratio m c.marks o.thresh finite) (trial_of f c.bytes) k h
      go (suc j) h = cc

pub marks_within_and_beyond : {E M K : Type 0} (f : Family E M K) → MarksWithinAndBeyond f
marks_within_and_beyond f = record { of_candidate = marks_under f; of_few = call_few f }
