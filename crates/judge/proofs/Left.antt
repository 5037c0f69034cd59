-- The list of squares that a scored trial leaves: at its front are those of the model that stands, and their roots are its distances. Assumes nothing.
use mathlib.Core.Path.{◌≡◌, refl, sym, ap, ◌∙◌}
use mathlib.Core.Bool.{Bool, true, false, cond}
use mathlib.Core.List.{List, map}
use Prim.Native.Nat.{ℕ, zero, suc, ◌≤◌}
use native.Mathlib.Omega.{arith}
use lib.Dec.{ltb}
use lib.ListN.{length, take}
use lib.Ieee.{Float}
use Rattle.rule.specs.Lists.{filled}
use Rattle.rule.specs.Order.{first_failed, if_passed}
use Rattle.rule.proofs.Tests.{clash}
use Rattle.rule.proofs.Order.{done}
use Rattle.rule.proofs.Lists.{filled-length}
use Rattle.root.specs.Root.{root_of}
use Rattle.estimator.specs.Family.{Family, distances_of, squares_of}
use Rattle.book.specs.Score.{Judged, turned_down, few, scored, Standing, Trial, unfitted, fitted, refitted, count_in, rms_in, count_under, standing, stands_of, judged_by, judge_trial}
use Rattle.book.proofs.Picked.{judge_own}
use Rattle.records.specs.Trial.{trial_of}
use Rattle.records.specs.declared.options.RansacOptions.{RansacOptions}
use Rattle.judge.specs.Judging.{rule_of, Call, tested_marks, tested_tests, worth, judged_by as byTests, judge_tested, rms_under, squares_after, squares_left, supported, support_with, judged_as}
use Rattle.judge.specs.declared.Support.{Support}
use Rattle.judge.specs.declared.Verdict.{Verdict}
use Rattle.judge.specs.declared.Verdict.TheVariants.{Scored}
use Rattle.judge.proofs.Ways.{run_passed}
use Rattle.judge.proofs.Measured.{roots_stored}

-- ---- what a scored trial's standing is

scored_in : {M : Type 0} → Judged M → Bool
scored_in (turned_down k) = false
scored_in Judged.empty = false
scored_in (few k) = false
scored_in (scored s) = true

-- the model that stands; `d` where there is none
model_in : {M : Type 0} → M → Judged M → M
model_in d (turned_down k) = d
model_in d Judged.empty = d
model_in d (few k) = d
model_in d (scored s) = s.model

module _ {E M K : Type 0} (f : Family E M K) (e : E) (o : RansacOptions) (l : List Float) (stops : List ℕ) (d : M) (entry : List Float) where
  abbrev ds : M → List Float
  ds = distances_of f e o.ratio l

  -- by whether the fit has too few marks
  by_few : (b : Bool) (k : ℕ) (fit m : M) → scored_in (cond b (few k) (scored (standing (rule_of o) ds stops m))) ≡ true
      → filled (squares_of f e o.ratio l (cond b fit m)) entry ≡ filled (squares_of f e o.ratio l (model_in d (cond b (few k) (scored (standing (rule_of o) ds stops m))))) entry
  unfolding scored_in model_in standing
  by_few true k fit m h = clash h refl
  by_few false k fit m h = refl

  cond_same : {A : Type 0} (b : Bool) (a : A) → cond b a a ≡ a
  cond_same true a = refl
  cond_same false a = refl

  after_stands : (t : Trial M) → scored_in (judge_trial (rule_of o) ds stops t) ≡ true
      → squares_after f e o l stops t entry ≡ filled (squares_of f e o.ratio l (model_in d (judge_trial (rule_of o) ds stops t))) entry
  unfolding judge_trial squares_after judged_by rule_of scored_in
  after_stands unfitted h = clash h refl
  after_stands (fitted fit) h =
      let b = ltb (count_under (rule_of o) ds stops fit) o.min_inliers in
      ap (λ m. filled (squares_of f e o.ratio l m) entry) (sym (cond_same b fit)) ∙ by_few b _ fit fit h
  after_stands (refitted fit refit) h = by_few (ltb (count_under (rule_of o) ds stops fit) o.min_inliers) _ fit (stands_of (rule_of o) ds stops fit refit) h

-- ---- what a scored trial leaves

pub by_number : {M : Type 0} (k : ℕ) (w : Judged M) (t : Standing M) → if_passed k w (turned_down k) ≡ scored t → (k ≡ 0) × (w ≡ scored t)
unfolding if_passed
by_number zero w t e = (refl, e)
by_number (suc k) w t e = cc

-- The count is the model's own, and the front of the list has its squares.
record Leaves {E M K : Type 0} (f : Family E M K) (e : E) (o : RansacOptions) (n : ℕ) (l : List Float) (m : M) (count : ℕ) (s : List Float) : Type 0 where
  counted : count ≡ count_in o.thresh (distances_of f e o.ratio l m)
  roots : map root_of (take n s) ≡ distances_of f e o.ratio l m

module _ {E M K : Type 0} (f : Family E M K) (e : E) (o : RansacOptions) (n : ℕ) (c : Call) (small : n ≤ 2000) (entry : List Float) where
  abbrev failed : ℕ
  failed = first_failed (tested_tests f n c)

  scored-leaves : (t : Standing M) {s : List Float} → scored t ≡ judge_tested f e o n c → s ≡ squares_left f e o n c entry → 2000 ≤ length s → Leaves f e o n c.marks t.model t.count s
  unfolding judge_tested byTests squares_left worth rule_of tested_tests tested_marks scored_in model_in
  scored-leaves t {s} h left room =
      let found = by_number failed (worth f e o c) t (sym h) in
      let p = found.0 in
      let is = sym found.1 in
      let run = run_passed f n c.marks _ p in
      let stays : s ≡ filled (squares_of f e o.ratio c.marks t.model) entry =
      left
      ∙ sym (done (squares_after f e o c.marks c.stops (trial_of f c.bytes) entry) entry (sym p))
      ∙ after_stands f e o c.marks c.stops t.model entry (trial_of f c.bytes) (ap scored_in (sym is))
      ∙ ap (λ j. filled (squares_of f e o.ratio c.marks (model_in t.model j)) entry) (sym is) in
      record {
        counted = (judge_own (rule_of o) (distances_of f e o.ratio c.marks) c.stops (trial_of f c.bytes) t (sym is)).0;
        roots = rw (run.0, stays) (roots_stored f e o.ratio c.marks t.model entry (let long = ap length stays ∙ filled-length (squares_of f e o.ratio c.marks t.model) entry in let k = run.0 in omega (arith, k, small, room, long)));
      }

-- ---- with the root mean square

module _ {E M K : Type 0} (f : Family E M K) (e : E)
    (o : RansacOptions) (n : ℕ) (c : Call) (small : n ≤ 2000) {v : Verdict (Support M)} (found : judged_as (supported (rms_under f e o c.marks)) v ≡ judge_tested f e o n c) {s : Support M} (is : v ≡ Scored s)
    (entry : List Float) {left : List Float} (leaves : left ≡ squares_left f e o n c entry) (room : 2000 ≤ length left)
  where
    support_is : scored (supported (rms_under f e o c.marks) s) ≡ judge_tested f e o n c
    support_is = ap (judged_as (supported (rms_under f e o c.marks))) (sym is) ∙ found

    support_leaves : Leaves f e o n c.marks s.model s.count left
    support_leaves = scored-leaves f e o n c small entry _ support_is leaves room

    pub support_scored : scored (support_with o.thresh (take n left) s) ≡ judge_tested f e o n c
    unfolding support_with rms_under rms_in
    support_scored = rw (support_leaves.roots, support_leaves.counted) (rw support_leaves.counted at support_is)
