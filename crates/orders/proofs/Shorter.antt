-- The proof of `Order7`: two tests that change places answer otherwise only where both fail and none in front of them does. Assumes nothing.
use mathlib.Core.Path.{◌≡◌, refl, sym, ap, ◌∙◌}
use mathlib.Core.Bool.{Bool, true, false, not, ◌&&◌, ◌||◌, cond}
use mathlib.Core.List.{List, [], ◌∷◌, ◌++◌}
use Prim.Native.Nat.{ℕ, zero, suc, ◌*◌, ◌/◌, ◌<◌}
use native.Mathlib.Omega.{arith}
use borrow.Author.Tests.{ltb-true, eqb-true}
use lib.Dec.{T, eqb, ltb, eqb-suc-zero}
use lib.Ieee.Fits.{and_l, and_r}
use lib.ListN.{length, get_or, take, drop}
use lib.Ieee.{Float}
use Rattle.std.proofs.lemmas.Bool.{and_parts, not-false}
use Rattle.rule.specs.Refusal.{POINT, FEW, ENDED, NONE, DOUBLE}
use Rattle.rule.specs.Lists.{some}
use Rattle.rule.specs.Order.{Test, first_failed, decided, if_passed}
use Rattle.rule.proofs.Tests.{clash}
use Rattle.rule.proofs.Order.{numbered, front as by_front, all_passed, none_failed, first_passed, numbered_append}
use Rattle.numbers.specs.Constants.{farthest}
use Rattle.numbers.specs.Ratio.{ratio}
use Rattle.estimator.specs.Family.{Family, mark_at, distances_of}
use Rattle.estimator.specs.Double.{doubled}
use Rattle.estimator.specs.Marks.{all_within, shape, point, few, double, of_run, enough_tests, marks_tests, run_tests}
use Rattle.estimator.proofs.Alone.{no_double, behind}
use Rattle.estimator.proofs.Doubled.{front_within}
use Rattle.sheet.specs.Sheets.{sheet}
use Rattle.sheet.specs.Owed as Sheets
use Rattle.form.specs.Forms.{form}
use Rattle.form.specs.Owed as Forms
use Rattle.linalg.specs.Normalize.{normalize_tests}
use Rattle.linalg_3d.specs.Normalize.{normalize_tests as form_normalize_tests}
use Rattle.homography.specs.Rows.{rows_tests}
use Rattle.dlt.specs.Rows.{rows_tests as form_rows_tests}
use Rattle.book.specs.Score.{Options, Standing, Judged, turned_down, few as few_within, scored, Trial, unfitted, fitted, refitted, count_under, standing, stands_of, judged_by, judge_trial}
use Rattle.book.specs.Book.{Book, Held, none, held, is_refused, is_held, is_won, beats, scored_answer, entered}
use Rattle.book.specs.Calls.{is_closed, number_in, tried}
use Rattle.records.specs.Options.{options_record, options_tests, thresh, confidence, iters}
use Rattle.records.specs.Trial.{trial_of}
use Rattle.records.specs.Marks.{mark_bytes, numbers_in}
use Rattle.score.specs.Places.{indices_in}
use Rattle.judge.specs.Judging.{rule_of, Call, worth, judged_by as judged_by_tests, judge_of, call_tests}
use Rattle.pick.specs.Run.{Run}
use Rattle.pick.specs.Opening.{opening_tests}
use Rattle.pick.specs.Trial.{trial_answer}
use Rattle.pick.specs.Indices.{marks_order, under_answer, winner_answer, indices_answer}
use Rattle.form_records.specs.Camera.{camera_record, records_tests}
use Rattle.salghemu.specs.Whole.{order_of, later_tests, run_tests as whole_tests}
use Rattle.orders.specs.ShortFirst.{now, before, stopped, short_and_doubled, Changed, is_none, ended, unheld, record_order, trial_order, indices_order, OfFamily, AsBefore, Order7}
use Rattle.orders.proofs.Cases.{cases}

-- ---- by what the tests say

-- Numbers are above 0, so 0 says that no test of a list failed.
positive : (k : ℕ) → T (ltb 0 k) → eqb k 0 ≡ false
positive zero h = absurd h
positive (suc k) h = eqb-suc-zero k

some_failed : (ts : List Test) → T (numbered ts) → not (eqb (first_failed ts) 0) ≡ some (λ t. t.fails) ts
unfolding first_failed numbered
some_failed [] n = refl
some_failed (t ∷ ts) n = go t.fails (some_failed ts (and_r (ltb 0 t.number) (numbered ts) n))
  where
    go : (b : Bool) → not (eqb (first_failed ts) 0) ≡ some (λ u. u.fails) ts → not (eqb (cond b t.number (first_failed ts)) 0) ≡ (b || some (λ u. u.fails) ts)
    go true e = rw (positive t.number (and_l (ltb 0 t.number) (numbered ts) n)) refl
    go false e = e

-- what an order answers, by what stands ahead (whether it passes, and its number), and by which of 6, 7 and 18 fail
abbrev new : (ahead point few double : Bool) → (k after : ℕ) → ℕ
new ahead point few double k after = cond ahead (cond point POINT (cond few FEW (cond double DOUBLE after))) k

abbrev old : (ahead point few double : Bool) → (k after : ℕ) → ℕ
old ahead point few double k after = cond ahead (cond point POINT (cond double DOUBLE (cond few FEW after))) k

before_both : (a p w d : Bool) (k r : ℕ) → (cond a (cond p POINT 0) k ≡ 0 → ⊥) → new a p w d k r ≡ old a p w d k r
before_both false p w d k r h = refl
before_both true true w d k r h = refl
before_both true false w d k r h = absurd (h refl)

not_both : (a p w d : Bool) (k r : ℕ) → (w && d) ≡ false → new a p w d k r ≡ old a p w d k r
not_both false p w d k r h = refl
not_both true true w d k r h = refl
not_both true false false d k r h = refl
not_both true false true false k r h = refl
not_both true false true true k r h = clash refl h

module _ {E M K : Type 0} (f : Family E M K) (ahead : List Test) (marks : List Float) (after order : List Test)
    (above_0 : T (numbered ahead)) (is : order ≡ now f ahead marks after)
    (own : all_within farthest marks ≡ true → (m : K) → f.marks_of marks ≡ m ∷ [] → all_within farthest (f.mark_numbers m) ≡ true) where
  abbrev a : ℕ
  a = first_failed ahead

  abbrev p : Bool
  p = (point marks).fails

  abbrev w : Bool
  w = (few f marks).fails

  abbrev d : Bool
  d = (double f marks).fails

  by_now : first_failed order ≡ new (eqb a 0) p w d a (first_failed after)
  unfolding now first_failed point few double
  by_now = ap first_failed is ∙ by_front ahead (point marks ∷ few f marks ∷ double f marks ∷ after) above_0

  by_before : first_failed (before f ahead marks after) ≡ old (eqb a 0) p w d a (first_failed after)
  unfolding before first_failed point few double
  by_before = by_front ahead (point marks ∷ double f marks ∷ few f marks ∷ after) above_0

  alike_by : new (eqb a 0) p w d a (first_failed after) ≡ old (eqb a 0) p w d a (first_failed after) → first_failed order ≡ first_failed (before f ahead marks after)
  alike_by same = by_now ∙ same ∙ sym by_before

  abbrev front : List Test
  front = ahead ++ (point marks ∷ [])

  by_failing : not (eqb (first_failed front) 0) ≡ stopped f ahead marks after
  unfolding stopped point numbered
  by_failing = some_failed front (numbered_append ahead (point marks ∷ []) above_0 tt)

  not_reached : stopped f ahead marks after ≡ true → first_failed front ≡ 0 → ⊥
  not_reached h e = clash (by_failing ∙ h) (ap (λ k. not (eqb k 0)) e)

  -- where no test in front of both failed
  module _ (none : stopped f ahead marks after ≡ false) where
    reached : first_failed front ≡ 0
    reached = eqb-true (first_failed front) 0 (not-false (eqb (first_failed front) 0) (by_failing ∙ none))

    ahead_passed : a ≡ 0
    ahead_passed = none_failed ahead (point marks ∷ []) reached

    point_passed : p ≡ false
    unfolding point
    point_passed = (first_passed (point marks) [] tt (all_passed ahead (point marks ∷ []) above_0 ahead_passed ∙ reached)).0

    in_range : all_within farthest marks ≡ true
    unfolding point
    in_range = not-false (all_within farthest marks) point_passed

    now_is : first_failed order ≡ cond w FEW (cond d DOUBLE (first_failed after))
    now_is = by_now ∙ rw (ahead_passed, point_passed) refl

    before_is : first_failed (before f ahead marks after) ≡ cond d DOUBLE (cond w FEW (first_failed after))
    before_is = by_before ∙ rw (ahead_passed, point_passed) refl

    -- no mark clashes with itself
    more_than_one : d ≡ true → 1 < length (f.marks_of marks)
    unfolding double doubled
    more_than_one h = go (f.marks_of marks) refl
      where
        go : (l : List K) → f.marks_of marks ≡ l → 1 < length l
        go [] e = clash (sym (ap (doubled f) e) ∙ h) refl
        go (m ∷ []) e = clash h (no_double f marks m e (own in_range m e))
        go (m ∷ k ∷ l) e = omega arith

  changed : Changed f ahead marks after order
  unfolding short_and_doubled few first_failed point
  changed =
      record {
        is_now = is;
        in_front = λ h. alike_by (before_both (eqb a 0) p w d a (first_failed after) (λ e. not_reached h (by_front ahead (point marks ∷ []) above_0 ∙ e)));
        alike = λ h. alike_by (not_both (eqb a 0) p w d a (first_failed after) h);
        turned = λ h both.
            let each = and_parts w d both in
            let more = more_than_one h each.1 in
            (before_is h ∙ rw (each.0, each.1) refl, now_is h ∙ rw (each.0) refl, omega (arith, more), ltb-true (length (f.marks_of marks)) f.least each.0);
        still = λ h enough both. (before_is h ∙ rw both refl, now_is h ∙ rw (enough, both) refl);
      }

-- ---- what a trial and the indices answer

-- a record that is judged is no refusal
module _ {M : Type 0} (o : Options) (distances : M → List Float) (stops : List ℕ) (b : Book M) where
  scored_so : (s : Standing M) (wins : Bool) → number_in (cond wins (is_won s.count s.rms) (is_held s.count s.rms)) ≡ 0
  unfolding number_in
  scored_so s true = refl
  scored_so s false = refl

  judged_so : (fit stands : M) → number_in (entered o b (judged_by o distances stops fit stands)).outcome ≡ 0
  unfolding number_in entered scored_answer judged_by
  judged_so fit stands = go (ltb (count_under o distances stops fit) o.least)
    where
      go : (t : Bool) → number_in (entered o b (cond t (few_within (count_under o distances stops fit)) (scored (standing o distances stops stands)))).outcome ≡ 0
      go true = refl
      go false = scored_so (standing o distances stops stands) (beats (standing o distances stops stands) b.winner)

  no_refusal : (t : Trial M) → number_in (entered o b (judge_trial o distances stops t)).outcome ≡ 0
  unfolding number_in entered judge_trial
  no_refusal unfitted = refl
  no_refusal (fitted fit) = judged_so fit fit
  no_refusal (refitted fit refit) = judged_so fit (stands_of o distances stops fit refit)

module _ {E M K : Type 0} (f : Family E M K) (r : Run E M) where
  pub trial_number : (c : Call) → number_in (trial_answer f r c).outcome ≡ first_failed (trial_order f r c)
  unfolding number_in trial_answer tried judge_of judged_by_tests worth trial_order ended first_failed if_passed entered
  trial_number c = go (is_closed r.book) (first_failed (call_tests f r.n c))
    where
      w : Judged M
      w = worth f r.estimator r.options c

      go : (closed : Bool) (k : ℕ) → number_in (cond closed (record { book = r.book; outcome = is_refused ENDED }) (entered (rule_of r.options) r.book (if_passed k w (turned_down k)))).outcome ≡ cond closed ENDED k
      go true k = refl
      go false zero = no_refusal (rule_of r.options) (distances_of f r.estimator r.options.ratio c.marks) c.stops r.book (trial_of f c.bytes)
      go false (suc k) = refl

  pub indices_number : (marks : List Float) (entry : List ℕ) → (count : ℕ) × (indices_answer f r marks entry ≡ decided (first_failed (indices_order f r marks (length entry))) count)
  unfolding indices_answer winner_answer under_answer indices_order unheld first_failed decided
  indices_number marks entry = go r.book.winner
    where
      go : (winner : Held M) → (count : ℕ) × (winner_answer f r.estimator r.n r.options winner marks entry ≡ decided (cond (is_none winner) NONE (first_failed (marks_order f r.n marks (length entry)))) count)
      go none = (0, refl)
      go (held won) = (length (indices_in r.options.thresh (distances_of f r.estimator r.options.ratio marks won.model)), refl)

-- ---- the entries

module _ {E M K : Type 0} (f : Family E M K) (w : ℕ) (counts : (l : List Float) → length (f.marks_of l) ≡ length l / w)
    (placed : (l : List Float) (i : ℕ) → i < length l / w → f.mark_numbers (mark_at f l i) ≡ take w (drop (w * i) l)) where
  -- the numbers of a list's only mark are the list's
  own : (l : List Float) → all_within farthest l ≡ true → (m : K) → f.marks_of l ≡ m ∷ [] → all_within farthest (f.mark_numbers m) ≡ true
  unfolding mark_at
  own l pass m alone =
      let one : length l / w ≡ 1 = sym (counts l) ∙ ap length alone in
      let numbers : f.mark_numbers m ≡ take w (drop (w * 0) l) = ap (λ k. f.mark_numbers (get_or k 0 f.no_mark)) (sym alone) ∙ placed l 0 (omega (arith, one)) in
      rw numbers (front_within w (drop (w * 0) l) (behind farthest (w * 0) l pass))

  pub of_family : OfFamily f
  unfolding now numbered run_tests enough_tests options_tests opening_tests call_tests marks_order record_order trial_order indices_order ended unheld options_record thresh confidence iters ratio shape of_run
  of_family =
      record {
        opening = λ e o marks stops. changed f _ _ _ _ tt refl (own marks);
        record_opening = λ e bytes marks stops. changed f _ _ _ _ tt refl (own marks);
        trial = λ r c. changed f _ _ _ _ tt refl (own c.marks);
        trial_answers = trial_number f;
        indices = λ r marks places. changed f _ _ _ _ tt refl (own marks);
        indices_answers = indices_number f;
      }

without : AsBefore
unfolding marks_tests normalize_tests form_normalize_tests
without = record { normalizing = λ marks side places. refl; form_normalizing = λ marks places. refl; line = λ marks. refl }

pub order_7 : Order7
unfolding now numbered run_tests enough_tests options_tests opening_tests options_record camera_record records_tests thresh confidence iters ratio shape mark_bytes order_of later_tests whole_tests rows_tests form_rows_tests
order_7 =
    let of_sheet = own sheet 4 Sheets.counts Sheets.placed in
    let of_form = own form 5 Forms.counts Forms.placed in
    record {
      least = (refl, refl);
      sheets = of_family sheet 4 Sheets.counts Sheets.placed;
      forms = of_family form 5 Forms.counts Forms.placed;
      form_opening = λ options camera marks stops. changed form _ _ _ _ tt refl (of_form marks);
      whole_run = λ f winner indices. changed sheet _ _ _ _ tt refl (of_sheet (numbers_in 4 f.marks));
      rows = λ marks places. changed sheet _ _ _ _ tt refl (of_sheet marks);
      form_rows = λ marks places. changed form _ _ _ _ tt refl (of_form marks);
      without = without;
      cases = cases;
    }
