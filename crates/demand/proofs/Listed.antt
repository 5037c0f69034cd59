-- The calls of the third demand: after any list of them from an accepted opening. Assumes nothing.
use mathlib.Core.Path.{◌≡◌, sym, ap, subst, ◌∙◌}
use mathlib.Core.Bool.{cond}
use mathlib.Core.List.{List, ◌∷◌, ◌++◌, map}
use Prim.Native.Nat.{ℕ, ◌/◌, ◌^◌, ◌≤◌}
use native.Mathlib.Omega.{arith}
use lib.Dec.{T}
use lib.ListN.{length, get_or, take, drop}
use lib.Seq.{take_at, drop_at}
use lib.Ieee.{Float}
use Rattle.std.specs.Prelude.{Result, Ok}
use Rattle.rule.specs.declared.Refusal.{Refusal}
use Rattle.rule.specs.Answer.{gives, answered}
use Rattle.rule.specs.Order.{first_failed, decided, if_passed}
use Rattle.rule.specs.Arith.{clear}
use Rattle.rule.proofs.Order.{decided-gives, done, first_passed, decided-none}
use Rattle.rule.proofs.Views.{answered_one}
use Rattle.estimator.specs.Family.{Family, mark_at, distance_of, distances_of, inlier}
use Rattle.estimator.proofs.Tests.{few_marks}
use Rattle.book.specs.Score.{close, count_in, rms_in, Standing, scored}
use Rattle.book.specs.Book.{Winner, held, Book, Entered, fresh, book_after}
use Rattle.book.specs.Calls.{is_closed, tried, Called}
use Rattle.book.specs.Rule.{Kept}
use Rattle.book.proofs.Picked.{judge_own, judge_clear, kept_along, callable, winner_has}
use Rattle.records.specs.Options.{options_record, options_of}
use Rattle.records.specs.Trial.{trial_of}
use Rattle.records.specs.declared.options.RansacOptions.{RansacOptions}
use Rattle.score.specs.Places.{indices_in}
use Rattle.score.proofs.Walk.{indices_count}
use Rattle.measure.proofs.Squares.{distances-count, distance-at}
use Rattle.judge.specs.Judging.{rule_of, Call, call_tests, worth, judged_by, judge_of, beyond_by, judgement_of}
use Rattle.pick.specs.Run.{Run, Answer, view_best, book_of, view_state}
use Rattle.pick.specs.Opening.{opening_tests, fresh_run, opening_answer, record_answer}
use Rattle.pick.specs.Trial.{tried_with, trial_answer}
use Rattle.pick.specs.Indices.{marks_order, under_answer, under_after, winner_answer, winner_after, indices_answer, indices_after}
use Rattle.pick.specs.declared.run_state.State.{State}
use Rattle.judge.proofs.Left.{by_number}
use Rattle.pick.proofs.Order.{opened_iters, call_short}
use Rattle.pick.proofs.View.{state_onto, trial_onto}
use Rattle.pick.proofs.Accepted.{order_passes, steps_as_trial}
use Rattle.demand.specs.Demand.{OpensBy, Told, view_told, Tried, Stepped, Indexes, Opening, Carries, judged, CarriedBy, Exactly, IndicesGiven, AfterCalls, CallsKept}
use Rattle.demand.proofs.Placed.{places_exactly}

-- ---- the opening

module _ {E M K : Type 0} (f : Family E M K) (e : E) where
  pub opening-accepted : (o : RansacOptions) (marks : List Float) (stops : List ℕ) → first_failed (opening_tests f e o marks stops) ≡ 0 → (s₀ : State E M) × Opening f e o marks stops s₀
  unfolding opening_answer
  opening-accepted o marks stops h =
      let s = state_onto (fresh_run e o (length (f.marks_of marks))) in
      (s.0, ap gives s.1 ∙ decided-none (fresh_run e o (length (f.marks_of marks))) (sym h))

  -- by a record
  pub record_opens : (bytes : List ℕ) (marks : List Float) (stops : List ℕ) (s₀ : State E M) → OpensBy f e bytes marks stops (Ok s₀) → Opening f e (options_of bytes) marks stops s₀
  unfolding record_answer opening_answer options_record
  record_opens bytes marks stops s₀ opens =
      let d = decided-gives (first_failed (options_record bytes ∷ opening_tests f e (options_of bytes) marks stops)) opens in
      let p = first_passed (options_record bytes) (opening_tests f e (options_of bytes) marks stops) tt d.0 in
      ap gives d.1 ∙ decided-none (fresh_run e (options_of bytes) (length (f.marks_of marks))) (sym p.1)

module _ {E M K : Type 0} (f : Family E M K) (w : ℕ) (wide : 4 ≤ w) (counts : (l : List Float) → length (f.marks_of l) ≡ length l / w)
    (e : E) (o : RansacOptions) (marks : List Float) (stops : List ℕ) (s₀ : State E M) (opening : Opening f e o marks stops s₀)
  where
    abbrev n : ℕ
    n = length (f.marks_of marks)

    opened : (first_failed (opening_tests f e o marks stops) ≡ 0) × (view_state s₀ ≡ fresh_run e o n)
    unfolding opening_answer
    opened = decided-gives (first_failed (opening_tests f e o marks stops)) opening

    -- ---- a trial call, as the book's rule asks for it

    abbrev Of : State E M → Type 0
    Of s = (s.estimator ≡ e) × (s.options ≡ o) × (s.n ≡ n)

    of_opened : Of s₀
    unfolding fresh_run
    of_opened = (ap (λ (r : Run E M). r.estimator) opened.1, ap (λ (r : Run E M). r.options) opened.1, ap (λ (r : Run E M). r.n) opened.1)

    fresh_opened : book_of s₀ ≡ fresh (rule_of o)
    unfolding fresh_run
    fresh_opened = ap (λ (r : Run E M). r.book) opened.1

    entered_of : Answer E M → Entered M
    entered_of a = record { book = a.run.book; outcome = a.outcome }

    -- by the state's own options, n and family's value
    as_opened : (s : State E M) (c : Call) → Of s → trial_answer f (view_state s) c ≡ tried_with (view_state s) (judgement_of f e o n c)
    unfolding trial_answer
    as_opened s c of =
        ap (λ (x : E). tried_with (view_state s) (judgement_of f x s.options s.n c)) of.0
        ∙ ap (λ (p : RansacOptions). tried_with (view_state s) (judgement_of f e p s.n c)) of.1
        ∙ ap (λ (k : ℕ). tried_with (view_state s) (judgement_of f e o k c)) of.2

    step : (s t : State E M) (c : Call) (x : Told) → Of s → Tried f s c t x
        → Of t × ((record { book = book_of t; outcome = (view_told x).outcome } ≡ tried (rule_of o) (book_of s) (judge_of f e o n c)) × ((view_told x).beyond ≡ cond (is_closed (book_of s)) 0 (beyond_by f e (call_tests f n c) c)))
    unfolding view_told entered_of
    step s t c x of call =
        let a = call ∙ as_opened s c of in (
          (ap (λ (a : Answer E M). a.run.estimator) a ∙ of.0, ap (λ (a : Answer E M). a.run.options) a ∙ of.1, ap (λ (a : Answer E M). a.run.n) a ∙ of.2),
          (ap (λ (a : Answer E M). entered_of a) a ∙ ap (λ (p : RansacOptions). tried (rule_of p) (book_of s) (judge_of f e o n c)) of.1, ap (λ (a : Answer E M). a.beyond) a),
        )

    small : (rule_of o).most ≤ 100000
    unfolding rule_of
    small = opened_iters f e o marks stops opened.0

    -- a scored call passed its tests, and its worth is scored
    passed : (c : Call) (t : Standing M) → judge_of f e o n c ≡ scored t → (first_failed (call_tests f n c) ≡ 0) × (worth f e o c ≡ scored t)
    unfolding judge_of judged_by
    passed c t is = by_number (first_failed (call_tests f n c)) (worth f e o c) t is

    own-judged : (c : Call) (t : Standing M) → judge_of f e o n c ≡ scored t
        → (t.count ≡ count_in o.thresh (distances_of f e o.ratio c.marks t.model)) × (t.rms ≡ rms_in o.thresh (distances_of f e o.ratio c.marks t.model))
    unfolding worth rule_of
    own-judged c t is = judge_own (rule_of o) (distances_of f e o.ratio c.marks) c.stops (trial_of f c.bytes) t (passed c t is).1

    clear-rms : (c : Call) (t : Standing M) → judge_of f e o n c ≡ scored t → T (clear t.rms)
    unfolding worth
    clear-rms c t is =
        judge_clear (rule_of o) (distances_of f e o.ratio c.marks) c.stops (λ m. short m) (trial_of f c.bytes) t (passed c t is).1
      where
        short : (m : M) → length (distances_of f e o.ratio c.marks m) ≤ 2 ^ 53
        short m =
            let a = distances-count f e o.ratio c.marks m in
            let b = few_marks f w wide counts c.marks (call_short f n c (passed c t is).0) in
            omega (arith, a, b)

    -- ---- the indices from a state of the run

    module _ (s : State E M) (of : Of s) (won : Winner M) (holds : view_best s.winner ≡ held won) where
      module _ (l : List Float) where
        abbrev ds : List Float
        ds = distances_of f e o.ratio l won.model

        abbrev xs : List ℕ
        xs = indices_in o.thresh ds

        inlier-at : (i : ℕ) → close o.thresh (get_or ds i (distance_of f e o.ratio won.model f.no_mark)) ≡ inlier f e o.ratio won.model o.thresh (mark_at f l i)
        unfolding close inlier
        inlier-at i = rw (distance-at f e o.ratio l won.model i)

        exact : Exactly (length (f.marks_of l)) (λ i. inlier f e o.ratio won.model o.thresh (mark_at f l i)) xs
        unfolding indices_in
        exact =
            let x = places_exactly (close o.thresh) (distance_of f e o.ratio won.model f.no_mark) ds in
            let long = distances-count f e o.ratio l won.model in
            record {
              all = λ i h t. x.all i (rw long h) (inlier-at i ∙ t);
              no_others = λ i m. (rw (← long) (x.no_others i m).0, sym (inlier-at i) ∙ (x.no_others i m).1);
              ascending = x.ascending;
            }

        module _ (entry : List ℕ) where
          abbrev order : ℕ
          order = first_failed (marks_order f s.n l (length entry))

          answer_is : indices_answer f (view_state s) l entry ≡ decided order (length xs)
          unfolding indices_answer winner_answer under_answer
          answer_is = rw (holds, of.0, of.1)

          after_is : indices_after f (view_state s) l entry ≡ if_passed order (xs ++ drop (length xs) entry) entry
          unfolding indices_after winner_after under_after
          after_is = rw (holds, of.0, of.1)

          indices_exact : (after : List ℕ) (r : Result ℕ Refusal) → Indexes f s l entry r after → (k : ℕ) → r ≡ Ok k
              → Exactly (length (f.marks_of l)) (λ i. inlier f e o.ratio won.model o.thresh (mark_at f l i)) (take k after) × (drop k after ≡ drop k entry)
          indices_exact after r call k is =
              let d = decided-gives order (ap answered (sym is) ∙ call.answers ∙ answer_is) in
              let whole : after ≡ xs ++ drop (length xs) entry = call.leaves ∙ after_is ∙ sym (done (xs ++ drop (length xs) entry) entry (sym d.0)) in
              let front : take k after ≡ xs = ap (take k) whole ∙ take_at xs (drop (length xs) entry) k (sym d.1) in
              let back : drop k after ≡ drop k entry = ap (drop k) whole ∙ drop_at xs (drop (length xs) entry) k (sym d.1) ∙ ap (λ j. drop j entry) (sym d.1) in
              (subst (λ ys. Exactly (length (f.marks_of l)) (λ i. inlier f e o.ratio won.model o.thresh (mark_at f l i)) ys) (sym front) exact, back)

          -- where the order passes they are given
          given-all : 0 ≡ order → (after : List ℕ) (r : Result ℕ Refusal) → Indexes f s l entry r after → (r ≡ Ok (length xs)) × (after ≡ xs ++ drop (length xs) entry)
          given-all pass after r call =
              (answered_one r (Ok (length xs)) (call.answers ∙ answer_is ∙ sym (decided-none (length xs) pass)), call.leaves ∙ after_is ∙ sym (done (xs ++ drop (length xs) entry) entry pass))

      -- over the opening's marks they are given
      pub given_as : (entry after : List ℕ) (r : Result ℕ Refusal) → Indexes f s marks entry r after → n ≤ length entry
          → (r ≡ Ok (length (indices_in o.thresh (distances_of f e o.ratio marks won.model)))) × (after ≡ indices_in o.thresh (distances_of f e o.ratio marks won.model) ++ drop (length (indices_in o.thresh (distances_of f e o.ratio marks won.model))) entry)
      given_as entry after r call room_for = given-all marks entry (order_passes f e o marks stops s₀ opening s.n (length entry) of.2 room_for) after r call

      indices_of : won.count ≡ count_in o.thresh (distances_of f e o.ratio marks won.model) → IndicesGiven f e o marks s won
      indices_of own =
          record {
            written = λ entry after r call room_for. (given_as entry after r call room_for).0 ∙ ap Ok (indices_count o.thresh (distances_of f e o.ratio marks won.model) ∙ sym own);
            given = λ l entry after r call k is. indices_exact l entry after r call k is;
          }

    -- ---- after a list of calls

    pub after_list : (s : State E M) (calls : List Call) (answers : List Told) → Called (Tried f) s₀ calls answers s → Of s × Kept (rule_of o) (judgement_of f e o n) calls (map view_told answers) (book_of s)
    after_list s calls answers chain = kept_along (Tried f) book_of view_told (rule_of o) (judgement_of f e o n) Of step small clear-rms s₀ s calls answers of_opened fresh_opened chain

    own_of : (c : Call) → Carries marks stops c → (t : Standing M) → judge_of f e o n c ≡ scored t
        → (t.count ≡ count_in o.thresh (distances_of f e o.ratio marks t.model)) × (t.rms ≡ rms_in o.thresh (distances_of f e o.ratio marks t.model))
    own_of c good t is = subst (λ (l : List Float). (t.count ≡ count_in o.thresh (distances_of f e o.ratio l t.model)) × (t.rms ≡ rms_in o.thresh (distances_of f e o.ratio l t.model))) good.same_marks (own-judged c t is)

    -- the state's winner is the book's
    winner_of : (s : State E M) (calls : List Call) → book_of s ≡ book_after (rule_of o) (fresh (rule_of o)) (judged f e o marks calls) → (won : Winner M) → view_best s.winner ≡ held won
        → (book_after (rule_of o) (fresh (rule_of o)) (judged f e o marks calls)).winner ≡ held won
    winner_of s calls is won h = ap (λ (b : Book M). b.winner) (sym is) ∙ h

    abbrev Own : M → ℕ → Float → Type 0
    Own m k x = (k ≡ count_in o.thresh (distances_of f e o.ratio marks m)) × (x ≡ rms_in o.thresh (distances_of f e o.ratio marks m))

    pub calls_after : (s : State E M) (calls : List Call) (answers : List Told) → Called (Tried f) s₀ calls answers s → CarriedBy f e o marks stops calls → AfterCalls f e o marks calls answers s
    calls_after s calls answers chain carried =
        record {
          of_opening = listed.0;
          kept = listed.1;
          own = own;
          indices = λ won h. indices_of s listed.0 won h (own won h).0;
        }
      where
        listed : Of s × Kept (rule_of o) (judgement_of f e o n) calls (map view_told answers) (book_of s)
        listed = after_list s calls answers chain

        own : (won : Winner M) → view_best s.winner ≡ held won → Own won.model won.count won.rms
        own won h = winner_has (rule_of o) (judge_of f e o n) (Carries marks stops) Own own_of calls carried won (winner_of s calls listed.1.booked won h)

    -- a trial without tests 6 and 18
    pub stepped_tried : (s t : State E M) (c : Call) (x : Told) → c.marks ≡ marks → Stepped f s c t x → Tried f s c t x
    stepped_tried s t c x same h = h ∙ steps_as_trial f e o marks stops s₀ opening s c same

-- ---- every call has an answer

pub calls_answered : {E M K : Type 0} (f : Family E M K) (s : State E M) (calls : List Call) → (z : State E M) × ((answers : List Told) × Called (Tried f) s calls answers z)
calls_answered f = callable (Tried f) answering
  where
    answering : (s : State _ _) (c : Call) → (t : State _ _) × ((x : Told) × Tried f s c t x)
    answering s c = let t = trial_onto f (view_state s) c in (t.0.state, (record { outcome = t.0.outcome; beyond = t.0.beyond }, t.1))

-- ---- what the demand says of calls

pub calls_kept : {E M K : Type 0} (f : Family E M K) (w : ℕ) → 4 ≤ w → ((l : List Float) → length (f.marks_of l) ≡ length l / w) → CallsKept f
calls_kept f w wide counts =
    record {
      after_calls = λ e o marks stops s₀ s calls answers opening chain carried. calls_after f w wide counts e o marks stops s₀ opening s calls answers chain carried;
      openable = λ e. opening-accepted f e;
      callable = calls_answered f;
      by_record = λ e. record_opens f e;
      by_steps = λ e o marks stops s₀ s t c x opening same h. stepped_tried f w wide counts e o marks stops s₀ opening s t c x same h;
    }
