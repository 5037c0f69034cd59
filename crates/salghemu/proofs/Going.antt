-- The trials of a run, one after the other: what is read up to place i, and what the run still comes to. Assumes nothing.
use mathlib.Core.Path.{◌≡◌, refl, sym, ap, ◌∙◌}
use mathlib.Core.Bool.{Bool, true, false, cond}
use mathlib.Core.List.{List, [], ◌∷◌}
use Prim.Native.Nat.{ℕ, ◌+◌, ◌/◌, ◌≤◌, ◌<◌}
use native.Mathlib.Numerals.{add-one}
use borrow.Author.Tests.{le-leb, lt-leb}
use lib.ListN.{length, drop, get_or, length-map, get_or-map, drop_of_length-le}
use lib.Seq.{drop-cons}
use lib.Ieee.{Float}
use Rattle.std.specs.Prelude.{Ok}
use Rattle.std.specs.Simd.{first_chunks}
use Rattle.rule.specs.Answer.{Answer, refused, gives}
use Rattle.rule.specs.Order.{first_failed}
use Rattle.estimator.specs.Marks.{run_tests}
use Rattle.sheet.specs.Marks.{marks_of}
use Rattle.sheet.specs.Sheets.{sheet, no_camera}
use Rattle.sheet.specs.declared.model.Model.{Model}
use Rattle.sheet.specs.declared.model.Sheet.{Sheet}
use Rattle.book.specs.Score.{Judged}
use Rattle.book.specs.Book.{Book, Entered, entered, ended_at, has_ended, called, fresh}
use Rattle.book.specs.Calls.{tried, is_refusal, number_in}
use Rattle.book.specs.Rule.{Stopped, broken, run_over}
use Rattle.book.proofs.Along.{Counts, counts_fresh, counts_next, tried-called, called_open}
use Rattle.book.proofs.Runs.{run_out, run_late, run_on, run-broken}
use Rattle.fields.proofs.Reading.{parts_are}
use Rattle.records.specs.Options.{options_tests}
use Rattle.records.proofs.Formed.{few-iters}
use Rattle.records.specs.declared.options.RansacOptions.{RansacOptions}
use Rattle.judge.proofs.Ways.{judged_alike}
use Rattle.judge.specs.Judging.{rule_of, Call, judge_of, judge_tested}
use Rattle.pick.specs.Run.{Run, Booking, book_of, view_state}
use Rattle.pick.specs.Opening.{fresh_run}
use Rattle.pick.specs.Trial.{booking_of, step_booking, next_of}
use Rattle.pick.specs.declared.run_state.State.{State}
use Rattle.pick.proofs.Order.{tested as tests_alike}
use Rattle.salghemu.specs.Whole.{records_in, call_with, judged_in, stop_of, view_ran}

-- ---- what a step without an outcome says

next_refused : {E M : Type 0} (a : Booking E M) (k : ℕ) → refused k ≡ next_of a → (is_refusal a.outcome ≡ true) × (k ≡ number_in a.outcome)
unfolding next_of
next_refused a k h = go (is_refusal a.outcome) h
  where
    go : (b : Bool) → refused k ≡ cond b (refused (number_in a.outcome)) (gives a.run) → (b ≡ true) × (k ≡ number_in a.outcome)
    go true e = (refl, cc)
    go false e = cc

next_read : {E M : Type 0} (a : Booking E M) (r : Run E M) → gives r ≡ next_of a → (is_refusal a.outcome ≡ false) × (r ≡ a.run)
unfolding next_of
next_read a r h = go (is_refusal a.outcome) h
  where
    go : (b : Bool) → gives r ≡ cond b (refused (number_in a.outcome)) (gives a.run) → (b ≡ false) × (r ≡ a.run)
    go true e = cc
    go false e = (refl, cc)

-- ---- the records as the library cuts them

pub by_records : (o : RansacOptions) (l : List Float) (table trials : List ℕ) {parts : List (List ℕ)} → parts ≡ first_chunks 152 (length trials / 152) trials
    → {r : Stopped Model} → r ≡ stop_of o (length (marks_of l)) l table parts → r ≡ stop_of o (length (marks_of l)) l table (records_in trials)
unfolding records_in
by_records o l table trials cut h = h ∙ ap (stop_of o (length (marks_of l)) l table) (parts_are 152 trials cut)

-- ---- a run over marks l and stop entries `table`

module _ (o : RansacOptions) (l : List Float) (table : List ℕ) (parts : List (List ℕ)) where
  abbrev n : ℕ
  n = length (marks_of l)

  abbrev js : List (Judged Model)
  js = judged_in o n l table parts

  abbrev whole : Stopped Model
  whole = stop_of o n l table parts

  abbrev judged : List ℕ → Judged Model
  judged bytes = judge_of sheet no_camera o n (call_with l table bytes)

  js_count : length js ≡ length parts
  unfolding judged_in
  js_count = length-map parts judged

  js_from : (i : ℕ) → i < length parts → drop i js ≡ judged (get_or parts i []) ∷ drop (i + 1) js
  unfolding judged_in
  js_from i h = drop-cons js i (judged []) (rw js_count h) ∙ rw (get_or-map judged parts i [], add-one i)

  pub record Facts (i : ℕ) (s : State Sheet Model) : Type 0 where
    pub options : s.options ≡ o
    pub marks : s.n ≡ n
    pub counts : Counts (rule_of o) (book_of s)
    pub owed : run_over (rule_of o) (book_of s) (drop i js) ≡ whole

  -- The check shows a record field by field, and would not find the lemmas below by it.
  pub data Going (i : ℕ) (s : State Sheet Model) : Type 0 where
    so_far : Facts i s → Going i s

  facts_in : {i : ℕ} {s : State Sheet Model} → Going i s → Facts i s
  facts_in (so_far f) = f

  pub going_none : (s : State Sheet Model) → view_state s ≡ fresh_run no_camera o n → Going 0 s
  unfolding fresh_run stop_of
  going_none s e =
      let b : book_of s ≡ fresh (rule_of o) = ap (λ r. r.book) e in
      so_far (record {
        options = ap (λ r. r.options) e;
        marks = ap (λ r. r.n) e;
        counts = rw b (counts_fresh (rule_of o));
        owed = ap (λ x. run_over (rule_of o) x js) b;
      })

  module _ {i : ℕ} {s : State Sheet Model} (g : Going i s) where
    pub going_late : s.counts.bound ≤ s.counts.read → view_ran (Ok s) ≡ whole
    unfolding has_ended ended_at
    going_late h = run_late (rule_of o) (book_of s) (le-leb s.counts.bound s.counts.read h) (drop i js) ∙ (facts_in g).owed

    pub going_out : length parts ≤ i → view_ran (Ok s) ≡ whole
    going_out h = run_out (rule_of o) (book_of s) (drop i js) (let past : length js ≤ i = rw js_count h in drop_of_length-le js past) ∙ (facts_in g).owed

    module _ (valid : 0 ≡ first_failed (options_tests o)) (tested : 0 ≡ first_failed (run_tests sheet l)) (early : s.counts.read < s.counts.bound) (here : i < length parts) where
      abbrev bytes : List ℕ
      bytes = get_or parts i []

      abbrev next : Entered Model
      next = entered (rule_of o) (book_of s) (judged bytes)

      still : has_ended (book_of s) ≡ false
      unfolding has_ended ended_at
      still = lt-leb s.counts.bound s.counts.read early

      called_is : called (rule_of o) (book_of s) (judged bytes) ≡ next
      called_is = called_open (rule_of o) (book_of s) (judged bytes) still

      abbrev call : Call
      call = record { bytes = bytes; marks = l; stops = table }

      tried_is : tried (rule_of s.options) (book_of s) (judge_tested sheet s.estimator s.options s.n call) ≡ next
      unfolding call_with rule_of judge_tested judge_of
      tried_is =
          ap (λ (p : RansacOptions). tried (rule_of p) (book_of s) (judge_tested sheet no_camera p s.n call)) (facts_in g).options
          ∙ ap (λ (k : ℕ). tried (rule_of o) (book_of s) (judge_tested sheet no_camera o k call)) (facts_in g).marks
          ∙ ap (λ (j : Judged Model). tried (rule_of o) (book_of s) j) (judged_alike sheet no_camera o call _ _ (tests_alike sheet no_camera o n call (sym tested)))
          ∙ tried-called (rule_of o) (few-iters o (sym valid)) (book_of s) (judged bytes) (facts_in g).counts
          ∙ called_is

      owed_is : run_over (rule_of o) (book_of s) (judged bytes ∷ drop (i + 1) js) ≡ whole
      owed_is = ap (run_over (rule_of o) (book_of s)) (sym (js_from i here)) ∙ (facts_in g).owed

      module _ {a : Answer (Run Sheet Model)} (step : a ≡ next_of (step_booking sheet (view_state s) call)) where
        nexts : a ≡ next_of (booking_of (view_state s) next)
        unfolding step_booking
        nexts = step ∙ ap (λ (x : Entered Model). next_of (booking_of (view_state s) x)) tried_is

        pub going_broken : {k : ℕ} → a ≡ refused k → broken k ≡ whole
        going_broken {k} e =
            let told = next_refused (booking_of (view_state s) next) k (sym e ∙ nexts) in
            ap broken told.1 ∙ run-broken (rule_of o) (book_of s) still (drop (i + 1) js) (judged bytes) told.0 ∙ owed_is

        pub going_on : {t : State Sheet Model} → a ≡ gives (view_state t) → Going (i + 1) t
        going_on {t} e =
            let told = next_read (booking_of (view_state s) next) (view_state t) (sym e ∙ nexts) in
            let run = told.1 in
            let book : book_of t ≡ next.book = ap (λ (x : Run Sheet Model). x.book) run in
            so_far (record {
              options = ap (λ (x : Run Sheet Model). x.options) run ∙ (facts_in g).options;
              marks = ap (λ (x : Run Sheet Model). x.n) run ∙ (facts_in g).marks;
              counts = rw (book, ← called_is) (counts_next (rule_of o) (book_of s) (judged bytes) (facts_in g).counts);
              owed =
                  ap (λ (x : Book Model). run_over (rule_of o) x (drop (i + 1) js)) book
                  ∙ sym (run_on (rule_of o) (book_of s) still (drop (i + 1) js) (judged bytes) told.0)
                  ∙ owed_is;
            })

pub ruleset going = (going_none, going_late, going_out, going_on, going_broken, by_records)
