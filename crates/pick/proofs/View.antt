-- The views of the state and of what the calls answer tell any two values apart, so a contract on the view fixes the answer. A state's view leaves nothing
-- out besides, and each answer that a trial's contract asks for can be had. Assumes nothing.
use mathlib.Core.Path.{◌≡◌, refl, sym, ap, ◌∙◌}
use mathlib.Core.Logic.{◌⊎◌, inl, inr}
use mathlib.Core.Bool.{Bool, true, false, ◌&&◌, ◌||◌, cond}
use mathlib.Core.List.{List, [], ◌∷◌}
use Prim.Native.Nat.{ℕ, zero, suc}
use native.Mathlib.Omega.{arith}
use borrow.Author.Tests.{eqb-true}
use lib.Dec.{T, ltb, eqb}
use lib.Ieee.{Float}
use lib.Ieee.Fits.{and_l, and_r}
use Rattle.std.specs.Prelude.{Option, Some, None, Result, Ok, Err}
use Rattle.rule.specs.declared.Refusal.{Refusal}
use Rattle.rule.specs.declared.Refusal.TheVariants as Refusals
use Rattle.rule.specs.Refusal.{number_of}
use Rattle.rule.specs.Answer.{Answer as Answering, refused, gives, answered}
use Rattle.rule.specs.Order.{Test, first_failed, if_passed}
use Rattle.rule.proofs.Views.{told_apart, told_one, answered_one}
use Rattle.estimator.specs.Family.{Family}
use Rattle.estimator.specs.Marks.{shape, point, double, few, of_run, entries, enough_tests, run_tests}
use Rattle.book.specs.Score as Score
use Rattle.book.specs.Score.{Judged, turned_down, Trial, unfitted, fitted, refitted, judged_by, judge_trial}
use Rattle.book.specs.Book as Book
use Rattle.book.specs.Book.{scored_answer, entered}
use Rattle.book.specs.Calls.{is_closed, tried}
use Rattle.records.specs.Trial.{trial_record, trial_of}
use Rattle.records.specs.declared.options.RansacOptions.{RansacOptions}
use Rattle.judge.specs.Judging.{rule_of, Call, call_tests, worth, judged_by as byTests, judge_of}
use Rattle.pick.specs.Run.{Run, view_best, view_state, view_outcome, view_tried, OneState}
use Rattle.pick.specs.Trial.{trial_answer}
use Rattle.pick.specs.declared.run_state.Winner.{Winner}
use Rattle.pick.specs.declared.run_state.State.{State}
use Rattle.pick.specs.declared.run_state.Outcome.{Outcome}
use Rattle.pick.specs.declared.run_state.Outcome.TheVariants as Outcomes
use Rattle.pick.specs.declared.run_state.Tried.{Tried}

-- ---- the winner

best_of : {M : Type 0} → Book.Held M → Option (Winner M)
best_of Book.none = None
best_of (Book.held w) = Some (record { model = w.model; count = w.count; rms = w.rms; number = w.number })

best_back : {M : Type 0} (b : Option (Winner M)) → best_of (view_best b) ≡ b
unfolding best_of
best_back None = refl
best_back (Some w) = refl

best_there : {M : Type 0} (h : Book.Held M) → view_best (best_of h) ≡ h
unfolding best_of
best_there Book.none = refl
best_there (Book.held w) = refl

-- ---- the state

state_of : {E M : Type 0} → Run E M → State E M
state_of r =
    record {
      estimator = r.estimator;
      options = r.options;
      n = r.n;
      counts = record { read = r.book.read; empty = r.book.empties; few = r.book.fews; scored = r.book.scores; bound = r.book.bound };
      winner = best_of r.book.winner;
    }

state_back : {E M : Type 0} (s : State E M) → state_of (view_state s) ≡ s
unfolding state_of
state_back s = rw (best_back s.winner)

state_there : {E M : Type 0} (r : Run E M) → view_state (state_of r) ≡ r
unfolding state_of
state_there r = rw (best_there r.book.winner)

state_one : {E M : Type 0} (x y : State E M) → view_state x ≡ view_state y → x ≡ y
state_one = told_apart view_state state_of state_back

pub state_onto : {E M : Type 0} (r : Run E M) → (s : State E M) × (view_state s ≡ r)
state_onto r = (state_of r, state_there r)

-- ---- a trial's outcome

-- A refused one apart from the others, as the code's `Result` has it.
apart : Outcome → Result Book.Outcome Refusal
apart (Outcomes.Refused e) = Err e
apart Outcomes.Empty = Ok Book.is_empty
apart (Outcomes.Few k) = Ok (Book.is_few k)
apart (Outcomes.Held k q) = Ok (Book.is_held k q)
apart (Outcomes.Won k q) = Ok (Book.is_won k q)

outcome_of : Result Book.Outcome Refusal → Outcome
outcome_of (Err e) = Outcomes.Refused e
outcome_of (Ok (Book.is_refused k)) = Outcomes.Empty
outcome_of (Ok Book.is_empty) = Outcomes.Empty
outcome_of (Ok (Book.is_few k)) = Outcomes.Few k
outcome_of (Ok (Book.is_held k q)) = Outcomes.Held k q
outcome_of (Ok (Book.is_won k q)) = Outcomes.Won k q

outcome_back : (x : Outcome) → outcome_of (apart x) ≡ x
unfolding outcome_of apart
outcome_back (Outcomes.Refused e) = refl
outcome_back Outcomes.Empty = refl
outcome_back (Outcomes.Few k) = refl
outcome_back (Outcomes.Held k q) = refl
outcome_back (Outcomes.Won k q) = refl

answering : Book.Outcome → Answering Book.Outcome
answering (Book.is_refused k) = refused k
answering Book.is_empty = gives Book.is_empty
answering (Book.is_few k) = gives (Book.is_few k)
answering (Book.is_held k q) = gives (Book.is_held k q)
answering (Book.is_won k q) = gives (Book.is_won k q)

answers : (x : Outcome) → answered (apart x) ≡ answering (view_outcome x)
unfolding answering apart
answers (Outcomes.Refused e) = refl
answers Outcomes.Empty = refl
answers (Outcomes.Few k) = refl
answers (Outcomes.Held k q) = refl
answers (Outcomes.Won k q) = refl

outcome-one : (x y : Outcome) → view_outcome x ≡ view_outcome y → x ≡ y
outcome-one x y h = told_apart apart outcome_of outcome_back x y (answered_one (apart x) (apart y) (answers x ∙ ap answering h ∙ sym (answers y)))

-- ---- a trial's answer, and all of them

tried-one : {E M : Type 0} (x y : Tried E M) → view_tried x ≡ view_tried y → x ≡ y
tried-one x y h =
    let s : x.state ≡ y.state = state_one x.state y.state (ap (λ a. a.run) h) in
    let o : x.outcome ≡ y.outcome = outcome-one x.outcome y.outcome (ap (λ a. a.outcome) h) in
    let k : x.beyond ≡ y.beyond = ap (λ a. a.beyond) h in
    λ i. record { state = s i; outcome = o i; beyond = k i }

pub answer_one : {E M : Type 0} → OneState E M
answer_one = record { state = state_one; given = told_one view_state state_of state_back; tried = tried-one }

-- ---- each answer that a trial's contract asks for can be had

-- it is refused by one of the numbers, or not refused
unfoldable Nameable : {M : Type 0} → Judged M → Type 0
Nameable (turned_down k) = (e : Refusal) × (number_of e ≡ k)
Nameable Score.empty = Unit {0}
Nameable (Score.few k) = Unit {0}
Nameable (Score.scored s) = Unit {0}

module _ {M : Type 0} (o : Score.Options) (b : Book.Book M) where
  abbrev Had : Book.Outcome → Type 0
  Had x = (y : Outcome) × (view_outcome y ≡ x)

  scored_had : (s : Score.Standing M) (h : Book.Held M) → Had (scored_answer s h)
  unfolding scored_answer
  scored_had s h = go (Book.beats s h)
    where
      go : (c : Bool) → Had (cond c (Book.is_won s.count s.rms) (Book.is_held s.count s.rms))
      go true = (Outcomes.Won s.count s.rms, refl)
      go false = (Outcomes.Held s.count s.rms, refl)

  entered_had : (j : Judged M) → Nameable j → Had (entered o b j).outcome
  unfolding entered Nameable
  entered_had (turned_down k) n = (Outcomes.Refused n.0, ap Book.is_refused n.1)
  entered_had Score.empty n = (Outcomes.Empty, refl)
  entered_had (Score.few k) n = (Outcomes.Few k, refl)
  entered_had (Score.scored s) n = scored_had s b.winner

  tried_had : (j : Judged M) → Nameable j → Had (tried o b j).outcome
  unfolding tried
  tried_had j n = go (is_closed b)
    where
      go : (c : Bool) → Had (cond c (record { book = b; outcome = Book.is_refused (number_of Refusals.Ended) }) (entered o b j)).outcome
      go true = (Outcomes.Refused Refusals.Ended, refl)
      go false = entered_had j n

-- the refusals that a call's tests give, in any order
refusals : List Refusal
refusals = Refusals.Record ∷ Refusals.Shape ∷ Refusals.Point ∷ Refusals.Few ∷ Refusals.Stops ∷ Refusals.Double ∷ []

one_of : List Refusal → ℕ → Bool
one_of [] k = false
one_of (e ∷ es) k = eqb (number_of e) k || one_of es k

refusal_of : (es : List Refusal) (k : ℕ) → T (one_of es k) → (e : Refusal) × (number_of e ≡ k)
unfolding one_of
refusal_of [] k h = absurd h
refusal_of (e ∷ es) k h = go (λ r. refusal_of es k r) (eqb (number_of e) k) refl h
  where
    go : (T (one_of es k) → (d : Refusal) × (number_of d ≡ k)) → (b : Bool) → eqb (number_of e) k ≡ b → T (b || one_of es k) → (d : Refusal) × (number_of d ≡ k)
    go others true same g = (e, eqb-true (number_of e) k same)
    go others false same g = others g

-- each test's number is one of theirs
all_of : List Test → Bool
all_of [] = true
all_of (t ∷ ts) = one_of refusals t.number && all_of ts

-- so the number of the first that fails is
abbrev Fails : ℕ → Type 0
Fails k = (k ≡ 0) ⊎ ((e : Refusal) × (number_of e ≡ k))

fails_of : (ts : List Test) → T (all_of ts) → Fails (first_failed ts)
unfolding first_failed all_of
fails_of [] h = inl refl
fails_of (t ∷ ts) h = go t.fails (fails_of ts (and_r (one_of refusals t.number) (all_of ts) h))
  where
    go : (b : Bool) → Fails (first_failed ts) → Fails (cond b t.number (first_failed ts))
    go true others = inr (refusal_of refusals t.number (and_l (one_of refusals t.number) (all_of ts) h))
    go false others = others

call_fails : {E M K : Type 0} (f : Family E M K) (n : ℕ) (c : Call) → Fails (first_failed (call_tests f n c))
unfolding all_of one_of refusals call_tests run_tests enough_tests of_run shape point double few entries trial_record
call_fails f n c = fails_of (call_tests f n c) tt

-- a record that is read is worth no refusal
module _ {M : Type 0} (o : Score.Options) (distances : M → List Float) (stops : List ℕ) where
  by_fit : (fit stands : M) → Nameable (judged_by o distances stops fit stands)
  unfolding judged_by Nameable
  by_fit fit stands = go (ltb (Score.count_under o distances stops fit) o.least)
    where
      go : (b : Bool) → Nameable (cond b (Score.few (Score.count_under o distances stops fit)) (Score.scored (Score.standing o distances stops stands)))
      go true = tt
      go false = tt

  by_trial : (t : Trial M) → Nameable (judge_trial o distances stops t)
  unfolding judge_trial Nameable
  by_trial unfitted = tt
  by_trial (fitted fit) = by_fit fit fit
  by_trial (refitted fit refit) = by_fit fit _

judged_nameable : {E M K : Type 0} (f : Family E M K) (e : E) (o : RansacOptions) (n : ℕ) (c : Call) → Nameable (judge_of f e o n c)
unfolding judge_of byTests worth if_passed Nameable
judged_nameable f e o n c = go (first_failed (call_tests f n c)) (call_fails f n c)
  where
    go : (k : ℕ) → Fails k → Nameable (if_passed k (worth f e o c) (turned_down k))
    go zero x = by_trial (rule_of o) _ c.stops (trial_of f c.bytes)
    go (suc k) (inl z) = absurd (omega (arith, z))
    go (suc k) (inr x) = x

pub trial_onto : {E M K : Type 0} (f : Family E M K) (r : Run E M) (c : Call) → (t : Tried E M) × (view_tried t ≡ trial_answer f r c)
unfolding trial_answer
trial_onto f r c =
    let a = trial_answer f r c in
    let x = tried_had (rule_of r.options) r.book (judge_of f r.estimator r.options r.n c) (judged_nameable f r.estimator r.options r.n c) in
    (record { state = state_of a.run; outcome = x.0; beyond = a.beyond }, λ i. record { run = state_there a.run i; outcome = x.1 i; beyond = a.beyond })
