-- Demand 3, for any family of states, calls and answers.
--
-- `picking_rule`: of the book alone, where no root mean square that is scored is a NaN or negative. `kept_along`: after any list of calls from an opening, each handed the state that the last gave
-- back, every answer, and the state's winner, counts and bound, are the book's, so the rule holds of them.
-- `winner_has`: what every scored trial with the right marks and stops has, the book's winner has; its count and rms are its model's own (`judge_own`).
-- `callable`: where every call has an answer, every list of calls has its answers, and a state at the end.
-- `run_exact`: the whole run reads exactly to the bound, the end, or a trial refused before either.
--
-- A family gives `step`, that each call does what the book's does by the family's own `judge`, and `clear-rms`, which is `judge_clear`. Assumes nothing.
use mathlib.Core.Path.{◌≡◌, refl, sym, subst, ap, ap₂, ◌∙◌}
use mathlib.Core.Bool.{Bool, true, false, not, cond}
use mathlib.Core.Logic.{◌⊎◌, inl, inr, ⊎_elim}
use mathlib.Core.List.{List, [], ◌∷◌, map}
use Prim.Native.Nat.{ℕ, suc, ◌^◌, ◌≤◌, ◌<◌, zero-le}
use native.Mathlib.Nat.{zero-lt-suc}
use native.Mathlib.Omega.{arith}
use lib.Dec.{T, ltb}
use lib.ListN.{length, get_or, take}
use lib.Ieee.{Float}
use Rattle.rule.specs.Arith.{clear}
use Rattle.rule.specs.Lists.{every}
use Rattle.rule.specs.Refusal.{ENDED}
use Rattle.book.specs.Score.{Options, Trial, unfitted, fitted, refitted, count_in, rms_in, Standing, Judged, turned_down, empty, few, scored, Judgement, count_under, standing, judged_by, stands_of, judge_trial}
use Rattle.book.specs.Book.{Winner, Held, none, held, Book, Answer, is_refused, is_won, is_held, beats, winner_after, scored_answer, entered, has_ended, called, fresh, book_after, outcomes_of, answers_of}
use Rattle.book.specs.Calls.{is_closed, tried, Called, no_call, then, is_refusal, Carried}
use Rattle.book.specs.Rule.{Among, first, later, Kept, PickingRule, Stopped, stopped, broken, run_over, RunExact}
use Rattle.book.proofs.Clear.{rms-clear}
use Rattle.book.proofs.Along.{called_open, Counts, counts_fresh, counts_next, counts_after, same_end, tried-called, ClearCall, ClearCalls, picked_after}

-- ---- what one trial is worth

module _ {M : Type 0} (o : Options) (distances : M → List Float) (stops : List ℕ) where
  -- the count and the rms are those of the model's own distances
  abbrev Own : Standing M → Type 0
  Own s = (s.count ≡ count_in o.thresh (distances s.model)) × (s.rms ≡ rms_in o.thresh (distances s.model))

  own-judged : (fit stands : M) (s : Standing M) → judged_by o distances stops fit stands ≡ scored s → Own s
  unfolding judged_by standing count_under
  own-judged fit stands s = go (ltb (count_under o distances stops fit) o.least)
    where
      go : (b : Bool) → cond b (few (count_under o distances stops fit)) (scored (standing o distances stops stands)) ≡ scored s → Own s
      go true e = cc
      go false e = let q : standing o distances stops stands ≡ s = cc in subst Own q (refl, refl)

  pub judge_own : (t : Trial M) (s : Standing M) → judge_trial o distances stops t ≡ scored s
      → (s.count ≡ count_in o.thresh (distances s.model)) × (s.rms ≡ rms_in o.thresh (distances s.model))
  unfolding judge_trial
  judge_own unfitted s e = cc
  judge_own (fitted fit) s e = own-judged fit fit s e
  judge_own (refitted fit refit) s e = own-judged fit (stands_of o distances stops fit refit) s e

  pub judge_clear : ((m : M) → length (distances m) ≤ 2 ^ 53) → (t : Trial M) (s : Standing M) → judge_trial o distances stops t ≡ scored s → T (clear s.rms)
  judge_clear short t s e = rw (judge_own t s e).1 (rms-clear o.thresh (distances s.model) (short s.model))

-- ---- a list of calls, by the book

-- the outcomes of the answers are the book's outcomes
pub outcomes_of_lem : {C M : Type 0} (o : Options) (judge : C → Judgement M) (b : Book M) (cs : List C)
    → map (λ a. a.outcome) (answers_of o b (map judge cs)) ≡ outcomes_of o b (map (λ c. (judge c).worth) cs)
unfolding answers_of outcomes_of
outcomes_of_lem o judge b [] = refl
outcomes_of_lem o judge b (c ∷ cs) = rw (outcomes_of_lem o judge (called o b (judge c).worth).book cs)

clear-call : {M : Type 0} (j : Judged M) → ((s : Standing M) → j ≡ scored s → T (clear s.rms)) → ClearCall j
clear-call (turned_down k) h = tt
clear-call empty h = tt
clear-call (few count) h = tt
clear-call (scored s) h = h s refl

clear_calls : {C M : Type 0} (judge : C → Judgement M) (cs : List C) → ((c : C) → Among c cs → (s : Standing M) → (judge c).worth ≡ scored s → T (clear s.rms))
    → ClearCalls (map (λ c. (judge c).worth) cs)
clear_calls judge [] h = tt
clear_calls judge (c ∷ cs) h = (clear-call (judge c).worth (h c first), clear_calls judge cs (λ d p. h d (later p)))

pub picking_rule : {C M : Type 0} → PickingRule C M
picking_rule {C} o judge cs clears =
    let worths = map (λ (c : C). (judge c).worth) cs in
    record {
      answered = refl;
      booked = refl;
      counted = (counts_after o worths (fresh o) (counts_fresh o)).counted;
      picked = rw (outcomes_of_lem o judge (fresh o) cs) (picked_after o worths (clear_calls judge cs clears));
    }

-- ---- a list of calls, by states

same_answer : {x y : Answer} → x.outcome ≡ y.outcome → x.beyond ≡ y.beyond → x ≡ y
same_answer p q = ap₂ (λ k n. record { outcome = k; beyond = n }) p q

module _ {S C A M : Type 0} (Tried : S → C → S → A → Type 0) (book : S → Book M) (view : A → Answer) (o : Options) (judge : C → Judgement M)
    (Run : S → Type 0)
    (step : (s t : S) (c : C) (a : A) → Run s → Tried s c t a
    → Run t × ((record { book = book t; outcome = (view a).outcome } ≡ tried o (book s) (judge c).worth) × ((view a).beyond ≡ cond (is_closed (book s)) 0 (judge c).beyond)))
  where
    abbrev worth : C → Judged M
    worth c = (judge c).worth

    record Followed (s z : S) (cs : List C) (answers : List A) : Type 0 where
      runs : Run z
      answered : map view answers ≡ answers_of o (book s) (map judge cs)
      booked : book z ≡ book_after o (book s) (map worth cs)

    -- the answer that a call has by the book
    answer_by : Book M → C → Answer
    answer_by b c = record { outcome = (called o b (worth c)).outcome; beyond = cond (has_ended b) 0 (judge c).beyond }

    followed : (s t z : S) (c : C) (a : A) (cs : List C) (rest : List A) → book t ≡ (called o (book s) (worth c)).book → view a ≡ answer_by (book s) c
        → Followed t z cs rest → Followed s z (c ∷ cs) (a ∷ rest)
    unfolding answers_of book_after answer_by
    followed s t z c a cs rest b g f = record { runs = f.runs; answered = rw (f.answered, b, g); booked = f.booked ∙ ap (λ x. book_after o x (map worth cs)) b }

    module _ (small : o.most ≤ 100000) where
      follow : {s z : S} {cs : List C} {answers : List A} → Run s → Counts o (book s) → Called Tried s cs answers z → Followed s z cs answers
      unfolding answers_of book_after answer_by
      follow run k no_call = record { runs = run; answered = refl; booked = refl }
      follow run k (then {s = s} {t = t} {z = z} {c = c} {a = a} {cs = cs} {rest = rest} tr more) =
          let n = step s t c a run tr in
          let e = n.1.0 ∙ tried-called o small (book s) (worth c) k in
          let b : book t ≡ (called o (book s) (worth c)).book = ap (λ x. x.book) e in
          let x : (view a).outcome ≡ (called o (book s) (worth c)).outcome = ap (λ x. x.outcome) e in
          let y : (view a).beyond ≡ cond (has_ended (book s)) 0 (judge c).beyond = n.1.1 ∙ ap (λ t. cond t 0 (judge c).beyond) (same_end o small (book s) k) in
          let g : view a ≡ answer_by (book s) c = same_answer x y in
          let k' : Counts o (book t) = subst (Counts o) (sym b) (counts_next o (book s) (worth c) k) in
          followed s t z c a cs rest b g (follow n.0 k' more)

      pub kept_along : ((c : C) (s : Standing M) → (judge c).worth ≡ scored s → T (clear s.rms)) → (s₀ z : S) (cs : List C) (answers : List A) → Run s₀ → book s₀ ≡ fresh o
          → Called Tried s₀ cs answers z → Run z × Kept o judge cs (map view answers) (book z)
      kept_along clear-rms s₀ z cs answers run opened calls =
          let f = follow run (rw opened (counts_fresh o)) calls in
          let b : book z ≡ book_after o (fresh o) (map worth cs) = f.booked ∙ ap (λ x. book_after o x (map worth cs)) opened in
          let g : map view answers ≡ answers_of o (fresh o) (map judge cs) = f.answered ∙ ap (λ x. answers_of o x (map judge cs)) opened in
          (f.runs, rw (b, g) (picking_rule o judge cs (λ c p. clear-rms c)))

-- ---- where every call has an answer, every list of calls has its answers

module _ {S C A : Type 0} (Tried : S → C → S → A → Type 0) (answered : (s : S) (c : C) → (t : S) × ((a : A) × Tried s c t a)) where
  pub callable : (s : S) (cs : List C) → (z : S) × ((answers : List A) × Called Tried s cs answers z)
  callable s [] = (s, ([], no_call))
  callable s (c ∷ cs) =
      let f = answered s c in
      let r = callable f.0 cs in
      (r.0, (f.1.0 ∷ r.1.0, then f.1.1 r.1.1))

-- ---- what the winner has

module _ {C M : Type 0} (o : Options) (judge : C → Judged M) (Good : C → Type 0) (P : M → ℕ → Float → Type 0)
    (own : (c : C) → Good c → (s : Standing M) → judge c ≡ scored s → P s.model s.count s.rms)
  where
    abbrev Has : Held M → Type 0
    Has none = Unit {0}
    Has (held w) = P w.model w.count w.rms

    has_scored : (c : C) (s : Standing M) → judge c ≡ scored s → (number : ℕ) (before : Held M) → Has before
        → (is_refusal (scored_answer s before) ≡ false → Good c) → Has (winner_after s number before)
    unfolding winner_after scored_answer is_refusal
    has_scored c s e number before h good = go (beats s before) good
      where
        go : (t : Bool) → (is_refusal (cond t (is_won s.count s.rms) (is_held s.count s.rms)) ≡ false → Good c)
            → Has (cond t (held (record { model = s.model; count = s.count; rms = s.rms; number = number })) before)
        go true g = own c (g refl) s e
        go false g = h

    has_entered : (c : C) (b : Book M) (j : Judged M) → judge c ≡ j → Has b.winner → (is_refusal (entered o b j).outcome ≡ false → Good c) → Has (entered o b j).book.winner
    unfolding entered
    has_entered c b (turned_down k) e h good = h
    has_entered c b empty e h good = h
    has_entered c b (few count) e h good = h
    has_entered c b (scored s) e h good = has_scored c s e (suc b.read) b.winner h good

    has_called : (c : C) (b : Book M) → Has b.winner → (is_refusal (called o b (judge c)).outcome ≡ false → Good c) → Has (called o b (judge c)).book.winner
    unfolding called
    has_called c b h good = go (has_ended b) good
      where
        go : (t : Bool) → (is_refusal (cond t (record { book = b; outcome = is_refused ENDED }) (entered o b (judge c))).outcome ≡ false → Good c)
            → Has (cond t (record { book = b; outcome = is_refused ENDED }) (entered o b (judge c))).book.winner
        go true g = h
        go false g = has_entered c b (judge c) refl h g

    has_after : (cs : List C) (b : Book M) → Has b.winner → Carried Good cs (outcomes_of o b (map judge cs)) → Has (book_after o b (map judge cs)).winner
    unfolding outcomes_of book_after
    has_after [] b h carried = h
    has_after (c ∷ cs) b h (Carried.then good goods) = has_after cs (called o b (judge c)).book (has_called c b h good) goods

    pub winner_has : (cs : List C) → Carried Good cs (outcomes_of o (fresh o) (map judge cs)) → (w : Winner M) → (book_after o (fresh o) (map judge cs)).winner ≡ held w
        → P w.model w.count w.rms
    unfolding fresh
    winner_has cs carried w e = subst Has e (has_after cs (fresh o) tt carried)

-- ---- the whole run

module _ {M : Type 0} (o : Options) where
  -- `ReadTo` from any book
  record ReadFrom (b : Book M) (calls : List (Judged M)) (result : Stopped M) (read : ℕ) : Type 0 where
    inside : read ≤ length calls
    accepted : every (λ a. not (is_refusal a)) (outcomes_of o b (take read calls)) ≡ true
    ends :
        (((has_ended (book_after o b (take read calls)) ≡ true) ⊎ (read ≡ length calls)) × (result ≡ stopped (book_after o b (take read calls))))
        ⊎ ((has_ended (book_after o b (take read calls)) ≡ false) × (read < length calls) × ((k : ℕ) × ((get_or calls read empty ≡ turned_down k) × (result ≡ broken k))))

  at_end : (b : Book M) → ReadFrom b [] (run_over o b []) 0
  unfolding outcomes_of book_after run_over
  at_end b = record { inside = zero-le; accepted = refl; ends = inl (inr refl, refl) }

  at_bound : (b : Book M) (calls : List (Judged M)) → has_ended b ≡ true → ReadFrom b calls (stopped b) 0
  unfolding outcomes_of book_after
  at_bound b calls h = record { inside = zero-le; accepted = refl; ends = inl (inl h, refl) }

  at-refused : (b : Book M) (k : ℕ) (js : List (Judged M)) → has_ended b ≡ false → ReadFrom b (turned_down k ∷ js) (broken k) 0
  unfolding outcomes_of book_after
  at-refused b k js h = record { inside = zero-le; accepted = refl; ends = inr (h, zero-lt-suc (length js), (k, (refl, refl))) }

  one_more : (b : Book M) (j : Judged M) (js : List (Judged M)) (result : Stopped M) (read : ℕ) → has_ended b ≡ false → is_refusal (entered o b j).outcome ≡ false
      → ReadFrom (entered o b j).book js result read → ReadFrom b (j ∷ js) result (suc read)
  unfolding outcomes_of book_after
  one_more b j js result read h a r = record {
    inside = let i = r.inside in omega arith;
    accepted = rw (called_open o b j h, a) r.accepted;
    ends = rw (book_after, called_open o b j h) (⊎_elim (λ e. inl (⊎_elim (λ x. inl x) (λ x. inr (ap suc x)) e.0, e.1)) (λ e. inr (e.0, (let l = e.1 in omega arith), e.2)) r.ends);
  }

  -- not ended: a refused trial breaks the run, any other is read
  at-trial : (b : Book M) (k : ℕ) (js : List (Judged M)) → (read : ℕ) × ReadFrom b (turned_down k ∷ js) (cond (has_ended b) (stopped b) (broken k)) read
  at-trial b k js = go (has_ended b) refl
    where
      go : (t : Bool) → has_ended b ≡ t → (read : ℕ) × ReadFrom b (turned_down k ∷ js) (cond t (stopped b) (broken k)) read
      go true h = (0, at_bound b (turned_down k ∷ js) h)
      go false h = (0, at-refused b k js h)

  read_on : (b : Book M) (j : Judged M) (js : List (Judged M)) → is_refusal (entered o b j).outcome ≡ false
      → (read : ℕ) × ReadFrom (entered o b j).book js (run_over o (entered o b j).book js) read
      → (read : ℕ) × ReadFrom b (j ∷ js) (cond (has_ended b) (stopped b) (run_over o (entered o b j).book js)) read
  read_on b j js a r = go (has_ended b) refl
    where
      go : (t : Bool) → has_ended b ≡ t → (read : ℕ) × ReadFrom b (j ∷ js) (cond t (stopped b) (run_over o (entered o b j).book js)) read
      go true h = (0, at_bound b (j ∷ js) h)
      go false h = (suc r.0, one_more b j js (run_over o (entered o b j).book js) r.0 h a r.1)

  scored-accepted : (s : Standing M) (before : Held M) → is_refusal (scored_answer s before) ≡ false
  unfolding scored_answer is_refusal
  scored-accepted s before = go (beats s before)
    where
      go : (t : Bool) → is_refusal (cond t (is_won s.count s.rms) (is_held s.count s.rms)) ≡ false
      go true = refl
      go false = refl

  exact_from : (calls : List (Judged M)) (b : Book M) → (read : ℕ) × ReadFrom b calls (run_over o b calls) read
  unfolding run_over entered is_refusal
  exact_from [] b = (0, at_end b)
  exact_from (turned_down k ∷ js) b = at-trial b k js
  exact_from (empty ∷ js) b = read_on b empty js refl (exact_from js (entered o b empty).book)
  exact_from (few count ∷ js) b = read_on b (few count) js refl (exact_from js (entered o b (few count)).book)
  exact_from (scored s ∷ js) b = read_on b (scored s) js (scored-accepted s b.winner) (exact_from js (entered o b (scored s)).book)

pub run_exact : {M : Type 0} → RunExact M
run_exact o calls = let e = exact_from o calls (fresh o) in (e.0, record { inside = e.1.inside; accepted = e.1.accepted; ends = e.1.ends })
